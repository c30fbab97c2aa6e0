use Rattle.std.proofs.Common.{◌∙◌, ◌≤◌, ℕ, List, subst, sym, ap, ◌++◌, length, lit<}
use Rattle.std.specs.Prelude.{codes}
use Rattle.std.specs.Fmt.{decimal}
use Rattle.prop_table.proofs.Names.{length-name_text}
use Rattle.prop_table.specs.Rows.{name_text}
use Rattle.prop_table.proofs.rows.name_of.Goals as goal

pub new-requires : goal.new-requires
unfolding name_text
new-requires c = (
  lit< tt,
  subst (λ (text : List ℕ). length text ≤ 512) (sym (c.as_str-2.ensures.value ∙ c.in_ok-text.ensures.ok
      ∙ ap (λ (f : List ℕ). f ++ (codes "@" ++ (decimal c.args.point ++ (codes "/" ++ (c.text.result.now ++ (codes "/" ++ decimal c.args.count)))))) c.as_str.ensures.value
      ∙ ap (λ (t : List ℕ). c.args.function.now ++ (codes "@" ++ (decimal c.args.point ++ (codes "/" ++ (t ++ (codes "/" ++ decimal c.args.count)))))) c.text.ensures))
      (length-name_text c.args.function.now c.args.kind c.args.point c.args.count c.as_str.ensures.bound c.ranges.point.fits c.ranges.count.fits),
)
