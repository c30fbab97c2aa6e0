use Rattle.std.proofs.Common.{false, ap, ◌∙◌}
use Rattle.std.proofs.lemmas.Int.{to_z-of_z}
use Rattle.int_interval.specs.declared.interval.Interval.TheVariants.{Empty}
use Rattle.int_value.specs.Rows.{all_of, meet_row}
use Rattle.int_value.specs.declared.value.Value.{Value}
use Rattle.abs_cells.proofs.Crossed.{past_below}
use Rattle.eva_terms.proofs.related.below.Goals as goal

pub returns-in-None : goal.returns-in-None
returns-in-None c =
    let fits = c.ranges.end in
    c.meet-in-None.ensures ∙ (ap (λ (v : Value). meet_row v Empty) c.all-in-None.ensures
    ∙ past_below (all_of false) c.args.lo c.args.end c.ranges.lo c.ranges.end
    (simp to_z-of_z at c.in-None.ensures))
