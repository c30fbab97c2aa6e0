use Rattle.std.proofs.Common.{rules, arith, ◌∙◌, ap, length}
use Rattle.std.proofs.lemmas.Grind.{common_steps}
use Rattle.c_ir.specs.Numbers.{count}
use Rattle.c_typing.proofs.Rows.{sites_push}
use Rattle.c_typing.proofs.declaration.values.Goals as goal

pub loop-e-preserved : goal.loop-e-preserved
loop-e-preserved c = record {
  goes = first_of (search rules, grind (arith, common_steps));
  sites = first_of (search rules, grind (arith, common_steps));
  points = first_of (search rules, grind (arith, common_steps));
  cells = first_of (search rules, grind (arith, common_steps));
  numbered_points = first_of (search rules, grind (arith, common_steps));
  numbered_sites =
      rw c.in_ok-push.ensures.ok (sites_push c.loop-e.done c.in_ok-converted.field-0 _ _ c.loop-e.invariant.numbered_sites
      ∙ ap (count (length c.loop-e.walk.found.sites)) c.in_ok-converted.ensures.numbered ∙ c.in_ok-value.ensures.numbered.sites);
}
