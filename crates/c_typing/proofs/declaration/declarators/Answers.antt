use Rattle.std.proofs.Common.{rules, arith}
use Rattle.std.proofs.lemmas.Grind.{common_steps}
use Rattle.c_ir.specs.Numbers.{points_of, stmt_sites}
use Rattle.c_typing.proofs.Numbering.{pushed}
use Rattle.c_typing.proofs.declaration.declarators.Goals as goal

pub loop-d-preserved : goal.loop-d-preserved
loop-d-preserved c = record {
  goes = first_of (search rules, grind (arith, common_steps));
  kept = first_of (search rules, grind (arith, common_steps));
  sites = first_of (search rules, grind (arith, common_steps));
  points = first_of (search rules, grind (arith, common_steps));
  cells = first_of (search rules, grind (arith, common_steps));
  numbered_points = pushed points_of _ _ _ _ _ _ c.in_ok-push.ensures.ok c.loop-d.invariant.numbered_points c.in_ok-declarator.ensures.numbered.points;
  numbered_sites = pushed stmt_sites _ _ _ _ _ _ c.in_ok-push.ensures.ok c.loop-d.invariant.numbered_sites c.in_ok-declarator.ensures.numbered.sites;
}
