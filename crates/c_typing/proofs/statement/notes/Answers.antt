use Rattle.std.proofs.Common.{rules, arith}
use Rattle.std.proofs.lemmas.Grind.{common_steps}
use Rattle.c_typing.proofs.Noting.{noted, note_points, note_sites}
use Rattle.c_typing.proofs.statement.notes.Goals as goal

pub loop-at-preserved : goal.loop-at-preserved
loop-at-preserved c = record {
  goes = noted _ _ c.args.all.now c.loop-at.at-index _ c.loop-at.done _ _ c.loop-at.walk _ _ _ (search rules) c.in_ok-push.ensures.ok c.in_ok-note_waiting.ensures.value c.loop-at.invariant.goes;
  sites = first_of (search rules, grind (arith, common_steps));
  points = first_of (search rules, grind (arith, common_steps));
  cells = first_of (search rules, grind (arith, common_steps));
  numbered_points = note_points _ _ _ _ _ _ c.in_ok-push.ensures.ok c.loop-at.invariant.numbered_points c.in_ok-note_waiting.ensures.numbered.points;
  numbered_sites = note_sites _ _ _ _ _ _ c.in_ok-push.ensures.ok c.loop-at.invariant.numbered_sites c.in_ok-note_waiting.ensures.numbered.sites;
}
