use Rattle.std.proofs.Common.{◌≡◌, ◌<◌, length}
use Rattle.c_ast.specs.declared.annot.AnnotKind.TheVariants as A
use Rattle.acsl_read.specs.Table.{LoopNote, LoopClauses}
use Rattle.acsl_read.specs.inner.Outcome.{read}
use Rattle.acsl_read.specs.inner.Lists.{clauses_after}
use Rattle.acsl_read.proofs.note.loop_note_at.Given as goal

abbrev pub invariant-adding : goal.invariant-adding
invariant-adding l = record {
  read : read l.bytes LoopNote l.depth l.tokens ≡ clauses_after A.LoopNote l.at l.clauses (read l.bytes LoopClauses l.depth l.rest);
  shorter : length l.rest < length l.tokens;
}

abbrev pub decreases-adding : goal.decreases-adding
decreases-adding l = length l.rest
