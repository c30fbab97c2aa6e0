use Rattle.std.proofs.Common.{◌≡◌, ◌<◌, length}
use Rattle.c_ast.specs.declared.annot.AnnotKind.TheVariants as A
use Rattle.acsl_read.specs.Table.{Contract, ContractClauses}
use Rattle.acsl_read.specs.inner.Outcome.{read}
use Rattle.acsl_read.specs.inner.Lists.{clauses_after}
use Rattle.acsl_read.proofs.note.contract_at.Given as goal

abbrev pub invariant-adding : goal.invariant-adding
invariant-adding l = record {
  read : read l.bytes Contract l.depth l.tokens ≡ clauses_after A.Contract l.at l.clauses (read l.bytes ContractClauses l.depth l.rest);
  shorter : length l.rest < length l.tokens;
}

abbrev pub decreases-adding : goal.decreases-adding
decreases-adding l = length l.rest
