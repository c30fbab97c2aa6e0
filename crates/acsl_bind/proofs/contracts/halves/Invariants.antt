use Rattle.std.proofs.Common.{◌≡◌, ◌++◌, drop}
use Rattle.c_ir.specs.Bodies.{AtEntry, AtExit}
use Rattle.acsl_terms.specs.Breaches.{least}
use Rattle.acsl_bind.specs.Notes.{clauses_of, clauses_faults, standing}
use Rattle.acsl_bind.proofs.contracts.halves.Given as goal

abbrev pub invariant-loop-one : goal.invariant-loop-one
invariant-loop-one l = record {
  entry : l.entry ++ standing AtEntry (clauses_of l.names l.view (drop l.one-index l.all)) ≡ standing AtEntry (clauses_of l.names l.view l.all);
  exit : l.exit ++ standing AtExit (clauses_of l.names l.view (drop l.one-index l.all)) ≡ standing AtExit (clauses_of l.names l.view l.all);
  first : least l.first (clauses_faults l.names l.view (drop l.one-index l.all)) ≡ least l.fn.first (clauses_faults l.names l.view l.all);
}
