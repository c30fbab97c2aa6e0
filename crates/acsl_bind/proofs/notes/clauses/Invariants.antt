use Rattle.std.proofs.Common.{◌≡◌, ◌++◌, drop}
use Rattle.acsl_terms.specs.Breaches.{least}
use Rattle.acsl_bind.specs.Notes.{stand_at, clauses_of, clauses_faults, standing}
use Rattle.acsl_bind.proofs.notes.clauses.Given as goal

abbrev pub invariant-loop-one : goal.invariant-loop-one
invariant-loop-one l = record {
  value : l.made ++ standing (stand_at l.at) (clauses_of l.names l.view (drop l.one-index l.all)) ≡ standing (stand_at l.at) (clauses_of l.names l.view l.all);
  first : least l.first (clauses_faults l.names l.view (drop l.one-index l.all)) ≡ least l.fn.first (clauses_faults l.names l.view l.all);
}
