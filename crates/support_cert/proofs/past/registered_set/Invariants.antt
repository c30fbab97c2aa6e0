use Rattle.std.proofs.Common.{◌≡◌, drop}
use Rattle.std.specs.Prelude.{slice_get}
use Rattle.status_history.specs.Values.{sets_registered}
use Rattle.support_cert.specs.inner.Scanned.{nth_set}
use Rattle.support_cert.proofs.past.registered_set.Given as goal

abbrev pub invariant-loop-change : goal.invariant-loop-change
invariant-loop-change l =
    nth_set l.search.found l.search.left (sets_registered (drop l.change-index l.changes)) ≡ slice_get (sets_registered l.changes) l.number
