use Rattle.std.proofs.Common.{◌≡◌, drop}
use Rattle.fc_base.specs.declared.status.LocalStatus.TheVariants as Status
use Rattle.status_rules.specs.Holds.{supports, nothing}
use Rattle.status_rows.specs.Places.{any_at}
use Rattle.status_rows.proofs.reading.any_plain.Given as goal

abbrev pub invariant-loop-place : goal.invariant-loop-place
invariant-loop-place l = any_at (supports Status.True nothing) l.fn.changes (drop l.place-index l.fn.places) ≡ any_at (supports Status.True nothing) l.fn.changes l.fn.places
