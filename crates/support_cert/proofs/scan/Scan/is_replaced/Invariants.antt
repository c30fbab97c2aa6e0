use Rattle.std.proofs.Common.{◌≡◌, drop}
use Rattle.support_cert.specs.inner.Scanned.{is_replaced}
use Rattle.support_cert.proofs.scan.Scan.is_replaced.Given as goal

abbrev pub invariant-loop-change : goal.invariant-loop-change
invariant-loop-change l =
    is_replaced l.self.history.now l.entry (drop l.change-index l.later) ≡ is_replaced l.self.history.now l.entry l.later
