use Rattle.std.proofs.Common.{◌≡◌, drop}
use Rattle.status_rules.specs.Holds.{basis_of}
use Rattle.status_rules.specs.Support.{has_bare}
use Rattle.support_cert.proofs.scan.Scan.has_bare.Given as goal

abbrev pub invariant-loop-step : goal.invariant-loop-step
invariant-loop-step l =
    has_bare (basis_of l.self.history.now l.self.props.now) (drop l.step-index l.steps) l.prop.0 ≡ has_bare (basis_of l.self.history.now l.self.props.now) l.steps l.prop.0
