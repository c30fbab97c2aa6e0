use Rattle.std.proofs.Common.{◌≡◌, drop, take, []}
use Rattle.status_rules.specs.Holds.{basis_of}
use Rattle.support_cert.specs.inner.Checked.{all_fit}
use Rattle.support_cert.proofs.scan.Scan.is_certificate.Given as goal

abbrev pub invariant-loop-place : goal.invariant-loop-place
invariant-loop-place l =
    let b = basis_of l.self.history.now l.self.props.now in
    all_fit b (take l.place l.steps) (drop l.place l.steps) ≡ all_fit b [] l.steps
