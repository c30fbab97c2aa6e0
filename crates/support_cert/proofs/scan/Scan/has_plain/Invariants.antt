use Rattle.std.proofs.Common.{◌≡◌, drop}
use Rattle.std.specs.Prelude.{◌&&◌}
use Rattle.std.specs.List.{list_any}
use Rattle.status_rules.specs.declared.steps.Step.{Step}
use Rattle.status_rules.specs.Holds.{basis_of}
use Rattle.status_rules.specs.Support.{is_of, is_plain}
use Rattle.support_cert.proofs.scan.Scan.has_plain.Given as goal

abbrev pub invariant-loop-step : goal.invariant-loop-step
invariant-loop-step l =
    let test = λ (s : Step). is_of l.prop.0 s && is_plain (basis_of l.self.history.now l.self.props.now) l.steps s.prop.0 s.reason in
    list_any test (drop l.step-index l.steps) ≡ list_any test l.steps
