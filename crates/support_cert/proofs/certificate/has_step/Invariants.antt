use Rattle.std.proofs.Common.{◌≡◌, drop}
use Rattle.status_rules.specs.Support.{has_step}
use Rattle.support_cert.proofs.certificate.has_step.Given as goal

abbrev pub invariant-loop-step : goal.invariant-loop-step
invariant-loop-step l = has_step (drop l.step-index l.steps) l.prop.0 ≡ has_step l.steps l.prop.0
