use Rattle.std.proofs.Common.{◌≡◌, drop}
use Rattle.acsl_read.specs.Classes.{leads_to_forall}
use Rattle.acsl_read.proofs.class.leads_to_forall.Given as goal

abbrev pub invariant-loop-token : goal.invariant-loop-token
invariant-loop-token l = leads_to_forall l.bytes (drop l.token-index l.tokens) ≡ leads_to_forall l.bytes l.tokens
