use Rattle.std.proofs.Common.{◌≡◌, drop}
use Rattle.std.specs.List.{list_all}
use Rattle.fc_base.specs.declared.ids.PropId.{PropId}
use Rattle.status_rules.specs.inner.Flags.{flag}
use Rattle.status_rules.proofs.flags.all_known.Given as goal

abbrev pub invariant-loop-hyp : goal.invariant-loop-hyp
invariant-loop-hyp l = list_all (λ (q : PropId). flag l.known q.0) (drop l.hyp-index l.hyps) ≡ list_all (λ (q : PropId). flag l.known q.0) l.hyps
