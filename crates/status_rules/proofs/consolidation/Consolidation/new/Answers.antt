use Rattle.std.proofs.Common.{refl, ap, ◌∙◌}
use Rattle.fc_base.specs.declared.status.LocalStatus.TheVariants as Status
use Rattle.status_rules.specs.Holds.{is_admitted, is_sure, is_claimed, is_supported, nothing}
use Rattle.status_rules.specs.inner.Consolidated.{basis}
use Rattle.status_rules.specs.inner.Flags.{flag}
use Rattle.status_rules.proofs.Known.{admitted_are, claimed_are, extended_are}
use Rattle.status_rules.proofs.consolidation.Consolidation.new.Goals as goal

pub invariant_of-result : goal.invariant_of-result
invariant_of-result c =
    let t = c.args.props.now in
    let b = basis t c.args.values.now c.args.entries.now in
    let admitted = admitted_are b c.in_ok-admitted.admitted.items c.in_ok-admitted.ensures in
    let plain = claimed_are Status.True nothing nothing b c.in_ok-plain.plain.items refl c.in_ok-plain.ensures in
    let sure = extended_are t _ _ (is_admitted b) (is_claimed Status.True nothing b) c.in_ok-sure.sure.items (ap flag c.deref.ensures.value ∙ admitted) (ap flag c.deref-2.ensures.value ∙ plain) c.in_ok-sure.ensures in
    let proven = claimed_are Status.True _ (is_sure b) b c.in_ok-proven.proven.items (ap flag c.deref-3.ensures.value ∙ sure) c.in_ok-proven.ensures in
    let disproven = claimed_are Status.FalseIfReachable _ (is_sure b) b c.in_ok-disproven.disproven.items (ap flag c.deref-4.ensures.value ∙ sure) c.in_ok-disproven.ensures in
    let refuting = claimed_are Status.FalseAndReachable _ (is_sure b) b c.in_ok-refuting.refuting.items (ap flag c.deref-5.ensures.value ∙ sure) c.in_ok-refuting.ensures in
    let held = extended_are t _ _ (is_sure b) (is_supported Status.True b) c.in_ok-held.held.items (ap flag c.deref-6.ensures.value ∙ sure) (ap flag c.deref-7.ensures.value ∙ proven) c.in_ok-held.ensures in
    record {
      rows = c.requires;
      admitted_are = admitted;
      held_are = held;
      proven_are = proven;
      disproven_are = disproven;
      refuting_are = refuting;
    }
