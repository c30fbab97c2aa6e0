use Rattle.std.proofs.Common.{Bool, ℕ, ap, ◌∙◌}
use Rattle.fc_base.specs.declared.status.LocalStatus.TheVariants as Status
use Rattle.status_rules.specs.Holds.{is_held, is_supported}
use Rattle.status_rules.specs.Verdicts.{is_refuted, is_unvisited, has_entry, has_said, has_said_false}
use Rattle.status_rules.specs.inner.Consolidated.{basis}
use Rattle.status_rules.specs.inner.Flags.{flag}
use Rattle.status_rules.proofs.Known.{inputs_same}
use Rattle.status_rules.proofs.consolidation.Consolidation.inputs.Goals as goal

pub returns : goal.returns
returns c =
    let s = c.args.self.now in
    let t = s.props.now in
    let b = basis t s.values.now s.entries.now in
    let p = c.args.prop.0 in
    let es = c.entries_on-entries.ensures in
    let proven = is_supported Status.True b in
    let disproven = is_supported Status.FalseIfReachable b in
    let at = λ (f : ℕ → Bool). f p in
    inputs_same _ _ _ _ _ _ _ _ _ _ _ _ _ _ _ _ _ _
    (c.flag.ensures ∙ (ap (λ xs. flag xs p) c.deref.ensures.value ∙ ap at s.admitted_are))
    (c.flag-2.ensures ∙ (ap (λ xs. flag xs p) c.deref-2.ensures.value ∙ ap at s.held_are))
    (c.is_refuted.ensures ∙ (ap (λ f. is_refuted t f (flag s.refuting.items) p) s.disproven_are ∙ ap (λ f. is_refuted t disproven f p) s.refuting_are))
    (c.is_unvisited.ensures ∙ (ap (λ f. is_unvisited t f (flag s.proven.items) (flag s.disproven.items) p) s.held_are ∙ (ap (λ f. is_unvisited t (is_held b) f (flag s.disproven.items) p) s.proven_are ∙ ap (λ f. is_unvisited t (is_held b) proven f p) s.disproven_are)))
    (c.flag-3.ensures ∙ (ap (λ xs. flag xs p) c.deref-3.ensures.value ∙ ap at s.proven_are))
    (c.flag-4.ensures ∙ (ap (λ xs. flag xs p) c.deref-4.ensures.value ∙ ap at s.disproven_are))
    (c.has_entry.ensures ∙ ap has_entry es)
    (c.has_said.ensures ∙ ap (has_said Status.True) es)
    (c.has_said_false.ensures ∙ ap has_said_false es)
