use Rattle.std.proofs.Common.{length, sym, ap, subst, ◌∙◌, arith}
use Rattle.event_board.specs.Asked.{all_fit}
use Rattle.event_board.specs.declared.page.PlacedVerdict.{PlacedVerdict}
use Rattle.fc_base.specs.declared.verdict.Verdict.TheVariants.{NeverTried}
use Rattle.status_history.specs.Values.{extended, values_now}
use Rattle.status_history.specs.declared.history.History.{History}
use Rattle.status_rules.proofs.Each.{length-at_each}
use Rattle.std.specs.Prelude.{[], ◌∷◌}
use Rattle.status_core.specs.Held.{Held}
use Rattle.status_core.specs.inner.Kept.{IsKept}
use Rattle.status_core.specs.inner.Rows.{row_of}
use Rattle.status_core.proofs.Keeping.{quiet_next}
use Rattle.status_core.proofs.table.Table.append.Goals as goal

pub again-requires-clause-lengths : goal.again-requires-clause-lengths
again-requires-clause-lengths c =
    let s = c.self.inside in
    ap length (c.as_slice.ensures ∙ c.self.invariant.rows_are) ∙ length-at_each (row_of s.history s.props.now) 0 s.props.now.rows

pub invariant_of-self-in-Ok-again : goal.invariant_of-self-in-Ok-again
invariant_of-self-in-Ok-again c =
    let s = c.self.inside in
    let f = c.in-Ok-again.found in
    let none : PlacedVerdict = record { verdict = NeverTried; changed = 0 } in
    quiet_next s.program.now s.props.now s.history c.args.change s.rows f.rows c.as_slice.result.now s.places.items f.places.items s.members.items s.users.items s.past.versions.items f.past.versions.items s.past.now f.past.now s.past.sets.items f.past.sets.items s.past.taken f.past.taken none c.push.new.self
    c.self.invariant (omega (arith, ap (λ (b : Held). length b.history.changes) c.self.view_is, c.requires.room)) c.requires.quiet
    (ap (λ (b : Held). all_fit b.props (values_now (extended b.history (c.args.change ∷ [])))) c.self.view_is ∙ c.requires.fit)
    c.in-Ok.ensures.ok c.as_slice.ensures (c.in-Ok-again.ensures.rows none) c.in-Ok-again.ensures.places c.in-Ok-again.ensures.past

pub invariant_of-self-in-Err-again : goal.invariant_of-self-in-Err-again
invariant_of-self-in-Err-again c =
    let s = c.self.inside in
    subst (λ (h : History). IsKept s.program.now s.props.now h s.rows s.places.items s.members.items s.users.items s.past.versions.items s.past.now s.past.sets.items s.past.taken) (sym (c.take_back.ensures s.history.changes c.args.change c.in-Ok.ensures.ok)) c.self.invariant
