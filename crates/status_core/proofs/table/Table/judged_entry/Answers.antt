use Rattle.std.proofs.Common.{ap, ◌∙◌, sym}
use Rattle.std.specs.Prelude.{◌∷◌, None, Ok, Result, Some}
use Rattle.event_board.specs.inner.Table.{entry_rows_by, unknown_by}
use Rattle.status_rules.specs.Judge.{first_of, reserved_emitter}
use Rattle.status_rules.specs.declared.refusals.Placed.{Placed}
use Rattle.status_rules.specs.declared.refusals.Refusal.{Refusal}
use Rattle.status_core.specs.Held.{Held}
use Rattle.status_core.proofs.Answered.{entry_judged}
use Rattle.status_core.proofs.table.Table.judged_entry.Goals as goal

pub returns-in-Some-clause-value : goal.returns-in-Some-clause-value
returns-in-Some-clause-value c =
    let v = c.args.self.now in
    let e = c.args.entry.now in
    let s = c.standing-standing.result in
    let rows = ap (λ (b : Held). first_of (unknown_by s e ∷ reserved_emitter e ∷ entry_rows_by b.props s e)) c.self.view_is in
    entry_judged v.props v.history e s (Some c.in-Some.why) (sym c.in-Some.is ∙ (c.refused_entry.ensures.value ∙ rows)) c.standing-standing.ensures.value

pub returns-in-None-clause-value : goal.returns-in-None-clause-value
returns-in-None-clause-value c =
    let v = c.args.self.now in
    let e = c.args.entry.now in
    let s = c.standing-standing.result in
    let rows = ap (λ (b : Held). first_of (unknown_by s e ∷ reserved_emitter e ∷ entry_rows_by b.props s e)) c.self.view_is in
    ap (λ (p : Placed). let r : Result Placed Refusal = Ok p in r) c.placed.ensures
    ∙ entry_judged v.props v.history e s None (sym c.in-None.is ∙ (c.refused_entry.ensures.value ∙ rows)) c.standing-standing.ensures.value
