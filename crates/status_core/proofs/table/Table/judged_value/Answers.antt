use Rattle.std.proofs.Common.{ap, ◌∙◌, sym}
use Rattle.std.proofs.lemmas.Int.{to_z-of_z}
use Rattle.std.specs.Prelude.{[], ◌∷◌, None, Ok, Result, Some}
use Rattle.event_board.specs.inner.Table.{full_by}
use Rattle.status_rules.specs.Judge.{first_of, value_out_of_range}
use Rattle.status_rules.specs.declared.refusals.Placed.{Placed}
use Rattle.status_rules.specs.declared.refusals.Refusal.{Refusal}
use Rattle.status_core.specs.Held.{Held}
use Rattle.status_core.proofs.Answered.{value_judged}
use Rattle.status_core.proofs.table.Table.judged_value.Goals as goal

pub returns-in-Some-clause-value : goal.returns-in-Some-clause-value
returns-in-Some-clause-value c =
    let v = c.args.self.now in
    let fits = c.ranges.value in
    let refused = simp to_z-of_z at c.refused_value.ensures.value in
    let rows = ap (λ (b : Held). first_of (value_out_of_range b.props c.args.no c.args.value ∷ full_by c.standing-standing.result ∷ [])) c.self.view_is in
    value_judged v.props v.history c.args.no c.args.value c.standing-standing.result (Some c.in-Some.why) (sym c.in-Some.is ∙ (refused ∙ rows)) c.standing-standing.ensures.value

pub returns-in-None-clause-value : goal.returns-in-None-clause-value
returns-in-None-clause-value c =
    let v = c.args.self.now in
    let fits = c.ranges.value in
    let refused = simp to_z-of_z at c.refused_value.ensures.value in
    let rows = ap (λ (b : Held). first_of (value_out_of_range b.props c.args.no c.args.value ∷ full_by c.standing-standing.result ∷ [])) c.self.view_is in
    ap (λ (p : Placed). let r : Result Placed Refusal = Ok p in r) c.placed_setting.ensures
    ∙ value_judged v.props v.history c.args.no c.args.value c.standing-standing.result None (sym c.in-None.is ∙ (refused ∙ rows)) c.standing-standing.ensures.value
