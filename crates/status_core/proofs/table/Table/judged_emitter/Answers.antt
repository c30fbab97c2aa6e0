use Rattle.std.proofs.Common.{ap, ◌∙◌, sym}
use Rattle.std.specs.Prelude.{None, Ok, Result, Some}
use Rattle.status_rules.specs.declared.refusals.Placed.{Placed}
use Rattle.status_rules.specs.declared.refusals.Refusal.{Refusal}
use Rattle.status_core.proofs.Answered.{emitter_judged, standing_named}
use Rattle.status_core.proofs.table.Table.judged_emitter.Goals as goal

pub returns-in-Some-clause-value : goal.returns-in-Some-clause-value
returns-in-Some-clause-value c =
    let v = c.args.self.now in
    emitter_judged v.props v.history c.args.name.now c.args.correctness c.standing-standing.result (Some c.in-Some.why) (sym c.in-Some.is ∙ c.refused_emitter.ensures.value)
    (standing_named v.history c.args.name.now c.args.correctness c.standing-standing.result c.is_taken.result c.standing-standing.ensures.value c.is_taken.ensures)

pub returns-in-None-clause-value : goal.returns-in-None-clause-value
returns-in-None-clause-value c =
    let v = c.args.self.now in
    ap (λ (p : Placed). let r : Result Placed Refusal = Ok p in r) c.placed.ensures
    ∙ emitter_judged v.props v.history c.args.name.now c.args.correctness c.standing-standing.result None (sym c.in-None.is ∙ c.refused_emitter.ensures.value)
    (standing_named v.history c.args.name.now c.args.correctness c.standing-standing.result c.is_taken.result c.standing-standing.ensures.value c.is_taken.ensures)
