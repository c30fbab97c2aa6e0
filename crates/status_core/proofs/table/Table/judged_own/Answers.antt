use Rattle.std.proofs.Common.{ap, ◌∙◌, sym}
use Rattle.std.specs.Prelude.{None, Ok, Result, Some}
use Rattle.prop_runs.specs.Numbers.{runs_of}
use Rattle.status_rules.specs.declared.refusals.Placed.{Placed}
use Rattle.status_rules.specs.declared.refusals.Refusal.{Refusal}
use Rattle.status_core.proofs.Answered.{own_judged}
use Rattle.status_core.proofs.table.Table.judged_own.Goals as goal

pub returns-in-Some-clause-value : goal.returns-in-Some-clause-value
returns-in-Some-clause-value c =
    let v = c.args.self.now in
    own_judged v.props v.history (runs_of v.program) c.args.entry.now c.standing-standing.result (Some c.in-Some.why) c.requires (sym c.in-Some.is ∙ c.if_full.ensures.value) c.standing-standing.ensures.value

pub returns-in-None-clause-value : goal.returns-in-None-clause-value
returns-in-None-clause-value c =
    let v = c.args.self.now in
    ap (λ (p : Placed). let r : Result Placed Refusal = Ok p in r) c.placed.ensures
    ∙ own_judged v.props v.history (runs_of v.program) c.args.entry.now c.standing-standing.result None c.requires (sym c.in-None.is ∙ c.if_full.ensures.value) c.standing-standing.ensures.value
