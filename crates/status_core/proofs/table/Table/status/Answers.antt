use Rattle.std.proofs.Common.{length, get_or, sym, ap, subst, ◌∙◌, arith}
use Rattle.std.specs.Prelude.{nat_lt, slice_get}
use Rattle.std.proofs.lemmas.Bool.{ltb-true}
use Rattle.event_board.specs.declared.page.PlacedVerdict.{PlacedVerdict}
use Rattle.fc_base.specs.declared.verdict.Verdict.TheVariants.{NeverTried}
use Rattle.param_book.specs.Table.{under}
use Rattle.prop_runs.specs.Numbers.{runs_of}
use Rattle.status_history.specs.Values.{values_now}
use Rattle.status_rules.specs.Counting.{counted_of}
use Rattle.status_rules.specs.Truth.{ExternalRight, IsTrueOf}
use Rattle.status_rules.specs.Verdicts.{full_of}
use Rattle.status_rules.proofs.Each.{length-at_each}
use Rattle.status_core.specs.Held.{Held}
use Rattle.status_core.specs.inner.Rows.{row_of}
use Rattle.status_core.proofs.Answered.{full_row, verdict_true}
use Rattle.status_core.proofs.table.Table.status.Goals as goal

pub bounds-as_slice-prop : goal.bounds-as_slice-prop
bounds-as_slice-prop c =
    let s = c.self.inside in
    let known = ltb-true c.args.prop.0 (length s.props.now.rows) (ap (λ (b : Held). nat_lt c.args.prop.0 (length b.props.rows)) c.self.view_is ∙ c.requires) in
    omega (arith, known, ap length (c.as_slice.ensures ∙ c.self.invariant.rows_are), length-at_each (row_of s.history s.props.now) 0 s.props.now.rows)

pub returns-clause-verdict : goal.returns-clause-verdict
returns-clause-verdict c =
    let s = c.self.inside in
    let known = ltb-true c.args.prop.0 (length s.props.now.rows) (ap (λ (b : Held). nat_lt c.args.prop.0 (length b.props.rows)) c.self.view_is ∙ c.requires) in
    let none : PlacedVerdict = record { verdict = NeverTried; changed = 0 } in
    sym (ap (λ (b : Held). slice_get (full_of b.history b.props) c.args.prop.0) c.self.view_is)
    ∙ full_row s.history s.props.now c.args.prop.0 c.as_slice.result.now none (c.as_slice.ensures ∙ c.self.invariant.rows_are) known

pub returns-clause-true_of_runs : goal.returns-clause-true_of_runs
returns-clause-true_of_runs c =
    let s = c.self.inside in
    let p = c.args.prop.0 in
    let known = ltb-true p (length s.props.now.rows) (ap (λ (b : Held). nat_lt p (length b.props.rows)) c.self.view_is ∙ c.requires) in
    let none : PlacedVerdict = record { verdict = NeverTried; changed = 0 } in
    let v = (get_or c.as_slice.result.now p none).verdict in
    let at = full_row s.history s.props.now p c.as_slice.result.now none (c.as_slice.ensures ∙ c.self.invariant.rows_are) known in
    subst (λ (b : Held). ExternalRight (runs_of b.program) b.history (counted_of b.history) → IsTrueOf (under (runs_of b.program) (values_now b.history)) v p) c.self.view_is
    (verdict_true s.program.now s.props.now s.history p v c.runs_keep_laws.ensures c.keeps.ensures c.both_sorts_are_all.ensures c.verdicts_are_true.ensures c.self.invariant.of_program.props_are c.self.invariant.of_program.own at)
