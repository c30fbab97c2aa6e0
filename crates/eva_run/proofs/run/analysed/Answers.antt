use Rattle.std.proofs.Common.{◌≡◌, ◌∙◌, List, ap, length, subst}
use Rattle.std.specs.Prelude.{IfOk}
use Rattle.c_ir.specs.Programs.{Program}
use Rattle.c_ir.specs.declared.prop.Prop.{Prop}
use Rattle.status_history.specs.declared.history.Entry.{Entry}
use Rattle.eva_run.specs.Code.{number_by}
use Rattle.eva_run.proofs.Entering.{as_many, records_by, said_by}
use Rattle.eva_run.proofs.run.analysed.Goals as goal

pub returns : goal.returns
returns c =
    let said = said_by c.args.program.now c.args.params.now.values c.args.version c.in_ok-numbers.numbers
    c.rows-rows.result.now c.args.props.now c.len-depth.result c.entry_number-function.result
    c.in_ok-state.state
    c.in_ok-table.table c.function_at.new.table c.requires c.rows-rows.ensures.value c.in_ok-numbers.ensures
    (c.len-depth.ensures ∙ ap (λ (p : Program). length p.fns) c.program.view_is)
    c.entry_number-function.ensures
    c.in_ok-state.ensures c.in_ok-table.ensures c.in_ok-_exits.ensures.1 in
    subst (λ (xs : List Entry). IfOk c.entries_of.result (λ es. es ≡ xs)) said c.entries_of.ensures

pub entries_of-requires : goal.entries_of-requires
entries_of-requires c =
    let records = records_by c.args.program.now c.args.params.now.values (number_by c.in_ok-numbers.numbers)
    c.len-depth.result c.entry_number-function.result c.in_ok-state.state in
    as_many (number_by c.in_ok-numbers.numbers) records c.rows-rows.result.now c.in_ok-table.table
    c.function_at.new.table c.in_ok-table.ensures c.in_ok-_exits.ensures.1
    ∙ ap (λ (rs : List Prop). length rs) c.rows-rows.ensures.value
