use Rattle.std.proofs.Common.{◌≡◌, ◌∙◌, rules, length, ap, subst, List}
use Rattle.std.specs.Prelude.{IfOk}
use Rattle.c_ir.specs.Programs.{Program}
use Rattle.c_ir.specs.Props.{Props}
use Rattle.prop_table.specs.Rows.{rows_of}
use Rattle.rte_alarms.specs.Ranges.{open_checks}
use Rattle.rte_alarms.proofs.Alarms.{said_from}
use Rattle.rte_alarms.proofs.decided.type_decided.Goals as goal
use Rattle.status_history.specs.declared.history.Entry.{Entry}

pub returns : goal.returns
returns c =
    let p = c.args.program.now in
    let keys : c.len.result ≡ length p.sites = c.len.ensures
    ∙ ap (λ (v : Program). length v.sites) c.program.view_is in
    let checks : c.as_slice.result.now ≡ open_checks p = first_of (search rules, cc) in
    let rows : c.rows.result.now ≡ rows_of p = c.rows.ensures.value ∙ ap (λ (t : Props). t.rows) c.requires in
    let said = said_from p _ c.args.version c.len.result c.as_slice.result.now c.rows.result.now
    c.keeps.ensures keys checks rows c.in_ok-by_site.ensures in
    subst (λ (xs : List Entry). IfOk c.entries_of.result (λ es. es ≡ xs)) said c.entries_of.ensures
