use Rattle.std.proofs.Common.{◌≡◌, ◌∙◌, rules, refl, ap, subst, List}
use Rattle.std.specs.Prelude.{IfOk}
use Rattle.c_ir.specs.Props.{Props}
use Rattle.prop_table.specs.Rows.{rows_of}
use Rattle.rte_alarms.proofs.Instances.{said_from}
use Rattle.rte_alarms.proofs.links.call_links.Goals as goal
use Rattle.status_history.specs.declared.history.Entry.{Entry}

pub returns : goal.returns
returns c =
    let p = c.args.program.now in
    let rows : c.rows-rows.result.now ≡ rows_of p = c.rows-rows.ensures.value
    ∙ ap (λ (t : Props). t.rows) c.requires in
    let links : c.as_slice.result.now ≡ c.in_ok-links.links = first_of (search rules, cc) in
    let said = said_from p c.args.version _ _ _ _ _ _ c.keeps.ensures rows c.in_ok-lists.ensures
    c.in_ok-links.ensures links refl c.in_ok-instances.ensures in
    subst (λ (xs : List Entry). IfOk c.entries_of.result (λ es. es ≡ xs)) said c.entries_of.ensures
