use Rattle.std.proofs.Common.{◌≡◌, ◌∙◌, List, Some, Err, refl, ap, subst, sym}
use Rattle.c_ir.specs.Programs.{Program}
use Rattle.c_ir.specs.declared.tree.Fun.{Fun}
use Rattle.prop_table.specs.Tables.{Tables}
use Rattle.prop_table.specs.declared.fault.TableFault.{TableFault}
use Rattle.prop_table.specs.declared.fault.TableFault.TheVariants.{TooManyProps}
use Rattle.kernel_serve.specs.Stages.{entry_from}
use Rattle.kernel_serve.proofs.Fronted.{few, too_many}
use Rattle.kernel_serve.proofs.front.enter.Goals as goal

pub returns-in-Ok-table : goal.returns-in-Ok-table
returns-in-Ok-table c =
    let name = c.args.name.now in
    let p = c.args.program in
    let entry = c.in-Some.entry in
    let fns : c.as_slice-fns.result.now ≡ p.fns =
    c.as_slice-fns.ensures ∙ ap (λ (v : Program). v.fns) c.program.view_is in
    let is : entry_from name 0 p.fns ≡ Some entry =
    subst (λ (fs : List Fun). entry_from name 0 fs ≡ Some entry) fns (sym c.in-Some.ensures) in
    few name p (record { program = p; props = c.in-Ok-table.props; entry = entry }) is c.in-Ok-table.ensures refl

pub returns-in-Err-TooManyProps : goal.returns-in-Err-TooManyProps
returns-in-Err-TooManyProps c =
    let name = c.args.name.now in
    let p = c.args.program in
    let entry = c.in-Some.entry in
    let fns : c.as_slice-fns.result.now ≡ p.fns =
    c.as_slice-fns.ensures ∙ ap (λ (v : Program). v.fns) c.program.view_is in
    let is : entry_from name 0 p.fns ≡ Some entry =
    subst (λ (fs : List Fun). entry_from name 0 fs ≡ Some entry) fns (sym c.in-Some.ensures) in
    let many : Tables p (Err (TooManyProps c.in-Err-TooManyProps.count)) =
    subst (λ (f : TableFault). Tables p (Err f)) c.in-Err-TooManyProps.field-0-is c.in-Err-TooManyProps.ensures in
    too_many name p entry c.in-Err-TooManyProps.count is many
