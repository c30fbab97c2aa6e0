use Rattle.std.proofs.Common.{◌≡◌, ◌∙◌, sym, ap, Some}
use Rattle.std.specs.Option.{option_copied}
use Rattle.std.specs.Prelude.{slice_get}
use Rattle.std.proofs.lemmas.Result.{on_ok_weaker}
use Rattle.c_ir.specs.Programs.{Program}
use Rattle.prop_table.proofs.Numbering.{Adds-append}
use Rattle.prop_table.proofs.state.Rows.push_site.Goals as goal

pub returns-in_ok-push_check-in-Some : goal.returns-in_ok-push_check-in-Some
returns-in_ok-push_check-in-Some c =
    let found : slice_get c.args.program.now.sites c.args.site ≡ Some c.in-Some.info.now =
    sym (ap (λ (v : Program). slice_get v.sites c.args.site) c.program.view_is) ∙ sym c.get.ensures.value ∙ ap option_copied c.in-Some.is in
    rw found (on_ok_weaker _ (λ h. Adds-append _ _ _ _ _ _ c.in_ok-push_check-in-Some.ensures h) c.push_check-in-Some.ensures)
