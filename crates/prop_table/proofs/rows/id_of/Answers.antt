use Rattle.std.proofs.Common.{◌≡◌, ◌∙◌, arith, List, None, Some, length, refl, ap, sym}
use Rattle.std.specs.Prelude.{slice_get}
use Rattle.std.specs.Option.{option_copied}
use Rattle.std.proofs.lemmas.Option.{slice_get_read}
use Rattle.c_ir.specs.Programs.{Program}
use Rattle.c_ir.specs.declared.tree.Fun.{Fun}
use Rattle.prop_table.proofs.Owning.{entry_owned}
use Rattle.prop_table.proofs.rows.id_of.Goals as goal

pub unreachable-requires : goal.unreachable-requires
unreachable-requires c =
    let p = c.args.program.now in
    let n = c.args.number in
    let fs = c.as_slice-fns.result.now in
    let f = c.index-fns-number.result in
    let fns : fs ≡ p.fns = c.as_slice-fns.ensures ∙ ap (λ (v : Program). v.fns) c.program.view_is in
    let read = slice_get_read fs (length fs) n f refl (omega (arith, c.requires, ap length fns)) c.index-fns-number.is in
    entry_owned p n f None c.keeps.ensures (ap (λ (gs : List Fun). slice_get gs n) (sym fns) ∙ read)
    (sym (ap (λ (v : Program). slice_get v.points f.entry.0) c.program.view_is) ∙ sym c.get.ensures.value ∙ ap option_copied c.in-None.is)

pub returns : goal.returns
returns c =
    let p = c.args.program.now in
    let n = c.args.number in
    let fs = c.as_slice-fns.result.now in
    let f = c.index-fns-number.result in
    let fns : fs ≡ p.fns = c.as_slice-fns.ensures ∙ ap (λ (v : Program). v.fns) c.program.view_is in
    let read = slice_get_read fs (length fs) n f refl (omega (arith, c.requires, ap length fns)) c.index-fns-number.is in
    entry_owned p n f (Some c.in-Some.info.now) c.keeps.ensures (ap (λ (gs : List Fun). slice_get gs n) (sym fns) ∙ read)
    (sym (ap (λ (v : Program). slice_get v.points f.entry.0) c.program.view_is) ∙ sym c.get.ensures.value ∙ ap option_copied c.in-Some.is)
