use Rattle.std.proofs.Common.{◌<◌, length, [], map, set, sym, ap, ◌∙◌}
use Rattle.std.proofs.lemmas.List.{map-set, get_or-map}
use Rattle.std.specs.Global.{Vec}
use Rattle.status_rules.specs.declared.counting.CountedEntry.{CountedEntry}
use Rattle.status_rules.specs.inner.ByProp.{placed, with_entry}
use Rattle.status_rules.proofs.by_prop.note_at.Goals as goal

pub returns-in_ok-note : goal.returns-in_ok-note
returns-in_ok-note c =
    let view = λ (b : Vec CountedEntry). map placed b.items in
    let items = c.args.lists.now.items in
    let e = placed c.args.found in
    let p = e.entry.prop.0 in
    let list = c.in-Some.list.now in
    let within : p < length items = c.in-Some.ensures.item.3.0 in
    let before = ap view c.in-Some.ensures.value ∙ sym (get_or-map view items p list [] within) in
    map-set view items p c.note.new.list ∙ ap (set (map view items) p) (c.in_ok-note.ensures ∙ ap (with_entry e) before)
