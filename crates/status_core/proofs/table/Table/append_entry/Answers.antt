use Rattle.std.proofs.Common.{◌≡◌, ◌<◌, ◌+◌, ◌++◌, ◌∷◌, [], ℕ, List, false, length, sym, ap, subst, ◌∙◌, arith}
use Rattle.std.specs.Prelude.{nat_lt}
use Rattle.std.specs.Global.{Vec}
use Rattle.std.proofs.lemmas.Bool.{ltb-true}
use Rattle.event_board.specs.declared.page.PlacedVerdict.{PlacedVerdict}
use Rattle.fc_base.specs.declared.ids.PropId.{PropId}
use Rattle.fc_base.specs.declared.verdict.Verdict.TheVariants.{NeverTried}
use Rattle.param_book.specs.Emitters.{is_external}
use Rattle.prop_runs.specs.Numbers.{runs_of}
use Rattle.status_history.specs.declared.history.Change.{Change}
use Rattle.status_history.specs.declared.history.Change.TheVariants.{Emit}
use Rattle.status_history.specs.declared.history.Entry.{Entry}
use Rattle.status_rules.specs.Counting.{counted_of}
use Rattle.status_rules.proofs.Each.{length-at_each}
use Rattle.status_rows.specs.Index.{AreNoted, reached_by}
use Rattle.status_rows.specs.Places.{with_place}
use Rattle.status_rows.proofs.Placed.{length_places}
use Rattle.status_core.specs.Held.{Held}
use Rattle.status_core.specs.inner.Kept.{IsKept}
use Rattle.status_core.specs.inner.Own.{StaysRight}
use Rattle.status_core.specs.inner.Rows.{row_of}
use Rattle.status_core.proofs.Keeping.{emission_next, places_next, users_grown, values_next}
use Rattle.status_core.proofs.table.Table.append_entry.Goals as goal

pub index-requires : goal.index-requires
index-requires c =
    let s = c.self.inside in
    let e = c.args.entry.now in
    let known = ltb-true e.prop.0 (length s.props.now.rows) (ap (λ (b : Held). nat_lt e.prop.0 (length b.props.rows)) c.self.view_is ∙ c.requires.known) in
    omega (arith, s.places.ok.0, length_places s.history.changes s.places.items (counted_of s.history) s.props.now.rows c.self.invariant.indexed.places_are, known)

pub invariant_of-self-in-Err : goal.invariant_of-self-in-Err
invariant_of-self-in-Err c =
    let s = c.self.inside in
    subst (λ (cs : List Change). IsKept s.program.now s.props.now (record s.history { changes = cs }) s.rows s.places.items s.members.items c.note_users.new.users.items s.past.versions.items s.past.now s.past.sets.items s.past.taken) (sym c.in-Err.ensures.err)
    (users_grown s.program.now s.props.now s.history s.rows s.places.items s.members.items s.users.items c.note_users.new.users.items s.past.versions.items s.past.now s.past.sets.items s.past.taken c.self.invariant c.note_users.ensures.grown)

pub settle-requires : goal.settle-requires
settle-requires c =
    let s = c.self.inside in
    let e = c.args.entry.now in
    let known = ltb-true e.prop.0 (length s.props.now.rows) (ap (λ (b : Held). nat_lt e.prop.0 (length b.props.rows)) c.self.view_is ∙ c.requires.known) in
    omega (arith, length_places s.history.changes s.places.items (counted_of s.history) s.props.now.rows c.self.invariant.indexed.places_are, known)

pub refresh_rows-requires-clause-places : goal.refresh_rows-requires-clause-places
refresh_rows-requires-clause-places c =
    let s = c.self.inside in
    let e = c.args.entry.now in
    let h = s.history in
    let p = s.past in
    let held = c.as_slice-2.ensures.value ∙ ap (λ (v : Vec ℕ). v.items) c.index.ensures in
    let place = ap (λ n. n + 1) c.len-place.ensures in
    let list = c.in_ok-list.ensures ∙ (ap (λ cs. with_place cs e.emitter.0 (c.len-place.result + 1) c.as_slice-2.result.now) c.as_slice.ensures ∙ (ap (λ n. with_place h.changes e.emitter.0 n c.as_slice-2.result.now) place ∙ ap (with_place h.changes e.emitter.0 (length h.changes + 1)) held)) in
    let ecs = c.in-Ok.ensures.ok ∙ ap (λ (x : Entry). h.changes ++ Emit x ∷ []) c.in_ok-copy.ensures in
    places_next h s.props.now.rows e s.places.items c.deref-3.result.now c.index.result.now c.in_ok-list.list c.is_current-current.result c.push.new.self c.self.invariant.indexed.places_are (sym (c.is_current-current.ensures h (length h.changes + 1) c.self.invariant.past)) list (c.deref-3.ensures.value ∙ c.settle.ensures) ecs

pub refresh_rows-requires-clause-values : goal.refresh_rows-requires-clause-values
refresh_rows-requires-clause-values c =
    let s = c.self.inside in
    let ecs = c.in-Ok.ensures.ok ∙ ap (λ (x : Entry). s.history.changes ++ Emit x ∷ []) c.in_ok-copy.ensures in
    values_next s.history c.args.entry.now s.past.now c.push.new.self c.self.invariant.past.now_is ecs

pub refresh_rows-requires-clause-rows : goal.refresh_rows-requires-clause-rows
refresh_rows-requires-clause-rows c =
    let s = c.self.inside in
    ap length c.self.invariant.rows_are ∙ length-at_each (row_of s.history s.props.now) 0 s.props.now.rows

pub invariant_of-self-2 : goal.invariant_of-self-2
invariant_of-self-2 c =
    let s = c.self.inside in
    let e = c.args.entry.now in
    let h = s.history in
    let p = s.past in
    let none : PlacedVerdict = record { verdict = NeverTried; changed = 0 } in
    let held = c.as_slice-2.ensures.value ∙ ap (λ (v : Vec ℕ). v.items) c.index.ensures in
    let place = ap (λ n. n + 1) c.len-place.ensures in
    let list = c.in_ok-list.ensures ∙ (ap (λ cs. with_place cs e.emitter.0 (c.len-place.result + 1) c.as_slice-2.result.now) c.as_slice.ensures ∙ (ap (λ n. with_place h.changes e.emitter.0 n c.as_slice-2.result.now) place ∙ ap (with_place h.changes e.emitter.0 (length h.changes + 1)) held)) in
    let ecs = c.in-Ok.ensures.ok ∙ ap (λ (x : Entry). h.changes ++ Emit x ∷ []) c.in_ok-copy.ensures in
    let placed = places_next h s.props.now.rows e s.places.items c.settle.new.places.items c.index.result.now c.in_ok-list.list c.is_current-current.result c.push.new.self c.self.invariant.indexed.places_are (sym (c.is_current-current.ensures h (length h.changes + 1) c.self.invariant.past)) list c.settle.ensures ecs in
    let room : length h.changes < 200000 = omega (arith, ap (λ (b : Held). length b.history.changes) c.self.view_is, c.requires.room) in
    let known = ltb-true e.prop.0 (length s.props.now.rows) (ap (λ (b : Held). nat_lt e.prop.0 (length b.props.rows)) c.self.view_is ∙ c.requires.known) in
    let own = subst (λ (b : Held). is_external e.emitter ≡ false → StaysRight (runs_of b.program) b.history e) (sym c.self.view_is) c.requires.own in
    let reached = c.deref-4.ensures.value ∙ (c.in_ok-reached.ensures ∙ (ap (λ ms. reached_by ms c.deref-2.result.now e.prop.0) c.deref.ensures.value ∙ ap (λ us. reached_by s.members.items us e.prop.0) c.deref-2.ensures.value)) in
    let noted = subst (λ (hs : List PropId). AreNoted e.prop.0 hs s.users.items c.note_users.new.users.items) c.as_slice-3.ensures c.in_ok-note_users.ensures.noted in
    emission_next s.program.now s.props.now h e none s.rows c.refresh_rows.new.rows s.places.items c.settle.new.places.items s.members.items s.users.items c.note_users.new.users.items p.versions.items p.now p.sets.items p.taken c.deref-4.result.now (c.len-place.result + 1) c.push.new.self
    c.self.invariant room known own c.note_users.ensures.grown noted reached place ecs placed (c.refresh_rows.ensures none)
