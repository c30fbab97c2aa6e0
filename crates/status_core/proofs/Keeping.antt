-- What a table keeps, after its beginning and after each change.
use Rattle.std.proofs.Common.{◌≡◌, ℕ, ℤ, ◌+◌, ◌<◌, Bool, true, false, cond, List, [], ◌∷◌, ◌++◌, length, get_or, set, refl, sym, ap, subst, ◌∙◌, inl, inr, eqb, arith}
use Rattle.std.specs.Prelude.{◌&&◌, ◌||◌, filter}
use Rattle.std.specs.List.{list_any}
use Rattle.std.specs.Global.{Vec}
use Rattle.std.proofs.lemmas.Bool.{eqb-true, false≢true, or_cases, or_left, or_right}
use Rattle.std.proofs.lemmas.List.{append-nil}
use Rattle.std.proofs.lemmas.List.Elements.{filter-append}
use Rattle.std.proofs.lemmas.List.Folds.{list_any-append}
use Rattle.fc_base.specs.declared.params.ParamSet.{ParamSet}
use Rattle.fc_base.specs.declared.params.ParamValues.{ParamValues}
use Rattle.c_ir.specs.Programs.{Program}
use Rattle.c_ir.specs.Props.{Props}
use Rattle.event_board.specs.Asked.{all_fit}
use Rattle.event_board.specs.declared.page.PlacedVerdict.{PlacedVerdict}
use Rattle.param_book.specs.Emitters.{is_external}
use Rattle.prop_runs.specs.Numbers.{props_of, runs_of}
use Rattle.status_history.specs.Values.{all_values, extended, values_now}
use Rattle.status_history.specs.declared.history.Change.{Change}
use Rattle.status_history.specs.declared.history.Change.TheVariants.{Register, Param, Emit}
use Rattle.status_history.specs.declared.history.Entry.{Entry}
use Rattle.status_history.specs.declared.history.History.{History}
use Rattle.status_rules.specs.Counting.{PlacedEntry, counted_of, current_of, entries_of, is_current, is_rival, last_of_each}
use Rattle.status_rules.specs.Holds.{at_each, basis_of, is_on}
use Rattle.status_rules.specs.Judge.{names_registered}
use Rattle.status_rules.proofs.Each.{list_at_each}
use Rattle.status_rows.specs.Emission.{emitted, next_entry}
use Rattle.status_rows.specs.Index.{AreNoted, Grown, MembersCover, UsersCover, has, listed, names, reached_by}
use Rattle.status_rows.specs.Places.{PlacesAre, with_place}
use Rattle.status_rows.proofs.Noted.{places_settled}
use Rattle.c_ir.specs.declared.prop.Prop.{Prop}
use Rattle.status_rows.proofs.Counted.{last_entry}
use Rattle.status_rows.proofs.Histories.{entries_more, length_more, params_same, sets_same, values_same}
use Rattle.status_rows.proofs.Reach.{reached_covers}
use Rattle.status_core.specs.inner.Kept.{AllNoted, IsKept, IsPast, emits}
use Rattle.status_core.specs.inner.Own.{StaysRight}
use Rattle.status_core.specs.inner.Rows.{first_row, refreshed, row_after, row_anew, row_of}
use Rattle.status_core.proofs.Owned.{emission_stays, none_emitted, quiet_stays}
use Rattle.status_core.proofs.Written.{first_are, rows_all, rows_next}

-- At the beginning.

abbrev opening_of : ParamValues → List Change → History
opening_of o cs = record { opening = o; changes = cs }

pub opened_kept : (p : Program) (t : Props) (o : ParamValues) (cs : List Change) (rows : List PlacedVerdict) (places members users : List (Vec ℕ)) (versions : List ParamValues) (now : ParamValues) (sets : List ParamSet) (taken : List (List ℕ)) → cs ≡ [] → t ≡ props_of p → all_fit t o ≡ true → MembersCover t members → length users ≡ length t.rows → rows ≡ at_each (first_row (opening_of o cs) t) 0 t.rows → PlacesAre cs places (counted_of (opening_of o cs)) t.rows → IsPast (opening_of o cs) versions now sets taken → IsKept p t (opening_of o cs) rows places members users versions now sets taken
opened_kept p t o cs rows places members users versions now sets taken is props fit cover len =
    subst (λ (ds : List Change). rows ≡ at_each (first_row (opening_of o ds) t) 0 t.rows → PlacesAre ds places (counted_of (opening_of o ds)) t.rows → IsPast (opening_of o ds) versions now sets taken → IsKept p t (opening_of o ds) rows places members users versions now sets taken) (sym is)
    (λ written placed past. record {
      of_program = record { props_are = props; few = omega arith; fit = fit; own = tt };
      rows_are = written ∙ first_are (opening_of o []) t refl;
      indexed = record { places_are = placed; members_cover = cover; users_cover = λ q r w found. absurd (false≢true found); users_len = len };
      past = past;
    })

-- After a change that emits nothing.

quiet_entries : (h : History) (c : Change) → emits c ≡ false → entries_of (extended h (c ∷ [])) ≡ entries_of h
quiet_entries h c quiet =
    entries_more 1 h.changes (c ∷ [])
    ∙ (ap (λ (es : List PlacedEntry). entries_of h ++ es) (none_emitted (1 + length h.changes) c quiet) ∙ append-nil (entries_of h))

quiet_kept : (p : Program) (t : Props) (h : History) (c : Change) (rows new : List PlacedVerdict) (places settled members users : List (Vec ℕ)) (versions versions2 : List ParamValues) (now now2 : ParamValues) (sets sets2 : List ParamSet) (taken taken2 : List (List ℕ)) (none : PlacedVerdict) (number : ℕ) → IsKept p t h rows places members users versions now sets taken → length h.changes < 200000 → emits c ≡ false → all_fit t (values_now (extended h (c ∷ []))) ≡ true → number ≡ length h.changes + 1 → new ≡ at_each (row_anew (extended h (c ∷ [])) t number rows none) 0 t.rows → PlacesAre (h.changes ++ c ∷ []) settled (counted_of (extended h (c ∷ []))) t.rows → IsPast (extended h (c ∷ [])) versions2 now2 sets2 taken2 → IsKept p t (extended h (c ∷ [])) new settled members users versions2 now2 sets2 taken2
quiet_kept p t h c rows new places settled members users versions versions2 now now2 sets sets2 taken taken2 none number kept room quiet fit is written placed past = record {
  of_program = record {
    props_are = kept.of_program.props_are;
    few = let more = length_more h.changes c in omega (arith, room, more);
    fit = fit;
    own = quiet_stays (runs_of p) h c quiet kept.of_program.own;
  };
  rows_are = written
      ∙ (ap (λ (xs : List PlacedVerdict). at_each (row_anew (extended h (c ∷ [])) t number xs none) 0 t.rows) kept.rows_are
      ∙ rows_all h t c none number is);
  indexed = record {
    places_are = placed;
    members_cover = kept.indexed.members_cover;
    users_cover = λ q r w found. kept.indexed.users_cover q r w (sym (ap (λ (es : List PlacedEntry). list_any (names r) (filter (is_on q) es)) (quiet_entries h c quiet)) ∙ found);
    users_len = kept.indexed.users_len;
  };
  past = past;
}

pub quiet_next : (p : Program) (t : Props) (h : History) (c : Change) (rows new old : List PlacedVerdict) (places settled members users : List (Vec ℕ)) (versions versions2 : List ParamValues) (now now2 : ParamValues) (sets sets2 : List ParamSet) (taken taken2 : List (List ℕ)) (none : PlacedVerdict) (cs : List Change) → IsKept p t h rows places members users versions now sets taken → length h.changes < 200000 → emits c ≡ false → all_fit t (values_now (extended h (c ∷ []))) ≡ true → cs ≡ h.changes ++ c ∷ [] → old ≡ rows → new ≡ at_each (row_anew (record h { changes = cs }) t (length cs) old none) 0 t.rows → PlacesAre cs settled (counted_of (record h { changes = cs })) t.rows → IsPast (record h { changes = cs }) versions2 now2 sets2 taken2 → IsKept p t (record h { changes = cs }) new settled members users versions2 now2 sets2 taken2
quiet_next p t h c rows new old places settled members users versions versions2 now now2 sets sets2 taken taken2 none cs kept room quiet fit ecs eold =
    subst (λ (ds : List Change). new ≡ at_each (row_anew (record h { changes = ds }) t (length ds) old none) 0 t.rows → PlacesAre ds settled (counted_of (record h { changes = ds })) t.rows → IsPast (record h { changes = ds }) versions2 now2 sets2 taken2 → IsKept p t (record h { changes = ds }) new settled members users versions2 now2 sets2 taken2) (sym ecs)
    (λ written placed past.
    let more = length_more h.changes c in
    quiet_kept p t h c rows new places settled members users versions versions2 now now2 sets sets2 taken taken2 none (length (h.changes ++ c ∷ [])) kept room quiet fit (omega (arith, more))
    (written ∙ ap (λ (xs : List PlacedVerdict). at_each (row_anew (extended h (c ∷ [])) t (length (h.changes ++ c ∷ [])) xs none) 0 t.rows) eold) placed past)

-- After an emission.

any_one : (f : PlacedEntry → Bool) (x : PlacedEntry) (ys xs : List PlacedEntry) (b : Bool) → (list_any f ys ≡ true → list_any f xs ≡ true) → list_any f (cond b (x ∷ ys) ys) ≡ true → (f x || list_any f xs) ≡ true
any_one f x ys xs false rest h = or_right (f x) (list_any f xs) (rest h)
any_one f x ys xs true rest h = elim (or_cases (f x) (list_any f ys) h) [ inl here ↦ or_left (f x) (list_any f xs) here | inr later ↦ or_right (f x) (list_any f xs) (rest later) ]

any_filter : (f test : PlacedEntry → Bool) (xs : List PlacedEntry) → list_any f (filter test xs) ≡ true → list_any f xs ≡ true
any_filter f test [] h = h
any_filter f test (x ∷ xs) h = any_one f x (filter test xs) xs (test x) (any_filter f test xs) h

any_other : (f : PlacedEntry → Bool) (x : PlacedEntry) (ys xs : List PlacedEntry) (b : Bool) → (list_any f ys ≡ true → list_any f xs ≡ true) → list_any f (cond b ys (x ∷ ys)) ≡ true → (f x || list_any f xs) ≡ true
any_other f x ys xs true rest h = or_right (f x) (list_any f xs) (rest h)
any_other f x ys xs false rest h = elim (or_cases (f x) (list_any f ys) h) [ inl here ↦ or_left (f x) (list_any f xs) here | inr later ↦ or_right (f x) (list_any f xs) (rest later) ]

any_last : (f : PlacedEntry → Bool) (xs : List PlacedEntry) → list_any f (last_of_each xs) ≡ true → list_any f xs ≡ true
any_last f [] h = h
any_last f (x ∷ xs) h = any_other f x (last_of_each xs) xs (list_any (is_rival x) xs) (any_last f xs) h

any_cond : (f : PlacedEntry → Bool) (x : PlacedEntry) (ys : List PlacedEntry) (b : Bool) → list_any f (cond b (x ∷ ys) ys) ≡ ((b && f x) || list_any f ys)
any_cond f x ys true = refl
any_cond f x ys false = refl

any_on : (f on : PlacedEntry → Bool) (xs : List PlacedEntry) → list_any f (filter on xs) ≡ list_any (λ x. on x && f x) xs
any_on f on [] = refl
any_on f on (x ∷ xs) = any_cond f x (filter on xs) (on x) ∙ ap (λ b. (on x && f x) || b) (any_on f on xs)

any_counted : (f on : PlacedEntry → Bool) (h : History) → list_any f (filter on (counted_of h)) ≡ true → list_any f (filter on (entries_of h)) ≡ true
unfolding counted_of
any_counted f on h found =
    let both = λ (x : PlacedEntry). on x && f x in
    any_on f on (entries_of h)
    ∙ any_filter both (is_current h) (entries_of h) (any_last both (current_of h) (sym (any_on f on (counted_of h)) ∙ found))

users_cover : (h : History) (t : Props) (users : List (Vec ℕ)) → AllNoted h t users → UsersCover (basis_of h t) users
users_cover h t users noted q r w found =
    let f = λ (p : ℕ). filter (is_on p) (counted_of h) in
    let z : 0 + q ≡ q = omega arith in
    elim (list_at_each f 0 t.rows q) [
      | inl here ↦ noted q r w (any_counted (names r) (is_on q) h (ap (λ (es : List PlacedEntry). list_any (names r) es) (sym (here ∙ ap f z)) ∙ found))
      | inr none ↦ absurd (false≢true (sym (ap (list_any (names r)) none) ∙ found))
    ]

one_named : (r p q : ℕ) (e : PlacedEntry) (b : Bool) → eqb p q ≡ b → list_any (names r) (cond b (e ∷ []) []) ≡ true → (p ≡ q) × (names r e ≡ true)
one_named r p q e true is h = (eqb-true p q is, elim (or_cases (names r e) false h) [ inl here ↦ here | inr none ↦ absurd (false≢true none) ])
one_named r p q e false is h = absurd (false≢true h)

noted_after : (h : History) (t : Props) (e : Entry) (users more : List (Vec ℕ)) → AllNoted h t users → length users ≡ length t.rows → Grown users more → AreNoted e.prop.0 e.hyps users more → AllNoted (emitted h e) t more
noted_after h t e users more noted len grown also q r w found =
    let es = entries_of h in
    let last = next_entry h e in
    let all = entries_more 1 h.changes (Emit e ∷ []) ∙ ap (λ (xs : List PlacedEntry). es ++ xs) (last_entry h e) in
    let parts = sym (ap (λ (xs : List PlacedEntry). list_any (names r) (filter (is_on q) xs)) all ∙ (ap (list_any (names r)) (filter-append (is_on q) es (last ∷ [])) ∙ list_any-append (names r) (filter (is_on q) es) (filter (is_on q) (last ∷ [])))) ∙ found in
    elim (or_cases (list_any (names r) (filter (is_on q) es)) (list_any (names r) (filter (is_on q) (last ∷ []))) parts) [
      | inl before ↦ grown.1 q r (noted q r w before)
      | inr new ↦
          let it = one_named r e.prop.0 q last (eqb e.prop.0 q) refl new in
          subst (λ (p : ℕ). has p (listed more r) ≡ true) it.0 (also r (omega (arith, w, len)) it.1)
    ]

names_more : (cs : List Change) (e : Entry) → names_registered (cs ++ Emit e ∷ []) ≡ names_registered cs
names_more [] e = refl
names_more (Register name s ∷ cs) e = ap (λ (ns : List (List ℕ)). name ∷ ns) (names_more cs e)
names_more (Param n x ∷ cs) e = names_more cs e
names_more (Emit x ∷ cs) e = names_more cs e

past_after : (h : History) (e : Entry) (versions : List ParamValues) (now : ParamValues) (sets : List ParamSet) (taken : List (List ℕ)) → IsPast h versions now sets taken → IsPast (emitted h e) versions now sets taken
past_after h e versions now sets taken past = record {
  versions_are = past.versions_are ∙ sym (ap (λ (ps : List (ℕ × ℤ)). all_values h.opening ps) (params_same h.changes e));
  now_is = past.now_is ∙ sym (values_same h e);
  sets_are = past.sets_are ∙ sym (sets_same h.changes e);
  taken_are = past.taken_are ∙ sym (names_more h.changes e);
}

emission_kept : (p : Program) (t : Props) (h : History) (e : Entry) (d : PlacedVerdict) (rows new : List PlacedVerdict) (places settled members users more : List (Vec ℕ)) (versions : List ParamValues) (now : ParamValues) (sets : List ParamSet) (taken : List (List ℕ)) (reached : List ℕ) (number : ℕ) → IsKept p t h rows places members users versions now sets taken → length h.changes < 200000 → e.prop.0 < length t.rows → (is_external e.emitter ≡ false → StaysRight (runs_of p) h e) → Grown users more → AreNoted e.prop.0 e.hyps users more → reached ≡ reached_by members users e.prop.0 → number ≡ length h.changes + 1 → PlacesAre (h.changes ++ Emit e ∷ []) settled (counted_of (emitted h e)) t.rows → new ≡ refreshed (row_after (emitted h e) t number) d reached rows → IsKept p t (emitted h e) new settled members more versions now sets taken
emission_kept p t h e d rows new places settled members users more versions now sets taken reached number kept room known own grown noted to is placed made = record {
  of_program = record {
    props_are = kept.of_program.props_are;
    few = let one = length_more h.changes (Emit e) in omega (arith, room, one);
    fit = ap (all_fit t) (values_same h e) ∙ kept.of_program.fit;
    own = emission_stays (runs_of p) h e own kept.of_program.own;
  };
  rows_are = made
      ∙ (ap (refreshed (row_after (emitted h e) t number) d reached) kept.rows_are
      ∙ (ap (λ (qs : List ℕ). refreshed (row_after (emitted h e) t number) d qs (at_each (row_of h t) 0 t.rows)) to
      ∙ rows_next h t e d (reached_by members users e.prop.0) number (reached_covers (basis_of h t) members users e.prop.0 known kept.indexed.members_cover (users_cover h t users kept.indexed.users_cover)) is));
  indexed = record {
    places_are = placed;
    members_cover = kept.indexed.members_cover;
    users_cover = noted_after h t e users more kept.indexed.users_cover kept.indexed.users_len grown noted;
    users_len = grown.0 ∙ kept.indexed.users_len;
  };
  past = past_after h e versions now sets taken kept.past;
}

pub emission_next : (p : Program) (t : Props) (h : History) (e : Entry) (d : PlacedVerdict) (rows new : List PlacedVerdict) (places settled members users more : List (Vec ℕ)) (versions : List ParamValues) (now : ParamValues) (sets : List ParamSet) (taken : List (List ℕ)) (reached : List ℕ) (number : ℕ) (cs : List Change) → IsKept p t h rows places members users versions now sets taken → length h.changes < 200000 → e.prop.0 < length t.rows → (is_external e.emitter ≡ false → StaysRight (runs_of p) h e) → Grown users more → AreNoted e.prop.0 e.hyps users more → reached ≡ reached_by members users e.prop.0 → number ≡ length h.changes + 1 → cs ≡ h.changes ++ Emit e ∷ [] → PlacesAre cs settled (counted_of (record h { changes = cs })) t.rows → new ≡ refreshed (row_after (record h { changes = cs }) t number) d reached rows → IsKept p t (record h { changes = cs }) new settled members more versions now sets taken
emission_next p t h e d rows new places settled members users more versions now sets taken reached number cs kept room known own grown noted to is ecs =
    subst (λ (ds : List Change). PlacesAre ds settled (counted_of (record h { changes = ds })) t.rows → new ≡ refreshed (row_after (record h { changes = ds }) t number) d reached rows → IsKept p t (record h { changes = ds }) new settled members more versions now sets taken) (sym ecs)
    (emission_kept p t h e d rows new places settled members users more versions now sets taken reached number kept room known own grown noted to is)

-- where only the users have grown
pub users_grown : (p : Program) (t : Props) (h : History) (rows : List PlacedVerdict) (places members users more : List (Vec ℕ)) (versions : List ParamValues) (now : ParamValues) (sets : List ParamSet) (taken : List (List ℕ)) → IsKept p t h rows places members users versions now sets taken → Grown users more → IsKept p t h rows places members more versions now sets taken
users_grown p t h rows places members users more versions now sets taken kept grown = record {
  of_program = kept.of_program;
  rows_are = kept.rows_are;
  indexed = record {
    places_are = kept.indexed.places_are;
    members_cover = kept.indexed.members_cover;
    users_cover = λ q r w found. grown.1 q r (kept.indexed.users_cover q r w found);
    users_len = grown.0 ∙ kept.indexed.users_len;
  };
  past = kept.past;
}

-- the places and the values after an emission
pub places_next : (h : History) (rows : List Prop) (e : Entry) (lists settled : List (Vec ℕ)) (d v : Vec ℕ) (b : Bool) (cs : List Change) → PlacesAre h.changes lists (counted_of h) rows → is_current h (next_entry h e) ≡ b → v.items ≡ with_place h.changes e.emitter.0 (length h.changes + 1) (get_or lists e.prop.0 d).items → settled ≡ cond b (set lists e.prop.0 v) lists → cs ≡ h.changes ++ Emit e ∷ [] → PlacesAre cs settled (counted_of (record h { changes = cs })) rows
places_next h rows e lists settled d v b cs is current new to ecs =
    subst (λ (ds : List Change). PlacesAre ds settled (counted_of (record h { changes = ds })) rows) (sym ecs) (places_settled h rows e lists settled d v b is current new to)

pub values_next : (h : History) (e : Entry) (values : ParamValues) (cs : List Change) → values ≡ values_now h → cs ≡ h.changes ++ Emit e ∷ [] → values ≡ values_now (record h { changes = cs })
values_next h e values cs is ecs = is ∙ (sym (values_same h e) ∙ sym (ap (λ (ds : List Change). values_now (record h { changes = ds })) ecs))
