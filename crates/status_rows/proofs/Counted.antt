-- The entries that count after an emission.
use Rattle.std.proofs.Common.{◌≡◌, ◌≢◌, ℕ, ℤ, zero, suc, ◌+◌, Bool, true, false, cond, List, [], ◌∷◌, ◌++◌, length, take, refl, sym, ap, subst, ◌∙◌, inl, inr, eqb, arith}
use Rattle.std.specs.Prelude.{◌&&◌, ◌||◌, not, filter, slice_get, slice_index_or, unwrap_or}
use Rattle.std.specs.List.{list_any}
use Rattle.std.proofs.lemmas.Bool.{cases_Bool, and_parts, eqb-true, eqb-false, eq-eqb, ne_eqb, true≢false}
use Rattle.std.proofs.lemmas.List.{append-nil}
use Rattle.std.proofs.lemmas.List.Elements.{filter-append}
use Rattle.std.proofs.lemmas.List.Folds.{list_any-append}
use Rattle.fc_base.specs.declared.params.ParamSet.{ParamSet}
use Rattle.param_book.specs.Agreement.{agree_on}
use Rattle.param_book.specs.Table.{entry_function, run_values}
use Rattle.c_ir.specs.declared.prop.Prop.{Prop}
use Rattle.status_history.specs.declared.history.Change.TheVariants.{Emit}
use Rattle.status_history.specs.declared.history.Entry.{Entry}
use Rattle.status_history.specs.declared.history.History.{History}
use Rattle.status_history.specs.Values.{changed_by, params_set}
use Rattle.status_rules.specs.Counting.{PlacedEntry, counted_of, current_of, entries_from, entries_of, is_current, is_rival, is_same_emitter, last_of_each, sets_of}
use Rattle.status_rules.specs.Holds.{at_each, basis_of, is_on}
use Rattle.status_rows.specs.Emission.{EmissionCounts, EmissionKeeps, emitted, next_entry, with_last}
use Rattle.status_rows.proofs.Histories.{entries_more, params_same, sets_same, values_same}
use Rattle.status_rows.proofs.Unreached.{unreached}

eqb_swap : (a b : ℕ) → eqb a b ≡ eqb b a
eqb_swap a b = elim (cases_Bool (eqb a b)) [
  | inl h ↦ h ∙ sym (eq-eqb b a (sym (eqb-true a b h)))
  | inr h ↦ h ∙ sym (ne_eqb b a (λ e. eqb-false a b h (sym e)))
]

-- an emission changes no parameter and no emitter, so what was current stays so
pub current_same : (h : History) (e : Entry) → is_current (emitted h e) ≡ is_current h
current_same h e =
    let by = λ (sets : List ParamSet) (params : List (ℕ × ℤ)) (x : PlacedEntry). agree_on (unwrap_or (slice_get sets x.entry.emitter.0) (record { 0 = 0 })) (changed_by h.opening (take x.entry.version params)) (changed_by h.opening (take (length params) params)) in
    ap (λ (sets : List ParamSet). by sets (params_set (h.changes ++ Emit e ∷ []))) (sets_same h.changes e) ∙ ap (by (sets_of h.changes)) (params_same h.changes e)

pub last_entry : (h : History) (e : Entry) → entries_from (1 + length h.changes) (Emit e ∷ []) ≡ next_entry h e ∷ []
last_entry h e = let s : 1 + length h.changes ≡ length h.changes + 1 = omega arith in ap (λ k. entries_from k (Emit e ∷ [])) s

current_more : (h : History) (e : Entry) → current_of (emitted h e) ≡ current_of h ++ cond (is_current h (next_entry h e)) (next_entry h e ∷ []) []
current_more h e =
    ap (λ f. filter f (entries_of (emitted h e))) (current_same h e)
    ∙ (ap (filter (is_current h)) (entries_more 1 h.changes (Emit e ∷ []) ∙ ap (λ es. entries_of h ++ es) (last_entry h e))
    ∙ filter-append (is_current h) (entries_of h) (next_entry h e ∷ []))

filter_front : (q : ℕ) (x : PlacedEntry) (ls : List PlacedEntry) (b : Bool) → filter (is_on q) (cond b ls (x ∷ ls)) ≡ cond b (filter (is_on q) ls) (cond (is_on q x) (x ∷ filter (is_on q) ls) (filter (is_on q) ls))
filter_front q x ls true = refl
filter_front q x ls false = refl

-- the last of each, with one more at the end, on one property
front_more : (q : ℕ) (e x : PlacedEntry) (xs : List PlacedEntry) → filter (is_on q) (last_of_each (x ∷ xs ++ e ∷ [])) ≡ cond (list_any (is_rival x) xs || (is_rival x e || false)) (filter (is_on q) (last_of_each (xs ++ e ∷ []))) (cond (is_on q x) (x ∷ filter (is_on q) (last_of_each (xs ++ e ∷ []))) (filter (is_on q) (last_of_each (xs ++ e ∷ []))))
front_more q e x xs = filter_front q x (last_of_each (xs ++ e ∷ [])) (list_any (is_rival x) (xs ++ e ∷ [])) ∙ ap (λ b. cond b (filter (is_on q) (last_of_each (xs ++ e ∷ []))) (cond (is_on q x) (x ∷ filter (is_on q) (last_of_each (xs ++ e ∷ []))) (filter (is_on q) (last_of_each (xs ++ e ∷ []))))) (list_any-append (is_rival x) xs (e ∷ []))

else_step : (b r s : Bool) (x : PlacedEntry) (ls ms : List PlacedEntry) → (r ≡ true → s ≡ false) → ls ≡ ms → cond (b || (r || false)) ls (cond s (x ∷ ls) ls) ≡ cond b ms (cond s (x ∷ ms) ms)
else_step true r s x ls ms apart same = same
else_step false true true x ls ms apart same = absurd (true≢false (apart refl))
else_step false true false x ls ms apart same = same
else_step false false true x ls ms apart same = ap (λ ys. x ∷ ys) same
else_step false false false x ls ms apart same = same

pub on_other : (q : ℕ) (e : PlacedEntry) (xs : List PlacedEntry) → q ≢ e.entry.prop.0 → filter (is_on q) (last_of_each (xs ++ e ∷ [])) ≡ filter (is_on q) (last_of_each xs)
on_other q e [] ne = ap (λ b. cond b (e ∷ []) []) (ne_eqb e.entry.prop.0 q (λ same. ne (sym same)))
on_other q e (x ∷ xs) ne =
    front_more q e x xs
    ∙ (else_step (list_any (is_rival x) xs) (is_rival x e) (is_on q x) x _ _ (λ rival. ne_eqb x.entry.prop.0 q (λ same. ne (sym same ∙ sym (eqb-true e.entry.prop.0 x.entry.prop.0 (and_parts (eqb e.entry.prop.0 x.entry.prop.0) (eqb e.entry.emitter.0 x.entry.emitter.0) rival).0)))) (on_other q e xs ne)
    ∙ sym (filter_front q x (last_of_each xs) (list_any (is_rival x) xs)))

here_step : (b s m : Bool) (k : PlacedEntry → Bool) (x e : PlacedEntry) (ls ms : List PlacedEntry) → k x ≡ not m → ls ≡ filter k ms ++ e ∷ [] → cond (b || ((s && m) || false)) ls (cond s (x ∷ ls) ls) ≡ filter k (cond b ms (cond s (x ∷ ms) ms)) ++ e ∷ []
here_step true s m k x e ls ms test same = same
here_step false false m k x e ls ms test same = same
here_step false true true k x e ls ms test same = same ∙ sym (ap (λ b. cond b (x ∷ filter k ms) (filter k ms) ++ e ∷ []) test)
here_step false true false k x e ls ms test same = ap (λ ys. x ∷ ys) same ∙ sym (ap (λ b. cond b (x ∷ filter k ms) (filter k ms) ++ e ∷ []) test)

pub on_same : (e : PlacedEntry) (xs : List PlacedEntry) → filter (is_on e.entry.prop.0) (last_of_each (xs ++ e ∷ [])) ≡ with_last e (filter (is_on e.entry.prop.0) (last_of_each xs))
on_same e [] = ap (λ b. cond b (e ∷ []) []) (eq-eqb e.entry.prop.0 e.entry.prop.0 refl)
on_same e (x ∷ xs) =
    let q = e.entry.prop.0 in
    let ls = filter (is_on q) (last_of_each (xs ++ e ∷ [])) in
    let b = list_any (is_rival x) xs in
    front_more q e x xs
    ∙ (ap (λ r. cond (b || ((r && eqb e.entry.emitter.0 x.entry.emitter.0) || false)) ls (cond (is_on q x) (x ∷ ls) ls)) (eqb_swap q x.entry.prop.0)
    ∙ (ap (λ r. cond (b || ((is_on q x && r) || false)) ls (cond (is_on q x) (x ∷ ls) ls)) (eqb_swap e.entry.emitter.0 x.entry.emitter.0)
    ∙ (here_step b (is_on q x) (is_same_emitter e x) (λ y. not (is_same_emitter e y)) x e ls (filter (is_on q) (last_of_each xs)) refl (on_same e xs)
    ∙ sym (ap (λ ys. with_last e ys) (filter_front q x (last_of_each xs) b)))))

at_property : (q : ℕ) (e : PlacedEntry) (xs : List PlacedEntry) (c s : Bool) → eqb e.entry.prop.0 q ≡ s → filter (is_on q) (last_of_each (xs ++ cond c (e ∷ []) [])) ≡ cond (c && s) (with_last e (filter (is_on q) (last_of_each xs))) (filter (is_on q) (last_of_each xs))
at_property q e xs false s is = ap (λ ys. filter (is_on q) (last_of_each ys)) (append-nil xs)
at_property q e xs true true is =
    subst (λ (p : ℕ). filter (is_on p) (last_of_each (xs ++ e ∷ [])) ≡ with_last e (filter (is_on p) (last_of_each xs))) (eqb-true e.entry.prop.0 q is) (on_same e xs)
at_property q e xs true false is = on_other q e xs (λ same. eqb-false e.entry.prop.0 q is (sym same))

pub emission_counts : EmissionCounts
unfolding counted_of
emission_counts h e q =
    ap (λ es. filter (is_on q) (last_of_each es)) (current_more h e)
    ∙ at_property q (next_entry h e) (current_of h) (is_current h (next_entry h e)) (eqb e.prop.0 q) refl

pub no_choice : (c s : Bool) (xs ys : List PlacedEntry) → s ≡ false → cond (c && s) xs ys ≡ ys
no_choice true s xs ys is = ap (λ b. cond b xs ys) is
no_choice false s xs ys is = refl

pub counts_elsewhere : (h : History) (e : Entry) (q : ℕ) → q ≢ e.prop.0 → filter (is_on q) (counted_of (emitted h e)) ≡ filter (is_on q) (counted_of h)
counts_elsewhere h e q ne = emission_counts h e q ∙ no_choice (is_current h (next_entry h e)) (eqb e.prop.0 q) _ _ (ne_eqb e.prop.0 q (λ same. ne (sym same)))

lists_same : (f g : ℕ → List PlacedEntry) (n : ℕ) (rows : List Prop) (q : ℕ) → f (n + q) ≡ g (n + q) → slice_index_or (at_each f n rows) q [] ≡ slice_index_or (at_each g n rows) q []
lists_same f g n [] q is = refl
lists_same f g n (r ∷ rows) zero is = let e : n + 0 ≡ n = omega arith in sym (ap f e) ∙ (is ∙ ap g e)
lists_same f g n (r ∷ rows) (suc q) is = let e : n + 1 + q ≡ n + suc q = omega arith in lists_same f g (n + 1) rows q (ap f e ∙ (is ∙ sym (ap g e)))

pub emission_keeps : EmissionKeeps
emission_keeps h t e q off =
    unreached (basis_of h t) (basis_of (emitted h e) t) e.prop.0 q (record {
      same_table = refl;
      same_entry = ap (λ v. entry_function (run_values v)) (values_same h e);
      elsewhere = λ r ne. lists_same (λ p. filter (is_on p) (counted_of (emitted h e))) (λ p. filter (is_on p) (counted_of h)) 0 t.rows r (let z : 0 + r ≡ r = omega arith in ap (λ p. filter (is_on p) (counted_of (emitted h e))) z ∙ (counts_elsewhere h e r ne ∙ sym (ap (λ p. filter (is_on p) (counted_of h)) z)));
    }) off
