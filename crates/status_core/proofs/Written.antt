-- Rows written anew.
use Rattle.std.proofs.Common.{◌≡◌, ◌≢◌, ℕ, zero, suc, ◌+◌, ◌<◌, ◌≤◌, Bool, true, false, cond, List, [], ◌∷◌, ◌++◌, drop, length, take, get_or, set, refl, sym, ap, ◌∙◌, inl, inr, eqb, arith}
use Rattle.std.specs.Prelude.{◌||◌}
use Rattle.std.proofs.lemmas.Bool.{cases_Bool, eq-eqb, ne_eqb, both_ways, false_from_ne_true}
use denote.Enum.Bare.{sameb, same_false}
use Rattle.fc_base.specs.contracts.verdict.Verdict.{the_type}
use Rattle.fc_base.specs.declared.verdict.Verdict.{Verdict}
use Rattle.c_ir.specs.Props.{Props}
use Rattle.event_board.specs.Numbered.{rows_from}
use Rattle.event_board.specs.declared.page.PlacedVerdict.{PlacedVerdict}
use Rattle.status_history.specs.Values.{extended}
use Rattle.status_history.specs.declared.history.Change.{Change}
use Rattle.status_history.specs.declared.history.Change.TheVariants.{Emit}
use Rattle.status_history.specs.declared.history.Entry.{Entry}
use Rattle.status_history.specs.declared.history.History.{History}
use Rattle.status_rules.specs.Changed.{changed_of, last_change, prefix_of}
use Rattle.status_rules.specs.Fetch.{Row, rows_of}
use Rattle.status_rules.specs.Fetch.{row_of as fetch_row}
use Rattle.status_rules.specs.Holds.{at_each, basis_of}
use Rattle.status_rules.specs.Verdicts.{verdict_of}
use Rattle.status_rules.proofs.Each.{get_or-at_each, set-at_each}
use Rattle.status_rows.specs.Emission.{emitted}
use Rattle.status_rows.specs.Index.{has}
use Rattle.status_rows.specs.Reached.{is_reached}
use Rattle.status_rows.proofs.Counted.{emission_keeps}
use Rattle.status_rows.proofs.Histories.{each_same, length_more}
use Rattle.status_core.specs.inner.Rows.{first_row, next_row, refreshed, row_after, row_anew, row_of}

take_all : {A : Type 0} (xs : List A) (k : ℕ) → length xs ≤ k → take k xs ≡ xs
take_all [] zero h = refl
take_all [] (suc k) h = refl
take_all (x ∷ xs) zero h = absurd (omega arith)
take_all {A} (x ∷ xs) (suc k) h = ap (λ (ys : List A). x ∷ ys) (take_all xs k (omega arith))

take_front : {A : Type 0} (xs ys : List A) (k : ℕ) → k ≤ length xs → take k (xs ++ ys) ≡ take k xs
take_front xs ys zero h = refl
take_front [] ys (suc k) h = absurd (omega arith)
take_front {A} (x ∷ xs) ys (suc k) h = ap (λ (zs : List A). x ∷ zs) (take_front xs ys k (omega arith))

itself : (v : Verdict) → sameb the_type v v ≡ true
itself v = elim (cases_Bool (sameb the_type v v)) [ inl h ↦ h | inr h ↦ absurd (same_false the_type v v h refl) ]

last_same : (f g : ℕ → Verdict) (n : ℕ) → ((k : ℕ) → k ≤ n → f k ≡ g k) → last_change f n ≡ last_change g n
last_same f g zero alike = refl
last_same f g (suc n) alike =
    ap (λ (x : Verdict). cond (sameb the_type x (f n)) (last_change f n) (suc n)) (alike (suc n) (omega arith))
    ∙ (ap (λ (x : Verdict). cond (sameb the_type (g (suc n)) x) (last_change f n) (suc n)) (alike n (omega arith))
    ∙ ap (λ (x : ℕ). cond (sameb the_type (g (suc n)) (g n)) x (suc n)) (last_same f g n (λ k h. alike k (omega arith))))

abbrev verdicts : History → Props → ℕ → ℕ → Verdict
verdicts h t p k = verdict_of (basis_of (prefix_of h k) t) p

-- the last change of a property's verdict after one more change
pub changed_next : (h : History) (t : Props) (c : Change) (p : ℕ) → changed_of (extended h (c ∷ [])) t p ≡ cond (sameb the_type (verdict_of (basis_of (extended h (c ∷ [])) t) p) (verdict_of (basis_of h t) p)) (changed_of h t p) (suc (length h.changes))
unfolding changed_of
changed_next h t c p =
    let n = length h.changes in
    let g = extended h (c ∷ []) in
    let at = λ (cs : List Change). verdict_of (basis_of (record h { changes = cs }) t) p in
    ap (last_change (verdicts g t p)) (length_more h.changes c)
    ∙ (ap (λ (x : Verdict). cond (sameb the_type x (verdicts g t p n)) (last_change (verdicts g t p) n) (suc n)) (ap at (take_all g.changes (suc n) (omega (arith, length_more h.changes c))))
    ∙ (ap (λ (x : Verdict). cond (sameb the_type (at g.changes) x) (last_change (verdicts g t p) n) (suc n)) (ap at (take_front h.changes (c ∷ []) n (omega arith) ∙ take_all h.changes n (omega arith)))
    ∙ ap (λ (x : ℕ). cond (sameb the_type (at g.changes) (at h.changes)) x (suc n)) (last_same (verdicts g t p) (verdicts h t p) n (λ k within. ap at (take_front h.changes (c ∷ []) k within)))))

-- where there is no change
changed_first : (h : History) (t : Props) (p : ℕ) → h.changes ≡ [] → changed_of h t p ≡ 0
unfolding changed_of
changed_first h t p is = ap (λ (cs : List Change). last_change (verdicts h t p) (length cs)) is

pub first_are : (h : History) (t : Props) → h.changes ≡ [] → at_each (first_row h t) 0 t.rows ≡ at_each (row_of h t) 0 t.rows
first_are h t is = each_same (first_row h t) (row_of h t) 0 t.rows (λ i w. sym (ap (λ (n : ℕ). let r : PlacedVerdict = record { verdict = verdict_of (basis_of h t) (0 + i); changed = n } in r) (changed_first h t (0 + i) is)))

pub row_is : {B : Type 0} (f : ℕ → B) (t : Props) (i : ℕ) (d : B) → i < length t.rows → get_or (at_each f 0 t.rows) i d ≡ f i
row_is f t i d h = let e : 0 + i ≡ i = omega arith in get_or-at_each f 0 t.rows i d h ∙ ap f e

drop_one : (xs : List ℕ) (i : ℕ) (d : ℕ) → i < length xs → drop i xs ≡ get_or xs i d ∷ drop (i + 1) xs
drop_one [] i d h = absurd (omega arith)
drop_one (x ∷ xs) zero d h = refl
drop_one (x ∷ xs) (suc i) d h = let e : suc i + 1 ≡ suc (i + 1) = omega arith in drop_one xs i d (omega arith) ∙ ap (λ n. get_or xs i d ∷ drop n (x ∷ xs)) (sym e)

pub drop_all : {A : Type 0} (xs : List A) (i : ℕ) → length xs ≤ i → drop i xs ≡ []
drop_all [] zero h = refl
drop_all [] (suc i) h = refl
drop_all (x ∷ xs) zero h = absurd (omega arith)
drop_all (x ∷ xs) (suc i) h = drop_all xs i (omega arith)

pub refreshed_more : (f : ℕ → PlacedVerdict → PlacedVerdict) (d : PlacedVerdict) (qs : List ℕ) (i n : ℕ) (rows new : List PlacedVerdict) → i < length qs → new ≡ set rows (get_or qs i n) (f (get_or qs i n) (get_or rows (get_or qs i n) d)) → refreshed f d (drop (i + 1) qs) new ≡ refreshed f d (drop i qs) rows
refreshed_more f d qs i n rows new h is = ap (refreshed f d (drop (i + 1) qs)) is ∙ sym (ap (λ xs. refreshed f d xs rows) (drop_one qs i n h))

picked : {A : Type 0} (b : Bool) (f : A → A) (o n : A) → f o ≡ n → f n ≡ n → f (cond b n o) ≡ n
picked true f o n first again = again
picked false f o n first again = first

pick_new : {A : Type 0} (b c : Bool) (o n : A) → c ≡ false → ((b || c) ≡ false → o ≡ n) → cond b n o ≡ n
pick_new true c o n is rest = refl
pick_new false c o n is rest = rest is

-- all rows are new, where those that aren't written anew stay
refreshed_all : {B : Type 0} (f : ℕ → PlacedVerdict → PlacedVerdict) (d : PlacedVerdict) (qs : List ℕ) (rows : List B) (old new : ℕ → PlacedVerdict) → ((q : ℕ) → f q (old q) ≡ new q) → ((q : ℕ) → f q (new q) ≡ new q) → ((q : ℕ) → has q qs ≡ false → old q ≡ new q) → refreshed f d qs (at_each old 0 rows) ≡ at_each new 0 rows
refreshed_all f d [] rows old new first again rest = each_same old new 0 rows (λ i h. rest (0 + i) refl)
refreshed_all f d (q ∷ qs) rows old new first again rest =
    let mid = λ (r : ℕ). cond (eqb q r) (new r) (old r) in
    let e : 0 + q ≡ q = omega arith in
    let here = λ (h : q < length rows). ap (f q) (get_or-at_each old 0 rows q d h ∙ ap old e) ∙ (first q ∙ (sym (ap (λ b. cond b (new q) (old q)) (eq-eqb q q refl)) ∙ ap mid (sym e))) in
    let else_same = λ (r : ℕ) (ne : r ≢ 0 + q). sym (ap (λ b. cond b (new r) (old r)) (ne_eqb q r (λ is. ne (sym is ∙ sym e)))) in
    ap (refreshed f d qs) (set-at_each old mid 0 rows q _ here else_same)
    ∙ refreshed_all f d qs rows mid new
    (λ r. picked (eqb q r) (f r) (old r) (new r) (first r) (again r))
    again
    (λ r off. pick_new (eqb q r) (has r qs) (old r) (new r) off (rest r))

-- after an emission it is enough to write those rows anew that are reached from its property
pub rows_next : (h : History) (t : Props) (e : Entry) (d : PlacedVerdict) (qs : List ℕ) (number : ℕ) → ((q : ℕ) → is_reached (basis_of h t) e.prop.0 q ≡ true → has q qs ≡ true) → number ≡ length h.changes + 1 → refreshed (row_after (emitted h e) t number) d qs (at_each (row_of h t) 0 t.rows) ≡ at_each (row_of (emitted h e) t) 0 t.rows
rows_next h t e d qs number covers is =
    let g = emitted h e in
    let new = λ (q : ℕ). verdict_of (basis_of g t) q in
    let old = λ (q : ℕ). verdict_of (basis_of h t) q in
    let last : number ≡ suc (length h.changes) = omega (arith, is) in
    let row = λ (q n : ℕ). let r : PlacedVerdict = record { verdict = new q; changed = n } in r in
    refreshed_all (row_after g t number) d qs t.rows (row_of h t) (row_of g t)
    (λ q. ap (row q) (ap (cond (sameb the_type (new q) (old q)) (changed_of h t q)) last ∙ sym (changed_next h t (Emit e) q)))
    (λ q. ap (λ b. row q (cond b (changed_of g t q) number)) (itself (new q)))
    (λ q off.
    let unreached = false_from_ne_true (is_reached (basis_of h t) e.prop.0 q) (λ met. both_ways (has q qs) off (covers q met)) in
    let stays = emission_keeps h t e q unreached in
    let changed = changed_next h t (Emit e) q ∙ (ap (λ (v : Verdict). cond (sameb the_type v (old q)) (changed_of h t q) (suc (length h.changes))) stays ∙ ap (λ b. cond b (changed_of h t q) (suc (length h.changes))) (itself (old q))) in
    sym (ap (row q) changed ∙ ap (λ (v : Verdict). let r : PlacedVerdict = record { verdict = v; changed = changed_of h t q } in r) stays))

-- after any change it is enough to write all rows anew
pub rows_all : (h : History) (t : Props) (c : Change) (none : PlacedVerdict) (number : ℕ) → number ≡ length h.changes + 1 → at_each (row_anew (extended h (c ∷ [])) t number (at_each (row_of h t) 0 t.rows) none) 0 t.rows ≡ at_each (row_of (extended h (c ∷ [])) t) 0 t.rows
rows_all h t c none number is =
    let g = extended h (c ∷ []) in
    let new = λ (q : ℕ). verdict_of (basis_of g t) q in
    let old = λ (q : ℕ). verdict_of (basis_of h t) q in
    let last : number ≡ suc (length h.changes) = omega (arith, is) in
    let row = λ (q n : ℕ). let r : PlacedVerdict = record { verdict = new q; changed = n } in r in
    let at = λ (q : ℕ) (w : q < length t.rows).
    ap (next_row number (new q)) (row_is (row_of h t) t q none w)
    ∙ ap (row q) (ap (cond (sameb the_type (new q) (old q)) (changed_of h t q)) last ∙ sym (changed_next h t c q)) in
    each_same _ _ 0 t.rows (λ i w. let e : 0 + i ≡ i = omega arith in ap (row_anew g t number (at_each (row_of h t) 0 t.rows) none) e ∙ (at i w ∙ ap (row_of g t) (sym e)))

-- rows by their numbers are those of a fetch
numbered : {A : Type 0} (h : History) (t : Props) (n : ℕ) (rows : List A) → rows_from n (at_each (row_of h t) n rows) ≡ at_each (fetch_row h t) n rows
numbered h t n [] = refl
numbered h t n (r ∷ rows) = ap (λ (rs : List Row). fetch_row h t n ∷ rs) (numbered h t (n + 1) rows)

pub fetch_rows : (h : History) (t : Props) → rows_from 0 (at_each (row_of h t) 0 t.rows) ≡ rows_of h t
unfolding rows_of
fetch_rows h t = numbered h t 0 t.rows
