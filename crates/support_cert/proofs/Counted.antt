-- The entry at a place, if it counts.
use Rattle.std.proofs.Common.{◌≡◌, ℕ, zero, suc, ◌+◌, ◌-◌, ◌<◌, ◌≤◌, Bool, true, false, cond, List, [], ◌∷◌, length, drop, Option, Some, None, refl, sym, ap, ◌∙◌, inl, inr, eqb, arith}
use Rattle.std.specs.Prelude.{not, nat_le, ◌&&◌, ◌||◌, filter, slice_get, slice_index_or}
use Rattle.std.specs.List.{list_any, list_all}
use Rattle.std.specs.Option.{option_and_then}
use Rattle.std.proofs.lemmas.Bool.{and_parts, and_from, not_from_false, cases_Bool, eq-eqb, ne_eqb, le-leb, ltb-true, ltb-false, false≢true}
use Rattle.fc_base.specs.declared.ids.PropId.{PropId}
use Rattle.fc_base.specs.declared.status.LocalStatus.TheVariants as Status
use Rattle.c_ir.specs.Props.{Props}
use Rattle.c_ir.specs.Table.{dead_of, is_live, is_row}
use Rattle.status_history.specs.declared.history.Change.{Change}
use Rattle.status_history.specs.declared.history.Change.TheVariants.{Register, Param, Emit}
use Rattle.status_history.specs.declared.history.Entry.{Entry}
use Rattle.status_history.specs.declared.history.History.{History}
use Rattle.status_rules.specs.Counting.{PlacedEntry, counted_of, entries_from, is_current, is_rival, last_of_each}
use Rattle.status_rules.specs.Holds.{at_each, basis_of, dead_passes, entries_on, is_on, same_status, some_prop, supports}
use Rattle.status_rules.specs.Support.{is_by_entry}
use Rattle.status_rules.proofs.Each.{get_or-at_each, list_at_each}
use Rattle.support_cert.specs.inner.Scanned.{at_place, counted_at, entry_in, hyps_pass, is_replaced, live_dead, says_true, some_entry, true_at, unless_replaced}

-- what all entries pass, those that are kept do
kept_all : (good : PlacedEntry → Bool) (e : PlacedEntry) (es : List PlacedEntry) (b : Bool) → good e ≡ true
    → list_all good es ≡ true → list_all good (cond b (e ∷ es) es) ≡ true
kept_all good e es true first rest = and_from (good e) (list_all good es) first rest
kept_all good e es false first rest = rest

left_all : (good : PlacedEntry → Bool) (e : PlacedEntry) (es : List PlacedEntry) (b : Bool) → good e ≡ true
    → list_all good es ≡ true → list_all good (cond b es (e ∷ es)) ≡ true
left_all good e es true first rest = rest
left_all good e es false first rest = and_from (good e) (list_all good es) first rest

filter_all : (good test : PlacedEntry → Bool) (es : List PlacedEntry) → list_all good es ≡ true
    → list_all good (filter test es) ≡ true
filter_all good test [] all = refl
filter_all good test (e ∷ es) all =
    let parts = and_parts (good e) (list_all good es) all in
    kept_all good e (filter test es) (test e) parts.0 (filter_all good test es parts.1)

last_all : (good : PlacedEntry → Bool) (es : List PlacedEntry) → list_all good es ≡ true
    → list_all good (last_of_each es) ≡ true
last_all good [] all = refl
last_all good (e ∷ es) all =
    let parts = and_parts (good e) (list_all good es) all in
    left_all good e (last_of_each es) (list_any (is_rival e) es) parts.0 (last_all good es parts.1)

counted_all : (h : History) (good : PlacedEntry → Bool) (n : ℕ) (cs : List Change)
    → list_all good (entries_from n cs) ≡ true
    → list_all good (last_of_each (filter (is_current h) (entries_from n cs))) ≡ true
counted_all h good n cs all =
    last_all good (filter (is_current h) (entries_from n cs)) (filter_all good (is_current h) (entries_from n cs) all)

-- places
most_from : (m n : ℕ) (cs : List Change) → n + length cs ≤ m + 1
    → list_all (λ (e : PlacedEntry). nat_le e.place m) (entries_from n cs) ≡ true
most_from m n [] h = refl
most_from m n (Register name set ∷ cs) h = most_from m (n + 1) cs (omega (arith, h))
most_from m n (Param p x ∷ cs) h = most_from m (n + 1) cs (omega (arith, h))
most_from m n (Emit e ∷ cs) h =
    and_from (nat_le n m) (list_all (λ (x : PlacedEntry). nat_le x.place m) (entries_from (n + 1) cs)) (le-leb n m (omega (arith, h))) (most_from m (n + 1) cs (omega (arith, h)))

apart_from : (k n : ℕ) (cs : List Change) → k < n
    → list_all (λ (e : PlacedEntry). not (eqb e.place k)) (entries_from n cs) ≡ true
apart_from k n [] h = refl
apart_from k n (Register name set ∷ cs) h = apart_from k (n + 1) cs (omega (arith, h))
apart_from k n (Param p x ∷ cs) h = apart_from k (n + 1) cs (omega (arith, h))
apart_from k n (Emit e ∷ cs) h =
    and_from (not (eqb n k)) (list_all (λ (x : PlacedEntry). not (eqb x.place k)) (entries_from (n + 1) cs))
    (not_from_false (eqb n k) (ne_eqb n k (λ same. absurd (omega (arith, h, same))))) (apart_from k (n + 1) cs (omega (arith, h)))

none_one : (a b rest : Bool) → not a ≡ true → rest ≡ false → (a && b || rest) ≡ false
none_one true b rest h is = absurd (false≢true h)
none_one false b rest h is = is

none_at : (f : PlacedEntry → Bool) (k : ℕ) (es : List PlacedEntry)
    → list_all (λ (e : PlacedEntry). not (eqb e.place k)) es ≡ true
    → list_any (λ e. eqb e.place k && f e) es ≡ false
none_at f k [] h = refl
none_at f k (e ∷ es) h =
    let parts = and_parts (not (eqb e.place k)) (list_all (λ (x : PlacedEntry). not (eqb x.place k)) es) h in
    none_one (eqb e.place k) (f e) (list_any (λ x. eqb x.place k && f x) es) parts.0 (none_at f k es parts.1)

low : (h : History) (f : PlacedEntry → Bool) (k n : ℕ) (cs : List Change) → k < n
    → list_any (λ e. eqb e.place k && f e) (last_of_each (filter (is_current h) (entries_from n cs))) ≡ false
low h f k n cs below =
    none_at f k (last_of_each (filter (is_current h) (entries_from n cs))) (counted_all h (λ e. not (eqb e.place k)) n cs (apart_from k n cs below))

and_true : (a b : Bool) → (a || b) ≡ (a && true || b)
and_true true b = refl
and_true false b = refl

and_false : (a b : Bool) → b ≡ (a && false || b)
and_false true b = refl
and_false false b = refl

or_none : (a : Bool) → (a || false) ≡ a
or_none true = refl
or_none false = refl

-- later entries of the same emitter on the same property
replaced_next : (h : History) (e x : Entry) (m : ℕ) (es : List PlacedEntry) (rest c : Bool)
    → is_current h (at_place 0 x) ≡ c → list_any (is_rival (at_place 0 e)) es ≡ rest
    → list_any (is_rival (at_place 0 e)) (cond c (at_place m x ∷ es) es) ≡ (is_rival (at_place 0 e) (at_place 0 x) && c || rest)
replaced_next h e x m es rest true is same =
    and_true (is_rival (at_place 0 e) (at_place 0 x)) (list_any (is_rival (at_place 0 e)) es)
    ∙ ap (λ b. is_rival (at_place 0 e) (at_place 0 x) && true || b) same
replaced_next h e x m es rest false is same = same ∙ and_false (is_rival (at_place 0 e) (at_place 0 x)) rest

replaced_is : (h : History) (e : Entry) (m : ℕ) (cs : List Change)
    → list_any (is_rival (at_place 0 e)) (filter (is_current h) (entries_from m cs)) ≡ is_replaced h e cs
replaced_is h e m [] = refl
replaced_is h e m (Register name set ∷ cs) = replaced_is h e (m + 1) cs
replaced_is h e m (Param p x ∷ cs) = replaced_is h e (m + 1) cs
replaced_is h e m (Emit x ∷ cs) =
    replaced_next h e x m (filter (is_current h) (entries_from (m + 1) cs)) (is_replaced h e cs) (is_current h (at_place 0 x)) refl (replaced_is h e (m + 1) cs)

-- the first change
first_here : (h : History) (f : PlacedEntry → Bool) (n k : ℕ) (e : Entry) (later : List Change) (es : List PlacedEntry) (c r : Bool)
    → k ≡ n → is_current h (at_place 0 e) ≡ c → is_replaced h e later ≡ r
    → list_any (λ x. eqb x.place k && f x) (last_of_each es) ≡ false
    → list_any (is_rival (at_place 0 e)) es ≡ r
    → list_any (λ x. eqb x.place k && f x) (last_of_each (cond c (at_place n e ∷ es) es)) ≡ some_entry (λ x. f (at_place k x)) (cond (c && not r) (Some e) None)
first_here h f n k e later es false r same is replaced none rivals = none
first_here h f n k e later es true true same is replaced none rivals =
    ap (λ b. list_any (λ x. eqb x.place k && f x) (cond b (last_of_each es) (at_place n e ∷ last_of_each es))) rivals
    ∙ none
first_here h f n k e later es true false same is replaced none rivals =
    ap (λ b. list_any (λ x. eqb x.place k && f x) (cond b (last_of_each es) (at_place n e ∷ last_of_each es))) rivals
    ∙ (ap (λ b. eqb n k && f (at_place n e) || b) none
    ∙ (ap (λ b. b && f (at_place n e) || false) (eq-eqb n k (sym same))
    ∙ (or_none (f (at_place n e)) ∙ ap (λ m. f (at_place m e)) (sym same))))

-- a later one
past_first : (h : History) (f : PlacedEntry → Bool) (n k : ℕ) (e : Entry) (es : List PlacedEntry) (c r : Bool)
    → eqb n k ≡ false → list_any (is_rival (at_place 0 e)) es ≡ r
    → list_any (λ x. eqb x.place k && f x) (last_of_each (cond c (at_place n e ∷ es) es)) ≡ list_any (λ x. eqb x.place k && f x) (last_of_each es)
past_first h f n k e es false r apart rivals = refl
past_first h f n k e es true true apart rivals =
    ap (λ b. list_any (λ x. eqb x.place k && f x) (cond b (last_of_each es) (at_place n e ∷ last_of_each es))) rivals
past_first h f n k e es true false apart rivals =
    ap (λ b. list_any (λ x. eqb x.place k && f x) (cond b (last_of_each es) (at_place n e ∷ last_of_each es))) rivals
    ∙ ap (λ b. b && f (at_place n e) || list_any (λ x. eqb x.place k && f x) (last_of_each es)) apart

-- what the code reads of the changes from place n on, at the i-th of them
abbrev read_at : History → List Change → ℕ → Option Entry
read_at h cs i =
    option_and_then (unless_replaced h (drop (suc i) cs)) (option_and_then entry_in (slice_get cs i))

abbrev Reads : History → (PlacedEntry → Bool) → ℕ → List Change → ℕ → ℕ → Type 0
Reads h f n cs i k =
    list_any (λ x. eqb x.place k && f x) (last_of_each (filter (is_current h) (entries_from n cs))) ≡ some_entry (λ x. f (at_place k x)) (read_at h cs i)

reads : (h : History) (f : PlacedEntry → Bool) (n : ℕ) (cs : List Change) (i k : ℕ) → k ≡ n + i
    → Reads h f n cs i k
reads h f n [] i k is = refl
reads h f n (Register name set ∷ cs) zero k is = low h f k (n + 1) cs (omega (arith, is))
reads h f n (Register name set ∷ cs) (suc i) k is = reads h f (n + 1) cs i k (omega (arith, is))
reads h f n (Param p x ∷ cs) zero k is = low h f k (n + 1) cs (omega (arith, is))
reads h f n (Param p x ∷ cs) (suc i) k is = reads h f (n + 1) cs i k (omega (arith, is))
reads h f n (Emit e ∷ cs) zero k is =
    first_here h f n k e cs (filter (is_current h) (entries_from (n + 1) cs)) (is_current h (at_place 0 e)) (is_replaced h e cs) (omega (arith, is)) refl refl (low h f k (n + 1) cs (omega (arith, is))) (replaced_is h e (n + 1) cs)
reads h f n (Emit e ∷ cs) (suc i) k is =
    past_first h f n k e (filter (is_current h) (entries_from (n + 1) cs)) (is_current h (at_place 0 e)) (is_replaced h e cs) (ne_eqb n k (λ same. absurd (omega (arith, is, same)))) (replaced_is h e (n + 1) cs)
    ∙ reads h f (n + 1) cs i k (omega (arith, is))

any_counted_by : (h : History) (f : PlacedEntry → Bool) (k : ℕ)
    → list_any (λ x. eqb x.place k && f x) (last_of_each (filter (is_current h) (entries_from 1 h.changes))) ≡ some_entry (λ x. f (at_place k x)) (counted_at h k)
any_counted_by h f zero = low h f 0 1 h.changes (omega arith)
any_counted_by h f (suc i) =
    let e : suc i - 1 ≡ i = omega arith in
    let some : eqb (suc i) 0 ≡ false = ne_eqb (suc i) 0 (λ same. absurd (omega (arith, same))) in
    let found = λ (j : ℕ). option_and_then (unless_replaced h (drop (suc i) h.changes)) (option_and_then entry_in (slice_get h.changes j)) in
    let at = λ (o : Option Entry). some_entry (λ x. f (at_place (suc i) x)) o in
    reads h f 1 h.changes i (suc i) (omega arith)
    ∙ (ap (λ j. at (found j)) (sym e) ∙ ap (λ c. at (cond c None (found (suc i - 1)))) (sym some))

any_counted : (h : History) (f : PlacedEntry → Bool) (k : ℕ)
    → list_any (λ x. eqb x.place k && f x) (counted_of h) ≡ some_entry (λ x. f (at_place k x)) (counted_at h k)
unfolding counted_of
any_counted h f k = any_counted_by h f k

-- entries on a property
any_on : (on g : PlacedEntry → Bool) (x : PlacedEntry) (es : List PlacedEntry) (b : Bool) → on x ≡ b
    → list_any g (cond b (x ∷ es) es) ≡ (b && g x || list_any g es)
any_on on g x es true is = refl
any_on on g x es false is = refl

swapped : (a b c : Bool) → (a && (b && c)) ≡ (b && (a && c))
swapped true true c = refl
swapped true false c = refl
swapped false true c = refl
swapped false false c = refl

any_filtered : (p k : ℕ) (f : PlacedEntry → Bool) (es : List PlacedEntry)
    → list_any (λ x. eqb x.place k && f x) (filter (is_on p) es) ≡ list_any (λ x. eqb x.place k && (is_on p x && f x)) es
any_filtered p k f [] = refl
any_filtered p k f (x ∷ es) =
    any_on (is_on p) (λ y. eqb y.place k && f y) x (filter (is_on p) es) (is_on p x) refl
    ∙ (ap (λ b. b || list_any (λ y. eqb y.place k && f y) (filter (is_on p) es)) (swapped (is_on p x) (eqb x.place k) (f x))
    ∙ ap (λ b. (eqb x.place k && (is_on p x && f x)) || b) (any_filtered p k f es))

some_says : (known : ℕ → Bool) (e : Entry) (a b : Bool)
    → (a && (b && list_all (λ (q : PropId). known q.0) e.hyps)) ≡ hyps_pass known (cond (a && b) (Some e) None)
some_says known e true true = refl
some_says known e true false = refl
some_says known e false b = refl

says_at : (known : ℕ → Bool) (p k : ℕ) (o : Option Entry)
    → some_entry (λ x. is_on p (at_place k x) && supports Status.True known (at_place k x)) o ≡ hyps_pass known (option_and_then (λ e. cond (says_true p e) (Some e) None) o)
says_at known p k None = refl
says_at known p k (Some e) = some_says known e (eqb e.prop.0 p) (same_status e.status Status.True)

past_row : {A : Type 0} (f : ℕ → List PlacedEntry) (n : ℕ) (xs : List A) (p : ℕ) → length xs ≤ p
    → slice_index_or (at_each f n xs) p [] ≡ []
past_row f n [] p h = refl
past_row f n (x ∷ xs) zero h = absurd (omega (arith, h))
past_row f n (x ∷ xs) (suc p) h = past_row f (n + 1) xs p (omega (arith, h))

by_entry_row : (known : ℕ → Bool) (h : History) (t : Props) (p k : ℕ) (c : Bool) → is_row t p ≡ c
    → is_by_entry known (basis_of h t) p k ≡ hyps_pass known (cond c (option_and_then (λ e. cond (says_true p e) (Some e) None) (counted_at h k)) None)
by_entry_row known h t p k false is =
    ap (list_any (λ x. eqb x.place k && supports Status.True known x)) (past_row (λ q. filter (is_on q) (counted_of h)) 0 t.rows p (ltb-false p (length t.rows) is))
by_entry_row known h t p k true is =
    let within = ltb-true p (length t.rows) is in
    let f = λ (q : ℕ). filter (is_on q) (counted_of h) in
    let zero_more : 0 + p ≡ p = omega arith in
    let test = λ (x : PlacedEntry). eqb x.place k && supports Status.True known x in
    ap (list_any test) (get_or-at_each f 0 t.rows p [] within ∙ ap f zero_more)
    ∙ (any_filtered p k (supports Status.True known) (counted_of h)
    ∙ (any_counted h (λ x. is_on p x && supports Status.True known x) k ∙ says_at known p k (counted_at h k)))

-- whether the entry at a place is a counted True one on a property whose hypotheses pass a test
pub by_entry_is : (known : ℕ → Bool) (h : History) (t : Props) (p k : ℕ)
    → is_by_entry known (basis_of h t) p k ≡ hyps_pass known (true_at h t p k)
by_entry_is known h t p k = by_entry_row known h t p k (is_row t p) refl

-- places of counted entries
pub counted_most : (h : History) (m : ℕ) → length h.changes ≤ m
    → list_all (λ (e : PlacedEntry). nat_le e.place m) (counted_of h) ≡ true
unfolding counted_of
counted_most h m most =
    counted_all h (λ e. nat_le e.place m) 1 h.changes (most_from m 1 h.changes (omega (arith, most)))

pub on_most : (h : History) (t : Props) (m : ℕ) → length h.changes ≤ m → (p : ℕ)
    → list_all (λ (e : PlacedEntry). nat_le e.place m) (entries_on (basis_of h t) p) ≡ true
on_most h t m most p =
    let good = λ (e : PlacedEntry). nat_le e.place m in
    elim (list_at_each (λ q. filter (is_on q) (counted_of h)) 0 t.rows p) [
      | inl here ↦ ap (list_all good) here ∙ filter_all good (is_on (0 + p)) (counted_of h) (counted_most h m most)
      | inr none ↦ ap (list_all good) none
    ]

-- entries are on properties of the table
pub on_row : (h : History) (t : Props) (p : ℕ) (test : PlacedEntry → Bool)
    → list_any test (entries_on (basis_of h t) p) ≡ true → is_row t p ≡ true
on_row h t p test found =
    elim (cases_Bool (is_row t p)) [
      | inl row ↦ row
      | inr none ↦ absurd (false≢true (sym (ap (list_any test) (past_row (λ q. filter (is_on q) (counted_of h)) 0 t.rows p (ltb-false p (length t.rows) none))) ∙ found))
    ]

-- the property of kind Dead at the point of one of another kind
dead_live : (t : Props) (test : ℕ → Bool) (p : ℕ) (c : Bool)
    → (c && some_prop test (dead_of t.rows p)) ≡ some_prop test (cond c (dead_of t.rows p) None)
dead_live t test p true = refl
dead_live t test p false = refl

pub dead_by_live : (t : Props) (test : ℕ → Bool) (p : ℕ)
    → dead_passes t test p ≡ some_prop test (live_dead t p)
dead_by_live t test p = dead_live t test p (is_live t p)
