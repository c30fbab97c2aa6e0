-- The properties that an emission may reach are listed.
use Rattle.std.proofs.Common.{◌≡◌, ℕ, zero, suc, ◌+◌, ◌<◌, ◌≤◌, Bool, true, false, List, [], ◌∷◌, ◌++◌, length, get_or, set, refl, sym, ap, subst, ◌∙◌, inl, inr, eqb, arith, Option, Some, None}
use Rattle.std.specs.Prelude.{◌||◌, slice_get}
use Rattle.std.specs.List.{list_any}
use Rattle.std.specs.Global.{Vec}
use Rattle.std.specs.Option.{option_and_then}
use Rattle.std.proofs.lemmas.Bool.{cases_lt, eq-eqb, eqb-true, false≢true, or_cases, or_left, or_right}
use Rattle.std.proofs.lemmas.List.Folds.{list_any-append}
use Rattle.std.proofs.lemmas.Option.{none-some}
use Rattle.fc_base.specs.declared.ids.PropId.{PropId}
use Rattle.c_ir.specs.Props.{Props}
use Rattle.c_ir.specs.Kinds.{is_dead}
use Rattle.c_ir.specs.Table.{dead_at, dead_of, some_row}
use Rattle.status_rules.proofs.Sound.{dead_is_dead}
use Rattle.c_ir.specs.declared.prop.Prop.{Prop}
use Rattle.status_rules.specs.Counting.{PlacedEntry}
use Rattle.status_rules.specs.Holds.{Basis, entries_on, some_prop}
use Rattle.status_rows.specs.Index.{MembersCover, UsersCover, all_listed, gathered, has, listed, names, reached_by}
use Rattle.status_rows.specs.inner.Noted.{IsMember, Longer, MembersBelow}
use Rattle.status_rows.specs.Reached.{is_near, rests_near, leans_on, is_reached}

has_left : (q : ℕ) (xs ys : List ℕ) → has q xs ≡ true → has q (xs ++ ys) ≡ true
has_left q xs ys h = list_any-append (λ x. eqb x q) xs ys ∙ or_left (has q xs) (has q ys) h

has_right : (q : ℕ) (xs ys : List ℕ) → has q ys ≡ true → has q (xs ++ ys) ≡ true
has_right q xs ys h = list_any-append (λ x. eqb x q) xs ys ∙ or_right (has q xs) (has q ys) h

all_has : (lists : List (Vec ℕ)) (q r : ℕ) (qs : List ℕ) → has r qs ≡ true → has q (listed lists r) ≡ true → has q (all_listed lists qs) ≡ true
all_has lists q r [] h also = absurd (false≢true h)
all_has lists q r (x ∷ qs) h also = elim (or_cases (eqb x r) (has r qs) h) [
  | inl here ↦ has_left q (listed lists x) (all_listed lists qs) (subst (λ (y : ℕ). has q (listed lists y) ≡ true) (sym (eqb-true x r here)) also)
  | inr later ↦ has_right q (listed lists x) (all_listed lists qs) (all_has lists q r qs later also)
]

of_list : (lists : List (Vec ℕ)) (q r : ℕ) (qs : List ℕ) → has r qs ≡ true → has q (listed lists r) ≡ true → has q (gathered lists qs) ≡ true
of_list lists q r qs h also = has_right q qs (all_listed lists qs) (all_has lists q r qs h also)

-- a number of which something is known has a row
has_row : {A B : Type 0} (f : A → Option B) (xs : List A) (r : ℕ) (d : B) → option_and_then f (slice_get xs r) ≡ Some d → r < length xs
has_row f [] r d h = absurd (none-some d h)
has_row f (x ∷ xs) zero d h = omega arith
has_row f (x ∷ xs) (suc r) d h = let w = has_row f xs r d h in omega (arith, w)

-- what a test of an optional property says
abbrev Told : (ℕ → Bool) → Option PropId → Type 0
Told test o = (d : PropId) × (o ≡ Some d) × (test d.0 ≡ true)

told : (test : ℕ → Bool) (o : Option PropId) → some_prop test o ≡ true → Told test o
told test None h = absurd (false≢true h)
told test (Some d) h = (d, refl, h)

near_row : (t : Props) (p q : ℕ) → p < length t.rows → is_near t p q ≡ true → q < length t.rows
near_row t p q w h = elim (or_cases (eqb q p) (some_prop (λ d. eqb d p) (dead_of t.rows q)) h) [
  | inl same ↦ let e = eqb-true q p same in omega (arith, e, w)
  | inr other ↦ let found = told (λ d. eqb d p) (dead_of t.rows q) other in has_row (λ (row : Prop). dead_at t.rows row.point.0) t.rows q found.0 found.1
]

near_listed : (t : Props) (members : List (Vec ℕ)) (p q : ℕ) → MembersCover t members → is_near t p q ≡ true → has q (gathered members (p ∷ [])) ≡ true
near_listed t members p q cover h = elim (or_cases (eqb q p) (some_prop (λ d. eqb d p) (dead_of t.rows q)) h) [
  | inl same ↦ has_left q (p ∷ []) (all_listed members (p ∷ [])) (or_left (eqb p q) false (eq-eqb p q (sym (eqb-true q p same))))
  | inr other ↦
      let found = told (λ d. eqb d p) (dead_of t.rows q) other in
      of_list members q p (p ∷ []) (or_left (eqb p p) false (eq-eqb p p refl)) (subst (λ (d : ℕ). has q (listed members d) ≡ true) (eqb-true found.0.0 p found.2) (cover q found.0 found.1))
]

-- a hypothesis that is near p
abbrev Named : Props → ℕ → List PlacedEntry → Type 0
Named t p es = (r : ℕ) × (is_near t p r ≡ true) × (list_any (names r) es ≡ true)

near_hyp : (t : Props) (p : ℕ) (hs : List PropId) → list_any (λ (h : PropId). is_near t p h.0) hs ≡ true → (r : ℕ) × (is_near t p r ≡ true) × (list_any (λ (h : PropId). eqb h.0 r) hs ≡ true)
near_hyp t p [] h = absurd (false≢true h)
near_hyp t p (x ∷ hs) h = elim (or_cases (is_near t p x.0) (list_any (λ (y : PropId). is_near t p y.0) hs) h) [
  | inl here ↦ (x.0, here, or_left (eqb x.0 x.0) (list_any (λ (y : PropId). eqb y.0 x.0) hs) (eq-eqb x.0 x.0 refl))
  | inr later ↦ let found = near_hyp t p hs later in (found.0, found.1, or_right (eqb x.0 found.0) (list_any (λ (y : PropId). eqb y.0 found.0) hs) found.2)
]

named : (t : Props) (p : ℕ) (es : List PlacedEntry) → list_any (rests_near t p) es ≡ true → Named t p es
named t p [] h = absurd (false≢true h)
named t p (e ∷ es) h = elim (or_cases (rests_near t p e) (list_any (rests_near t p) es) h) [
  | inl here ↦ let found = near_hyp t p e.entry.hyps here in (found.0, found.1, or_left (names found.0 e) (list_any (names found.0) es) found.2)
  | inr later ↦ let found = named t p es later in (found.0, found.1, or_right (names found.0 e) (list_any (names found.0) es) found.2)
]

leans_listed : (b : Basis) (members users : List (Vec ℕ)) (p q : ℕ) → p < length b.table.rows → MembersCover b.table members → UsersCover b users → leans_on b p q ≡ true → has q (gathered users (gathered members (p ∷ []))) ≡ true
leans_listed b members users p q w cover used h =
    let t = b.table in
    let near = gathered members (p ∷ []) in
    elim (or_cases (eqb q p) (list_any (rests_near t p) (entries_on b q)) h) [
      | inl same ↦ has_left q near (all_listed users near) (near_listed t members p q cover (or_left (eqb q p) (some_prop (λ d. eqb d p) (dead_of t.rows q)) same))
      | inr other ↦
          let found = named t p (entries_on b q) other in
          of_list users q found.0 near (near_listed t members p found.0 cover found.1) (used q found.0 (near_row t p found.0 w found.1) found.2)
    ]

pub reached_covers : (b : Basis) (members users : List (Vec ℕ)) (p : ℕ) → p < length b.table.rows → MembersCover b.table members → UsersCover b users → (q : ℕ) → is_reached b p q ≡ true → has q (reached_by members users p) ≡ true
reached_covers b members users p w cover used q h =
    let t = b.table in
    let near = gathered members (p ∷ []) in
    let leaning = gathered users near in
    elim (or_cases (is_near t p q) (leans_on b p q || some_prop (leans_on b p) (dead_of t.rows q)) h) [
      | inl first ↦ has_left q leaning (all_listed members leaning) (has_left q near (all_listed users near) (near_listed t members p q cover first))
      | inr rest ↦ elim (or_cases (leans_on b p q) (some_prop (leans_on b p) (dead_of t.rows q)) rest) [
        | inl second ↦ has_left q leaning (all_listed members leaning) (leans_listed b members users p q w cover used second)
        | inr third ↦
            let found = told (leans_on b p) (dead_of t.rows q) third in
            of_list members q found.0.0 leaning (leans_listed b members users p found.0.0 w cover used found.2) (cover q found.0 found.1)
      ]
    ]

-- one list that grows
pub grown_set : (lists : List (Vec ℕ)) (n r q : ℕ) (v w : Vec ℕ) → Longer (get_or lists n w).items v.items → has q (listed lists r) ≡ true → has q (listed (set lists n v) r) ≡ true
grown_set [] n r q v w longer h = absurd (false≢true h)
grown_set (x ∷ lists) zero zero q v w longer h = longer q h
grown_set (x ∷ lists) zero (suc r) q v w longer h = h
grown_set (x ∷ lists) (suc n) zero q v w longer h = h
grown_set (x ∷ lists) (suc n) (suc r) q v w longer h = grown_set lists n r q v w longer h

pub noted_set : (lists : List (Vec ℕ)) (n p : ℕ) (v : Vec ℕ) → has p v.items ≡ true → n < length lists → has p (listed (set lists n v) n) ≡ true
noted_set [] n p v is h = absurd (omega arith)
noted_set (x ∷ lists) zero p v is h = is
noted_set (x ∷ lists) (suc n) p v is h = noted_set lists n p v is (omega arith)

-- a list with one more at its end
pub longer_more : (old new : List ℕ) (p : ℕ) → new ≡ old ++ p ∷ [] → Longer old new
longer_more old new p is q h = ap (has q) is ∙ has_left q old (p ∷ []) h

pub has_more : (old new : List ℕ) (p : ℕ) → new ≡ old ++ p ∷ [] → has p new ≡ true
has_more old new p is = ap (has p) is ∙ has_right p old (p ∷ []) (or_left (eqb p p) false (eq-eqb p p refl))

-- a property of kind Dead is in the table
row_there : (test : Prop → Bool) (rows : List Prop) (d : ℕ) → some_row test (slice_get rows d) ≡ true → d < length rows
row_there test [] d h = absurd (false≢true h)
row_there test (r ∷ rows) zero h = omega arith
row_there test (r ∷ rows) (suc d) h = let w = row_there test rows d h in omega (arith, w)

pub dead_row : (t : Props) (p : ℕ) (d : PropId) → dead_of t.rows p ≡ Some d → d.0 < length t.rows
dead_row t p d h = row_there (λ (r : Prop). is_dead r.kind) t.rows d.0 (dead_is_dead t p d h)

-- a property that has one is in the table
pub has_dead_row : (t : Props) (q : ℕ) (d : PropId) → dead_of t.rows q ≡ Some d → q < length t.rows
has_dead_row t q d h = has_row (λ (row : Prop). dead_at t.rows row.point.0) t.rows q d h

pub members_more : (t : Props) (old new : List (Vec ℕ)) (i : ℕ) → MembersBelow t old i → ((q r : ℕ) → has q (listed old r) ≡ true → has q (listed new r) ≡ true) → IsMember t new i → MembersBelow t new (i + 1)
members_more t old new i below grown here q h = elim (cases_lt q i) [
  | inl less ↦ λ d found. grown q d.0 (below q less d found)
  | inr above ↦ let e : i ≡ q = omega arith in subst (λ (n : ℕ). IsMember t new n) e here
]

pub members_done : (t : Props) (lists : List (Vec ℕ)) (n : ℕ) → length t.rows ≤ n → MembersBelow t lists n → MembersCover t lists
members_done t lists n past below q d found = let w = has_dead_row t q d found in below q (omega (arith, past, w)) d found
