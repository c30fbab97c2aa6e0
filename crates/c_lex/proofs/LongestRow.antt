-- The first row of a table that stands first is the longest, where no row begins a later one.
use Rattle.std.proofs.Common.{◌≡◌, ◌⊎◌, inl, inr, ◌≤◌, ◌∷◌, [], ℕ, List, Bool, true, false, Option, Some, None, refl, ap, sym, ◌∙◌, subst, length, ◌&&◌, arith, append-nil}
use Rattle.std.specs.Prelude.{◌||◌, not, nat_le}
use Rattle.std.specs.List.{list_all}
use Rattle.std.proofs.lemmas.Bool.Decides.{nat_tests}
use Rattle.c_lex.specs.Bytes.{begins}
use Rattle.c_lex.specs.Spellings.{Row, Has, IsLongest}
use Rattle.c_lex.specs.inner.Reading.{first_row}
use Rattle.c_lex.proofs.Runs.{both, both_are, not_false, some_pair, if_either, begins-append, begins-common, begins-same}

-- no row begins a later one
abbrev pub is_ordered : {A : Type 0} → List (Row A) → Bool
is_ordered [] = true
is_ordered (r ∷ rows) = list_all (λ q. not (begins r.0 q.0)) rows && is_ordered rows

not_begun : {A : Type 0} (note : Bool) (rows : List (Row A)) (r t : List ℕ) (v : A) → list_all (λ q. not (begins r q.0)) rows ≡ true → Has note rows t v → begins r t ≡ false
not_begun note [] r t v a h = absurd h
not_begun note (q ∷ rows) r t v a (inl h) =
    let s = both (not (begins r q.0)) (list_all (λ q. not (begins r q.0)) rows) a in
    subst (λ (x : List ℕ). begins r x ≡ false) h.1 (not_false (begins r q.0) s.0)
not_begun note (q ∷ rows) r t v a (inr h) =
    let s = both (not (begins r q.0)) (list_all (λ q. not (begins r q.0)) rows) a in
    not_begun note rows r t v s.1 h

-- the shorter of two lists, or neither is longer
shorter : (a b : List ℕ) → (length b ≤ length a) ⊎ (length a ≤ length b)
shorter a b = step (nat_le (length b) (length a)) refl
  where
    step : (c : Bool) → nat_le (length b) (length a) ≡ c → (length b ≤ length a) ⊎ (length a ≤ length b)
    step true e = inl (grind (arith, nat_tests))
    step false e = inr (grind (arith, nat_tests))

no_longer : {A : Type 0} (note : Bool) (rows : List (Row A)) (r t bytes : List ℕ) (v : A) → list_all (λ q. not (begins r q.0)) rows ≡ true → Has note rows t v
    → begins r bytes ≡ true → begins t bytes ≡ true → length t ≤ length r
no_longer note rows r t bytes v a h p q = step (shorter r t)
  where
    step : (length t ≤ length r) ⊎ (length r ≤ length t) → length t ≤ length r
    step (inl l) = l
    step (inr l) = let e = begins-common r t bytes p q l in let f = not_begun note rows r t v a h in absurd (cc)

pub first_row-takes : {A : Type 0} (note : Bool) (rows : List (Row A)) (bytes : List ℕ) (v : A) (n : ℕ) → is_ordered rows ≡ true → first_row note rows bytes ≡ Some (v, n)
    → (text : List ℕ) × IsLongest note rows text v bytes × (n ≡ length text)
first_row-takes note [] bytes v n o e = absurd (cc)
first_row-takes {A} note (r ∷ rows) bytes v n o e =
    step (first_row-takes note rows bytes v n) (if_either ((note || not r.2) && begins r.0 bytes) (Some (r.1, length r.0)) (first_row note rows bytes) (Some (v, n)) e)
  where
    after : list_all (λ q. not (begins r.0 q.0)) rows ≡ true
    after = (both (list_all (λ q. not (begins r.0 q.0)) rows) (is_ordered rows) o).0

    step : (is_ordered rows ≡ true → first_row note rows bytes ≡ Some (v, n) → (text : List ℕ) × IsLongest note rows text v bytes × (n ≡ length text))
        → ((((note || not r.2) && begins r.0 bytes) ≡ true) × ◌≡◌ {A = Option (A × ℕ)} (Some (r.1, length r.0)) (Some (v, n)))
        ⊎ ((((note || not r.2) && begins r.0 bytes) ≡ false) × (first_row note rows bytes ≡ Some (v, n)))
        → (text : List ℕ) × IsLongest note (r ∷ rows) text v bytes × (n ≡ length text)
    step ih (inl h) =
        let s = both (note || not r.2) (begins r.0 bytes) h.0 in
        let p = some_pair r.1 v (length r.0) n h.1 in
        let longest : (other : List ℕ) (w : A) → Has note (r ∷ rows) other w → begins other bytes ≡ true → length other ≤ length r.0 = λ other w has b.
        elim has [ inl k ↦ omega (arith, ap length k.1) | inr k ↦ no_longer note rows r.0 other bytes w after k s.1 b ] in
        (r.0, record { row = inl (s.0, refl, p.0); first = s.1; longest = longest }, sym p.1)
    step ih (inr h) =
        let i = ih (both (list_all (λ q. not (begins r.0 q.0)) rows) (is_ordered rows) o).1 h.1 in
        let longest : (other : List ℕ) (w : A) → Has note (r ∷ rows) other w → begins other bytes ≡ true → length other ≤ length i.0 = λ other w has b.
        elim has [
          | inl k ↦ let t = both_are (note || not r.2) (begins r.0 bytes) k.0 (subst (λ (x : List ℕ). begins x bytes ≡ true) (sym k.1) b) in let f = h.0 in absurd (cc)
          | inr k ↦ i.1.longest other w k b
        ] in
        (i.0, record { row = inr i.1.row; first = i.1.first; longest = longest }, i.2)

pub first_row-none : {A : Type 0} (note : Bool) (rows : List (Row A)) (bytes t : List ℕ) (v : A) → first_row note rows bytes ≡ None → Has note rows t v → begins t bytes ≡ true → ⊥
first_row-none note [] bytes t v e h b = h
first_row-none {A} note (r ∷ rows) bytes t v e h b =
    step (first_row-none note rows bytes t v) h (if_either ((note || not r.2) && begins r.0 bytes) (Some (r.1, length r.0)) (first_row note rows bytes) None e)
  where
    step : (first_row note rows bytes ≡ None → Has note rows t v → begins t bytes ≡ true → ⊥)
        → Has note (r ∷ rows) t v
        → ((((note || not r.2) && begins r.0 bytes) ≡ true) × ◌≡◌ {A = Option (A × ℕ)} (Some (r.1, length r.0)) None)
        ⊎ ((((note || not r.2) && begins r.0 bytes) ≡ false) × (first_row note rows bytes ≡ None)) → ⊥
    step ih h (inl k) = let f = k.1 in cc
    step ih (inl h) (inr k) = let t = both_are (note || not r.2) (begins r.0 bytes) h.0 (subst (λ (x : List ℕ). begins x bytes ≡ true) (sym h.1) b) in let f = k.0 in cc
    step ih (inr h) (inr k) = ih k.1 h b

-- a spelling has one meaning
one_row : {A : Type 0} (note : Bool) (rows : List (Row A)) (t : List ℕ) (v u : A) → is_ordered rows ≡ true → Has note rows t v → Has note rows t u → v ≡ u
one_row note [] t v u o h k = absurd h
one_row note (r ∷ rows) t v u o (inl h) (inl k) = sym h.2 ∙ k.2
one_row note (r ∷ rows) t v u o (inr h) (inr k) = one_row note rows t v u (both (list_all (λ q. not (begins r.0 q.0)) rows) (is_ordered rows) o).1 h k
one_row note (r ∷ rows) t v u o (inl h) (inr k) =
    let f = not_begun note rows r.0 t u (both (list_all (λ q. not (begins r.0 q.0)) rows) (is_ordered rows) o).0 k in
    let b : begins r.0 t ≡ true = subst (λ (x : List ℕ). begins x t ≡ true) (sym h.1) (rw (append-nil t) at (begins-append t [])) in absurd (cc)
one_row note (r ∷ rows) t v u o (inr h) (inl k) =
    let f = not_begun note rows r.0 t v (both (list_all (λ q. not (begins r.0 q.0)) rows) (is_ordered rows) o).0 h in
    let b : begins r.0 t ≡ true = subst (λ (x : List ℕ). begins x t ≡ true) (sym k.1) (rw (append-nil t) at (begins-append t [])) in absurd (cc)

pub first_row-again : {A : Type 0} (note : Bool) (rows : List (Row A)) (bytes text : List ℕ) (v : A) → is_ordered rows ≡ true → IsLongest note rows text v bytes
    → first_row note rows bytes ≡ Some (v, length text)
first_row-again {A} note rows bytes text v o h = step (first_row note rows bytes) refl
  where
    step : (r : Option (A × ℕ)) → first_row note rows bytes ≡ r → r ≡ Some (v, length text)
    step None e = absurd (first_row-none note rows bytes text v e h.row h.first)
    step (Some r) e =
        let k = first_row-takes note rows bytes r.0 r.1 o e in
        let same : length text ≡ length k.0 = omega (arith, h.longest k.0 r.0 k.1.row k.1.first, k.1.longest text v h.row h.first) in
        let is : text ≡ k.0 = begins-same text k.0 bytes h.first k.1.first same in
        let w : v ≡ r.0 = one_row note rows text v r.0 o h.row (subst (λ (x : List ℕ). Has note rows x r.0) (sym is) k.1.row) in
        let n : r.1 ≡ length text = k.2 ∙ sym same in
        ap (λ (x : A). Some (x, r.1)) (sym w) ∙ ap (λ (m : ℕ). Some (v, m)) n
