-- A function at the number of each element of a list.
use Rattle.std.proofs.Common.{◌≡◌, ◌≢◌, ℕ, zero, suc, ◌+◌, ◌<◌, ◌≤◌, List, [], ◌∷◌, ◌++◌, append_assoc, length, get_or, set, drop, map, refl, sym, ap, ◌∙◌, ◌⊎◌, inl, inr, arith}
use Rattle.std.proofs.lemmas.List.{drop_all, append-nil}
use Rattle.status_rules.specs.Holds.{at_each}

at_each-drop : {A B : Type 0} (f : ℕ → B) (n i : ℕ) (xs : List A) → i < length xs → at_each f n (drop i xs) ≡ f n ∷ at_each f (n + 1) (drop (i + 1) xs)
at_each-drop f n i [] h = absurd (omega arith)
at_each-drop f n zero (x ∷ xs) h = refl
at_each-drop f n (suc i) (x ∷ xs) h = let e : suc i + 1 ≡ suc (i + 1) = omega arith in rw e (at_each-drop f n i xs (omega arith))

pub at_each_more : {A B : Type 0} (f : ℕ → B) (i : ℕ) (xs : List A) → i < length xs → at_each f i (drop i xs) ≡ f i ∷ at_each f (i + 1) (drop (i + 1) xs)
at_each_more f i xs h = at_each-drop f i i xs h

-- a list, to which what a function has at a number is added, and the rest
pub each_more : {A B : Type 0} (f : ℕ → B) (i : ℕ) (xs : List A) (old new : List B) → i < length xs → new ≡ old ++ f i ∷ [] → new ++ at_each f (i + 1) (drop (i + 1) xs) ≡ old ++ at_each f i (drop i xs)
each_more f i xs old new h is = rw (is, append_assoc, at_each_more f i xs h) refl

pub length-at_each : {A B : Type 0} (f : ℕ → B) (n : ℕ) (xs : List A) → length (at_each f n xs) ≡ length xs
length-at_each f n [] = refl
length-at_each f n (x ∷ xs) = ap suc (length-at_each f (n + 1) xs)

pub get_or-at_each : {A B : Type 0} (f : ℕ → B) (n : ℕ) (xs : List A) (p : ℕ) (d : B) → p < length xs → get_or (at_each f n xs) p d ≡ f (n + p)
get_or-at_each f n [] p d h = absurd (omega arith)
get_or-at_each f n (x ∷ xs) zero d h = let e : n ≡ n + 0 = omega arith in ap f e
get_or-at_each f n (x ∷ xs) (suc p) d h =
    let e : n + 1 + p ≡ n + suc p = omega arith in
    get_or-at_each f (n + 1) xs p d (omega arith) ∙ ap f e

pub map-at_each : {A B C : Type 0} (g : B → C) (f : ℕ → B) (n : ℕ) (xs : List A) → map g (at_each f n xs) ≡ at_each (λ p. g (f p)) n xs
map-at_each g f n [] = refl
map-at_each g f n (x ∷ xs) = ap (λ ys. g (f n) ∷ ys) (map-at_each g f (n + 1) xs)

at_each-same : {A B : Type 0} (f g : ℕ → B) (n : ℕ) (xs : List A) → ((q : ℕ) → n ≤ q → f q ≡ g q) → at_each f n xs ≡ at_each g n xs
at_each-same f g n [] same = refl
at_each-same f g n (x ∷ xs) same =
    let first = same n (omega arith) in
    let rest = at_each-same f g (n + 1) xs (λ q h. same q (omega arith)) in
    cc

-- after a write at place p, where f and g differ at no other
pub set-at_each : {A B : Type 0} (f g : ℕ → B) (n : ℕ) (xs : List A) (p : ℕ) (y : B) → (p < length xs → y ≡ g (n + p)) → ((q : ℕ) → q ≢ n + p → f q ≡ g q) → set (at_each f n xs) p y ≡ at_each g n xs
set-at_each f g n [] p y here else_same = refl
set-at_each f g n (x ∷ xs) zero y here else_same =
    let e : n + 0 ≡ n = omega arith in
    let first : y ≡ g n = here (omega arith) ∙ ap g e in
    let rest = at_each-same f g (n + 1) xs (λ q h. else_same q (λ same. absurd (omega arith))) in
    cc
set-at_each f g n (x ∷ xs) (suc p) y here else_same =
    let e : n + 1 + p ≡ n + suc p = omega arith in
    let first = else_same n (λ same. absurd (omega arith)) in
    let rest = set-at_each f g (n + 1) xs p y (λ h. here (omega arith) ∙ ap g (sym e)) (λ q ne. else_same q (λ same. ne (same ∙ sym e))) in
    cc

-- where a list of lists has none at a place, it is empty there
pub list_at_each : {A B : Type 0} (f : ℕ → List B) (n : ℕ) (xs : List A) (p : ℕ) → (get_or (at_each f n xs) p [] ≡ f (n + p)) ⊎ (get_or (at_each f n xs) p [] ≡ [])
list_at_each f n [] p = inr refl
list_at_each f n (x ∷ xs) zero = let e : n ≡ n + 0 = omega arith in inl (ap f e)
list_at_each f n (x ∷ xs) (suc p) =
    let e : n + 1 + p ≡ n + suc p = omega arith in
    elim (list_at_each f (n + 1) xs p) [ inl here ↦ inl (here ∙ ap f e) | inr none ↦ inr none ]

-- a list, to which nothing is left to add
pub each_done : {A B : Type 0} (f : ℕ → B) (i : ℕ) (xs : List A) (done all : List B) → length xs ≤ i → done ++ at_each f i (drop i xs) ≡ all → done ≡ all
each_done f i xs done all past is = sym (ap (λ ys. done ++ at_each f i ys) (drop_all i xs past) ∙ append-nil done) ∙ is
