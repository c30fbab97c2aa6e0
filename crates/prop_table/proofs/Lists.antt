-- Lists: what holds of each member, how many members pass a test, and members side by side.
use Rattle.std.proofs.Common.{◌≡◌, ◌∙◌, ◌+◌, ◌<◌, ◌≤◌, ◌⊎◌, inl, inr, ℕ, zero, suc, Bool, true, false, List, [], ◌∷◌, ◌++◌, length, refl, ap, sym, subst, arith}
use Rattle.std.proofs.lemmas.Bool.{true≢false}
use Rattle.std.specs.Prelude.{Some, None, slice_get}

pub some_is : {X : Type 0} (x y : X) → Some x ≡ Some y → x ≡ y
some_is x y is = cc

pub not_some : {X : Type 0} (x : X) → None ≡ Some x → ⊥
not_some x is = cc

-- ---- each member

abbrev pub Each : {X : Type 0} → (X → Type 0) → List X → Type 0
Each P [] = Unit {0}
Each P (x ∷ xs) = P x × Each P xs

pub each_append : {X : Type 0} (P : X → Type 0) (xs ys : List X) → Each P xs → Each P ys → Each P (xs ++ ys)
each_append P [] ys p q = q
each_append P (x ∷ xs) ys p q = (p.0, each_append P xs ys p.1 q)

pub each_more : {X : Type 0} (P Q : X → Type 0) (xs : List X) → ((x : X) → P x → Q x) → Each P xs → Each Q xs
each_more P Q [] more p = tt
each_more P Q (x ∷ xs) more p = (more x p.0, each_more P Q xs more p.1)

pub each_at : {X : Type 0} (P : X → Type 0) (xs : List X) (i : ℕ) (x : X) → Each P xs → slice_get xs i ≡ Some x → P x
each_at P [] i x h is = absurd (not_some x is)
each_at P (y ∷ ys) zero x h is = subst P (some_is y x is) h.0
each_at P (y ∷ ys) (suc i) x h is = each_at P ys i x h.1 is

-- ---- a part of a list

-- the members of `xs` are those of `all` from place `m` on
abbrev pub From : {X : Type 0} → List X → ℕ → List X → Type 0
From {X} all m xs = (i : ℕ) (x : X) → slice_get xs i ≡ Some x → slice_get all (m + i) ≡ Some x

pub from_all : {X : Type 0} (all : List X) → From all 0 all
from_all {X} all i x is = let e : i ≡ 0 + i = omega arith in subst (λ (k : ℕ). slice_get all k ≡ Some x) e is

pub from_here : {X : Type 0} (all : List X) (m : ℕ) (x : X) (xs : List X) → From all m (x ∷ xs) → slice_get all m ≡ Some x
from_here all m x xs h = let e : m + 0 ≡ m = omega arith in subst (λ (k : ℕ). slice_get all k ≡ Some x) e (h 0 x refl)

pub from_next : {X : Type 0} (all : List X) (m : ℕ) (x : X) (xs : List X) → From all m (x ∷ xs) → From all (m + 1) xs
from_next all m x xs h i y is = let e : m + suc i ≡ (m + 1) + i = omega arith in subst (λ (k : ℕ). slice_get all k ≡ Some y) e (h (suc i) y is)

-- ---- how many pass a test

abbrev pub one_if : Bool → ℕ
one_if true = 1
one_if false = 0

abbrev pub tally : {X : Type 0} → (X → Bool) → List X → ℕ
tally test [] = 0
tally test (x ∷ xs) = one_if (test x) + tally test xs

pub tally_append : {X : Type 0} (test : X → Bool) (xs ys : List X) → tally test (xs ++ ys) ≡ tally test xs + tally test ys
tally_append test [] ys = omega arith
tally_append test (x ∷ xs) ys = omega (arith, tally_append test xs ys)

pub tally_none : {X : Type 0} (test : X → Bool) (xs : List X) → Each (λ x. test x ≡ false) xs → tally test xs ≡ 0
tally_none test [] h = refl
tally_none test (x ∷ xs) h =
    let first : one_if (test x) ≡ 0 = ap one_if h.0 in
    omega (arith, first, tally_none test xs h.1)

-- the only member that passes
pub record Sole {X : Type 0} (test : X → Bool) (xs : List X) : Type 0 where
  pub place : ℕ
  pub member : X
  pub is_member : slice_get xs place ≡ Some member
  pub passes : test member ≡ true
  pub only : (i : ℕ) (x : X) → slice_get xs i ≡ Some x → test x ≡ true → i ≡ place

none_at : {X : Type 0} (test : X → Bool) (xs : List X) (i : ℕ) (x : X) → tally test xs ≡ 0 → slice_get xs i ≡ Some x → test x ≡ true → ⊥
none_at test [] i x none is passes = not_some x is
none_at test (y ∷ ys) zero x none is passes =
    let first : test y ≡ true = subst (λ z. test z ≡ true) (sym (some_is y x is)) passes in
    let one : one_if (test y) ≡ 1 = ap one_if first in
    omega (arith, one, none)
none_at test (y ∷ ys) (suc i) x none is passes = none_at test ys i x (omega (arith, none)) is passes

sole_first : {X : Type 0} (test : X → Bool) (y : X) (ys : List X) → test y ≡ true → tally test ys ≡ 0 → Sole test (y ∷ ys)
sole_first {X} test y ys passes none = record { place = 0; member = y; is_member = refl; passes = passes; only = only }
  where
    only : (i : ℕ) (x : X) → slice_get (y ∷ ys) i ≡ Some x → test x ≡ true → i ≡ 0
    only zero x is h = refl
    only (suc i) x is h = absurd (none_at test ys i x none is h)

sole_later : {X : Type 0} (test : X → Bool) (y : X) (ys : List X) → test y ≡ false → Sole test ys → Sole test (y ∷ ys)
sole_later {X} test y ys fails s = record { place = suc s.place; member = s.member; is_member = s.is_member; passes = s.passes; only = only }
  where
    only : (i : ℕ) (x : X) → slice_get (y ∷ ys) i ≡ Some x → test x ≡ true → i ≡ suc s.place
    only zero x is h = absurd (true≢false (sym h ∙ ap test (sym (some_is y x is)) ∙ fails))
    only (suc i) x is h = ap (λ (n : ℕ). suc n) (s.only i x is h)

sole_by : {X : Type 0} (test : X → Bool) (y : X) (ys : List X) (t : Bool) → test y ≡ t → one_if t + tally test ys ≡ 1 → (tally test ys ≡ 1 → Sole test ys) → Sole test (y ∷ ys)
sole_by test y ys true is one rest = sole_first test y ys is (omega (arith, one))
sole_by test y ys false is one rest = sole_later test y ys is (rest (omega (arith, one)))

pub sole : {X : Type 0} (test : X → Bool) (xs : List X) → tally test xs ≡ 1 → Sole test xs
sole test [] one = absurd (omega (arith, one))
sole test (y ∷ ys) one = sole_by test y ys (test y) refl one (sole test ys)

-- ---- side by side

-- between two members with one key all have that key
abbrev pub Together : {X : Type 0} → (X → ℕ) → List X → Type 0
Together {X} key xs = (i j k : ℕ) (a b c : X) → i ≤ j → j ≤ k → slice_get xs i ≡ Some a → slice_get xs j ≡ Some b → slice_get xs k ≡ Some c → key a ≡ key c → key b ≡ key a

-- a member of the first list, or of the second
abbrev In : {X : Type 0} → List X → List X → ℕ → X → Type 0
In xs ys i x = ((i < length xs) × (slice_get xs i ≡ Some x)) ⊎ ((n : ℕ) × (i ≡ length xs + n) × (slice_get ys n ≡ Some x))

in_more : {X : Type 0} (y : X) (xs ys : List X) (i : ℕ) (x : X) → In xs ys i x → In (y ∷ xs) ys (suc i) x
in_more y xs ys i x (inl h) = inl (omega (arith, h.0), h.1)
in_more y xs ys i x (inr h) = inr (h.0, omega (arith, h.1), h.2)

in_append : {X : Type 0} (xs ys : List X) (i : ℕ) (x : X) → slice_get (xs ++ ys) i ≡ Some x → In xs ys i x
in_append [] ys i x is = inr (i, omega arith, is)
in_append (y ∷ xs) ys zero x is = inl (omega arith, is)
in_append (y ∷ xs) ys (suc i) x is = in_more y xs ys i x (in_append xs ys i x is)

-- no member of the one has the key of a member of the other
abbrev pub Apart : {X : Type 0} → (X → ℕ) → List X → List X → Type 0
Apart {X} key xs ys = (i k : ℕ) (a c : X) → slice_get xs i ≡ Some a → slice_get ys k ≡ Some c → key a ≡ key c → ⊥

sides : {X : Type 0} (key : X → ℕ) (xs ys : List X) (i j k : ℕ) (a b c : X) → Together key xs → Together key ys → Apart key xs ys → i ≤ j → j ≤ k → In xs ys i a → In xs ys j b → In xs ys k c → key a ≡ key c → key b ≡ key a
sides key xs ys i j k a b c hx hy apart ij jk (inl p) (inl q) (inl r) e = hx i j k a b c ij jk p.1 q.1 r.1 e
sides key xs ys i j k a b c hx hy apart ij jk (inl p) (inr q) (inl r) e = absurd (omega (arith, q.1, r.0, jk))
sides key xs ys i j k a b c hx hy apart ij jk (inl p) q (inr r) e = absurd (apart i r.0 a c p.1 r.2 e)
sides key xs ys i j k a b c hx hy apart ij jk (inr p) q (inl r) e = absurd (omega (arith, p.1, r.0, ij, jk))
sides key xs ys i j k a b c hx hy apart ij jk (inr p) (inl q) (inr r) e = absurd (omega (arith, p.1, q.0, ij))
sides key xs ys i j k a b c hx hy apart ij jk (inr p) (inr q) (inr r) e = hy p.0 q.0 r.0 a b c (omega (arith, p.1, q.1, ij)) (omega (arith, q.1, r.1, jk)) p.2 q.2 r.2 e

pub together_append : {X : Type 0} (key : X → ℕ) (xs ys : List X) → Together key xs → Together key ys → Apart key xs ys → Together key (xs ++ ys)
together_append key xs ys hx hy apart i j k a b c ij jk p q r e =
    sides key xs ys i j k a b c hx hy apart ij jk (in_append xs ys i a p) (in_append xs ys j b q) (in_append xs ys k c r) e

-- all have one key
pub together_same : {X : Type 0} (key : X → ℕ) (n : ℕ) (xs : List X) → Each (λ x. key x ≡ n) xs → Together key xs
together_same key n xs h i j k a b c ij jk p q r e = each_at (λ x. key x ≡ n) xs j b h q ∙ sym (each_at (λ x. key x ≡ n) xs i a h p)
