-- The bytes that stand first and pass a test, and texts that stand first.
use Rattle.std.proofs.Common.{◌≡◌, ◌⊎◌, inl, inr, ◌+◌, ◌≤◌, ◌++◌, ◌∷◌, [], ℕ, List, Bool, true, false, Option, Some, None, refl, ap, sym, ◌∙◌, take, drop, length, ◌&&◌, cond, suc, arith}
use Rattle.std.specs.Prelude.{◌==◌, not, if◌then◌else◌}
use Rattle.std.specs.List.{list_all, prefix_len}
use Rattle.std.proofs.lemmas.Bool.Decides.{nat_tests, Decides-eqb}
use Rattle.std.proofs.Math.Seq.{take-append_seam}
use Rattle.c_lex.specs.Bytes.{begins_with, begins}

-- both parts of a test that is true
pub both : (a b : Bool) → (a && b) ≡ true → (a ≡ true) × (b ≡ true)
both true b e = (refl, e)
both false b e = absurd (cc)

pub both_are : (a b : Bool) → a ≡ true → b ≡ true → (a && b) ≡ true
both_are true b p q = q
both_are false b p q = p

pub not_true : (b : Bool) → b ≡ false → not b ≡ true
not_true false e = refl
not_true true e = absurd (cc)

pub not_false : (b : Bool) → not b ≡ true → b ≡ false
not_false false e = refl
not_false true e = absurd (cc)

pub some_one : {A : Type 0} (a b : A) → ◌≡◌ {A = Option A} (Some a) (Some b) → a ≡ b
some_one {A} a b e = let part : Option A → A = λ o. elim o [ Some p ↦ p | None ↦ a ] in ap part e

pub some_pair : {A B : Type 0} (a c : A) (b d : B) → ◌≡◌ {A = Option (A × B)} (Some (a, b)) (Some (c, d)) → (a ≡ c) × (b ≡ d)
some_pair {A} {B} a c b d e =
    let p = some_one (a, b) (c, d) e in (ap (λ (q : A × B). q.0) p, ap (λ (q : A × B). q.1) p)

pub if_either : {A : Type 0} (b : Bool) (x y r : A) → if◌then◌else◌ {A = A} b x y ≡ r → ((b ≡ true) × (x ≡ r)) ⊎ ((b ≡ false) × (y ≡ r))
if_either true x y r e = inl (refl, e)
if_either false x y r e = inr (refl, e)

pub add-one-left : (n : ℕ) → 1 + n ≡ suc n
add-one-left n = omega arith

-- those that stand first pass
pub run_all : {X : Type 0} (p : X → Bool) (xs : List X) → list_all p (take (prefix_len p xs) xs) ≡ true
run_all p [] = refl
run_all p (x ∷ xs) = step (run_all p xs) (p x) refl
  where
    step : list_all p (take (prefix_len p xs) xs) ≡ true → (b : Bool) → p x ≡ b → list_all p (take (cond b (1 + prefix_len p xs) 0) (x ∷ xs)) ≡ true
    step more false e = refl
    step more true e = rw (add-one-left (prefix_len p xs)) (both_are (p x) (list_all p (take (prefix_len p xs) xs)) e more)

-- what follows them doesn't begin with another that passes
pub run_ends : (p : ℕ → Bool) (xs : List ℕ) → begins_with p (drop (prefix_len p xs) xs) ≡ false
run_ends p [] = refl
run_ends p (x ∷ xs) = step (run_ends p xs) (p x) refl
  where
    step : begins_with p (drop (prefix_len p xs) xs) ≡ false → (b : Bool) → p x ≡ b → begins_with p (drop (cond b (1 + prefix_len p xs) 0) (x ∷ xs)) ≡ false
    step more false e = e
    step more true e = rw (add-one-left (prefix_len p xs)) more

-- bytes that pass, with none after them that does, are all that stand first
pub run_len : (p : ℕ → Bool) (xs rest : List ℕ) → list_all p xs ≡ true → begins_with p rest ≡ false → prefix_len p (xs ++ rest) ≡ length xs
run_len p [] [] a e = refl
run_len p [] (y ∷ rest) a e = rw e refl
run_len p (x ∷ xs) rest a e = let s = both (p x) (list_all p xs) a in rw s.0 (ap (λ n. 1 + n) (run_len p xs rest s.1 e) ∙ omega arith)

-- Texts that stand first.

same_byte : (b c : ℕ) → (b == c) ≡ true → b ≡ c
same_byte b c = (Decides-eqb b c).0

byte_same : (b c : ℕ) → b ≡ c → (b == c) ≡ true
byte_same b c e = grind (arith, nat_tests)

pub begins-append : (t rest : List ℕ) → begins t (t ++ rest) ≡ true
begins-append [] rest = refl
begins-append (x ∷ t) rest = both_are (x == x) (begins t (t ++ rest)) (byte_same x x refl) (begins-append t rest)

pub begins-split : (t bytes : List ℕ) → begins t bytes ≡ true → bytes ≡ t ++ drop (length t) bytes
begins-split [] bytes p = refl
begins-split (x ∷ t) [] p = absurd (cc)
begins-split (x ∷ t) (y ∷ ys) p =
    let s = both (y == x) (begins t ys) p in
    ap (λ (b : ℕ). b ∷ ys) (same_byte y x s.0) ∙ ap (λ (l : List ℕ). x ∷ l) (begins-split t ys s.1)

-- of two texts that stand first, the shorter one begins the longer one
pub begins-common : (a b bytes : List ℕ) → begins a bytes ≡ true → begins b bytes ≡ true → length a ≤ length b → begins a b ≡ true
begins-common [] b bytes p q l = refl
begins-common (x ∷ a) b [] p q l = absurd (cc)
begins-common (x ∷ a) [] (y ∷ ys) p q l = absurd (omega (arith, l))
begins-common (x ∷ a) (z ∷ b) (y ∷ ys) p q l =
    let s = both (y == x) (begins a ys) p in
    let t = both (y == z) (begins b ys) q in
    both_are (z == x) (begins a b) (byte_same z x (sym (same_byte y z t.0) ∙ same_byte y x s.0)) (begins-common a b ys s.1 t.1 (omega (arith, l)))

pub begins-same : (a b bytes : List ℕ) → begins a bytes ≡ true → begins b bytes ≡ true → length a ≡ length b → a ≡ b
begins-same a b bytes p q l =
    let front : (t : List ℕ) → begins t bytes ≡ true → take (length t) bytes ≡ t = λ t h. ap (λ (x : List ℕ). take (length t) x) (begins-split t bytes h)
    ∙ take-append_seam t (drop (length t) bytes) in
    sym (front a p) ∙ ap (λ (n : ℕ). take n bytes) l ∙ front b q
