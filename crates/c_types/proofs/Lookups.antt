-- Elements of lists by their places, where a list grows at its end or one element is replaced.
use Rattle.std.proofs.Common.{◌≡◌, ◌⊎◌, inl, inr, ℕ, zero, suc, List, [], ◌∷◌, ◌++◌, length, slice_get, slice_set, Option, Some, None, is_some, unwrap_or, refl, ap, sym}
use Rattle.std.proofs.lemmas.Bool.{true≢false}

pub some_is : {X : Type 0} (x y : X) → Some x ≡ Some y → x ≡ y
some_is x y is = ap (λ (o : Option _). unwrap_or o x) is

pub no_element : {X : Type 0} {A : Type 0} (x : X) → None ≡ Some x → A
no_element x is = absurd (true≢false (sym (ap is_some is)))

pub get_more : {X : Type 0} (xs ys : List X) (n : ℕ) (x : X) → slice_get xs n ≡ Some x → slice_get (xs ++ ys) n ≡ Some x
get_more [] ys n x is = no_element x is
get_more (z ∷ xs) ys zero x is = is
get_more (z ∷ xs) ys (suc n) x is = get_more xs ys n x is

pub get_end : {X : Type 0} (xs : List X) (y : X) → slice_get (xs ++ y ∷ []) (length xs) ≡ Some y
get_end [] y = refl
get_end (x ∷ xs) y = get_end xs y

-- an element is one of those before, or the last
pub get_push : {X : Type 0} (xs : List X) (y : X) (n : ℕ) (x : X) → slice_get (xs ++ y ∷ []) n ≡ Some x → (slice_get xs n ≡ Some x) ⊎ ((n ≡ length xs) × (y ≡ x))
get_push [] y zero x is = inr (refl, some_is y x is)
get_push [] y (suc n) x is = no_element x is
get_push (z ∷ xs) y zero x is = inl is
get_push (z ∷ xs) y (suc n) x is =
    elim (get_push xs y n x is) [ inl h ↦ inl h | inr h ↦ inr (ap suc h.0, h.1) ]

pub get_set : {X : Type 0} (xs : List X) (n : ℕ) (y z : X) → slice_get xs n ≡ Some z → slice_get (slice_set xs n y) n ≡ Some y
get_set [] n y z is = no_element z is
get_set (x ∷ xs) zero y z is = refl
get_set (x ∷ xs) (suc n) y z is = get_set xs n y z is

-- an element is the one put there, or one of another place
pub get_put : {X : Type 0} (xs : List X) (n : ℕ) (y : X) (i : ℕ) (x : X) → slice_get (slice_set xs n y) i ≡ Some x → ((i ≡ n) × (y ≡ x)) ⊎ (slice_get xs i ≡ Some x)
get_put [] n y i x is = no_element x is
get_put (z ∷ xs) zero y zero x is = inl (refl, some_is y x is)
get_put (z ∷ xs) zero y (suc i) x is = inr is
get_put (z ∷ xs) (suc n) y zero x is = inr is
get_put (z ∷ xs) (suc n) y (suc i) x is =
    elim (get_put xs n y i x is) [ inl h ↦ inl (ap suc h.0, h.1) | inr h ↦ inr h ]

-- it stays, or its place is the one that was put
pub get_kept : {X : Type 0} (xs : List X) (n : ℕ) (y : X) (i : ℕ) (x : X) → slice_get xs i ≡ Some x → (i ≡ n) ⊎ (slice_get (slice_set xs n y) i ≡ Some x)
get_kept [] n y i x is = no_element x is
get_kept (z ∷ xs) zero y zero x is = inl refl
get_kept (z ∷ xs) zero y (suc i) x is = inr is
get_kept (z ∷ xs) (suc n) y zero x is = inr is
get_kept (z ∷ xs) (suc n) y (suc i) x is =
    elim (get_kept xs n y i x is) [ inl h ↦ inl (ap suc h) | inr h ↦ inr h ]
