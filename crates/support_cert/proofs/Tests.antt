-- Tests of the members of lists.
use Rattle.std.proofs.Common.{◌≡◌, Bool, true, false, cond, List, [], ◌∷◌, ◌++◌, Some, None, refl, sym, ap, ◌∙◌, inl, inr}
use Rattle.std.specs.Prelude.{◌&&◌, ◌||◌, find}
use Rattle.std.specs.List.{list_any, list_all}
use Rattle.std.proofs.lemmas.Bool.{and_parts, and_from, or_cases, or_left, or_right, false≢true}
use Rattle.std.proofs.lemmas.Option.{none-some, same_Some}

pub any_mono : {X : Type 0} (f g : X → Bool) (xs : List X) → ((x : X) → f x ≡ true → g x ≡ true)
    → list_any f xs ≡ true → list_any g xs ≡ true
any_mono f g [] h is = absurd (false≢true is)
any_mono f g (x ∷ xs) h is =
    elim (or_cases (f x) (list_any f xs) is) [
      | inl first ↦ or_left (g x) (list_any g xs) (h x first)
      | inr rest ↦ or_right (g x) (list_any g xs) (any_mono f g xs h rest)
    ]

pub all_mono : {X : Type 0} (f g : X → Bool) (xs : List X) → ((x : X) → f x ≡ true → g x ≡ true)
    → list_all f xs ≡ true → list_all g xs ≡ true
all_mono f g [] h is = refl
all_mono f g (x ∷ xs) h is =
    let parts = and_parts (f x) (list_all f xs) is in
    and_from (g x) (list_all g xs) (h x parts.0) (all_mono f g xs h parts.1)

or_assoc : (a b c : Bool) → (a || (b || c)) ≡ ((a || b) || c)
or_assoc true b c = refl
or_assoc false b c = refl

pub any-append : {X : Type 0} (f : X → Bool) (xs ys : List X)
    → list_any f (xs ++ ys) ≡ (list_any f xs || list_any f ys)
any-append f [] ys = refl
any-append f (x ∷ xs) ys =
    ap (λ b. f x || b) (any-append f xs ys) ∙ or_assoc (f x) (list_any f xs) (list_any f ys)

-- the first members stay, and the last one counts
pub any_first : {X : Type 0} (f : X → Bool) (xs ys : List X) → list_any f xs ≡ true
    → list_any f (xs ++ ys) ≡ true
any_first f xs ys h = any-append f xs ys ∙ or_left (list_any f xs) (list_any f ys) h

pub any_last : {X : Type 0} (f : X → Bool) (xs : List X) (x : X) → f x ≡ true
    → list_any f (xs ++ x ∷ []) ≡ true
any_last f xs x h =
    any-append f xs (x ∷ []) ∙ or_right (list_any f xs) (list_any f (x ∷ [])) (or_left (f x) false h)

or_false : (b : Bool) → (b || false) ≡ b
or_false true = refl
or_false false = refl

pub any_parts : {X : Type 0} (f : X → Bool) (xs : List X) (x : X)
    → list_any f (xs ++ x ∷ []) ≡ (list_any f xs || f x)
any_parts f xs x = any-append f xs (x ∷ []) ∙ ap (λ b. list_any f xs || b) (or_false (f x))

pub record Found {X : Type 0} (f : X → Bool) (xs : List X) (x : X) : Type 0 where
  pub passes : f x ≡ true
  pub among : (g : X → Bool) → g x ≡ true → list_any g xs ≡ true

found_next : {X : Type 0} (f : X → Bool) (y : X) (xs : List X) (x : X) (b : Bool) → f y ≡ b
    → (find f xs ≡ Some x → Found f xs x) → cond b (Some y) (find f xs) ≡ Some x → Found f (y ∷ xs) x
found_next f y xs x true is later h = record {
  passes = ap f (sym (same_Some y x h)) ∙ is;
  among = λ g gx. or_left (g y) (list_any g xs) (ap g (same_Some y x h) ∙ gx);
}
found_next f y xs x false is later h = record {
  passes = (later h).passes;
  among = λ g gx. or_right (g y) (list_any g xs) ((later h).among g gx);
}

pub find_found : {X : Type 0} (f : X → Bool) (xs : List X) (x : X) → find f xs ≡ Some x → Found f xs x
find_found f [] x h = absurd (none-some x h)
find_found f (y ∷ xs) x h = found_next f y xs x (f y) refl (find_found f xs x) h

none_next : {X : Type 0} (f : X → Bool) (y : X) (xs : List X) (b : Bool) → f y ≡ b
    → (find f xs ≡ None → list_any f xs ≡ false) → cond b (Some y) (find f xs) ≡ None
    → (f y || list_any f xs) ≡ false
none_next f y xs true is later h = absurd (none-some y (sym h))
none_next f y xs false is later h = ap (λ b. b || list_any f xs) is ∙ later h

pub find_none : {X : Type 0} (f : X → Bool) (xs : List X) → find f xs ≡ None → list_any f xs ≡ false
find_none f [] h = refl
find_none f (y ∷ xs) h = none_next f y xs (f y) refl (find_none f xs) h

-- where all members pass a test, it needn't be asked for
pub any_both : {X : Type 0} (f g : X → Bool) (xs : List X) → list_all f xs ≡ true
    → list_any (λ x. f x && g x) xs ≡ list_any g xs
any_both f g [] h = refl
any_both f g (x ∷ xs) h =
    let parts = and_parts (f x) (list_all f xs) h in
    let rest = any_both f g xs parts.1 in
    ap (λ b. (b && g x) || list_any (λ y. f y && g y) xs) parts.0 ∙ ap (λ b. g x || b) rest

-- no test has both answers
pub clash : (b : Bool) → b ≡ true → b ≡ false → ⊥
clash b is isnt = false≢true (sym isnt ∙ is)
