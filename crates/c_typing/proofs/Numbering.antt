-- Numbers of what is added to a list.
use Rattle.std.proofs.Common.{◌≡◌, ◌∙◌, ℕ, List, [], ◌∷◌, ◌++◌, Option, Some, None, map, refl, ap}
use Rattle.std.specs.Option.{option_and_then}
use Rattle.c_ir.specs.Numbers.{Numbers, count, all}
use Rattle.c_typing.specs.Walking.{CountsOn}

append_on : {A : Type 0} (f : A → Numbers) (xs ys : List A) (from : ℕ) → count from (all (map f (xs ++ ys))) ≡ option_and_then (λ m. count m (all (map f ys))) (count from (all (map f xs)))
append_on f [] ys from = refl
append_on f (x ∷ xs) ys from =
    elim (count from (f x)) as (λ (o : Option ℕ). option_and_then (λ m. count m (all (map f (xs ++ ys)))) o ≡ option_and_then (λ m. count m (all (map f ys))) (option_and_then (λ m. count m (all (map f xs))) o)) [ None ↦ refl | Some k ↦ append_on f xs ys k ]

-- what is added to the end counts on from what was there
pub added : {A : Type 0} (f : A → Numbers) (xs ys zs : List A) (from m n : ℕ) → zs ≡ xs ++ ys → count from (all (map f xs)) ≡ Some m → count m (all (map f ys)) ≡ Some n → count from (all (map f zs)) ≡ Some n
added {A} f xs ys zs from m n is has goes =
    ap (λ (ws : List A). count from (all (map f ws))) is ∙ append_on f xs ys from ∙ ap (option_and_then (λ k. count k (all (map f ys)))) has ∙ goes

pub pushed : {A : Type 0} (f : A → Numbers) (xs zs : List A) (x : A) (from m n : ℕ) → zs ≡ xs ++ x ∷ [] → count from (all (map f xs)) ≡ Some m → count m (f x) ≡ Some n → count from (all (map f zs)) ≡ Some n
pushed f xs zs x from m n is has goes = added f xs (x ∷ []) zs from m n is has (ap (option_and_then (λ k. Some k)) goes)

pub added_on : {A : Type 0} (f : A → Numbers) (xs ys zs : List A) (n m : ℕ) → zs ≡ xs ++ ys → count n (all (map f ys)) ≡ Some m → CountsOn (all (map f xs)) (all (map f zs)) n m
added_on f xs ys zs n m is goes = record { goes = λ from has. added f xs ys zs from n m is has goes }

pub counts_on : (old new : Numbers) (from n m : ℕ) → CountsOn old new n m → count from old ≡ Some n → count from new ≡ Some m
counts_on old new from n m on has = on.goes from has
