-- A fold over what a filter keeps.
use Rattle.std.proofs.Common.{◌≡◌, Bool, true, false, cond, List, [], ◌∷◌, fold, filter, refl}

pub fold-filter : {A B : Type 0} (f : B → A → B) (p : A → Bool) (a : B) (xs : List A) → fold (λ b x. cond (p x) (f b x) b) a xs ≡ fold f a (filter p xs)
fold-filter f p a [] = refl
fold-filter f p a (x ∷ xs) = by_test (p x) (fold-filter f p (f a x) xs) (fold-filter f p a xs)
  where
    by_test : (b : Bool) → fold (λ b x. cond (p x) (f b x) b) (f a x) xs ≡ fold f (f a x) (filter p xs) → fold (λ b x. cond (p x) (f b x) b) a xs ≡ fold f a (filter p xs)
        → fold (λ b x. cond (p x) (f b x) b) (cond b (f a x) a) xs ≡ fold f a (cond b (x ∷ filter p xs) (filter p xs))
    by_test true kept dropped = kept
    by_test false kept dropped = dropped
