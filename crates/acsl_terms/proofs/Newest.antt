-- Of declarations of one name the newest is the one that a place can name.
use Rattle.std.proofs.Common.{◌≡◌, ◌∙◌, ℕ, Bool, true, false, List, [], ◌∷◌, Option, Some, None, is_some, bytes_eq, nat_lt, cond, refl, ap, sym, subst}
use Rattle.std.proofs.lemmas.Bool.{true≢false}
use Rattle.std.proofs.lemmas.Slice.Eq.{bytes_eq-Decides}
use Rattle.std.specs.List.{position, position_from}
use Rattle.std.proofs.lemmas.Iterator.Adapters.{position_from-zero}
use Rattle.c_ir.specs.declared.note.InScope.{InScope}
use Rattle.c_ir.specs.Scopes.{without, insert, nameable}
use Rattle.acsl_terms.specs.Names.{object_of}

pub from_start : {X : Type 0} (test : X → Bool) (xs : List X) → position test xs ≡ position_from test 0 xs
from_start test xs = position_from-zero test xs

-- where the name isn't that of the object that is put in
passed_if : (x : List ℕ) (d y : InScope) (ys : List InScope) (b : Bool) → bytes_eq x d.name ≡ false → object_of x (insert d ys) ≡ object_of x ys → object_of x (cond b (d ∷ y ∷ ys) (y ∷ insert d ys)) ≡ object_of x (y ∷ ys)
passed_if x d y ys true is more = rw is refl
passed_if x d y ys false is more = ap (λ o. cond (bytes_eq x y.name) (Some y) o) more

passed : (x : List ℕ) (d : InScope) (xs : List InScope) → bytes_eq x d.name ≡ false → object_of x (insert d xs) ≡ object_of x xs
passed x d [] is = rw is refl
passed x d (y ∷ ys) is = passed_if x d y ys (nat_lt d.first y.first) is (passed x d ys is)

-- where it is, and no other object has the name
found_after : (x : List ℕ) (d y : InScope) (ys : List InScope) (b : Bool) → bytes_eq x y.name ≡ b → cond b (Some y) (object_of x ys) ≡ None → (object_of x ys ≡ None → object_of x (insert d ys) ≡ Some d) → cond b (Some y) (object_of x (insert d ys)) ≡ Some d
found_after x d y ys true is none more = absurd (true≢false (ap (λ (o : Option InScope). is_some o) none))
found_after x d y ys false is none more = more none

found_if : (x : List ℕ) (d y : InScope) (ys : List InScope) (b : Bool) → bytes_eq x d.name ≡ true → object_of x (y ∷ ys) ≡ None → (object_of x ys ≡ None → object_of x (insert d ys) ≡ Some d) → object_of x (cond b (d ∷ y ∷ ys) (y ∷ insert d ys)) ≡ Some d
found_if x d y ys true is none more = rw is refl
found_if x d y ys false is none more = found_after x d y ys (bytes_eq x y.name) refl none more

found : (x : List ℕ) (d : InScope) (xs : List InScope) → bytes_eq x d.name ≡ true → object_of x xs ≡ None → object_of x (insert d xs) ≡ Some d
found x d [] is none = rw is refl
found x d (y ∷ ys) is none = found_if x d y ys (nat_lt d.first y.first) is none (found x d ys is)

-- none of the name is left
gone_if : (x : List ℕ) (y : InScope) (ys : List InScope) (b : Bool) → bytes_eq x y.name ≡ b → object_of x (without x ys) ≡ None → object_of x (cond b (without x ys) (y ∷ without x ys)) ≡ None
gone_if x y ys true is more = more
gone_if x y ys false is more = rw is more

gone : (x : List ℕ) (xs : List InScope) → object_of x (without x xs) ≡ None
gone x [] = refl
gone x (y ∷ ys) = gone_if x y ys (bytes_eq x y.name) refl (gone x ys)

-- what isn't of the name is left
left_if : (x z : List ℕ) (y : InScope) (ys : List InScope) (b : Bool) → bytes_eq z y.name ≡ b → bytes_eq x z ≡ false → object_of x (without z ys) ≡ object_of x ys → object_of x (cond b (without z ys) (y ∷ without z ys)) ≡ object_of x (y ∷ ys)
left_if x z y ys true is other more =
    let same = (bytes_eq-Decides z y.name).0 is in
    let apart = subst (λ (n : List ℕ). bytes_eq x n ≡ false) same other in rw apart more
left_if x z y ys false is other more = ap (λ o. cond (bytes_eq x y.name) (Some y) o) more

left : (x z : List ℕ) (xs : List InScope) → bytes_eq x z ≡ false → object_of x (without z xs) ≡ object_of x xs
left x z [] is = refl
left x z (y ∷ ys) is = left_if x z y ys (bytes_eq z y.name) refl is (left x z ys is)

newest_if : (x : List ℕ) (d : InScope) (xs : List InScope) (o : Option InScope) (b : Bool) → bytes_eq x d.name ≡ b → object_of x xs ≡ o → object_of x (insert d (without d.name xs)) ≡ cond b (Some d) o
newest_if x d xs o true is more =
    let none = subst (λ (n : List ℕ). object_of n (without d.name xs) ≡ None) (sym ((bytes_eq-Decides x d.name).0 is)) (gone d.name xs) in
    found x d (without d.name xs) is none
newest_if x d xs o false is more = passed x d (without d.name xs) is ∙ (left x d.name xs is ∙ more)

pub newest_is : (x : List ℕ) (ds : List InScope) → object_of x (nameable ds) ≡ object_of x ds
unfolding nameable
newest_is x [] = refl
newest_is x (d ∷ ds) = newest_if x d (nameable ds) (object_of x ds) (bytes_eq x d.name) refl (newest_is x ds)
