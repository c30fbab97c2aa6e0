-- Laws of sets.
use Rattle.std.specs.Prelude.{◌≡◌, ◌↔◌, ℕ, ◌==◌, ◌||◌, IsTrue, List}
use Rattle.prop_set.specs.Sets.{IsRising, is_member, with_member, union, is_within}

-- a number put into a list is one of it, and no other is added
abbrev pub AddsOne : Type 0
AddsOne = (m n : ℕ) (xs : List ℕ) → is_member m (with_member n xs) ≡ ((m == n) || is_member m xs)

-- a union has the members of both
abbrev pub AddsAll : Type 0
AddsAll = (m : ℕ) (xs ys : List ℕ) → is_member m (union xs ys) ≡ (is_member m xs || is_member m ys)

-- a list is within another if each number that is one of it is one of the other
abbrev pub IsWithin : Type 0
IsWithin = (xs ys : List ℕ)
    → IsTrue (is_within xs ys) ↔ ((m : ℕ) → IsTrue (is_member m xs) → IsTrue (is_member m ys))

-- rising lists stay rising
abbrev pub OneKeepsRising : Type 0
OneKeepsRising = (n : ℕ) (xs : List ℕ) → IsRising xs → IsRising (with_member n xs)

abbrev pub AllKeepRising : Type 0
AllKeepRising = (xs ys : List ℕ) → IsRising xs → IsRising (union xs ys)

-- two rising lists with the same members are equal
abbrev pub MembersDecide : Type 0
MembersDecide = (xs ys : List ℕ)
    → IsRising xs → IsRising ys → ((m : ℕ) → is_member m xs ≡ is_member m ys) → xs ≡ ys
