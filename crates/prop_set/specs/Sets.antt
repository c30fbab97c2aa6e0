-- Sets of numbers as lists in rising order (this project's own).
use Rattle.std.specs.Prelude.{◌≤◌, ◌+◌, ℕ, Bool, true, false, ◌==◌, ◌||◌, ◌&&◌, if◌then◌else◌, nat_lt, List}
use Rattle.std.specs.Prelude.{[], ◌∷◌, map}
use Rattle.fc_base.specs.declared.ids.PropId.{PropId}

-- the numbers rise, and none is below n
abbrev pub RisesFrom : ℕ → List ℕ → Type 0
RisesFrom n [] = Unit {0}
RisesFrom n (x ∷ xs) = (n ≤ x) × RisesFrom (x + 1) xs

-- each number is greater than the one before
abbrev pub IsRising : List ℕ → Type 0
IsRising xs = RisesFrom 0 xs

-- whether n is one of the numbers
abbrev pub is_member : ℕ → List ℕ → Bool
is_member n [] = false
is_member n (x ∷ xs) = (n == x) || is_member n xs

-- rising numbers with n in its place among them, if it isn't there
abbrev pub with_member : ℕ → List ℕ → List ℕ
with_member n [] = n ∷ []
with_member n (x ∷ xs) = if nat_lt x n then x ∷ with_member n xs else (if n == x then x ∷ xs else n ∷ x ∷ xs)

-- the numbers of both, where the first rise
abbrev pub union : List ℕ → List ℕ → List ℕ
union xs [] = xs
union xs (y ∷ ys) = union (with_member y xs) ys

-- whether each of the first numbers is one of the second
abbrev pub is_within : List ℕ → List ℕ → Bool
is_within [] ys = true
is_within (x ∷ xs) ys = is_member x ys && is_within xs ys

-- the properties with these numbers
abbrev pub prop_id : ℕ → PropId
prop_id n = record { 0 = n }

abbrev pub prop_ids : List ℕ → List PropId
prop_ids ns = map prop_id ns
