-- When a fault may be answered (this project's own). An object of the outside counts its faults, in a
-- number that never falls and stands still at 2 ^ 64 - 1.
use Rattle.std.specs.Prelude.{◌≡◌, ◌+◌, ◌-◌, ◌^◌, ◌≤◌, ℕ, min}

-- a fault came between these two counts
abbrev pub Rose : ℕ → ℕ → Type 0
Rose before now = min (before + 1) (2 ^ 64 - 1) ≤ now

-- the count never falls, and the answer is a fault only where one came
pub record HasCause {A : Type 0} (fault : A) (before now : ℕ) (answer : A) : Type 0 where
  pub later : before ≤ now
  pub rose : answer ≡ fault → Rose before now
