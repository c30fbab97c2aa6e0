-- The bound of the domain.
use Rattle.std.proofs.Common.{◌≡◌, ℕ, ◌^◌, ◌≤◌, ◌<◌, ℤ, unsigned_abs, FitsSigned, Some, None, Bool, cond, ap, arith, ⊎_elim}
use Rattle.std.specs.Int.{w128}
use Rattle.std.proofs.lemmas.Int.{fits_signed_from_abs}
use Rattle.std.proofs.lemmas.Nat.{pow_below}
use Rattle.std.proofs.lemmas.Bool.{cases_lt, le-leb, lt-leb}
use Rattle.machine_ints.specs.Bound.{bounded}

-- what doesn't fit 128 bits is past the bound
pub bounded_unfit : (z : ℤ) → ¬ (FitsSigned w128 z) → bounded z ≡ None
bounded_unfit z n = grind (arith, fits_signed_from_abs w128 z)

-- the cut by the number's size
pub bounded_in : (z : ℤ) → unsigned_abs z ≤ 2 ^ 126 → bounded z ≡ Some z
bounded_in z h = ap (λ (b : Bool). cond b (Some z) None) (le-leb (unsigned_abs z) (2 ^ 126) h)

pub bounded_out : (z : ℤ) → 2 ^ 126 < unsigned_abs z → bounded z ≡ None
bounded_out z h = ap (λ (b : Bool). cond b (Some z) None) (lt-leb (unsigned_abs z) (2 ^ 126) h)

pub short_power : (by : ℕ) → by < 127 → 2 ^ by < 2 ^ 127
short_power by h = pow_below by 127 h

pub pow_64 : (width : ℕ) → width ≤ 64 → 2 ^ width ≤ 2 ^ 64
pow_64 width h = ⊎_elim (λ (p : width < 64). omega (arith, pow_below width 64 p)) (λ (p : 64 ≤ width). let e : width ≡ 64 = omega arith in rw e (omega arith)) (cases_lt width 64)
