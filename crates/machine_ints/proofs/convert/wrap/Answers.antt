use Rattle.std.proofs.Common.{◌≡◌, ℕ, ◌^◌, ◌<◌, ℤ, pos, neg_ℤ, ◌+ℤ◌, ◌≤ℤ◌, to_z, of_z, arith}
use Rattle.std.specs.Int.{w128}
use Rattle.std.proofs.lemmas.Int.{ints, to_z-of_z}
use Rattle.machine_ints.proofs.BoundLaws.{pow_64}
use Rattle.machine_ints.proofs.convert.wrap.Goals as goal

-- a short step from a low number is exact
stepped : (lo : ℤ) (step r : ℕ) → step ≡ r → step < 2 ^ 64 → neg_ℤ (pos (2 ^ 63)) ≤ℤ lo → lo ≤ℤ pos 0 → to_z w128 (of_z w128 (to_z w128 (of_z w128 lo) +ℤ to_z w128 step)) ≡ lo +ℤ pos r
stepped lo step r e small low high = omega (arith, ints)

pub returns : goal.returns
returns c =
    let fl = c.ranges.lo in
    let fv = c.ranges.value in
    let e = simp to_z-of_z at c.residue_of_difference-step.ensures.value in
    stepped c.args.lo _ _ (rw (c.unsigned_power_of_two.ensures) at e) (omega (arith, pow_64 c.args.width c.requires.width)) c.requires.low c.requires.high
