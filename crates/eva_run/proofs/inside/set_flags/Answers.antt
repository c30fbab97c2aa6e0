use Rattle.std.proofs.Common.{◌++◌, ◌∷◌, ◌≡◌, ◌<◌, ◌+◌, ℕ, zero, suc, true, Bool, List, [], drop, length, map, refl, sym, ap, ◌∙◌, arith}
use mathlib.Core.List.{append_assoc}
use Rattle.int_interval.specs.declared.shape.Shape.{Shape}
use Rattle.eva_rules.specs.Passing.{set_flag}
use Rattle.eva_run.proofs.inside.set_flags.Goals as goal

one_more : (i : ℕ) → suc i ≡ i + 1
one_more i = omega arith

next : (ss : List Shape) (i : ℕ) → i < length ss → map set_flag (drop i ss) ≡ true ∷ map set_flag (drop (suc i) ss)
next [] i h = absurd (omega arith)
next (s ∷ ss) zero h = refl
next (s ∷ ss) (suc i) h = next ss i (omega arith)

step : (ss : List Shape) (i : ℕ) → i < length ss → map set_flag (drop i ss) ≡ true ∷ map set_flag (drop (i + 1) ss)
step ss i h = next ss i h ∙ ap (λ (n : ℕ). true ∷ map set_flag (drop n ss)) (one_more i)

pub loop-shape-preserved : goal.loop-shape-preserved
loop-shape-preserved c =
    rw (c.in_ok-push.ensures.ok)
    (append_assoc c.loop-shape.flags _ _
    ∙ ap (λ (fs : List Bool). c.loop-shape.flags ++ fs) (sym (step c.args.shapes.now c.loop-shape._shape-index c.loop-shape-test.true))
    ∙ c.loop-shape.invariant)
