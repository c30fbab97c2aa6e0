-- What states cover, and what is kept of cells with numbers of their types.
use Rattle.std.proofs.Common.{◌≡◌, ℕ, zero, suc, ℤ, pos, ◌-ℤ◌, Bool, true, false, ◌||◌, List, [], ◌∷◌, Option, Some, None, slice_get, refl, ap, ◌∙◌}
use Rattle.machine_ints.proofs.Congruences.{multiple_one}
use Rattle.int_interval.specs.declared.shape.Shape.{Shape}
use Rattle.int_value.specs.Rows.{all_of}
use Rattle.int_value.specs.Standing.{Stands}
use Rattle.int_value.specs.declared.value.Value.{Value}
use Rattle.int_value.proofs.Widened.{widen_upper}
use Rattle.prop_set.specs.Sets.{is_member, union}
use Rattle.prop_set.proofs.Lists.{adds_all}
use Rattle.abs_cells.specs.Cells.{value_at}
use Rattle.abs_cells.proofs.Keeping.{included_keeps, join_keeps}
use Rattle.abs_state.specs.Laws.{HasUnless, IncludedCovers, IncludedStands, IsOfShape, JoinCovers, WholeStands, WidenKeeps}
use Rattle.abs_state.specs.States.{AllPass}
use Rattle.abs_state.specs.Widening.{whole_cells, widened}

-- ---- states

or_left : (a b : Bool) → a ≡ true → (a || b) ≡ true
or_left a b h = ap (λ (x : Bool). x || b) h

or_right : (a b : Bool) → b ≡ true → (a || b) ≡ true
or_right true b h = refl
or_right false b h = h

pass_left : (test : ℕ → Bool) (xs ys : List ℕ) → AllPass test (union xs ys) → AllPass test xs
pass_left test xs ys all p is = all p (adds_all p xs ys ∙ or_left (is_member p xs) (is_member p ys) is)

pass_right : (test : ℕ → Bool) (xs ys : List ℕ) → AllPass test (union xs ys) → AllPass test ys
pass_right test xs ys all p is = all p (adds_all p xs ys ∙ or_right (is_member p xs) (is_member p ys) is)

pub join_covers : JoinCovers
join_covers test a b c = (
  λ h all. (join_keeps a.env b.env c).0 (h (pass_left test a.used b.used all)),
  λ h all. (join_keeps a.env b.env c).1 (h (pass_right test a.used b.used all)),
)

pub included_stands : IncludedStands
included_stands a b c is h = included_keeps a.env b.env c is h

pub included_covers : IncludedCovers
included_covers test a b c is fewer h all = included_keeps a.env b.env c is (h (fewer all))

-- ---- cells and their types

-- nothing is known
unknown_stands : (o : Option ℤ) → Stands (all_of true) o
unknown_stands None = refl
unknown_stands (Some z) = (tt, multiple_one (z -ℤ pos 0))

module _ (turn : ℕ) (thresholds : List ℤ) where
  old_kept : (shapes : List Shape) (old next : List Value) (x : ℕ) (o : Option ℤ)
      → IsOfShape (slice_get shapes x) o
      → Stands (value_at old x) o → Stands (value_at (widened turn thresholds shapes old next) x) o
  old_kept [] old next x o is h = unknown_stands o
  old_kept (s ∷ shapes) [] next x o is h = unknown_stands o
  old_kept (s ∷ shapes) (v ∷ old) [] x o is h = unknown_stands o
  old_kept (s ∷ shapes) (v ∷ old) (w ∷ next) zero o is h = (widen_upper turn thresholds s v w o is).0 h
  old_kept (s ∷ shapes) (v ∷ old) (w ∷ next) (suc x) o is h = old_kept shapes old next x o is h

  next_kept : (shapes : List Shape) (old next : List Value) (x : ℕ) (o : Option ℤ)
      → IsOfShape (slice_get shapes x) o
      → Stands (value_at next x) o → Stands (value_at (widened turn thresholds shapes old next) x) o
  next_kept [] old next x o is h = unknown_stands o
  next_kept (s ∷ shapes) [] next x o is h = unknown_stands o
  next_kept (s ∷ shapes) (v ∷ old) [] x o is h = unknown_stands o
  next_kept (s ∷ shapes) (v ∷ old) (w ∷ next) zero o is h = (widen_upper turn thresholds s v w o is).1 h
  next_kept (s ∷ shapes) (v ∷ old) (w ∷ next) (suc x) o is h = next_kept shapes old next x o is h

pub widen_keeps : WidenKeeps
widen_keeps turn thresholds shapes old next c are = (
  λ h x. old_kept turn thresholds shapes old next x (c x) (are x) (h x),
  λ h x. next_kept turn thresholds shapes old next x (c x) (are x) (h x),
)

whole_at : (shapes : List Shape) (flags : List Bool) (x : ℕ) (o : Option ℤ)
    → IsOfShape (slice_get shapes x) o
    → HasUnless (slice_get flags x) o → Stands (value_at (whole_cells shapes flags) x) o
whole_at [] flags x o is has = unknown_stands o
whole_at (s ∷ shapes) [] x o is has = unknown_stands o
whole_at (s ∷ shapes) (f ∷ flags) zero None is has = has
whole_at (s ∷ shapes) (f ∷ flags) zero (Some z) is has = (is, multiple_one (z -ℤ pos 0))
whole_at (s ∷ shapes) (f ∷ flags) (suc x) o is has = whole_at shapes flags x o is has

pub whole_stands : WholeStands
whole_stands shapes flags c are have x = whole_at shapes flags x (c x) (are x) (have x)
