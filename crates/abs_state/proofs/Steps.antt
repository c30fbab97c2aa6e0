-- One cell of lists that are gone through together.
use Rattle.std.proofs.Common.{◌≡◌, ◌<◌, ◌≤◌, ◌+◌, ℕ, zero, suc, min, ℤ, Bool, List, [], ◌∷◌, drop, length, slice_index_or, refl, ap, ◌∙◌, arith}
use Rattle.int_interval.specs.declared.shape.Shape.{Shape}
use Rattle.int_value.specs.Rows.{whole_of}
use Rattle.int_value.specs.Widening.{widen_row}
use Rattle.int_value.specs.declared.value.Value.{Value}
use Rattle.abs_cells.specs.Cells.{value_at}
use Rattle.abs_state.specs.Widening.{whole_cells, widened}

one_more : (i : ℕ) → suc i ≡ i + 1
one_more i = omega arith

-- ---- widening

widened_next : (turn : ℕ) (thresholds : List ℤ) (ss : List Shape) (vs ws : List Value) (i : ℕ)
    (d : Shape) → i < length ss → i < length vs → i < length ws
    → widened turn thresholds (drop i ss) (drop i vs) (drop i ws)
    ≡ widen_row turn thresholds (slice_index_or ss i d) (value_at vs i) (value_at ws i)
    ∷ widened turn thresholds (drop (suc i) ss) (drop (suc i) vs) (drop (suc i) ws)
widened_next turn thresholds [] vs ws i d f g h = absurd (omega arith)
widened_next turn thresholds (s ∷ ss) [] ws i d f g h = absurd (omega arith)
widened_next turn thresholds (s ∷ ss) (v ∷ vs) [] i d f g h = absurd (omega arith)
widened_next turn thresholds (s ∷ ss) (v ∷ vs) (w ∷ ws) zero d f g h = refl
widened_next turn thresholds (s ∷ ss) (v ∷ vs) (w ∷ ws) (suc i) d f g h =
    widened_next turn thresholds ss vs ws i d (omega arith) (omega arith) (omega arith)

pub widened_step : (turn : ℕ) (thresholds : List ℤ) (ss : List Shape) (vs ws : List Value) (i : ℕ)
    (d : Shape) → i < min (min (length ss) (length vs)) (length ws)
    → widened turn thresholds (drop i ss) (drop i vs) (drop i ws)
    ≡ widen_row turn thresholds (slice_index_or ss i d) (value_at vs i) (value_at ws i)
    ∷ widened turn thresholds (drop (i + 1) ss) (drop (i + 1) vs) (drop (i + 1) ws)
widened_step turn thresholds ss vs ws i d h =
    widened_next turn thresholds ss vs ws i d (omega arith) (omega arith) (omega arith)
    ∙ ap (λ (n : ℕ). widen_row turn thresholds (slice_index_or ss i d) (value_at vs i) (value_at ws i)
    ∷ widened turn thresholds (drop n ss) (drop n vs) (drop n ws)) (one_more i)

no_old : (turn : ℕ) (thresholds : List ℤ) (ss : List Shape) (ws : List Value)
    → widened turn thresholds ss [] ws ≡ []
no_old turn thresholds [] ws = refl
no_old turn thresholds (s ∷ ss) ws = refl

no_next : (turn : ℕ) (thresholds : List ℤ) (ss : List Shape) (vs : List Value)
    → widened turn thresholds ss vs [] ≡ []
no_next turn thresholds [] vs = refl
no_next turn thresholds (s ∷ ss) [] = refl
no_next turn thresholds (s ∷ ss) (v ∷ vs) = refl

pub widened_end : (turn : ℕ) (thresholds : List ℤ) (ss : List Shape) (vs ws : List Value) (i : ℕ)
    → min (min (length ss) (length vs)) (length ws) ≤ i
    → widened turn thresholds (drop i ss) (drop i vs) (drop i ws) ≡ []
widened_end turn thresholds [] vs ws zero h = refl
widened_end turn thresholds [] vs ws (suc i) h = refl
widened_end turn thresholds (s ∷ ss) [] ws zero h = refl
widened_end turn thresholds (s ∷ ss) [] ws (suc i) h = no_old turn thresholds (drop i ss) (drop (suc i) ws)
widened_end turn thresholds (s ∷ ss) (v ∷ vs) [] zero h = refl
widened_end turn thresholds (s ∷ ss) (v ∷ vs) [] (suc i) h = no_next turn thresholds (drop i ss) (drop i vs)
widened_end turn thresholds (s ∷ ss) (v ∷ vs) (w ∷ ws) zero h = absurd (omega arith)
widened_end turn thresholds (s ∷ ss) (v ∷ vs) (w ∷ ws) (suc i) h =
    widened_end turn thresholds ss vs ws i (omega arith)

-- ---- whole types

whole_next : (ss : List Shape) (fs : List Bool) (i : ℕ) (d : Shape) (e : Bool)
    → i < length ss → i < length fs
    → whole_cells (drop i ss) (drop i fs)
    ≡ whole_of (slice_index_or ss i d) (slice_index_or fs i e)
    ∷ whole_cells (drop (suc i) ss) (drop (suc i) fs)
whole_next [] fs i d e g h = absurd (omega arith)
whole_next (s ∷ ss) [] i d e g h = absurd (omega arith)
whole_next (s ∷ ss) (f ∷ fs) zero d e g h = refl
whole_next (s ∷ ss) (f ∷ fs) (suc i) d e g h = whole_next ss fs i d e (omega arith) (omega arith)

pub whole_step : (ss : List Shape) (fs : List Bool) (i : ℕ) (d : Shape) (e : Bool)
    → i < length ss → i < length fs
    → whole_cells (drop i ss) (drop i fs)
    ≡ whole_of (slice_index_or ss i d) (slice_index_or fs i e)
    ∷ whole_cells (drop (i + 1) ss) (drop (i + 1) fs)
whole_step ss fs i d e g h =
    whole_next ss fs i d e g h
    ∙ ap (λ (n : ℕ). whole_of (slice_index_or ss i d) (slice_index_or fs i e)
    ∷ whole_cells (drop n ss) (drop n fs)) (one_more i)

no_flags : (ss : List Shape) → whole_cells ss [] ≡ []
no_flags [] = refl
no_flags (s ∷ ss) = refl

pub whole_end : (ss : List Shape) (fs : List Bool) (i : ℕ) → min (length ss) (length fs) ≤ i
    → whole_cells (drop i ss) (drop i fs) ≡ []
whole_end [] fs zero h = refl
whole_end [] fs (suc i) h = refl
whole_end (s ∷ ss) [] zero h = refl
whole_end (s ∷ ss) [] (suc i) h = no_flags (drop i ss)
whole_end (s ∷ ss) (f ∷ fs) zero h = absurd (omega arith)
whole_end (s ∷ ss) (f ∷ fs) (suc i) h = whole_end ss fs i (omega arith)
