-- One cell of two lists, and one element of an array.
use Rattle.std.proofs.Common.{◌≡◌, ◌<◌, ◌≤◌, ◌+◌, ◌-◌, ℕ, zero, suc, min, Bool, true, false, cond, ◌&&◌, List, [], ◌∷◌, drop, length, slice_index_or, refl, ap, sym, ◌∙◌, arith}
use Rattle.std.specs.Prelude.{pos}
use Rattle.int_value.specs.Rows.{contains_row, included_row, join_row}
use Rattle.int_value.specs.declared.value.Value.{Value}
use Rattle.abs_cells.specs.Cells.{elements_from, is_included, joined, value_at}

one_more : (i : ℕ) → suc i ≡ i + 1
one_more i = omega arith

included_next : (vs ws : List Value) (i : ℕ) (d e : Value) → i < length vs → i < length ws
    → is_included (drop i vs) (drop i ws)
    ≡ (included_row (slice_index_or vs i d) (slice_index_or ws i e) && is_included (drop (suc i) vs) (drop (suc i) ws))
included_next [] ws i d e h k = absurd (omega arith)
included_next (v ∷ vs) [] i d e h k = absurd (omega arith)
included_next (v ∷ vs) (w ∷ ws) zero d e h k = refl
included_next (v ∷ vs) (w ∷ ws) (suc i) d e h k = included_next vs ws i d e (omega arith) (omega arith)

pub included_step : (vs ws : List Value) (i : ℕ) (d e : Value) → i < length vs → i < length ws
    → is_included (drop i vs) (drop i ws)
    ≡ (included_row (slice_index_or vs i d) (slice_index_or ws i e) && is_included (drop (i + 1) vs) (drop (i + 1) ws))
included_step vs ws i d e h k =
    included_next vs ws i d e h k
    ∙ ap (λ (n : ℕ). included_row (slice_index_or vs i d) (slice_index_or ws i e) && is_included (drop n vs) (drop n ws))
    (one_more i)

pub included_end : (vs ws : List Value) (i : ℕ) → length ws ≤ i → is_included (drop i vs) (drop i ws) ≡ true
included_end vs [] zero h = refl
included_end vs (w ∷ ws) zero h = absurd (omega arith)
included_end vs [] (suc i) h = refl
included_end [] (w ∷ ws) (suc i) h = ends ws i (omega arith)
  where
    ends : (ws : List Value) (i : ℕ) → length ws ≤ i → is_included [] (drop i ws) ≡ true
    ends [] zero h = refl
    ends [] (suc i) h = refl
    ends (w ∷ ws) zero h = absurd (omega arith)
    ends (w ∷ ws) (suc i) h = ends ws i (omega arith)
included_end (v ∷ vs) (w ∷ ws) (suc i) h = included_end vs ws i (omega arith)

pub included_short : (vs ws : List Value) → length vs < length ws → is_included vs ws ≡ false
included_short vs [] h = absurd (omega arith)
included_short [] (w ∷ ws) h = refl
included_short (v ∷ vs) (w ∷ ws) h = by_rest (included_row v w) (included_short vs ws (omega arith))
  where
    by_rest : (b : Bool) → is_included vs ws ≡ false → (b && is_included vs ws) ≡ false
    by_rest true e = e
    by_rest false e = refl

joined_next : (vs ws : List Value) (i : ℕ) (d e : Value) → i < length vs → i < length ws
    → joined (drop i vs) (drop i ws)
    ≡ join_row (slice_index_or vs i d) (slice_index_or ws i e) ∷ joined (drop (suc i) vs) (drop (suc i) ws)
joined_next [] ws i d e h k = absurd (omega arith)
joined_next (v ∷ vs) [] i d e h k = absurd (omega arith)
joined_next (v ∷ vs) (w ∷ ws) zero d e h k = refl
joined_next (v ∷ vs) (w ∷ ws) (suc i) d e h k = joined_next vs ws i d e (omega arith) (omega arith)

pub joined_step : (vs ws : List Value) (i : ℕ) (d e : Value) → i < length vs → i < length ws
    → joined (drop i vs) (drop i ws)
    ≡ join_row (slice_index_or vs i d) (slice_index_or ws i e) ∷ joined (drop (i + 1) vs) (drop (i + 1) ws)
joined_step vs ws i d e h k =
    joined_next vs ws i d e h k
    ∙ ap (λ (n : ℕ). join_row (slice_index_or vs i d) (slice_index_or ws i e) ∷ joined (drop n vs) (drop n ws))
    (one_more i)

pub joined_end : (vs ws : List Value) (i : ℕ) → min (length vs) (length ws) ≤ i → joined (drop i vs) (drop i ws) ≡ []
joined_end [] ws zero h = refl
joined_end [] ws (suc i) h = refl
joined_end (v ∷ vs) [] zero h = refl
joined_end (v ∷ vs) [] (suc i) h = none (drop i vs)
  where
    none : (vs : List Value) → joined vs [] ≡ []
    none [] = refl
    none (v ∷ vs) = refl
joined_end (v ∷ vs) (w ∷ ws) zero h = absurd (omega arith)
joined_end (v ∷ vs) (w ∷ ws) (suc i) h = joined_end vs ws i (omega arith)

pub elements_step : (cells : List Value) (first : ℕ) (index v : Value) (k end : ℕ) → k < end
    → elements_from cells first index v k (end - k)
    ≡ elements_from cells first index
    (cond (contains_row index (pos k)) (join_row v (value_at cells (first + k))) v) (k + 1) (end - (k + 1))
elements_step cells first index v k end h = ap (elements_from cells first index v k) more
  where
    more : end - k ≡ suc (end - (k + 1))
    more = omega arith

pub elements_end : (cells : List Value) (first : ℕ) (index v : Value) (k end : ℕ) → end ≤ k
    → elements_from cells first index v k (end - k) ≡ v
elements_end cells first index v k end h = ap (elements_from cells first index v k) none
  where
    none : end - k ≡ 0
    none = omega arith
