-- Rows by their numbers: no two are of one property.
use Rattle.std.proofs.Common.{◌≡◌, ℕ, ◌+◌, ◌<◌, ◌≤◌, List, [], ◌∷◌, length, get_or, drop, sym, ap, subst, ◌∙◌, inl, inr, arith}
use Rattle.std.proofs.lemmas.List.{at_drop_more}
use Rattle.status_rules.specs.Fetch.{Has, Row}
use Rattle.event_board.specs.declared.page.PlacedVerdict.{PlacedVerdict}
use Rattle.event_board.specs.Numbered.{row_at, rows_from}
use Rattle.event_board.specs.inner.Rows.{IsOnce}

number_from : (n : ℕ) (vs : List PlacedVerdict) (r : Row) → Has (rows_from n vs) r → n ≤ r.status.prop.0
number_from n [] r h = absurd h
number_from n (v ∷ vs) r h =
    elim h [
      | inl same ↦ let e = ap (λ (x : Row). x.status.prop.0) same in omega (arith, e)
      | inr later ↦ let more = number_from (n + 1) vs r later in omega (arith, more)
    ]

once_from : (n : ℕ) (vs : List PlacedVerdict) → IsOnce (rows_from n vs)
once_from n [] x y hx hy same = absurd hx
once_from n (v ∷ vs) x y hx hy same =
    elim hx [
      | inl here ↦ elim hy [
        | inl there ↦ sym here ∙ there
        | inr later ↦
            let first = ap (λ (r : Row). r.status.prop.0) here in
            let above = number_from (n + 1) vs y later in
            absurd (omega (arith, first, above, same))
      ]
      | inr early ↦ elim hy [
        | inl there ↦
            let first = ap (λ (r : Row). r.status.prop.0) there in
            let above = number_from (n + 1) vs x early in
            absurd (omega (arith, first, above, same))
        | inr later ↦ once_from (n + 1) vs x y early later same
      ]
    ]

pub rows_once : (vs : List PlacedVerdict) (rs : List Row) → rs ≡ rows_from 0 vs → IsOnce rs
rows_once vs rs is = subst IsOnce (sym is) (once_from 0 vs)

pub rows_more : (vs : List PlacedVerdict) (i : ℕ) (v : PlacedVerdict) → i < length vs → v ≡ get_or vs i v
    → rows_from i (drop i vs) ≡ row_at i v ∷ rows_from (i + 1) (drop (i + 1) vs)
rows_more vs i v h is =
    at_drop_more (rows_from i) vs i v h ∙ ap (λ w. row_at i w ∷ rows_from (i + 1) (drop (i + 1) vs)) (sym is)
