-- The properties so far are the numbered rows so far.
use Rattle.std.specs.Prelude.{◌≡◌, ◌<◌, ◌+◌, ◌++◌, ℕ, List, length, get_or}
use Rattle.prop_table.specs.Rows.{Claim, Row, Spot, count_of, numbered, rows_behind}
use Rattle.prop_table.specs.declared.state.At.{At}
use Rattle.prop_table.specs.declared.state.Plain.{Plain}
use Rattle.prop_table.specs.declared.state.Rows.{Rows}

abbrev pub spot_of : At → Spot
spot_of a = record { number = a.function.0; function = a.fun.now; point = a.point.0 }

abbrev pub labelled : Plain → List ℕ → Claim
labelled c label = record { kind = c.kind; line = c.line; site = c.site; label = label }

-- these rows so far, of which the last are of these claims at the point at hand
pub record IsNumbered (s : Rows) (done : List Row) (before : List Claim) : Type 0 where
  pub rows_are : s.rows ≡ numbered 0 done
  pub counts_are : (k : ℕ) → k < 13 → get_or s.counts k 0 ≡ count_of k before

-- the properties of these claims were added
pub record Adds (old new : Rows) (s : Spot) (cs : List Claim) : Type 0 where
  pub adds : (done : List Row) (before : List Claim) → IsNumbered old done before
      → IsNumbered new (done ++ rows_behind s before cs) (before ++ cs)
  pub longer : length new.rows ≡ length old.rows + length cs

-- these rows were added
pub record AddsRows (old new : Rows) (more : List Row) : Type 0 where
  pub adds : (done : List Row) → old.rows ≡ numbered 0 done → new.rows ≡ numbered 0 (done ++ more)
  pub longer : length new.rows ≡ length old.rows + length more
