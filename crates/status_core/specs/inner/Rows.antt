-- Rows, and how they are written anew: the code's side.
use Rattle.std.specs.Prelude.{List, [], ◌∷◌, ℕ, slice_index_or, slice_set, if◌then◌else◌}
use denote.Enum.Bare.{sameb}
use Rattle.fc_base.specs.contracts.verdict.Verdict.{the_type}
use Rattle.fc_base.specs.declared.verdict.Verdict.{Verdict}
use Rattle.c_ir.specs.Props.{Props}
use Rattle.event_board.specs.declared.page.PlacedVerdict.{PlacedVerdict}
use Rattle.status_history.specs.declared.history.History.{History}
use Rattle.status_rules.specs.Changed.{changed_of}
use Rattle.status_rules.specs.Holds.{basis_of}
use Rattle.status_rules.specs.Verdicts.{verdict_of}

-- the row of a property
abbrev pub row_of : History → Props → ℕ → PlacedVerdict
row_of h t p = record { verdict = verdict_of (basis_of h t) p; changed = changed_of h t p }

-- a row after change number n, which leaves this verdict
abbrev pub next_row : ℕ → Verdict → PlacedVerdict → PlacedVerdict
next_row n v r = record { verdict = v; changed = if sameb the_type v r.verdict then r.changed else n }

-- the row of a property after change number n
abbrev pub row_after : History → Props → ℕ → ℕ → PlacedVerdict → PlacedVerdict
row_after h t n p r = next_row n (verdict_of (basis_of h t) p) r

-- rows after each of these was written anew
abbrev pub refreshed : (ℕ → PlacedVerdict → PlacedVerdict) → PlacedVerdict → List ℕ → List PlacedVerdict → List PlacedVerdict
refreshed f d [] rows = rows
refreshed f d (q ∷ qs) rows = refreshed f d qs (slice_set rows q (f q (slice_index_or rows q d)))

-- the row of a property after change number n, where these were the rows before
abbrev pub row_anew : History → Props → ℕ → List PlacedVerdict → PlacedVerdict → ℕ → PlacedVerdict
row_anew h t n old none q = row_after h t n q (slice_index_or old q none)

-- the row of a property where nothing has happened
abbrev pub first_row : History → Props → ℕ → PlacedVerdict
first_row h t p = record { verdict = verdict_of (basis_of h t) p; changed = 0 }
