-- What an emission does to the entries that count, and to verdicts (this project's own).
use Rattle.std.specs.Prelude.{◌≡◌, List, [], ◌∷◌, ◌++◌, ℕ, ◌+◌, false, not, ◌==◌, ◌&&◌, filter, length, if◌then◌else◌}
use Rattle.c_ir.specs.Props.{Props}
use Rattle.status_history.specs.declared.history.Change.TheVariants.{Emit}
use Rattle.status_history.specs.declared.history.Entry.{Entry}
use Rattle.status_history.specs.declared.history.History.{History}
use Rattle.status_history.specs.Values.{extended}
use Rattle.status_rules.specs.Counting.{PlacedEntry, counted_of, is_current, is_same_emitter}
use Rattle.status_rules.specs.Holds.{basis_of, is_on}
use Rattle.status_rules.specs.Verdicts.{verdict_of}
use Rattle.status_rows.specs.Reached.{is_reached}

-- a history and an emission
abbrev pub emitted : History → Entry → History
emitted h e = extended h (Emit e ∷ [])

-- an entry that is emitted after a history, with its place
abbrev pub next_entry : History → Entry → PlacedEntry
next_entry h e = record { place = length h.changes + 1; entry = e }

-- entries with one more at the end in place of that of its emitter
abbrev pub with_last : PlacedEntry → List PlacedEntry → List PlacedEntry
with_last e es = filter (λ x. not (is_same_emitter e x)) es ++ e ∷ []

-- the counted entries on a property after an emission
abbrev pub EmissionCounts : Type 0
EmissionCounts =
    (h : History) (e : Entry) (q : ℕ) → filter (is_on q) (counted_of (emitted h e))
    ≡ (if is_current h (next_entry h e) && (e.prop.0 == q)
    then with_last (next_entry h e) (filter (is_on q) (counted_of h))
    else filter (is_on q) (counted_of h))

-- verdicts that an emission doesn't reach
abbrev pub EmissionKeeps : Type 0
EmissionKeeps =
    (h : History) (t : Props) (e : Entry) (q : ℕ) → is_reached (basis_of h t) e.prop.0 q ≡ false
    → verdict_of (basis_of (emitted h e) t) q ≡ verdict_of (basis_of h t) q
