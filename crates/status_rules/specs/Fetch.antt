-- The order of rows in a fetch, and what a fetch gives (this project's own): `IsFetched`.
use Rattle.std.specs.Prelude.{◌≡◌, ◌≤◌, List, [], ◌∷◌, ℕ, Bool, true, ◌==◌, ◌&&◌, ◌||◌, nat_lt, map, length, if◌then◌else◌, ⊤, ◌⊎◌}
use Rattle.std.specs.List.{list_any}
use Rattle.fc_base.specs.declared.verdict.Verdict.{Verdict}
use Rattle.c_ir.specs.Props.{Props}
use Rattle.status_history.specs.declared.history.History.{History}
use Rattle.status_rules.specs.declared.questions.Cursor.{Cursor}
use Rattle.status_rules.specs.declared.questions.Cursor.TheVariants.{Start, After}
use Rattle.status_rules.specs.declared.questions.Fetched.{Fetched}
use Rattle.status_rules.specs.declared.questions.StatusRow.{StatusRow}
use Rattle.status_rules.specs.Changed.{changed_of}
use Rattle.status_rules.specs.Holds.{at_each, basis_of}
use Rattle.status_rules.specs.Verdicts.{verdict_of}

-- a property with its verdict and the place of the last change that altered it
pub record Row : Type 0 where
  pub status : StatusRow
  pub changed : ℕ

-- all rows, in the order of the table
abbrev pub row_of : History → Props → ℕ → Row
row_of h t p =
    record {
      status = record { prop = record { 0 = p }; verdict = verdict_of (basis_of h t) p };
      changed = changed_of h t p;
    }

unfoldable pub rows_of : History → Props → List Row
rows_of h t = at_each (row_of h t) 0 t.rows

-- the cursor at a row
abbrev pub cursor_at : Row → Cursor
cursor_at r = After r.changed r.status.prop.0

-- whether a row comes after a cursor: it was altered later, or at the same place and has a greater number
abbrev pub is_after : Cursor → Row → Bool
is_after Start r = true
is_after (After place prop) r =
    nat_lt place r.changed || ((place == r.changed) && nat_lt prop r.status.prop.0)

-- whether a row is one of these
abbrev pub Has : List Row → Row → Type 0
Has [] r = ⊥
Has (x ∷ xs) r = (x ≡ r) ⊎ Has xs r

-- rows that stand in order: the first after a cursor, and each after the one before
abbrev pub IsRising : Cursor → List Row → Type 0
IsRising c [] = ⊤
IsRising c (r ∷ rs) = (is_after c r ≡ true) × IsRising (cursor_at r) rs

-- the cursor at the last of these rows; another one, where there is none
abbrev pub last_cursor : Cursor → List Row → Cursor
last_cursor c [] = c
last_cursor c (r ∷ rs) = last_cursor (cursor_at r) rs

-- the first ones of the rows that come after a cursor, in order, up to a limit: each other row there comes after
-- the last of them
pub record IsGiven (rows : List Row) (c : Cursor) (limit : ℕ) (given : List Row) : Type 0 where
  pub rising : IsRising c given
  pub of_rows : (r : Row) → Has given r → Has rows r
  pub first : (r : Row) → Has rows r → is_after c r ≡ true
      → Has given r ⊎ (is_after (last_cursor c given) r ≡ true)
  pub within : length given ≤ limit

-- whether a row comes after a cursor
abbrev pub is_left : List Row → Cursor → Bool
is_left rows c = list_any (is_after c) rows

-- what is given, where rows are left or not: then the cursor is the last row given, and else it comes after all rows
-- of a history of this length
abbrev pub page : Bool → ℕ → Cursor → List Row → Fetched
page left len c given = record {
  cursor = if left then last_cursor c given else After len 4294967295;
  rows = map (λ r. r.status) given;
  more = left;
}

-- what a fetch of rows gives: the first ones after the cursor, and as many as the limit says if others are left
pub record IsPage (rows : List Row) (len : ℕ) (c : Cursor) (limit : ℕ) (fetched : Fetched) : Type 0 where
  pub given : List Row
  pub is_given : IsGiven rows c limit given
  pub all_taken : is_left rows (last_cursor c given) ≡ true → length given ≡ limit
  pub is_page : fetched ≡ page (is_left rows (last_cursor c given)) len c given

-- what a fetch gives of a history
abbrev pub IsFetched : History → Props → Cursor → ℕ → Fetched → Type 0
IsFetched h t c limit fetched = IsPage (rows_of h t) (length h.changes) c limit fetched
