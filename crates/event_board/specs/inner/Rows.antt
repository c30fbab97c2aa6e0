-- Rows of a fetch, and one change: the code's side.
use Rattle.std.specs.Prelude.{◌≡◌, List, [], ◌∷◌, ◌++◌, Bool, true, false, map, Option, Some, None, ◌&&◌, if◌then◌else◌}
use Rattle.event_board.specs.declared.page.PlacedRow.{PlacedRow}
use Rattle.status_history.specs.declared.history.Change.{Change}
use Rattle.status_history.specs.declared.history.Change.TheVariants.{Register, Param, Emit}
use Rattle.status_rules.specs.Fetch.{Has, Row, cursor_at, is_after, last_cursor}
use Rattle.status_rules.specs.declared.questions.Cursor.{Cursor}

-- whether a change registers an emitter
abbrev pub registers : Change → Bool
registers (Register name set) = true
registers (Param n x) = false
registers (Emit e) = false

-- what the program's row stands for
abbrev pub row : PlacedRow → Row
row r = record { status = r.status; changed = r.changed }

abbrev pub rows : List PlacedRow → List Row
rows rs = map row rs

-- no two rows are of one property
abbrev pub IsOnce : List Row → Type 0
IsOnce rs = (x y : Row) → Has rs x → Has rs y → x.status.prop.0 ≡ y.status.prop.0 → x ≡ y

-- whether the best row so far comes after another; so does none
abbrev pub is_before : Row → Option Row → Bool
is_before r None = true
is_before r (Some best) = is_after (cursor_at r) best

-- of a row and the best one so far the first after a cursor
abbrev pub nearer : Cursor → Option Row → Row → Option Row
nearer c best r = if is_after c r && is_before r best then Some r else best

-- of rows and the best one so far the first after a cursor
abbrev pub nearest : Cursor → Option Row → List Row → Option Row
nearest c best [] = best
nearest c best (r ∷ rs) = nearest c (nearer c best r) rs

-- rows and the next one after the last of them
abbrev pub with_row : List Row → Option Row → List Row
with_row given None = given
with_row given (Some r) = given ++ r ∷ []

abbrev pub with_next : List Row → Cursor → List Row → List Row
with_next rs c given = with_row given (nearest (last_cursor c given) None rs)
