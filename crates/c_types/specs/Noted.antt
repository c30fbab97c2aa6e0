-- Which objects a note can name (C11 6.2.1): those of file scope and those of the function that it belongs to, whose cells
-- are among the program's.
use Rattle.std.specs.Prelude.{◌≡◌, ℕ, Bool, true, not, ◌&&◌, List, Option, Some, None, is_some}
use Rattle.std.specs.List.{list_all}
use Rattle.std.specs.Option.{option_map}
use Rattle.fc_base.specs.declared.ids.FnId.{FnId}
use Rattle.c_ir.specs.Formed.{cell_is, cells_are}
use Rattle.c_ir.specs.Preds.{is_seen_by}
use Rattle.c_ir.specs.declared.note.InScope.{InScope}
use Rattle.c_ir.specs.declared.note.NoteSpot.{NoteSpot}
use Rattle.c_ir.specs.declared.tree.CellInfo.{CellInfo}

-- of file scope or of this function; where there is no function, of file scope alone (6.2.1)
abbrev pub is_shown_to : Option ℕ → Option FnId → Bool
is_shown_to None owner = not (is_some owner)
is_shown_to (Some function) owner = is_seen_by function owner

-- so is the cell
abbrev pub is_shown : Option ℕ → CellInfo → Bool
is_shown function c = is_shown_to function c.owner

-- the cell of an object, or the cells of an array of this length, are there and pass a test (this project's own)
abbrev pub has_cells : (CellInfo → Bool) → List CellInfo → ℕ → Option ℕ → Bool
has_cells p cells first None = cell_is p cells first
has_cells p cells first (Some n) = cells_are p cells first n

-- whether the object's cells are there, each of file scope or of this function (6.2.1)
unfoldable pub object_fits : Option ℕ → List CellInfo → InScope → Bool
object_fits function cells o = has_cells (is_shown function) cells o.first o.length

-- the number of a function, if there is one
abbrev pub number_of : Option FnId → Option ℕ
number_of owner = option_map (λ f. f.0) owner

-- whether every name that a note can use fits (6.2.1)
unfoldable pub note_fits : List CellInfo → NoteSpot → Bool
note_fits cells n =
    list_all (object_fits (number_of n.owner) cells) n.names && list_all (object_fits (number_of n.owner) cells) n.before

-- every name that these notes can use fits the program's cells (6.2.1)
unfoldable pub NotesFit : List CellInfo → List NoteSpot → Type 0
NotesFit cells notes = list_all (note_fits cells) notes ≡ true
