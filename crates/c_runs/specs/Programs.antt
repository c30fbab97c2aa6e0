-- The runs of a program (this project's own, on C11 5.1.2.2): from the entry of one function, with numbers of an input
-- where the program doesn't say what there is.
use Rattle.std.specs.Prelude.{ℕ, ◌+◌, ℤ, pos, negsuc, Bool, not, ◌&&◌, if◌then◌else◌, List, [], ◌∷◌, length, map, slice_get, slice_index_or, Option, Some, None, is_some}
use Rattle.param_book.specs.Table.{entry_function, signed_overflow}
use Rattle.c_ir.specs.Programs.{Program}
use Rattle.c_ir.specs.declared.tree.CellInfo.{CellInfo}
use Rattle.c_rules.specs.Constants.{is_zero}
use Rattle.c_runs.specs.Visits.{Cells, Piece, Visit, all_visits}
use Rattle.c_runs.specs.Runs.{Part, seq, all_run}
use Rattle.c_runs.specs.Statements.{World, formals_in, receiving, call_to}

-- a file-scope cell has its number at the start; the cells of functions have none
abbrev pub start_in : Option CellInfo → Option ℤ
start_in None = None
start_in (Some info) = info.start

abbrev pub start_cells : Program → Cells
start_cells p x = start_in (slice_get p.cells x)

-- the file-scope cells that aren't `const`, of these cells, of which the first has number x
abbrev pub is_free : CellInfo → Bool
is_free c = not (is_some c.owner) && not c.constant

abbrev pub free_cells : ℕ → List CellInfo → List ℕ
free_cells x [] = []
free_cells x (c ∷ cs) = if is_free c then x ∷ free_cells (x + 1) cs else free_cells (x + 1) cs

-- these cells have numbers of the input
abbrev pub receiving_all : Program → List ℕ → Part
receiving_all p xs = all_run (map (receiving p) xs)

-- the entry function's number; a value below 0 is no function's
abbrev pub entry_number : Program → ℤ → ℕ
entry_number p (pos n) = n
entry_number p (negsuc n) = length p.fns

-- whether the run begins like a library call
abbrev pub is_lib_entry : List ℤ → Bool
is_lib_entry values = not (is_zero (slice_index_or values 1 (pos 0)))

abbrev pub inputs : Program → Bool → ℕ → Part
inputs p lib g =
    seq (receiving_all p (if lib then free_cells 0 p.cells else []))
    (receiving_all p (formals_in (slice_get p.fns g)))

-- calls end, so no run is deeper than there are functions
abbrev pub whole : World → Bool → ℕ → Part
whole w lib g = seq (inputs w.program lib g) (call_to w (length w.program.fns) g)

abbrev pub world_of : Program → List ℤ → World
world_of p values = record {
  program = p;
  entry = entry_function values;
  overflow = not (is_zero (signed_overflow values));
}

-- the pieces of the run with this input and so many arrivals, under these values of the run parameters
unfoldable pub run_of : Program → List ℤ → List ℤ → ℕ → List Piece
run_of p values input n =
    (whole (world_of p values) (is_lib_entry values) (entry_number p (entry_function values)) n (start_cells p) input).pieces

abbrev pub visits_of_run : Program → List ℤ → List ℤ → ℕ → List Visit
visits_of_run p values input n = all_visits (run_of p values input n)
