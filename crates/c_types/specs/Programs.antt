-- The program of a text, and what is answered where it has none: the first breach; a function that leads to itself;
-- too many cells.
use Rattle.std.specs.Prelude.{◌≡◌, ◌<◌, ◌≤◌, ◌+◌, ℕ, true, nat_lt, if◌then◌else◌, List, [], ◌∷◌, ◌++◌, length, replicate, slice_get, slice_set, Option, Some, None, ℤ, pos, Result, Ok, Err}
use Rattle.std.specs.Option.{option_map}
use Rattle.fc_base.specs.declared.ids.FnId.{FnId}
use Rattle.c_ast.specs.declared.unit.Unit.{Unit as Text}
use Rattle.c_ir.specs.Keeps.{calls_in}
use Rattle.c_ir.specs.declared.program.Skeleton.{Skeleton}
use Rattle.c_ir.specs.declared.tree.CellInfo.{CellInfo}
use Rattle.c_ir.specs.declared.tree.Fun.{Fun}
use Rattle.c_rules.specs.declared.breach.Breach.{Breach}
use Rattle.c_rules.specs.declared.breach.Fault.{Fault}
use Rattle.c_rules.specs.declared.breach.Fault.TheVariants as B
use Rattle.c_typing.specs.FileScope.{Declared}
use Rattle.c_typing.specs.Texts.{funs_from, first_breach, walk_of}
use Rattle.c_typing.specs.Walking.{Went}
use Rattle.c_types.specs.declared.fault.TypeFault.{TypeFault}
use Rattle.c_types.specs.declared.fault.TypeFault.TheVariants as T
use Rattle.c_typing.specs.declared.file.Start.{Start}
use Rattle.c_typing.specs.declared.walk.Allocated.{Allocated}
use Rattle.call_cycles.specs.Calls.{Graph, FirstOnCycle}

-- ---- cells

-- a file-scope object starts at 0 (6.7.9, paragraph 10)
abbrev pub start_for : Option FnId → Option ℤ
start_for None = Some (pos 0)
start_for (Some f) = None

abbrev pub cell_of : Allocated → CellInfo
cell_of o = record {
  ty = o.ty;
  owner = o.owner;
  constant = o.constant;
  start = start_for o.owner;
  checked = o.checked;
}

abbrev pub cells_of : List Allocated → List CellInfo
cells_of [] = []
cells_of (o ∷ os) = replicate o.length (cell_of o) ++ cells_of os

abbrev pub changed_by : (CellInfo → CellInfo) → ℕ → List CellInfo → Option CellInfo → List CellInfo
changed_by f n cells None = cells
changed_by f n cells (Some c) = slice_set cells n (f c)

-- the cell of this number changed, if there is one
unfoldable pub changed : (CellInfo → CellInfo) → ℕ → List CellInfo → List CellInfo
changed f n cells = changed_by f n cells (slice_get cells n)

abbrev pub starts_at : ℤ → CellInfo → CellInfo
starts_at v c = record c { start = Some v }

abbrev pub is_constant : CellInfo → CellInfo
is_constant c = record c { constant = true }

-- the cells from the first on start at these values
abbrev pub with_values : ℕ → List ℤ → List CellInfo → List CellInfo
with_values first [] cells = cells
with_values first (v ∷ vs) cells = with_values (first + 1) vs (changed (starts_at v) first cells)

abbrev pub with_starts : List Start → List CellInfo → List CellInfo
with_starts [] cells = cells
with_starts (s ∷ ss) cells = with_starts ss (with_values s.first s.values cells)

abbrev pub with_constants : List ℕ → List CellInfo → List CellInfo
with_constants [] cells = cells
with_constants (c ∷ cs) cells = with_constants cs (changed is_constant c cells)

-- ---- calls

-- the callees that are the program's functions
abbrev pub below : ℕ → List ℕ → List ℕ
below n [] = []
below n (f ∷ fs) = if nat_lt f n then f ∷ below n fs else below n fs

abbrev pub graph_to : ℕ → List Fun → Graph
graph_to n [] = []
graph_to n (f ∷ fs) = below n (calls_in f.body) ∷ graph_to n fs

-- which functions each function calls
abbrev pub graph : List Fun → Graph
graph fs = graph_to (length fs) fs

-- ---- texts

abbrev pub functions_of : Declared → Went (List Fun)
functions_of d = funs_from 0 d.functions d.definitions [] d.names d.made

abbrev pub cell_count : Declared → ℕ
cell_count d = (functions_of d).made.cells

abbrev pub skeleton_of : Declared → Skeleton
skeleton_of d = record {
  program = record {
    fns = (functions_of d).value;
    cells = with_constants d.constants (with_starts d.starts (cells_of (functions_of d).made.objects));
    points = (functions_of d).made.points;
    sites = (functions_of d).made.sites;
  };
  notes = (functions_of d).made.notes;
}

abbrev pub most_cells : ℕ
most_cells = 4096

-- ---- answers

-- the first function that leads to itself has this name
pub record IsFirstRecursive (fs : List Fun) (x : List ℕ) : Type 0 where
  pub function : ℕ
  pub cycles : FirstOnCycle (graph fs) (Some function)
  pub name : option_map (λ f. f.name) (slice_get fs function) ≡ Some x

-- the name of the first function that leads to itself; none where no function does
unfoldable pub FirstRecursive : List Fun → Option (List ℕ) → Type 0
FirstRecursive fs None = FirstOnCycle (graph fs) None
FirstRecursive fs (Some x) = IsFirstRecursive fs x

-- a text without breach in which no function leads to itself, with few enough cells
pub record IsTyped (d : Declared) (s : Skeleton) : Type 0 where
  pub cycles : FirstRecursive (functions_of d).value None
  pub cells : cell_count d ≤ most_cells
  pub skeleton : s ≡ skeleton_of d

pub record IsTooLarge (d : Declared) (n : ℕ) : Type 0 where
  pub cycles : FirstRecursive (functions_of d).value None
  pub count : n ≡ cell_count d
  pub many : most_cells < n

abbrev pub fault_of : ℕ → Fault → TypeFault
fault_of at (B.Unknown x) = T.Unknown x
fault_of at (B.Twice x) = T.Twice x
fault_of at B.BadType = T.BadType at
fault_of at B.Arity = T.Arity at
fault_of at B.SideEffect = T.SideEffect at
fault_of at B.ConstWrite = T.ConstWrite at

abbrev pub Finishes : Declared → Result Skeleton TypeFault → Type 0
Finishes d (Ok s) = IsTyped d s
Finishes d (Err (T.Unknown x)) = ⊥
Finishes d (Err (T.Twice x)) = ⊥
Finishes d (Err (T.BadType at)) = ⊥
Finishes d (Err (T.Arity at)) = ⊥
Finishes d (Err (T.SideEffect at)) = ⊥
Finishes d (Err (T.Recursive x)) = FirstRecursive (functions_of d).value (Some x)
Finishes d (Err (T.ConstWrite at)) = ⊥
Finishes d (Err (T.TooManyCells n)) = IsTooLarge d n
Finishes d (Err T.Memory) = Unit {0}

abbrev pub Refuses : Breach → Result Skeleton TypeFault → Type 0
Refuses b (Ok s) = ⊥
Refuses b (Err T.Memory) = Unit {0}
Refuses b (Err e) = e ≡ fault_of b.at b.fault

-- the first breach comes before all else
abbrev pub Judges : Declared → Option Breach → Result Skeleton TypeFault → Type 0
Judges d None r = Finishes d r
Judges d (Some b) r = Refuses b r

-- what is answered of a text
abbrev pub Checks : Text → Result Skeleton TypeFault → Type 0
Checks u r = Judges (walk_of u).declared (first_breach u) r

-- an answer of a text that has a program
abbrev pub Repeats : Skeleton → Result Skeleton TypeFault → Type 0
Repeats s (Ok t) = t ≡ s
Repeats s (Err (T.Unknown x)) = ⊥
Repeats s (Err (T.Twice x)) = ⊥
Repeats s (Err (T.BadType at)) = ⊥
Repeats s (Err (T.Arity at)) = ⊥
Repeats s (Err (T.SideEffect at)) = ⊥
Repeats s (Err (T.Recursive x)) = ⊥
Repeats s (Err (T.ConstWrite at)) = ⊥
Repeats s (Err (T.TooManyCells n)) = ⊥
Repeats s (Err T.Memory) = Unit {0}

-- a text that has a program has one, and is refused only for want of memory
abbrev pub OneProgram : Type 0
OneProgram = (u : Text) (s : Skeleton) (r : Result Skeleton TypeFault) → Checks u (Ok s) → Checks u r → Repeats s r
