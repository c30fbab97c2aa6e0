-- Which statements are well formed in the body of a function (C11 6.7, 6.8): each has a point of its function; its
-- expressions are well formed where they stand, and the sites of their operators have this point and their checks;
-- values are of the types that they are converted to; and jumps stand where they may.
use Rattle.std.specs.Prelude.{◌==◌, nat_le, ℕ, Bool, true, false, ◌&&◌, List, [], ◌∷◌, length, map, slice_get, Option, Some, None}
use Rattle.std.specs.List.{list_all}
use Rattle.fc_base.specs.declared.ids.PointId.{PointId}
use Rattle.c_ir.specs.Formed.{Layout, cells_are, is_read_as, on_some}
use Rattle.c_ir.specs.Numbers.{Numbers, both, own_point, points_of_all}
use Rattle.c_ir.specs.Preds.{Outlook, is_pred}
use Rattle.c_ir.specs.Sited.{at_sites}
use Rattle.c_ir.specs.Trees.{ty_of}
use Rattle.c_ir.specs.Types.{same_type}
use Rattle.c_ir.specs.declared.kind.Kind.{Kind}
use Rattle.c_ir.specs.declared.kind.Kind.TheVariants as K
use Rattle.c_ir.specs.declared.place.Place.{Place}
use Rattle.c_ir.specs.declared.place.Place.TheVariants as P
use Rattle.c_ir.specs.declared.ty.IntType.{IntType}
use Rattle.c_ir.specs.declared.tree.CellInfo.{CellInfo}
use Rattle.c_ir.specs.declared.tree.Expr.{Expr}
use Rattle.c_ir.specs.declared.tree.Init.{Init}
use Rattle.c_ir.specs.declared.tree.Init.TheVariants as I
use Rattle.c_ir.specs.declared.tree.PointClause.{PointClause}
use Rattle.c_ir.specs.declared.tree.PointInfo.{PointInfo}
use Rattle.c_ir.specs.declared.tree.SiteInfo.{SiteInfo}
use Rattle.c_ir.specs.declared.tree.Stmt.{Stmt, fold-Stmt}
use Rattle.c_ir.specs.declared.tree.Stmt.TheOpen.{Stmt-F}
use Rattle.c_ir.specs.Placed.{is_formed}

-- what a body is over
pub record Frame : Type 0 where
  -- the program's cells and functions, its operators and its points
  pub layout : Layout
  pub sites : List SiteInfo
  pub points : List PointInfo
  -- the function whose body it is, and the type of its result, if it has one
  pub function : ℕ
  pub result : Option IntType

-- ---- points

-- what has a point: the entry or the exit of a function, a loop, a note that is a statement, or another statement
pub data Stand : Type 0 where
  AtEntry : Stand
  AtExit : Stand
  AtLoop : Stand
  AtNote : Stand
  Plain : Stand

-- where clauses of a kind stand; no clause is an alarm, a `requires` of a callee or the claim that no run arrives
abbrev pub stand_of : Kind → Option Stand
stand_of K.Requires = Some AtEntry
stand_of K.CallRequires = None
stand_of K.Ensures = Some AtExit
stand_of K.Assert = Some AtNote
stand_of K.Check = Some AtNote
stand_of K.Admit = Some AtNote
stand_of K.LoopInvariant = Some AtLoop
stand_of (K.Alarm a) = None
stand_of K.Dead = None

-- a number for each, by which two are compared
abbrev pub stand_number : Stand → ℕ
stand_number AtEntry = 0
stand_number AtExit = 1
stand_number AtLoop = 2
stand_number AtNote = 3
stand_number Plain = 4

abbrev pub same_stand : Stand → Stand → Bool
same_stand a b = stand_number a == stand_number b

-- a note that is a statement is one clause; elsewhere stand any number of clauses
abbrev pub clauses_are : Stand → ℕ → Bool
clauses_are AtEntry n = true
clauses_are AtExit n = true
clauses_are AtLoop n = true
clauses_are AtNote n = n == 1
clauses_are Plain n = n == 0

-- only an `ensures` names values at the entry
abbrev pub outlook : Frame → Stand → Outlook
outlook f stand = record { cells = f.layout.cells; function = f.function; old = same_stand stand AtExit }

abbrev pub clause_fits : Frame → Stand → PointClause → Bool
clause_fits f stand c = on_some (same_stand stand) (stand_of c.kind) && is_pred (outlook f stand) c.pred

-- the point is one of the function
abbrev pub is_owned : ℕ → PointInfo → Bool
is_owned function info = info.owner.0 == function

-- so it is, and its clauses are those that may stand there
abbrev pub bears : Frame → Stand → PointInfo → Bool
bears f stand info =
    is_owned f.function info && (clauses_are stand (length info.clauses) && list_all (clause_fits f stand) info.clauses)

unfoldable pub is_own : Frame → Stand → PointId → Bool
is_own f stand p = on_some (bears f stand) (slice_get f.points p.0)

-- ---- expressions

-- an expression that stands there and is evaluated at this point
unfoldable pub expr_fits : Frame → PointId → Place → Expr → Bool
expr_fits f p place e = is_formed f.layout place e && at_sites f.sites p e

-- one of this type
abbrev pub value_fits : Frame → PointId → Place → IntType → Expr → Bool
value_fits f p place ty e = expr_fits f p place e && same_type (ty_of e) ty

abbrev pub value_if_fits : Frame → PointId → Place → Option Expr → Bool
value_if_fits f p place None = true
value_if_fits f p place (Some e) = expr_fits f p place e

-- ---- declarators (6.7.9)

-- the initialiser of an object of this type, or of an array of so many elements; a call may stand where one value does
abbrev pub init_fits : Frame → PointId → IntType → Option ℕ → Init → Bool
init_fits f p ty size I.Nothing = true
init_fits f p ty None (I.One e) = value_fits f p P.Value ty e
init_fits f p ty None (I.Many es) = false
init_fits f p ty (Some n) (I.One e) = false
init_fits f p ty (Some n) (I.Many es) = nat_le (length es) n && list_all (value_fits f p P.Inner ty) es

abbrev pub cell_count : Option ℕ → ℕ
cell_count None = 1
cell_count (Some n) = n

-- a cell of this type and kind, which is the function's
abbrev pub is_local : ℕ → IntType → Bool → CellInfo → Bool
is_local function ty checked c = is_read_as ty checked c && on_some (λ g. g.0 == function) c.owner

-- the object whose first cell this is
abbrev pub is_declared : Frame → PointId → ℕ → Option ℕ → Init → CellInfo → Bool
is_declared f p first size value c =
    cells_are (is_local f.function c.ty c.checked) f.layout.cells first (cell_count size) && init_fits f p c.ty size value

unfoldable pub declared_fits : Frame → PointId → ℕ → Option ℕ → Init → Bool
declared_fits f p first size value = on_some (is_declared f p first size value) (slice_get f.layout.cells first)

-- ---- jumps

-- a `return` has a value exactly where the function has a result, and of its type (6.8.6.4)
abbrev pub return_fits : Frame → PointId → Option IntType → Option Expr → Bool
return_fits f p None None = true
return_fits f p None (Some e) = false
return_fits f p (Some ty) None = false
return_fits f p (Some ty) (Some e) = value_fits f p P.Value ty e

-- ---- statements, in a loop or not

abbrev pub all_fit : List (Bool → Bool) → Bool → Bool
all_fit [] in_loop = true
all_fit (s ∷ ss) in_loop = s in_loop && all_fit ss in_loop

-- `break` and `continue` stand in a loop (6.8.6); what stands in the head of a `for` is in no loop of that `for`
abbrev pub fits_step : Frame → Stmt-F (Bool → Bool) → Bool → Bool
fits_step f (Stmt-F.Declare p first n value) in_loop = is_own f Plain p && declared_fits f p first n value
fits_step f (Stmt-F.Expression p e) in_loop = is_own f Plain p && expr_fits f p P.Dropped e
fits_step f (Stmt-F.If p c ys ns) in_loop =
    (is_own f Plain p && expr_fits f p P.Inner c) && (all_fit ys in_loop && all_fit ns in_loop)
fits_step f (Stmt-F.While p c bs) in_loop = (is_own f AtLoop p && expr_fits f p P.Inner c) && all_fit bs true
fits_step f (Stmt-F.DoWhile p bs c) in_loop = (is_own f AtLoop p && expr_fits f p P.Inner c) && all_fit bs true
fits_step f (Stmt-F.For hs p c bs us) in_loop =
    (is_own f AtLoop p && value_if_fits f p P.Inner c) && (all_fit hs in_loop && (all_fit bs true && all_fit us in_loop))
fits_step f (Stmt-F.Break p) in_loop = is_own f Plain p && in_loop
fits_step f (Stmt-F.Continue p) in_loop = is_own f Plain p && in_loop
fits_step f (Stmt-F.Return p value) in_loop = is_own f Plain p && return_fits f p f.result value
fits_step f (Stmt-F.Empty p) in_loop = is_own f Plain p
fits_step f (Stmt-F.Block ss) in_loop = all_fit ss in_loop
fits_step f (Stmt-F.Note at) in_loop = true
fits_step f (Stmt-F.Clause p) in_loop = is_own f AtNote p

abbrev pub fits : Frame → Stmt → Bool → Bool
fits f = fold-Stmt (Bool → Bool) (fits_step f)

unfoldable pub stmts_fit : Frame → Bool → List Stmt → Bool
stmts_fit f in_loop ss = all_fit (map (fits f) ss) in_loop

-- ---- bodies (6.9.1)

-- the points of a function in their order
abbrev pub points_of_body : PointId → List Stmt → PointId → Numbers
points_of_body entry ss exit = both (both (own_point entry) (points_of_all ss)) (own_point exit)
