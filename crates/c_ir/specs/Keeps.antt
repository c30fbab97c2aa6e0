-- What each typed program keeps: its functions, cells, points and operators belong together, its trees are typed, and
-- its calls end (C11 6.5 to 6.9; that calls end is this project's own).
use Rattle.std.specs.Prelude.{◌≡◌, ◌==◌, ◌<◌, ◌≤◌, ℕ, suc, Bool, true, false, not, ◌&&◌, List, [], ◌∷◌, length, map, slice_get, Option, Some, None, ℤ}
use Rattle.std.specs.Option.{option_map}
use Rattle.std.specs.List.{list_all}
use Rattle.call_cycles.specs.Calls.{Graph, InRange, ends}
use Rattle.c_ir.specs.Calls.{calls_of_stmts}
use Rattle.c_ir.specs.Formed.{Layout, Callee, in_range, cell_is, on_some}
use Rattle.c_ir.specs.Numbers.{count, stmt_sites_of_all}
use Rattle.c_ir.specs.Programs.{Program}
use Rattle.c_ir.specs.declared.ty.IntType.{IntType}
use Rattle.c_ir.specs.declared.ty.IntType.TheVariants as T
use Rattle.c_ir.specs.declared.tree.CellInfo.{CellInfo}
use Rattle.c_ir.specs.declared.tree.Fun.{Fun}
use Rattle.c_ir.specs.declared.tree.Stmt.{Stmt}
use Rattle.c_ir.specs.Bodies.{Frame, AtEntry, AtExit, is_own, stmts_fit, points_of_body}

-- ---- types of functions

-- the type of a cell, `int` where there is none
abbrev pub cell_ty : Option CellInfo → IntType
cell_ty None = T.Int
cell_ty (Some c) = c.ty

abbrev pub ty_at : List CellInfo → ℕ → IntType
ty_at cells c = cell_ty (slice_get cells c)

-- what calls see of a function whose formals and result have these cells
abbrev pub callee_of : List CellInfo → Fun → Callee
callee_of cells f = record { formals = map (ty_at cells) f.formals; result = option_map (ty_at cells) f.result }

abbrev pub layout_of : Program → Layout
layout_of p = record { cells = p.cells; callees = map (callee_of p.cells) p.fns }

-- what the body of this function is over
abbrev pub frame_of : Program → ℕ → Fun → Frame
frame_of p number f = record {
  layout = layout_of p;
  sites = p.sites;
  points = p.points;
  function = number;
  result = option_map (ty_at p.cells) f.result;
}

-- ---- cells

-- the cell is the function's, and no read of it is checked
abbrev pub is_set_of : ℕ → CellInfo → Bool
is_set_of number c = not c.checked && on_some (λ g. g.0 == number) c.owner

abbrev pub result_fits : List CellInfo → ℕ → Option ℕ → Bool
result_fits cells number None = true
result_fits cells number (Some c) = cell_is (is_set_of number) cells c

-- the cells of the formals and of the result are the function's
abbrev pub cells_fit : List CellInfo → ℕ → Fun → Bool
cells_fit cells number f =
    list_all (cell_is (is_set_of number) cells) f.formals && result_fits cells number f.result

abbrev pub start_in_range : IntType → Option ℤ → Bool
start_in_range ty None = true
start_in_range ty (Some v) = in_range ty v

-- what the cell has at the start is a number of its type
abbrev pub start_fits : CellInfo → Bool
start_fits c = start_in_range c.ty c.start

-- ---- functions

-- a function with a body: its statements are well formed; its points follow each other, the entry, those of the
-- statements and the exit; and so do its operators
pub record Defines (p : Program) (number : ℕ) (f : Fun) (body : List Stmt) : Type 0 where
  pub typed : stmts_fit (frame_of p number f) false body ≡ true
  pub points : count f.entry.0 (points_of_body f.entry body f.exit) ≡ Some (suc f.exit.0)
  pub first_site : ℕ
  pub end_site : ℕ
  pub sites : count first_site (stmt_sites_of_all body) ≡ Some end_site

-- the point is one of this function's
pub record HasPoint (p : Program) (q : ℕ) : Type 0 where
  pub number : ℕ
  pub function : Fun
  pub is_function : slice_get p.fns number ≡ Some function
  pub from : function.entry.0 ≤ q
  pub to : q ≤ function.exit.0

-- the operator is one of the body of this function
pub record HasSite (p : Program) (n : ℕ) : Type 0 where
  pub number : ℕ
  pub function : Fun
  pub is_function : slice_get p.fns number ≡ Some function
  pub body : List Stmt
  pub is_body : function.body ≡ Some body
  pub first_site : ℕ
  pub end_site : ℕ
  pub sites : count first_site (stmt_sites_of_all body) ≡ Some end_site
  pub from : first_site ≤ n
  pub to : n < end_site

-- ---- calls

abbrev pub calls_in : Option (List Stmt) → List ℕ
calls_in None = []
calls_in (Some ss) = calls_of_stmts ss

-- which functions each function calls
abbrev pub call_graph : List Fun → Graph
call_graph [] = []
call_graph (f ∷ fs) = calls_in f.body ∷ call_graph fs

-- ---- programs

pub record Keeps (p : Program) : Type 0 where
  pub cells : (number : ℕ) (f : Fun) → slice_get p.fns number ≡ Some f → cells_fit p.cells number f ≡ true
  pub starts : list_all start_fits p.cells ≡ true
  pub entry : (number : ℕ) (f : Fun) → slice_get p.fns number ≡ Some f → is_own (frame_of p number f) AtEntry f.entry ≡ true
  pub exit : (number : ℕ) (f : Fun) → slice_get p.fns number ≡ Some f → is_own (frame_of p number f) AtExit f.exit ≡ true
  pub defined : (number : ℕ) (f : Fun) (body : List Stmt) → slice_get p.fns number ≡ Some f → f.body ≡ Some body →
      Defines p number f body
  pub undefined : (number : ℕ) (f : Fun) → slice_get p.fns number ≡ Some f → f.body ≡ None → f.exit.0 ≡ suc f.entry.0
  pub points : (q : ℕ) → q < length p.points → HasPoint p q
  pub sites : (n : ℕ) → n < length p.sites → HasSite p n
  pub calls : InRange (call_graph p.fns)
  pub calls_end : (f : ℕ) → f < length p.fns → ends (length p.fns) (call_graph p.fns) f ≡ true
