-- How many checked operators an expression has at most.
use Rattle.std.specs.Prelude.{ℕ, ◌+◌, Bool, true, false, ◌&&◌, List, [], ◌∷◌, map, length, Option, Some, None}
use Rattle.c_ast.specs.declared.expr.Expr.{Expr, fold-Expr}
use Rattle.c_ast.specs.declared.expr.Expr.TheOpen.{Expr-F}
use Rattle.c_ast.specs.declared.stmt.Declr.{Declr}
use Rattle.c_ast.specs.declared.stmt.First.{First}
use Rattle.c_ast.specs.declared.stmt.First.TheVariants as F
use Rattle.c_ast.specs.declared.stmt.Init.{Init}
use Rattle.c_ast.specs.declared.stmt.Init.TheVariants as I
use Rattle.c_ast.specs.declared.stmt.Length.{Length}
use Rattle.c_ast.specs.declared.stmt.Length.TheVariants as L
use Rattle.c_ast.specs.declared.stmt.Stmt.{Stmt, fold-Stmt}
use Rattle.c_ast.specs.declared.stmt.Stmt.TheOpen.{Stmt-F}
use Rattle.c_ast.specs.declared.stmt.Sub.{Sub, Sub-F, fold-Sub}

pub record Size : Type 0 where
  -- no call, assignment or step is in it
  pub is_plain : Bool
  pub most : ℕ
  -- where what is written to is read too
  pub again : ℕ
  -- its nodes
  pub nodes : ℕ

abbrev pub size : Bool → ℕ → ℕ → Size
size is_plain most nodes = record { is_plain = is_plain; most = most; again = 0; nodes = nodes + 1 }

abbrev pub total : List Size → ℕ
total [] = 0
total (s ∷ more) = s.most + total more

abbrev pub total_nodes : List Size → ℕ
total_nodes [] = 0
total_nodes (s ∷ more) = s.nodes + total_nodes more

abbrev pub if_plain : Bool → ℕ → ℕ
if_plain true n = n
if_plain false n = 0

abbrev pub size_step : Expr-F Size → Size
size_step (Expr-F.Literal at value form unsigned longs) = size true 0 0
size_step (Expr-F.Name x) = record { is_plain = true; most = 1; again = 1; nodes = 1 }
size_step (Expr-F.Index at of index) = record {
  is_plain = of.is_plain && index.is_plain;
  most = of.most + index.most + 1;
  again = if_plain index.is_plain (index.most + 1);
  nodes = of.nodes + index.nodes + 1;
}
size_step (Expr-F.Call at of args) = size false (of.most + total args) (of.nodes + total_nodes args)
size_step (Expr-F.Unary at op of) = size of.is_plain (of.most + 1) of.nodes
size_step (Expr-F.Binary at op left right) =
    size (left.is_plain && right.is_plain) (left.most + right.most + 1) (left.nodes + right.nodes)
size_step (Expr-F.Assign at op to value) =
    size false (to.most + to.again + value.most + 1) (to.nodes + value.nodes)
size_step (Expr-F.Step at up before of) = size false (of.most + of.again + 1) of.nodes
size_step (Expr-F.Cond at c left right) =
    size (c.is_plain && (left.is_plain && right.is_plain)) (c.most + left.most + right.most)
    (c.nodes + left.nodes + right.nodes)
size_step (Expr-F.Cast at spec of) = size of.is_plain of.most of.nodes

abbrev pub size_of : Expr → Size
size_of = fold-Expr Size size_step

-- ---- declarations: points, cells and sites

abbrev pub most_of : Expr → ℕ
most_of e = (size_of e).most

abbrev pub total_of : List Expr → ℕ
total_of es = total (map size_of es)

abbrev pub room_of_init : Init → ℕ
room_of_init I.Nothing = 0
room_of_init (I.One e) = most_of e
room_of_init (I.Many es) = total_of es

abbrev pub room_of_values : Init → ℕ
room_of_values I.Nothing = 1
room_of_values (I.One e) = 1
room_of_values (I.Many es) = length es + 1

abbrev pub room_of_length : Length → Init → ℕ
room_of_length L.Scalar value = 1
room_of_length L.Open value = room_of_values value
room_of_length (L.Of e) value = most_of e + 4096

abbrev pub room_of_declr : Declr → ℕ
room_of_declr d = 1 + room_of_length d.length d.value + room_of_init d.value

abbrev pub room_of_declrs : List Declr → ℕ
room_of_declrs [] = 0
room_of_declrs (d ∷ ds) = room_of_declr d + room_of_declrs ds

-- ---- statements

pub record StmtSize : Type 0 where
  pub room : ℕ
  -- its statements
  pub nodes : ℕ

abbrev pub stmt_size : ℕ → ℕ → StmtSize
stmt_size room nodes = record { room = room; nodes = nodes + 1 }

abbrev pub room_of : List StmtSize → ℕ
room_of [] = 0
room_of (s ∷ ss) = s.room + room_of ss

abbrev pub nodes_of : List StmtSize → ℕ
nodes_of [] = 0
nodes_of (s ∷ ss) = s.nodes + nodes_of ss

abbrev pub most_if : Option Expr → ℕ
most_if None = 0
most_if (Some e) = most_of e

-- an expression that is a statement, if there is one
abbrev pub room_of_dropped : Option Expr → ℕ
room_of_dropped None = 0
room_of_dropped (Some e) = 1 + most_of e

abbrev pub room_of_first : First → ℕ
room_of_first F.Nothing = 0
room_of_first (F.Expression e) = 1 + most_of e
room_of_first (F.Declare spec ds) = room_of_declrs ds

abbrev pub room_if : Option StmtSize → ℕ
room_if None = 0
room_if (Some s) = s.room

abbrev pub nodes_if : Option StmtSize → ℕ
nodes_if None = 0
nodes_if (Some s) = s.nodes

abbrev pub stmt_size_step : Stmt-F StmtSize StmtSize → StmtSize
stmt_size_step (Stmt-F.Declare at spec ds) = stmt_size (room_of_declrs ds) 0
stmt_size_step (Stmt-F.Expression at e) = stmt_size (1 + most_of e) 0
stmt_size_step (Stmt-F.If at c main other) = stmt_size (1 + most_of c + main.room + room_if other) (main.nodes + nodes_if other)
stmt_size_step (Stmt-F.While at c body) = stmt_size (1 + most_of c + body.room) body.nodes
stmt_size_step (Stmt-F.DoWhile at body c) = stmt_size (1 + body.room + most_of c) body.nodes
stmt_size_step (Stmt-F.For at first c next body) =
    stmt_size (1 + room_of_first first + most_if c + room_of_dropped next + body.room) body.nodes
stmt_size_step (Stmt-F.Break at) = stmt_size 1 0
stmt_size_step (Stmt-F.Continue at) = stmt_size 1 0
stmt_size_step (Stmt-F.Return at value) = stmt_size (1 + most_if value) 0
stmt_size_step (Stmt-F.Empty at) = stmt_size 1 0
stmt_size_step (Stmt-F.Block at ss) = stmt_size (room_of ss) (nodes_of ss)
stmt_size_step (Stmt-F.Note at) = stmt_size 0 0

abbrev pub sub_size_step : Sub-F StmtSize StmtSize → StmtSize
sub_size_step s = stmt_size s.stmt.room s.stmt.nodes

abbrev pub size_of_stmt : Stmt → StmtSize
size_of_stmt = fold-Stmt StmtSize StmtSize stmt_size_step sub_size_step

abbrev pub size_of_sub : Sub → StmtSize
size_of_sub = fold-Sub StmtSize StmtSize stmt_size_step sub_size_step

-- a body with the points of entry and exit, if there is one
abbrev pub room_of_body : Option (List Stmt) → ℕ
room_of_body None = 0
room_of_body (Some ss) = room_of (map size_of_stmt ss) + 2
