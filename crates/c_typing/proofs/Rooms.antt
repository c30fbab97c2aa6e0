-- What a text adds to points, cells and sites is at most 823 times its weight.
use Rattle.std.proofs.Common.{◌+◌, ◌*◌, ◌^◌, ◌<◌, ◌≤◌, ℕ, Bool, true, false, ◌&&◌, List, [], ◌∷◌, map, length, Option, Some, None, sym, subst, arith}
use Rattle.c_ast.specs.Weight.{expr_step, weight_of_expr, weight_of_exprs, weight_of_init, weight_of_length, weight_of_declrs, weight_of_body, weight_of_formals, weight_of_item, weight_of_items, weight_of_unit, weight_of_stmt, weight_of_stmts, weight_of_sub, weight_of_maybe, weight_of_first, stmt_step, sub_step, total as total_weight}
use Rattle.c_ast.specs.declared.expr.Expr.{Expr, fold-roll-Expr}
use Rattle.c_ast.specs.declared.expr.Expr.TheFolds.{ind-Expr, map-Expr}
use Rattle.c_ast.specs.declared.expr.Expr.TheOpen.{Expr-F}
use Rattle.c_ast.specs.declared.expr.Expr.TheViews.{roll-Expr}
use Rattle.c_ast.specs.declared.stmt.Declr.{Declr}
use Rattle.c_ast.specs.declared.stmt.First.{First}
use Rattle.c_ast.specs.declared.stmt.First.TheVariants as F
use Rattle.c_ast.specs.declared.stmt.Init.{Init}
use Rattle.c_ast.specs.declared.stmt.Init.TheVariants as I
use Rattle.c_ast.specs.declared.stmt.Length.{Length}
use Rattle.c_ast.specs.declared.stmt.Length.TheVariants as L
use Rattle.c_ast.specs.declared.stmt.Stmt.{Stmt, fold-roll-Stmt}
use Rattle.c_ast.specs.declared.stmt.Stmt.TheFolds.{ind-Stmt, map-Stmt}
use Rattle.c_ast.specs.declared.stmt.Stmt.TheOpen.{Stmt-F}
use Rattle.c_ast.specs.declared.stmt.Stmt.TheViews.{roll-Stmt}
use Rattle.c_ast.specs.declared.stmt.Sub.{Sub, Sub-F, fold-roll-Sub, map-Sub, roll-Sub}
use Rattle.c_ast.specs.declared.unit.Formal.{Formal}
use Rattle.c_ast.specs.declared.unit.Item.{Item}
use Rattle.c_ast.specs.declared.unit.Item.TheVariants as U
use Rattle.c_ast.specs.declared.unit.Unit.{Unit}
use Rattle.c_typing.specs.Texts.{room_of_item, room_of_items}
use Rattle.c_typing.specs.Room.{room_of_body, most_of, most_if, room_of, room_of_dropped, room_of_first, room_of_init, room_of_values, room_of_length, room_of_declrs, size_of_stmt, size_of_sub, StmtSize, stmt_size_step, sub_size_step, Size, size_of, size_step, total, total_of, if_plain}

-- ---- expressions

pub record Fits (s : Size) (w : ℕ) : Type 0 where
  pub sum : s.most + s.again ≤ 2 * w
  pub plain : if_plain s.is_plain s.most ≤ w
  pub some : 1 ≤ w

abbrev P : Expr → Type 0
P e = Fits (size_of e) (weight_of_expr e)

abbrev With : Type 0
With = (e : Expr) × P e

plain_less : (b : Bool) (m n w v : ℕ) → if_plain b m ≤ w → n + w ≤ m + v → if_plain b n ≤ v
plain_less true m n w v h i = omega (arith, h, i)
plain_less false m n w v h i = omega arith

plain_both : (a b : Bool) (m n k w v u : ℕ) → if_plain a m ≤ w → if_plain b n ≤ v → k + w + v ≤ m + n + u → if_plain (a && b) k ≤ u
plain_both true b m n k w v u h i le = plain_less b n k v u i (omega (arith, h, le))
plain_both false b m n k w v u h i le = omega arith

index_sum : (b : Bool) (m n c w v : ℕ) → m + c ≤ 2 * w → n ≤ 2 * v → if_plain b n ≤ v → m + n + 1 + if_plain b (n + 1) ≤ 2 * (w + v + 2)
index_sum true m n c w v h i k = omega (arith, h, i, k)
index_sum false m n c w v h i k = omega (arith, h, i)

args_fit : (es : List With) → total (map size_of (map (λ e. e.0) es)) ≤ 2 * total_weight (map weight_of_expr (map (λ e. e.0) es))
args_fit [] = omega arith
args_fit (e ∷ es) = let h = e.1.sum in let i = args_fit es in omega (arith, h, i)

abbrev sizes : Expr-F With → Expr-F Size
sizes y = map-Expr Expr Size size_of (map-Expr With Expr (λ e. e.0) y)

abbrev weights : Expr-F With → Expr-F ℕ
weights y = map-Expr Expr ℕ weight_of_expr (map-Expr With Expr (λ e. e.0) y)

abbrev m : With → ℕ
m e = (size_of e.0).most

abbrev w : With → ℕ
w e = weight_of_expr e.0

one_plain : (e : With) (k u : ℕ) → k + w e ≤ m e + u → if_plain (size_of e.0).is_plain k ≤ u
one_plain e k u le = plain_less (size_of e.0).is_plain (m e) k (w e) u e.1.plain le

two_plain : (a b : With) (k u : ℕ) → k + w a + w b ≤ m a + m b + u → if_plain ((size_of a.0).is_plain && (size_of b.0).is_plain) k ≤ u
two_plain a b k u le = plain_both (size_of a.0).is_plain (size_of b.0).is_plain (m a) (m b) k (w a) (w b) u a.1.plain b.1.plain le

layer : (y : Expr-F With) → Fits (size_step (sizes y)) (expr_step (weights y))
layer (Expr-F.Literal at value form unsigned longs) = record { sum = omega arith; plain = omega arith; some = omega arith }
layer (Expr-F.Name x) = record { sum = omega arith; plain = omega arith; some = omega arith }
layer (Expr-F.Index at of index) =
    let h = of.1 in
    let i = index.1 in
    let hs = h.sum in
    let is = i.sum in
    record {
      sum = index_sum (size_of index.0).is_plain (size_of of.0).most (size_of index.0).most (size_of of.0).again (weight_of_expr of.0) (weight_of_expr index.0) hs (omega (arith, is)) i.plain;
      plain = two_plain of index (m of + m index + 1) (w of + w index + 2) (omega arith);
      some = omega arith;
    }
layer (Expr-F.Call at of args) =
    let h = of.1.sum in
    let i = args_fit args in
    record { sum = omega (arith, h, i); plain = omega arith; some = omega arith }
layer (Expr-F.Unary at op of) =
    let h = of.1.sum in
    record { sum = omega (arith, h); plain = one_plain of (m of + 1) (w of + 1) (omega arith); some = omega arith }
layer (Expr-F.Binary at op left right) =
    let h = left.1.sum in
    let i = right.1.sum in
    record {
      sum = omega (arith, h, i);
      plain = two_plain left right (m left + m right + 1) (w left + w right + 1) (omega arith);
      some = omega arith;
    }
layer (Expr-F.Assign at op to value) =
    let h = to.1.sum in
    let i = value.1.sum in
    record { sum = omega (arith, h, i); plain = omega arith; some = omega arith }
layer (Expr-F.Step at up before of) =
    let h = of.1.sum in
    record { sum = omega (arith, h); plain = omega arith; some = omega arith }
layer (Expr-F.Cond at c left right) =
    let h = c.1.sum in
    let i = left.1.sum in
    let j = right.1.sum in
    record {
      sum = omega (arith, h, i, j);
      plain = plain_both (size_of c.0).is_plain ((size_of left.0).is_plain && (size_of right.0).is_plain) (m c) (m left + m right) (m c + m left + m right) (w c) (w left + w right) (w c + w left + w right + 2) c.1.plain (two_plain left right (m left + m right) (w left + w right) (omega arith)) (omega arith);
      some = omega arith;
    }
layer (Expr-F.Cast at spec of) =
    let h = of.1.sum in
    record { sum = omega (arith, h); plain = one_plain of (m of) (length spec.words + w of + 2) (omega arith); some = omega arith }

pub expr_fits : (e : Expr) → P e
expr_fits = ind-Expr P (λ x y is.
    let here = subst (λ (z : Expr-F Expr). Fits (size_step (map-Expr Expr Size size_of z)) (expr_step (map-Expr Expr ℕ weight_of_expr z))) is (layer y) in
    let sized = subst (λ (s : Size). Fits s (expr_step (map-Expr Expr ℕ weight_of_expr x))) (sym (fold-roll-Expr Size size_step x)) here in
    subst (λ (w : ℕ). Fits (size_of (roll-Expr x)) w) (sym (fold-roll-Expr ℕ expr_step x)) sized)

pub exprs_fit : (es : List Expr) → total_of es ≤ 2 * weight_of_exprs es
exprs_fit [] = omega arith
exprs_fit (e ∷ es) = let h = (expr_fits e).sum in let i = exprs_fit es in omega (arith, h, i)

pub exprs_count : (es : List Expr) → length es ≤ weight_of_exprs es
exprs_count [] = omega arith
exprs_count (e ∷ es) = let h = (expr_fits e).some in let i = exprs_count es in omega (arith, h, i)

-- ---- declarations

init_room : (v : Init) → room_of_init v ≤ 2 * weight_of_init v
init_room I.Nothing = omega arith
init_room (I.One e) = let h = (expr_fits e).sum in omega (arith, h)
init_room (I.Many es) = let h = exprs_fit es in omega (arith, h)

values_room : (v : Init) → room_of_values v ≤ 1 + weight_of_init v
values_room I.Nothing = omega arith
values_room (I.One e) = omega arith
values_room (I.Many es) = let h = exprs_count es in omega (arith, h)

declr_room : (l : Length) (v : Init) → 1 + room_of_length l v + room_of_init v ≤ 823 * (2 + weight_of_length l + weight_of_init v)
declr_room L.Scalar v = let h = init_room v in omega (arith, h)
declr_room L.Open v = let h = init_room v in let i = values_room v in omega (arith, h, i)
declr_room (L.Of e) v =
    let h = init_room v in
    let i = (expr_fits e).sum in
    let j = (expr_fits e).some in
    omega (arith, h, i, j)

pub declrs_room : (ds : List Declr) → room_of_declrs ds ≤ 823 * weight_of_declrs ds
declrs_room [] = omega arith
declrs_room (d ∷ ds) = let h = declr_room d.length d.value in let i = declrs_room ds in omega (arith, h, i)

-- ---- statements

abbrev S : Stmt → Type 0
S s = (size_of_stmt s).room ≤ 823 * weight_of_stmt s

abbrev G : Sub → Type 0
G s = (size_of_sub s).room ≤ 823 * weight_of_sub s

abbrev WithStmt : Type 0
WithStmt = (s : Stmt) × S s

abbrev WithSub : Type 0
WithSub = (s : Sub) × G s

abbrev stmt_sizes : Stmt-F WithStmt WithSub → Stmt-F StmtSize StmtSize
stmt_sizes y = map-Stmt Stmt Sub StmtSize StmtSize size_of_stmt size_of_sub (map-Stmt WithStmt WithSub Stmt Sub (λ e. e.0) (λ e. e.0) y)

abbrev stmt_weights : Stmt-F WithStmt WithSub → Stmt-F ℕ ℕ
stmt_weights y = map-Stmt Stmt Sub ℕ ℕ weight_of_stmt weight_of_sub (map-Stmt WithStmt WithSub Stmt Sub (λ e. e.0) (λ e. e.0) y)

abbrev sub_sizes : Sub-F WithStmt WithSub → Sub-F StmtSize StmtSize
sub_sizes y = map-Sub Stmt Sub StmtSize StmtSize size_of_stmt size_of_sub (map-Sub WithStmt WithSub Stmt Sub (λ e. e.0) (λ e. e.0) y)

abbrev sub_weights : Sub-F WithStmt WithSub → Sub-F ℕ ℕ
sub_weights y = map-Sub Stmt Sub ℕ ℕ weight_of_stmt weight_of_sub (map-Sub WithStmt WithSub Stmt Sub (λ e. e.0) (λ e. e.0) y)

listed_room : (ss : List WithStmt) → room_of (map size_of_stmt (map (λ e. e.0) ss)) ≤ 823 * total_weight (map weight_of_stmt (map (λ e. e.0) ss))
listed_room [] = omega arith
listed_room (s ∷ ss) = let h = s.1 in let i = listed_room ss in omega (arith, h, i)

most_room : (e : Expr) → most_of e ≤ 2 * weight_of_expr e
most_room e = let h = (expr_fits e).sum in omega (arith, h)

if_room : (e : Option Expr) → most_if e ≤ 2 * weight_of_maybe e
if_room None = omega arith
if_room (Some e) = most_room e

dropped_room : (e : Option Expr) → room_of_dropped e ≤ 3 * weight_of_maybe e
dropped_room None = omega arith
dropped_room (Some e) = let h = (expr_fits e).sum in let i = (expr_fits e).some in omega (arith, h, i)

first_room : (f : First) → room_of_first f ≤ 823 * weight_of_first f
first_room F.Nothing = omega arith
first_room (F.Expression e) = let h = most_room e in omega (arith, h)
first_room (F.Declare spec ds) = let h = declrs_room ds in omega (arith, h)

stmt_layer : (y : Stmt-F WithStmt WithSub) → (stmt_size_step (stmt_sizes y)).room ≤ 823 * stmt_step (stmt_weights y)
stmt_layer (Stmt-F.Declare at spec ds) = let h = declrs_room ds in omega (arith, h)
stmt_layer (Stmt-F.Expression at e) = let h = most_room e in omega (arith, h)
stmt_layer (Stmt-F.If at c main None) = let h = most_room c in let i = main.1 in omega (arith, h, i)
stmt_layer (Stmt-F.If at c main (Some other)) =
    let h = most_room c in let i = main.1 in let j = other.1 in omega (arith, h, i, j)
stmt_layer (Stmt-F.While at c body) = let h = most_room c in let i = body.1 in omega (arith, h, i)
stmt_layer (Stmt-F.DoWhile at body c) = let h = most_room c in let i = body.1 in omega (arith, h, i)
stmt_layer (Stmt-F.For at first c next body) =
    let h = first_room first in
    let i = if_room c in
    let j = dropped_room next in
    let k = body.1 in
    omega (arith, h, i, j, k)
stmt_layer (Stmt-F.Break at) = omega arith
stmt_layer (Stmt-F.Continue at) = omega arith
stmt_layer (Stmt-F.Return at value) = let h = if_room value in omega (arith, h)
stmt_layer (Stmt-F.Empty at) = omega arith
stmt_layer (Stmt-F.Block at ss) = let h = listed_room ss in omega (arith, h)
stmt_layer (Stmt-F.Note at) = omega arith

sub_layer : (y : Sub-F WithStmt WithSub) → (sub_size_step (sub_sizes y)).room ≤ 823 * sub_step (sub_weights y)
sub_layer y = let h = y.stmt.1 in omega (arith, h)

stmt_room : (s : Stmt) → S s
stmt_room = ind-Stmt S G
    (λ x y is.
    let here = subst (λ (z : Stmt-F Stmt Sub). (stmt_size_step (map-Stmt Stmt Sub StmtSize StmtSize size_of_stmt size_of_sub z)).room ≤ 823 * stmt_step (map-Stmt Stmt Sub ℕ ℕ weight_of_stmt weight_of_sub z)) is (stmt_layer y) in
    let sized = subst (λ (s : StmtSize). s.room ≤ 823 * stmt_step (map-Stmt Stmt Sub ℕ ℕ weight_of_stmt weight_of_sub x)) (sym (fold-roll-Stmt StmtSize StmtSize stmt_size_step sub_size_step x)) here in
    subst (λ (n : ℕ). (size_of_stmt (roll-Stmt x)).room ≤ 823 * n) (sym (fold-roll-Stmt ℕ ℕ stmt_step sub_step x)) sized)
    (λ x y is.
    let here = subst (λ (z : Sub-F Stmt Sub). (sub_size_step (map-Sub Stmt Sub StmtSize StmtSize size_of_stmt size_of_sub z)).room ≤ 823 * sub_step (map-Sub Stmt Sub ℕ ℕ weight_of_stmt weight_of_sub z)) is (sub_layer y) in
    let sized = subst (λ (s : StmtSize). s.room ≤ 823 * sub_step (map-Sub Stmt Sub ℕ ℕ weight_of_stmt weight_of_sub x)) (sym (fold-roll-Sub StmtSize StmtSize stmt_size_step sub_size_step x)) here in
    subst (λ (n : ℕ). (size_of_sub (roll-Sub x)).room ≤ 823 * n) (sym (fold-roll-Sub ℕ ℕ stmt_step sub_step x)) sized)

pub stmts_room : (ss : List Stmt) → room_of (map size_of_stmt ss) ≤ 823 * weight_of_stmts ss
stmts_room [] = omega arith
stmts_room (s ∷ ss) = let h = stmt_room s in let i = stmts_room ss in omega (arith, h, i)

-- ---- external declarations

body_room : (b : Option (List Stmt)) → room_of_body b ≤ 823 * weight_of_body b + 2
body_room None = omega arith
body_room (Some ss) = let h = stmts_room ss in omega (arith, h)

formals_count : (fs : List Formal) → length fs ≤ weight_of_formals fs
formals_count [] = omega arith
formals_count (f ∷ fs) = let h = formals_count fs in omega (arith, h)

item_room : (i : Item) → room_of_item i ≤ 823 * weight_of_item i
item_room (U.Note at) = omega arith
item_room (U.Global g) = let h = declrs_room g.declrs in omega (arith, h)
item_room (U.Function f) = let h = body_room f.body in let i = formals_count f.formals in omega (arith, h, i)

items_room : (is : List Item) → room_of_items is ≤ 823 * weight_of_items is
items_room [] = omega arith
items_room (i ∷ is) = let h = item_room i in let j = items_room is in omega (arith, h, j)

-- the numbers of a text of at most 4 MiB fit into 32 bits
pub text_room : (u : Unit) → weight_of_unit u ≤ 4194304 → room_of_items u.items < 2 ^ 32
text_room u h = let i = items_room u.items in omega (arith, h, i)
