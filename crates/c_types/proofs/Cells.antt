-- Walks over statements and declarations keep count of cells, and the names that notes can use fit.
use Rattle.std.proofs.Common.{◌≡◌, ℕ, Bool, true, List, [], ◌∷◌, take, drop, Option, Some, None, map, refl, sym, subst}
use Rattle.std.proofs.lemmas.Bool.{eq-eqb}
use Rattle.std.specs.List.{list_all}
use Rattle.fc_base.specs.declared.ids.FnId.{FnId}
use Rattle.fc_base.specs.declared.ids.PointId.{PointId}
use Rattle.fc_base.specs.declared.syntax.Spot.{Spot}
use Rattle.c_ast.specs.declared.expr.Expr.{Expr as Ast}
use Rattle.c_ast.specs.declared.expr.Spec.{Spec}
use Rattle.c_ast.specs.declared.stmt.Declr.{Declr}
use Rattle.c_ast.specs.declared.stmt.First.{First}
use Rattle.c_ast.specs.declared.stmt.First.TheVariants as F
use Rattle.c_ast.specs.declared.stmt.Init.{Init}
use Rattle.c_ast.specs.declared.stmt.Init.TheVariants as I
use Rattle.c_ast.specs.declared.stmt.Stmt.{Stmt, fold-roll-Stmt}
use Rattle.c_ast.specs.declared.stmt.Stmt.TheFolds.{ind-Stmt, map-Stmt}
use Rattle.c_ast.specs.declared.stmt.Stmt.TheOpen.{Stmt-F}
use Rattle.c_ast.specs.declared.stmt.Sub.{Sub, Sub-F, fold-roll-Sub, map-Sub}
use Rattle.c_types.specs.Noted.{object_fits, number_of}
use Rattle.c_ir.specs.declared.note.InScope.{InScope}
use Rattle.c_ir.specs.declared.ty.IntType.{IntType}
use Rattle.c_ir.specs.declared.tree.Expr.{Expr}
use Rattle.c_ir.specs.declared.tree.Stmt.{Stmt as Typed}
use Rattle.c_ir.specs.declared.place.Place.TheVariants as P
use Rattle.c_typing.specs.Declarations as decl
use Rattle.c_typing.specs.Statements as stmt
use Rattle.c_typing.specs.Statements.{Meant, Governed}
use Rattle.c_typing.specs.Walking.{Names, Made}
use Rattle.c_typing.specs.declared.context.Context.{Context}
use Rattle.c_types.proofs.Locals.{object_of, some_cells}
use Rattle.c_types.proofs.Noted.{Base, Here, Keeps, Leaves, begun, resumed, left, value_keeps, aside_keeps, new_point_keeps, name_is_keeps, object_keeps, new_note_keeps}

-- ---- declarations

values_keeps : {b : Base} {o : Option FnId} (point : PointId) (ty : IntType) (es : List Ast) (done : List Expr) (s : Names) (m : Made) → Keeps b o s m → Leaves b o (decl.values_from point ty es done s m)
values_keeps point ty [] done s m k = k
values_keeps point ty (e ∷ es) done s m k = values_keeps point ty es _ _ _ (value_keeps point P.Inner e s m k)

asides_keeps : {b : Base} {o : Option FnId} (es : List Ast) (s : Names) (m : Made) → Keeps b o s m → Leaves b o (decl.asides es s m)
asides_keeps [] s m k = k
asides_keeps (e ∷ es) s m k = asides_keeps es _ _ (aside_keeps P.Inner e s m k)

excess_keeps : {b : Base} {o : Option FnId} (es : List Ast) (s : Names) (m : Made) → Keeps b o s m → Leaves b o (decl.excess es s m)
unfolding decl.excess
excess_keeps es s m k = asides_keeps es s m k

braced_keeps : {b : Base} {o : Option FnId} (point : PointId) (ty : IntType) (es : List Ast) (s : Names) (m : Made) → Keeps b o s m → Leaves b o (decl.braced_scalar point ty es s m)
braced_keeps point ty [] s m k = k
braced_keeps point ty (e ∷ es) s m k = excess_keeps es _ _ (value_keeps point P.Inner e s m k)

scalar_keeps : {b : Base} {o : Option FnId} (point : PointId) (ty : IntType) (v : Init) (s : Names) (m : Made) → Keeps b o s m → Leaves b o (decl.scalar_init point ty v s m)
scalar_keeps point ty I.Nothing s m k = k
scalar_keeps point ty (I.One e) s m k = value_keeps point P.Value e s m k
scalar_keeps point ty (I.Many es) s m k = braced_keeps point ty es s m k

array_keeps : {b : Base} {o : Option FnId} (point : PointId) (ty : IntType) (n : ℕ) (v : Init) (s : Names) (m : Made) → Keeps b o s m → Leaves b o (decl.array_init point ty n v s m)
array_keeps point ty n I.Nothing s m k = k
array_keeps point ty n (I.One e) s m k = aside_keeps P.Inner e s m k
array_keeps point ty n (I.Many es) s m k = excess_keeps (drop n es) _ _ (values_keeps point ty (take n es) [] s m k)

initial_keeps : {b : Base} {o : Option FnId} (point : PointId) (ty : IntType) (size : Option ℕ) (v : Init) (s : Names) (m : Made) → Keeps b o s m → Leaves b o (decl.initial point ty size v s m)
unfolding decl.initial
initial_keeps point ty None v s m k = scalar_keeps point ty v s m k
initial_keeps point ty (Some n) v s m k = array_keeps point ty n v s m k

declarator_keeps : {b : Base} (ctx : Context) (ty : IntType) (constant : Bool) (d : Declr) (s : Names) (m : Made) → Keeps b (Some ctx.owner) s m → Leaves b (Some ctx.owner) (decl.declarator ctx ty constant d s m)
unfolding decl.declarator
declarator_keeps ctx ty constant d s m k =
    let size = decl.length_of s.env d.length d.value in
    let new = object_of ctx ty constant (decl.is_nothing d.value) size in
    name_is_keeps _ _ _ _ (λ here. tt) (initial_keeps _ _ _ _ _ _ (name_is_keeps _ _ _ _ (λ here. tt)
    (object_keeps new d.name.name size _ _ refl (some_cells s.env d.length d.value) (eq-eqb ctx.owner.0 ctx.owner.0 refl) (new_point_keeps _ _ _ _ k))))

declarators_keeps : {b : Base} (ctx : Context) (ty : IntType) (constant : Bool) (ds : List Declr) (done : List Typed) (s : Names) (m : Made) → Keeps b (Some ctx.owner) s m → Leaves b (Some ctx.owner) (decl.declarators_from ctx ty constant ds done s m)
declarators_keeps ctx ty constant [] done s m k = k
declarators_keeps ctx ty constant (d ∷ ds) done s m k =
    declarators_keeps ctx ty constant ds _ _ _ (declarator_keeps ctx ty constant d s m k)

declaration_keeps : {b : Base} (ctx : Context) (spec : Spec) (ds : List Declr) (s : Names) (m : Made) → Keeps b (Some ctx.owner) s m → Leaves b (Some ctx.owner) (decl.declaration ctx spec ds s m)
unfolding decl.declaration
declaration_keeps ctx spec ds s m k = declarators_keeps ctx _ _ ds [] s m k

-- ---- parts of statements

noted_keeps : {b : Base} (ctx : Context) (waiting : Option Spot) (before : List InScope) (s : Names) (m : Made) → (Here b.cells m.objects → list_all (object_fits (number_of (Some ctx.owner)) b.cells) before ≡ true) → Keeps b (Some ctx.owner) s m → Leaves b (Some ctx.owner) (stmt.noted ctx waiting before s m)
noted_keeps ctx None before s m fit k = k
noted_keeps ctx (Some at) before s m fit k = new_note_keeps at before s m fit k

waiting_keeps : {b : Base} (ctx : Context) (waiting : Option Spot) (s : Names) (m : Made) → Keeps b (Some ctx.owner) s m → Leaves b (Some ctx.owner) (stmt.note_waiting ctx waiting s m)
unfolding stmt.note_waiting
waiting_keeps ctx waiting s m k = noted_keeps ctx waiting s.declared s m k.declared k

dropped_keeps : {b : Base} (ctx : Context) (e : Ast) (s : Names) (m : Made) → Keeps b (Some ctx.owner) s m → Leaves b (Some ctx.owner) (stmt.dropped ctx e s m)
unfolding stmt.dropped
dropped_keeps ctx e s m k = value_keeps _ _ _ _ _ (new_point_keeps _ _ _ _ k)

head_keeps : {b : Base} (ctx : Context) (waiting : Option Spot) (first : First) (s : Names) (m : Made) → Keeps b (Some ctx.owner) s m → Leaves b (Some ctx.owner) (stmt.head ctx waiting first s m)
unfolding stmt.head
head_keeps ctx waiting F.Nothing s m k = waiting_keeps ctx waiting s m k
head_keeps ctx waiting (F.Expression e) s m k = dropped_keeps ctx e _ _ (waiting_keeps ctx waiting s m k)
head_keeps ctx waiting (F.Declare spec ds) s m k =
    let v = decl.declaration ctx spec ds s m in
    let h = declaration_keeps ctx spec ds s m (begun s m k) in
    noted_keeps ctx waiting s.declared v.names v.made (λ here. k.declared (h.back here)) (resumed s m v k h)

condition_keeps : {b : Base} {o : Option FnId} (point : PointId) (e : Option Ast) (s : Names) (m : Made) → Keeps b o s m → Leaves b o (stmt.condition point e s m)
unfolding stmt.condition
condition_keeps point None s m k = k
condition_keeps point (Some e) s m k = value_keeps point P.Inner e s m k

update_keeps : {b : Base} (ctx : Context) (e : Option Ast) (s : Names) (m : Made) → Keeps b (Some ctx.owner) s m → Leaves b (Some ctx.owner) (stmt.update ctx e s m)
unfolding stmt.update
update_keeps ctx None s m k = k
update_keeps ctx (Some e) s m k = dropped_keeps ctx e s m k

returned_keeps : {b : Base} {o : Option FnId} (p : PointId) (at : Spot) (result : Option IntType) (value : Option Ast) (s : Names) (m : Made) → Keeps b o s m → Leaves b o (stmt.returned p at result value s m)
returned_keeps p at None None s m k = k
returned_keeps p at (Some ty) None s m k = k
returned_keeps p at None (Some e) s m k = aside_keeps P.Value e s m k
returned_keeps p at (Some ty) (Some e) s m k = value_keeps p P.Value e s m k

-- ---- statements

abbrev StmtKeeps : Meant → Type 0
StmtKeeps x = (b : Base) (ctx : Context) (waiting : Option Spot) (s : Names) (m : Made) → Keeps b (Some ctx.owner) s m → Leaves b (Some ctx.owner) (x.walk ctx waiting s m)

abbrev SubKeeps : Governed → Type 0
SubKeeps g = (b : Base) (ctx : Context) (s : Names) (m : Made) → Keeps b (Some ctx.owner) s m → Leaves b (Some ctx.owner) (g ctx s m)

abbrev AllKeep : List Meant → Type 0
AllKeep [] = Unit {0}
AllKeep (x ∷ xs) = StmtKeeps x × AllKeep xs

next_keeps : {b : Base} (ctx : Context) (waiting note : Option Spot) (x : Meant) → StmtKeeps x → (done : List Typed) (s : Names) (m : Made) → Keeps b (Some ctx.owner) s m → Leaves b (Some ctx.owner) (stmt.next_by ctx waiting note x done s m)
next_keeps ctx waiting None x h done s m k = h _ ctx waiting s m k
next_keeps ctx waiting (Some at) x h done s m k = waiting_keeps ctx waiting s m k

from_keeps : {b : Base} (ctx : Context) (waiting : Option Spot) (xs : List Meant) → AllKeep xs → (done : List Typed) (s : Names) (m : Made) → Keeps b (Some ctx.owner) s m → Leaves b (Some ctx.owner) (stmt.stmts_from ctx waiting xs done s m)
unfolding stmt.next
from_keeps ctx waiting [] h done s m k = waiting_keeps ctx waiting s m k
from_keeps ctx waiting (x ∷ xs) h done s m k =
    from_keeps ctx (stmt.next ctx waiting x done s m).value.0 xs h.1 _ _ _ (next_keeps ctx waiting x.note x h.0 done s m k)

notes_keeps : {b : Base} (ctx : Context) (waiting : Option Spot) (notes : List Spot) (done : List Typed) (s : Names) (m : Made) → Keeps b (Some ctx.owner) s m → Leaves b (Some ctx.owner) (stmt.notes_from ctx waiting notes done s m)
notes_keeps ctx waiting [] done s m k = k
notes_keeps ctx waiting (at ∷ notes) done s m k = notes_keeps ctx (Some at) notes _ _ _ (waiting_keeps ctx waiting s m k)

abbrev BranchKeeps : Option Governed → Type 0
BranchKeeps None = Unit {0}
BranchKeeps (Some g) = SubKeeps g

branch_keeps : {b : Base} (ctx : Context) (g : Option Governed) → BranchKeeps g → (s : Names) (m : Made) → Keeps b (Some ctx.owner) s m → Leaves b (Some ctx.owner) (stmt.branch g ctx s m)
branch_keeps ctx None h s m k = k
branch_keeps ctx (Some g) h s m k = h _ ctx s m k

point_keeps : {b : Base} (ctx : Context) (waiting : Option Spot) (at : Spot) (s : Names) (m : Made) → Keeps b (Some ctx.owner) s m → Leaves b (Some ctx.owner) (stmt.point_at ctx waiting at s m)
point_keeps ctx waiting at s m k = new_point_keeps _ _ _ _ (waiting_keeps ctx waiting s m k)

for_keeps : {b : Base} (ctx : Context) (waiting : Option Spot) (at : Spot) (first : First) (e next : Option Ast) (body : Governed) → SubKeeps body → (s : Names) (m : Made) → Keeps b (Some ctx.owner) s m → Leaves b (Some ctx.owner) (stmt.for_parts ctx waiting at first e next body s m)
for_keeps ctx waiting at first e next body h s m k =
    update_keeps ctx next _ _ (h _ _ _ _ (condition_keeps _ e _ _ (new_point_keeps _ _ _ _ (head_keeps ctx waiting first s m k))))

abbrev WithStmt : Type 0
WithStmt = (x : Stmt) × StmtKeeps (stmt.meant_of x)

abbrev WithSub : Type 0
WithSub = (x : Sub) × SubKeeps (stmt.governed_of x)

all_keep : (xs : List WithStmt) → AllKeep (map stmt.meant_of (map (λ e. e.0) xs))
all_keep [] = tt
all_keep (x ∷ xs) = (x.1, all_keep xs)

abbrev meanings : Stmt-F WithStmt WithSub → Stmt-F Meant Governed
meanings y = map-Stmt Stmt Sub Meant Governed stmt.meant_of stmt.governed_of (map-Stmt WithStmt WithSub Stmt Sub (λ e. e.0) (λ e. e.0) y)

stmt_layer : (y : Stmt-F WithStmt WithSub) → StmtKeeps (stmt.stmt_step (meanings y))
unfolding stmt.expression stmt.break_stmt stmt.continue_stmt stmt.return_stmt stmt.empty_stmt stmt.declare_stmt
stmt_layer (Stmt-F.Declare at spec ds) b ctx waiting s m k = declaration_keeps ctx spec ds _ _ (waiting_keeps ctx waiting s m k)
stmt_layer (Stmt-F.Expression at e) b ctx waiting s m k = value_keeps _ _ e _ _ (point_keeps ctx waiting at s m k)
stmt_layer (Stmt-F.If at e main None) b ctx waiting s m k =
    main.1 _ _ _ _ (value_keeps _ _ e _ _ (point_keeps ctx waiting at s m k))
stmt_layer (Stmt-F.If at e main (Some other)) b ctx waiting s m k =
    other.1 _ _ _ _ (main.1 _ _ _ _ (value_keeps _ _ e _ _ (point_keeps ctx waiting at s m k)))
stmt_layer (Stmt-F.While at e body) b ctx waiting s m k =
    body.1 _ _ _ _ (value_keeps _ _ e _ _ (point_keeps ctx waiting at s m k))
stmt_layer (Stmt-F.DoWhile at body e) b ctx waiting s m k =
    value_keeps _ _ e _ _ (body.1 _ _ _ _ (point_keeps ctx waiting at s m k))
stmt_layer (Stmt-F.For at first e next body) b ctx waiting s m k =
    let within = stmt.inner ctx m.cells in
    let g = stmt.governed_of body.0 in
    left s m (stmt.for_parts within waiting at first e next g s m) k (for_keeps within waiting at first e next g body.1 s m (begun s m k))
stmt_layer (Stmt-F.Break at) b ctx waiting s m k = point_keeps ctx waiting at s m k
stmt_layer (Stmt-F.Continue at) b ctx waiting s m k = point_keeps ctx waiting at s m k
stmt_layer (Stmt-F.Return at value) b ctx waiting s m k =
    returned_keeps _ at ctx.result value _ _ (point_keeps ctx waiting at s m k)
stmt_layer (Stmt-F.Empty at) b ctx waiting s m k = point_keeps ctx waiting at s m k
stmt_layer (Stmt-F.Block at xs) b ctx waiting s m k =
    let n = stmt.note_waiting ctx waiting s m in
    let within = stmt.inner ctx n.made.cells in
    let ys = map stmt.meant_of (map (λ (e : WithStmt). e.0) xs) in
    let h = waiting_keeps ctx waiting s m k in
    left n.names n.made (stmt.stmts_from within None ys [] n.names n.made) h (from_keeps within None ys (all_keep xs) [] n.names n.made (begun n.names n.made h))
stmt_layer (Stmt-F.Note at) b ctx waiting s m k = waiting_keeps ctx (Some at) _ _ (waiting_keeps ctx waiting s m k)

sub_layer : (y : Sub-F Meant Governed) → StmtKeeps y.stmt → SubKeeps (stmt.sub_step y)
sub_layer y h b ctx s m k = h b ctx _ _ _ (notes_keeps ctx None y.notes [] s m k)

stmt_keeps : (x : Stmt) → StmtKeeps (stmt.meant_of x)
stmt_keeps = ind-Stmt (λ x. StmtKeeps (stmt.meant_of x)) (λ x. SubKeeps (stmt.governed_of x))
    (λ x y is.
    let here = subst (λ (z : Stmt-F Stmt Sub). StmtKeeps (stmt.stmt_step (map-Stmt Stmt Sub Meant Governed stmt.meant_of stmt.governed_of z))) is (stmt_layer y) in
    subst StmtKeeps (sym (fold-roll-Stmt Meant Governed stmt.stmt_step stmt.sub_step x)) here)
    (λ x y is.
    let here = subst (λ (z : Sub-F Stmt Sub). SubKeeps (stmt.sub_step (map-Sub Stmt Sub Meant Governed stmt.meant_of stmt.governed_of z))) is (sub_layer (map-Sub Stmt Sub Meant Governed stmt.meant_of stmt.governed_of (map-Sub WithStmt WithSub Stmt Sub (λ e. e.0) (λ e. e.0) y)) y.stmt.1) in
    subst SubKeeps (sym (fold-roll-Sub Meant Governed stmt.stmt_step stmt.sub_step x)) here)

all_stmts : (xs : List Stmt) → AllKeep (map stmt.meant_of xs)
all_stmts [] = tt
all_stmts (x ∷ xs) = (stmt_keeps x, all_stmts xs)

pub stmts_keeps : {b : Base} (ctx : Context) (xs : List Stmt) (s : Names) (m : Made) → Keeps b (Some ctx.owner) s m → Leaves b (Some ctx.owner) (stmt.stmts_from ctx None (map stmt.meant_of xs) [] s m)
stmts_keeps ctx xs s m k = from_keeps ctx None (map stmt.meant_of xs) (all_stmts xs) [] s m k
