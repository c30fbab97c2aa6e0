-- The calls of well formed trees: each is of a function of the program, and they end.
use Rattle.std.proofs.Common.{◌≡◌, ◌∙◌, ◌<◌, ℕ, suc, nat_lt, Bool, true, false, List, [], ◌∷◌, ◌++◌, length, map, slice_get, Option, Some, None, refl, ap, sym, subst, if◌then◌else◌}
use Rattle.std.proofs.lemmas.Bool.{and_parts, and_from, lt-ltb, true≢false}
use Rattle.std.proofs.lemmas.Option.{slice_get_within}
use Rattle.std.specs.List.{list_all}
use Rattle.std.proofs.Math.ListN.{length-map}
use Rattle.fc_base.specs.declared.ids.PointId.{PointId}
use Rattle.fc_base.specs.declared.ids.SiteId.{SiteId}
use Rattle.c_ir.specs.Calls.{all_calls, calls_step, calls_of, calls_of_all, calls_if, calls_of_init, stmt_calls_step, calls_of_stmt, calls_of_stmts}
use Rattle.c_ir.specs.Formed.{Layout, Callee, Form, form, form_step, on_some, is_call_of, args_fit}
use Rattle.c_ir.specs.Programs.{Program}
use Rattle.c_ir.specs.declared.ty.IntType.{IntType}
use Rattle.c_ir.specs.declared.tree.CellInfo.{CellInfo}
use Rattle.c_ir.specs.declared.tree.Expr.{Expr, map-Expr, roll-Expr}
use Rattle.c_ir.specs.declared.tree.Expr.TheFolds.{fold-roll-Expr, ind-Expr}
use Rattle.c_ir.specs.declared.tree.Expr.TheOpen.{Expr-F}
use Rattle.c_ir.specs.declared.tree.Fun.{Fun}
use Rattle.c_ir.specs.declared.tree.Init.{Init}
use Rattle.c_ir.specs.declared.tree.Init.TheVariants as I
use Rattle.c_ir.specs.declared.tree.Node.{Node}
use Rattle.c_ir.specs.declared.tree.Node.TheVariants as N
use Rattle.c_ir.specs.declared.tree.Stmt.{Stmt, map-Stmt}
use Rattle.c_ir.specs.declared.tree.Stmt.TheFolds.{fold-roll-Stmt, ind-Stmt}
use Rattle.c_ir.specs.declared.tree.Stmt.TheOpen.{Stmt-F}
use Rattle.c_rules.proofs.Formed.{value_of}
use Rattle.c_ir.specs.declared.place.Place.{Place}
use Rattle.c_ir.specs.declared.place.Place.TheVariants as P
use Rattle.c_types.proofs.Graphs.{in_range, graph_count}
use Rattle.c_types.specs.Programs.{FirstRecursive, below, graph, graph_to}
use Rattle.call_cycles.specs.Calls.{Graph, InRange, ends}
use Rattle.call_cycles.proofs.Pigeonhole.{chains_end}
use Rattle.c_ir.specs.Bodies.{Frame, expr_fits, value_fits, value_if_fits, init_fits, is_declared, declared_fits, return_fits, all_fit, fits, fits_step, stmts_fit}
use Rattle.c_ir.specs.Keeps.{calls_in, call_graph, frame_of, callee_of}

-- each is a number of a function
abbrev Below : ℕ → List ℕ → Type 0
Below n fs = list_all (λ f. nat_lt f n) fs ≡ true

both_below : (n : ℕ) (fs gs : List ℕ) → Below n fs → Below n gs → Below n (fs ++ gs)
both_below n [] gs p q = q
both_below n (f ∷ fs) gs p q = let parts = and_parts _ _ p in and_from _ _ parts.0 (both_below n fs gs parts.1 q)

-- ---- expressions

pub record Bounded (l : Layout) (f : Form) (calls : List ℕ) : Type 0 where
  pub value : f.value ≡ true → Below (length l.callees) calls
  pub target : f.target ≡ true → Below (length l.callees) calls

abbrev With : Layout → Type 0
With l = (e : Expr) × Bounded l (form l e) (calls_of e)

abbrev forms : (l : Layout) → Expr-F (With l) → Expr-F Form
forms l y = map-Expr Expr Form (form l) (map-Expr (With l) Expr (λ e. e.0) y)

abbrev lists : (l : Layout) → Expr-F (With l) → Expr-F (List ℕ)
lists l y = map-Expr Expr (List ℕ) calls_of (map-Expr (With l) Expr (λ e. e.0) y)

args_below : (l : Layout) (tys : List IntType) (es : List (With l)) → args_fit tys (map (form l) (map (λ e. e.0) es)) ≡ true → Below (length l.callees) (all_calls (map calls_of (map (λ e. e.0) es)))
args_below l [] [] is = refl
args_below l [] (e ∷ es) is = absurd (true≢false (sym is))
args_below l (ty ∷ tys) [] is = refl
args_below l (ty ∷ tys) (e ∷ es) is =
    let parts = and_parts _ _ is in
    both_below _ (calls_of e.0) _ (e.1.value (and_parts _ _ parts.0).0) (args_below l tys es parts.1)

call_below : (l : Layout) (ty : IntType) (g : ℕ) (es : List (With l)) (o : Option Callee) → slice_get l.callees g ≡ o → on_some (is_call_of ty (map (form l) (map (λ e. e.0) es))) o ≡ true → Below (length l.callees) (all_calls (map calls_of (map (λ e. e.0) es)) ++ g ∷ [])
unfolding is_call_of
call_below l ty g es None has is = absurd (true≢false (sym is))
call_below l ty g es (Some c) has is =
    both_below _ (all_calls (map calls_of (map (λ e. e.0) es))) _ (args_below l c.formals es (and_parts _ _ is).0)
    (and_from _ _ (lt-ltb g (length l.callees) (slice_get_within l.callees g c has)) refl)

no : {A : Type 0} → false ≡ true → A
no is = absurd (true≢false (sym is))

abbrev tree : (l : Layout) → IntType → Option SiteId → Node (With l) (List (With l)) → Expr-F (With l)
tree l ty site n = record { ty = ty; site = site; node = n }

by_node : (l : Layout) (ty : IntType) (site : Option SiteId) (n : Node (With l) (List (With l))) → Bounded l (form_step l (forms l (tree l ty site n))) (calls_step (lists l (tree l ty site n)))
by_node l ty site (N.Literal v) = record { value = λ is. refl; target = no }
by_node l ty site (N.Cell c k) = record { value = λ is. refl; target = λ is. refl }
by_node l ty site (N.Element f n i k) = record {
  value = λ is. i.1.value (and_parts _ _ (and_parts _ _ is).1).0;
  target = λ is. i.1.value (and_parts _ _ (and_parts _ _ is).1).0;
}
by_node l ty site (N.Call g es) = record {
  value = λ is. call_below l ty g.0 es (slice_get l.callees g.0) refl (and_parts _ _ is).1;
  target = no;
}
by_node l ty site (N.Unary op e) = record { value = λ is. e.1.value (and_parts _ _ is).0; target = no }
by_node l ty site (N.Binary op a b) = record {
  value = λ is.
      let parts = and_parts _ _ (and_parts _ _ is).0 in
      both_below _ (calls_of a.0) _ (a.1.value parts.0) (b.1.value parts.1);
  target = no;
}
by_node l ty site (N.Assign t e) = record {
  value = λ is.
      let parts = and_parts _ _ (and_parts _ _ (and_parts _ _ is).1).0 in
      both_below _ (calls_of t.0) _ (t.1.target parts.0) (e.1.value parts.1);
  target = no;
}
by_node l ty site (N.Cond c a b) = record {
  value = λ is.
      let parts = and_parts _ _ (and_parts _ _ is).0 in
      let more = and_parts _ _ parts.1 in
      both_below _ (calls_of c.0) _ (c.1.value parts.0) (both_below _ (calls_of a.0) _ (a.1.value more.0) (b.1.value more.1));
  target = no;
}
by_node l ty site (N.Cast e) = record { value = λ is. e.1.value (and_parts _ _ is).1; target = no }

layer : (l : Layout) (y : Expr-F (With l)) → Bounded l (form_step l (forms l y)) (calls_step (lists l y))
layer l y = by_node l y.ty y.site y.node

expr_bounded : (l : Layout) (e : Expr) → Bounded l (form l e) (calls_of e)
expr_bounded l =
    ind-Expr (λ e. Bounded l (form l e) (calls_of e)) (λ x y is.
    let here = subst (λ (z : Expr-F Expr). Bounded l (form_step l (map-Expr Expr Form (form l) z)) (calls_step (map-Expr Expr (List ℕ) calls_of z))) is (layer l y) in
    let formed = subst (λ (f : Form). Bounded l f (calls_step (map-Expr Expr (List ℕ) calls_of x))) (sym (fold-roll-Expr Form (form_step l) x)) here in
    subst (λ (cs : List ℕ). Bounded l (form l (roll-Expr x)) cs) (sym (fold-roll-Expr (List ℕ) calls_step x)) formed)

-- ---- statements

abbrev limit : Frame → ℕ
limit f = length f.layout.callees

expr_below : (f : Frame) (p : PointId) (place : Place) (e : Expr) → expr_fits f p place e ≡ true → Below (limit f) (calls_of e)
unfolding expr_fits
expr_below f p place e is = (expr_bounded f.layout e).value (value_of f.layout place e (and_parts _ _ is).0)

values_below : (f : Frame) (p : PointId) (ty : IntType) (es : List Expr) → list_all (value_fits f p P.Inner ty) es ≡ true → Below (limit f) (calls_of_all es)
values_below f p ty [] is = refl
values_below f p ty (e ∷ es) is =
    let parts = and_parts _ _ is in
    both_below _ (calls_of e) _ (expr_below f p P.Inner e (and_parts _ _ parts.0).0) (values_below f p ty es parts.1)

init_below : (f : Frame) (p : PointId) (ty : IntType) (size : Option ℕ) (value : Init) → init_fits f p ty size value ≡ true → Below (limit f) (calls_of_init value)
init_below f p ty size I.Nothing is = refl
init_below f p ty None (I.One e) is = expr_below f p P.Value e (and_parts _ _ is).0
init_below f p ty None (I.Many es) is = no is
init_below f p ty (Some n) (I.One e) is = no is
init_below f p ty (Some n) (I.Many es) is = values_below f p ty es (and_parts _ _ is).1

declared_below : (f : Frame) (p : PointId) (first : ℕ) (size : Option ℕ) (value : Init) (o : Option CellInfo) → on_some (is_declared f p first size value) o ≡ true → Below (limit f) (calls_of_init value)
declared_below f p first size value None is = no is
declared_below f p first size value (Some c) is = init_below f p c.ty size value (and_parts _ _ is).1

local_below : (f : Frame) (p : PointId) (first : ℕ) (size : Option ℕ) (value : Init) → declared_fits f p first size value ≡ true → Below (limit f) (calls_of_init value)
unfolding declared_fits
local_below f p first size value is = declared_below f p first size value (slice_get f.layout.cells first) is

if_below : (f : Frame) (p : PointId) (place : Place) (e : Option Expr) → value_if_fits f p place e ≡ true → Below (limit f) (calls_if e)
if_below f p place None is = refl
if_below f p place (Some e) is = expr_below f p place e is

return_below : (f : Frame) (p : PointId) (ty : Option IntType) (e : Option Expr) → return_fits f p ty e ≡ true → Below (limit f) (calls_if e)
return_below f p None None is = refl
return_below f p None (Some e) is = no is
return_below f p (Some ty) None is = refl
return_below f p (Some ty) (Some e) is = expr_below f p P.Value e (and_parts _ _ is).0

abbrev S : Frame → Stmt → Type 0
S f s = (in_loop : Bool) → fits f s in_loop ≡ true → Below (limit f) (calls_of_stmt s)

abbrev WithStmt : Frame → Type 0
WithStmt f = (s : Stmt) × S f s

list_below : (f : Frame) (ss : List (WithStmt f)) (in_loop : Bool) → all_fit (map (fits f) (map (λ s. s.0) ss)) in_loop ≡ true → Below (limit f) (all_calls (map calls_of_stmt (map (λ s. s.0) ss)))
list_below f [] in_loop is = refl
list_below f (s ∷ ss) in_loop is =
    let parts = and_parts _ _ is in
    both_below _ (calls_of_stmt s.0) _ (s.1 in_loop parts.0) (list_below f ss in_loop parts.1)

abbrev fitting : (f : Frame) → Stmt-F (WithStmt f) → Stmt-F (Bool → Bool)
fitting f y = map-Stmt Stmt (Bool → Bool) (fits f) (map-Stmt (WithStmt f) Stmt (λ s. s.0) y)

abbrev called : (f : Frame) → Stmt-F (WithStmt f) → Stmt-F (List ℕ)
called f y = map-Stmt Stmt (List ℕ) calls_of_stmt (map-Stmt (WithStmt f) Stmt (λ s. s.0) y)

stmt_layer : (f : Frame) (y : Stmt-F (WithStmt f)) (in_loop : Bool) → fits_step f (fitting f y) in_loop ≡ true → Below (limit f) (stmt_calls_step (called f y))
stmt_layer f (Stmt-F.Declare p first n value) in_loop is = local_below f p first n value (and_parts _ _ is).1
stmt_layer f (Stmt-F.Expression p e) in_loop is = expr_below f p P.Dropped e (and_parts _ _ is).1
stmt_layer f (Stmt-F.If p c ys ns) in_loop is =
    let parts = and_parts _ _ is in
    let more = and_parts _ _ parts.1 in
    both_below _ (calls_of c) _ (expr_below f p P.Inner c (and_parts _ _ parts.0).1)
    (both_below _ (all_calls (map calls_of_stmt (map (λ s. s.0) ys))) _ (list_below f ys in_loop more.0) (list_below f ns in_loop more.1))
stmt_layer f (Stmt-F.While p c bs) in_loop is =
    let parts = and_parts _ _ is in
    both_below _ (calls_of c) _ (expr_below f p P.Inner c (and_parts _ _ parts.0).1) (list_below f bs true parts.1)
stmt_layer f (Stmt-F.DoWhile p bs c) in_loop is =
    let parts = and_parts _ _ is in
    both_below _ (all_calls (map calls_of_stmt (map (λ s. s.0) bs))) _ (list_below f bs true parts.1) (expr_below f p P.Inner c (and_parts _ _ parts.0).1)
stmt_layer f (Stmt-F.For hs p c bs us) in_loop is =
    let parts = and_parts _ _ is in
    let more = and_parts _ _ parts.1 in
    let rest = and_parts _ _ more.1 in
    both_below _ (all_calls (map calls_of_stmt (map (λ s. s.0) hs))) _ (list_below f hs in_loop more.0)
    (both_below _ (calls_if c) _ (if_below f p P.Inner c (and_parts _ _ parts.0).1)
    (both_below _ (all_calls (map calls_of_stmt (map (λ s. s.0) bs))) _ (list_below f bs true rest.0) (list_below f us in_loop rest.1)))
stmt_layer f (Stmt-F.Break p) in_loop is = refl
stmt_layer f (Stmt-F.Continue p) in_loop is = refl
stmt_layer f (Stmt-F.Return p value) in_loop is = return_below f p f.result value (and_parts _ _ is).1
stmt_layer f (Stmt-F.Empty p) in_loop is = refl
stmt_layer f (Stmt-F.Block ss) in_loop is = list_below f ss in_loop is
stmt_layer f (Stmt-F.Note at) in_loop is = refl
stmt_layer f (Stmt-F.Clause p) in_loop is = refl

stmt_below : (f : Frame) (s : Stmt) → S f s
stmt_below f =
    ind-Stmt (S f) (λ x y is in_loop fit.
    let here = subst (λ (z : Stmt-F Stmt). (b : Bool) → fits_step f (map-Stmt Stmt (Bool → Bool) (fits f) z) b ≡ true → Below (limit f) (stmt_calls_step (map-Stmt Stmt (List ℕ) calls_of_stmt z))) is (stmt_layer f y) in
    let fitted = sym (ap (λ (g : Bool → Bool). g in_loop) (fold-roll-Stmt (Bool → Bool) (fits_step f) x)) ∙ fit in
    subst (λ (cs : List ℕ). Below (limit f) cs) (sym (fold-roll-Stmt (List ℕ) stmt_calls_step x)) (here in_loop fitted))

body_below : (f : Frame) (in_loop : Bool) (ss : List Stmt) → stmts_fit f in_loop ss ≡ true → Below (limit f) (calls_of_stmts ss)
unfolding stmts_fit
body_below f in_loop [] is = refl
body_below f in_loop (s ∷ ss) is =
    let parts = and_parts _ _ is in
    both_below _ (calls_of_stmt s) _ (stmt_below f s in_loop parts.0) (body_below f in_loop ss parts.1)

-- ---- programs

-- the body of each function is well formed
abbrev pub Typed : Program → Type 0
Typed p = (number : ℕ) (f : Fun) (body : List Stmt) → slice_get p.fns number ≡ Some f → f.body ≡ Some body → stmts_fit (frame_of p number f) false body ≡ true

row_of : (n : ℕ) (b : Option (List Stmt)) → ((body : List Stmt) → b ≡ Some body → Below n (calls_of_stmts body)) → Below n (calls_in b)
row_of n None h = refl
row_of n (Some body) h = h body refl

-- each row of the graph
abbrev Rows : ℕ → List Fun → Type 0
Rows n fs = (number : ℕ) (f : Fun) → slice_get fs number ≡ Some f → Below n (calls_in f.body)

rows_of : (p : Program) → Typed p → Rows (length p.fns) p.fns
rows_of p typed number f is =
    let many : length (map (callee_of p.cells) p.fns) ≡ length p.fns = length-map p.fns (callee_of p.cells) in
    subst (λ (n : ℕ). Below n (calls_in f.body)) many
    (row_of _ f.body (λ body has. body_below (frame_of p number f) false body (typed number f body is has)))

-- callees that are below the number of functions are all that there are
same_row : (n : ℕ) (fs : List ℕ) → Below n fs → below n fs ≡ fs
same_row n [] is = refl
same_row n (f ∷ fs) is =
    let parts = and_parts _ _ is in
    ap (λ (b : Bool). if b then f ∷ below n fs else below n fs) parts.0 ∙ ap (λ (gs : List ℕ). f ∷ gs) (same_row n fs parts.1)

same_rows : (n : ℕ) (fs : List Fun) → Rows n fs → graph_to n fs ≡ call_graph fs
same_rows n [] rows = refl
same_rows n (f ∷ fs) rows =
    ap (λ (r : List ℕ). r ∷ graph_to n fs) (same_row n (calls_in f.body) (rows 0 f refl))
    ∙ ap (λ (g : Graph). calls_in f.body ∷ g) (same_rows n fs (λ number g is. rows (suc number) g is))

pub same_graph : (p : Program) → Typed p → graph p.fns ≡ call_graph p.fns
same_graph p typed = same_rows (length p.fns) p.fns (rows_of p typed)

pub calls_in_range : (p : Program) → Typed p → InRange (call_graph p.fns)
calls_in_range p typed = subst InRange (same_graph p typed) (in_range p.fns)

pub calls_end : (p : Program) → Typed p → FirstRecursive p.fns None → (f : ℕ) → f < length p.fns → ends (length p.fns) (call_graph p.fns) f ≡ true
unfolding FirstRecursive
calls_end p typed none f is =
    let g : Graph = graph p.fns in
    let many : length g ≡ length p.fns = graph_count p.fns in
    let end : ends (length g) g f ≡ true = chains_end g (in_range p.fns) none f (subst (λ (n : ℕ). f < n) (sym many) is) in
    subst (λ (h : Graph). ends (length p.fns) h f ≡ true) (same_graph p typed) (subst (λ (n : ℕ). ends n g f ≡ true) many end)
