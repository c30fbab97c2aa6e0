-- No run is cut for the depth of its calls: a part runs the same where the functions that it calls do, and each
-- chain of calls ends within the number of functions.
use Rattle.std.proofs.Common.{◌≡◌, ℕ, zero, suc, ◌+◌, ◌≤◌, ◌++◌, ℤ, Bool, true, List, [], ◌∷◌, length, map, slice_get, Option, Some, None, refl, sym, ◌∙◌, ap, ap₂, subst, arith, le_of_suc-le-suc, not-suc-le-zero, true≢false}
use Rattle.std.proofs.lemmas.Bool.{and_parts}
use Rattle.std.specs.List.{list_all}
use Rattle.std.specs.Option.{option_map}
use Rattle.fc_base.specs.declared.ids.SiteId.{SiteId}
use Rattle.call_cycles.specs.Calls.{callees, ends as ends_within}
use Rattle.c_ir.specs.Bodies.{cell_count}
use Rattle.c_ir.specs.Calls.{calls_step, calls_of, calls_of_all, calls_if, calls_of_init, stmt_calls_step, calls_of_stmt, calls_of_stmts}
use Rattle.c_ir.specs.Keeps.{calls_in, call_graph}
use Rattle.c_ir.specs.declared.ty.IntType.{IntType}
use Rattle.c_ir.specs.declared.tree.Expr.{Expr, map-Expr}
use Rattle.c_ir.specs.declared.tree.Expr.TheFolds.{fold-roll-Expr, ind-Expr}
use Rattle.c_ir.specs.declared.tree.Expr.TheOpen.{Expr-F}
use Rattle.c_ir.specs.declared.tree.Fun.{Fun}
use Rattle.c_ir.specs.declared.tree.Init.{Init}
use Rattle.c_ir.specs.declared.tree.Init.TheVariants as I
use Rattle.c_ir.specs.declared.tree.Node.{Node}
use Rattle.c_ir.specs.declared.tree.Node.TheVariants as N
use Rattle.c_ir.specs.declared.tree.Stmt.{Stmt, map-Stmt}
use Rattle.c_ir.specs.declared.tree.Stmt.TheFolds.{fold-roll-Stmt, ind-Stmt}
use Rattle.c_ir.specs.declared.tree.Stmt.TheOpen.{Stmt-F}
use Rattle.c_runs.specs.Evaluation.{Evaluation, Calling, Assigning, Meaning, also_to, meaning, meaning_step}
use Rattle.c_runs.specs.Runs.{Part, Next, Breaks, Returns, ends, seq, evaluated, loop, continuing}
use Rattle.c_runs.specs.Statements.{World, Inside, arrive, at, giving, statement, dropping, giving_to, filling, declaring, condition, condition_if, returning, run_step, run, run_all, at_end, closing, is_main, body, function, function_if, call_to}
use Rattle.c_runs.specs.Laws.{DeepEnough}

-- ---- functions that run the same

-- functions run in two ways
module _ (f h : ℕ → Part) where
  -- both run these functions the same
  abbrev Agree : List ℕ → Type 0
  Agree [] = Unit {0}
  Agree (g ∷ gs) = (f g ≡ h g) × Agree gs

  agree_left : (xs ys : List ℕ) → Agree (xs ++ ys) → Agree xs
  agree_left [] ys a = tt
  agree_left (x ∷ xs) ys a = (a.0, agree_left xs ys a.1)

  agree_right : (xs ys : List ℕ) → Agree (xs ++ ys) → Agree ys
  agree_right [] ys a = a
  agree_right (x ∷ xs) ys a = agree_right xs ys a.1

  agree_all : (test : ℕ → Bool) → ((g : ℕ) → test g ≡ true → f g ≡ h g)
      → (gs : List ℕ) → list_all test gs ≡ true → Agree gs
  agree_all test same [] is = tt
  agree_all test same (g ∷ gs) is =
      let both = and_parts _ _ is in
      (same g both.0, agree_all test same gs both.1)

  -- ---- expressions

  abbrev AgreeCall : Option Calling → Type 0
  AgreeCall None = Unit {0}
  AgreeCall (Some k) = f k.function ≡ h k.function

  abbrev AgreeAssign : Option Assigning → Type 0
  AgreeAssign None = Unit {0}
  AgreeAssign (Some a) = AgreeCall a.call

  -- what an expression calls where it stands as a statement
  abbrev AgreeIn : Meaning → Type 0
  AgreeIn m = AgreeCall m.call × AgreeAssign m.assign

  also_agree : (ty : IntType) (o : Option Calling) → AgreeCall o → AgreeCall (option_map (also_to ty) o)
  also_agree ty None a = tt
  also_agree ty (Some k) a = a

  abbrev ExprAgrees : Bool → Expr → Type 0
  ExprAgrees overflow e = Agree (calls_of e) → AgreeIn (meaning overflow e)

  abbrev TopAgrees : Bool → Expr-F Expr → Type 0
  TopAgrees overflow x =
      Agree (calls_step (map-Expr Expr (List ℕ) calls_of x))
      → AgreeIn (meaning_step overflow (map-Expr Expr Meaning (meaning overflow) x))

  abbrev With : Bool → Type 0
  With overflow = (e : Expr) × ExprAgrees overflow e

  abbrev exprs : (overflow : Bool) → List (With overflow) → List Expr
  exprs overflow es = map (λ (e : With overflow). e.0) es

  abbrev Nodes : Bool → Type 0
  Nodes overflow = Node (With overflow) (List (With overflow))

  abbrev tree : (overflow : Bool) → IntType → Option SiteId → Nodes overflow → Expr-F (With overflow)
  tree overflow ty site n = record { ty = ty; site = site; node = n }

  abbrev plain : (overflow : Bool) → Expr-F (With overflow) → Expr-F Expr
  plain overflow y = map-Expr (With overflow) Expr (λ e. e.0) y

  by_node : (overflow : Bool) (ty : IntType) (site : Option SiteId) (n : Nodes overflow)
      → TopAgrees overflow (plain overflow (tree overflow ty site n))
  by_node overflow ty site (N.Literal v) a = (tt, tt)
  by_node overflow ty site (N.Cell c k) a = (tt, tt)
  by_node overflow ty site (N.Element x n i k) a = (tt, tt)
  by_node overflow ty site (N.Call g es) a =
      ((agree_right (calls_of_all (exprs overflow es)) (g.0 ∷ []) a).0, tt)
  by_node overflow ty site (N.Unary op e) a = (tt, tt)
  by_node overflow ty site (N.Binary op l r) a = (tt, tt)
  by_node overflow ty site (N.Assign t e) a = (tt, (e.1 (agree_right (calls_of t.0) (calls_of e.0) a)).0)
  by_node overflow ty site (N.Cond c l r) a = (tt, tt)
  by_node overflow ty site (N.Cast e) a = (also_agree ty (meaning overflow e.0).call (e.1 a).0, tt)

  layer : (overflow : Bool) (y : Expr-F (With overflow)) → TopAgrees overflow (plain overflow y)
  layer overflow y = by_node overflow y.ty y.site y.node

  -- what an expression calls is among its calls
  expr_agrees : (overflow : Bool) (e : Expr) → ExprAgrees overflow e
  expr_agrees overflow =
      ind-Expr (ExprAgrees overflow) (λ x y is a.
      let here : TopAgrees overflow x = subst (TopAgrees overflow) is (layer overflow y) in
      subst AgreeIn (sym (fold-roll-Expr Meaning (meaning_step overflow) x))
      (here (subst Agree (fold-roll-Expr (List ℕ) calls_step x) a)))

  module _ (w : World) (r : Option ℕ) where
    abbrev inside : (ℕ → Part) → Inside
    inside calls = record { world = w; calls = calls; result = r }

    -- ---- expressions as statements

    giving_same : (q : ℕ) (value : Evaluation ℤ) (call : Option Calling) (to : Option ℕ) → AgreeCall call
        → giving (inside f) q value call to ≡ giving (inside h) q value call to
    giving_same q value None to a = refl
    giving_same q value (Some k) to a = ap (λ (x : Part). giving (inside (λ g. x)) q value (Some k) to) a

    assigning_same : (q : ℕ) (target : Evaluation ℕ) (value : Evaluation ℤ) (call : Option Calling)
        → AgreeCall call → evaluated q target (λ x. giving (inside f) q value call (Some x))
        ≡ evaluated q target (λ x. giving (inside h) q value call (Some x))
    assigning_same q target value None a = refl
    assigning_same q target value (Some k) a =
        ap (λ (p : Part). evaluated q target (λ x. giving (inside (λ g. p)) q value (Some k) (Some x))) a

    statement_same : (q : ℕ) (value : Evaluation ℤ) (call : Option Calling) (assign : Option Assigning)
        → AgreeCall call → AgreeAssign assign
        → statement (inside f) q value call assign ≡ statement (inside h) q value call assign
    statement_same q value call None a b = giving_same q value call None a
    statement_same q value call (Some k) a b = assigning_same q k.target k.value k.call b

    dropping_same : (q : ℕ) (e : Expr) → Agree (calls_of e)
        → dropping (inside f) q e ≡ dropping (inside h) q e
    dropping_same q e a =
        let m = meaning w.overflow e in
        let b = expr_agrees w.overflow e a in
        statement_same q m.value m.call m.assign b.0 b.1

    to_same : (q : ℕ) (to : Option ℕ) (e : Expr) → Agree (calls_of e)
        → giving_to (inside f) q to e ≡ giving_to (inside h) q to e
    to_same q to e a =
        let m = meaning w.overflow e in
        giving_same q m.value m.call to (expr_agrees w.overflow e a).0

    filling_same : (q x left : ℕ) (es : List Expr) → Agree (calls_of_all es)
        → filling (inside f) q x left es ≡ filling (inside h) q x left es
    filling_same q x left [] a = refl
    filling_same q x zero (e ∷ es) a = refl
    filling_same q x (suc left) (e ∷ es) a =
        ap₂ seq (to_same q (Some x) e (agree_left (calls_of e) (calls_of_all es) a))
        (filling_same q (x + 1) left es (agree_right (calls_of e) (calls_of_all es) a))

    declaring_same : (q first n : ℕ) (value : Init) → Agree (calls_of_init value)
        → declaring (inside f) q first n value ≡ declaring (inside h) q first n value
    declaring_same q first n I.Nothing a = refl
    declaring_same q first n (I.One e) a = to_same q (Some first) e a
    declaring_same q first n (I.Many es) a = filling_same q first n es a

    returning_same : (q : ℕ) (value : Option Expr) → Agree (calls_if value)
        → returning (inside f) q value ≡ returning (inside h) q value
    returning_same q None a = refl
    returning_same q (Some e) a = ap (λ (x : Part). seq x (ends Returns)) (to_same q r e a)

    -- a condition calls nothing
    if_same : (q : ℕ) (e : Option Expr) {a b : Part} → a ≡ b
        → condition_if (inside f) q e a (ends Breaks) ≡ condition_if (inside h) q e b (ends Breaks)
    if_same q None p = p
    if_same q (Some e) p = ap (λ (x : Part). condition (inside f) q e x (ends Breaks)) p

    -- ---- statements

    abbrev StmtAgrees : Stmt → Type 0
    StmtAgrees st = Agree (calls_of_stmt st) → run (inside f) st ≡ run (inside h) st

    abbrev stepped : (ℕ → Part) → Stmt-F Stmt → Part
    stepped calls x = run_step (inside calls) (map-Stmt Stmt Part (run (inside calls)) x)

    abbrev TopStmtAgrees : Stmt-F Stmt → Type 0
    TopStmtAgrees x =
        Agree (stmt_calls_step (map-Stmt Stmt (List ℕ) calls_of_stmt x)) → stepped f x ≡ stepped h x

    abbrev Known : Type 0
    Known = (st : Stmt) × StmtAgrees st

    abbrev stmts : List Known → List Stmt
    stmts es = map (λ (e : Known). e.0) es

    list_same : (es : List Known) → Agree (calls_of_stmts (stmts es))
        → run_all (inside f) (stmts es) ≡ run_all (inside h) (stmts es)
    list_same [] a = refl
    list_same (e ∷ es) a =
        let here = calls_of_stmt e.0 in
        let rest = calls_of_stmts (stmts es) in
        ap₂ seq (e.1 (agree_left here rest a)) (list_same es (agree_right here rest a))

    stmt_layer : (y : Stmt-F Known) → TopStmtAgrees (map-Stmt Known Stmt (λ e. e.0) y)
    stmt_layer (Stmt-F.Declare p first n value) a =
        ap (at w p) (declaring_same p.0 first (cell_count n) value a)
    stmt_layer (Stmt-F.Expression p e) a = ap (at w p) (dropping_same p.0 e a)
    stmt_layer (Stmt-F.If p c ys ns) a =
        let yes = calls_of_stmts (stmts ys) in
        let no = calls_of_stmts (stmts ns) in
        let both = agree_right (calls_of c) (yes ++ no) a in
        ap₂ (λ (x y : Part). at w p (condition (inside f) p.0 c x y))
        (list_same ys (agree_left yes no both)) (list_same ns (agree_right yes no both))
    stmt_layer (Stmt-F.While p c bs) a =
        ap (λ (x : Part). loop (at w p (condition (inside f) p.0 c x (ends Breaks))))
        (list_same bs (agree_right (calls_of c) (calls_of_stmts (stmts bs)) a))
    stmt_layer (Stmt-F.DoWhile p bs c) a =
        let test = condition (inside f) p.0 c (ends Next) (ends Breaks) in
        ap (λ (x : Part). loop (at w p (seq (continuing x) test)))
        (list_same bs (agree_left (calls_of_stmts (stmts bs)) (calls_of c) a))
    stmt_layer (Stmt-F.For hs p c bs us) a =
        let head = calls_of_stmts (stmts hs) in
        let inner = calls_of_stmts (stmts bs) in
        let last = calls_of_stmts (stmts us) in
        let rest = calls_if c ++ (inner ++ last) in
        let turn = agree_right (calls_if c) (inner ++ last) (agree_right head rest a) in
        let inner_same = list_same bs (agree_left inner last turn) in
        let last_same = list_same us (agree_right inner last turn) in
        ap₂ (λ (x y : Part). seq x (loop (at w p y))) (list_same hs (agree_left head rest a))
        (if_same p.0 c (ap₂ (λ (x y : Part). seq (continuing x) y) inner_same last_same))
    stmt_layer (Stmt-F.Break p) a = refl
    stmt_layer (Stmt-F.Continue p) a = refl
    stmt_layer (Stmt-F.Return p value) a = ap (at w p) (returning_same p.0 value a)
    stmt_layer (Stmt-F.Empty p) a = refl
    stmt_layer (Stmt-F.Block ss) a = list_same ss a
    stmt_layer (Stmt-F.Note note) a = refl
    stmt_layer (Stmt-F.Clause p) a = refl

    stmt_same : (st : Stmt) → StmtAgrees st
    stmt_same =
        ind-Stmt StmtAgrees (λ x y is a.
        let here : TopStmtAgrees x = subst TopStmtAgrees is (stmt_layer y) in
        fold-roll-Stmt Part (run_step (inside f)) x
        ∙ here (subst Agree (fold-roll-Stmt (List ℕ) stmt_calls_step x) a)
        ∙ sym (fold-roll-Stmt Part (run_step (inside h)) x))

    all_same : (ss : List Stmt) → Agree (calls_of_stmts ss) → run_all (inside f) ss ≡ run_all (inside h) ss
    all_same [] a = refl
    all_same (st ∷ ss) a =
        let here = calls_of_stmt st in
        let rest = calls_of_stmts ss in
        ap₂ seq (stmt_same st (agree_left here rest a)) (all_same ss (agree_right here rest a))

  -- ---- functions

  body_same : (w : World) (x : Fun) (o : Option (List Stmt)) → Agree (calls_in o)
      → body w f x o ≡ body w h x o
  body_same w x None a = refl
  body_same w x (Some ss) a =
      ap (λ (p : Part). closing p (at_end (is_main x) x.result)) (all_same w x.result ss a)

  abbrev around : World → Fun → Part → Part
  around w x p n c i = seq (arrive w x.entry.0 c (ends Next)) (seq p (arrive w x.exit.0 c (ends Next))) n c i

  function_same : (w : World) (x : Fun) → Agree (calls_in x.body) → function w f x ≡ function w h x
  function_same w x a = ap (around w x) (body_same w x x.body a)

  -- a function runs the same where those do that it calls
  called_same : (w : World) (fns : List Fun) (g : ℕ) → Agree (callees (call_graph fns) g)
      → function_if w f (slice_get fns g) ≡ function_if w h (slice_get fns g)
  called_same w [] g a = refl
  called_same w (x ∷ xs) zero a = function_same w x a
  called_same w (x ∷ xs) (suc g) a = called_same w xs g a

-- ---- depths

-- no chain of calls is longer than either depth
depth_same : (w : World) (k a b g : ℕ) → ends_within k (call_graph w.program.fns) g ≡ true → k ≤ a → k ≤ b
    → call_to w a g ≡ call_to w b g
depth_same w zero a b g is p q = absurd (true≢false (sym is))
depth_same w (suc k) zero b g is p q = absurd (not-suc-le-zero p)
depth_same w (suc k) (suc a) zero g is p q = absurd (not-suc-le-zero q)
depth_same w (suc k) (suc a) (suc b) g is p q =
    let graph = call_graph w.program.fns in
    let f = call_to w a in
    let h = call_to w b in
    called_same f h w w.program.fns g (agree_all f h (ends_within k graph)
    (λ c ends. depth_same w k a b c ends (le_of_suc-le-suc p) (le_of_suc-le-suc q)) (callees graph g) is)

pub deep : DeepEnough
deep w keeps g depth within enough =
    let n = length w.program.fns in
    depth_same w n depth n g (keeps.calls_end g within) enough (omega arith)
