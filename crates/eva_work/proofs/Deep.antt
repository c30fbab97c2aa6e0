-- What a function has rests on the functions that it calls. So, as calls end, depth beyond the number of functions
-- adds nothing.
use Rattle.std.proofs.Common.{◌≡◌, ◌⊎◌, inl, inr, ℕ, zero, suc, ◌+◌, ◌<◌, ◌≤◌, ◌++◌, Bool, true, List, [], ◌∷◌, length, map, get_or, slice_get, Option, Some, None, refl, sym, ◌∙◌, ap, ap₂, subst, arith, le_of_suc-le-suc, not-suc-le-zero, true≢false}
use Rattle.std.proofs.lemmas.Bool.{and_parts}
use Rattle.std.proofs.lemmas.Option.{slice_get_cases}
use Rattle.std.specs.List.{list_all}
use Rattle.call_cycles.specs.Calls.{callees, ends}
use Rattle.c_ir.specs.Calls.{calls_if, calls_of, calls_of_init, calls_of_stmt, calls_of_stmts, stmt_calls_step}
use Rattle.c_ir.specs.Keeps.{Keeps, calls_in, call_graph}
use Rattle.c_ir.specs.Programs.{Program}
use Rattle.c_ir.specs.declared.tree.Fun.{Fun}
use Rattle.c_ir.specs.declared.tree.Stmt.{Stmt, map-Stmt}
use Rattle.c_ir.specs.declared.tree.Stmt.TheFolds.{fold-roll-Stmt, ind-Stmt}
use Rattle.c_ir.specs.declared.tree.Stmt.TheOpen.{Stmt-F}
use Rattle.eva_work.specs.Work.{bodies_of, loop_work, work_step, work_of_body, work_of_function, work_of_stmt, work_of_stmts, work_to}
use Rattle.eva_work.specs.inner.Counting.{body_left, function_size, left, left_to, whole}

-- ---- functions with the same counts

-- how many turns of loops are made one by one, and two counts of functions
module _ (u : ℕ) (f h : ℕ → ℕ) where
  -- both are the same for these functions
  abbrev Agree : List ℕ → Type 0
  Agree [] = Unit {0}
  Agree (g ∷ gs) = (f g ≡ h g) × Agree gs

  agree_left : (xs ys : List ℕ) → Agree (xs ++ ys) → Agree xs
  agree_left [] ys a = tt
  agree_left (x ∷ xs) ys a = (a.0, agree_left xs ys a.1)

  agree_right : (xs ys : List ℕ) → Agree (xs ++ ys) → Agree ys
  agree_right [] ys a = a
  agree_right (x ∷ xs) ys a = agree_right xs ys a.1

  agree_all : (test : ℕ → Bool) → ((g : ℕ) → test g ≡ true → f g ≡ h g)
      → (gs : List ℕ) → list_all test gs ≡ true → Agree gs
  agree_all test same [] is = tt
  agree_all test same (g ∷ gs) is =
      let both = and_parts _ _ is in
      (same g both.0, agree_all test same gs both.1)

  bodies_same : (gs : List ℕ) → Agree gs → bodies_of f gs ≡ bodies_of h gs
  bodies_same [] a = refl
  bodies_same (g ∷ gs) a = ap₂ (λ (x y : ℕ). x + y) a.0 (bodies_same gs a.1)

  -- ---- statements

  abbrev StmtAgrees : Stmt → Type 0
  StmtAgrees s = Agree (calls_of_stmt s) → work_of_stmt u f s ≡ work_of_stmt u h s

  abbrev stepped : (ℕ → ℕ) → Stmt-F Stmt → ℕ
  stepped calls x = work_step u calls (map-Stmt Stmt ℕ (work_of_stmt u calls) x)

  abbrev TopAgrees : Stmt-F Stmt → Type 0
  TopAgrees x = Agree (stmt_calls_step (map-Stmt Stmt (List ℕ) calls_of_stmt x)) → stepped f x ≡ stepped h x

  abbrev Known : Type 0
  Known = (s : Stmt) × StmtAgrees s

  abbrev stmts : List Known → List Stmt
  stmts es = map (λ (e : Known). e.0) es

  list_same : (es : List Known) → Agree (calls_of_stmts (stmts es))
      → work_of_stmts u f (stmts es) ≡ work_of_stmts u h (stmts es)
  list_same [] a = refl
  list_same (e ∷ es) a =
      let here = calls_of_stmt e.0 in
      let rest = calls_of_stmts (stmts es) in
      ap₂ (λ (x y : ℕ). x + y) (e.1 (agree_left here rest a)) (list_same es (agree_right here rest a))

  layer : (y : Stmt-F Known) → TopAgrees (map-Stmt Known Stmt (λ e. e.0) y)
  layer (Stmt-F.Declare p first n value) a = ap (λ (x : ℕ). 1 + x) (bodies_same (calls_of_init value) a)
  layer (Stmt-F.Expression p e) a = ap (λ (x : ℕ). 1 + x) (bodies_same (calls_of e) a)
  layer (Stmt-F.If p c ys ns) a =
      let yes = calls_of_stmts (stmts ys) in
      let no = calls_of_stmts (stmts ns) in
      let both = agree_right (calls_of c) (yes ++ no) a in
      ap₂ (λ (x y : ℕ). 1 + (x + y)) (list_same ys (agree_left yes no both))
      (list_same ns (agree_right yes no both))
  layer (Stmt-F.While p c bs) a =
      ap (loop_work u) (list_same bs (agree_right (calls_of c) (calls_of_stmts (stmts bs)) a))
  layer (Stmt-F.DoWhile p bs c) a =
      ap (loop_work u) (list_same bs (agree_left (calls_of_stmts (stmts bs)) (calls_of c) a))
  layer (Stmt-F.For hs p c bs us) a =
      let head = calls_of_stmts (stmts hs) in
      let inner = calls_of_stmts (stmts bs) in
      let last = calls_of_stmts (stmts us) in
      let rest = calls_if c ++ (inner ++ last) in
      let turn = agree_right (calls_if c) (inner ++ last) (agree_right head rest a) in
      let turn_same =
      ap₂ (λ (x y : ℕ). loop_work u (x + y)) (list_same bs (agree_left inner last turn))
      (list_same us (agree_right inner last turn)) in
      ap₂ (λ (x y : ℕ). x + y) (list_same hs (agree_left head rest a)) turn_same
  layer (Stmt-F.Break p) a = refl
  layer (Stmt-F.Continue p) a = refl
  layer (Stmt-F.Return p value) a = ap (λ (x : ℕ). 1 + x) (bodies_same (calls_if value) a)
  layer (Stmt-F.Empty p) a = refl
  layer (Stmt-F.Block ss) a = list_same ss a
  layer (Stmt-F.Note note) a = refl
  layer (Stmt-F.Clause p) a = refl

  stmt_same : (s : Stmt) → StmtAgrees s
  stmt_same =
      ind-Stmt StmtAgrees (λ x y is a.
      let here : TopAgrees x = subst TopAgrees is (layer y) in
      fold-roll-Stmt ℕ (work_step u f) x
      ∙ here (subst Agree (fold-roll-Stmt (List ℕ) stmt_calls_step x) a)
      ∙ sym (fold-roll-Stmt ℕ (work_step u h) x))

  all_same : (ss : List Stmt) → Agree (calls_of_stmts ss) → work_of_stmts u f ss ≡ work_of_stmts u h ss
  all_same [] a = refl
  all_same (s ∷ ss) a =
      let here = calls_of_stmt s in
      let rest = calls_of_stmts ss in
      ap₂ (λ (x y : ℕ). x + y) (stmt_same s (agree_left here rest a)) (all_same ss (agree_right here rest a))

  -- ---- functions

  body_same : (o : Option (List Stmt)) → Agree (calls_in o) → work_of_body u f o ≡ work_of_body u h o
  body_same None a = refl
  body_same (Some ss) a = all_same ss a

  -- a function has the same where those have that it calls
  called_same : (fns : List Fun) (g : ℕ) → Agree (callees (call_graph fns) g)
      → work_of_function u f (slice_get fns g) ≡ work_of_function u h (slice_get fns g)
  called_same [] g a = refl
  called_same (x ∷ xs) zero a = body_same x.body a
  called_same (x ∷ xs) (suc g) a = called_same xs g a

-- ---- depths

-- counts by depth: one deeper, a function has so much more than its body has with calls of this depth
module _ (fns : List Fun) (u : ℕ) (more : ℕ → ℕ → ℕ) (count : ℕ → ℕ → ℕ)
    (is : (d g : ℕ) → count (suc d) g ≡ more g (work_of_function u (count d) (slice_get fns g))) where
  -- no chain of calls is longer than either depth
  depth_same : (k a b g : ℕ) → ends k (call_graph fns) g ≡ true → k ≤ a → k ≤ b → count a g ≡ count b g
  depth_same zero a b g end p q = absurd (true≢false (sym end))
  depth_same (suc k) zero b g end p q = absurd (not-suc-le-zero p)
  depth_same (suc k) (suc a) zero g end p q = absurd (not-suc-le-zero q)
  depth_same (suc k) (suc a) (suc b) g end p q =
      let graph = call_graph fns in
      let f = count a in
      let h = count b in
      let same = λ (c : ℕ) (within : ends k graph c ≡ true).
      depth_same k a b c within (le_of_suc-le-suc p) (le_of_suc-le-suc q) in
      let agree = agree_all u f h (ends k graph) same (callees graph g) end in
      is a g ∙ ap (more g) (called_same u f h fns g agree) ∙ sym (is b g)

module _ (p : Program) (keeps : Keeps p) (u : ℕ) where
  -- calls end, so as deep as there are functions one call deeper adds nothing
  same_deeper : (count more : ℕ → ℕ → ℕ)
      → ((d g : ℕ) → count (suc d) g ≡ more g (work_of_function u (count d) (slice_get p.fns g)))
      → ((d g : ℕ) → slice_get p.fns g ≡ None → count d g ≡ count 0 g)
      → (g : ℕ)
      → count (length p.fns) g ≡ more g (work_of_function u (count (length p.fns)) (slice_get p.fns g))
  same_deeper count more is none g = deeper (slice_get_cases p.fns g).1 ∙ is (length p.fns) g
    where
      deeper : ((x : Fun) × (g < length p.fns) × (slice_get p.fns g ≡ Some x) × (get_or p.fns g x ≡ x))
          ⊎ ((length p.fns ≤ g) × (slice_get p.fns g ≡ None))
          → count (length p.fns) g ≡ count (suc (length p.fns)) g
      deeper (inl h) =
          depth_same p.fns u more count is (length p.fns) (length p.fns) (suc (length p.fns)) g
          (keeps.calls_end g h.1) (omega arith) (omega arith)
      deeper (inr h) = none (length p.fns) g h.1 ∙ sym (none (suc (length p.fns)) g h.1)

-- ---- the two counts

none_work : (p : Program) (u d g : ℕ) → slice_get p.fns g ≡ None → work_to p u d g ≡ 0
none_work p u zero g is = refl
none_work p u (suc d) g is = ap (work_of_function u (work_to p u d)) is

pub whole_is : (p : Program) → Keeps p → (u g : ℕ)
    → whole p u g ≡ work_of_function u (whole p u) (slice_get p.fns g)
unfolding whole
whole_is p keeps u g =
    same_deeper p keeps u (work_to p u) (λ g n. n) (λ d g. refl) (none_work p u) g

none_left : (p : Program) (d g : ℕ) → slice_get p.fns g ≡ None → left_to p d g ≡ 2
none_left p zero g is = refl
none_left p (suc d) g is = ap (λ (o : Option Fun). 2 + body_left (left_to p d) o) is

pub left_is : (p : Program) → Keeps p → (g : ℕ)
    → left p g ≡ 2 + body_left (left p) (slice_get p.fns g)
unfolding left
left_is p keeps g =
    same_deeper p keeps 0 (left_to p) (λ g n. 2 + (function_size (slice_get p.fns g) + n)) (λ d g. refl)
    (none_left p) g
