-- Sums of counts, and the places of functions.
use Rattle.std.proofs.Common.{◌≡◌, ◌⊎◌, inl, inr, ℕ, zero, suc, ◌+◌, ◌<◌, ◌≤◌, ◌++◌, min, List, [], ◌∷◌, length, map, drop, get_or, set, refl, sym, ◌∙◌, ap, ap₂, subst, add-one, drop-cons, not-suc-le-zero, replicate, arith}
use Rattle.c_ir.specs.Calls.{calls_of, calls_of_all}
use Rattle.c_ir.specs.Programs.{Program}
use Rattle.c_ir.specs.declared.tree.Expr.{Expr}
use Rattle.c_ir.specs.declared.tree.Stmt.{Stmt}
use Rattle.eva_work.specs.Work.{bodies_of, most_work, work_of_stmt, work_of_stmts}
use Rattle.eva_work.specs.inner.Counting.{Noted, IsNoted, capped, expr_left, exprs_left, expr_size, exprs_size, left, size_all, stmt_left, stmts_left, stmt_size, stmts_size, whole}

-- ---- sums

pub bodies_append : (calls : ℕ → ℕ) (xs ys : List ℕ)
    → bodies_of calls (xs ++ ys) ≡ bodies_of calls xs + bodies_of calls ys
bodies_append calls [] ys = omega arith
bodies_append calls (x ∷ xs) ys = omega (arith, bodies_append calls xs ys)

-- ---- places

-- a place after one was set
set_cases : (xs : List ℕ) (i v g : ℕ)
    → (get_or (set xs i v) g 0 ≡ get_or xs g 0) ⊎ ((g ≡ i) × (get_or (set xs i v) g 0 ≡ v))
set_cases [] i v g = inl refl
set_cases (x ∷ xs) zero v zero = inr (refl, refl)
set_cases (x ∷ xs) zero v (suc g) = inl refl
set_cases (x ∷ xs) (suc i) v zero = inl refl
set_cases (x ∷ xs) (suc i) v (suc g) = more (set_cases xs i v g)
  where
    more : (get_or (set xs i v) g 0 ≡ get_or xs g 0) ⊎ ((g ≡ i) × (get_or (set xs i v) g 0 ≡ v))
        → (get_or (set xs i v) g 0 ≡ get_or xs g 0) ⊎ ((suc g ≡ suc i) × (get_or (set xs i v) g 0 ≡ v))
    more (inl e) = inl e
    more (inr e) = inr (ap suc e.0, e.1)

pub noted_more : (p : Program) (u : ℕ) (known : List ℕ) (g n : ℕ) → n ≡ capped (whole p u g)
    → Noted p u known → Noted p u (set known g (n + 1))
noted_more p u known g n is h x = by_place (set_cases known g (n + 1) x)
  where
    by_place : (get_or (set known g (n + 1)) x 0 ≡ get_or known x 0)
        ⊎ ((x ≡ g) × (get_or (set known g (n + 1)) x 0 ≡ n + 1))
        → IsNoted (get_or (set known g (n + 1)) x 0) (whole p u x)
    by_place (inl e) = subst (λ (k : ℕ). IsNoted k (whole p u x)) (sym e) (h x)
    by_place (inr e) =
        subst (λ (k : ℕ). IsNoted k (whole p u x)) (sym (e.1 ∙ add-one n))
        (subst (λ (y : ℕ). n ≡ capped (whole p u y)) (sym e.0) is)

-- none is known
pub none_noted : (p : Program) (u n : ℕ) (known : List ℕ)
    → ◌≡◌ {A = List ℕ} known (replicate n 0) → Noted p u known
none_noted p u n known is g =
    let place = ap (λ (xs : List ℕ). get_or xs g 0) is ∙ blank n g in
    subst (λ (k : ℕ). IsNoted k (whole p u g)) (sym place) tt
  where
    blank : (n g : ℕ) → ◌≡◌ {A = ℕ} (get_or (replicate n 0) g 0) 0
    blank zero g = refl
    blank (suc n) zero = refl
    blank (suc n) (suc g) = blank n g

-- ---- items of lists

some_size : (ns : List ℕ) → 0 < size_all ns
some_size [] = omega arith
some_size (n ∷ ns) = omega (arith, some_size ns)

expr_less : (calls : ℕ → ℕ) (es : List Expr) (i : ℕ) (z : Expr) → i < length es
    → expr_size (get_or es i z) + bodies_of calls (calls_of (get_or es i z))
    < exprs_size es + bodies_of calls (calls_of_all es)
expr_less calls [] i z h = absurd (not-suc-le-zero h)
expr_less calls (e ∷ es) zero z h =
    omega (arith, bodies_append calls (calls_of e) (calls_of_all es), some_size (map expr_size es))
expr_less calls (e ∷ es) (suc i) z h =
    omega (arith, bodies_append calls (calls_of e) (calls_of_all es), expr_less calls es i z (omega arith))

pub expr_item : (p : Program) (es : List Expr) (i : ℕ) (e : Expr) → i < length es → e ≡ get_or es i e
    → expr_left p e < exprs_left p es
expr_item p es i e h is =
    subst (λ (x : Expr). expr_left p x < exprs_left p es) (sym is) (expr_less (left p) es i e h)

stmt_less : (calls : ℕ → ℕ) (ss : List Stmt) (i : ℕ) (z : Stmt) → i < length ss
    → stmt_size (get_or ss i z) + work_of_stmt 0 calls (get_or ss i z)
    < stmts_size ss + work_of_stmts 0 calls ss
stmt_less calls [] i z h = absurd (not-suc-le-zero h)
stmt_less calls (s ∷ ss) zero z h = omega (arith, some_size (map stmt_size ss))
stmt_less calls (s ∷ ss) (suc i) z h = omega (arith, stmt_less calls ss i z (omega arith))

pub stmt_item : (p : Program) (ss : List Stmt) (i : ℕ) (s : Stmt) → i < length ss → s ≡ get_or ss i s
    → stmt_left p s < stmts_left p ss
stmt_item p ss i s h is =
    subst (λ (x : Stmt). stmt_left p x < stmts_left p ss) (sym is) (stmt_less (left p) ss i s h)

-- ---- steps of loops

drop_item : {X : Type 0} (xs : List X) (i : ℕ) (x : X) → i < length xs → x ≡ get_or xs i x
    → drop i xs ≡ x ∷ drop (i + 1) xs
drop_item xs i x h is =
    drop-cons xs i x h ∙ ap₂ (λ (y : _) (n : ℕ). y ∷ drop n xs) (sym is) (sym (add-one i))

-- one item more is in the total
step_by : (total item rest all s v m : ℕ) → s ≡ min (total + v) m → v ≡ min item m
    → min (total + (item + rest)) m ≡ min all m → min (s + rest) m ≡ min all m
step_by total item rest all s v m sums counts before = omega (arith, sums, counts, before)

-- a count is at most the greatest
pub few_of : (s n : ℕ) → s ≡ capped n → s ≤ most_work
few_of s n is = bound s n most_work is
  where
    bound : (s n m : ℕ) → s ≡ min n m → s ≤ m
    bound s n m is = omega (arith, is)

pub exprs_step : (calls : ℕ → ℕ) (es : List Expr) (i : ℕ) (e : Expr) (total all s v : ℕ)
    → i < length es → e ≡ get_or es i e
    → s ≡ capped (total + v) → v ≡ capped (bodies_of calls (calls_of e))
    → capped (total + bodies_of calls (calls_of_all (drop i es))) ≡ capped all
    → capped (s + bodies_of calls (calls_of_all (drop (i + 1) es))) ≡ capped all
exprs_step calls es i e total all s v h is sums counts before =
    let rest = drop (i + 1) es in
    let parts = ap (λ (xs : List Expr). bodies_of calls (calls_of_all xs)) (drop_item es i e h is)
    ∙ bodies_append calls (calls_of e) (calls_of_all rest) in
    let item = bodies_of calls (calls_of e) in
    step_by total item (bodies_of calls (calls_of_all rest)) all s v most_work sums counts
    (ap (λ (n : ℕ). capped (total + n)) (sym parts) ∙ before)

pub stmts_step : (u : ℕ) (calls : ℕ → ℕ) (ss : List Stmt) (i : ℕ) (x : Stmt) (total all s v : ℕ)
    → i < length ss → x ≡ get_or ss i x
    → s ≡ capped (total + v) → v ≡ capped (work_of_stmt u calls x)
    → capped (total + work_of_stmts u calls (drop i ss)) ≡ capped all
    → capped (s + work_of_stmts u calls (drop (i + 1) ss)) ≡ capped all
stmts_step u calls ss i x total all s v h is sums counts before =
    let parts = ap (λ (xs : List Stmt). work_of_stmts u calls xs) (drop_item ss i x h is) in
    let item = work_of_stmt u calls x in
    step_by total item (work_of_stmts u calls (drop (i + 1) ss)) all s v most_work sums counts
    (ap (λ (n : ℕ). capped (total + n)) (sym parts) ∙ before)

-- ---- sums of parts

two_by : (m a b x y t s : ℕ) → s ≡ min (a + b) m → a ≡ min x m → b ≡ min y m → t ≡ x + y → s ≡ min t m
two_by m a b x y t s sums one other parts = omega (arith, sums, one, other, parts)

-- the sum of two counts, where a whole has these two parts
pub two_parts : (a b x y t s : ℕ) → s ≡ capped (a + b) → a ≡ capped x → b ≡ capped y → t ≡ x + y
    → s ≡ capped t
two_parts a b x y t s = two_by most_work a b x y t s
