-- The measure of the recursion through statements and functions.
use Rattle.std.proofs.Common.{◌≡◌, ℕ, zero, suc, ◌+◌, ◌-◌, ◌*◌, ◌<◌, ◌≤◌, List, [], ◌∷◌, length, map, get_or, Option, Some, None, refl, sym, ap, subst, ◌∙◌, arith, suc-mul, lt_irrefl}
use Rattle.std.specs.Prelude.{slice_get}
use Rattle.std.proofs.lemmas.Option.{none-some, same_Some}
use Rattle.c_ir.specs.declared.tree.Fun.{Fun}
use Rattle.c_ir.specs.declared.tree.Stmt.{Stmt, fold-Stmt}
use Rattle.c_ir.specs.declared.tree.Stmt.TheOpen.{Stmt-F}
use Rattle.eva_run.specs.declared.inside.Turn.{Turn}
use Rattle.eva_run.specs.declared.inside.Turn.TheVariants as T

abbrev pub weights : List ℕ → ℕ
weights [] = 1
weights (w ∷ ws) = 1 + w + weights ws

abbrev pub weight_step : Stmt-F ℕ → ℕ
weight_step (Stmt-F.Declare p first n value) = 5
weight_step (Stmt-F.Expression p e) = 5
weight_step (Stmt-F.If p c ys ns) = 2 + weights ys + weights ns
weight_step (Stmt-F.While p c bs) = 9 + weights bs
weight_step (Stmt-F.DoWhile p bs c) = 9 + weights bs
weight_step (Stmt-F.For hs p c bs us) = 10 + weights hs + (weights bs + weights us)
weight_step (Stmt-F.Break p) = 5
weight_step (Stmt-F.Continue p) = 5
weight_step (Stmt-F.Return p value) = 5
weight_step (Stmt-F.Empty p) = 5
weight_step (Stmt-F.Block ss) = 1 + weights ss
weight_step (Stmt-F.Note note) = 5
weight_step (Stmt-F.Clause p) = 5

abbrev pub weight : Stmt → ℕ
weight = fold-Stmt ℕ weight_step

abbrev pub weight_all : List Stmt → ℕ
weight_all body = weights (map weight body)

abbrev pub weight_if : Option (List Stmt) → ℕ
weight_if None = 0
weight_if (Some body) = weight_all body

abbrev pub turn_weight : Turn → ℕ
turn_weight (T.While p c bs) = weight_all bs.now
turn_weight (T.DoWhile p bs c) = weight_all bs.now
turn_weight (T.For p c bs us) = weight_all bs.now + weight_all us.now
turn_weight (T.Endless p bs us) = weight_all bs.now + weight_all us.now

abbrev pub heaviest : List Fun → ℕ
heaviest [] = 1
heaviest (f ∷ fs) = weight_if f.body + heaviest fs

abbrev pub measure : List Fun → ℕ → ℕ → ℕ
measure funs depth n = depth * (heaviest funs + 4) + n

lighter : (body : List Stmt) (k : ℕ) (z : Stmt) → k < length body → weight (get_or body k z) < weight_all body
lighter [] k z h = absurd (none h)
  where
    none : {n : ℕ} → n < 0 → ⊥
    none h = omega arith
lighter (s ∷ ss) zero z h = omega arith
lighter (s ∷ ss) (suc k) z h = omega (arith, lighter ss k z (omega arith))

block_less : (funs : List Fun) (depth : ℕ) (body : List Stmt) (k : ℕ) (z : Stmt) → k < length body
    → measure funs depth (weight (get_or body k z)) < measure funs depth (weight_all body)
block_less funs depth body k z h = omega (arith, lighter body k z h)

-- a statement of a block is lighter than the block
pub item_less : (funs : List Fun) (depth : ℕ) (body : List Stmt) (k : ℕ) (item : Stmt) → item ≡ get_or body k item
    → k < length body → measure funs depth (weight item) < measure funs depth (weight_all body)
item_less funs depth body k item at h =
    subst (λ (s : Stmt). measure funs depth (weight s) < measure funs depth (weight_all body)) (sym at)
    (block_less funs depth body k item h)

heavier : (funs : List Fun) (k : ℕ) (f : Fun) → slice_get funs k ≡ Some f → weight_if f.body ≤ heaviest funs
heavier [] k f h = absurd (none-some f h)
heavier (g ∷ fs) zero f h =
    subst (λ (x : Fun). weight_if x.body ≤ heaviest (g ∷ fs)) (same_Some g f h) (omega arith)
heavier (g ∷ fs) (suc k) f h = omega (arith, heavier fs k f h)

times_less : (depth big : ℕ) → 0 < depth → (depth - 1) * big + big ≡ depth * big
times_less zero big h = absurd (lt_irrefl 0 h)
times_less (suc n) big h = rw (suc-mul n big) (ap (λ (k : ℕ). k * big + big) (less n))
  where
    less : (k : ℕ) → suc k - 1 ≡ k
    less k = omega arith

-- a function is lighter than a call to it
pub call_less : (funs : List Fun) (depth k : ℕ) (f : Fun) → 0 < depth → slice_get funs k ≡ Some f
    → measure funs (depth - 1) (weight_if f.body + 3) < measure funs depth 0
call_less funs depth k f h is = omega (arith, heavier funs k f is, times_less depth (heaviest funs + 4) h)
