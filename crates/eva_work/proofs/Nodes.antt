-- Expressions by what stands at their top: the bodies that they call, and what falls.
use Rattle.std.proofs.Common.{◌≡◌, ℕ, ◌+◌, ◌++◌, List, [], ◌∷◌, ◌∙◌, ap, arith}
use Rattle.fc_base.specs.declared.ids.FnId.{FnId}
use Rattle.fc_base.specs.declared.syntax.BinaryOp.{BinaryOp}
use Rattle.c_ir.specs.Calls.{calls_of, calls_of_all, calls_step}
use Rattle.c_ir.specs.Programs.{Program}
use Rattle.c_ir.specs.declared.tree.Node.{Node}
use Rattle.c_ir.specs.declared.tree.Node.TheVariants as N
use Rattle.c_ir.specs.declared.tree.Expr.{Expr, map-Expr, out-Expr}
use Rattle.c_ir.specs.declared.tree.Expr.TheFolds.{fold_out-Expr}
use Rattle.c_ir.specs.declared.tree.Expr.TheOpen.{Expr-F}
use Rattle.eva_work.specs.Work.{bodies_of}
use Rattle.eva_work.specs.inner.Counting.{expr_left, exprs_left, expr_size, expr_size_step, left}
use Rattle.eva_work.proofs.Sums.{bodies_append}

module _ (e : Expr) where
  abbrev with_node : Node Expr (List Expr) → Expr-F Expr
  with_node n = record { ty = (out-Expr e).ty; site = (out-Expr e).site; node = n }

  size_at : (n : Node Expr (List Expr)) → (out-Expr e).node ≡ n
      → expr_size e ≡ expr_size_step (map-Expr Expr ℕ expr_size (with_node n))
  size_at n is =
      fold_out-Expr ℕ expr_size_step e
      ∙ ap (λ (m : Node Expr (List Expr)). expr_size_step (map-Expr Expr ℕ expr_size (with_node m))) is

  calls_at : (n : Node Expr (List Expr)) → (out-Expr e).node ≡ n
      → calls_of e ≡ calls_step (map-Expr Expr (List ℕ) calls_of (with_node n))
  calls_at n is =
      fold_out-Expr (List ℕ) calls_step e
      ∙ ap (λ (m : Node Expr (List Expr)). calls_step (map-Expr Expr (List ℕ) calls_of (with_node m))) is

  -- ---- the bodies that it calls

  pub call_bodies : (calls : ℕ → ℕ) (g : FnId) (es : List Expr) → (out-Expr e).node ≡ N.Call g es
      → bodies_of calls (calls_of e) ≡ bodies_of calls (calls_of_all es) + calls g.0
  call_bodies calls g es is =
      ap (bodies_of calls) (calls_at (N.Call g es) is)
      ∙ omega (arith, bodies_append calls (calls_of_all es) (g.0 ∷ []))

  pub binary_bodies : (calls : ℕ → ℕ) (op : BinaryOp) (l r : Expr) → (out-Expr e).node ≡ N.Binary op l r
      → bodies_of calls (calls_of e) ≡ bodies_of calls (calls_of l) + bodies_of calls (calls_of r)
  binary_bodies calls op l r is =
      ap (bodies_of calls) (calls_at (N.Binary op l r) is) ∙ bodies_append calls (calls_of l) (calls_of r)

  pub assign_bodies : (calls : ℕ → ℕ) (l r : Expr) → (out-Expr e).node ≡ N.Assign l r
      → bodies_of calls (calls_of e) ≡ bodies_of calls (calls_of l) + bodies_of calls (calls_of r)
  assign_bodies calls l r is =
      ap (bodies_of calls) (calls_at (N.Assign l r) is) ∙ bodies_append calls (calls_of l) (calls_of r)

  pub cond_bodies : (calls : ℕ → ℕ) (c l r : Expr) → (out-Expr e).node ≡ N.Cond c l r
      → bodies_of calls (calls_of e)
      ≡ bodies_of calls (calls_of c) + (bodies_of calls (calls_of l) + bodies_of calls (calls_of r))
  cond_bodies calls c l r is =
      ap (bodies_of calls) (calls_at (N.Cond c l r) is)
      ∙ bodies_append calls (calls_of c) (calls_of l ++ calls_of r)
      ∙ ap (λ (n : ℕ). bodies_of calls (calls_of c) + n) (bodies_append calls (calls_of l) (calls_of r))

  -- ---- what falls

  pub call_left : (p : Program) (g : FnId) (es : List Expr) → (out-Expr e).node ≡ N.Call g es
      → expr_left p e ≡ 1 + (exprs_left p es + left p g.0)
  call_left p g es is = omega (arith, size_at (N.Call g es) is, call_bodies (left p) g es is)

  pub binary_left : (p : Program) (op : BinaryOp) (l r : Expr) → (out-Expr e).node ≡ N.Binary op l r
      → expr_left p e ≡ 1 + (expr_left p l + expr_left p r)
  binary_left p op l r is = omega (arith, size_at (N.Binary op l r) is, binary_bodies (left p) op l r is)

  pub assign_left : (p : Program) (l r : Expr) → (out-Expr e).node ≡ N.Assign l r
      → expr_left p e ≡ 1 + (expr_left p l + expr_left p r)
  assign_left p l r is = omega (arith, size_at (N.Assign l r) is, assign_bodies (left p) l r is)

  pub cond_left : (p : Program) (c l r : Expr) → (out-Expr e).node ≡ N.Cond c l r
      → expr_left p e ≡ 1 + (expr_left p c + (expr_left p l + expr_left p r))
  cond_left p c l r is = omega (arith, size_at (N.Cond c l r) is, cond_bodies (left p) c l r is)
