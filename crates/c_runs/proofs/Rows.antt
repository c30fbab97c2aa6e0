-- The examples, computed.
use Rattle.std.proofs.Common.{◌≡◌, ◌∙◌, ℤ, Bool, true, ap, ap₂, refl}
use Rattle.std.specs.Prelude.{Option}
use Rattle.fc_base.specs.declared.ids.SiteId.{SiteId}
use Rattle.fc_base.specs.declared.syntax.BinaryOp.{BinaryOp}
use Rattle.c_ir.specs.declared.ty.IntType.{IntType}
use Rattle.c_ir.specs.declared.tree.Expr.{Expr}
use Rattle.c_ir.specs.declared.tree.Expr.TheFolds.{fold-roll-Expr}
use Rattle.c_ir.specs.declared.tree.Node.TheVariants as N
use Rattle.c_ir.specs.Trees.{constant, expr}
use Rattle.c_runs.specs.Evaluation.{Meaning, gives, meaning, meaning_step, node_meaning, value, valued}
use Rattle.c_runs.specs.Examples.{Examples, no_numbers}

literal_means : (overflow : Bool) (ty : IntType) (v : ℤ) → meaning overflow (constant ty v) ≡ valued (λ cells. gives v)
literal_means overflow ty v = fold-roll-Expr Meaning (meaning_step overflow) _

binary_means : (overflow : Bool) (ty : IntType) (site : Option SiteId) (op : BinaryOp) (a b : Expr)
    → meaning overflow (expr ty site (N.Binary op a b)) ≡ node_meaning overflow ty site (N.Binary op (meaning overflow a) (meaning overflow b))
binary_means overflow ty site op a b = fold-roll-Expr Meaning (meaning_step overflow) _

-- an operator of two parts whose meanings are known
known : (overflow : Bool) (ty : IntType) (site : Option SiteId) (op : BinaryOp) (a b : Expr) (m n : Meaning) → meaning overflow a ≡ m
    → meaning overflow b ≡ n → meaning overflow (expr ty site (N.Binary op a b)) ≡ node_meaning overflow ty site (N.Binary op m n)
known overflow ty site op a b m n is_a is_b =
    binary_means overflow ty site op a b ∙ ap₂ (λ (x y : Meaning). node_meaning overflow ty site (N.Binary op x y)) is_a is_b

pub examples : Examples
unfolding value
examples = record {
  remainder = ap (λ (m : Meaning). m.value no_numbers) (known true _ _ _ _ _ _ _ (literal_means true _ _) (literal_means true _ _));
  lazy = ap (λ (m : Meaning). m.value no_numbers)
      (known true _ _ _ _ _ _ _ (literal_means true _ _) (known true _ _ _ _ _ _ _ (literal_means true _ _) (literal_means true _ _)));
}
