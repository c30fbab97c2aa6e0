-- Runs of small expressions, as the definitions give them (C11 6.5.5, 6.5.13; the checks are this project's own).
use Rattle.std.specs.Prelude.{◌≡◌, ℕ, ℤ, pos, negsuc, true, false, [], ◌∷◌, Option, Some, None}
use Rattle.fc_base.specs.declared.ids.SiteId.{SiteId}
use Rattle.fc_base.specs.declared.syntax.BinaryOp.TheVariants as B
use Rattle.c_ir.specs.declared.kind.AlarmKind.TheVariants as A
use Rattle.c_ir.specs.declared.ty.IntType.TheVariants as T
use Rattle.c_ir.specs.declared.tree.Expr.{Expr}
use Rattle.c_ir.specs.declared.tree.Node.TheVariants as N
use Rattle.c_ir.specs.Trees.{constant, expr}
use Rattle.c_runs.specs.Visits.{Cells, Check, visit}
use Rattle.c_runs.specs.Evaluation.{Course, stops, gives, value}

abbrev pub site : ℕ → Option SiteId
site n = Some (record { 0 = n })

-- no cell has a number
abbrev pub no_numbers : Cells
no_numbers x = None

-- the least `long`, `% -1`: the divisor isn't 0, and the quotient is no `long`, so the run ends
abbrev pub least_by_minus_one : Expr
least_by_minus_one = expr T.Long (site 0) (N.Binary B.Rem (constant T.Long (negsuc 9223372036854775807)) (constant T.Long (negsuc 0)))

-- `0 && 1 / 0`: the right operand isn't evaluated
abbrev pub one_by_zero : Expr
one_by_zero = expr T.Int (site 0) (N.Binary B.Div (constant T.Int (pos 1)) (constant T.Int (pos 0)))

abbrev pub zero_and : Expr
zero_and = expr T.Int None (N.Binary B.LogicAnd (constant T.Int (pos 0)) one_by_zero)

pub record Examples : Type 0 where
  pub remainder : value true least_by_minus_one no_numbers
      ≡ record { visits = visit (Check 0 A.DivisionByZero) true ∷ visit (Check 0 A.SignedOverflow) false ∷ []; value = None }
  pub lazy : value true zero_and no_numbers ≡ gives (pos 0)
