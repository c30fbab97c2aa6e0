-- What an abstract expression stands for: the evaluation of the expression in each cells that the values stand for.
use Rattle.std.specs.Prelude.{◌≡◌, ◌⊎◌, ℕ, ℤ, Bool, true, not, List, [], ◌∷◌, Option, Some}
use Rattle.c_ir.specs.Formed.{form}
use Rattle.c_ir.specs.Keeps.{layout_of}
use Rattle.c_ir.specs.Programs.{Program}
use Rattle.c_ir.specs.declared.tree.Expr.{Expr}
use Rattle.c_rules.specs.Constants.{is_zero}
use Rattle.c_runs.specs.Evaluation.{Course, value}
use Rattle.c_runs.specs.Parts.{Typed}
use Rattle.c_runs.specs.Visits.{Cells, Check, Visit}
use Rattle.int_value.specs.Standing.{IsRight, Stands}
use Rattle.abs_cells.specs.Cells.{Env}
use Rattle.abs_cells.specs.Laws.{In, Names}
use Rattle.abs_cells.specs.declared.narrowing.Side.{Side}
use Rattle.eva_values.specs.Values.{abstracted}
use Rattle.eva_values.specs.declared.seen.SiteMark.{SiteMark}

-- the visit has a mark, which is right
abbrev pub Marked : List SiteMark → Visit → Type 0
Marked [] v = ⊥
Marked (m ∷ ms) v = ((v.named ≡ Check m.site.0 m.kind) × IsRight m.said (v.holds ≡ true)) ⊎ Marked ms v

abbrev pub AllMarked : List SiteMark → List Visit → Type 0
AllMarked ms [] = Unit {0}
AllMarked ms (v ∷ vs) = Marked ms v × AllMarked ms vs

-- what is said of an evaluation in these cells is right
pub record Covers (c : Cells) (side : Side) (marks : List SiteMark) (narrowed : Bool → Env) (k : Course ℤ) : Type 0 where
  pub marked : AllMarked marks k.visits
  pub value : (z : ℤ) → k.value ≡ Some z → Stands side.value (Some z)
  -- the cell that is named has the number
  pub named : (z : ℤ) → k.value ≡ Some z → Names side.cell c z
  -- what is left of the cells as a condition came out stands for them still
  pub left : (z : ℤ) → k.value ≡ Some z → In (narrowed (not (is_zero z))) c

abbrev pub ExpressionsCover : Type 0
ExpressionsCover =
    (p : Program) (overflow : Bool) (e : Expr) (c : Cells) (env : Env) → (form (layout_of p) e).value ≡ true
    → Typed p c → In env c
    → Covers c ((abstracted overflow e).side env) ((abstracted overflow e).marks env)
    (λ taken. (abstracted overflow e).narrowed taken env) (value overflow e c)
