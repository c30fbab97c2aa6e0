-- Constant expressions: lengths of arrays and file-scope initialisers (C11 6.6; that no name stands in them is this
-- project's own).
use Rattle.std.specs.Prelude.{Bool, true, false, not, ◌&&◌, ◌||◌, if◌then◌else◌, List, [], ◌∷◌, Option, Some, None, is_some, ℤ}
use Rattle.c_ast.specs.declared.expr.Expr.{Expr, fold-Expr}
use Rattle.c_ast.specs.declared.expr.Expr.TheOpen.{Expr-F}
use Rattle.c_ir.specs.declared.tree.Expr.{Expr as Typed}
use Rattle.c_rules.specs.Breaches.{Breaches, Env, both, only_if}
use Rattle.c_rules.specs.Constants.{evaluated}
use Rattle.c_rules.specs.Specifiers.{spec_type}
use Rattle.c_rules.specs.Typing.{Gave, gave, literal_type}
use Rattle.c_rules.specs.declared.breach.Fault.TheVariants as F
use Rattle.c_ir.specs.declared.place.Place.TheVariants as P
use Rattle.c_rules.specs.declared.specifiers.SpecType.{SpecType}
use Rattle.c_rules.specs.declared.specifiers.SpecType.TheVariants as S
use Rattle.c_typing.specs.Meaning.{meaning, place_of}

-- what is asked of a constant's form
pub record Form : Type 0 where
  -- a name stands in it
  pub has_name : Bool
  -- it is made of typed literals, of operators and of casts to integer types alone
  pub is_constant : Bool

abbrev pub parts : Form → Form → Form
parts a b = record { has_name = a.has_name || b.has_name; is_constant = a.is_constant && b.is_constant }

abbrev pub broken : Bool → Form
broken has_name = record { has_name = has_name; is_constant = false }

abbrev pub some_name : List Form → Bool
some_name [] = false
some_name (f ∷ fs) = f.has_name || some_name fs

abbrev pub is_integer : Option SpecType → Bool
is_integer None = false
is_integer (Some S.Void) = false
is_integer (Some (S.Integer ty)) = true

abbrev pub form_step : Expr-F Form → Form
form_step (Expr-F.Literal at value form unsigned longs) =
    record { has_name = false; is_constant = is_some (literal_type value form unsigned longs) }
form_step (Expr-F.Name x) = broken true
form_step (Expr-F.Index at of index) = broken (of.has_name || index.has_name)
form_step (Expr-F.Call at of args) = broken (of.has_name || some_name args)
form_step (Expr-F.Unary at op of) = of
form_step (Expr-F.Binary at op left right) = parts left right
form_step (Expr-F.Assign at op to value) = broken (to.has_name || value.has_name)
form_step (Expr-F.Step at up before of) = broken of.has_name
form_step (Expr-F.Cond at c left right) = parts c (parts left right)
form_step (Expr-F.Cast at spec of) =
    record { has_name = of.has_name; is_constant = is_integer (spec_type spec.words) && of.is_constant }

abbrev pub form : Expr → Form
form = fold-Expr Form form_step

abbrev pub given : {X : Type 0} → Gave X → X
given (gave x s) = x

-- its typed tree
abbrev pub tree_of : Env → Expr → Typed
tree_of env e = given ((meaning e).value env (record { 0 = 0 }) P.Inner [])

-- its value, where it is a constant and its evaluation doesn't stop
unfoldable pub constant_value : Env → Expr → Option ℤ
constant_value env e = if (form e).is_constant then evaluated (tree_of env e) else None

-- its breaches, where `fits` says whether its value is allowed: those of an expression; and it is itself in breach
-- where a name stands in it, or where it is a constant whose value isn't allowed
unfoldable pub constant_faults : Bool → Env → Expr → Breaches
constant_faults fits env e =
    both ((meaning e).faults env P.Inner)
    (only_if ((form e).has_name || (form e).is_constant && not fits) (place_of (meaning e)) F.BadType)
