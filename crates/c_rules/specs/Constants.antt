-- The values of constant expressions on the fixed machine (C11 6.5, 6.6). What an operator gives, and which checks it
-- has, are those of machine_ints, in the type of the expression. Nothing is given where an evaluation stops, since a
-- check fails, or where it would read an object, call a function or assign.
use Rattle.std.specs.Prelude.{◌≡◌, ◌↔◌, ◌⊎◌, ℕ, ℤ, pos, negsuc, ◌+ℤ◌, ◌-ℤ◌, ◌*ℤ◌, int_le, int_lt, Bool, true, false, not, ◌&&◌, ◌||◌, if◌then◌else◌, List, Option, Some, None}
use Rattle.std.specs.Option.{option_and_then}
use Rattle.fc_base.specs.declared.ids.SiteId.{SiteId}
use Rattle.fc_base.specs.declared.syntax.BinaryOp.{BinaryOp}
use Rattle.fc_base.specs.declared.syntax.BinaryOp.TheVariants as B
use Rattle.fc_base.specs.declared.syntax.UnaryOp.{UnaryOp}
use Rattle.fc_base.specs.declared.syntax.UnaryOp.TheVariants as U
use Rattle.machine_ints.specs.declared.operators.Check.{Check}
use Rattle.machine_ints.specs.declared.operators.Check.TheVariants.{Division, Overflow, Shift}
use Rattle.machine_ints.specs.declared.operators.Operator.{Operator}
use Rattle.machine_ints.specs.declared.operators.Operator.TheVariants as O
use Rattle.machine_ints.specs.declared.operators.UnaryOperator.{UnaryOperator}
use Rattle.machine_ints.specs.declared.operators.UnaryOperator.TheVariants.{Negate, Complement}
use Rattle.machine_ints.specs.Convert.{bool_of, wrap}
use Rattle.machine_ints.specs.Operators.{IsWithin, PassesIf, PassesUnaryIf, shl_of, exact_unary, first_check, second_check, unary_check, is_visited_if, value_of, unary_value}
use Rattle.machine_ints.specs.Results.{IsRightOperand}
use Rattle.c_ir.specs.declared.ty.IntType.{IntType}
use Rattle.c_ir.specs.declared.ty.IntType.TheVariants as T
use Rattle.c_ir.specs.declared.tree.Node.{Node}
use Rattle.c_ir.specs.declared.tree.Node.TheVariants as N
use Rattle.c_ir.specs.declared.tree.Expr.{Expr, fold-Expr}
use Rattle.c_ir.specs.declared.tree.Expr.TheOpen.{Expr-F}
use Rattle.c_ir.specs.Trees.{expr}
use Rattle.c_ir.specs.Types.{least, greatest, width, same_type}

-- ---- numbers

abbrev pub is_among : ℤ → ℤ → ℤ → Bool
is_among lo hi z = int_le lo z && int_le z hi

abbrev pub is_number : IntType → ℤ → Bool
is_number ty z = is_among (least ty) (pos (greatest ty)) z

abbrev pub equals : ℤ → ℤ → Bool
equals x y = int_le x y && int_le y x

abbrev pub is_zero : ℤ → Bool
is_zero x = equals x (pos 0)

-- what a relation and `!`, `&&` and `||` give (6.5.3.3, 6.5.8, 6.5.9, 6.5.13, 6.5.14)
abbrev pub truth : Bool → ℤ
truth b = if b then pos 1 else pos 0

-- the number modulo 2^width in the type
abbrev pub brought : IntType → ℤ → ℤ
brought ty z = wrap (least ty) (width ty) z

-- a conversion to the type (6.3.1.2, 6.3.1.3)
abbrev pub converted : IntType → ℤ → ℤ
converted ty z = if same_type ty T.Bool then bool_of z else brought ty z

-- a constant, which a typed tree has in the type alone
abbrev pub literal_value : IntType → ℤ → Option ℤ
literal_value ty v = if is_number ty v then Some v else None

-- ---- checks: those of machine_ints as tests

abbrev pub passes_overflow : Operator → ℤ → ℤ → ℤ → ℤ → Bool
passes_overflow O.Add lo hi x y = is_among lo hi (x +ℤ y)
passes_overflow O.Sub lo hi x y = is_among lo hi (x -ℤ y)
passes_overflow O.Mul lo hi x y = is_among lo hi (x *ℤ y)
passes_overflow O.Div lo hi x y = not (equals x lo && equals y (negsuc 0))
passes_overflow O.Rem lo hi x y = not (equals x lo && equals y (negsuc 0))
passes_overflow O.Shl lo hi x y = int_le (pos 0) x && int_le (shl_of x y) hi
passes_overflow O.Shr lo hi x y = true
passes_overflow O.And lo hi x y = true
passes_overflow O.Or lo hi x y = true
passes_overflow O.Xor lo hi x y = true

abbrev pub passes : Check → Operator → ℤ → ℤ → ℕ → ℤ → ℤ → Bool
passes Division op lo hi width x y = not (is_zero y)
passes Overflow op lo hi width x y = passes_overflow op lo hi x y
passes Shift op lo hi width x y = int_le (pos 0) y && int_lt y (pos width)

abbrev pub passes_if : Option Check → Operator → ℤ → ℤ → ℕ → ℤ → ℤ → Bool
passes_if None op lo hi width x y = true
passes_if (Some check) op lo hi width x y = passes check op lo hi width x y

-- the check, if there is one, is visited and not passed
abbrev pub fails : Option Check → Operator → IntType → ℤ → ℤ → Bool
fails check op ty x y =
    is_visited_if (least ty) true check && not (passes_if check op (least ty) (pos (greatest ty)) (width ty) x y)

abbrev pub unary_fails : UnaryOperator → IntType → ℤ → Bool
unary_fails op ty x = is_visited_if (least ty) true (unary_check op) && not (is_number ty (exact_unary op x))

-- ---- operators

abbrev pub is_shift : Operator → Bool
is_shift O.Add = false
is_shift O.Sub = false
is_shift O.Mul = false
is_shift O.Div = false
is_shift O.Rem = false
is_shift O.Shl = true
is_shift O.Shr = true
is_shift O.And = false
is_shift O.Or = false
is_shift O.Xor = false

-- the operands are numbers of the type; the right one of a shift may be of another. In a typed tree they are.
abbrev pub are_operands : Operator → IntType → ℤ → ℤ → Bool
are_operands op ty x y = is_number ty x && (is_shift op || is_number ty y)

-- on operands that are numbers of the type
unfoldable pub checked : Operator → IntType → ℤ → ℤ → Option ℤ
checked op ty x y =
    if fails (first_check op) op ty x y || fails (second_check op) op ty x y then None
    else Some (value_of op (least ty) (width ty) x y)

unfoldable pub operated : Operator → IntType → ℤ → ℤ → Option ℤ
operated op ty x y = if are_operands op ty x y then checked op ty x y else None

unfoldable pub unary_operated : UnaryOperator → IntType → ℤ → Option ℤ
unary_operated op ty x = if unary_fails op ty x then None else Some (unary_value op (least ty) (width ty) x)

-- an operator before its operand, in the type of the expression (6.5.3.3)
abbrev pub unary_result : UnaryOp → IntType → ℤ → Option ℤ
unary_result U.Plus ty x = Some x
unary_result U.Minus ty x = unary_operated Negate ty x
unary_result U.Not ty x = Some (truth (is_zero x))
unary_result U.Invert ty x = unary_operated Complement ty x

-- what the left operand alone decides: after `&&` and `||` the right one may stand unevaluated (6.5.13, 6.5.14)
abbrev pub decided : BinaryOp → ℤ → Option ℤ
decided B.LogicOr x = if is_zero x then None else Some (pos 1)
decided B.LogicAnd x = if is_zero x then Some (pos 0) else None
decided _ x = None

-- else the value by both operands, in the type of the expression (6.5.5 to 6.5.14)
unfoldable pub binary_result : BinaryOp → IntType → ℤ → ℤ → Option ℤ
binary_result B.LogicOr ty x y = Some (truth (not (is_zero y)))
binary_result B.LogicAnd ty x y = Some (truth (not (is_zero y)))
binary_result B.Or ty x y = operated O.Or ty x y
binary_result B.Xor ty x y = operated O.Xor ty x y
binary_result B.And ty x y = operated O.And ty x y
binary_result B.Equal ty x y = Some (truth (equals x y))
binary_result B.NotEqual ty x y = Some (truth (not (equals x y)))
binary_result B.Less ty x y = Some (truth (int_lt x y))
binary_result B.Greater ty x y = Some (truth (int_lt y x))
binary_result B.LessEq ty x y = Some (truth (int_le x y))
binary_result B.GreaterEq ty x y = Some (truth (int_le y x))
binary_result B.Shl ty x y = operated O.Shl ty x y
binary_result B.Shr ty x y = operated O.Shr ty x y
binary_result B.Add ty x y = operated O.Add ty x y
binary_result B.Sub ty x y = operated O.Sub ty x y
binary_result B.Mul ty x y = operated O.Mul ty x y
binary_result B.Div ty x y = operated O.Div ty x y
binary_result B.Rem ty x y = operated O.Rem ty x y

abbrev pub after_left : Option ℤ → BinaryOp → IntType → ℤ → Option ℤ → Option ℤ
after_left None op ty x r = option_and_then (binary_result op ty x) r
after_left (Some v) op ty x r = Some v

-- ---- expressions

abbrev pub node_value : IntType → Node (Option ℤ) (List (Option ℤ)) → Option ℤ
node_value ty (N.Literal v) = literal_value ty v
node_value ty (N.Cell c k) = None
node_value ty (N.Element f n i k) = None
node_value ty (N.Call g es) = None
node_value ty (N.Unary op e) = option_and_then (unary_result op ty) e
node_value ty (N.Binary op l r) = option_and_then (λ x. after_left (decided op x) op ty x r) l
node_value ty (N.Assign t e) = None
node_value ty (N.Cond c l r) = option_and_then (λ x. if is_zero x then r else l) c
node_value ty (N.Cast e) = option_and_then (λ x. Some (converted ty x)) e

abbrev pub value_step : Expr-F (Option ℤ) → Option ℤ
value_step e = node_value e.ty e.node

-- the value of a constant expression
unfoldable pub evaluated : Expr → Option ℤ
evaluated = fold-Expr (Option ℤ) value_step

-- ---- the law: evaluation stops exactly where a check fails

-- how the operators of machine_ints are written in C
abbrev pub written : Operator → BinaryOp
written O.Add = B.Add
written O.Sub = B.Sub
written O.Mul = B.Mul
written O.Div = B.Div
written O.Rem = B.Rem
written O.Shl = B.Shl
written O.Shr = B.Shr
written O.And = B.And
written O.Or = B.Or
written O.Xor = B.Xor

abbrev pub unary_written : UnaryOperator → UnaryOp
unary_written Negate = U.Minus
unary_written Complement = U.Invert

-- the check is visited, and the operands don't pass it
abbrev pub Fails : Option Check → Operator → IntType → ℤ → ℤ → Type 0
Fails check op ty x y =
    (is_visited_if (least ty) true check ≡ true)
    × (PassesIf check op (least ty) (pos (greatest ty)) (width ty) x y → ⊥)

abbrev pub Stops : Operator → IntType → ℤ → ℤ → Type 0
Stops op ty x y = Fails (first_check op) op ty x y ⊎ Fails (second_check op) op ty x y

abbrev pub StopsUnary : UnaryOperator → IntType → ℤ → Type 0
StopsUnary op ty x =
    (is_visited_if (least ty) true (unary_check op) ≡ true)
    × (PassesUnaryIf (unary_check op) op (least ty) (pos (greatest ty)) x → ⊥)

-- the outcome is none exactly where `stops`, else it is `value`
abbrev pub IsNoneExactly : Type 0 → Option ℤ → ℤ → Type 0
IsNoneExactly stops outcome value = ((outcome ≡ None) ↔ stops) × ((stops → ⊥) → outcome ≡ Some value)

-- an operator on operands that are numbers of its type
abbrev pub BinaryStops : Type 0
BinaryStops =
    (op : Operator) (ty : IntType) (site : Option SiteId) (l r : Expr) (x y : ℤ)
    → evaluated l ≡ Some x → evaluated r ≡ Some y
    → IsWithin (least ty) (pos (greatest ty)) x → IsRightOperand op (least ty) (pos (greatest ty)) y
    → IsNoneExactly (Stops op ty x y) (evaluated (expr ty site (N.Binary (written op) l r)))
    (value_of op (least ty) (width ty) x y)

abbrev pub UnaryStops : Type 0
UnaryStops =
    (op : UnaryOperator) (ty : IntType) (site : Option SiteId) (e : Expr) (x : ℤ)
    → evaluated e ≡ Some x
    → IsNoneExactly (StopsUnary op ty x) (evaluated (expr ty site (N.Unary (unary_written op) e)))
    (unary_value op (least ty) (width ty) x)
