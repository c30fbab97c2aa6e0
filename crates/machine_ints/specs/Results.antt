-- Laws of C's operators: on numbers of a type the values are numbers of the type.
use Rattle.std.specs.Prelude.{◌≡◌, ℕ, ℤ, pos, ◌-ℤ◌, Bool, true}
use Rattle.machine_ints.specs.Convert.{IsType, bool_of, wrap}
use Rattle.machine_ints.specs.Operators.{IsWithin, PassesIf, exact_of, exact_unary, first_check, second_check, may_end, value_of, unary_value, complement_sum}
use Rattle.machine_ints.specs.declared.operators.Operator.{Operator}
use Rattle.machine_ints.specs.declared.operators.Operator.TheVariants.{Add, Sub, Mul, Div, Rem, Shl, Shr, And, Or, Xor}
use Rattle.machine_ints.specs.declared.operators.UnaryOperator.{UnaryOperator}
use Rattle.machine_ints.specs.declared.operators.UnaryOperator.TheVariants.{Complement}

-- the right operand is a number of the type; that of a shift may be of another type
abbrev pub IsRightOperand : Operator → ℤ → ℤ → ℤ → Type 0
IsRightOperand Add lo hi y = IsWithin lo hi y
IsRightOperand Sub lo hi y = IsWithin lo hi y
IsRightOperand Mul lo hi y = IsWithin lo hi y
IsRightOperand Div lo hi y = IsWithin lo hi y
IsRightOperand Rem lo hi y = IsWithin lo hi y
IsRightOperand Shl lo hi y = Unit {0}
IsRightOperand Shr lo hi y = Unit {0}
IsRightOperand And lo hi y = IsWithin lo hi y
IsRightOperand Or lo hi y = IsWithin lo hi y
IsRightOperand Xor lo hi y = IsWithin lo hi y

-- what the result asks of the operands, beside the checks: those that it needs are numbers of the type
abbrev pub AreOperands : Operator → ℤ → ℤ → ℤ → ℤ → Type 0
AreOperands Add lo hi x y = Unit {0}
AreOperands Sub lo hi x y = Unit {0}
AreOperands Mul lo hi x y = Unit {0}
AreOperands Div lo hi x y = IsWithin lo hi x
AreOperands Rem lo hi x y = IsWithin lo hi x
AreOperands Shl lo hi x y = IsWithin lo hi x
AreOperands Shr lo hi x y = Unit {0}
AreOperands And lo hi x y = IsWithin lo hi x × IsWithin lo hi y
AreOperands Or lo hi x y = IsWithin lo hi x × IsWithin lo hi y
AreOperands Xor lo hi x y = IsWithin lo hi x × IsWithin lo hi y

-- operands of C are such
abbrev pub TypedAreOperands : Type 0
TypedAreOperands =
    (op : Operator) (lo hi x y : ℤ) → IsWithin lo hi x → IsRightOperand op lo hi y → AreOperands op lo hi x y

-- operands that pass both checks, visited or not, have an exact result in the type, and it is the value
abbrev pub ExactIsValue : Type 0
ExactIsValue =
    (op : Operator) (lo hi : ℤ) (width : ℕ) (x y : ℤ) → IsType lo hi width → IsWithin lo hi x → IsRightOperand op lo hi y
    → PassesIf (first_check op) op lo hi width x y → PassesIf (second_check op) op lo hi width x y
    → IsWithin lo hi (exact_of op x y) × (value_of op lo width x y ≡ exact_of op x y)

-- operands that end no run have a value in the type, which is the exact result brought into it
abbrev pub ValueIsTyped : Type 0
ValueIsTyped =
    (op : Operator) (lo hi : ℤ) (width : ℕ) (overflow : Bool) (x y : ℤ) → IsType lo hi width
    → IsWithin lo hi x → IsRightOperand op lo hi y
    → (may_end lo overflow (first_check op) ≡ true → PassesIf (first_check op) op lo hi width x y)
    → IsWithin lo hi (value_of op lo width x y) × (value_of op lo width x y ≡ wrap lo width (exact_of op x y))

-- the value of an operator with one operand is in the type, and the exact result is it where it is in the type
abbrev pub UnaryIsTyped : Type 0
UnaryIsTyped =
    (op : UnaryOperator) (lo hi : ℤ) (width : ℕ) (x : ℤ) → IsType lo hi width
    → IsWithin lo hi (unary_value op lo width x)
    × (IsWithin lo hi (exact_unary op x) → unary_value op lo width x ≡ exact_unary op x)

-- the complement of a number of the type: -1 - x, or the greatest number less x in an unsigned type
abbrev pub ComplementIs : Type 0
ComplementIs =
    (lo hi : ℤ) (width : ℕ) (x : ℤ) → IsType lo hi width → IsWithin lo hi x
    → unary_value Complement lo width x ≡ complement_sum lo hi -ℤ x

-- a conversion gives a number of the type, and a number of the type is kept
abbrev pub WrapIsTyped : Type 0
WrapIsTyped =
    (lo hi : ℤ) (width : ℕ) (z : ℤ) → IsType lo hi width
    → IsWithin lo hi (wrap lo width z) × (IsWithin lo hi z → wrap lo width z ≡ z)

-- so does a conversion to `_Bool`, whose numbers are 0 and 1
abbrev pub BoolIsTyped : Type 0
BoolIsTyped = (z : ℤ) → IsWithin (pos 0) (pos 1) (bool_of z)
