-- C's operators on exact numbers (C11 6.5.3 to 6.5.14): which number is the exact result, which checks an operator
-- has, which operands pass them, and which value comes of it. A type is given by its least number lo, its greatest
-- number hi and its width in bits (6.2.6.2). Terms:
--   exact_of op x y: the result on whole numbers without bound
--   first_check, second_check: the checks of an operator, in their order
--   Passes check op lo hi width x y: the operands pass the check
--   is_visited, ends_run: whether a check is made, and whether its failure ends a run
--   value_of op lo width x y: the value, which for some operators is the result brought into the type
use Rattle.std.specs.Prelude.{◌≡◌, ◌≢◌, ℕ, ◌^◌, ℤ, pos, negsuc, neg_ℤ, ◌+ℤ◌, ◌-ℤ◌, ◌*ℤ◌, ◌≤ℤ◌, ◌<ℤ◌, int_lt, int_div, int_rem, unsigned_abs, Bool, true, false, ◌&&◌, if◌then◌else◌, Option, Some, None}
use Rattle.std.specs.Int.{int_shr}
use Rattle.machine_ints.specs.Bits.{not_of, and_of, or_of, xor_of}
use Rattle.machine_ints.specs.Convert.{wrap}
use Rattle.machine_ints.specs.declared.operators.Check.{Check}
use Rattle.machine_ints.specs.declared.operators.Check.TheVariants.{Division, Overflow, Shift}
use Rattle.machine_ints.specs.declared.operators.Operator.{Operator}
use Rattle.machine_ints.specs.declared.operators.Operator.TheVariants.{Add, Sub, Mul, Div, Rem, Shl, Shr, And, Or, Xor}
use Rattle.machine_ints.specs.declared.operators.UnaryOperator.{UnaryOperator}
use Rattle.machine_ints.specs.declared.operators.UnaryOperator.TheVariants.{Negate, Complement}

-- z is one of the numbers from lo to hi
abbrev pub IsWithin : ℤ → ℤ → ℤ → Type 0
IsWithin lo hi z = (lo ≤ℤ z) × (z ≤ℤ hi)

-- ---- exact results

-- `left << right` (6.5.7)
abbrev pub shl_of : ℤ → ℤ → ℤ
shl_of left right = left *ℤ pos (2 ^ unsigned_abs right)

-- `left >> right`, the floor of the quotient (6.5.7; of a negative number this project's choice)
abbrev pub shr_of : ℤ → ℤ → ℤ
shr_of left right = int_shr left (unsigned_abs right)

-- `int_div` and `int_rem` truncate (6.5.5)
abbrev pub exact_of : Operator → ℤ → ℤ → ℤ
exact_of Add x y = x +ℤ y
exact_of Sub x y = x -ℤ y
exact_of Mul x y = x *ℤ y
exact_of Div x y = int_div x y
exact_of Rem x y = int_rem x y
exact_of Shl x y = shl_of x y
exact_of Shr x y = shr_of x y
exact_of And x y = and_of x y
exact_of Or x y = or_of x y
exact_of Xor x y = xor_of x y

abbrev pub exact_unary : UnaryOperator → ℤ → ℤ
exact_unary Negate x = neg_ℤ x
exact_unary Complement x = not_of x

-- ---- checks

abbrev pub first_check : Operator → Option Check
first_check Add = Some Overflow
first_check Sub = Some Overflow
first_check Mul = Some Overflow
first_check Div = Some Division
first_check Rem = Some Division
first_check Shl = Some Shift
first_check Shr = Some Shift
first_check And = None
first_check Or = None
first_check Xor = None

abbrev pub second_check : Operator → Option Check
second_check Add = None
second_check Sub = None
second_check Mul = None
second_check Div = Some Overflow
second_check Rem = Some Overflow
second_check Shl = Some Overflow
second_check Shr = None
second_check And = None
second_check Or = None
second_check Xor = None

abbrev pub unary_check : UnaryOperator → Option Check
unary_check Negate = Some Overflow
unary_check Complement = None

-- the divisor isn't 0 (6.5.5, paragraph 5)
abbrev pub PassesDivision : ℤ → Type 0
PassesDivision right = right ≢ pos 0

-- the quotient is a number of the type whose least number is lo (6.5.5, paragraph 6)
abbrev pub PassesQuotient : ℤ → ℤ → ℤ → Type 0
PassesQuotient lo left right = left ≡ lo → right ≢ negsuc 0

-- the right operand of a shift in a type of this width (6.5.7, paragraph 3)
abbrev pub PassesShift : ℕ → ℤ → Type 0
PassesShift width right = (pos 0 ≤ℤ right) × (right <ℤ pos width)

-- `<<` in a type whose greatest number is hi (6.5.7, paragraph 4)
abbrev pub PassesShl : ℤ → ℤ → ℤ → Type 0
PassesShl hi left right = (pos 0 ≤ℤ left) × (shl_of left right ≤ℤ hi)

-- no overflow: the exact result is a number of the type (6.5, paragraph 5)
abbrev pub PassesOverflow : Operator → ℤ → ℤ → ℤ → ℤ → Type 0
PassesOverflow Add lo hi x y = IsWithin lo hi (x +ℤ y)
PassesOverflow Sub lo hi x y = IsWithin lo hi (x -ℤ y)
PassesOverflow Mul lo hi x y = IsWithin lo hi (x *ℤ y)
PassesOverflow Div lo hi x y = PassesQuotient lo x y
PassesOverflow Rem lo hi x y = PassesQuotient lo x y
PassesOverflow Shl lo hi x y = PassesShl hi x y
PassesOverflow Shr lo hi x y = Unit {0}
PassesOverflow And lo hi x y = Unit {0}
PassesOverflow Or lo hi x y = Unit {0}
PassesOverflow Xor lo hi x y = Unit {0}

abbrev pub Passes : Check → Operator → ℤ → ℤ → ℕ → ℤ → ℤ → Type 0
Passes Division op lo hi width x y = PassesDivision y
Passes Overflow op lo hi width x y = PassesOverflow op lo hi x y
Passes Shift op lo hi width x y = PassesShift width y

-- the one check of an operator with one operand
abbrev pub PassesUnary : UnaryOperator → ℤ → ℤ → ℤ → Type 0
PassesUnary op lo hi x = IsWithin lo hi (exact_unary op x)

-- signed overflow is a check in signed types alone, and where the parameter asks for it
abbrev pub is_visited : ℤ → Bool → Check → Bool
is_visited lo overflow Division = true
is_visited lo overflow Overflow = int_lt lo (pos 0) && overflow
is_visited lo overflow Shift = true

-- after a failure of this check there is no value, since C leaves it undefined
abbrev pub ends_run : Check → Bool
ends_run Division = true
ends_run Overflow = true
ends_run Shift = true

-- the operands pass the check, if the operator has it
abbrev pub PassesIf : Option Check → Operator → ℤ → ℤ → ℕ → ℤ → ℤ → Type 0
PassesIf None op lo hi width x y = Unit {0}
PassesIf (Some check) op lo hi width x y = Passes check op lo hi width x y

abbrev pub PassesUnaryIf : Option Check → UnaryOperator → ℤ → ℤ → ℤ → Type 0
PassesUnaryIf None op lo hi x = Unit {0}
PassesUnaryIf (Some check) op lo hi x = PassesUnary op lo hi x

-- the check, if there is one, is visited
abbrev pub is_visited_if : ℤ → Bool → Option Check → Bool
is_visited_if lo overflow None = false
is_visited_if lo overflow (Some check) = is_visited lo overflow check

-- the check, if there is one, is visited and its failure ends the run
abbrev pub may_end : ℤ → Bool → Option Check → Bool
may_end lo overflow None = false
may_end lo overflow (Some check) = is_visited lo overflow check && ends_run check

-- ---- values

-- the result is brought into the type: unsigned arithmetic wraps (6.2.5, paragraph 9), and so does signed arithmetic
-- where its overflow isn't checked (this project's choice)
abbrev pub is_wrapped : Operator → ℤ → Bool
is_wrapped Add lo = true
is_wrapped Sub lo = true
is_wrapped Mul lo = true
is_wrapped Div lo = int_lt lo (pos 0)
is_wrapped Rem lo = int_lt lo (pos 0)
is_wrapped Shl lo = true
is_wrapped Shr lo = false
is_wrapped And lo = false
is_wrapped Or lo = false
is_wrapped Xor lo = false

unfoldable pub value_of : Operator → ℤ → ℕ → ℤ → ℤ → ℤ
value_of op lo width x y = if is_wrapped op lo then wrap lo width (exact_of op x y) else exact_of op x y

unfoldable pub unary_value : UnaryOperator → ℤ → ℕ → ℤ → ℤ
unary_value op lo width x = wrap lo width (exact_unary op x)

-- the sum of a number of the type and its complement `~`
abbrev pub complement_sum : ℤ → ℤ → ℤ
complement_sum lo hi = if int_lt lo (pos 0) then negsuc 0 else hi
