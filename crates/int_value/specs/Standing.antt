-- What a value stands for, and when what is said of a fact is right.
use Rattle.std.specs.Prelude.{ℤ, IsTrue, Bool, true, false, Option, Some, None}
use Rattle.int_interval.specs.Laws as intervals
use Rattle.int_interval.specs.declared.said.Said.{Said}
use Rattle.int_interval.specs.declared.said.Said.TheVariants.{Yes, No, Maybe, Unreached}
use Rattle.int_congr.specs.Laws as congrs
use Rattle.int_value.specs.declared.value.Value.{Value}

-- the value stands for the number
abbrev pub Holds : Value → ℤ → Type 0
Holds v z = intervals.Holds v.range z × congrs.Holds v.congr z

-- the value stands for what a cell may hold: a number, or no value
abbrev pub Stands : Value → Option ℤ → Type 0
Stands v None = IsTrue v.unset
Stands v (Some z) = Holds v z

-- the value doesn't stand for no value
abbrev pub HasValue : Value → Type 0
HasValue v = ¬ (Stands v None)

-- what is said is true of a fact on numbers that the operands stand for
abbrev pub IsRight : Said → Type 0 → Type 0
IsRight Yes fact = fact
IsRight No fact = ¬ fact
IsRight Maybe fact = Unit {0}
IsRight Unreached fact = ⊥

-- a check that is visited has a mark, which is right, and no other check has one
abbrev pub IsMark : Bool → Option Said → Type 0 → Type 0
IsMark true None fact = ⊥
IsMark true (Some said) fact = IsRight said fact
IsMark false None fact = Unit {0}
IsMark false (Some said) fact = ⊥
