-- A number by its sign bit.
use Rattle.std.specs.Prelude.{◌^◌, ◌<◌, ℤ, pos, negsuc}
use Rattle.machine_ints.specs.declared.bits.Halved.{Halved}
use Rattle.machine_ints.specs.declared.bits.Halved.TheVariants.{Clear, Set}

abbrev pub value_of : Halved → ℤ
value_of (Clear bits) = pos bits
value_of (Set bits) = negsuc bits

-- the bits fit beside a sign bit in 128 bits
abbrev pub IsShort : Halved → Type 0
IsShort (Clear bits) = bits < 2 ^ 127
IsShort (Set bits) = bits < 2 ^ 127
