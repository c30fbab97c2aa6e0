-- C's integer types on the fixed machine: widths 8, 16, 32, 64 and 64, two's complement, and `char` signed (C11
-- 6.2.5, 6.2.6.2, 6.3.1; which widths, and that `char` is signed, is the machine's).
use Rattle.std.specs.Prelude.{ℕ, ℤ, pos, neg_ℤ, Bool, true, false, ◌==◌, nat_lt, ◌&&◌, if◌then◌else◌}
use Rattle.c_ir.specs.declared.ty.IntType.{IntType}
use Rattle.c_ir.specs.declared.ty.IntType.TheVariants as T

-- the width in bits, sign included (6.2.6.2)
abbrev pub width : IntType → ℕ
width T.Bool = 1
width T.Char = 8
width T.SignedChar = 8
width T.UnsignedChar = 8
width T.Short = 16
width T.UnsignedShort = 16
width T.Int = 32
width T.UnsignedInt = 32
width T.Long = 64
width T.UnsignedLong = 64
width T.LongLong = 64
width T.UnsignedLongLong = 64

abbrev pub is_signed : IntType → Bool
is_signed T.Bool = false
is_signed T.Char = true
is_signed T.SignedChar = true
is_signed T.UnsignedChar = false
is_signed T.Short = true
is_signed T.UnsignedShort = false
is_signed T.Int = true
is_signed T.UnsignedInt = false
is_signed T.Long = true
is_signed T.UnsignedLong = false
is_signed T.LongLong = true
is_signed T.UnsignedLongLong = false

-- the conversion rank (6.3.1.1)
abbrev pub rank : IntType → ℕ
rank T.Bool = 0
rank T.Char = 1
rank T.SignedChar = 1
rank T.UnsignedChar = 1
rank T.Short = 2
rank T.UnsignedShort = 2
rank T.Int = 3
rank T.UnsignedInt = 3
rank T.Long = 4
rank T.UnsignedLong = 4
rank T.LongLong = 5
rank T.UnsignedLongLong = 5

-- the least and the greatest number (5.2.4.2.1)
abbrev pub least : IntType → ℤ
least T.Bool = pos 0
least T.Char = neg_ℤ (pos 128)
least T.SignedChar = neg_ℤ (pos 128)
least T.UnsignedChar = pos 0
least T.Short = neg_ℤ (pos 32768)
least T.UnsignedShort = pos 0
least T.Int = neg_ℤ (pos 2147483648)
least T.UnsignedInt = pos 0
least T.Long = neg_ℤ (pos 9223372036854775808)
least T.UnsignedLong = pos 0
least T.LongLong = neg_ℤ (pos 9223372036854775808)
least T.UnsignedLongLong = pos 0

abbrev pub greatest : IntType → ℕ
greatest T.Bool = 1
greatest T.Char = 127
greatest T.SignedChar = 127
greatest T.UnsignedChar = 255
greatest T.Short = 32767
greatest T.UnsignedShort = 65535
greatest T.Int = 2147483647
greatest T.UnsignedInt = 4294967295
greatest T.Long = 9223372036854775807
greatest T.UnsignedLong = 18446744073709551615
greatest T.LongLong = 9223372036854775807
greatest T.UnsignedLongLong = 18446744073709551615

-- a number for each type, by which two are compared
abbrev pub number : IntType → ℕ
number T.Bool = 0
number T.Char = 1
number T.SignedChar = 2
number T.UnsignedChar = 3
number T.Short = 4
number T.UnsignedShort = 5
number T.Int = 6
number T.UnsignedInt = 7
number T.Long = 8
number T.UnsignedLong = 9
number T.LongLong = 10
number T.UnsignedLongLong = 11

abbrev pub same_type : IntType → IntType → Bool
same_type a b = number a == number b

-- `int` in place of a type of lower rank (6.3.1.1, integer promotions; each such type is narrower than `int`)
abbrev pub promoted : IntType → IntType
promoted a = if nat_lt (rank a) 3 then T.Int else a

-- the unsigned type of the same rank
abbrev pub unsigned : IntType → IntType
unsigned T.Int = T.UnsignedInt
unsigned T.Long = T.UnsignedLong
unsigned T.LongLong = T.UnsignedLongLong
unsigned a = a

-- of two promoted types the wider one; at equal width the one of higher rank, unsigned if one is unsigned (6.3.1.8)
abbrev pub higher : IntType → IntType → IntType
higher a b = if nat_lt (rank a) (rank b) then b else a

abbrev pub at_equal_width : IntType → IntType → IntType
at_equal_width a b = if is_signed a && is_signed b then higher a b else unsigned (higher a b)

unfoldable pub common : IntType → IntType → IntType
common a b =
    if nat_lt (width a) (width b) then b
    else (if nat_lt (width b) (width a) then a else at_equal_width a b)
