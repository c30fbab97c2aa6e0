-- Which type the specifiers of a declaration or of a cast name: the rows of C11 6.7.2, paragraph 2, for integer
-- types and `void`, in any order, with `const` anywhere and any number of times (6.7.3, paragraph 5).
use Rattle.std.specs.Prelude.{Bool, true, false, List, [], ◌∷◌, Option, Some, None}
use Rattle.std.specs.List.{list_any}
use Rattle.std.specs.Option.{option_and_then}
use Rattle.c_ast.specs.declared.expr.SpecWord.{SpecWord}
use Rattle.c_ast.specs.declared.expr.SpecWord.TheVariants as W
use Rattle.c_ir.specs.declared.ty.IntType.{IntType}
use Rattle.c_ir.specs.declared.ty.IntType.TheVariants as T
use Rattle.c_rules.specs.declared.specifiers.SpecType.{SpecType}
use Rattle.c_rules.specs.declared.specifiers.SpecType.TheVariants as N
use Rattle.c_rules.specs.declared.specifiers.Times.{Times}
use Rattle.c_rules.specs.declared.specifiers.Times.TheVariants as C
use Rattle.c_rules.specs.declared.specifiers.Counts.{Counts}
use Rattle.c_rules.specs.declared.specifiers.Sign.{Sign}
use Rattle.c_rules.specs.declared.specifiers.Sign.TheVariants as G
use Rattle.c_rules.specs.declared.specifiers.Size.{Size}
use Rattle.c_rules.specs.declared.specifiers.Size.TheVariants as Z
use Rattle.c_rules.specs.declared.specifiers.Base.{Base}
use Rattle.c_rules.specs.declared.specifiers.Base.TheVariants as B

-- ---- counting, up to three

abbrev pub more : Times → Times
more C.Never = C.Once
more C.Once = C.Twice
more C.Twice = C.More
more C.More = C.More

abbrev pub nothing : Counts
nothing = record {
  signed = C.Never;
  unsigned = C.Never;
  char = C.Never;
  short = C.Never;
  int = C.Never;
  long = C.Never;
  bool = C.Never;
  void = C.Never;
}

abbrev pub counted : SpecWord → Counts → Counts
counted W.Const c = c
counted W.Signed c = record c { signed = more c.signed }
counted W.Unsigned c = record c { unsigned = more c.unsigned }
counted W.Char c = record c { char = more c.char }
counted W.Short c = record c { short = more c.short }
counted W.Int c = record c { int = more c.int }
counted W.Long c = record c { long = more c.long }
counted W.Bool c = record c { bool = more c.bool }
counted W.Void c = record c { void = more c.void }

-- the counts of words after those of others
abbrev pub count_from : Counts → List SpecWord → Counts
count_from c [] = c
count_from c (w ∷ ws) = count_from (counted w c) ws

-- ---- the rows

-- `signed`, `unsigned` or neither, once
abbrev pub sign_of : Times → Times → Option Sign
sign_of C.Never C.Never = Some G.Plain
sign_of C.Once C.Never = Some G.Signed
sign_of C.Never C.Once = Some G.Unsigned
sign_of _ _ = None

-- `short`, `long`, `long long` or none of them
abbrev pub size_of : Times → Times → Option Size
size_of C.Never C.Never = Some Z.Ordinary
size_of C.Once C.Never = Some Z.Short
size_of C.Never C.Once = Some Z.Long
size_of C.Never C.Twice = Some Z.LongLong
size_of _ _ = None

-- one of `char`, `int`, `_Bool` and `void`, once, or none
abbrev pub base_of : Times → Times → Times → Times → Option Base
base_of C.Never C.Never C.Never C.Never = Some B.Left
base_of C.Once C.Never C.Never C.Never = Some B.Char
base_of C.Never C.Once C.Never C.Never = Some B.Int
base_of C.Never C.Never C.Once C.Never = Some B.Bool
base_of C.Never C.Never C.Never C.Once = Some B.Void
base_of _ _ _ _ = None

abbrev pub integer : Sign → Size → IntType
integer G.Unsigned Z.Ordinary = T.UnsignedInt
integer G.Unsigned Z.Short = T.UnsignedShort
integer G.Unsigned Z.Long = T.UnsignedLong
integer G.Unsigned Z.LongLong = T.UnsignedLongLong
integer _ Z.Ordinary = T.Int
integer _ Z.Short = T.Short
integer _ Z.Long = T.Long
integer _ Z.LongLong = T.LongLong

abbrev pub character : Sign → IntType
character G.Plain = T.Char
character G.Signed = T.SignedChar
character G.Unsigned = T.UnsignedChar

-- `int` may be left out beside another word; a sign and a size stand with `int` alone, a sign with `char` too
abbrev pub combined : Base → Sign → Size → Option SpecType
combined B.Left G.Plain Z.Ordinary = None
combined B.Left sign size = Some (N.Integer (integer sign size))
combined B.Int sign size = Some (N.Integer (integer sign size))
combined B.Char sign Z.Ordinary = Some (N.Integer (character sign))
combined B.Bool G.Plain Z.Ordinary = Some (N.Integer T.Bool)
combined B.Void G.Plain Z.Ordinary = Some N.Void
combined _ _ _ = None

abbrev pub type_by : Counts → Option SpecType
type_by c =
    option_and_then (λ base. option_and_then (λ sign. option_and_then (λ size. combined base sign size)
    (size_of c.short c.long)) (sign_of c.signed c.unsigned)) (base_of c.char c.int c.bool c.void)

-- the type of specifiers; none where they are no row
unfoldable pub spec_type : List SpecWord → Option SpecType
spec_type ws = type_by (count_from nothing ws)

abbrev pub is_const : SpecWord → Bool
is_const W.Const = true
is_const _ = false

unfoldable pub is_constant : List SpecWord → Bool
is_constant ws = list_any is_const ws
