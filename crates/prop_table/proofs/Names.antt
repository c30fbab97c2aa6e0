-- Names of properties are short.
use Rattle.std.proofs.Common.{◌<◌, ◌≤◌, ◌^◌, ℕ, List, length, arith, length-append, lit<, lit≤}
use Rattle.std.specs.Fmt.{decimal}
use Rattle.std.proofs.lemmas.Fmt.{length-decimal-le}
use Rattle.c_ir.specs.declared.kind.Kind.{Kind}
use Rattle.c_ir.specs.declared.kind.Kind.TheVariants as K
use Rattle.c_ir.specs.declared.kind.AlarmKind.TheVariants as A
use Rattle.c_ir.specs.Kinds.{kind_text}
use Rattle.prop_table.specs.Rows.{name_text}

kind_len : (k : Kind) → length (kind_text k) ≤ 32
kind_len K.Requires = lit≤ tt
kind_len K.CallRequires = lit≤ tt
kind_len K.Ensures = lit≤ tt
kind_len K.Assert = lit≤ tt
kind_len K.Check = lit≤ tt
kind_len K.Admit = lit≤ tt
kind_len K.LoopInvariant = lit≤ tt
kind_len (K.Alarm A.DivisionByZero) = lit≤ tt
kind_len (K.Alarm A.SignedOverflow) = lit≤ tt
kind_len (K.Alarm A.Shift) = lit≤ tt
kind_len (K.Alarm A.IndexBound) = lit≤ tt
kind_len (K.Alarm A.Initialization) = lit≤ tt
kind_len K.Dead = lit≤ tt

pub length-name_text : (f : List ℕ) (k : Kind) (point count : ℕ) → length f ≤ 256 → point < 2 ^ 32 → count < 2 ^ 32 → length (name_text f point k count) ≤ 512
unfolding name_text
length-name_text f k point count h p c =
    let a : length (decimal point) ≤ 10 = length-decimal-le 10 point (lit< tt) (omega arith) (omega arith) in
    let b : length (decimal count) ≤ 10 = length-decimal-le 10 count (lit< tt) (omega arith) (omega arith) in
    simp length-append (omega (arith, h, a, b, kind_len k))
