-- What the tests by the ends of ranges decide in C's types.
use Rattle.std.proofs.Common.{◌≡◌, ◌↔◌, Bool, true, false, ◌&&◌, pos, int_lt, refl, sym}
use Rattle.std.specs.Prelude.{IsTrue}
use Rattle.std.proofs.lemmas.Bool.{false≢true}
use Rattle.c_ir.specs.Types.{least, width, is_signed}
use Rattle.c_ir.specs.declared.ty.IntType.{IntType}
use Rattle.c_ir.specs.declared.ty.IntType.TheVariants as T
use Rattle.machine_ints.specs.Decided.{AlwaysPasses, UnaryAlwaysPasses, IsOrdered}
use Rattle.machine_ints.specs.declared.decided.Ends.{Ends}
use Rattle.machine_ints.specs.declared.operators.Check.{Check}
use Rattle.machine_ints.specs.declared.operators.Operator.{Operator}
use Rattle.machine_ints.specs.declared.operators.UnaryOperator.{UnaryOperator}
use Rattle.machine_ints.specs.inner.Decided.{ends_pass, unary_ends_fit}
use Rattle.machine_ints.proofs.ByEnds.{ends_decide, unary_ends_decide}
use Rattle.c_rules.proofs.Evaluations.{is_type}
use Rattle.rte_alarms.specs.Laws.{TestsDecide, UnaryTestsDecide}
use Rattle.rte_alarms.specs.Ranges.{type_ends}

pub tests_decide : TestsDecide
tests_decide t op ty a b first second = ends_decide (type_ends ty) (width ty)
    (is_type ty) a b first second t op

pub unary_tests_decide : UnaryTestsDecide
unary_tests_decide op ty a is = unary_ends_decide (type_ends ty) (width ty) (is_type ty) op a is

-- two tests of one fact are equal
same_test : (P : Type 0) (x y : Bool) → IsTrue x ↔ P → (y ≡ true) ↔ P → x ≡ y
same_test P true true p q = refl
same_test P true false p q = sym (q.1 (p.0 refl))
same_test P false true p q = absurd (false≢true (p.1 (q.0 refl)))
same_test P false false p q = refl

pub passes_is : (t : Check) (op : Operator) (ty : IntType) (a b : Ends) (x : Bool) → IsOrdered a → IsOrdered b
    → IsTrue x ↔ AlwaysPasses t op (type_ends ty) (width ty) a b → x
    ≡ ends_pass t op (type_ends ty) (width ty) a b
passes_is t op ty a b x first second h = same_test _ x _ h (tests_decide t op ty a b first second)

pub unary_passes_is : (op : UnaryOperator) (ty : IntType) (a : Ends) (x : Bool) → IsOrdered a
    → IsTrue x ↔ UnaryAlwaysPasses op (type_ends ty) a → x ≡ unary_ends_fit op (type_ends ty) a
unary_passes_is op ty a x first h = same_test _ x _ h (unary_tests_decide op ty a first)

-- overflow is visited in signed types
pub signed_is : (ty : IntType) → is_signed ty ≡ (int_lt (least ty) (pos 0) && true)
signed_is T.Bool = refl
signed_is T.Char = refl
signed_is T.SignedChar = refl
signed_is T.UnsignedChar = refl
signed_is T.Short = refl
signed_is T.UnsignedShort = refl
signed_is T.Int = refl
signed_is T.UnsignedInt = refl
signed_is T.Long = refl
signed_is T.UnsignedLong = refl
signed_is T.LongLong = refl
signed_is T.UnsignedLongLong = refl
