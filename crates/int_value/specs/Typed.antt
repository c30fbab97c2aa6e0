-- Values of a type, and what keeps to them.
use Rattle.std.specs.Prelude.{◌≡◌, ℕ, ℤ, pos, ◌≤ℤ◌, IsTrue, Bool, true, List}
use Rattle.int_interval.specs.Shapes as shapes
use Rattle.int_interval.specs.Shapes.{IsShape}
use Rattle.int_interval.specs.declared.interval.Interval.{Interval}
use Rattle.int_interval.specs.declared.interval.Interval.TheVariants.{Empty, Within, All}
use Rattle.int_interval.specs.declared.shape.Shape.{Shape}
use Rattle.int_congr.specs.Laws as congrs
use Rattle.int_congr.specs.Rows.{unknown_of}
use Rattle.int_congr.specs.declared.congr.Congr.{Congr}
use Rattle.int_value.specs.Rows.{reduce_row, join_row, meet_row, included_row, convert_row, to_bool_row, whole_of}
use Rattle.int_value.specs.Widening.{widen_row}
use Rattle.int_value.specs.declared.made.Made.{Made}
use Rattle.int_value.specs.declared.value.Value.{Value}

-- the ends are in the congruence, which is one number where they are one; without ends nothing is known of it
abbrev pub AreReduced : Interval → Congr → Type 0
AreReduced Empty c = c ≡ unknown_of
AreReduced (Within lo hi) c = (lo ≤ℤ hi) × congrs.Holds c lo × congrs.Holds c hi × (lo ≡ hi → c.modulus ≡ pos 0) × congrs.IsNormal c
AreReduced All c = c ≡ unknown_of

-- the value is as each operation answers it
abbrev pub IsReduced : Value → Type 0
IsReduced v = AreReduced v.range v.congr

-- the value is reduced and has numbers of the type alone
abbrev pub IsTyped : Shape → Value → Type 0
IsTyped shape v = shapes.IsTyped shape v.range × IsReduced v

-- ---- what is closed

abbrev pub ReduceIsStable : Type 0
ReduceIsStable = (v : Value) → IsReduced v → reduce_row v ≡ v

abbrev pub ConvertIsTyped : Type 0
ConvertIsTyped = (from shape : Shape) (v : Value) → IsShape shape → IsTyped from v → IsTyped shape (convert_row shape v)

abbrev pub BoolIsTyped : Type 0
BoolIsTyped = (shape : Shape) (v : Value) → IsShape shape → pos 1 ≤ℤ shape.hi → IsTyped shape (to_bool_row v)

abbrev pub JoinIsTyped : Type 0
JoinIsTyped = (shape : Shape) (a b : Value) → IsShape shape → IsTyped shape a → IsTyped shape b → IsTyped shape (join_row a b)

abbrev pub MeetIsTyped : Type 0
MeetIsTyped = (shape : Shape) (v : Value) (range : Interval) → IsTyped shape v → IsTyped shape (meet_row v range)

abbrev pub WidenIsTyped : Type 0
WidenIsTyped =
    (turn : ℕ) (thresholds : List ℤ) (shape : Shape) (old next : Value) → IsShape shape → IsTyped shape old → IsTyped shape next
    → IsTyped shape (widen_row turn thresholds shape old next)

-- of the numbers alone, whatever the congruences are
abbrev pub WidenKeepsRange : Type 0
WidenKeepsRange =
    (turn : ℕ) (thresholds : List ℤ) (shape : Shape) (old next : Value) → IsShape shape
    → shapes.IsTyped shape old.range → shapes.IsTyped shape next.range
    → shapes.IsTyped shape (widen_row turn thresholds shape old next).range

-- an operator keeps to values of its type
abbrev pub IsClosed : (Shape → Bool → Value → Value → Made) → Type 0
IsClosed row =
    (shape : Shape) (overflow : Bool) (a b : Value) → IsShape shape → IsTyped shape a → IsTyped shape b
    → IsTyped shape (row shape overflow a b).value

-- the same of a shift, whose right operand may be of another type
abbrev pub IsClosedShift : (Shape → Bool → Value → Value → Made) → Type 0
IsClosedShift row =
    (shape : Shape) (overflow : Bool) (a b : Value) → IsShape shape → IsTyped shape a → IsTyped shape (row shape overflow a b).value

abbrev pub IsClosedUnary : (Shape → Bool → Value → Made) → Type 0
IsClosedUnary row = (shape : Shape) (overflow : Bool) (a : Value) → IsShape shape → IsTyped shape a → IsTyped shape (row shape overflow a).value

-- ---- inclusion

-- the whole type, with or without "no value", is a value of the type
abbrev pub WholeIsTyped : Type 0
WholeIsTyped = (shape : Shape) (unset : Bool) → IsShape shape → IsTyped shape (whole_of shape unset)

-- and includes each of them
abbrev pub WholeIncludes : Type 0
WholeIncludes = (shape : Shape) (v : Value) → IsTyped shape v → IsTrue (included_row v (whole_of shape true))

-- what includes two values of a type includes their join
abbrev pub JoinIsLeast : Type 0
JoinIsLeast =
    (shape : Shape) (a b c : Value) → IsShape shape → IsTyped shape a → IsTyped shape b
    → IsTrue (included_row a c) → IsTrue (included_row b c) → IsTrue (included_row (join_row a b) c)
