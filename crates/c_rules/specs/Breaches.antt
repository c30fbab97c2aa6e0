-- The breaches of C's rules, each with its place, and the first of them: in the order of the text, and at one place
-- in the order of numbers.
use Rattle.std.specs.Prelude.{◌==◌, nat_lt, ℕ, Bool, true, false, not, ◌&&◌, ◌||◌, if◌then◌else◌, List, length, Option, Some, None, is_some}
use Rattle.c_rules.specs.declared.breach.Breach.{Breach}
use Rattle.c_rules.specs.declared.breach.Fault.{Fault}
use Rattle.c_rules.specs.declared.breach.Fault.TheVariants as F
use Rattle.c_rules.specs.declared.scope.Entry.{Entry}
use Rattle.c_rules.specs.declared.scope.Entry.TheVariants as E
use Rattle.c_rules.specs.declared.scope.Object.{Object}
use Rattle.c_rules.specs.declared.scope.Signature.{Signature}
use Rattle.c_ir.specs.declared.place.Place.{Place}
use Rattle.c_ir.specs.declared.place.Place.TheVariants as P

-- the numbers of faults
abbrev pub number : Fault → ℕ
number (F.Unknown x) = 1
number (F.Twice x) = 2
number F.BadType = 3
number F.Arity = 4
number F.SideEffect = 5
number F.ConstWrite = 7

abbrev pub is_before : Breach → Breach → Bool
is_before a b = nat_lt a.at b.at || a.at == b.at && nat_lt (number a.fault) (number b.fault)

abbrev pub sooner : Option Breach → Breach → Option Breach
sooner None b = Some b
sooner (Some a) b = if is_before b a then Some b else Some a

-- breaches, as the parts of a construct give them
pub data Breaches : Type 0 where
  none : Breaches
  just : Breach → Breaches
  both : Breaches → Breaches → Breaches

-- the first of all
abbrev pub least : Option Breach → Breaches → Option Breach
least first none = first
least first (just b) = sooner first b
least first (both x y) = least (least first x) y

abbrev pub one : ℕ → Fault → Breaches
one at fault = just (record { at = at; fault = fault })

abbrev pub only_if : Bool → ℕ → Fault → Breaches
only_if true at fault = one at fault
only_if false at fault = none

-- What names stand for.
abbrev pub Env : Type 0
Env = List ℕ → Option Entry

-- ---- names

abbrev pub read_by : ℕ → List ℕ → Option Entry → Breaches
read_by at x None = one at (F.Unknown x)
read_by at x (Some (E.Object o)) = only_if (is_some o.length || o.is_open) at F.BadType
read_by at x (Some (E.Function g)) = one at F.BadType

-- of a name that is read: it stands for an object that is no array, and not in the object's own initialiser
unfoldable pub read : Env → ℕ → List ℕ → Breaches
read env at x = read_by at x (env x)

abbrev pub variable_written : ℕ → Object → Breaches
variable_written at o = both (only_if (is_some o.length || o.is_open) at F.BadType) (only_if o.constant at F.ConstWrite)

abbrev pub written_by : ℕ → List ℕ → Option Entry → Breaches
written_by at x None = one at (F.Unknown x)
written_by at x (Some (E.Object o)) = variable_written at o
written_by at x (Some (E.Function g)) = one at F.BadType

-- of a name that is written to: the same, and the object isn't constant (6.5.16)
unfoldable pub written : Env → ℕ → List ℕ → Breaches
written env at x = written_by at x (env x)

abbrev pub indexed : Bool → ℕ → Object → Breaches
indexed write at o =
    both (only_if (not (is_some o.length) || o.is_open) at F.BadType) (only_if (write && o.constant) at F.ConstWrite)

abbrev pub array_by : Bool → ℕ → List ℕ → Option Entry → Breaches
array_by write at x None = one at (F.Unknown x)
array_by write at x (Some (E.Object o)) = indexed write at o
array_by write at x (Some (E.Function g)) = one at F.BadType

unfoldable pub array_name : Bool → Env → ℕ → List ℕ → Breaches
array_name write env at x = array_by write at x (env x)

abbrev pub array_named : Bool → Env → ℕ → Option (List ℕ) → Breaches
array_named write env at None = one at F.BadType
array_named write env at (Some x) = array_name write env at x

-- of what stands before an index: it is an array's name (6.5.2.1)
unfoldable pub array : Bool → Env → ℕ → Option (List ℕ) → Breaches
array = array_named

abbrev pub function_by : ℕ → List ℕ → Option Entry → Breaches
function_by at x None = one at (F.Unknown x)
function_by at x (Some (E.Object o)) = one at F.BadType
function_by at x (Some (E.Function g)) = none

unfoldable pub function_name : Env → ℕ → List ℕ → Breaches
function_name env at x = function_by at x (env x)

abbrev pub function_named : Env → ℕ → Option (List ℕ) → Breaches
function_named env at None = one at F.BadType
function_named env at (Some x) = function_name env at x

-- of what is called: it is a function's name (6.5.2.2)
unfoldable pub function : Env → ℕ → Option (List ℕ) → Breaches
function = function_named

-- ---- calls

-- whether the expression is part of another expression
abbrev pub is_inner : Place → Bool
is_inner P.Inner = true
is_inner P.Value = false
is_inner P.Dropped = false

abbrev pub is_dropped : Place → Bool
is_dropped P.Inner = false
is_dropped P.Value = false
is_dropped P.Dropped = true

-- of a call of this function with so many arguments
abbrev pub called_as : Place → ℕ → ℕ → Signature → Breaches
called_as place at count g =
    both (both (only_if (not (count == length g.formals)) at F.Arity) (only_if (is_inner place) at F.SideEffect))
    (only_if (not (is_dropped place) && not (is_some g.result)) at F.BadType)

abbrev pub called_by : Place → ℕ → ℕ → Option Signature → Breaches
called_by place at count None = none
called_by place at count (Some g) = called_as place at count g

-- of a call with so many arguments, where the function is known: their number is that of the formals (6.5.2.2), the
-- call isn't part of another expression, and a value is needed only of a function that has a result
unfoldable pub called : Place → ℕ → ℕ → Option Signature → Breaches
called = called_by
