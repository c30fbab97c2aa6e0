-- The breaches of the rules of annotations, each with its place, and the first of them: in the order of the text, and
-- at one place in the order of numbers (this project's own).
use Rattle.std.specs.Prelude.{◌==◌, nat_lt, ℕ, Bool, true, false, ◌&&◌, ◌||◌, if◌then◌else◌, Option, Some, None}
use Rattle.acsl_terms.specs.declared.breach.NoteBreach.{NoteBreach}
use Rattle.acsl_terms.specs.declared.breach.NoteFault.{NoteFault}
use Rattle.acsl_terms.specs.declared.breach.NoteFault.TheVariants as F

-- the numbers of faults
abbrev pub number : NoteFault → ℕ
number (F.Unknown x) = 1
number F.NotHere = 2
number F.BadType = 3

abbrev pub is_before : NoteBreach → NoteBreach → Bool
is_before a b = nat_lt a.at b.at || a.at == b.at && nat_lt (number a.fault) (number b.fault)

abbrev pub sooner : Option NoteBreach → NoteBreach → Option NoteBreach
sooner None b = Some b
sooner (Some a) b = if is_before b a then Some b else Some a

-- breaches, as the parts of a clause give them
pub data Breaches : Type 0 where
  none : Breaches
  just : NoteBreach → Breaches
  both : Breaches → Breaches → Breaches

-- the first of all
abbrev pub least : Option NoteBreach → Breaches → Option NoteBreach
least first none = first
least first (just b) = sooner first b
least first (both x y) = least (least first x) y

abbrev pub one : ℕ → NoteFault → Breaches
one at fault = just (record { at = at; fault = fault })

abbrev pub only_if : Bool → ℕ → NoteFault → Breaches
only_if true at fault = one at fault
only_if false at fault = none
