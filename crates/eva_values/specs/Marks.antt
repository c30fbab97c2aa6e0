-- What an analysis says of the checks of an operator (this project's own): a mark for each check that is visited, in the
-- order in which a run visits them.
use Rattle.std.specs.Prelude.{ℕ, Bool, true, false, if◌then◌else◌, List, [], ◌∷◌, ◌++◌, Option, Some, None}
use Rattle.fc_base.specs.declared.ids.SiteId.{SiteId}
use Rattle.machine_ints.specs.Operators.{first_check, second_check, unary_check}
use Rattle.machine_ints.specs.declared.operators.Check.{Check}
use Rattle.machine_ints.specs.declared.operators.Operator.{Operator}
use Rattle.machine_ints.specs.declared.operators.Operator.TheVariants as O
use Rattle.machine_ints.specs.declared.operators.UnaryOperator.{UnaryOperator}
use Rattle.machine_ints.specs.declared.operators.UnaryOperator.TheVariants.{Negate, Complement}
use Rattle.int_interval.specs.Rows.{is_empty}
use Rattle.int_interval.specs.declared.said.Said.{Said}
use Rattle.int_interval.specs.declared.said.Said.TheVariants.{Yes, No, Maybe, Unreached}
use Rattle.int_interval.specs.declared.shape.Shape.{Shape}
use Rattle.int_value.specs.Checks.{add_row, bit_and_row, bit_or_row, bit_xor_row, div_row, invert_row, mul_row, neg_row, rem_row, shl_row, shr_row, sub_row}
use Rattle.int_value.specs.declared.made.Made.{Made}
use Rattle.int_value.specs.declared.value.Value.{Value}
use Rattle.c_ir.specs.declared.kind.AlarmKind.{AlarmKind}
use Rattle.c_ir.specs.declared.kind.AlarmKind.TheVariants as A
use Rattle.c_runs.specs.Evaluation.{alarm_of}
use Rattle.eva_values.specs.declared.seen.SiteMark.{SiteMark}

-- ---- marks

abbrev pub mark_of : SiteId → AlarmKind → Said → SiteMark
mark_of site kind said = record { site = site; kind = kind; said = said }

-- an operator without a number has no checks
abbrev pub mark_at : Option SiteId → AlarmKind → Said → List SiteMark
mark_at None kind said = []
mark_at (Some site) kind said = mark_of site kind said ∷ []

-- a check that isn't visited has no mark
abbrev pub mark_said : Option SiteId → AlarmKind → Option Said → List SiteMark
mark_said site kind None = []
mark_said site kind (Some said) = mark_at site kind said

abbrev pub mark_check : Option SiteId → Option Check → Option Said → List SiteMark
mark_check site None said = []
mark_check site (Some check) said = mark_said site (alarm_of check) said

-- those of an operator
abbrev pub marks_made : Option SiteId → Operator → Made → List SiteMark
marks_made site op made = mark_check site (first_check op) made.first ++ mark_check site (second_check op) made.second

abbrev pub marks_made_unary : Option SiteId → UnaryOperator → Made → List SiteMark
marks_made_unary site op made = mark_check site (unary_check op) made.first

-- what is said of the check that a cell with this value has a number (6.3.2.1)
abbrev pub said_of_number : Value → Said
said_of_number v =
    if v.unset then (if is_empty v.range then No else Maybe) else (if is_empty v.range then Unreached else Yes)

abbrev pub mark_read : Option SiteId → Bool → Value → List SiteMark
mark_read site checked v = if checked then mark_at site A.Initialization (said_of_number v) else []

-- ---- operators of the domain

abbrev pub made_by : Operator → Shape → Bool → Value → Value → Made
made_by O.Add = add_row
made_by O.Sub = sub_row
made_by O.Mul = mul_row
made_by O.Div = div_row
made_by O.Rem = rem_row
made_by O.Shl = shl_row
made_by O.Shr = shr_row
made_by O.And = bit_and_row
made_by O.Or = bit_or_row
made_by O.Xor = bit_xor_row

abbrev pub made_by_unary : UnaryOperator → Shape → Bool → Value → Made
made_by_unary Negate = neg_row
made_by_unary Complement = invert_row
