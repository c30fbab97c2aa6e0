-- The laws of the entries: each is locally right; and what the tests by the ends of ranges decide.
use Rattle.std.specs.Prelude.{◌≡◌, ◌↔◌, ℕ, ℤ, true, List}
use Rattle.machine_ints.specs.Decided.{AlwaysPasses, UnaryAlwaysPasses, IsOrdered}
use Rattle.machine_ints.specs.declared.decided.Ends.{Ends}
use Rattle.machine_ints.specs.declared.operators.Check.{Check}
use Rattle.machine_ints.specs.declared.operators.Operator.{Operator}
use Rattle.machine_ints.specs.declared.operators.UnaryOperator.{UnaryOperator}
use Rattle.machine_ints.specs.inner.Decided.{ends_pass, unary_ends_fit}
use Rattle.c_runs.specs.Parts.{Has}
use Rattle.c_ir.specs.Keeps.{Keeps}
use Rattle.c_ir.specs.Programs.{Program}
use Rattle.c_ir.specs.Types.{width}
use Rattle.c_ir.specs.declared.ty.IntType.{IntType}
use Rattle.prop_runs.specs.Numbers.{runs_of}
use Rattle.prop_table.specs.Rows.{rows_of}
use Rattle.rte_alarms.specs.Entries.{decided_said, links_said}
use Rattle.rte_alarms.specs.Ranges.{type_ends}
use Rattle.status_history.specs.Claims.{IsRight}
use Rattle.status_history.specs.declared.history.Entry.{Entry}

-- each link is right over the runs under any values of the run parameters, and so is each alarm that types
-- decide
abbrev pub LinksAreRight : Type 0
LinksAreRight = (p : Program) → Keeps p → (version : ℕ) (e : Entry) → Has (links_said p (rows_of p) version) e
    → (values : List ℤ) → IsRight (runs_of p values) e

abbrev pub DecidedAreRight : Type 0
DecidedAreRight = (p : Program) → Keeps p → (version : ℕ) (e : Entry)
    → Has (decided_said p (rows_of p) version) e
    → (values : List ℤ) → IsRight (runs_of p values) e

-- the tests by the ends say exactly that every choice of operands from the ranges passes the check
abbrev pub TestsDecide : Type 0
TestsDecide = (t : Check) (op : Operator) (ty : IntType) (a b : Ends) → IsOrdered a → IsOrdered b
    → (ends_pass t op (type_ends ty) (width ty) a b ≡ true) ↔ AlwaysPasses t op (type_ends ty) (width ty) a b

abbrev pub UnaryTestsDecide : Type 0
UnaryTestsDecide = (op : UnaryOperator) (ty : IntType) (a : Ends) → IsOrdered a
    → (unary_ends_fit op (type_ends ty) a ≡ true) ↔ UnaryAlwaysPasses op (type_ends ty) a
