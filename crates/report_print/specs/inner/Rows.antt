-- Properties with their verdicts, as the code keeps them: the code's side.
use Rattle.std.specs.Prelude.{Bool, List, [], ◌∷◌, map, if◌then◌else◌}
use Rattle.fc_base.specs.declared.verdict.Verdict.{Verdict}
use Rattle.c_ir.specs.declared.prop.Prop.{Prop}
use Rattle.report_print.specs.Report.{is_printed}
use Rattle.report_print.specs.declared.print.Row.{Row}

-- the property and its verdict
abbrev pub row_view : Row → Prop × Verdict
row_view row = (row.prop.now, row.verdict)

abbrev pub rows_view : List Row → List (Prop × Verdict)
rows_view rows = map row_view rows

-- a property, if it is printed
abbrev pub printed_one : Bool → Prop × Verdict → List (Prop × Verdict)
printed_one points row = if is_printed points row.0 then row ∷ [] else []
