-- The text of a report: `report_text` (this project's own format).
use Rattle.std.specs.Prelude.{◌==◌, ◌+◌, ℕ, Bool, ◌||◌, not, List, [], ◌∷◌, ◌++◌, length, filter, codes, if◌then◌else◌}
use Rattle.std.specs.Fmt.{decimal}
use Rattle.std.specs.List.{zip}
use Rattle.fc_base.specs.declared.verdict.Verdict.{Verdict}
use Rattle.fc_base.specs.contracts.verdict.Verdict.{the_type}
use Rattle.fc_base.specs.Texts.{all_verdicts, verdict_text}
use denote.Enum.Bare.{sameb}
use Rattle.c_ir.specs.Kinds.{is_dead}
use Rattle.c_ir.specs.declared.prop.Prop.{Prop}

-- whether a property is printed: those of kind Dead only where the points are asked for
abbrev pub is_printed : Bool → Prop → Bool
is_printed points p = points || not (is_dead p.kind)

-- the printed properties, with their verdicts
abbrev pub printed : Bool → List Prop → List Verdict → List (Prop × Verdict)
printed points props verdicts = filter (λ (row : Prop × Verdict). is_printed points row.0) (zip props verdicts)

-- the end of a property's line, with its label if it has one
unfoldable pub row_end : List ℕ → List ℕ
row_end label = if length label == 0 then codes "\n" else codes " (" ++ (label ++ codes ")\n")

-- a property's line
unfoldable pub row_text : Prop → Verdict → List ℕ
row_text p v = p.name ++ (codes " " ++ (decimal p.line.0 ++ (codes " " ++ (verdict_text v ++ row_end p.label))))

-- the lines of the properties
abbrev pub rows_text : List (Prop × Verdict) → List ℕ
rows_text [] = []
rows_text (row ∷ rows) = row_text row.0 row.1 ++ rows_text rows

-- the line with the number of properties
unfoldable pub total_text : ℕ → List ℕ
total_text n = codes "Total " ++ (decimal n ++ codes "\n")

-- how many have this verdict
abbrev pub count_of : Verdict → List (Prop × Verdict) → ℕ
count_of verdict [] = 0
count_of verdict (row ∷ rows) = if sameb the_type row.1 verdict then count_of verdict rows + 1 else count_of verdict rows

-- a verdict's line, unless none has it
unfoldable pub count_text : Verdict → ℕ → List ℕ
count_text verdict n = if n == 0 then [] else codes "  " ++ (verdict_text verdict ++ (codes " " ++ (decimal n ++ codes "\n")))

-- the lines of these verdicts
abbrev pub counts_text : List (Prop × Verdict) → List Verdict → List ℕ
counts_text rows [] = []
counts_text rows (v ∷ vs) = count_text v (count_of v rows) ++ counts_text rows vs

-- the report: each printed property's line, their number, and how many have each verdict
abbrev pub text_of : List (Prop × Verdict) → List ℕ
text_of rows = rows_text rows ++ (total_text (length rows) ++ counts_text rows all_verdicts)

unfoldable pub report_text : List Prop → List Verdict → Bool → List ℕ
report_text props verdicts points = text_of (printed points props verdicts)
