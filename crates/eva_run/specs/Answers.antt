-- What `eva` answers: the entries of the analysis, unless it would be too much work.
use Rattle.std.specs.Prelude.{◌≡◌, ℕ, ◌*◌, ◌^◌, ◌-◌, ℤ, nat_lt, min, Bool, true, false, List, length, Result, Ok, Err}
use Rattle.c_ir.specs.Programs.{Program}
use Rattle.prop_table.specs.Rows.{rows_of}
use Rattle.status_history.specs.declared.history.Entry.{Entry}
use Rattle.eva_rules.specs.Entries.{eva_said}
use Rattle.eva_work.specs.Work.{counted_work}
use Rattle.eva_run.specs.declared.answer.EvaFault.{EvaFault}
use Rattle.eva_run.specs.declared.answer.EvaFault.TheVariants.{Memory, TooLarge}

-- the most work times cells
abbrev pub most_effort : ℕ
most_effort = 200000000

-- the work under these values of the parameters, times the program's cells, is more than that
unfoldable pub is_too_large : Program → List ℤ → Bool
is_too_large p values = nat_lt most_effort (counted_work p values * length p.cells)

-- how many cells there are; a count past 2^32 - 1 stands as that
unfoldable pub counted_cells : Program → ℕ
counted_cells p = min (length p.cells) (2 ^ 32 - 1)

abbrev pub IsAnswer : Program → List ℤ → ℕ → Result (List Entry) EvaFault → Type 0
IsAnswer p values version (Ok es) = (is_too_large p values ≡ false) × (es ≡ eva_said p (rows_of p) values version)
IsAnswer p values version (Err (TooLarge work cells)) =
    (is_too_large p values ≡ true) × (work ≡ counted_work p values) × (cells ≡ counted_cells p)
IsAnswer p values version (Err Memory) = Unit {0}
