-- The law of the entries: each is locally right.
use Rattle.std.specs.Prelude.{ℕ, ℤ, List}
use Rattle.c_ir.specs.Keeps.{Keeps}
use Rattle.c_ir.specs.Programs.{Program}
use Rattle.c_runs.specs.Parts.{Has}
use Rattle.prop_runs.specs.Numbers.{runs_of}
use Rattle.prop_table.specs.Rows.{rows_of}
use Rattle.status_history.specs.Claims.{IsRight}
use Rattle.status_history.specs.declared.history.Entry.{Entry}
use Rattle.eva_rules.specs.Entries.{eva_said}

-- over the runs under the values of the parameters under which it was computed
abbrev pub EntriesAreRight : Type 0
EntriesAreRight = (p : Program) → Keeps p → (values : List ℤ) (version : ℕ) (e : Entry)
    → Has (eva_said p (rows_of p) values version) e → IsRight (runs_of p values) e
