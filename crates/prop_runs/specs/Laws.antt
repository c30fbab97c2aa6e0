-- Laws of the runs of a program over its table of properties.
use Rattle.std.specs.Prelude.{◌≡◌, ◌≤◌, ℕ, ℤ, true, List, ◌++◌}
use Rattle.c_ir.specs.Keeps.{Keeps}
use Rattle.c_ir.specs.Programs.{Program}
use Rattle.c_ir.specs.Table.{is_row}
use Rattle.prop_runs.specs.Numbers.{props_of, runs_of}
use Rattle.status_history.specs.Claims.{Visit, has_visit}
use Rattle.status_rules.specs.Truth.{KeepsLaws}

-- the runs of each program keep the laws of runs over its table
abbrev pub RunsKeepLaws : Type 0
RunsKeepLaws = (p : Program) → Keeps p → KeepsLaws (props_of p) (runs_of p)

-- the visits of fewer arrivals are a prefix of those of more
abbrev pub FewerArePrefix : Type 0
FewerArePrefix = (p : Program) (values input : List ℤ) (m n : ℕ) → m ≤ n
    → (more : List Visit) × (runs_of p values input m ++ more ≡ runs_of p values input n)

-- each property that a run visits is in the table
abbrev pub VisitsAreRows : Type 0
VisitsAreRows = (p : Program) → Keeps p → (values input : List ℤ) (n m : ℕ) → has_visit m (runs_of p values input n) ≡ true
    → is_row (props_of p) m ≡ true
