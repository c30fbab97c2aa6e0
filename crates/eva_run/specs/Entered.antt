-- The entries by what is summed up of each property.
use Rattle.std.specs.Prelude.{ℕ, ◌+◌, ℤ, Bool, true, false, if◌then◌else◌, List, [], ◌∷◌, ◌++◌}
use Rattle.fc_base.specs.declared.status.LocalStatus.{LocalStatus}
use Rattle.fc_base.specs.declared.status.LocalStatus.TheVariants as Status
use Rattle.c_ir.specs.Props.{Props}
use Rattle.c_ir.specs.Table.{row_admitted}
use Rattle.c_ir.specs.declared.prop.Prop.{Prop}
use Rattle.eva_rules.specs.Entries.{entry_by}
use Rattle.status_history.specs.declared.history.Entry.{Entry}
use Rattle.eva_run.specs.declared.tallies.Tally.{Tally}

abbrev pub status_by : Tally → LocalStatus
status_by t = if t.may_hold then Status.True else (if t.may_fail then Status.FalseIfReachable else Status.DontKnow)

abbrev pub entry_unless : Bool → ℕ → ℕ → Tally → List Entry
entry_unless true version n t = []
entry_unless false version n t = entry_by version n (status_by t) t.used ∷ []

abbrev pub entries_by : Props → ℤ → ℕ → ℕ → List Prop → List Tally → List Entry
entries_by props entry version n [] ts = []
entries_by props entry version n (r ∷ rs) [] = []
entries_by props entry version n (r ∷ rs) (t ∷ ts) =
    entry_unless (row_admitted props entry r) version n t ++ entries_by props entry version (n + 1) rs ts
