-- The entries of alarms, by the lists of each operator's open checks.
use Rattle.std.specs.Prelude.{ℕ, ◌==◌, Bool, false, not, if◌then◌else◌, List, [], ◌∷◌, ◌++◌, get_or, Option, Some, None}
use Rattle.std.specs.List.{list_any}
use Rattle.fc_base.specs.declared.ids.SiteId.{SiteId}
use Rattle.fc_base.specs.declared.status.LocalStatus.TheVariants as Status
use Rattle.c_ir.specs.Sited.{alarm_number}
use Rattle.c_ir.specs.declared.kind.Kind.{Kind}
use Rattle.c_ir.specs.declared.kind.Kind.TheVariants as K
use Rattle.c_ir.specs.declared.prop.Prop.{Prop}
use Rattle.rte_alarms.specs.Entries.{entry}
use Rattle.status_history.specs.declared.history.Entry.{Entry}

abbrev pub decided_at : List (List ℕ) → ℕ → Option SiteId → Bool
decided_at lists kind None = false
decided_at lists kind (Some site) = not (list_any (λ k. k == kind) (get_or lists site.0 []))

abbrev pub kind_decided : List (List ℕ) → Option SiteId → Kind → Bool
kind_decided lists site K.Requires = false
kind_decided lists site K.CallRequires = false
kind_decided lists site K.Ensures = false
kind_decided lists site K.Assert = false
kind_decided lists site K.Check = false
kind_decided lists site K.Admit = false
kind_decided lists site K.LoopInvariant = false
kind_decided lists site (K.Alarm a) = decided_at lists (alarm_number a) site
kind_decided lists site K.Dead = false

abbrev pub row_decided : List (List ℕ) → Prop → Bool
row_decided lists r = kind_decided lists r.site r.kind

abbrev pub row_entry : ℕ → List (List ℕ) → Prop → List Entry
row_entry version lists r = if row_decided lists r then entry 1 r.id Status.True [] version ∷ [] else []

abbrev pub decided_by : ℕ → List (List ℕ) → List Prop → List Entry
decided_by version lists [] = []
decided_by version lists (r ∷ rs) = row_entry version lists r ++ decided_by version lists rs
