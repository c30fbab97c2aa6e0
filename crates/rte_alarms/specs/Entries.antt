-- The entries of the emitters `kernel` and `rte`, and the list of the checked operators (this project's own).
use Rattle.std.specs.Prelude.{ℕ, zero, suc, ◌+◌, ◌==◌, nat_lt, Bool, false, not, if◌then◌else◌, List, [], ◌∷◌, ◌++◌, length, map, Option, Some, None}
use Rattle.std.specs.List.{list_any}
use Rattle.by_key.specs.Keys.{numbers_at}
use Rattle.by_key.specs.declared.lists.Keyed.{Keyed}
use Rattle.fc_base.specs.declared.ids.PropId.{PropId}
use Rattle.fc_base.specs.declared.ids.SiteId.{SiteId}
use Rattle.fc_base.specs.declared.status.LocalStatus.{LocalStatus}
use Rattle.fc_base.specs.declared.status.LocalStatus.TheVariants as Status
use Rattle.c_ir.specs.Programs.{Program}
use Rattle.c_ir.specs.Sited.{alarm_number}
use Rattle.c_ir.specs.declared.kind.Kind.{Kind}
use Rattle.c_ir.specs.declared.kind.Kind.TheVariants as K
use Rattle.c_ir.specs.declared.prop.Prop.{Prop}
use Rattle.prop_table.specs.Points.{is_requires, sites_at}
use Rattle.rte_alarms.specs.Links.{links_of}
use Rattle.rte_alarms.specs.Ranges.{open_checks}
use Rattle.status_history.specs.declared.history.Entry.{Entry}

abbrev pub entry : ℕ → PropId → LocalStatus → List PropId → ℕ → Entry
entry emitter prop status hyps version =
    record { emitter = record { 0 = emitter }; prop = prop; status = status; hyps = hyps; version = version }

abbrev pub prop_id : ℕ → PropId
prop_id n = record { 0 = n }

-- ---- the links of calls

-- a precondition holds where all its instances do; with more than 256 of them nothing is said
abbrev pub link_entry : ℕ → ℕ → List ℕ → Entry
link_entry version n instances =
    if nat_lt 256 (length instances) then entry 0 (prop_id n) Status.DontKnow [] version
    else entry 0 (prop_id n) Status.True (map prop_id instances) version

-- for each precondition, where the first property has number n
abbrev pub link_entries : ℕ → List Keyed → ℕ → List Prop → List Entry
link_entries version links n [] = []
link_entries version links n (r ∷ rs) =
    (if is_requires r.kind then link_entry version n (numbers_at n links) ∷ [] else [])
    ++ link_entries version links (n + 1) rs

unfoldable pub links_said : Program → List Prop → ℕ → List Entry
links_said p rows version = link_entries version (links_of p rows) 0 rows

-- ---- alarms that operand types decide

abbrev pub is_open : List Keyed → SiteId → ℕ → Bool
is_open checks site kind = list_any (λ k. k == kind) (numbers_at site.0 checks)

abbrev pub decided_site : List Keyed → ℕ → Option SiteId → Bool
decided_site checks kind None = false
decided_site checks kind (Some site) = not (is_open checks site kind)

abbrev pub decided_kind : List Keyed → Option SiteId → Kind → Bool
decided_kind checks site (K.Alarm a) = decided_site checks (alarm_number a) site
decided_kind checks site _ = false

-- the property is an alarm, and its check isn't open
abbrev pub is_decided : List Keyed → Prop → Bool
is_decided checks r = decided_kind checks r.site r.kind

abbrev pub decided_entries : ℕ → List Keyed → ℕ → List Prop → List Entry
decided_entries version checks n [] = []
decided_entries version checks n (r ∷ rs) =
    (if is_decided checks r then entry 1 (prop_id n) Status.True [] version ∷ [] else [])
    ++ decided_entries version checks (n + 1) rs

unfoldable pub decided_said : Program → List Prop → ℕ → List Entry
decided_said p rows version = decided_entries version (open_checks p) 0 rows

-- ---- operators

abbrev pub site_id : ℕ → SiteId
site_id n = record { 0 = n }

-- those of k points from point q on
abbrev pub sites_from : Program → ℕ → ℕ → List SiteId
sites_from p q zero = []
sites_from p q (suc k) = map site_id (sites_at p q) ++ sites_from p (q + 1) k

-- all checked operators, by point and at one point in order of evaluation
unfoldable pub sites_of : Program → List SiteId
sites_of p = sites_from p 0 (length p.points)
