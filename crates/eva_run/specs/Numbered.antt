-- The lists by which properties are found.
use Rattle.std.specs.Prelude.{◌≡◌, ℕ, ◌+◌, ◌==◌, Bool, if◌then◌else◌, List, [], ◌∷◌, length, max, Option, Some, None}
use Rattle.by_key.specs.Keys.{Groups}
use Rattle.by_key.specs.declared.lists.Keyed.{Keyed}
use Rattle.fc_base.specs.declared.ids.SiteId.{SiteId}
use Rattle.c_ir.specs.Sited.{alarm_number}
use Rattle.c_ir.specs.declared.kind.AlarmKind.{AlarmKind}
use Rattle.c_ir.specs.declared.kind.Kind.{Kind}
use Rattle.c_ir.specs.declared.kind.Kind.TheVariants as K
use Rattle.c_ir.specs.declared.prop.Prop.{Prop}
use Rattle.c_runs.specs.Visits.{Named}
use Rattle.prop_runs.specs.Numbers.{number_of}
use Rattle.eva_run.specs.declared.numbers.Listed.{Listed}
use Rattle.eva_run.specs.declared.numbers.Numbers.{Numbers}
use Rattle.eva_run.specs.declared.numbers.Sought.{Sought}
use Rattle.eva_run.specs.declared.numbers.Sought.TheVariants as S
use Rattle.eva_run.specs.Code.{number_by}

-- the operator of an alarm of the kind that is looked for
abbrev pub site_of : AlarmKind → AlarmKind → Option SiteId → Option ℕ
site_of sought kind None = None
site_of sought kind (Some s) = if alarm_number sought == alarm_number kind then Some s.0 else None

abbrev pub clause_key : ℕ → Kind → Option ℕ
clause_key q K.Requires = Some q
clause_key q K.CallRequires = None
clause_key q K.Ensures = Some q
clause_key q K.Assert = Some q
clause_key q K.Check = Some q
clause_key q K.Admit = Some q
clause_key q K.LoopInvariant = Some q
clause_key q (K.Alarm a) = None
clause_key q K.Dead = None

abbrev pub instance_key : ℕ → Kind → Option ℕ
instance_key q K.Requires = None
instance_key q K.CallRequires = Some q
instance_key q K.Ensures = None
instance_key q K.Assert = None
instance_key q K.Check = None
instance_key q K.Admit = None
instance_key q K.LoopInvariant = None
instance_key q (K.Alarm a) = None
instance_key q K.Dead = None

abbrev pub dead_key : ℕ → Kind → Option ℕ
dead_key q K.Requires = None
dead_key q K.CallRequires = None
dead_key q K.Ensures = None
dead_key q K.Assert = None
dead_key q K.Check = None
dead_key q K.Admit = None
dead_key q K.LoopInvariant = None
dead_key q (K.Alarm a) = None
dead_key q K.Dead = Some q

abbrev pub alarm_key : AlarmKind → Option SiteId → Kind → Option ℕ
alarm_key sought site K.Requires = None
alarm_key sought site K.CallRequires = None
alarm_key sought site K.Ensures = None
alarm_key sought site K.Assert = None
alarm_key sought site K.Check = None
alarm_key sought site K.Admit = None
alarm_key sought site K.LoopInvariant = None
alarm_key sought site (K.Alarm a) = site_of sought a site
alarm_key sought site K.Dead = None

-- the point or the operator by which a property that is looked for is found
abbrev pub key_of : Sought → Prop → Option ℕ
key_of S.Dead r = dead_key r.point.0 r.kind
key_of S.Clause r = clause_key r.point.0 r.kind
key_of S.Instance r = instance_key r.point.0 r.kind
key_of (S.Alarm a) r = alarm_key a r.site r.kind

abbrev pub with_key : ℕ → Option ℕ → List Keyed → List Keyed
with_key n None rest = rest
with_key n (Some k) rest = record { key = k; number = n } ∷ rest

-- the properties that are looked for, with their keys, where the first property has number n
abbrev pub keyed_from : Sought → ℕ → List Prop → List Keyed
keyed_from sought n [] = []
keyed_from sought n (r ∷ rs) = with_key n (key_of sought r) (keyed_from sought (n + 1) rs)

abbrev pub past_keys : List Keyed → ℕ
past_keys [] = 0
past_keys (k ∷ ks) = max (k.key + 1) (past_keys ks)

-- the numbers of those that are looked for, by their keys
abbrev pub Finds : Listed → Sought → List Prop → Type 0
Finds f sought rows =
    (f.past ≡ past_keys (keyed_from sought 0 rows))
    × Groups f.lists (past_keys (keyed_from sought 0 rows)) (keyed_from sought 0 rows)

-- each property has its number in the table
abbrev pub IsNumbering : Numbers → List Prop → Type 0
IsNumbering n rows = (named : Named) → number_by n named ≡ number_of rows named
