-- Laws of the properties of a program: each stands at a point of its function, each point has one Dead, and those of
-- one point stand side by side (this project's own).
use Rattle.std.specs.Prelude.{◌≡◌, ◌<◌, ◌≤◌, ◌⊎◌, ℕ, Bool, true, false, length, slice_get, Some, is_some}
use Rattle.fc_base.specs.declared.ids.SiteId.{SiteId}
use Rattle.c_ir.specs.Keeps.{Keeps}
use Rattle.c_ir.specs.Programs.{Program}
use Rattle.c_ir.specs.declared.kind.AlarmKind.{AlarmKind}
use Rattle.c_ir.specs.declared.kind.Kind.{Kind}
use Rattle.c_ir.specs.declared.kind.Kind.TheVariants as K
use Rattle.c_ir.specs.declared.prop.Prop.{Prop}
use Rattle.c_ir.specs.declared.tree.Fun.{Fun}
use Rattle.c_ir.specs.declared.tree.PointInfo.{PointInfo}
use Rattle.c_ir.specs.declared.tree.SiteInfo.{SiteInfo}
use Rattle.prop_table.specs.Rows.{rows_of}

-- ---- where a property stands

abbrev pub is_alarm : Kind → Bool
is_alarm K.Requires = false
is_alarm K.CallRequires = false
is_alarm K.Ensures = false
is_alarm K.Assert = false
is_alarm K.Check = false
is_alarm K.Admit = false
is_alarm K.LoopInvariant = false
is_alarm (K.Alarm a) = true
is_alarm K.Dead = false

-- this operator is evaluated at this point, and the kind is an alarm of its first or of its second check
pub record IsCheck (p : Program) (point : ℕ) (kind : Kind) (site : ℕ) : Type 0 where
  pub operator : SiteInfo
  pub is_operator : slice_get p.sites site ≡ Some operator
  pub at_point : operator.point.0 ≡ point
  pub alarm : AlarmKind
  pub is_kind : kind ≡ K.Alarm alarm
  pub check : (operator.checks.first ≡ Some alarm) ⊎ (operator.checks.second ≡ Some alarm)

-- the property's function and its point are the program's, and the point is the function's; an alarm is a check of its
-- operator, and no other property has an operator
pub record Belongs (p : Program) (r : Prop) : Type 0 where
  pub function : Fun
  pub is_function : slice_get p.fns r.function.0 ≡ Some function
  pub from : function.entry.0 ≤ r.point.0
  pub to : r.point.0 ≤ function.exit.0
  pub point : PointInfo
  pub is_point : slice_get p.points r.point.0 ≡ Some point
  pub owned : point.owner.0 ≡ r.function.0
  pub check : (s : SiteId) → r.site ≡ Some s → IsCheck p r.point.0 r.kind s.0
  pub has_site : is_some r.site ≡ is_alarm r.kind

-- each property belongs to the program
abbrev pub RowsBelong : Type 0
RowsBelong = (p : Program) → Keeps p → (n : ℕ) (r : Prop) → slice_get (rows_of p) n ≡ Some r → Belongs p r

-- ---- Dead

-- the property with this number claims that no run arrives at this point
pub record IsDeadOf (p : Program) (q : ℕ) (n : ℕ) : Type 0 where
  pub row : Prop
  pub is_row : slice_get (rows_of p) n ≡ Some row
  pub kind : row.kind ≡ K.Dead
  pub point : row.point.0 ≡ q

-- for each point there is such a property, and only one
pub record HasOneDead (p : Program) (q : ℕ) : Type 0 where
  pub number : ℕ
  pub is_dead : IsDeadOf p q number
  pub only : (n : ℕ) → IsDeadOf p q n → n ≡ number

abbrev pub OneDead : Type 0
OneDead = (p : Program) → Keeps p → (q : ℕ) → q < length p.points → HasOneDead p q

-- ---- properties of one point

-- between two properties of one point all are of that point
abbrev pub RowsTogether : Type 0
RowsTogether = (p : Program) → Keeps p → (i j k : ℕ) (a b c : Prop) → i ≤ j → j ≤ k → slice_get (rows_of p) i ≡ Some a
    → slice_get (rows_of p) j ≡ Some b → slice_get (rows_of p) k ≡ Some c → a.point.0 ≡ c.point.0 → b.point.0 ≡ a.point.0
