-- That a program's list of checked operators has, for each site of a tree, the point at which the tree is evaluated and
-- the checks of the operator (C11 6.5).
use Rattle.std.specs.Prelude.{◌≡◌, ◌==◌, ℕ, Bool, true, false, ◌&&◌, List, [], ◌∷◌, ◌++◌, map, slice_get, Option, Some, None}
use Rattle.fc_base.specs.declared.ids.PointId.{PointId}
use Rattle.fc_base.specs.declared.ids.SiteId.{SiteId}
use Rattle.c_ir.specs.declared.kind.AlarmKind.{AlarmKind}
use Rattle.c_ir.specs.declared.kind.AlarmKind.TheVariants as A
use Rattle.c_ir.specs.declared.ty.IntType.{IntType}
use Rattle.c_ir.specs.declared.tree.Checks.{Checks}
use Rattle.c_ir.specs.declared.tree.Node.{Node}
use Rattle.c_ir.specs.declared.tree.Node.TheVariants as N
use Rattle.c_ir.specs.declared.tree.Expr.{Expr, fold-Expr}
use Rattle.c_ir.specs.declared.tree.Expr.TheOpen.{Expr-F}
use Rattle.c_ir.specs.declared.tree.SiteInfo.{SiteInfo}
use Rattle.c_ir.specs.Checks.{no_checks, unary_checks, binary_checks, read_checks, element_checks}
use Rattle.c_ir.specs.Formed.{on_some}

-- a list that begins with the sites so far
pub record Extends (infos sites : List SiteInfo) : Type 0 where
  pub more : List SiteInfo
  pub is : infos ≡ sites ++ more

-- a number for each check, by which two are compared
abbrev pub alarm_number : AlarmKind → ℕ
alarm_number A.DivisionByZero = 0
alarm_number A.SignedOverflow = 1
alarm_number A.Shift = 2
alarm_number A.IndexBound = 3
alarm_number A.Initialization = 4

abbrev pub same_alarm : Option AlarmKind → Option AlarmKind → Bool
same_alarm None None = true
same_alarm None (Some b) = false
same_alarm (Some a) None = false
same_alarm (Some a) (Some b) = alarm_number a == alarm_number b

abbrev pub same_checks : Checks → Checks → Bool
same_checks a b = same_alarm a.first b.first && same_alarm a.second b.second

abbrev pub is_entry : PointId → Checks → SiteInfo → Bool
is_entry point checks info = info.point.0 == point.0 && same_checks info.checks checks

-- the site, if there is one, has this point and these checks
abbrev pub has_entry : List SiteInfo → PointId → Option SiteId → Checks → Bool
has_entry infos point None checks = true
has_entry infos point (Some n) checks = on_some (is_entry point checks) (slice_get infos n.0)

-- a node, as its parent sees it: its type, and whether each site in it has its entry
pub record Sited : Type 0 where
  pub ty : IntType
  pub holds : Bool

abbrev pub all_hold : List Sited → Bool
all_hold [] = true
all_hold (e ∷ es) = e.holds && all_hold es

-- whether the sites of the parts have their entries
abbrev pub parts_hold : Node Sited (List Sited) → Bool
parts_hold (N.Literal v) = true
parts_hold (N.Cell c checked) = true
parts_hold (N.Element first n i checked) = i.holds
parts_hold (N.Call g es) = all_hold es
parts_hold (N.Unary op e) = e.holds
parts_hold (N.Binary op a b) = a.holds && b.holds
parts_hold (N.Assign t e) = t.holds && e.holds
parts_hold (N.Cond c a b) = c.holds && (a.holds && b.holds)
parts_hold (N.Cast e) = e.holds

-- the checks of a node of this type
abbrev pub checks_at : IntType → Node Sited (List Sited) → Checks
checks_at ty (N.Literal v) = no_checks
checks_at ty (N.Cell c checked) = read_checks checked
checks_at ty (N.Element first n i checked) = element_checks checked
checks_at ty (N.Call g es) = no_checks
checks_at ty (N.Unary op e) = unary_checks op ty
checks_at ty (N.Binary op a b) = binary_checks op a.ty
checks_at ty (N.Assign t e) = no_checks
checks_at ty (N.Cond c a b) = no_checks
checks_at ty (N.Cast e) = no_checks

abbrev pub sited_step : List SiteInfo → PointId → Expr-F Sited → Sited
sited_step infos point e =
    record { ty = e.ty; holds = has_entry infos point e.site (checks_at e.ty e.node) && parts_hold e.node }

abbrev pub sited : List SiteInfo → PointId → Expr → Sited
sited infos point = fold-Expr Sited (sited_step infos point)

-- each site of the tree has this point and the checks of its operator
unfoldable pub at_sites : List SiteInfo → PointId → Expr → Bool
at_sites infos point e = (sited infos point e).holds

unfoldable pub all_at_sites : List SiteInfo → PointId → List Expr → Bool
all_at_sites infos point es = all_hold (map (sited infos point) es)
