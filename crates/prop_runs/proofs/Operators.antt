-- Visits of checks that an operator of a point has.
use Rattle.std.proofs.Common.{◌≡◌, ◌⊎◌, inl, inr, ℕ, Bool, true, Option, Some, None, slice_get, refl, sym, subst}
use Rattle.std.proofs.lemmas.Bool.{and_parts, eqb-true, true≢false}
use Rattle.fc_base.specs.declared.ids.PointId.{PointId}
use Rattle.fc_base.specs.declared.ids.SiteId.{SiteId}
use Rattle.c_ir.specs.Formed.{on_some}
use Rattle.c_ir.specs.Programs.{Program}
use Rattle.c_ir.specs.Sited.{same_alarm, same_checks, is_entry, has_entry}
use Rattle.c_ir.specs.declared.kind.AlarmKind.{AlarmKind}
use Rattle.c_ir.specs.declared.tree.Checks.{Checks}
use Rattle.c_ir.specs.declared.tree.SiteInfo.{SiteInfo}
use Rattle.c_runs.specs.Visits.{Check, Visit, visit}
use Rattle.prop_runs.proofs.Courses.{Bears, BearsAll}

-- ---- visits of checks

abbrev pub IsAlarm : Option AlarmKind → AlarmKind → Type 0
IsAlarm o a = same_alarm o (Some a) ≡ true

-- the visit is one of a check that an operator at this point has
pub record OwnCheck (p : Program) (q : ℕ) (v : Visit) : Type 0 where
  pub site : ℕ
  pub alarm : AlarmKind
  pub is : v.named ≡ Check site alarm
  pub operator : SiteInfo
  pub is_operator : slice_get p.sites site ≡ Some operator
  pub at_point : operator.point.0 ≡ q
  pub check : IsAlarm operator.checks.first alarm ⊎ IsAlarm operator.checks.second alarm

among : (a b : Checks) (k : AlarmKind) → same_checks a b ≡ true → (b.first ≡ Some k) ⊎ (b.second ≡ Some k)
    → IsAlarm a.first k ⊎ IsAlarm a.second k
among a b k same (inl is) =
    inl (subst (λ (o : Option AlarmKind). same_alarm a.first o ≡ true) is (and_parts _ _ same).0)
among a b k same (inr is) =
    inr (subst (λ (o : Option AlarmKind). same_alarm a.second o ≡ true) is (and_parts _ _ same).1)

own_at : (p : Program) (q : PointId) (n : ℕ) (checks : Checks) (k : AlarmKind) (b : Bool)
    (o : Option SiteInfo)
    → slice_get p.sites n ≡ o → on_some (is_entry q checks) o ≡ true
    → (checks.first ≡ Some k) ⊎ (checks.second ≡ Some k) → OwnCheck p q.0 (visit (Check n k) b)
own_at p q n checks k b None is has which = absurd (true≢false (sym has))
own_at p q n checks k b (Some info) is has which =
    let parts = and_parts _ _ has in
    record {
      site = n;
      alarm = k;
      is = refl;
      operator = info;
      is_operator = is;
      at_point = eqb-true info.point.0 q.0 parts.0;
      check = among info.checks checks k parts.1 which;
    }

has_bears : (p : Program) (q : PointId) (site : Option SiteId) (checks : Checks) (k : AlarmKind)
    → has_entry p.sites q site checks ≡ true → (checks.first ≡ Some k) ⊎ (checks.second ≡ Some k)
    → Bears (OwnCheck p q.0) site k
has_bears p q site checks k has which n is b =
    own_at p q n.0 checks k b (slice_get p.sites n.0) refl
    (subst (λ (o : Option SiteId). has_entry p.sites q o checks ≡ true) is has) which

pub bears_all : (p : Program) (q : PointId) (site : Option SiteId) (checks : Checks)
    → has_entry p.sites q site checks ≡ true → BearsAll (OwnCheck p q.0) site checks
bears_all p q site checks has = record {
  first = λ k is. has_bears p q site checks k has (inl is);
  second = λ k is. has_bears p q site checks k has (inr is);
}
