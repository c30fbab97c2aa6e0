-- Courses that give a value: what gave it, and which checks were passed on the way.
use Rattle.std.proofs.Common.{◌≡◌, ◌||◌, ◌⊎◌, inl, inr, Bool, true, false, not, ℤ, Option, Some, None, is_some, refl, sym}
use Rattle.std.proofs.lemmas.Bool.{true≢false}
use Rattle.std.proofs.lemmas.Option.{none-some}
use Rattle.fc_base.specs.declared.ids.SiteId.{SiteId}
use Rattle.c_ir.specs.declared.kind.AlarmKind.{AlarmKind}
use Rattle.c_ir.specs.declared.kind.AlarmKind.TheVariants as A
use Rattle.c_runs.specs.Evaluation.{Course, on_value, and_then, ends_run, going_on, checked, checked_at, checked_if, unless}

on_value_gives : {A B : Type 0} (o : Option A) (f : A → Course B) (b : B) → (on_value o f).value ≡ Some b
    → (a : A) × (o ≡ Some a) × ((f a).value ≡ Some b)
on_value_gives None f b is = absurd (none-some b is)
on_value_gives (Some a) f b is = (a, refl, is)

-- both parts gave a value
pub then_gives : {A B : Type 0} (c : Course A) (f : A → Course B) (b : B) → (and_then c f).value ≡ Some b
    → (a : A) × (c.value ≡ Some a) × ((f a).value ≡ Some b)
then_gives c f b is = on_value_gives c.value f b is

-- the left operand decided the value, or what follows gave it
pub unless_gives : (o : Option ℤ) (rest : Course ℤ) (z : ℤ) → (unless o rest).value ≡ Some z
    → (o ≡ Some z) ⊎ (rest.value ≡ Some z)
unless_gives None rest z is = inr is
unless_gives (Some v) rest z is = inl is

-- ---- checks

-- each failure ends the run
passed : (kind : AlarmKind) (passes : Bool) → (passes || not (ends_run kind)) ≡ true → passes ≡ true
passed kind true is = refl
passed A.DivisionByZero false is = is
passed A.SignedOverflow false is = is
passed A.Shift false is = is
passed A.IndexBound false is = is
passed A.Initialization false is = is

module _ {A : Type 0} (rest : Course A) (a : A) where
  going_gives : (goes : Bool) → (going_on goes rest).value ≡ Some a → (goes ≡ true) × (rest.value ≡ Some a)
  going_gives true is = (refl, is)
  going_gives false is = absurd (none-some a is)

  checked_gives : (n : SiteId) (kind : AlarmKind) (passes : Bool) → (checked n.0 kind passes rest).value ≡ Some a
      → (passes ≡ true) × (rest.value ≡ Some a)
  checked_gives n kind passes is =
      let goes = going_gives (passes || not (ends_run kind)) is in
      (passed kind passes goes.0, goes.1)

  -- a check that has a site was passed
  pub at_gives : (site : Option SiteId) (kind : AlarmKind) (passes : Bool)
      → (checked_at site kind passes rest).value ≡ Some a
      → (is_some site ≡ true → passes ≡ true) × (rest.value ≡ Some a)
  at_gives None kind passes is = (λ has. absurd (true≢false (sym has)), is)
  at_gives (Some n) kind passes is =
      let goes = checked_gives n kind passes is in
      (λ has. goes.0, goes.1)

  pub if_gives : (visited : Bool) (site : Option SiteId) (kind : AlarmKind) (passes : Bool)
      → (checked_if visited site kind passes rest).value ≡ Some a
      → (visited ≡ true → is_some site ≡ true → passes ≡ true) × (rest.value ≡ Some a)
  if_gives true site kind passes is =
      let goes = at_gives site kind passes is in
      (λ visited. goes.0, goes.1)
  if_gives false site kind passes is = (λ visited. absurd (true≢false (sym visited)), is)
