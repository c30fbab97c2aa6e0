-- Marks of the checks that a course visits, and what is left of the cells as a condition came out.
use Rattle.std.proofs.Common.{◌≡◌, ◌≢◌, ◌↔◌, ◌++◌, ◌&&◌, ◌||◌, ◌⊎◌, ℕ, ℤ, pos, int_le, Bool, true, false, not, cond, List, [], ◌∷◌, Option, Some, None, is_some, refl, sym, ap, subst, ◌∙◌, inl, inr, arith}
use Rattle.std.proofs.lemmas.Int.{ints}
use Rattle.std.proofs.lemmas.Bool.{and_parts, false≢true, true≢false}
use Rattle.std.proofs.lemmas.Option.{none-some, same_Some}
use mathlib.Core.List.{append-nil}
use Rattle.machine_ints.proofs.Choices.{choose}
use Rattle.fc_base.specs.declared.ids.SiteId.{SiteId}
use Rattle.fc_base.specs.declared.relation.Relation.{Relation}
use Rattle.fc_base.specs.declared.relation.Relation.TheVariants as R
use Rattle.c_ir.specs.declared.kind.AlarmKind.{AlarmKind}
use Rattle.c_ir.specs.declared.kind.AlarmKind.TheVariants as K
use Rattle.c_rules.specs.Constants.{equals, is_zero}
use Rattle.c_runs.specs.Evaluation.{Course, gives, stops, on_value, after, and_then, ends_run, going_on, checked, checked_at, checked_if}
use Rattle.c_runs.specs.Visits.{Cells, Check, Visit, visit}
use Rattle.int_congr.proofs.Cover.{itself}
use Rattle.int_interval.proofs.Cover.{just_same}
use Rattle.int_interval.specs.Rows.{is_empty, is_just}
use Rattle.int_interval.specs.declared.said.Said.{Said}
use Rattle.int_interval.specs.declared.said.Said.TheVariants.{Yes, No, Maybe, Unreached}
use Rattle.int_value.specs.Rows.{contains_row, one_of}
use Rattle.int_value.specs.Standing.{Holds, IsMark, IsRight, Stands}
use Rattle.int_value.specs.declared.value.Value.{Value}
use Rattle.int_value.proofs.Cover.{contains_member, not_empty}
use Rattle.abs_cells.specs.Cells.{Env}
use Rattle.abs_cells.specs.Laws.{In, Names, Relates}
use Rattle.abs_cells.specs.Relations.{narrow_both, on_env, opposite_of}
use Rattle.abs_cells.specs.declared.narrowing.Side.{Side}
use Rattle.abs_cells.proofs.Keeping.{narrow_keeps}
use Rattle.eva_values.specs.Laws.{AllMarked, Covers, Marked}
use Rattle.eva_values.specs.Marks.{mark_at, mark_said}
use Rattle.eva_values.specs.Values.{env_if, has_other, has_zero, may_be, taken_as, tested, zero_side}
use Rattle.eva_values.specs.declared.seen.SiteMark.{SiteMark}
use Rattle.eva_values.proofs.Passing.{true_equals}

-- ---- lists of marks

marked_first : (ms ns : List SiteMark) (v : Visit) → Marked ms v → Marked (ms ++ ns) v
marked_first [] ns v h = absurd h
marked_first (m ∷ ms) ns v (inl here) = inl here
marked_first (m ∷ ms) ns v (inr later) = inr (marked_first ms ns v later)

marked_last : (ms ns : List SiteMark) (v : Visit) → Marked ns v → Marked (ms ++ ns) v
marked_last [] ns v h = h
marked_last (m ∷ ms) ns v h = inr (marked_last ms ns v h)

pub all_first : (ms ns : List SiteMark) (vs : List Visit) → AllMarked ms vs → AllMarked (ms ++ ns) vs
all_first ms ns [] h = tt
all_first ms ns (v ∷ vs) h = (marked_first ms ns v h.0, all_first ms ns vs h.1)

pub all_last : (ms ns : List SiteMark) (vs : List Visit) → AllMarked ns vs → AllMarked (ms ++ ns) vs
all_last ms ns [] h = tt
all_last ms ns (v ∷ vs) h = (marked_last ms ns v h.0, all_last ms ns vs h.1)

both_all : (ms : List SiteMark) (vs ws : List Visit) → AllMarked ms vs → AllMarked ms ws → AllMarked ms (vs ++ ws)
both_all ms [] ws h k = k
both_all ms (v ∷ vs) ws h k = (h.0, both_all ms vs ws h.1 k)

-- the marks of one part and those of the next
pub parts_all : (ms ns : List SiteMark) (vs ws : List Visit) → AllMarked ms vs → AllMarked ns ws
    → AllMarked (ms ++ ns) (vs ++ ws)
parts_all ms ns vs ws h k = both_all (ms ++ ns) vs ws (all_first ms ns vs h) (all_last ms ns ws k)

-- ---- courses

on_value_marked : {X Y : Type 0} (ns : List SiteMark) (o : Option X) (f : X → Course Y)
    → ((a : X) → o ≡ Some a → AllMarked ns (f a).visits) → AllMarked ns (on_value o f).visits
on_value_marked ns None f h = tt
on_value_marked ns (Some a) f h = h a refl

pub then_marked : {X Y : Type 0} (ms ns : List SiteMark) (k : Course X) (f : X → Course Y) → AllMarked ms k.visits
    → ((a : X) → k.value ≡ Some a → AllMarked ns (f a).visits) → AllMarked (ms ++ ns) (and_then k f).visits
then_marked ms ns k f h later =
    parts_all ms ns k.visits (on_value k.value f).visits h (on_value_marked ns k.value f later)

-- ---- checks

going_marked : {X : Type 0} (ns : List SiteMark) (goes : Bool) (rest : Course X)
    → (goes ≡ true → AllMarked ns rest.visits) → AllMarked ns (going_on goes rest).visits
going_marked ns true rest h = h refl
going_marked ns false rest h = tt

-- a failed check ends the run, so that the rest follows passed ones alone
went_on : (kind : AlarmKind) (passes : Bool) → (passes || not (ends_run kind)) ≡ true → passes ≡ true
went_on kind true is = refl
went_on K.DivisionByZero false is = is
went_on K.SignedOverflow false is = is
went_on K.Shift false is = is
went_on K.IndexBound false is = is
went_on K.Initialization false is = is

module _ {X : Type 0} (ns : List SiteMark) (kind : AlarmKind) (passes : Bool) (rest : Course X) where
  -- a check that is visited, with its mark
  pub at_marked : (site : Option SiteId) (said : Said) → is_some site ≡ true → IsRight said (passes ≡ true)
      → (passes ≡ true → AllMarked ns rest.visits)
      → AllMarked (mark_at site kind said ++ ns) (checked_at site kind passes rest).visits
  at_marked None said has right later = absurd (false≢true has)
  at_marked (Some n) said has right later = (
    inl (refl, right),
    all_last (mark_at (Some n) kind said) ns (going_on (passes || not (ends_run kind)) rest).visits
        (going_marked ns (passes || not (ends_run kind)) rest (λ goes. later (went_on kind passes goes))),
  )

  -- a check that may not be visited
  pub if_marked : (visited : Bool) (site : Option SiteId) (made : Option Said) → (visited ≡ true → is_some site ≡ true)
      → IsMark visited made (passes ≡ true) → ((visited ≡ true → passes ≡ true) → AllMarked ns rest.visits)
      → AllMarked (mark_said site kind made ++ ns) (checked_if visited site kind passes rest).visits
  if_marked true site None has right later = absurd right
  if_marked true site (Some said) has right later = at_marked site said (has refl) right (λ is. later (λ v. is))
  if_marked false site None has right later = later (λ v. absurd (false≢true v))
  if_marked false site (Some said) has right later = absurd right

-- a check after which nothing is visited
pub only_marked : {X : Type 0} (kind : AlarmKind) (passes : Bool) (rest : Course X) (site : Option SiteId) (said : Said)
    → is_some site ≡ true → IsRight said (passes ≡ true) → AllMarked [] rest.visits
    → AllMarked (mark_at site kind said) (checked_at site kind passes rest).visits
only_marked kind passes rest site said has right none =
    subst (λ (ms : List SiteMark). AllMarked ms (checked_at site kind passes rest).visits) (append-nil (mark_at site kind said))
    (at_marked [] kind passes rest site said has right (λ is. none))

-- ---- what is said of one test is said of the same test in another form

pub same_right : (said : Said) (P Q : Type 0) → P ↔ Q → IsRight said P → IsRight said Q
same_right Yes P Q both h = both.0 h
same_right No P Q both h = λ q. h (both.1 q)
same_right Maybe P Q both h = tt
same_right Unreached P Q both h = h

pub same_mark : (visited : Bool) (made : Option Said) (P Q : Type 0) → P ↔ Q → IsMark visited made P → IsMark visited made Q
same_mark true None P Q both h = h
same_mark true (Some said) P Q both h = same_right said P Q both h
same_mark false None P Q both h = h
same_mark false (Some said) P Q both h = h

-- ---- conditions

not_one : (b c : Bool) → b ≡ false → c ≡ false → not (b || c) ≡ true
not_one true c h k = absurd (true≢false h)
not_one false true h k = absurd (true≢false k)
not_one false false h k = refl

pub zero_there : (v : Value) (z : ℤ) → Stands v (Some z) → is_zero z ≡ true → has_zero v ≡ true
zero_there v z h zero = (contains_member v (pos 0)).1 (subst (Holds v) (true_equals z (pos 0) zero) h)

pub other_there : (v : Value) (z : ℤ) → Stands v (Some z) → is_zero z ≡ false → has_other v ≡ true
other_there v z h other = not_one (is_empty v.range) (is_just v.range (pos 0)) (not_empty v.range z h.0) (by_test (is_just v.range (pos 0)) refl)
  where
    by_test : (b : Bool) → is_just v.range (pos 0) ≡ b → b ≡ false
    by_test true e = absurd (true≢false (sym (equals_same z (just_same v.range (pos 0) z e h.0)) ∙ other))
      where
        equals_same : (z : ℤ) → z ≡ pos 0 → is_zero z ≡ true
        equals_same z e = ap is_zero e
    by_test false e = refl

-- a value may come out as its number does
pub may_come : (v : Value) (z : ℤ) → Stands v (Some z) → (b : Bool) → is_zero z ≡ b → may_be (not b) v ≡ true
may_come v z h true e = zero_there v z h e
may_come v z h false e = other_there v z h e

pub if_keeps : (b : Bool) (e : Env) (c : Cells) → b ≡ true → In e c → In (env_if b e) c
if_keeps true e c h k = k
if_keeps false e c h k = absurd (false≢true h)

pub one_stands : (n : ℤ) → Stands (one_of n false) (Some n)
one_stands n = ((omega (arith, ints), omega (arith, ints)), itself (pos 0) n)

-- ---- whole expressions

module _ (c : Cells) where
  -- the parts of what is said of an evaluation
  pub record Parts (side : Side) (marks : List SiteMark) (narrowed : Bool → Env) (k : Course ℤ) : Type 0 where
    pub marked : AllMarked marks k.visits
    pub value : (z : ℤ) → k.value ≡ Some z → Stands side.value (Some z)
    pub named : (z : ℤ) → k.value ≡ Some z → Names side.cell c z
    pub left : (z : ℤ) → k.value ≡ Some z → (b : Bool) → is_zero z ≡ b → In (narrowed (not b)) c

  pub whole : (side : Side) (marks : List SiteMark) (narrowed : Bool → Env) (k : Course ℤ) → Parts side marks narrowed k
      → Covers c side marks (λ taken. env_if (may_be taken side.value) (narrowed taken)) k
  whole side marks narrowed k p = record {
    marked = p.marked;
    value = p.value;
    named = p.named;
    left = λ z is.
        if_keeps (may_be (not (is_zero z)) side.value) (narrowed (not (is_zero z))) c
        (may_come side.value z (p.value z is) (is_zero z) refl) (p.left z is (is_zero z) refl);
  }

  -- a relation that came out so narrows what is left
  pub tested_keeps : (r : Relation) (a b : Side) (x y : ℤ) (taken : Bool) (e : Env) → Relates (taken_as taken r) x y
      → Stands a.value (Some x) → Stands b.value (Some y) → Names a.cell c x → Names b.cell c y → In e c
      → In (tested r a b taken e) c
  tested_keeps r a b x y taken None h p q n m all = absurd all
  tested_keeps r a b x y taken (Some cells) h p q n m all = narrow_keeps (taken_as taken r) a b x y cells c h p q n m all

  apart_zero : (z : ℤ) → is_zero z ≡ false → z ≢ pos 0
  apart_zero z e same = true≢false (sym (ap is_zero same) ∙ e)

  -- a value that is compared with 0
  pub compared_covers : (side : Env → Side) (marks : Env → List SiteMark) (e : Env) (k : Course ℤ) → In e c
      → AllMarked (marks e) k.visits
      → ((z : ℤ) → k.value ≡ Some z → Stands (side e).value (Some z) × Names (side e).cell c z)
      → Covers c (side e) (marks e)
      (λ taken. env_if (may_be taken (side e).value) (tested R.NotEqual (side e) zero_side taken e)) k
  compared_covers side marks e k all marked held =
      whole (side e) (marks e) (λ taken. tested R.NotEqual (side e) zero_side taken e) k (record {
        marked = marked;
        value = λ z is. (held z is).0;
        named = λ z is. (held z is).1;
        left = λ z is b zero. by_test z (held z is) b zero;
      })
    where
      by_test : (z : ℤ) → Stands (side e).value (Some z) × Names (side e).cell c z → (b : Bool) → is_zero z ≡ b
          → In (tested R.NotEqual (side e) zero_side (not b) e) c
      by_test z h true zero =
          tested_keeps R.NotEqual (side e) zero_side z (pos 0) false e (true_equals z (pos 0) zero) h.0 (one_stands (pos 0)) h.1 tt all
      by_test z h false zero =
          tested_keeps R.NotEqual (side e) zero_side z (pos 0) true e (apart_zero z zero) h.0 (one_stands (pos 0)) h.1 tt all
