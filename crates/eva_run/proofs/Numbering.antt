-- The numbers of properties that are found by their keys are those that the properties have in the table.
use Rattle.std.proofs.Common.{◌≡◌, ◌∙◌, ◌<◌, ◌≤◌, ◌+◌, ℕ, zero, suc, nat_lt, Bool, true, false, List, [], ◌∷◌, get_or, length, Option, Some, None, refl, sym, ap, arith}
use Rattle.std.specs.Prelude.{◌&&◌, ◌==◌, if◌then◌else◌, max}
use Rattle.std.proofs.Math.Nat.{le-max_left, le-max_right}
use Rattle.std.proofs.lemmas.Bool.{eqb-true, ltb-false, ltb-true, true≢false}
use Rattle.by_key.specs.Keys.{numbers_at}
use Rattle.by_key.specs.declared.lists.Keyed.{Keyed}
use Rattle.fc_base.specs.declared.ids.SiteId.{SiteId}
use Rattle.c_ir.specs.Formed.{on_some}
use Rattle.c_ir.specs.Kinds.{is_dead}
use Rattle.c_ir.specs.Sited.{alarm_number}
use Rattle.c_ir.specs.Table.{claims_dead}
use Rattle.c_ir.specs.declared.kind.AlarmKind.{AlarmKind}
use Rattle.c_ir.specs.declared.kind.AlarmKind.TheVariants as A
use Rattle.c_ir.specs.declared.kind.Kind.{Kind}
use Rattle.c_ir.specs.declared.kind.Kind.TheVariants as K
use Rattle.c_ir.specs.declared.prop.Prop.{Prop}
use Rattle.c_runs.specs.Visits.{Check, Clause, Dead, Precondition}
use Rattle.prop_runs.specs.Numbers.{call_requires_at, check_of, clause_at, is_alarm_of, is_call_requires, is_clause, number_of, place}
use Rattle.eva_run.specs.Code.{found_at, number_by}
use Rattle.eva_run.specs.Numbered.{Finds, IsNumbering, alarm_key, clause_key, dead_key, instance_key, key_of, keyed_from, past_keys, site_of, with_key}
use Rattle.eva_run.specs.declared.numbers.Listed.{Listed}
use Rattle.eva_run.specs.declared.numbers.Numbers.{Numbers}
use Rattle.eva_run.specs.declared.numbers.Sought.{Sought}
use Rattle.eva_run.specs.declared.numbers.Sought.TheVariants as S

-- ---- the numbers of a key

abbrev pub matches : ℕ → Option ℕ → Bool
matches k None = false
matches k (Some j) = j == k

at_with : (k n : ℕ) (o : Option ℕ) (rest : List Keyed)
    → numbers_at k (with_key n o rest)
    ≡ (if matches k o then n ∷ numbers_at k rest else numbers_at k rest)
at_with k n None rest = refl
at_with k n (Some j) rest = refl

first_is : (b : Bool) (n i none : ℕ) (ns : List ℕ) → get_or ns 0 none ≡ (n + 1) + i
    → get_or (if b then n ∷ ns else ns) 0 none ≡ n + (if b then 0 else suc i)
first_is true n i none ns h = omega arith
first_is false n i none ns h = omega (arith, h)

later_is : (b : Bool) (n j i later none : ℕ) (ns : List ℕ) → get_or ns j none ≡ (n + 1) + i
    → get_or ns (suc j) none ≡ (n + 1) + later
    → get_or (if b then n ∷ ns else ns) (suc j) none ≡ n + (if b then suc i else suc later)
later_is true n j i later none ns h more = omega (arith, h)
later_is false n j i later none ns h more = omega (arith, more)

module _ (sought : Sought) (k : ℕ) (test : Prop → Bool)
    (same : (r : Prop) → test r ≡ matches k (key_of sought r)) where
  abbrev numbers : ℕ → List Prop → List ℕ
  numbers n rows = numbers_at k (keyed_from sought n rows)

  head_is : (n j none : ℕ) (r : Prop) (rows : List Prop)
      → get_or (numbers n (r ∷ rows)) j none
      ≡ get_or (if test r then n ∷ numbers (n + 1) rows else numbers (n + 1) rows) j none
  head_is n j none r rows =
      ap (λ (ns : List ℕ). get_or ns j none) (at_with k n (key_of sought r) (keyed_from sought (n + 1) rows))
      ∙ ap (λ (b : Bool). get_or (if b then n ∷ numbers (n + 1) rows else numbers (n + 1) rows) j none)
      (sym (same r))

  placed : (n : ℕ) (rows : List Prop) (j none : ℕ) → none ≡ n + length rows
      → get_or (numbers n rows) j none ≡ n + place test rows j
  placed n [] j none h = h
  placed n (r ∷ rows) zero none h =
      head_is n 0 none r rows
      ∙ first_is (test r) n (place test rows 0) none (numbers (n + 1) rows)
      (placed (n + 1) rows 0 none (omega (arith, h)))
  placed n (r ∷ rows) (suc j) none h =
      head_is n (suc j) none r rows
      ∙ later_is (test r) n j (place test rows j) (place test rows (suc j)) none (numbers (n + 1) rows)
      (placed (n + 1) rows j none (omega (arith, h)))
      (placed (n + 1) rows (suc j) none (omega (arith, h)))

-- ---- keys past all

not_key : (b : Bool) (a k : ℕ) → (a == k) ≡ b → a + 1 ≤ k → b ≡ false
not_key true a k is h = absurd (omega (arith, eqb-true a k is, h))
not_key false a k is h = refl

left_out : (b : Bool) (x : ℕ) (xs : List ℕ) → b ≡ false → xs ≡ [] → (if b then x ∷ xs else xs) ≡ []
left_out true x xs is h = absurd (true≢false is)
left_out false x xs is h = h

past_none : (k : ℕ) (ms : List Keyed) → past_keys ms ≤ k → numbers_at k ms ≡ []
past_none k [] h = refl
past_none k (m ∷ ms) h =
    left_out (m.key == k) m.number (numbers_at k ms)
    (not_key (m.key == k) m.key k refl (omega (arith, h, le-max_left (m.key + 1) (past_keys ms))))
    (past_none k ms (omega (arith, h, le-max_right (m.key + 1) (past_keys ms))))

found_is : (f : Listed) (sought : Sought) (rows : List Prop) (k : ℕ) → Finds f sought rows
    → found_at f k ≡ numbers_at k (keyed_from sought 0 rows)
found_is f sought rows k h = by_test (nat_lt k f.past) refl
  where
    by_test : (b : Bool) → nat_lt k f.past ≡ b
        → (if b then get_or f.lists k [] else []) ≡ numbers_at k (keyed_from sought 0 rows)
    by_test true is = h.1.at k (omega (arith, ltb-true k f.past is, h.0))
    by_test false is = sym (past_none k (keyed_from sought 0 rows)
        (omega (arith, ltb-false k f.past is, h.0)))

place_found : (f : Listed) (sought : Sought) (rows : List Prop) (k j total : ℕ) (test : Prop → Bool)
    → ((r : Prop) → test r ≡ matches k (key_of sought r)) → total ≡ length rows → Finds f sought rows
    → get_or (found_at f k) j total ≡ place test rows j
place_found f sought rows k j total test same all h =
    ap (λ (ns : List ℕ). get_or ns j total) (found_is f sought rows k h)
    ∙ omega (arith, placed sought k test same 0 rows j total (omega (arith, all)))

-- ---- the tests

dead_by : (q p : ℕ) (k : Kind) → (is_dead k && (p == q)) ≡ matches q (dead_key p k)
dead_by q p K.Requires = refl
dead_by q p K.CallRequires = refl
dead_by q p K.Ensures = refl
dead_by q p K.Assert = refl
dead_by q p K.Check = refl
dead_by q p K.Admit = refl
dead_by q p K.LoopInvariant = refl
dead_by q p (K.Alarm a) = refl
dead_by q p K.Dead = refl

clause_by : (q p : ℕ) (k : Kind) → (is_clause k && (p == q)) ≡ matches q (clause_key p k)
clause_by q p K.Requires = refl
clause_by q p K.CallRequires = refl
clause_by q p K.Ensures = refl
clause_by q p K.Assert = refl
clause_by q p K.Check = refl
clause_by q p K.Admit = refl
clause_by q p K.LoopInvariant = refl
clause_by q p (K.Alarm a) = refl
clause_by q p K.Dead = refl

instance_by : (q p : ℕ) (k : Kind) → (is_call_requires k && (p == q)) ≡ matches q (instance_key p k)
instance_by q p K.Requires = refl
instance_by q p K.CallRequires = refl
instance_by q p K.Ensures = refl
instance_by q p K.Assert = refl
instance_by q p K.Check = refl
instance_by q p K.Admit = refl
instance_by q p K.LoopInvariant = refl
instance_by q p (K.Alarm a) = refl
instance_by q p K.Dead = refl

and_none : (b : Bool) → (b && false) ≡ false
and_none true = refl
and_none false = refl

if_site : (b : Bool) (n s : ℕ) → (b && (s == n)) ≡ matches n (if b then Some s else None)
if_site true n s = refl
if_site false n s = refl

site_by : (n : ℕ) (a b : AlarmKind) (o : Option SiteId)
    → ((alarm_number a == alarm_number b) && on_some (λ s. s.0 == n) o) ≡ matches n (site_of a b o)
site_by n a b None = and_none (alarm_number a == alarm_number b)
site_by n a b (Some s) = if_site (alarm_number a == alarm_number b) n s.0

alarm_by : (n : ℕ) (a : AlarmKind) (o : Option SiteId) (k : Kind)
    → (is_alarm_of a k && on_some (λ s. s.0 == n) o) ≡ matches n (alarm_key a o k)
alarm_by n a o K.Requires = refl
alarm_by n a o K.CallRequires = refl
alarm_by n a o K.Ensures = refl
alarm_by n a o K.Assert = refl
alarm_by n a o K.Check = refl
alarm_by n a o K.Admit = refl
alarm_by n a o K.LoopInvariant = refl
alarm_by n a o (K.Alarm b) = site_by n a b o
alarm_by n a o K.Dead = refl

-- ---- all properties

alarm_found : (f : Listed) (a : AlarmKind) (rows : List Prop) (s total : ℕ) → total ≡ length rows
    → Finds f (S.Alarm a) rows → get_or (found_at f s) 0 total ≡ place (check_of s a) rows 0
alarm_found f a rows s total all h =
    place_found f (S.Alarm a) rows s 0 total (check_of s a) (λ r. alarm_by s a r.site r.kind) all h

pub record Parts (n : Numbers) (rows : List Prop) : Type 0 where
  pub total : n.total ≡ length rows
  pub deads : Finds n.deads S.Dead rows
  pub clauses : Finds n.clauses S.Clause rows
  pub instances : Finds n.instances S.Instance rows
  pub division : Finds n.division (S.Alarm A.DivisionByZero) rows
  pub overflow : Finds n.overflow (S.Alarm A.SignedOverflow) rows
  pub shift : Finds n.shift (S.Alarm A.Shift) rows
  pub index : Finds n.index (S.Alarm A.IndexBound) rows
  pub initialization : Finds n.initialization (S.Alarm A.Initialization) rows

pub numbering : (n : Numbers) (rows : List Prop) → Parts n rows → IsNumbering n rows
numbering n rows h (Dead q) =
    place_found n.deads S.Dead rows q 0 n.total (claims_dead q) (λ r. dead_by q r.point.0 r.kind) h.total
    h.deads
numbering n rows h (Clause q k) =
    place_found n.clauses S.Clause rows q k n.total (clause_at q) (λ r. clause_by q r.point.0 r.kind)
    h.total h.clauses
numbering n rows h (Precondition q k) =
    place_found n.instances S.Instance rows q k n.total (call_requires_at q)
    (λ r. instance_by q r.point.0 r.kind)
    h.total h.instances
numbering n rows h (Check s A.DivisionByZero) =
    alarm_found n.division A.DivisionByZero rows s n.total h.total h.division
numbering n rows h (Check s A.SignedOverflow) =
    alarm_found n.overflow A.SignedOverflow rows s n.total h.total h.overflow
numbering n rows h (Check s A.Shift) = alarm_found n.shift A.Shift rows s n.total h.total h.shift
numbering n rows h (Check s A.IndexBound) = alarm_found n.index A.IndexBound rows s n.total h.total h.index
numbering n rows h (Check s A.Initialization) =
    alarm_found n.initialization A.Initialization rows s n.total h.total h.initialization
