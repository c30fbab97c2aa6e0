-- Entries are right where each visit of each run has a record that is right, provided that the properties which were
-- used hold in the run.
use Rattle.std.proofs.Common.{◌≡◌, ◌∙◌, ◌==◌, ◌+◌, inl, inr, ℕ, ℤ, Bool, true, false, not, ◌&&◌, ◌||◌, List, [], ◌∷◌, ◌++◌, length, map, nat_lt, refl, sym, ap, subst}
use Rattle.std.specs.Prelude.{if◌then◌else◌}
use Rattle.std.proofs.lemmas.Bool.{and_parts, cond_both, eqb-true, eq-eqb, false_from_ne_true, false≢true, or_cases, or_left, or_parts, or_right, true≢false}
use Rattle.fc_base.specs.declared.status.LocalStatus.{LocalStatus}
use Rattle.fc_base.specs.declared.status.LocalStatus.TheVariants as Status
use Rattle.int_interval.specs.declared.said.Said.{Said}
use Rattle.int_interval.specs.declared.said.Said.TheVariants.{Yes, No, Maybe, Unreached}
use Rattle.int_value.specs.Standing.{IsRight as IsTold}
use Rattle.prop_set.specs.Sets.{is_member, prop_ids, union}
use Rattle.prop_set.proofs.Lists.{adds_all}
use Rattle.param_book.specs.Table.{entry_function}
use Rattle.c_ir.specs.Keeps.{Keeps}
use Rattle.c_ir.specs.Programs.{Program}
use Rattle.c_ir.specs.Table.{row_admitted}
use Rattle.c_ir.specs.declared.prop.Prop.{Prop}
use Rattle.c_runs.specs.Parts.{Has}
use Rattle.c_runs.specs.Programs.{visits_of_run}
use Rattle.c_runs.specs.Visits.{Named, Visit}
use Rattle.prop_table.specs.Rows.{rows_of}
use Rattle.prop_runs.specs.Numbers.{number_of, numbered, props_of, runs_of}
use Rattle.prop_runs.proofs.Meeting.{met_false, met_true}
use Rattle.status_history.specs.Claims.{AllFalse, AllHold, AllRuns, IsRight, Says, Visits, has_false, has_true}
use Rattle.status_history.specs.declared.history.Entry.{Entry}
use Rattle.eva_rules.specs.Entries.{each_said, entries_from, entry_by, entry_of, eva_said, may_fail, may_hold, records_at, records_of, status_of, used_by, used_with}
use Rattle.eva_rules.specs.Laws.{EntriesAreRight}
use Rattle.eva_rules.specs.Passing.{Record}
use Rattle.eva_rules.proofs.Cover.{AllCovered, Clean, Covered}

-- ---- what holds in all runs

held : (u : Visits) (used : List ℕ) → AllHold u (prop_ids used) → (q : ℕ) → is_member q used ≡ true → AllRuns u q
held u [] hold q is = absurd (false≢true is)
held u (x ∷ xs) hold q is = elim (or_cases (q == x) (is_member q xs) is) [
  | inl same ↦ subst (λ (y : ℕ). AllRuns u y) (sym (eqb-true q x same)) hold.0
  | inr later ↦ held u xs hold.1 q later
]

one_clean : (same holds rest : Bool) → ((same && not holds) || rest) ≡ false → same ≡ true → holds ≡ true
one_clean true true rest h e = refl
one_clean true false rest h e = absurd (true≢false h)
one_clean false holds rest h e = absurd (false≢true e)

clean_of : (p : Program) (rows : List Prop) (holding : ℕ → Bool) (vs : List Visit)
    → ((q : ℕ) → holding q ≡ true → has_false q (map (numbered rows) vs) ≡ false) → Clean p (number_of rows) holding vs
clean_of p rows holding [] none = tt
clean_of p rows holding (v ∷ vs) none = (
  λ is. one_clean (number_of rows v.named == number_of rows v.named) v.holds
      (has_false (number_of rows v.named) (map (numbered rows) vs)) (none (number_of rows v.named) is)
      (eq-eqb (number_of rows v.named) (number_of rows v.named) refl),
  clean_of p rows holding vs (λ q is.
      (or_parts ((number_of rows v.named == q) && not v.holds) (has_false q (map (numbered rows) vs)) (none q is)).1),
)

-- ---- what the records of a property used

abbrev AllUsed : (ℕ → Bool) → List Record → Type 0
AllUsed holding [] = Unit {0}
AllUsed holding (r ∷ rs) = ((q : ℕ) → is_member q r.used ≡ true → holding q ≡ true) × AllUsed holding rs

used_before : (rs : List Record) (used : List ℕ) (q : ℕ) → is_member q used ≡ true → is_member q (used_with used rs) ≡ true
used_before [] used q is = is
used_before (r ∷ rs) used q is =
    used_before rs (union used r.used) q (adds_all q used r.used ∙ or_left (is_member q used) (is_member q r.used) is)

all_used : (holding : ℕ → Bool) (rs : List Record) (used : List ℕ)
    → ((q : ℕ) → is_member q (used_with used rs) ≡ true → holding q ≡ true) → AllUsed holding rs
all_used holding [] used h = tt
all_used holding (r ∷ rs) used h = (
  λ q is. h q (used_before rs (union used r.used) q
      (adds_all q used r.used ∙ or_right (is_member q used) (is_member q r.used) is)),
  all_used holding rs (union used r.used) h,
)

-- ---- what the records of a property say of a visit

abbrev Told : (Said → Bool) → Bool → Type 0
Told test holds = (s : Said) × (test s ≡ true) × IsTold s (holds ≡ true)

-- a record that is one of the property's, and those after it
record First (test : Said → Bool) (holding : ℕ → Bool) (b : Bool) (r : Record) (more : List Record) : Type 0 where
  said : b ≡ true → test r.said ≡ true
  used : b ≡ true → (q : ℕ) → is_member q r.used ≡ true → holding q ≡ true
  more_said : each_said test more ≡ true
  more_used : AllUsed holding more

first_of : (test : Said → Bool) (holding : ℕ → Bool) (b : Bool) (r : Record) (more : List Record)
    → each_said test ((if b then r ∷ [] else []) ++ more) ≡ true → AllUsed holding ((if b then r ∷ [] else []) ++ more)
    → First test holding b r more
first_of test holding true r more each used =
    let parts = and_parts (test r.said) (each_said test more) each in
    record { said = λ is. parts.0; used = λ is. used.0; more_said = parts.1; more_used = used.1 }
first_of test holding false r more each used = record {
  said = λ is. absurd (false≢true is);
  used = λ is. absurd (false≢true is);
  more_said = each;
  more_used = used;
}

told : (p : Program) (number : Named → ℕ) (holding : ℕ → Bool) (test : Said → Bool) (n : ℕ) (rs : List Record)
    (v : Visit)
    → each_said test (records_at number n rs) ≡ true → AllUsed holding (records_at number n rs) → number v.named ≡ n
    → Covered p number holding rs v → Told test v.holds
told p number holding test n [] v each used is covered = absurd covered
told p number holding test n (r ∷ rs) v each used is (inl here) =
    let first = first_of test holding (number r.named == n) r (records_at number n rs) each used in
    let same = eq-eqb (number r.named) n (ap number here.0 ∙ is) in
    (r.said, first.said same, here.1 (first.used same))
told p number holding test n (r ∷ rs) v each used is (inr later) =
    let first = first_of test holding (number r.named == n) r (records_at number n rs) each used in
    told p number holding test n rs v first.more_said first.more_used is later

each_covered : (p : Program) (number : Named → ℕ) (holding : ℕ → Bool) (rs : List Record) (vs : List Visit) (v : Visit)
    → AllCovered p number holding rs vs → Has vs v → Covered p number holding rs v
each_covered p number holding rs [] v all h = absurd h
each_covered p number holding rs (u ∷ vs) v all (inl same) = subst (Covered p number holding rs) same all.0
each_covered p number holding rs (u ∷ vs) v all (inr h) = each_covered p number holding rs vs v all.1 h

holds_told : (holds : Bool) → Told may_hold holds → holds ≡ true
holds_told holds h = by_said h.0 h.1 h.2
  where
    by_said : (s : Said) → may_hold s ≡ true → IsTold s (holds ≡ true) → holds ≡ true
    by_said Yes is k = k
    by_said No is k = absurd (false≢true is)
    by_said Maybe is k = absurd (false≢true is)
    by_said Unreached is k = absurd k

fails_told : (holds : Bool) → Told may_fail holds → holds ≡ true → ⊥
fails_told holds h = by_said h.0 h.1 h.2
  where
    by_said : (s : Said) → may_fail s ≡ true → IsTold s (holds ≡ true) → holds ≡ true → ⊥
    by_said Yes is k = absurd (false≢true is)
    by_said No is k = k
    by_said Maybe is k = absurd (false≢true is)
    by_said Unreached is k = absurd k

-- ---- one property

-- each visit of a run has a right record, if each visit of a property that holds in it is true
abbrev pub RunsAreCovered : Program → List ℤ → Type 0
RunsAreCovered p values =
    (holding : ℕ → Bool) (input : List ℤ) (n : ℕ)
    → Clean p (number_of (rows_of p)) holding (visits_of_run p values input n)
    → AllCovered p (number_of (rows_of p)) holding (records_of p (rows_of p) values) (visits_of_run p values input n)

module _ (p : Program) (values : List ℤ) (covers : RunsAreCovered p values) where
  -- the records of property m
  abbrev own : ℕ → List Record
  own m = records_at (number_of (rows_of p)) m (records_of p (rows_of p) values)

  run_told : (test : Said → Bool) (m : ℕ) → AllHold (runs_of p values) (prop_ids (used_by (own m)))
      → each_said test (own m) ≡ true → (input : List ℤ) (n : ℕ) (v : Visit) → Has (visits_of_run p values input n) v
      → number_of (rows_of p) v.named ≡ m → Told test v.holds
  unfolding runs_of
  run_told test m hold each input n v h is =
      let rows = rows_of p in
      let rs = records_of p rows values in
      let vs = visits_of_run p values input n in
      let used = used_by (own m) in
      let holding : ℕ → Bool = λ q. is_member q used in
      let clean = clean_of p rows holding vs (λ q yes. held (runs_of p values) used hold q yes input n) in
      told p (number_of rows) holding test m rs v each (all_used holding (own m) [] (λ q yes. yes)) is
      (each_covered p (number_of rows) holding rs vs v (covers holding input n clean) h)

  all_true : (m : ℕ) → AllHold (runs_of p values) (prop_ids (used_by (own m))) → each_said may_hold (own m) ≡ true
      → AllRuns (runs_of p values) m
  unfolding runs_of
  all_true m hold each = λ input n.
      false_from_ne_true (has_false m (runs_of p values input n)) (λ seen.
      let v = met_false (rows_of p) m (visits_of_run p values input n) seen in
      let holds = holds_told v.visit.holds (run_told may_hold m hold each input n v.visit v.is_visit v.number) in
      true≢false (sym v.truth ∙ ap not holds))

  all_false : (m : ℕ) → AllHold (runs_of p values) (prop_ids (used_by (own m))) → each_said may_fail (own m) ≡ true
      → AllFalse (runs_of p values) m
  unfolding runs_of
  all_false m hold each = λ input n.
      false_from_ne_true (has_true m (runs_of p values input n)) (λ seen.
      let v = met_true (rows_of p) m (visits_of_run p values input n) seen in
      fails_told v.visit.holds (run_told may_fail m hold each input n v.visit v.is_visit v.number) v.truth)

  says_by : (m : ℕ) (hold fail : Bool) → AllHold (runs_of p values) (prop_ids (used_by (own m)))
      → each_said may_hold (own m) ≡ hold → each_said may_fail (own m) ≡ fail
      → Says (runs_of p values)
      (if hold then Status.True else (if fail then Status.FalseIfReachable else Status.DontKnow)) m
  says_by m true fail all a b = all_true m all a
  says_by m false true all a b = all_false m all b
  says_by m false false all a b = tt

  -- with too many hypotheses nothing is said
  right_by : (version m : ℕ) (status : LocalStatus) (used : List ℕ)
      → (AllHold (runs_of p values) (prop_ids used) → Says (runs_of p values) status m)
      → IsRight (runs_of p values) (entry_by version m status used)
  right_by version m Status.True used says =
      cond_both (nat_lt 256 (length used)) _ _ (λ (e : Entry). IsRight (runs_of p values) e) (λ _ hyps. tt) (λ _. says)
  right_by version m Status.FalseIfReachable used says =
      cond_both (nat_lt 256 (length used)) _ _ (λ (e : Entry). IsRight (runs_of p values) e) (λ _ hyps. tt) (λ _. says)
  right_by version m Status.FalseAndReachable used says =
      cond_both (nat_lt 256 (length used)) _ _ (λ (e : Entry). IsRight (runs_of p values) e) (λ _ hyps. tt) (λ _. says)
  right_by version m Status.DontKnow used says = λ hyps. tt

  entry_right : (version m : ℕ) → IsRight (runs_of p values) (entry_of version m (own m))
  entry_right version m =
      right_by version m (status_of (own m)) (used_by (own m))
      (λ all. says_by m (each_said may_hold (own m)) (each_said may_fail (own m)) all refl refl)

-- ---- all properties

module _ (p : Program) (values : List ℤ) (number : Named → ℕ) (records : List Record) (version : ℕ) (e : Entry) where
  -- an entry is one of some property
  abbrev IsEntry : Type 0
  IsEntry = (m : ℕ) × (entry_of version m (records_at number m records) ≡ e)

  one_said : (b : Bool) (m : ℕ) (more : List Entry) → (Has more e → IsEntry)
      → Has ((if b then [] else entry_of version m (records_at number m records) ∷ []) ++ more) e → IsEntry
  one_said true m more later h = later h
  one_said false m more later (inl same) = (m, same)
  one_said false m more later (inr h) = later h

  all_said : (m : ℕ) (rows : List Prop) → Has (entries_from p values number records version m rows) e → IsEntry
  all_said m [] h = absurd h
  all_said m (r ∷ rs) h =
      one_said (row_admitted (props_of p) (entry_function values) r) m
      (entries_from p values number records version (m + 1) rs) (all_said (m + 1) rs) h

pub entries_right : ((p : Program) → Keeps p → (values : List ℤ) → RunsAreCovered p values) → EntriesAreRight
unfolding eva_said
entries_right covers p keeps values version e has =
    let rows = rows_of p in
    let said = all_said p values (number_of rows) (records_of p rows values) version e 0 rows has in
    subst (λ (x : Entry). IsRight (runs_of p values) x) said.1
    (entry_right p values (covers p keeps values) version said.0)
