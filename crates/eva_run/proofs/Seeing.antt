-- What an evaluation gives is what the expression is in a state: its value, the state after it, its records.
use Rattle.std.proofs.Common.{◌≡◌, ◌∙◌, ◌<◌, ◌≤◌, ◌+◌, ◌-ℤ◌, ℕ, ℤ, pos, Bool, true, false, List, [], ◌∷◌, ◌++◌, append_assoc, drop, get_or, length, map, Option, refl, sym, ap}
use Rattle.std.specs.Prelude.{not, if◌then◌else◌}
use Rattle.std.proofs.lemmas.List.{append-nil, at_drop_all, at_drop_more}
use Rattle.fc_base.specs.declared.ids.SiteId.{SiteId}
use Rattle.int_interval.specs.Rows.{is_empty}
use Rattle.int_value.specs.Checks.{within_said}
use Rattle.int_value.specs.declared.value.Value.{Value}
use Rattle.c_ir.specs.declared.kind.AlarmKind.TheVariants as A
use Rattle.c_ir.specs.declared.tree.Expr.{Expr}
use Rattle.c_runs.specs.Visits.{Named}
use Rattle.abs_cells.specs.Cells.{index_met}
use Rattle.abs_state.specs.declared.state.State.{State}
use Rattle.eva_expr.specs.Conditions.{checks_overflow, narrowed_by_expr, value_seen}
use Rattle.eva_values.specs.Marks.{mark_at}
use Rattle.eva_values.specs.Values.{Abstract, abstracted}
use Rattle.eva_values.specs.declared.seen.Seen.{Seen}
use Rattle.eva_values.specs.declared.seen.SiteMark.{SiteMark}
use Rattle.eva_rules.specs.Meant.{Target, element_target, met_index}
use Rattle.eva_rules.specs.Passing.{Record, env_by, has_number, mark_record, mark_records, reached_if}
use Rattle.eva_rules.specs.Writing.{Writes, write_element}
use Rattle.eva_run.specs.Code.{Arguments, after_one, arguments, tallied}
use Rattle.eva_run.specs.declared.tallies.Tally.{Tally}
use Rattle.eva_run.proofs.Tallying.{noted_none, noted_two, then_noted}

-- ---- one expression

pub narrowed_is : (values : List ℤ) (taken : Bool) (e : Expr) (s now : State)
    → now ≡ narrowed_by_expr values taken e s
    → now ≡ env_by ((abstracted (checks_overflow values) e).narrowed taken) s
unfolding narrowed_by_expr
narrowed_is values taken e s now h = h

has_if : (b : Bool) → not b ≡ (if b then false else true)
has_if true = refl
has_if false = refl

module _ (values : List ℤ) (e : Expr) (s : State) where
  abbrev a : Abstract
  a = abstracted (checks_overflow values) e

  pub value_is : (seen : Seen) → seen ≡ value_seen values e s → seen.value ≡ (a.side s.env).value
  unfolding value_seen
  value_is seen h = ap (λ (x : Seen). x.value) h

  pub marks_are : (marks : List SiteMark) → marks ≡ (value_seen values e s).marks → marks ≡ a.marks s.env
  unfolding value_seen
  marks_are marks h = h

  -- the state is reached where this value has a number
  pub reached_is : (v : Value) (empty : Bool) (after : State) → v ≡ (a.side s.env).value
      → empty ≡ is_empty v.range
      → after ≡ reached_if (not empty) s → after ≡ reached_if (has_number (a.side s.env).value) s
  reached_is v empty after is tested h =
      h ∙ ap (λ (b : Bool). reached_if (not b) s) tested
      ∙ ap (λ (b : Bool). reached_if b s) (has_if (is_empty v.range))
      ∙ ap (λ (x : Value). reached_if (has_number x) s) is

  pub evaluated_is : (f : Named → ℕ) (noting : Bool) (seen : Seen) (marks : List SiteMark) (empty : Bool)
      (after : State)
      (old new : List Tally) → seen ≡ value_seen values e s → marks ≡ seen.marks
      → empty ≡ is_empty seen.value.range
      → after ≡ reached_if (not empty) s → new ≡ tallied f noting old (mark_records s.used marks)
      → (seen.value ≡ (a.side s.env).value) × (after ≡ reached_if (has_number (a.side s.env).value) s)
      × (new ≡ tallied f noting old (mark_records s.used (a.marks s.env)))
  evaluated_is f noting seen marks empty after old new is same tested reached noted = (
    value_is seen is,
    reached_is seen.value empty after (value_is seen is) tested reached,
    noted ∙ ap (λ (ms : List SiteMark). tallied f noting old (mark_records s.used ms))
        (marks_are marks (same ∙ ap (λ (x : Seen). x.marks) is)),
  )

-- ---- an element that is aimed at

append_marks : (used : List ℕ) (ms ns : List SiteMark)
    → mark_records used ms ++ mark_records used ns ≡ mark_records used (ms ++ ns)
append_marks used [] ns = refl
append_marks used (m ∷ ms) ns = ap (λ (rs : List Record). mark_record used m ∷ rs) (append_marks used ms ns)

abbrev pub Aims : (Named → ℕ) → Bool → List Tally → List Tally → Writes → State → Target → State → Type 0
Aims f noting old new w after t s =
    (w ≡ t.writes s.env) × (after ≡ reached_if (t.is_there s.env) s)
    × (new ≡ tallied f noting old (mark_records s.used (t.marks s.env)))

pub element_is : (values : List ℤ) (e : Expr) (s : State) (f : Named → ℕ) (noting : Bool)
    (site : Option SiteId)
    (first n : ℕ) (seen : Seen) (marks : List SiteMark) (met : Value) (empty : Bool) (after : State)
    (old now new : List Tally) → seen ≡ value_seen values e s → marks ≡ seen.marks
    → now ≡ tallied f noting old (mark_records s.used marks)
    → new ≡ tallied f noting now
    (mark_records s.used (mark_at site A.IndexBound (within_said (pos 0) (pos n -ℤ pos 1) seen.value.range)))
    → met ≡ index_met n seen.value → empty ≡ is_empty met.range → after ≡ reached_if (not empty) s
    → Aims f noting old new (write_element first n (index_met n seen.value)) after
    (element_target site first n (abstracted (checks_overflow values) e)) s
element_is values e s f noting site first n seen marks met empty after old now new is same one two at
    tested reached =
    let a = abstracted (checks_overflow values) e in
    let v = value_is values e s seen is in
    let said = mark_at site A.IndexBound (within_said (pos 0) (pos n -ℤ pos 1) (a.side s.env).value.range) in
    let ms = marks_are values e s marks (same ∙ ap (λ (x : Seen). x.marks) is) in (
      ap (λ (x : Value). write_element first n (index_met n x)) v,
      reached ∙ ap (λ (b : Bool). reached_if (not b) s) tested
          ∙ ap (λ (b : Bool). reached_if b s) (has_if (is_empty met.range))
          ∙ ap (λ (x : Value). reached_if (has_number x) s) (at ∙ ap (index_met n) v),
      then_noted f noting old now new (mark_records s.used (a.marks s.env)) (mark_records s.used said)
          (one ∙ ap (λ (xs : List SiteMark). tallied f noting old (mark_records s.used xs)) ms)
          (two ∙ ap (λ (x : Value). tallied f noting now
          (mark_records s.used (mark_at site A.IndexBound (within_said (pos 0) (pos n -ℤ pos 1) x.range))))
          v)
          ∙ ap (λ (rs : List Record). tallied f noting old rs) (append_marks s.used (a.marks s.env) said),
    )

-- ---- arguments

-- what is left gives the whole
abbrev pub ArgsGo : (Named → ℕ) → Bool → List Tally → Arguments → List Value → List Tally → Arguments
    → Type 0
ArgsGo f noting first whole values now rest =
    (values ++ rest.values ≡ whole.values) × (rest.state ≡ whole.state)
    × (tallied f noting now rest.records ≡ tallied f noting first whole.records)

args_on : (f : Named → ℕ) (noting : Bool) (first old new : List Tally) (whole before rest : Arguments)
    (values more : List Value) (v : Value) (rs : List Record) → before ≡ after_one rs v rest
    → more ≡ values ++ v ∷ []
    → new ≡ tallied f noting old rs → ArgsGo f noting first whole values old before
    → ArgsGo f noting first whole more new rest
args_on f noting first old new whole before rest values more v rs is pushed noted h = (
  ap (λ (vs : List Value). vs ++ rest.values) pushed ∙ append_assoc values (v ∷ []) rest.values
      ∙ sym (ap (λ (x : Arguments). values ++ x.values) is) ∙ h.0,
  sym (ap (λ (x : Arguments). x.state) is) ∙ h.1,
  ap (λ (ts : List Tally). tallied f noting ts rest.records) noted ∙ noted_two f noting old rs rest.records
      ∙ sym (ap (λ (x : Arguments). tallied f noting old x.records) is) ∙ h.2,
)

pub args_step : (g : List ℤ) (f : Named → ℕ) (noting : Bool) (es : List Expr) (k : ℕ) (e : Expr)
    (s t : State) (v : Value)
    (values more : List Value) (first old new : List Tally) (whole : Arguments) → k < length es
    → e ≡ get_or es k e
    → (v ≡ ((abstracted (checks_overflow g) e).side s.env).value)
    × (t ≡ reached_if (has_number ((abstracted (checks_overflow g) e).side s.env).value) s)
    × (new ≡ tallied f noting old (mark_records s.used ((abstracted (checks_overflow g) e).marks s.env)))
    → more ≡ values ++ v ∷ []
    → ArgsGo f noting first whole values old (arguments (map (abstracted (checks_overflow g)) (drop k es)) s)
    → ArgsGo f noting first whole more new (arguments
    (map (abstracted (checks_overflow g)) (drop (k + 1) es)) t)
args_step g f noting es k e s t v values more first old new whole below is one pushed h =
    let a = abstracted (checks_overflow g) e in
    args_on f noting first old new whole (arguments (map (abstracted (checks_overflow g)) (drop k es)) s)
    (arguments (map (abstracted (checks_overflow g)) (drop (k + 1) es)) t) values more v
    (mark_records s.used (a.marks s.env))
    (at_drop_more (λ (xs : List Expr). arguments (map (abstracted (checks_overflow g)) xs) s) es k e below
    ∙ ap (λ (x : Expr). arguments (map (abstracted (checks_overflow g)) (x ∷ drop (k + 1) es)) s) (sym is)
    ∙ (λ i. after_one (mark_records s.used (a.marks s.env)) (sym one.0 i)
    (arguments (map (abstracted (checks_overflow g)) (drop (k + 1) es)) (sym one.1 i))))
    pushed one.2 h

pub args_end : (g : List ℤ) (f : Named → ℕ) (noting : Bool) (es : List Expr) (k : ℕ) (s : State)
    (values : List Value)
    (first now : List Tally) (whole : Arguments) → length es ≤ k
    → ArgsGo f noting first whole values now (arguments (map (abstracted (checks_overflow g)) (drop k es)) s)
    → (values ≡ whole.values) × (s ≡ whole.state) × (now ≡ tallied f noting first whole.records)
args_end g f noting es k s values first now whole past h =
    let is = at_drop_all (λ (xs : List Expr). arguments (map (abstracted (checks_overflow g)) xs) s) es k
    past in (
      sym (append-nil values) ∙ sym (ap (λ (x : Arguments). values ++ x.values) is) ∙ h.0,
      sym (ap (λ (x : Arguments). x.state) is) ∙ h.1,
      sym (noted_none f noting now) ∙ sym (ap (λ (x : Arguments). tallied f noting now x.records) is) ∙ h.2,
    )
