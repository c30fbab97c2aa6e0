-- Visits by the numbers of their properties, and properties of a table.
use Rattle.std.proofs.Common.{◌≡◌, ◌∙◌, ◌==◌, inl, inr, ℕ, Bool, true, false, not, ◌&&◌, ◌||◌, List, [], ◌∷◌, map, Option, Some, None, slice_get, refl, ap, sym, subst}
use Rattle.std.proofs.lemmas.Bool.{and_parts, eqb-true, eq-eqb, or_cases, true≢false}
use Rattle.std.specs.List.{list_any}
use Rattle.std.specs.Option.{option_map, option_and_then}
use Rattle.std.specs.Prelude.{position}
use Rattle.fc_base.specs.declared.ids.PropId.{PropId}
use Rattle.c_ir.specs.Kinds.{is_firm}
use Rattle.c_ir.specs.Programs.{Program}
use Rattle.c_ir.specs.Table.{some_row, claims_dead, dead_at, dead_of}
use Rattle.c_ir.specs.declared.kind.Kind.{Kind}
use Rattle.c_ir.specs.declared.kind.Kind.TheVariants as K
use Rattle.c_ir.specs.declared.prop.Prop.{Prop}
use Rattle.c_runs.specs.Parts.{Has}
use Rattle.c_runs.specs.Visits.{Visit}
use Rattle.prop_table.specs.Rows.{fns_rows, rows_of}
use Rattle.prop_table.proofs.Lists.{some_is, not_some}
use Rattle.prop_table.proofs.Places.{numbered_at}
use Rattle.prop_runs.specs.Numbers.{is_clause, number_of, numbered}
use Rattle.status_history.specs.Claims.{Visit as Numbered, has_visit, has_false, has_true}

-- ---- visits by number

or_left : (a b : Bool) → a ≡ true → (a || b) ≡ true
or_left true b is = refl
or_left false b is = absurd (true≢false (sym is))

or_right : (a b : Bool) → b ≡ true → (a || b) ≡ true
or_right true b is = refl
or_right false b is = is

-- a visit that passes is among them
pub any_in : (t : Numbered → Bool) (f : Visit → Numbered) (vs : List Visit) → list_any t (map f vs) ≡ true
    → (v : Visit) × Has vs v × (t (f v) ≡ true)
any_in t f [] is = absurd (true≢false (sym is))
any_in t f (v ∷ vs) is = elim (or_cases (t (f v)) (list_any t (map f vs)) is) [
  | inl here ↦ (v, inl refl, here)
  | inr there ↦ (let h = any_in t f vs there in (h.0, inr h.1, h.2))
]

in_any : (t : Numbered → Bool) (f : Visit → Numbered) (vs : List Visit) (v : Visit) → Has vs v
    → t (f v) ≡ true → list_any t (map f vs) ≡ true
in_any t f [] v h is = absurd h
in_any t f (u ∷ vs) v (inl same) is =
    or_left (t (f u)) (list_any t (map f vs)) (ap (λ (x : Visit). t (f x)) same ∙ is)
in_any t f (u ∷ vs) v (inr h) is = or_right (t (f u)) (list_any t (map f vs)) (in_any t f vs v h is)

-- one of these visits has this number
pub record Met (rows : List Prop) (m : ℕ) (vs : List Visit) (holds : Bool → Type 0) : Type 0 where
  pub visit : Visit
  pub is_visit : Has vs visit
  pub number : number_of rows visit.named ≡ m
  pub truth : holds visit.holds

abbrev pub Any : Bool → Type 0
Any b = Unit {0}

pub met : (rows : List Prop) (m : ℕ) (vs : List Visit) → has_visit m (map (numbered rows) vs) ≡ true
    → Met rows m vs Any
met rows m vs is =
    let h = any_in (λ v. v.prop == m) (numbered rows) vs is in
    record { visit = h.0; is_visit = h.1; number = eqb-true (number_of rows h.0.named) m h.2; truth = tt }

pub met_true : (rows : List Prop) (m : ℕ) (vs : List Visit) → has_true m (map (numbered rows) vs) ≡ true
    → Met rows m vs (λ b. b ≡ true)
met_true rows m vs is =
    let h = any_in (λ v. (v.prop == m) && v.holds) (numbered rows) vs is in
    let parts = and_parts (number_of rows h.0.named == m) h.0.holds h.2 in
    record {
      visit = h.0;
      is_visit = h.1;
      number = eqb-true (number_of rows h.0.named) m parts.0;
      truth = parts.1;
    }

pub met_false : (rows : List Prop) (m : ℕ) (vs : List Visit) → has_false m (map (numbered rows) vs) ≡ true
    → Met rows m vs (λ b. not b ≡ true)
met_false rows m vs is =
    let h = any_in (λ v. (v.prop == m) && not v.holds) (numbered rows) vs is in
    let parts = and_parts (number_of rows h.0.named == m) (not h.0.holds) h.2 in
    record {
      visit = h.0;
      is_visit = h.1;
      number = eqb-true (number_of rows h.0.named) m parts.0;
      truth = parts.1;
    }

pub meets : (rows : List Prop) (m : ℕ) (vs : List Visit) (v : Visit) → Has vs v → number_of rows v.named ≡ m
    → has_visit m (map (numbered rows) vs) ≡ true
meets rows m vs v h is =
    in_any (λ v. v.prop == m) (numbered rows) vs v h (eq-eqb (number_of rows v.named) m is)

-- ---- rows of the table

pub row_if : (test : Prop → Bool) (o : Option Prop) → some_row test o ≡ true
    → (row : Prop) × (o ≡ Some row) × (test row ≡ true)
row_if test None is = absurd (true≢false (sym is))
row_if test (Some row) is = (row, refl, is)

number_is : (o : Option ℕ) (d : PropId) → option_map (λ n. let q : PropId = record { 0 = n } in q) o ≡ Some d
    → o ≡ Some d.0
number_is None d is = absurd (not_some d is)
number_is (Some n) d is = ap (λ (q : PropId). Some q.0) (some_is _ d is)

-- the property of kind Dead at the point of a property
pub dead_position : (rows : List Prop) (m : ℕ) (row : Prop) (d : PropId) → slice_get rows m ≡ Some row
    → dead_of rows m ≡ Some d → position (claims_dead row.point.0) rows ≡ Some d.0
dead_position rows m row d is dead =
    number_is (position (claims_dead row.point.0) rows) d
    (subst (λ (o : Option Prop). option_and_then (λ p. dead_at rows p.point.0) o ≡ Some d) is dead)

pub firm_clause : (k : Kind) → is_firm k ≡ true → is_clause k ≡ true
firm_clause K.Requires is = refl
firm_clause K.CallRequires is = absurd (true≢false (sym is))
firm_clause K.Ensures is = refl
firm_clause K.Assert is = refl
firm_clause K.Check is = refl
firm_clause K.Admit is = refl
firm_clause K.LoopInvariant is = refl
firm_clause (K.Alarm a) is = absurd (true≢false (sym is))
firm_clause K.Dead is = absurd (true≢false (sym is))

pub row_firm : (p : Program) (m : ℕ) (row : Prop) → slice_get (rows_of p) m ≡ Some row
    → row.firm ≡ is_firm row.kind
unfolding rows_of
row_firm p m row is =
    let h = numbered_at 0 (fns_rows p 0 p.fns) m row is in
    sym (ap (λ (r : Prop). r.firm) h.is) ∙ ap (λ (r : Prop). is_firm r.kind) h.is
