-- Verdicts are true of runs.
use Rattle.std.proofs.Common.{◌≡◌, ℕ, zero, suc, ◌+◌, ℤ, Bool, true, false, cond, List, [], ◌∷◌, get_or, Option, Some, None, refl, sym, ap, subst, ◌∙◌, inl, inr, eqb, arith}
use Rattle.std.specs.Prelude.{◌&&◌, ◌||◌, not, filter, position, slice_get, slice_index_or}
use Rattle.std.specs.List.{list_any, list_all}
use Rattle.std.specs.Option.{option_map}
use Rattle.std.proofs.lemmas.Bool.{cases_Bool, both_ways, and_parts, or_cases, eqb-true, false≢true}
use Rattle.std.proofs.lemmas.List.Quantifiers.{position-Some}
use Rattle.std.proofs.lemmas.Option.{none-some, same_Some, option_and_then_some, slice_get-get_or}
use denote.Enum.Bare.{same_true}
use Rattle.fc_base.specs.declared.ids.PropId.{PropId}
use Rattle.fc_base.specs.declared.status.LocalStatus.{LocalStatus}
use Rattle.fc_base.specs.declared.status.LocalStatus.TheVariants.{FalseIfReachable, FalseAndReachable}
use Rattle.fc_base.specs.declared.status.LocalStatus.TheVariants as Status
use Rattle.fc_base.specs.contracts.status.LocalStatus.{the_type}
use Rattle.fc_base.specs.declared.verdict.Verdict.{Verdict}
use Rattle.param_book.specs.Table.{under, run_values}
use Rattle.c_ir.specs.Props.{Props}
use Rattle.c_ir.specs.Table.{claims_dead, dead_at, dead_of, is_dead_row, is_firm_row, is_live, is_row, some_row}
use Rattle.c_ir.specs.Kinds.{is_dead}
use Rattle.c_ir.specs.declared.prop.Prop.{Prop}
use Rattle.status_history.specs.Claims.{Visits, has_visit, has_false, has_true, AllRuns, AllFalse, SomeRun, NoVisit, AllHold, Says, IsRight}
use Rattle.status_history.specs.Values.{values_now}
use Rattle.status_history.specs.declared.history.History.{History}
use Rattle.status_rules.specs.declared.inputs.VerdictInputs.{VerdictInputs}
use Rattle.status_rules.specs.Counting.{PlacedEntry, counted_of}
use Rattle.status_rules.specs.Holds.{Basis, basis_of, at_each, dead_passes, entries_on, extends, is_admitted, is_claimed, is_held, is_on, is_supported, is_sure, nothing, same_status, some_prop, supports}
use Rattle.status_rules.specs.Verdicts.{full_of, inputs_of, is_refuted, is_unvisited, open_verdict, verdict_by, verdict_of}
use Rattle.status_rules.specs.Truth.{Runs, IsTrueOf, VerdictsAreTrue}
use Rattle.status_rules.proofs.Each.{list_at_each}
use Rattle.status_rules.proofs.Right.{AllRightNow, counted_right_now}
use Rattle.status_rules.proofs.VisitsOf.{no_visit, no_false, is_visited, false_visit}

-- hypotheses that pass a test that only what no run breaks passes
all_hold : (u : Visits) (known : ℕ → Bool) (right : (q : ℕ) → known q ≡ true → AllRuns u q) (qs : List PropId) → list_all (λ (q : PropId). known q.0) qs ≡ true → AllHold u qs
all_hold u known right [] h = tt
all_hold u known right (q ∷ qs) h =
    let parts = and_parts (known q.0) (list_all (λ (r : PropId). known r.0) qs) h in
    (right q.0 parts.0, all_hold u known right qs parts.1)

one_says : (u : Visits) (s : LocalStatus) (known : ℕ → Bool) (right : (q : ℕ) → known q ≡ true → AllRuns u q) (p : ℕ) (e : PlacedEntry) → IsRight u e.entry → is_on p e ≡ true → supports s known e ≡ true → Says u s p
one_says u s known right p e now on h =
    let parts = and_parts (same_status e.entry.status s) (list_all (λ (q : PropId). known q.0) e.entry.hyps) h in
    let told = now (all_hold u known right e.entry.hyps parts.1) in
    let at_status = subst (λ (r : LocalStatus). Says u r e.entry.prop.0) (same_true the_type tt e.entry.status s parts.0) told in
    subst (λ (q : ℕ). Says u s q) (eqb-true e.entry.prop.0 p on) at_status

some_says_next : (u : Visits) (s : LocalStatus) (known : ℕ → Bool) (right : (q : ℕ) → known q ≡ true → AllRuns u q) (p : ℕ) (e : PlacedEntry) (es : List PlacedEntry) (b : Bool) → is_on p e ≡ b → IsRight u e.entry → (list_any (supports s known) es ≡ true → Says u s p) → list_any (supports s known) (cond b (e ∷ es) es) ≡ true → Says u s p
some_says_next u s known right p e es true on now later h =
    elim (or_cases (supports s known e) (list_any (supports s known) es) h) [ inl first ↦ one_says u s known right p e now on first | inr rest ↦ later rest ]
some_says_next u s known right p e es false on now later h = later h

-- what follows from a supported entry among right ones
some_says : (u : Visits) (s : LocalStatus) (known : ℕ → Bool) (right : (q : ℕ) → known q ≡ true → AllRuns u q) (p : ℕ) (es : List PlacedEntry) → AllRightNow u es → list_any (supports s known) (filter (is_on p) es) ≡ true → Says u s p
some_says u s known right p [] now h = absurd (false≢true h)
some_says u s known right p (e ∷ es) now h =
    some_says_next u s known right p e (filter (is_on p) es) (is_on p e) refl now.0 (some_says u s known right p es now.1) h

-- runs under given values that keep the laws, and entries from which follows what they say
record Sound (b : Basis) (u : Visits) : Type 0 where
  dead_visited : (input : List ℤ) (n p : ℕ) (d : PropId) → is_live b.table p ≡ true → dead_of b.table.rows p ≡ Some d → has_visit p (u input n) ≡ true → has_visit d.0 (u input n) ≡ true
  dead_false : (input : List ℤ) (n p : ℕ) (d : PropId) → dead_of b.table.rows p ≡ Some d → has_true d.0 (u input n) ≡ false
  firm_visited : (input : List ℤ) (n p : ℕ) (d : PropId) → is_firm_row b.table p ≡ true → dead_of b.table.rows p ≡ Some d → has_visit d.0 (u input n) ≡ true → has_visit p (u input n) ≡ true
  admitted_true : (p : ℕ) → is_admitted b p ≡ true → AllRuns u p
  claim_says : (s : LocalStatus) (known : ℕ → Bool) → ((q : ℕ) → known q ≡ true → AllRuns u q) → (p : ℕ) → is_claimed s known b p ≡ true → Says u s p

-- a property isn't visited, where no run breaks the one of kind Dead at its point
after_dead : (b : Basis) (u : Visits) → Sound b u → (p : ℕ) (d : PropId) → is_live b.table p ≡ true → dead_of b.table.rows p ≡ Some d → AllRuns u d.0 → NoVisit u p
after_dead b u sound p d live is right = λ input n.
    let run = u input n in
    let dead = no_visit d.0 run (right input n) (sound.dead_false input n p d is) in
    elim (cases_Bool (has_visit p run)) [
      | inl met ↦ absurd (both_ways (has_visit d.0 run) dead (sound.dead_visited input n p d live is met))
      | inr unmet ↦ unmet
    ]

some_after : (b : Basis) (u : Visits) → Sound b u → (test : ℕ → Bool) → ((q : ℕ) → test q ≡ true → AllRuns u q) → (p : ℕ) (o : Option PropId) → is_live b.table p ≡ true → dead_of b.table.rows p ≡ o → some_prop test o ≡ true → NoVisit u p
some_after b u sound test right p None live is h = absurd (false≢true h)
some_after b u sound test right p (Some d) live is h = after_dead b u sound p d live is (right d.0 h)

unbroken : (u : Visits) (p : ℕ) → NoVisit u p → AllRuns u p
unbroken u p none = λ input n. no_false p (u input n) (none input n)

extends_right : (b : Basis) (u : Visits) → Sound b u → (known claimed : ℕ → Bool) → ((q : ℕ) → known q ≡ true → AllRuns u q) → ((q : ℕ) → claimed q ≡ true → AllRuns u q) → (p : ℕ) → extends b.table known claimed p ≡ true → AllRuns u p
extends_right b u sound known claimed right also p h =
    let t = b.table in
    let inside = (and_parts (is_row t p) (known p || (claimed p || dead_passes t claimed p)) h).1 in
    elim (or_cases (known p) (claimed p || dead_passes t claimed p) inside) [
      | inl first ↦ right p first
      | inr rest ↦ elim (or_cases (claimed p) (dead_passes t claimed p) rest) [
        | inl second ↦ also p second
        | inr third ↦
            let parts = and_parts (is_live t p) (some_prop claimed (dead_of t.rows p)) third in
            unbroken u p (some_after b u sound claimed also p (dead_of t.rows p) parts.0 refl parts.1)
      ]
    ]

sure_right : (b : Basis) (u : Visits) → Sound b u → (p : ℕ) → is_sure b p ≡ true → AllRuns u p
sure_right b u sound p h =
    extends_right b u sound (is_admitted b) (is_claimed Status.True nothing b) sound.admitted_true (λ q. sound.claim_says Status.True nothing (λ r c. absurd (false≢true c)) q) p h

supported_says : (b : Basis) (u : Visits) → Sound b u → (s : LocalStatus) (p : ℕ) → is_supported s b p ≡ true → Says u s p
supported_says b u sound s p h = sound.claim_says s (is_sure b) (sure_right b u sound) p h

held_right : (b : Basis) (u : Visits) → Sound b u → (p : ℕ) → is_held b p ≡ true → AllRuns u p
held_right b u sound p h =
    extends_right b u sound (is_sure b) (is_supported Status.True b) (sure_right b u sound) (λ q. supported_says b u sound Status.True q) p h

firm_broken : (b : Basis) (u : Visits) → Sound b u → (p : ℕ) (o : Option PropId) → is_firm_row b.table p ≡ true → AllFalse u p → dead_of b.table.rows p ≡ o → some_prop (is_supported FalseAndReachable b) o ≡ true → SomeRun u p
firm_broken b u sound p None firm broken is h = absurd (false≢true h)
firm_broken b u sound p (Some d) firm broken is h =
    let found = supported_says b u sound FalseAndReachable d.0 h in
    let run = u found.0 found.1 in
    let met = sound.firm_visited found.0 found.1 p d firm is (is_visited d.0 run found.2) in
    (found.0, found.1, false_visit p run met (broken found.0 found.1))

refuted_broken : (b : Basis) (u : Visits) → Sound b u → (p : ℕ) → is_refuted b.table (is_supported FalseIfReachable b) (is_supported FalseAndReachable b) p ≡ true → SomeRun u p
refuted_broken b u sound p h =
    let t = b.table in
    let disproven = is_supported FalseIfReachable b in
    let refuting = is_supported FalseAndReachable b in
    elim (or_cases (refuting p) (is_firm_row t p && disproven p && some_prop refuting (dead_of t.rows p)) h) [
      | inl first ↦ supported_says b u sound FalseAndReachable p first
      | inr rest ↦
          let parts = and_parts (is_firm_row t p && disproven p) (some_prop refuting (dead_of t.rows p)) rest in
          let both = and_parts (is_firm_row t p) (disproven p) parts.0 in
          firm_broken b u sound p (dead_of t.rows p) both.0 (supported_says b u sound FalseIfReachable p both.1) refl parts.1
    ]

unvisited_unmet : (b : Basis) (u : Visits) → Sound b u → (p : ℕ) → is_unvisited b.table (is_held b) (is_supported Status.True b) (is_supported FalseIfReachable b) p ≡ true → NoVisit u p
unvisited_unmet b u sound p h =
    let t = b.table in
    let proven = is_supported Status.True b in
    let disproven = is_supported FalseIfReachable b in
    let parts = and_parts (is_live t p) (some_prop (is_held b) (dead_of t.rows p) || (proven p && disproven p)) h in
    elim (or_cases (some_prop (is_held b) (dead_of t.rows p)) (proven p && disproven p) parts.1) [
      | inl first ↦ some_after b u sound (is_held b) (held_right b u sound) p (dead_of t.rows p) parts.0 refl first
      | inr rest ↦
          let both = and_parts (proven p) (disproven p) rest in
          let whole = supported_says b u sound Status.True p both.0 in
          let broken = supported_says b u sound FalseIfReachable p both.1 in
          λ input n. no_visit p (u input n) (whole input n) (broken input n)
    ]

-- by cases on a test
choice : (u : Visits) (p : ℕ) (b : Bool) (x y : Verdict) → (b ≡ true → IsTrueOf u x p) → IsTrueOf u y p → IsTrueOf u (cond b x y) p
choice u p true x y first rest = first refl
choice u p false x y first rest = rest

open_true : (u : Visits) (p : ℕ) (m : VerdictInputs) → IsTrueOf u (open_verdict m) p
open_true u p m =
    choice u p (not m.tried) _ _ (λ e. tt)
    (choice u p (m.said_true && not m.said_false) _ _ (λ e. tt)
    (choice u p (m.said_false && not m.said_true) _ _ (λ e. tt) tt))

clash : (u : Visits) (p : ℕ) → SomeRun u p → AllRuns u p → ⊥
clash u p some none = both_ways (has_false p (u some.0 some.1)) (none some.0 some.1) some.2

inputs_true : (u : Visits) (p : ℕ) (m : VerdictInputs) → (m.admitted ≡ true → AllRuns u p) → (m.held ≡ true → AllRuns u p) → (m.refuted ≡ true → SomeRun u p) → (m.unvisited ≡ true → NoVisit u p) → (m.proven ≡ true → AllRuns u p) → IsTrueOf u (verdict_by m) p
inputs_true u p m admitted held refuted unvisited proven =
    choice u p (m.refuted && m.held) _ _ (λ e. let both = and_parts m.refuted m.held e in clash u p (refuted both.0) (held both.1))
    (choice u p m.admitted _ _ admitted
    (choice u p m.refuted _ _ refuted
    (choice u p (m.unvisited && m.proven) _ _ (λ e. let both = and_parts m.unvisited m.proven e in (proven both.1, unvisited both.0))
    (choice u p (m.unvisited && m.disproven) _ _ (λ e. unvisited (and_parts m.unvisited m.disproven e).0)
    (choice u p m.unvisited _ _ unvisited
    (choice u p m.proven _ _ proven (open_true u p m)))))))

verdict_true : (b : Basis) (u : Visits) → Sound b u → (p : ℕ) → IsTrueOf u (verdict_of b p) p
verdict_true b u sound p =
    inputs_true u p (inputs_of b p) (sound.admitted_true p) (held_right b u sound p) (refuted_broken b u sound p) (unvisited_unmet b u sound p) (supported_says b u sound Status.True p)

-- the row of a number
at_row : {A B : Type 0} (f : ℕ → B) (n : ℕ) (xs : List A) (p : ℕ) (v : B) → slice_get (at_each f n xs) p ≡ Some v → f (n + p) ≡ v
at_row f n [] p v h = absurd (none-some v h)
at_row f n (x ∷ xs) zero v h = let e : n + 0 ≡ n = omega arith in ap f e ∙ same_Some (f n) v h
at_row f n (x ∷ xs) (suc p) v h = let e : n + suc p ≡ n + 1 + p = omega arith in ap f e ∙ at_row f (n + 1) xs p v h

some_number : (o : Option ℕ) (d : PropId) → option_map (λ (n : ℕ). let q : PropId = record { 0 = n } in q) o ≡ Some d → o ≡ Some d.0
some_number None d h = absurd (none-some d h)
some_number (Some n) d h = ap (λ (q : PropId). Some q.0) (same_Some _ d h)

-- what dead_of gives is of kind Dead
pub dead_is_dead : (t : Props) (p : ℕ) (d : PropId) → dead_of t.rows p ≡ Some d → is_dead_row t d.0 ≡ true
dead_is_dead t p d h =
    option_and_then_some (λ (row : Prop). dead_at t.rows row.point.0) (slice_get t.rows p) d h
    (λ row is found.
    let at = position-Some (claims_dead row.point.0) t.rows d.0 row (some_number (position (claims_dead row.point.0) t.rows) d found) in
    let that = get_or t.rows d.0 row in
    ap (some_row (λ (r : Prop). is_dead r.kind)) (slice_get-get_or t.rows d.0 row at.0)
    ∙ (and_parts (is_dead that.kind) (eqb that.point.0 row.point.0) at.1).0)

-- the entries on a property, of right ones
entries_on_says : (t : Props) (h : History) (u : Visits) → AllRightNow u (counted_of h) → (s : LocalStatus) (known : ℕ → Bool) → ((q : ℕ) → known q ≡ true → AllRuns u q) → (p : ℕ) → is_claimed s known (basis_of h t) p ≡ true → Says u s p
entries_on_says t h u right s known holds p claimed =
    let zero_more : 0 + p ≡ p = omega arith in
    let test = λ (es : List PlacedEntry). list_any (supports s known) es in
    elim (list_at_each (λ q. filter (is_on q) (counted_of h)) 0 t.rows p) [
      | inl here ↦ some_says u s known holds p (counted_of h) right (ap (λ q. test (filter (is_on q) (counted_of h))) (sym zero_more) ∙ (sym (ap test here) ∙ claimed))
      | inr none ↦ absurd (false≢true (sym (ap test none) ∙ claimed))
    ]

pub verdicts_true : VerdictsAreTrue
unfolding full_of
verdicts_true t runs h laws right p v is =
    let values = run_values (values_now h) in
    let u = under runs (values_now h) in
    let sound : Sound (basis_of h t) u = record {
      dead_visited = λ input n. (laws values input n).dead_visited;
      dead_false = λ input n q d e. (laws values input n).dead_false d.0 (dead_is_dead t q d e);
      firm_visited = λ input n. (laws values input n).firm_visited;
      admitted_true = λ q e input n. (laws values input n).admitted_true q e;
      claim_says = entries_on_says t h u (counted_right_now runs h right);
    } in
    let zero_more : 0 + p ≡ p = omega arith in
    let row = ap (verdict_of (basis_of h t)) (sym zero_more) ∙ at_row (verdict_of (basis_of h t)) 0 t.rows p v is in
    subst (λ (w : Verdict). IsTrueOf u w p) row (verdict_true (basis_of h t) u sound p)
