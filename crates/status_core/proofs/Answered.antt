-- What changes are answered, and the values that they leave.
use Rattle.std.proofs.Common.{◌≡◌, ◌⊎◌, ℕ, ℤ, zero, suc, ◌+◌, ◌<◌, ◌≤◌, Bool, true, false, List, [], ◌∷◌, ◌++◌, length, take, get_or, set, refl, sym, ap, subst, ◌∙◌, inl, inr, pos, arith}
use Rattle.std.specs.Prelude.{not, nat_le, nat_lt, position, Option, Some, None, slice_get, option_map}
use Rattle.std.specs.List.{list_all}
use Rattle.std.proofs.Math.Seq.{take-length}
use Rattle.std.proofs.lemmas.Bool.{and_from, and_parts, false≢true, le-ltb, leb-false, lt-leb}
use Rattle.std.proofs.lemmas.List.{append-nil}
use Rattle.std.proofs.lemmas.List.Quantifiers.{position-Some}
use Rattle.fc_base.specs.Params.{value_at}
use Rattle.fc_base.specs.declared.ids.PropId.{PropId}
use Rattle.fc_base.specs.declared.params.ParamSet.{ParamSet}
use Rattle.fc_base.specs.declared.params.ParamValues.{ParamValues}
use Rattle.fc_base.specs.declared.verdict.Verdict.{Verdict}
use Rattle.param_book.specs.Emitters.{own_count}
use Rattle.param_book.specs.Table.{fits_param, numbers, under}
use Rattle.c_ir.specs.Keeps.{Keeps}
use Rattle.c_ir.specs.Programs.{Program}
use Rattle.c_ir.specs.Props.{Props}
use Rattle.c_ir.specs.Table.{is_row}
use Rattle.event_board.specs.Asked.{IsOwn, all_fit}
use Rattle.event_board.specs.Standings.{standing_of}
use Rattle.event_board.specs.declared.page.PlacedVerdict.{PlacedVerdict}
use Rattle.event_board.specs.declared.standing.Standing.{Standing}
use Rattle.event_board.specs.inner.Table.{emitter_rows, entry_rows_by, full_by, future_by, the_placed, unknown_by}
use Rattle.event_board.proofs.Standings.{by_standing, own_standing}
use Rattle.prop_runs.specs.Laws.{RunsKeepLaws}
use Rattle.prop_runs.specs.Numbers.{props_of, runs_of}
use Rattle.status_history.specs.Values.{all_values, changed_at, changed_by, extended, params_set, sets_registered, values_now, version_of}
use Rattle.status_history.specs.declared.history.Change.{Change}
use Rattle.status_history.specs.declared.history.Change.TheVariants.{Register, Param, Emit}
use Rattle.status_history.specs.declared.history.Entry.{Entry}
use Rattle.status_history.specs.declared.history.History.{History}
use Rattle.status_rules.specs.Counting.{counted_of, entries_of}
use Rattle.status_rules.specs.Holds.{at_each, basis_of}
use Rattle.status_rules.specs.Judge.{emitters_of, first_of, if_so, is_taken, judge, judge_own, refused_or, reserved_emitter, too_many_hyps, unknown_hyp, unknown_property, value_out_of_range}
use Rattle.status_rules.specs.Truth.{BothSortsAreAll, ExternalRight, IsTrueOf, KeepsLaws, Runs, VerdictsAreTrue}
use Rattle.status_rules.specs.Verdicts.{full_of, verdict_of}
use Rattle.status_rules.specs.declared.refusals.Refusal.{Refusal}
use Rattle.status_rules.specs.declared.refusals.Refusal.TheVariants.{UnknownEmitter, UnknownProperty, UnknownHyp, TooManyHyps, FutureVersion}
use Rattle.status_rows.proofs.Histories.{params_more}
use Rattle.status_core.specs.inner.Own.{OwnStay}
use Rattle.status_core.specs.inner.Rows.{row_of}
use Rattle.status_core.proofs.Owned.{own_right}
use Rattle.status_core.proofs.Written.{row_is}

-- Answers.

few_own : (h : History) → own_count ≤ emitters_of h
few_own h = omega arith

pub emitter_judged : (t : Props) (h : History) (name : List ℕ) (set : ParamSet) (s : Standing) (o : Option Refusal) → o ≡ first_of (emitter_rows s set) → s ≡ standing_of h (Register name set) → refused_or o (the_placed s.changes s.version s.emitters) ≡ judge t h (Register name set)
emitter_judged t h name set s o is at =
    by_standing t (Register name set) s _ (ap (λ (x : Option Refusal). refused_or x (the_placed s.changes s.version s.emitters)) is) h at

pub value_judged : (t : Props) (h : History) (n : ℕ) (x : ℤ) (s : Standing) (o : Option Refusal) → o ≡ first_of (value_out_of_range t n x ∷ full_by s ∷ []) → s ≡ standing_of h (Param n x) → refused_or o (the_placed s.changes (s.version + 1) (s.version + 1)) ≡ judge t h (Param n x)
value_judged t h n x s o is at =
    by_standing t (Param n x) s _ (ap (λ (y : Option Refusal). refused_or y (the_placed s.changes (s.version + 1) (s.version + 1))) is) h at

pub entry_judged : (t : Props) (h : History) (e : Entry) (s : Standing) (o : Option Refusal) → o ≡ first_of (unknown_by s e ∷ reserved_emitter e ∷ entry_rows_by t s e) → s ≡ standing_of h (Emit e) → refused_or o (the_placed s.changes s.version (s.changes + 1)) ≡ judge t h (Emit e)
entry_judged t h e s o is at =
    by_standing t (Emit e) s _ (ap (λ (y : Option Refusal). refused_or y (the_placed s.changes s.version (s.changes + 1))) is) h at

first_none : (b : Bool) (why : Refusal) (rows : List (Option Refusal)) → b ≡ false → first_of (if_so b why ∷ rows) ≡ first_of rows
first_none true why rows is = absurd (false≢true (sym is))
first_none false why rows is = refl

last_row : (o : Option Refusal) → first_of (o ∷ []) ≡ o
last_row None = refl
last_row (Some why) = refl

all_at : (f : PropId → Bool) (qs : List PropId) (i : ℕ) (d : PropId) → list_all f qs ≡ true → i < length qs → f (get_or qs i d) ≡ true
all_at f [] i d h w = absurd (omega arith)
all_at f (q ∷ qs) zero d h w = (and_parts (f q) (list_all f qs) h).0
all_at f (q ∷ qs) (suc i) d h w = all_at f qs i d (and_parts (f q) (list_all f qs) h).1 (omega arith)

none_or : (t : Props) (hs : List PropId) (o : Option ℕ) → position (λ (q : PropId). not (is_row t q.0)) hs ≡ o → list_all (λ (q : PropId). is_row t q.0) hs ≡ true → o ≡ None
none_or t hs None is h = refl
none_or t hs (Some i) is h =
    let d : PropId = record { 0 = 0 } in
    let at = position-Some (λ (q : PropId). not (is_row t q.0)) hs i d is in
    let known = all_at (λ (q : PropId). is_row t q.0) hs i d h at.0 in
    absurd (false≢true (sym (ap not known) ∙ at.1))

no_unknown : (t : Props) (hs : List PropId) → list_all (λ (q : PropId). is_row t q.0) hs ≡ true → position (λ (q : PropId). not (is_row t q.0)) hs ≡ None
no_unknown t hs h = none_or t hs (position (λ (q : PropId). not (is_row t q.0)) hs) refl h

own_rows_none : (t : Props) (h : History) (runs : Runs) (e : Entry) (s : Standing) → IsOwn t runs h e → s.emitters ≡ emitters_of h → s.version ≡ version_of h → full_by s ≡ first_of (unknown_by s e ∷ entry_rows_by t s e)
own_rows_none t h runs e s own emitters version =
    let rest0 = full_by s ∷ [] in
    let rest1 = future_by s e ∷ rest0 in
    let rest2 = too_many_hyps e ∷ rest1 in
    let rest3 = unknown_hyp t e ∷ rest2 in
    let few = few_own h in
    let small = leb-false own_count e.emitter.0 own.emitter in
    sym (first_none (nat_le s.emitters e.emitter.0) UnknownEmitter (unknown_property t e ∷ rest3) (lt-leb s.emitters e.emitter.0 (omega (arith, emitters, few, small)))
    ∙ (first_none (not (is_row t e.prop.0)) UnknownProperty rest3 (ap not own.prop)
    ∙ (ap (λ (o : Option ℕ). first_of (option_map UnknownHyp o ∷ rest2)) (no_unknown t e.hyps own.hyps)
    ∙ (first_none (nat_lt 256 (length e.hyps)) (TooManyHyps (length e.hyps)) rest1 (le-ltb 256 (length e.hyps) own.few)
    ∙ (first_none (nat_lt s.version e.version) (FutureVersion s.version) rest0 (le-ltb s.version e.version (omega (arith, version, own.version)))
    ∙ last_row (full_by s))))))

pub own_judged : (t : Props) (h : History) (runs : Runs) (e : Entry) (s : Standing) (o : Option Refusal) → IsOwn t runs h e → o ≡ full_by s → s ≡ standing_of h (Emit e) → refused_or o (the_placed s.changes s.version (s.changes + 1)) ≡ judge_own t h e
own_judged t h runs e s o own is at =
    own_standing t e s _ (ap (λ (y : Option Refusal). refused_or y (the_placed s.changes s.version (s.changes + 1))) (is ∙ own_rows_none t h runs e s own (ap (λ (x : Standing). x.emitters) at) (ap (λ (x : Standing). x.version) at))) h at

-- Values.

set_cases : (vs : List ℤ) (n m : ℕ) (x d : ℤ) → (get_or (set vs n x) m d ≡ get_or vs m d) ⊎ ((m ≡ n) × (get_or (set vs n x) m d ≡ x))
set_cases [] n m x d = inl refl
set_cases (v ∷ vs) zero zero x d = inr (refl, refl)
set_cases (v ∷ vs) zero (suc m) x d = inl refl
set_cases (v ∷ vs) (suc n) zero x d = inl refl
set_cases (v ∷ vs) (suc n) (suc m) x d = elim (set_cases vs n m x d) [ inl h ↦ inl h | inr h ↦ inr (ap suc h.0, h.1) ]

one_fits : (defined : List Bool) (vs : List ℤ) (n m : ℕ) (x : ℤ) → fits_param defined n x ≡ true → fits_param defined m (value_at vs m) ≡ true → fits_param defined m (value_at (set vs n x) m) ≡ true
one_fits defined vs n m x fit was = elim (set_cases vs n m x (pos 0)) [
  | inl kept ↦ ap (fits_param defined m) kept ∙ was
  | inr new ↦ ap (fits_param defined m) new.1 ∙ (ap (λ (k : ℕ). fits_param defined k x) new.0 ∙ fit)
]

all_after : (defined : List Bool) (ms : List ℕ) (vs : List ℤ) (n : ℕ) (x : ℤ) → fits_param defined n x ≡ true → list_all (λ m. fits_param defined m (value_at vs m)) ms ≡ true → list_all (λ m. fits_param defined m (value_at (set vs n x) m)) ms ≡ true
all_after defined [] vs n x fit h = refl
all_after defined (m ∷ ms) vs n x fit h =
    let parts = and_parts (fits_param defined m (value_at vs m)) (list_all (λ k. fits_param defined k (value_at vs k)) ms) h in
    and_from _ _ (one_fits defined vs n m x fit parts.0) (all_after defined ms vs n x fit parts.1)

changed_last : (o : ParamValues) (ps : List (ℕ × ℤ)) (p : ℕ × ℤ) → changed_by o (ps ++ p ∷ []) ≡ changed_at (changed_by o ps) p
changed_last o [] p = refl
changed_last o (q ∷ ps) p = changed_last (changed_at o q) ps p

now_all : (h : History) → values_now h ≡ changed_by h.opening (params_set h.changes)
now_all h = ap (changed_by h.opening) (take-length (params_set h.changes))

values_set : (h : History) (n : ℕ) (x : ℤ) → values_now (extended h (Param n x ∷ [])) ≡ changed_at (values_now h) (n, x)
values_set h n x =
    now_all (extended h (Param n x ∷ []))
    ∙ (ap (changed_by h.opening) (params_more h.changes (Param n x ∷ []))
    ∙ (changed_last h.opening (params_set h.changes) (n, x)
    ∙ sym (ap (λ (v : ParamValues). changed_at v (n, x)) (now_all h))))

pub fit_after : (t : Props) (h : History) (n : ℕ) (x : ℤ) → fits_param t.defined n x ≡ true → all_fit t (values_now h) ≡ true → all_fit t (values_now (extended h (Param n x ∷ []))) ≡ true
fit_after t h n x fit was =
    ap (λ (v : ParamValues). list_all (λ m. fits_param t.defined m (value_at v.values m)) numbers) (values_set h n x)
    ∙ all_after t.defined numbers (values_now h).values n x fit was

pub fit_still : (t : Props) (h : History) (name : List ℕ) (s : ParamSet) → all_fit t (values_now h) ≡ true → all_fit t (values_now (extended h (Register name s ∷ []))) ≡ true
fit_still t h name s was =
    ap (λ (ps : List (ℕ × ℤ)). list_all (λ m. fits_param t.defined m (value_at (changed_by h.opening (take (length ps) ps)).values m)) numbers) (params_more h.changes (Register name s ∷ []) ∙ append-nil (params_set h.changes))
    ∙ was

-- Numbers.

pub length_values : (o : ParamValues) (ps : List (ℕ × ℤ)) → length (all_values o ps) ≡ length ps + 1
length_values o [] = refl
length_values o (p ∷ ps) = let rest = length_values (changed_at o p) ps in omega (arith, rest)

few_registered : (cs : List Change) → length (sets_registered cs) ≤ length cs
few_registered [] = omega arith
few_registered (Register n s ∷ cs) = let rest = few_registered cs in omega (arith, rest)
few_registered (Param n x ∷ cs) = let rest = few_registered cs in omega (arith, rest)
few_registered (Emit e ∷ cs) = let rest = few_registered cs in omega (arith, rest)

pub few_sets : (h : History) → emitters_of h ≤ length h.changes + 4
few_sets h = let few = few_registered h.changes in omega (arith, few)

-- Verdicts.

get_each : {A B : Type 0} (f : ℕ → B) (n : ℕ) (xs : List A) (p : ℕ) → p < length xs → slice_get (at_each f n xs) p ≡ Some (f (n + p))
get_each f n [] p h = absurd (omega arith)
get_each {A} {B} f n (x ∷ xs) zero h = let e : n ≡ n + 0 = omega arith in ap (λ (k : ℕ). Some (f k)) e
get_each {A} {B} f n (x ∷ xs) (suc p) h = let e : n + 1 + p ≡ n + suc p = omega arith in get_each f (n + 1) xs p (omega arith) ∙ ap (λ (k : ℕ). Some (f k)) e

pub full_row : (h : History) (t : Props) (p : ℕ) (rows : List PlacedVerdict) (none : PlacedVerdict) → rows ≡ at_each (row_of h t) 0 t.rows → p < length t.rows → slice_get (full_of h t) p ≡ Some (get_or rows p none).verdict
unfolding full_of
full_row h t p rows none are w =
    let z : 0 + p ≡ p = omega arith in
    get_each (verdict_of (basis_of h t)) 0 t.rows p w
    ∙ (ap (λ (k : ℕ). Some (verdict_of (basis_of h t) k)) z
    ∙ sym (ap (λ (x : PlacedVerdict). Some x.verdict) (ap (λ (xs : List PlacedVerdict). get_or xs p none) are ∙ row_is (row_of h t) t p none w)))

pub verdict_true : (p : Program) (t : Props) (h : History) (n : ℕ) (v : Verdict) → RunsKeepLaws → Keeps p → BothSortsAreAll → VerdictsAreTrue → t ≡ props_of p → OwnStay (runs_of p) h (entries_of h) → slice_get (full_of h t) n ≡ Some v → ExternalRight (runs_of p) h (counted_of h) → IsTrueOf (under (runs_of p) (values_now h)) v n
verdict_true p t h n v laws keeps both truth is own at external =
    truth t (runs_of p) h (subst (λ (u : Props). KeepsLaws u (runs_of p)) (sym is) (laws p keeps)) (both (runs_of p) h (counted_of h) external (own_right (runs_of p) h own)) n v at

pub standing_is : (h : History) (n v m : ℕ) (b : Bool) → n ≡ length h.changes → v ≡ version_of h → m ≡ emitters_of h → ◌≡◌ {A = Standing} (record { changes = n; version = v; emitters = m; is_taken = b }) (record { changes = length h.changes; version = version_of h; emitters = emitters_of h; is_taken = b })
standing_is h n v m b is_n is_v is_m = cc

-- the standing of a registration
pub standing_named : (h : History) (name : List ℕ) (set : ParamSet) (s : Standing) (b : Bool) → s ≡ record { changes = length h.changes; version = version_of h; emitters = emitters_of h; is_taken = b } → b ≡ is_taken h name → s ≡ standing_of h (Register name set)
standing_named h name set s b is at = is ∙ ap (λ (x : Bool). let r : Standing = record { changes = length h.changes; version = version_of h; emitters = emitters_of h; is_taken = x } in r) at
