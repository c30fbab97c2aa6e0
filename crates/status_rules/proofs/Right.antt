-- Which entries are right.
use Rattle.std.proofs.Common.{◌≡◌, ℕ, Bool, true, false, cond, List, [], ◌∷◌, refl, sym, ap, subst, ◌∙◌}
use Rattle.std.specs.Prelude.{not, filter}
use Rattle.std.specs.List.{list_any}
use Rattle.std.specs.Ordering.{int_eq}
use Rattle.std.specs.Cmp.{signed_Decides}
use Rattle.std.proofs.lemmas.Bool.{and_parts, false≢true}
use Rattle.fc_base.specs.Params.{value_at}
use Rattle.fc_base.specs.declared.params.ParamSet.{ParamSet}
use Rattle.fc_base.specs.declared.params.ParamValues.{ParamValues}
use Rattle.param_book.specs.Agreement.{agree_on}
use Rattle.param_book.specs.Emitters.{is_external}
use Rattle.param_book.specs.Table.{run_values, under}
use Rattle.status_history.specs.Claims.{Visits, IsRight}
use Rattle.status_history.specs.Values.{values_of, values_now}
use Rattle.status_history.specs.declared.history.History.{History}
use Rattle.status_rules.specs.Counting.{PlacedEntry, counted_of, current_of, entries_of, is_current, is_rival, last_of_each, set_of}
use Rattle.status_rules.specs.Truth.{Runs, AllRight, ExternalRight, OwnRight, CountedAreRight, BothSortsAreAll}

-- entries that are right over given runs
abbrev pub AllRightNow : Visits → List PlacedEntry → Type 0
AllRightNow u [] = Unit {0}
AllRightNow u (e ∷ es) = IsRight u e.entry × AllRightNow u es

abbrev pub Passing : (PlacedEntry → Bool) → List PlacedEntry → Type 0
Passing test [] = Unit {0}
Passing test (e ∷ es) = (test e ≡ true) × Passing test es

filter_next : (test : PlacedEntry → Bool) (e : PlacedEntry) (es : List PlacedEntry) (b : Bool) → test e ≡ b → Passing test es → Passing test (cond b (e ∷ es) es)
filter_next test e es true is rest = (is, rest)
filter_next test e es false is rest = rest

filter_passing : (test : PlacedEntry → Bool) (es : List PlacedEntry) → Passing test (filter test es)
filter_passing test [] = tt
filter_passing test (e ∷ es) = filter_next test e (filter test es) (test e) refl (filter_passing test es)

last_next : (test : PlacedEntry → Bool) (e : PlacedEntry) (es : List PlacedEntry) (b : Bool) → test e ≡ true → Passing test es → Passing test (cond b es (e ∷ es))
last_next test e es true is rest = rest
last_next test e es false is rest = (is, rest)

last_passing : (test : PlacedEntry → Bool) (es : List PlacedEntry) → Passing test es → Passing test (last_of_each es)
last_passing test [] all = tt
last_passing test (e ∷ es) all = last_next test e (last_of_each es) (list_any (is_rival e) es) all.0 (last_passing test es all.1)

-- values that agree have the same runs
same_runs : (runs : Runs) (set : ParamSet) (a b : ParamValues) → agree_on set a b ≡ true → under runs a ≡ under runs b
same_runs runs set a b h =
    let tests = λ (n : ℕ). int_eq (value_at a.values n) (value_at b.values n) in
    let first = and_parts (tests 0) _ h in
    let second = and_parts (tests 1) _ first.1 in
    let third = and_parts (tests 2) _ second.1 in
    let e0 = (signed_Decides (value_at a.values 0) (value_at b.values 0)).0 first.0 in
    let e1 = (signed_Decides (value_at a.values 1) (value_at b.values 1)).0 second.0 in
    let e2 = (signed_Decides (value_at a.values 2) (value_at b.values 2)).0 third.0 in
    ap (λ x. runs (x ∷ value_at a.values 1 ∷ value_at a.values 2 ∷ [])) e0
    ∙ (ap (λ x. runs (value_at b.values 0 ∷ x ∷ value_at a.values 2 ∷ [])) e1
    ∙ ap (λ x. runs (value_at b.values 0 ∷ value_at b.values 1 ∷ x ∷ [])) e2)

-- current entries that are right at their versions are right at the end
right_now : (runs : Runs) (h : History) (es : List PlacedEntry) → Passing (is_current h) es → AllRight runs h es → AllRightNow (under runs (values_now h)) es
right_now runs h [] current right = tt
right_now runs h (e ∷ es) current right =
    let same = same_runs runs (set_of h.changes e.entry.emitter.0) (values_of h e.entry.version) (values_now h) current.0 in
    (subst (λ (u : Visits). IsRight u e.entry) same right.0, right_now runs h es current.1 right.1)

pub counted_right_now : (runs : Runs) (h : History) → AllRight runs h (counted_of h) → AllRightNow (under runs (values_now h)) (counted_of h)
unfolding counted_of
counted_right_now runs h right =
    right_now runs h (counted_of h) (last_passing (is_current h) (current_of h) (filter_passing (is_current h) (entries_of h))) right

-- of right entries, those that pass a test, and the last of each
filtered : (runs : Runs) (h : History) (e : PlacedEntry) (es : List PlacedEntry) (b : Bool) → AllRight runs h (e ∷ []) → AllRight runs h es → AllRight runs h (cond b (e ∷ es) es)
filtered runs h e es true first rest = (first.0, rest)
filtered runs h e es false first rest = rest

filter_right : (runs : Runs) (h : History) (test : PlacedEntry → Bool) (es : List PlacedEntry) → AllRight runs h es → AllRight runs h (filter test es)
filter_right runs h test [] right = tt
filter_right runs h test (e ∷ es) right = filtered runs h e (filter test es) (test e) (right.0, tt) (filter_right runs h test es right.1)

last_one : (runs : Runs) (h : History) (e : PlacedEntry) (es : List PlacedEntry) (b : Bool) → AllRight runs h (e ∷ []) → AllRight runs h es → AllRight runs h (cond b es (e ∷ es))
last_one runs h e es true first rest = rest
last_one runs h e es false first rest = (first.0, rest)

last_right : (runs : Runs) (h : History) (es : List PlacedEntry) → AllRight runs h es → AllRight runs h (last_of_each es)
last_right runs h [] right = tt
last_right runs h (e ∷ es) right = last_one runs h e (last_of_each es) (list_any (is_rival e) es) (right.0, tt) (last_right runs h es right.1)

pub counted_are_right : CountedAreRight
unfolding counted_of
counted_are_right runs h right = last_right runs h (current_of h) (filter_right runs h (is_current h) (entries_of h) right)

-- where all entries are of registered emitters, so are those that count, and none of them is the program's own
passes_on : (good test : PlacedEntry → Bool) (e : PlacedEntry) (es : List PlacedEntry) (b : Bool) → good e ≡ true → Passing good es → Passing good (cond b (e ∷ es) es)
passes_on good test e es true is rest = (is, rest)
passes_on good test e es false is rest = rest

filter_passes : (good test : PlacedEntry → Bool) (es : List PlacedEntry) → Passing good es → Passing good (filter test es)
filter_passes good test [] all = tt
filter_passes good test (e ∷ es) all = passes_on good test e (filter test es) (test e) all.0 (filter_passes good test es all.1)

none_own : (runs : Runs) (h : History) (e : PlacedEntry) (es : List PlacedEntry) (b : Bool) → b ≡ true → AllRight runs h es → AllRight runs h (cond (not b) (e ∷ es) es)
none_own runs h e es true is rest = rest
none_own runs h e es false is rest = absurd (false≢true is)

all_own : (runs : Runs) (h : History) (es : List PlacedEntry) → Passing (λ e. is_external e.entry.emitter) es → OwnRight runs h es
all_own runs h [] all = tt
all_own runs h (e ∷ es) all = none_own runs h e (filter (λ x. not (is_external x.entry.emitter)) es) (is_external e.entry.emitter) all.0 (all_own runs h es all.1)

-- entries of both sorts
sorted : (runs : Runs) (h : History) (e : PlacedEntry) (xs ys : List PlacedEntry) (b : Bool) → AllRight runs h (cond b (e ∷ xs) xs) → AllRight runs h (cond (not b) (e ∷ ys) ys) → AllRight runs h (e ∷ []) × AllRight runs h xs × AllRight runs h ys
sorted runs h e xs ys true external own = ((external.0, tt), external.1, own)
sorted runs h e xs ys false external own = ((own.0, tt), external, own.1)

pub both_sorts_are_all : BothSortsAreAll
both_sorts_are_all runs h [] external own = tt
both_sorts_are_all runs h (e ∷ es) external own =
    let parts = sorted runs h e (filter (λ x. is_external x.entry.emitter) es) (filter (λ x. not (is_external x.entry.emitter)) es) (is_external e.entry.emitter) external own in
    (parts.0.0, both_sorts_are_all runs h es parts.1 parts.2)

pub external_alone : (runs : Runs) (h : History) → Passing (λ e. is_external e.entry.emitter) (entries_of h) → ExternalRight runs h (counted_of h) → AllRight runs h (counted_of h)
unfolding counted_of
external_alone runs h all right =
    let good = λ (e : PlacedEntry). is_external e.entry.emitter in
    let counted = last_passing good (current_of h) (filter_passes good (is_current h) (entries_of h) all) in
    both_sorts_are_all runs h (counted_of h) right (all_own runs h (counted_of h) counted)
