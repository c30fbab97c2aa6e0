-- The entries of a history: those of registered emitters, and those of the program's own, which are right.
use Rattle.std.proofs.Common.{◌≡◌, ◌⊎◌, inl, inr, ℕ, ◌+◌, ◌≤◌, ℤ, List, [], ◌∷◌, ◌++◌, Bool, true, false, cond, length, map, Option, Some, None, Result, Ok, Err, refl, sym, subst, arith}
use Rattle.std.specs.Prelude.{filter, if◌then◌else◌, nat_lt}
use Rattle.std.specs.List.{list_any}
use Rattle.fc_base.specs.declared.params.ParamValues.{ParamValues}
use Rattle.fc_base.specs.declared.status.LocalStatus.{LocalStatus}
use Rattle.fc_base.specs.declared.status.LocalStatus.TheVariants as Status
use Rattle.param_book.specs.Emitters.{is_external, own_count}
use Rattle.param_book.specs.Table.{entry_function, run_values, under}
use Rattle.c_ir.specs.Keeps.{Keeps}
use Rattle.c_ir.specs.Programs.{Program}
use Rattle.c_ir.specs.Props.{Props}
use Rattle.c_ir.specs.Table.{row_admitted}
use Rattle.c_ir.specs.declared.prop.Prop.{Prop}
use Rattle.c_runs.specs.Parts.{Has}
use Rattle.c_runs.specs.Programs.{run_of}
use Rattle.c_runs.specs.Visits.{Named}
use Rattle.eva_rules.specs.Entries.{entries_from as said_from, entry, entry_by, entry_of, eva_said, records_at, records_of, says_nothing, status_of, used_by}
use Rattle.eva_rules.specs.Laws.{EntriesAreRight}
use Rattle.eva_rules.specs.Passing.{Record}
use Rattle.event_script.specs.Lines.{request_of}
use Rattle.event_script.specs.declared.script.Analyser.{Analyser}
use Rattle.event_script.specs.declared.script.Analyser.TheVariants.{Rte, Eva}
use Rattle.event_script.specs.declared.script.Wanted.{Wanted}
use Rattle.event_script.specs.declared.script.Wanted.TheVariants.{Blank, Do, Run}
use Rattle.prop_runs.specs.Numbers.{number_of, props_of, runs_of}
use Rattle.prop_set.specs.Sets.{prop_ids}
use Rattle.prop_table.specs.Rows.{rows_of}
use Rattle.rte_alarms.specs.Entries.{decided_said, links_said}
use Rattle.rte_alarms.specs.Laws.{DecidedAreRight, LinksAreRight}
use Rattle.status_history.specs.Claims.{IsRight, LocallyRight, Visits}
use Rattle.status_history.specs.Laws.{ValuesStay}
use Rattle.status_history.specs.Values.{extended, params_set, values_now, values_of, version_of}
use Rattle.status_history.specs.declared.history.Change.{Change}
use Rattle.status_history.specs.declared.history.Change.TheVariants.{Register, Param, Emit}
use Rattle.status_history.specs.declared.history.Entry.{Entry}
use Rattle.status_history.specs.declared.history.History.{History}
use Rattle.status_rules.specs.Counting.{PlacedEntry, counted_of, current_of, entries_from, entries_of, is_current, is_rival, last_of_each}
use Rattle.status_rules.specs.Judge.{judge}
use Rattle.status_rules.specs.Truth.{Runs, AllRight, ExternalRight}
use Rattle.status_rules.specs.declared.refusals.Placed.{Placed}
use Rattle.status_rules.specs.declared.refusals.Refusal.{Refusal}
use Rattle.status_rules.specs.declared.refusals.Refusal.TheVariants.{HistoryFull}
use Rattle.kernel_serve.specs.Limits.{most_changes}
use Rattle.kernel_serve.specs.Registered.{emitters_from, registered}
use Rattle.kernel_serve.specs.Script.{LineStop, and_then, has_too_much, lines_of, said_by, scripted, with_answered, with_line, with_lines, with_own, with_wanted}
use Rattle.kernel_serve.specs.Stages.{Makes, analysed, history_of, opening_of, opening_with, values_of as values_of_command}
use Rattle.kernel_serve.specs.Words.{Command}
use Rattle.kernel_serve.specs.declared.status.LineFault.{LineFault}
use Rattle.kernel_serve.specs.declared.status.LineFault.TheVariants as L
use Rattle.kernel_serve.specs.inner.Keeping.{IsFirst}
use Rattle.kernel_serve.proofs.Judged.{placed_is_external}

-- an entry is of a registered emitter, or right over all runs, or right over those under the values at its version,
-- which the history has
abbrev Good : Runs → History → Entry → Type 0
Good runs h e = (is_external e.emitter ≡ true)
    ⊎ (((values : List ℤ) → IsRight (runs values) e)
    ⊎ ((e.version ≤ version_of h) × LocallyRight (under runs) h e))

abbrev Fine : Runs → History → List Change → Type 0
Fine runs h [] = Unit {0}
Fine runs h (Register name set ∷ cs) = Fine runs h cs
Fine runs h (Param n x ∷ cs) = Fine runs h cs
Fine runs h (Emit e ∷ cs) = Good runs h e × Fine runs h cs

emitted : (runs : Runs) (h : History) (es : List Entry) → ((e : Entry) → Has es e → Good runs h e)
    → Fine runs h (map Emit es)
emitted runs h [] right = tt
emitted runs h (e ∷ es) right = (right e (inl refl), emitted runs h es (λ x there. right x (inr there)))

-- ---- histories that grow

version_grows : (cs more : List Change) → length (params_set cs) ≤ length (params_set (cs ++ more))
version_grows [] more = omega arith
version_grows (Register name set ∷ cs) more = version_grows cs more
version_grows (Param n x ∷ cs) more = omega (arith, version_grows cs more)
version_grows (Emit e ∷ cs) more = version_grows cs more

good_later : ValuesStay → (runs : Runs) (h : History) (more : List Change) (e : Entry) → Good runs h e
    → Good runs (extended h more) e
good_later stay runs h more e (inl external) = inl external
good_later stay runs h more e (inr (inl always)) = inr (inl always)
good_later stay runs h more e (inr (inr own)) = inr (inr (
  omega (arith, own.0, version_grows h.changes more),
  subst (λ (v : ParamValues). IsRight (under runs v) e) (sym (stay h more e.version own.0)) own.1,
))

fine_later : ValuesStay → (runs : Runs) (h : History) (more cs : List Change) → Fine runs h cs
    → Fine runs (extended h more) cs
fine_later stay runs h more [] all = tt
fine_later stay runs h more (Register name set ∷ cs) all = fine_later stay runs h more cs all
fine_later stay runs h more (Param n x ∷ cs) all = fine_later stay runs h more cs all
fine_later stay runs h more (Emit e ∷ cs) all =
    (good_later stay runs h more e all.0, fine_later stay runs h more cs all.1)

joined : (runs : Runs) (h : History) (cs more : List Change) → Fine runs h cs → Fine runs h more → Fine runs h (cs ++ more)
joined runs h [] more all new = new
joined runs h (Register name set ∷ cs) more all new = joined runs h cs more all new
joined runs h (Param n x ∷ cs) more all new = joined runs h cs more all new
joined runs h (Emit e ∷ cs) more all new = (all.0, joined runs h cs more all.1 new)

-- a history is fine with further changes that are
grown : ValuesStay → (runs : Runs) (h : History) (more : List Change) → Fine runs h h.changes
    → Fine runs (extended h more) more → Fine runs (extended h more) (extended h more).changes
grown stay runs h more all new =
    joined runs (extended h more) h.changes more (fine_later stay runs h more h.changes all) new

has_either : (xs ys : List Entry) (e : Entry) → Has (xs ++ ys) e → Has xs e ⊎ Has ys e
has_either [] ys e h = inr h
has_either (x ∷ xs) ys e (inl is) = inl (inl is)
has_either (x ∷ xs) ys e (inr h) = elim
    (has_either xs ys e h) [ inl here ↦ inl (inr here) | inr there ↦ inr there ]

-- ---- what the analysis says has the version that it is told

by_version : (version n : ℕ) (used : List ℕ) (nothing many : Bool) (status : LocalStatus)
    → (if nothing then entry version n Status.DontKnow []
    else (if many then entry version n Status.DontKnow [] else entry version n status (prop_ids used))).version
    ≡ version
by_version version n used true many status = refl
by_version version n used false true status = refl
by_version version n used false false status = refl

one_version : (version n : ℕ) (status : LocalStatus) (used : List ℕ) → (entry_by version n status used).version ≡ version
one_version version n status used =
    by_version version n used (says_nothing status) (nat_lt 256 (length used)) status

admitted_version : (b : Bool) (version : ℕ) (x e : Entry) → x.version ≡ version
    → Has (if b then [] else x ∷ []) e → e.version ≡ version
admitted_version true version x e is h = absurd h
admitted_version false version x e is (inl same) = subst (λ (y : Entry). y.version ≡ version) same is
admitted_version false version x e is (inr h) = absurd h

from_version : (p : Program) (values : List ℤ) (number : Named → ℕ) (records : List Record) (version n : ℕ)
    (rows : List Prop) (e : Entry) → Has (said_from p values number records version n rows) e → e.version ≡ version
from_version p values number records version n [] e h = absurd h
from_version p values number records version n (r ∷ rs) e h = elim
    (has_either (if row_admitted (props_of p) (entry_function values) r then []
    else entry_of version n (records_at number n records) ∷ [])
    (said_from p values number records version (n + 1) rs) e h) [
      | inl here ↦ admitted_version (row_admitted (props_of p) (entry_function values) r) version
          (entry_of version n (records_at number n records)) e
          (one_version version n (status_of (records_at number n records)) (used_by (records_at number n records))) here
      | inr there ↦ from_version p values number records version (n + 1) rs e there
    ]

said_version : (p : Program) (values : List ℤ) (version : ℕ) (e : Entry) → Has (eva_said p (rows_of p) values version) e
    → e.version ≡ version
unfolding eva_said
said_version p values version e h =
    from_version p values (number_of (rows_of p)) (records_of p (rows_of p) values) version 0 (rows_of p) e h

-- the runs depend on the values of the run parameters alone
same_runs : (p : Program) (v : ParamValues) → under (runs_of p) v ≡ runs_of p v.values
unfolding runs_of run_of
same_runs p v = refl

-- ---- what an analyser says at the end of a history, in that history with further changes of which none sets a parameter

by_types : LinksAreRight → DecidedAreRight → (p : Program) → Keeps p → (version : ℕ) (h : History) (e : Entry)
    → Has (links_said p (rows_of p) version ++ decided_said p (rows_of p) version) e → Good (runs_of p) h e
by_types links decided p keeps version h e there = elim
    (has_either (links_said p (rows_of p) version) (decided_said p (rows_of p) version) e there) [
      | inl link ↦ inr (inl (links p keeps version e link))
      | inr alarm ↦ inr (inl (decided p keeps version e alarm))
    ]

by_analysis : ValuesStay → EntriesAreRight → (p : Program) → Keeps p → (h : History) (more : List Change) (e : Entry)
    → Has (eva_said p (rows_of p) (values_now h).values (version_of h)) e → Good (runs_of p) (extended h more) e
by_analysis stay said p keeps h more e there =
    let is : e.version ≡ version_of h = said_version p (values_now h).values (version_of h) e there in
    let right : IsRight (runs_of p (values_now h).values) e =
    said p keeps (values_now h).values (version_of h) e there in
    let now : IsRight (under (runs_of p) (values_of h (version_of h))) e =
    subst (λ (u : Visits). IsRight u e) (sym (same_runs p (values_now h))) right in
    let here : IsRight (under (runs_of p) (values_of h e.version)) e =
    subst (λ (v : ℕ). IsRight (under (runs_of p) (values_of h v)) e) (sym is) now in
    good_later stay (runs_of p) h more e (inr (inr (omega (arith, is), here)))

said_good : ValuesStay → LinksAreRight → DecidedAreRight → EntriesAreRight → (p : Program) → Keeps p → (h : History)
    (more : List Change) (a : Analyser) (e : Entry) → Has (said_by p h a) e → Good (runs_of p) (extended h more) e
unfolding said_by
said_good stay links decided said p keeps h more Rte e there =
    by_types links decided p keeps (version_of h) (extended h more) e there
said_good stay links decided said p keeps h more Eva e there = by_analysis stay said p keeps h more e there

-- ---- the opening

analysed_by : (b : Bool) (p : Program) (values : List ℤ) (e : Entry)
    → Has (if b then [] else eva_said p (rows_of p) values 0) e → Has (eva_said p (rows_of p) values 0) e
analysed_by true p values e h = absurd h
analysed_by false p values e h = h

analysed_good : ValuesStay → EntriesAreRight → (p : Program) → Keeps p → (c : Command) (g : ℕ) (more : List Change) (e : Entry)
    → Has (analysed c p g) e
    → Good (runs_of p) (record { opening = record { values = values_of_command c g }; changes = more }) e
unfolding analysed
analysed_good stay said p keeps c g more e there =
    by_analysis stay said p keeps (record { opening = record { values = values_of_command c g }; changes = [] }) more e
    (analysed_by c.no_eva p (values_of_command c g) e there)

opening_fine : ValuesStay → LinksAreRight → DecidedAreRight → EntriesAreRight → (c : Command) (p : Program) (g : ℕ)
    → Keeps p → Fine (runs_of p) (history_of c p g) (history_of c p g).changes
unfolding opening_with
opening_fine stay links decided said c p g keeps =
    let h = history_of c p g in
    let more = decided_said p (rows_of p) 0 ++ analysed c p g in
    emitted (runs_of p) h (links_said p (rows_of p) 0 ++ more) (λ e there.
    elim (has_either (links_said p (rows_of p) 0) more e there) [
      | inl link ↦ inr (inl (links p keeps 0 e link))
      | inr rest ↦ elim (has_either (decided_said p (rows_of p) 0) (analysed c p g) e rest) [
        | inl alarm ↦ inr (inl (decided p keeps 0 e alarm))
        | inr own ↦ analysed_good stay said p keeps c g (opening_of c p g) e own
      ]
    ])

-- the opening registers no emitter and sets no parameter
none_from : (n : ℕ) (es : List Entry) → emitters_from n (map Emit es) ≡ []
none_from n [] = refl
none_from n (e ∷ es) = none_from n es

none_set : (es : List Entry) → length (params_set (map Emit es)) ≡ 0
none_set [] = refl
none_set (e ∷ es) = none_set es

pub opening_is_first : (p : Program) (es : List Entry) (opening : ParamValues)
    → IsFirst (record { opening = opening; changes = opening_with p es })
unfolding opening_with
opening_is_first p es opening = record {
  params = none_set (links_said p (rows_of p) 0 ++ (decided_said p (rows_of p) 0 ++ es));
  names = none_from own_count (links_said p (rows_of p) 0 ++ (decided_said p (rows_of p) 0 ++ es));
}

-- ---- the script

one_placed : (runs : Runs) (h after : History) (t : Props) (c : Change) (placed : Placed) → judge t h c ≡ Ok placed
    → Fine runs after (c ∷ [])
one_placed runs h after t (Register name set) placed is = tt
one_placed runs h after t (Param n x) placed is = tt
one_placed runs h after t (Emit e) placed is = (inl (placed_is_external t h e placed is), tt)

same_Ok : {A B : Type 0} {x y : A} → ◌≡◌ {A = Result A B} (Ok x) (Ok y) → x ≡ y
same_Ok is = cc

no_both : {A B : Type 0} {x : A} {y : B} → ◌≡◌ {A = Result A B} (Err y) (Ok x) → ⊥
no_both is = cc

abbrev AllFine : Program → History → Type 0
AllFine p h = Fine (runs_of p) h h.changes

by_answer : (p : Program) (h now : History) (c : Change) (answer : Result Placed Refusal)
    → with_answered h c answer ≡ Ok now → ((placed : Placed) → answer ≡ Ok placed → AllFine p (extended h (c ∷ [])))
    → AllFine p now
by_answer p h now c (Ok placed) is next = subst (AllFine p) (same_Ok is) (next placed refl)
by_answer p h now c (Err why) is next = absurd (no_both is)

by_room : (p : Program) (h now : History) (es : List Entry) (full : Bool)
    → (if full then Err (L.Refused (HistoryFull most_changes)) else Ok (extended h (map Emit es))) ≡ Ok now
    → AllFine p (extended h (map Emit es)) → AllFine p now
by_room p h now es true is all = absurd (no_both is)
by_room p h now es false is all = subst (AllFine p) (same_Ok is) all

by_run : (p : Program) (h now : History) (es : List Entry) (much : Bool)
    → (if much then Err L.TooLarge else with_own h es) ≡ Ok now
    → AllFine p (extended h (map Emit es)) → AllFine p now
by_run p h now es true is all = absurd (no_both is)
by_run p h now es false is all = by_room p h now es (nat_lt most_changes (length h.changes + length es)) is all

after_wanted : ValuesStay → LinksAreRight → DecidedAreRight → EntriesAreRight → (p : Program) → Keeps p
    → (h now : History) (o : Option Wanted) → with_wanted p h o ≡ Ok now → AllFine p h → AllFine p now
after_wanted stay links decided said p keeps h now None is all = absurd (no_both is)
after_wanted stay links decided said p keeps h now (Some Blank) is all = subst (AllFine p) (same_Ok is) all
after_wanted stay links decided said p keeps h now (Some (Do c)) is all =
    by_answer p h now c (judge (props_of p) h c) is
    (λ placed there. grown stay (runs_of p) h (c ∷ []) all
    (one_placed (runs_of p) h (extended h (c ∷ [])) (props_of p) c placed there))
after_wanted stay links decided said p keeps h now (Some (Run a)) is all =
    by_run p h now (said_by p h a) (has_too_much p h a) is
    (grown stay (runs_of p) h (map Emit (said_by p h a)) all
    (emitted (runs_of p) (extended h (map Emit (said_by p h a))) (said_by p h a)
    (said_good stay links decided said p keeps h (map Emit (said_by p h a)) a)))

after_line : (p : Program) (n : ℕ) (now : History) (o : Result History LineFault) (rest : History → Result History LineStop)
    → ((h : History) → o ≡ Ok h → AllFine p h) → ((h : History) → rest h ≡ Ok now → AllFine p h → AllFine p now)
    → and_then n o rest ≡ Ok now → AllFine p now
after_line p n now (Err why) rest one more is = absurd (no_both is)
after_line p n now (Ok h) rest one more is = more h is (one h refl)

after_lines : ValuesStay → LinksAreRight → DecidedAreRight → EntriesAreRight → (p : Program) → Keeps p → (n : ℕ)
    (h now : History) (lines : List (List ℕ)) → with_lines p n h lines ≡ Ok now → AllFine p h → AllFine p now
after_lines stay links decided said p keeps n h now [] is all = subst (AllFine p) (same_Ok is) all
after_lines stay links decided said p keeps n h now (line ∷ lines) is all =
    after_line p n now (with_line p h line) (λ k. with_lines p (n + 1) k lines)
    (λ mid made. after_wanted stay links decided said p keeps h mid
    (request_of (registered h.changes) (rows_of p) (version_of h) line) made all)
    (λ mid. after_lines stay links decided said p keeps (n + 1) mid now lines) is

made_fine : ValuesStay → LinksAreRight → DecidedAreRight → EntriesAreRight → (c : Command) (p : Program) (g : ℕ)
    (script : Option (List ℕ)) (h : History) → Keeps p → Makes c p g script h → AllFine p h
unfolding scripted
made_fine stay links decided said c p g None h keeps is =
    subst (AllFine p) (sym is.1) (opening_fine stay links decided said c p g keeps)
made_fine stay links decided said c p g (Some script) h keeps is =
    after_lines stay links decided said p keeps 1 (history_of c p g) h (lines_of script) is.2
    (opening_fine stay links decided said c p g keeps)

-- ---- the entries that count

abbrev AllGood : Runs → History → List PlacedEntry → Type 0
AllGood runs h [] = Unit {0}
AllGood runs h (e ∷ es) = Good runs h e.entry × AllGood runs h es

all_entries : (runs : Runs) (h : History) (n : ℕ) (cs : List Change) → Fine runs h cs → AllGood runs h (entries_from n cs)
all_entries runs h n [] all = tt
all_entries runs h n (Register name set ∷ cs) all = all_entries runs h (n + 1) cs all
all_entries runs h n (Param m x ∷ cs) all = all_entries runs h (n + 1) cs all
all_entries runs h n (Emit e ∷ cs) all = (all.0, all_entries runs h (n + 1) cs all.1)

either_good : (runs : Runs) (h : History) (e : PlacedEntry) (xs ys : List PlacedEntry) (b : Bool) → AllGood runs h xs
    → AllGood runs h ys → AllGood runs h (cond b xs ys)
either_good runs h e xs ys true here there = here
either_good runs h e xs ys false here there = there

filter_good : (runs : Runs) (h : History) (test : PlacedEntry → Bool) (es : List PlacedEntry) → AllGood runs h es
    → AllGood runs h (filter test es)
filter_good runs h test [] all = tt
filter_good runs h test (e ∷ es) all =
    let rest = filter_good runs h test es all.1 in either_good runs h e (e ∷ filter test es) (filter test es)
    (test e) (all.0, rest) rest

last_good : (runs : Runs) (h : History) (es : List PlacedEntry) → AllGood runs h es → AllGood runs h (last_of_each es)
last_good runs h [] all = tt
last_good runs h (e ∷ es) all =
    let rest = last_good runs h es all.1 in either_good runs h e (last_of_each es) (e ∷ last_of_each es)
    (list_any (is_rival e) es) rest (all.0, rest)

by_sort : (runs : Runs) (h : History) (e : PlacedEntry) (es : List PlacedEntry) (b : Bool)
    → is_external e.entry.emitter ≡ b → Good runs h e.entry
    → (AllRight runs h (filter (λ x. is_external x.entry.emitter) es) → AllRight runs h es)
    → AllRight runs h (cond b (e ∷ filter (λ x. is_external x.entry.emitter) es)
    (filter (λ x. is_external x.entry.emitter) es)) → AllRight runs h (e ∷ es)
by_sort runs h e es true is good rest right = (right.0, rest right.1)
by_sort runs h e es false is (inl external) rest right = absurd cc
by_sort runs h e es false is (inr (inl always)) rest right =
    (always (run_values (values_of h e.entry.version)), rest right)
by_sort runs h e es false is (inr (inr own)) rest right = (own.1, rest right)

sorted_right : (runs : Runs) (h : History) (es : List PlacedEntry) → AllGood runs h es → ExternalRight runs h es
    → AllRight runs h es
sorted_right runs h [] all right = tt
sorted_right runs h (e ∷ es) all right =
    by_sort runs h e es (is_external e.entry.emitter) refl all.0 (sorted_right runs h es all.1) right

-- all that count are right, where those of registered emitters are
pub all_right : LinksAreRight → DecidedAreRight → EntriesAreRight → ValuesStay → (c : Command) (p : Program) (g : ℕ)
    (script : Option (List ℕ)) (h : History) → Keeps p → Makes c p g script h
    → ExternalRight (runs_of p) h (counted_of h) → AllRight (runs_of p) h (counted_of h)
unfolding counted_of
all_right links decided said stay c p g script h keeps made right =
    let entries = all_entries (runs_of p) h 1 h.changes (made_fine stay links decided said c p g script h keeps made) in
    sorted_right (runs_of p) h (counted_of h)
    (last_good (runs_of p) h (current_of h) (filter_good (runs_of p) h (is_current h) (entries_of h) entries))
    right
