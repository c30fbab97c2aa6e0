-- What verdicts say of runs, and when they are true (after Correnson and Signoles, FMICS 2012; the form is
-- this project's own): `VerdictsAreTrue`.
use Rattle.std.specs.Prelude.{◌≡◌, List, [], ◌∷◌, ℕ, ℤ, true, false, not, filter, Some, slice_get}
use Rattle.fc_base.specs.declared.ids.PropId.{PropId}
use Rattle.fc_base.specs.declared.params.ParamValues.{ParamValues}
use Rattle.fc_base.specs.declared.verdict.Verdict.{Verdict}
use Rattle.fc_base.specs.declared.verdict.Verdict.TheVariants.{NeverTried, ConsideredValid, Valid, ValidUnderHyp, Unknown, Invalid, InvalidUnderHyp, InvalidButDead, ValidButDead, UnknownButDead, Inconsistent}
use Rattle.param_book.specs.Emitters.{is_external}
use Rattle.param_book.specs.Table.{under, entry_function}
use Rattle.c_ir.specs.Props.{Props}
use Rattle.c_ir.specs.Table.{dead_of, is_dead_row, is_firm_row, is_live, row_admitted, row_passes}
use Rattle.status_history.specs.Claims.{Visit, Visits, has_visit, has_false, has_true, AllRuns, SomeRun, NoVisit, LocallyRight}
use Rattle.status_history.specs.Values.{values_now}
use Rattle.status_history.specs.declared.history.History.{History}
use Rattle.status_rules.specs.Counting.{PlacedEntry, counted_of, entries_of}
use Rattle.status_rules.specs.Verdicts.{full_of}

-- the runs of a program, by the values of the run parameters
abbrev pub Runs : Type 0
Runs = List ℤ → Visits

-- What each run keeps, where the entry function has this number: a property that isn't of kind Dead is visited
-- only if the one of kind Dead at its point is, where there is one; visits of properties of kind Dead are false; a
-- firm property is visited if the one of kind Dead at its point is; no visit of an admitted property is false.
pub record RunKeeps (t : Props) (entry : ℤ) (run : List Visit) : Type 0 where
  pub dead_visited : (p : ℕ) (d : PropId) → is_live t p ≡ true → dead_of t.rows p ≡ Some d → has_visit p run ≡ true → has_visit d.0 run ≡ true
  pub dead_false : (d : ℕ) → is_dead_row t d ≡ true → has_true d run ≡ false
  pub firm_visited : (p : ℕ) (d : PropId) → is_firm_row t p ≡ true → dead_of t.rows p ≡ Some d → has_visit d.0 run ≡ true → has_visit p run ≡ true
  pub admitted_true : (p : ℕ) → row_passes t (row_admitted t entry) p ≡ true → has_false p run ≡ false

-- and so all runs, whatever the values of the run parameters, the input and the number of arrivals are
abbrev pub KeepsLaws : Props → Runs → Type 0
KeepsLaws t runs = (values input : List ℤ) (n : ℕ) → RunKeeps t (entry_function values) (runs values input n)

-- these entries of a history are locally right over the runs
abbrev pub AllRight : Runs → History → List PlacedEntry → Type 0
AllRight runs h [] = Unit {0}
AllRight runs h (e ∷ es) = LocallyRight (under runs) h e.entry × AllRight runs h es

-- those of emitters that were registered, and those of the program's own
abbrev pub ExternalRight : Runs → History → List PlacedEntry → Type 0
ExternalRight runs h es = AllRight runs h (filter (λ e. is_external e.entry.emitter) es)

abbrev pub OwnRight : Runs → History → List PlacedEntry → Type 0
OwnRight runs h es = AllRight runs h (filter (λ e. not (is_external e.entry.emitter)) es)

-- what a verdict says of a property
abbrev pub IsTrueOf : Visits → Verdict → ℕ → Type 0
IsTrueOf u NeverTried p = Unit {0}
IsTrueOf u ConsideredValid p = AllRuns u p
IsTrueOf u Valid p = AllRuns u p
IsTrueOf u ValidUnderHyp p = Unit {0}
IsTrueOf u Unknown p = Unit {0}
IsTrueOf u Invalid p = SomeRun u p
IsTrueOf u InvalidUnderHyp p = Unit {0}
IsTrueOf u InvalidButDead p = NoVisit u p
IsTrueOf u ValidButDead p = AllRuns u p × NoVisit u p
IsTrueOf u UnknownButDead p = NoVisit u p
IsTrueOf u Inconsistent p = ⊥

-- each verdict of a history is true of the runs under the values at its end; so none is Inconsistent
abbrev pub AllTrue : Props → Runs → History → Type 0
AllTrue t runs h = (p : ℕ) (v : Verdict) → slice_get (full_of h t) p ≡ Some v → IsTrueOf (under runs (values_now h)) v p

-- so it is over any runs that keep the laws and any history whose counted entries are locally right
abbrev pub VerdictsAreTrue : Type 0
VerdictsAreTrue = (t : Props) (runs : Runs) (h : History) → KeepsLaws t runs → AllRight runs h (counted_of h) → AllTrue t runs h

-- where all entries are locally right, so are those that count
abbrev pub CountedAreRight : Type 0
CountedAreRight = (runs : Runs) (h : History) → AllRight runs h (entries_of h) → AllRight runs h (counted_of h)

-- entries are right where those of both sorts are
abbrev pub BothSortsAreAll : Type 0
BothSortsAreAll = (runs : Runs) (h : History) (es : List PlacedEntry) → ExternalRight runs h es → OwnRight runs h es → AllRight runs h es
