-- What entries claim of runs, over any runs (after Correnson and Signoles, FMICS 2012; the form is this project's
-- own). A run is the list of its visits of properties. For given values of the parameters there is a run for each
-- input and each number of arrivals at points, after which it is cut.
use Rattle.std.specs.Prelude.{◌≡◌, List, [], ◌∷◌, ℕ, ℤ, Bool, true, false, not, ◌==◌, ◌&&◌}
use Rattle.std.specs.List.{list_any}
use Rattle.fc_base.specs.declared.ids.PropId.{PropId}
use Rattle.fc_base.specs.declared.params.ParamValues.{ParamValues}
use Rattle.fc_base.specs.declared.status.LocalStatus.{LocalStatus}
use Rattle.fc_base.specs.declared.status.LocalStatus.TheVariants.{DontKnow, FalseIfReachable, FalseAndReachable}
use Rattle.fc_base.specs.declared.status.LocalStatus.TheVariants as Status
use Rattle.status_history.specs.declared.history.Entry.{Entry}
use Rattle.status_history.specs.declared.history.History.{History}
use Rattle.status_history.specs.Values.{values_of}

-- a run meets a property, by its number, and it holds there or not
pub record Visit : Type 0 where
  pub prop : ℕ
  pub holds : Bool

-- the visits of each run, by its input and its number of arrivals
abbrev pub Visits : Type 0
Visits = List ℤ → ℕ → List Visit

-- whether a run visits a property, with a false visit or with a true one
abbrev pub has_visit : ℕ → List Visit → Bool
has_visit p run = list_any (λ v. v.prop == p) run

abbrev pub has_false : ℕ → List Visit → Bool
has_false p run = list_any (λ v. (v.prop == p) && not v.holds) run

abbrev pub has_true : ℕ → List Visit → Bool
has_true p run = list_any (λ v. (v.prop == p) && v.holds) run

-- no run has a false visit of a property
abbrev pub AllRuns : Visits → ℕ → Type 0
AllRuns u p = (input : List ℤ) (n : ℕ) → has_false p (u input n) ≡ false

-- each visit of it in each run is false
abbrev pub AllFalse : Visits → ℕ → Type 0
AllFalse u p = (input : List ℤ) (n : ℕ) → has_true p (u input n) ≡ false

-- some run has a false visit of it
abbrev pub SomeRun : Visits → ℕ → Type 0
SomeRun u p = (input : List ℤ) × (n : ℕ) × (has_false p (u input n) ≡ true)

-- no run visits it
abbrev pub NoVisit : Visits → ℕ → Type 0
NoVisit u p = (input : List ℤ) (n : ℕ) → has_visit p (u input n) ≡ false

-- no run has a false visit of one of these properties
abbrev pub AllHold : Visits → List PropId → Type 0
AllHold u [] = Unit {0}
AllHold u (q ∷ qs) = AllRuns u q.0 × AllHold u qs

-- what a status says of a property
abbrev pub Says : Visits → LocalStatus → ℕ → Type 0
Says u Status.True p = AllRuns u p
Says u DontKnow p = Unit {0}
Says u FalseIfReachable p = AllFalse u p
Says u FalseAndReachable p = SomeRun u p

-- an entry is right over given runs if what its status says follows from its hypotheses
abbrev pub IsRight : Visits → Entry → Type 0
IsRight u e = AllHold u e.hyps → Says u e.status e.prop.0

-- an entry is locally right in a history if it is right over the runs under the values at its version
abbrev pub LocallyRight : (ParamValues → Visits) → History → Entry → Type 0
LocallyRight runs h e = IsRight (runs (values_of h e.version)) e
