-- What is said of an analysis and of a run: each visit of the run has a record that is right, and the states that the
-- analysis has stand for the run's cells, provided that all that was used holds in this run.
use Rattle.std.specs.Prelude.{◌≡◌, ◌⊎◌, ℕ, ℤ, Bool, true, IsTrue, List, [], ◌∷◌}
use Rattle.int_value.specs.Standing.{IsRight}
use Rattle.abs_cells.specs.Laws.{In}
use Rattle.abs_state.specs.States.{AllPass}
use Rattle.abs_state.specs.declared.state.State.{State}
use Rattle.c_ir.specs.Programs.{Program}
use Rattle.c_runs.specs.Parts.{Typed}
use Rattle.c_runs.specs.Runs.{Ending, Next, Breaks, Continues, Returns, Stopped, Cut, Out, Part}
use Rattle.c_runs.specs.Visits.{Cells, Named, Visit, all_visits}
use Rattle.eva_rules.specs.Passing.{Passed, Record, Step}

-- ---- over a program, the numbers of its properties, and a test for properties that hold in this run

module _ (p : Program) (number : Named → ℕ) (holding : ℕ → Bool) where
  abbrev pub Within : List ℕ → Type 0
  Within used = AllPass holding used

  -- each visit of a property that passes is true
  abbrev pub Clean : List Visit → Type 0
  Clean [] = Unit {0}
  Clean (v ∷ vs) = (IsTrue (holding (number v.named)) → v.holds ≡ true) × Clean vs

  -- some record of the property is right of the visit, provided that what was used holds
  abbrev pub Covered : List Record → Visit → Type 0
  Covered [] v = ⊥
  Covered (r ∷ rs) v = ((r.named ≡ v.named) × (Within r.used → IsRight r.said (v.holds ≡ true))) ⊎ Covered rs v

  abbrev pub AllCovered : List Record → List Visit → Type 0
  AllCovered rs [] = Unit {0}
  AllCovered rs (v ∷ vs) = Covered rs v × AllCovered rs vs

  -- if what it used holds, the state stands for the cells
  abbrev pub Covers : State → Cells → Type 0
  Covers s c = Within s.used → In s.env c

  -- and all that the first state used was used too
  abbrev pub Reach : State → State → Cells → Type 0
  Reach s e c = Within e.used → Within s.used × In e.env c

  abbrev pub Leaves : State → Passed → Ending → Cells → Type 0
  Leaves s a Next c = Reach s a.next c
  Leaves s a Breaks c = Reach s a.breaks c
  Leaves s a Continues c = Reach s a.continues c
  Leaves s a Returns c = Reach s a.returns c
  Leaves s a Stopped c = Unit {0}
  Leaves s a Cut c = Unit {0}

  pub record Good (s : State) (a : Passed) (o : Out) : Type 0 where
    pub covered : AllCovered a.records (all_visits o.pieces)
    pub leaves : Leaves s a o.ending o.cells
    pub typed : Typed p o.cells

  -- the analysis of a part is right of each run of it that breaks nothing that passes
  abbrev pub Sound : Part → Step → Type 0
  Sound f g =
      (s : State) (n : ℕ) (c : Cells) (i : List ℤ) → Typed p c → Covers s c → Clean (all_visits (f n c i).pieces)
      → Good s (g s) (f n c i)
