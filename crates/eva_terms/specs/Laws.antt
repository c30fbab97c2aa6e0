-- What is said of a predicate is right in each run that the cells stand for, and narrowing keeps what such
-- a run has.
use Rattle.std.specs.Prelude.{◌≡◌, Bool, true, false}
use Rattle.c_ir.specs.declared.tree.Pred.{Pred}
use Rattle.c_runs.specs.Truth.{holds}
use Rattle.abs_cells.specs.Cells.{Env}
use Rattle.abs_cells.specs.Laws.{Contents, In}
use Rattle.eva_terms.specs.Shown.{narrow_row, truth_row}
use Rattle.eva_terms.specs.declared.answer.Truth.{Truth}
use Rattle.eva_terms.specs.declared.answer.Truth.TheVariants.{Yes, No, Maybe}

-- what is said of a test is true of its outcome
abbrev pub Fits : Truth → Bool → Type 0
Fits Yes b = b ≡ true
Fits No b = b ≡ false
Fits Maybe b = Unit {0}

abbrev pub TruthsAreRight : Type 0
TruthsAreRight =
    (p : Pred) (now entry : Env) (c d : Contents) → In now c → In entry d
    → Fits (truth_row now entry p) (holds p c d)

abbrev pub PredicatesNarrow : Type 0
PredicatesNarrow =
    (p : Pred) (taken : Bool) (now entry : Env) (c d : Contents) → In now c → In entry d
    → holds p c d ≡ taken
    → In (narrow_row taken now entry p) c
