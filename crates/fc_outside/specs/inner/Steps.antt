-- One read of a whole file's reading: the code's side.
use Rattle.std.specs.Prelude.{◌≡◌, ◌≤◌, ◌++◌, ℕ, List, Option, length}
use Rattle.std.specs.Io.KnownBytes.{prepend_known, IsAtEnd}
use Rattle.fc_outside.specs.Causes.{Rose}
use Rattle.fc_outside.specs.declared.whole.Step.{Step}
use Rattle.fc_outside.specs.declared.whole.Step.TheVariants.{More, End, Failed}

-- one read moved bytes from what is left to what was read: some, at most so many; or none
abbrev pub StepTaken : Option (List ℕ) → Option (List ℕ) → List ℕ → List ℕ → ℕ → Step → Type 0
StepTaken left left' bytes bytes' most More =
    (piece : List ℕ) × (1 ≤ length piece) × (length piece ≤ most) × (bytes' ≡ bytes ++ piece) × (left ≡ prepend_known piece left')
StepTaken left left' bytes bytes' most End = (bytes' ≡ bytes) × (left' ≡ left) × IsAtEnd left
StepTaken left left' bytes bytes' most Failed = Unit {0}

-- a read fails only where a fault came
abbrev pub CauseOfStep : ℕ → ℕ → Step → Type 0
CauseOfStep before now More = Unit {0}
CauseOfStep before now End = Unit {0}
CauseOfStep before now Failed = Rose before now
