-- A file of which at most one byte past its limit was read.
use Rattle.std.proofs.Common.{◌≡◌, ◌+◌, ◌<◌, ◌⊎◌, inl, inr, ℕ, List, Option, None, Some, IfSome, length, take, min, subst, arith}
use Rattle.std.specs.Prelude.{Result, Ok, Err}
use Rattle.std.proofs.lemmas.List.{take_all, length-take}
use Rattle.std.proofs.lemmas.Bool.{cases_lt}
use Rattle.kernel_serve.specs.declared.front.Entered.{Entered}
use Rattle.c_ir.specs.Programs.{Program}
use Rattle.fc_outside.specs.Whole.{FirstBytes}
use Rattle.status_history.specs.declared.history.History.{History}
use Rattle.kernel_serve.specs.Limits.{most_file, most_script}
use Rattle.kernel_serve.specs.Stages.{AtLength}
use Rattle.kernel_serve.specs.declared.status.Status.{Status}
use Rattle.kernel_serve.specs.declared.status.Status.TheVariants as S
use Rattle.kernel_serve.specs.inner.Steps.{IsFileAnswer, IsScriptAnswer, StopsInFile, UnlessReadFault, nothing}

-- what was read is all, or it is past the limit, and so is all
pub read_or_long : (all : List ℕ) (most : ℕ) → (take (most + 1) all ≡ all)
    ⊎ ((most < length (take (most + 1) all)) × (most < length all))
read_or_long all most =
    let e : length (take (most + 1) all) ≡ min (most + 1) (length all) = length-take (most + 1) all in
    elim (cases_lt most (length all)) [
      | inl long ↦ inr (omega (arith, e, long), long)
      | inr short ↦ inl (take_all (most + 1) all (omega (arith, short)))
    ]

-- a fact, unless the answer is a fault of the shelf
unless : {A : Type 0} (answer : Result A Status) (fact : Type 0) → fact → UnlessReadFault answer fact
unless (Ok x) fact h = h
unless (Err S.ReadFault) fact h = tt
unless (Err S.Memory) fact h = h
unless (Err S.Done) fact h = h
unless (Err (S.Refused f)) fact h = h
unless (Err S.Usage) fact h = h
unless (Err S.WriteFault) fact h = h
unless (Err (S.Limit f)) fact h = h
unless (Err (S.ScriptLine line why)) fact h = h

-- a file that is too long stops so, whatever its bytes are
long_length : (name file all : List ℕ) (status : Status) (out : List ℕ) → most_file < length file
    → most_file < length all → AtLength name file nothing status out → AtLength name all nothing status out
long_length name file all status out long longer (inl stops) = inl (longer, stops.1)
long_length name file all status out long longer (inr (within, at)) = absurd (omega (arith, long, within))

long_stops : (name file all : List ℕ) (status : Status) → most_file < length file → most_file < length all
    → StopsInFile name file status → StopsInFile name all status
long_stops name file all S.Memory long longer h = tt
long_stops name file all (S.Refused fault) long longer h = long_length name file all
    (S.Refused fault) _ long longer h
long_stops name file all (S.Limit fault) long longer h = long_length name file all
    (S.Limit fault) _ long longer h
long_stops name file all (S.ScriptLine line why) long longer h = h
long_stops name file all S.ReadFault long longer h = h
long_stops name file all S.Done long longer h = h
long_stops name file all S.Usage long longer h = h
long_stops name file all S.WriteFault long longer h = h

long_answer : (name file all : List ℕ) (answer : Result Entered Status) → most_file < length file
    → most_file < length all → IsFileAnswer name file answer → IsFileAnswer name all answer
long_answer name file all (Ok e) long longer h = let read = h.found in absurd
    (omega (arith, long, read.within))
long_answer name file all (Err status) long longer h = record {
  table = tt;
  found = tt;
  stops = long_stops name file all status long longer h.stops;
  only = λ p g read. absurd (omega (arith, longer, read.within));
}

file_answer : (name all : List ℕ) (answer : Result Entered Status)
    → IsFileAnswer name (take (most_file + 1) all) answer → IsFileAnswer name all answer
file_answer name all answer h = elim (read_or_long all most_file) [
  | inl same ↦ subst (λ (bs : List ℕ). IsFileAnswer name bs answer) same h
  | inr long ↦ long_answer name (take (most_file + 1) all) all answer long.0 long.1 h
]

-- what was read is answered as all is
pub file_of_all : (name : List ℕ) (told : Option (List ℕ)) (bytes : List ℕ) (answer : Result Entered Status)
    → FirstBytes (most_file + 1) told bytes → IsFileAnswer name bytes answer
    → IfSome told (λ all. UnlessReadFault answer (IsFileAnswer name all answer))
file_of_all name None bytes answer first h = tt
file_of_all name (Some all) bytes answer first h =
    unless answer (IsFileAnswer name all answer)
    (file_answer name all answer (subst (λ (bs : List ℕ). IsFileAnswer name bs answer) first h))

long_script : (p : Program) (before : History) (script all : List ℕ) (answer : Result History Status)
    → most_script < length script → most_script < length all → IsScriptAnswer p before script answer
    → IsScriptAnswer p before all answer
long_script p before script all (Ok cs) long longer h = absurd (omega (arith, long, h.0))
long_script p before script all (Err S.Memory) long longer h = tt
long_script p before script all (Err (S.Refused fault)) long longer h = h
long_script p before script all (Err (S.ScriptLine line why)) long longer h = absurd (omega (arith, long, h.0))
long_script p before script all (Err (S.Limit fault)) long longer h = (h.0, longer)
long_script p before script all (Err S.ReadFault) long longer h = h
long_script p before script all (Err S.Done) long longer h = h
long_script p before script all (Err S.Usage) long longer h = h
long_script p before script all (Err S.WriteFault) long longer h = h

script_answer : (p : Program) (before : History) (all : List ℕ) (answer : Result History Status)
    → IsScriptAnswer p before (take (most_script + 1) all) answer → IsScriptAnswer p before all answer
script_answer p before all answer h = elim (read_or_long all most_script) [
  | inl same ↦ subst (λ (bs : List ℕ). IsScriptAnswer p before bs answer) same h
  | inr long ↦ long_script p before (take (most_script + 1) all) all answer long.0 long.1 h
]

pub script_of_all : (p : Program) (before : History) (told : Option (List ℕ)) (bytes : List ℕ)
    (answer : Result History Status) → FirstBytes (most_script + 1) told bytes
    → IsScriptAnswer p before bytes answer
    → IfSome told (λ all. UnlessReadFault answer (IsScriptAnswer p before all answer))
script_of_all p before None bytes answer first h = tt
script_of_all p before (Some all) bytes answer first h =
    unless answer (IsScriptAnswer p before all answer)
    (script_answer p before all answer
    (subst (λ (bs : List ℕ). IsScriptAnswer p before bs answer) first h))
