-- What a call of `report_run` comes to, `Outcome`, and what it says of the program's runs, `Says`, where the shelf
-- tells its files and the sink the bytes that it holds (this project's own).
use Rattle.std.specs.Prelude.{◌≡◌, ◌⊎◌, ◌<◌, ◌++◌, ℕ, List, Option, Some, length, take}
use Rattle.c_ir.specs.Programs.{Program}
use Rattle.prop_runs.specs.Numbers.{props_of, runs_of}
use Rattle.prop_table.specs.Rows.{rows_of}
use Rattle.fc_outside.specs.Contents.{contents_of}
use Rattle.report_print.specs.Report.{report_text}
use Rattle.status_history.specs.declared.history.History.{History}
use Rattle.status_rules.specs.Counting.{counted_of}
use Rattle.status_rules.specs.Truth.{AllTrue, ExternalRight}
use Rattle.status_rules.specs.Verdicts.{full_of}
use Rattle.kernel_serve.specs.declared.status.Status.{Status}
use Rattle.kernel_serve.specs.declared.status.Status.TheVariants as S
use Rattle.kernel_serve.specs.Stages.{IsRead, Makes, Works, entry_name, report_of, script_of}
use Rattle.kernel_serve.specs.Told.{Files}
use Rattle.kernel_serve.specs.Words.{Command, report_command}

-- Bytes of a report and what they say of runs.
pub record TrueReport (command : Command) (files : Files) (out : List ℕ) : Type 0 where
  -- the program of the named file, and the number of its entry function
  pub program : Program
  pub entry : ℕ
  pub is_read : IsRead (entry_name command.main) (contents_of command.file files) program entry
  -- the history of the opening and of the named script, none of whose lines stops it
  pub history : History
  pub made : Makes command program entry (script_of files command.script) history
  -- the bytes are the report that prints full recomputation of this history
  pub printed : out ≡ report_text (rows_of program) (full_of history (props_of program)) command.points
  -- where the counted entries of registered emitters are locally right, each verdict of it is true of the runs; those
  -- of the program's own emitters, which are `kernel`, `rte` and `eva`, need no premise
  pub true_of_runs : ExternalRight (runs_of program) history (counted_of history)
      → AllTrue (props_of program) (runs_of program) history

-- What a call that ends well says of runs.
pub record SaysAtDone (words : List (List ℕ)) (files : Files) (before after : List ℕ) : Type 0 where
  -- the command that the words are
  pub command : Command
  pub is_command : report_command words ≡ Some command
  -- the bytes that the sink took
  pub out : List ℕ
  pub appended : after ≡ before ++ out
  -- they are a report, and its verdicts are true
  pub report : TrueReport command files out

-- Clause `truth`: at Done all verdicts that were written are true.
abbrev pub Says : List (List ℕ) → Status → Files → List ℕ → List ℕ → Type 0
Says words S.Done files before after = SaysAtDone words files before after
Says words status files before after = Prim.Unit {0}

-- Clause `outcome`: what a call ends with and what the sink holds then. A fault of the shelf or want of memory leaves
-- the sink as it was; at a fault of the sink a proper prefix of the report was appended; every other status is that of
-- the stages, with what they write.
abbrev pub Outcome : List (List ℕ) → Status → Files → List ℕ → List ℕ → Type 0
Outcome words S.ReadFault files before after = after ≡ before
Outcome words S.Memory files before after = after ≡ before
Outcome words S.WriteFault files before after =
    (out : List ℕ) × Works words files S.Done out
    × ((n : ℕ) × (n < length out) × (after ≡ before ++ take n out))
Outcome words status files before after = (out : List ℕ) × Works words files status out
    × (after ≡ before ++ out)

-- Clause `complete`: words that are a command, a file that passes all its stages, an analysis that isn't too much work
-- and, if a script is named, one within its limit none of whose lines stops it, give Done with the whole report, or
-- Memory.
abbrev pub Complete : List (List ℕ) → Status → Files → List ℕ → List ℕ → Type 0
Complete words status files before after =
    (c : Command) (p : Program) (g : ℕ) (h : History) → report_command words ≡ Some c
    → IsRead (entry_name c.main) (contents_of c.file files) p g → Makes c p g (script_of files c.script) h
    → (status ≡ S.Memory) ⊎ ((status ≡ S.Done) × (after ≡ before ++ report_of c p h))

-- Clause `unwritten`: only Done and WriteFault write.
abbrev pub Unwritten : Option (List ℕ) → Option (List ℕ) → Status → Type 0
Unwritten before after S.Done = Prim.Unit {0}
Unwritten before after S.WriteFault = Prim.Unit {0}
Unwritten before after status = after ≡ before
