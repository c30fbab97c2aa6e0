-- The history that a script makes after another one, or the line that stops it: `scripted` (this project's own).
use Rattle.std.specs.Prelude.{List, [], ◌∷◌, ◌++◌, ◌==◌, ℕ, ◌+◌, Bool, false, nat_lt, length, map, Option, None, Some, Result, Ok, Err, if◌then◌else◌}
use Rattle.std.specs.List.{slice_split}
use Rattle.c_ir.specs.Programs.{Program}
use Rattle.c_ir.specs.Props.{Props}
use Rattle.eva_rules.specs.Entries.{eva_said}
use Rattle.eva_run.specs.Answers.{is_too_large}
use Rattle.event_script.specs.Lines.{request_of}
use Rattle.event_script.specs.declared.script.Analyser.{Analyser}
use Rattle.event_script.specs.declared.script.Analyser.TheVariants.{Rte, Eva}
use Rattle.event_script.specs.declared.script.Wanted.{Wanted}
use Rattle.event_script.specs.declared.script.Wanted.TheVariants.{Blank, Do, Run}
use Rattle.prop_runs.specs.Numbers.{props_of}
use Rattle.prop_table.specs.Rows.{rows_of}
use Rattle.rte_alarms.specs.Entries.{decided_said, links_said}
use Rattle.status_history.specs.Values.{extended, values_now, version_of}
use Rattle.status_history.specs.declared.history.Change.{Change}
use Rattle.status_history.specs.declared.history.Change.TheVariants.{Emit}
use Rattle.status_history.specs.declared.history.Entry.{Entry}
use Rattle.status_history.specs.declared.history.History.{History}
use Rattle.status_rules.specs.Judge.{judge}
use Rattle.status_rules.specs.declared.refusals.Placed.{Placed}
use Rattle.status_rules.specs.declared.refusals.Refusal.{Refusal}
use Rattle.status_rules.specs.declared.refusals.Refusal.TheVariants.{HistoryFull}
use Rattle.kernel_serve.specs.Limits.{most_changes}
use Rattle.kernel_serve.specs.Registered.{registered}
use Rattle.kernel_serve.specs.declared.status.LineFault.{LineFault}
use Rattle.kernel_serve.specs.declared.status.LineFault.TheVariants as L

-- the lines of a script, each without its LF; bytes after the last LF are a line too
abbrev pub lines_of : List ℕ → List (List ℕ)
lines_of bytes = slice_split (λ b. b == 10) bytes

-- the history with one more change, unless it was refused
abbrev pub with_answered : History → Change → Result Placed Refusal → Result History LineFault
with_answered h c (Ok placed) = Ok (extended h (c ∷ []))
with_answered h c (Err why) = Err (L.Refused why)

-- the history with one more change, unless it is refused after it
abbrev pub with_change : Props → History → Change → Result History LineFault
with_change t h c = with_answered h c (judge t h c)

-- what an analyser says of a program under the values at the end of a history, at its version: `rte` the links of calls
-- and the alarms that types decide, `eva` the entries of its analysis
unfoldable pub said_by : Program → History → Analyser → List Entry
said_by p h Rte = links_said p (rows_of p) (version_of h) ++ decided_said p (rows_of p) (version_of h)
said_by p h Eva = eva_said p (rows_of p) (values_now h).values (version_of h)

-- whether that would be too much work
unfoldable pub has_too_much : Program → History → Analyser → Bool
has_too_much p h Rte = false
has_too_much p h Eva = is_too_large p (values_now h).values

-- the history with these entries of the program's own emitters, if there is room for all of them
abbrev pub with_own : History → List Entry → Result History LineFault
with_own h es =
    if nat_lt most_changes (length h.changes + length es) then Err (L.Refused (HistoryFull most_changes))
    else Ok (extended h (map Emit es))

-- the history with what an analyser says
abbrev pub with_run : Program → History → Analyser → Result History LineFault
with_run p h a = if has_too_much p h a then Err L.TooLarge else with_own h (said_by p h a)

-- the history with what a line asks for; a line that asks for nothing is of another form
abbrev pub with_wanted : Program → History → Option Wanted → Result History LineFault
with_wanted p h None = Err L.Form
with_wanted p h (Some Blank) = Ok h
with_wanted p h (Some (Do c)) = with_change (props_of p) h c
with_wanted p h (Some (Run a)) = with_run p h a

-- the history with what a line asks for. An entry without a version has the current one, which the last change told
abbrev pub with_line : Program → History → List ℕ → Result History LineFault
with_line p h line = with_wanted p h (request_of (registered h.changes) (rows_of p) (version_of h) line)

-- the line that stops a script, by its number, and why
pub record LineStop : Type 0 where
  pub line : ℕ
  pub why : LineFault

-- the lines after the one with a number, if it doesn't stop the script
abbrev pub and_then : ℕ → Result History LineFault → (History → Result History LineStop) → Result History LineStop
and_then n (Ok h) rest = rest h
and_then n (Err why) rest = Err (record { line = n; why = why })

-- the history with what lines ask for, in order, of which the first has this number
abbrev pub with_lines : Program → ℕ → History → List (List ℕ) → Result History LineStop
with_lines p n h [] = Ok h
with_lines p n h (line ∷ lines) = and_then n (with_line p h line) (λ now. with_lines p (n + 1) now lines)

-- the history that a script makes after another one, or the first line that stops it; lines count from 1
unfoldable pub scripted : Program → History → List ℕ → Result History LineStop
scripted p h bytes = with_lines p 1 h (lines_of bytes)
