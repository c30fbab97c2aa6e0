-- What the steps of a call find: the code's side.
use Rattle.std.specs.Prelude.{◌≡◌, ◌⊎◌, ◌+◌, ◌<◌, ◌≤◌, ℕ, true, false, List, [], Option, Some, None, Result, Ok, Err, IfOk, IfErr, length}
use Rattle.std.specs.Global.{Vec}
use Rattle.acsl_bind.specs.declared.fault.BindFault.{BindFault}
use Rattle.acsl_bind.specs.declared.fault.BindFault.TheVariants as B
use Rattle.acsl_read.specs.declared.text.AcslFault.{AcslFault}
use Rattle.acsl_read.specs.declared.text.AcslFault.TheVariants as A
use Rattle.c_ast.specs.declared.annot.Annot.{Annot}
use Rattle.c_ast.specs.declared.unit.Item.{Item}
use Rattle.c_ir.specs.Programs.{Program}
use Rattle.c_types.specs.declared.fault.TypeFault.{TypeFault}
use Rattle.c_types.specs.declared.fault.TypeFault.TheVariants as T
use Rattle.c_lex.specs.declared.fault.LexFault.{LexFault}
use Rattle.c_lex.specs.declared.fault.LexFault.TheVariants as L
use Rattle.c_parse.specs.declared.text.ParseFault.{ParseFault}
use Rattle.c_parse.specs.declared.text.ParseFault.TheVariants as P
use Rattle.prop_runs.specs.Numbers.{props_of}
use Rattle.fc_outside.specs.Contents.{contents_of}
use Rattle.status_history.specs.declared.history.Entry.{Entry}
use Rattle.status_history.specs.declared.history.History.{History}
use Rattle.kernel_serve.specs.declared.status.FrontFault.TheVariants as Fault
use Rattle.kernel_serve.specs.declared.status.LimitFault.TheVariants as Limit
use Rattle.kernel_serve.specs.declared.status.Status.{Status}
use Rattle.kernel_serve.specs.declared.status.Status.TheVariants as S
use Rattle.event_script.specs.declared.script.Analyser.{Analyser}
use Rattle.kernel_serve.specs.declared.accepted.Stopped.{Stopped}
use Rattle.kernel_serve.specs.declared.accepted.Stopped.TheVariants as Stop
use Rattle.kernel_serve.specs.declared.front.Entered.{Entered}
use Rattle.kernel_serve.specs.declared.status.LineFault.{LineFault}
use Rattle.kernel_serve.specs.declared.status.LineFault.TheVariants as Line
use Rattle.fc_outside.specs.Requests.{Requests}
use Rattle.kernel_serve.specs.Asked.{ReadsIfNamed}
use Rattle.kernel_serve.specs.Limits.{most_script}
use Rattle.kernel_serve.specs.Script.{LineStop, has_too_much, said_by, scripted}
use Rattle.kernel_serve.specs.Stages.{AtEntry, AtFile, AtLength, AtTypes, Enters, IsBound, IsRead, IsTypedText, Makes, Next, analysed, entry_name, history_of, is_too_much, report_of, script_of, too_large}
use Rattle.kernel_serve.specs.Told.{Files}
use Rattle.kernel_serve.specs.Words.{Command}

-- a fact about an answer, unless that is a fault of the shelf
abbrev pub UnlessReadFault : {A : Type 0} → Result A Status → Type 0 → Type 0
UnlessReadFault (Err S.ReadFault) fact = Prim.Unit {0}
UnlessReadFault answer fact = fact

-- statuses by which a call can end before it writes
abbrev pub IsStop : Status → Type 0
IsStop S.ReadFault = Prim.Unit {0}
IsStop S.Memory = Prim.Unit {0}
IsStop (S.Refused fault) = Prim.Unit {0}
IsStop (S.Limit fault) = Prim.Unit {0}
IsStop (S.ScriptLine line why) = Prim.Unit {0}
IsStop status = ⊥

-- how a call ends by a fault of tokens, of a grammar, of types and of binding
abbrev pub lex_status : LexFault → Status
lex_status L.Memory = S.Memory
lex_status (L.BadByte at) = S.Refused (Fault.Lex (L.BadByte at))
lex_status (L.OpenComment at) = S.Refused (Fault.Lex (L.OpenComment at))
lex_status (L.LiteralTooWide at) = S.Refused (Fault.Lex (L.LiteralTooWide at))
lex_status (L.Directive line) = S.Refused (Fault.Lex (L.Directive line))
lex_status (L.NameTooLong at) = S.Refused (Fault.Lex (L.NameTooLong at))

abbrev pub parse_status : ParseFault → Status
parse_status P.Memory = S.Memory
parse_status (P.NotC at) = S.Refused (Fault.Parse (P.NotC at))
parse_status (P.Unsupported word at) = S.Refused (Fault.Parse (P.Unsupported word at))
parse_status (P.TooDeep at) = S.Refused (Fault.Parse (P.TooDeep at))

abbrev pub type_status : TypeFault → Status
type_status T.Memory = S.Memory
type_status (T.Unknown x) = S.Refused (Fault.Types (T.Unknown x))
type_status (T.Twice x) = S.Refused (Fault.Types (T.Twice x))
type_status (T.BadType at) = S.Refused (Fault.Types (T.BadType at))
type_status (T.Arity at) = S.Refused (Fault.Types (T.Arity at))
type_status (T.SideEffect at) = S.Refused (Fault.Types (T.SideEffect at))
type_status (T.Recursive x) = S.Refused (Fault.Types (T.Recursive x))
type_status (T.ConstWrite at) = S.Refused (Fault.Types (T.ConstWrite at))
type_status (T.TooManyCells count) = S.Limit (Limit.TooManyCells count)

abbrev pub acsl_status : AcslFault → Status
acsl_status A.Memory = S.Memory
acsl_status (A.NotAcsl at) = S.Refused (Fault.Acsl (A.NotAcsl at))
acsl_status (A.Unsupported word at) = S.Refused (Fault.Acsl (A.Unsupported word at))
acsl_status (A.TooDeep at) = S.Refused (Fault.Acsl (A.TooDeep at))

abbrev pub bind_status : BindFault → Status
bind_status B.Memory = S.Memory
bind_status (B.Unknown x) = S.Refused (Fault.Bind (B.Unknown x))
bind_status (B.NotHere at) = S.Refused (Fault.Bind (B.NotHere at))
bind_status (B.BadType at) = S.Refused (Fault.Bind (B.BadType at))

-- nothing comes after
abbrev pub nothing : Next
nothing p g status out = ⊥

-- the stages from types on stop
abbrev pub StopsInTypes : List ℕ → List Item → List Annot → Status → Type 0
StopsInTypes name items annots S.Memory = Prim.Unit {0}
StopsInTypes name items annots (S.Refused fault) = AtTypes name items annots nothing (S.Refused fault) []
StopsInTypes name items annots (S.Limit fault) = AtTypes name items annots nothing (S.Limit fault) []
StopsInTypes name items annots status = ⊥

-- so do those from the entry function on
abbrev pub StopsInEntry : List ℕ → Program → Status → Type 0
StopsInEntry name p S.Memory = Prim.Unit {0}
StopsInEntry name p (S.Refused fault) = AtEntry name p nothing (S.Refused fault) []
StopsInEntry name p (S.Limit fault) = AtEntry name p nothing (S.Limit fault) []
StopsInEntry name p status = ⊥

-- an answer for a text and annotations that have this program
abbrev pub OnlyBound : Program → Result Program Status → Type 0
OnlyBound p (Ok q) = q ≡ p
OnlyBound p (Err S.Memory) = Prim.Unit {0}
OnlyBound p (Err status) = ⊥

-- what the stages of types and of binding answer, whatever the entry function's name is
pub record IsBoundAnswer (items : List Item) (annots : List Annot)
    (answer : Result Program Status) : Type 0 where
  pub found : IfOk answer (IsBound items annots)
  pub stops : (name : List ℕ) → IfErr answer (StopsInTypes name items annots)
  pub only : (p : Program) → IsBound items annots p → OnlyBound p answer

-- an answer for a program that passes, with its entry function
abbrev pub OnlyEntered : Program → ℕ → Result Entered Status → Type 0
OnlyEntered p g (Ok e) = (e.program ≡ p) × (e.entry ≡ g)
OnlyEntered p g (Err S.Memory) = Prim.Unit {0}
OnlyEntered p g (Err status) = ⊥

-- the table is the program's
abbrev pub HasTable : Entered → Type 0
HasTable e = e.props ≡ props_of e.program

-- what the stages of the entry function and of the table answer
pub record IsEntryAnswer (name : List ℕ) (p : Program) (answer : Result Entered Status) : Type 0 where
  pub same : IfOk answer (λ e. (e.program ≡ p) × HasTable e)
  pub found : IfOk answer (λ e. Enters name p e.entry)
  pub stops : IfErr answer (StopsInEntry name p)
  pub only : (g : ℕ) → Enters name p g → OnlyEntered p g answer

-- what all these stages answer
pub record IsTypesAnswer (name : List ℕ) (items : List Item) (annots : List Annot)
    (answer : Result Entered Status) : Type 0 where
  pub table : IfOk answer HasTable
  pub found : IfOk answer (λ e. IsTypedText name items annots e.program e.entry)
  pub stops : IfErr answer (StopsInTypes name items annots)
  pub only : (p : Program) (g : ℕ) → IsTypedText name items annots p g → OnlyEntered p g answer

-- the file's own stages stop
abbrev pub StopsInFile : List ℕ → List ℕ → Status → Type 0
StopsInFile name file S.Memory = Prim.Unit {0}
StopsInFile name file (S.Refused fault) = AtLength name file nothing (S.Refused fault) []
StopsInFile name file (S.Limit fault) = AtLength name file nothing (S.Limit fault) []
StopsInFile name file status = ⊥

-- what the file's own stages answer
pub record IsFileAnswer (name file : List ℕ) (answer : Result Entered Status) : Type 0 where
  pub table : IfOk answer HasTable
  pub found : IfOk answer (λ e. IsRead name file e.program e.entry)
  pub stops : IfErr answer (StopsInFile name file)
  pub only : (p : Program) (g : ℕ) → IsRead name file p g → OnlyEntered p g answer

-- what the script's stages answer, after a history
abbrev pub IsScriptAnswer : Program → History → List ℕ → Result History Status → Type 0
IsScriptAnswer p before script (Ok h) = (length script ≤ most_script) × (scripted p before script ≡ Ok h)
IsScriptAnswer p before script (Err S.Memory) = Prim.Unit {0}
IsScriptAnswer p before script (Err (S.ScriptLine line why)) = (length script ≤ most_script)
    × (scripted p before script ≡ Err (record { line = line; why = why }))
IsScriptAnswer p before script (Err (S.Limit fault)) =
    (S.Limit fault ≡ S.Limit (Limit.ScriptTooLong (most_script + 1))) × (most_script < length script)
IsScriptAnswer p before script (Err status) = ⊥

-- what the analysis answers, or that it is too much work
abbrev pub IsWorkAnswer : Command → Program → ℕ → Result (List Entry) Status → Type 0
IsWorkAnswer c p g (Ok es) = (is_too_much c p g ≡ false) × (es ≡ analysed c p g)
IsWorkAnswer c p g (Err S.Memory) = Prim.Unit {0}
IsWorkAnswer c p g (Err (S.Limit fault)) = (is_too_much c p g ≡ true) × (fault ≡ too_large c p g)
IsWorkAnswer c p g (Err status) = ⊥

-- the history of the opening and of the script, if one is named
abbrev pub IsMoreAnswer : Command → Program → ℕ → Option (List ℕ) → Result History Status → Type 0
IsMoreAnswer c p g None (Ok h) = h ≡ history_of c p g
IsMoreAnswer c p g None (Err S.Memory) = Prim.Unit {0}
IsMoreAnswer c p g None (Err status) = ⊥
IsMoreAnswer c p g (Some script) answer = IsScriptAnswer p (history_of c p g) script answer

-- this history, or the analysis is too much work
abbrev pub IsHistoryAnswer : Command → Program → ℕ → Option (List ℕ) → Result History Status → Type 0
IsHistoryAnswer c p g script answer =
    ((is_too_much c p g ≡ true) × (answer ≡ Err (S.Limit (too_large c p g))))
    ⊎ ((answer ≡ Err S.Memory) ⊎ ((is_too_much c p g ≡ false) × IsMoreAnswer c p g script answer))

abbrev pub ToldHistory : Option Files → Command → Entered → Result History Status → Type 0
ToldHistory None c e answer = Prim.Unit {0}
ToldHistory (Some files) c e answer =
    UnlessReadFault answer (IsHistoryAnswer c e.program e.entry (script_of files c.script) answer)

-- the script is asked for only where the analysis isn't too much work
abbrev pub AsksMore : Command → Entered → Option Requests → Option Requests → Type 0
AsksMore c e old new = (new ≡ old) ⊎ ((is_too_much c e.program e.entry ≡ false) × ReadsIfNamed c.script old new)

-- what a line comes to, or want of memory
abbrev pub GivesLine : Result History LineFault → Result History Stopped → Type 0
GivesLine wanted (Ok h) = wanted ≡ Ok h
GivesLine wanted (Err Stop.Memory) = Prim.Unit {0}
GivesLine wanted (Err (Stop.At why)) = wanted ≡ Err why

-- what an analyser says, unless it has too much work
abbrev pub GivesEntries : Program → History → Analyser → Result (List Entry) Stopped → Type 0
GivesEntries p h a (Ok es) = (has_too_much p h a ≡ false) × (es ≡ said_by p h a)
GivesEntries p h a (Err Stop.Memory) = Prim.Unit {0}
GivesEntries p h a (Err (Stop.At why)) = (has_too_much p h a ≡ true) × (why ≡ Line.TooLarge)

-- what the lines of a script come to
abbrev pub GivesHistory : Result History LineStop → Result History Status → Type 0
GivesHistory wanted (Ok h) = wanted ≡ Ok h
GivesHistory wanted (Err S.Memory) = Prim.Unit {0}
GivesHistory wanted (Err (S.ScriptLine line why)) = wanted ≡ Err (record { line = line; why = why })
GivesHistory wanted (Err status) = ⊥

-- the stages of a command stop
abbrev pub StopsAtFile : Files → Command → Status → Type 0
StopsAtFile files c (S.Refused fault) = AtFile files c (S.Refused fault) []
StopsAtFile files c (S.Limit fault) = AtFile files c (S.Limit fault) []
StopsAtFile files c (S.ScriptLine line why) = AtFile files c (S.ScriptLine line why) []
StopsAtFile files c status = Prim.Unit {0}

-- an answer where a report is to be made
abbrev pub OnlyText : List ℕ → Result (Vec ℕ) Status → Type 0
OnlyText text (Ok v) = v.items ≡ text
OnlyText text (Err S.Memory) = Prim.Unit {0}
OnlyText text (Err S.ReadFault) = Prim.Unit {0}
OnlyText text (Err status) = ⊥

-- an answer for files that pass all their stages
abbrev pub OnlyReport : Files → Command → Result (Vec ℕ) Status → Type 0
OnlyReport files c answer =
    (p : Program) (g : ℕ) (h : History) → IsRead (entry_name c.main) (contents_of c.file files) p g
    → Makes c p g (script_of files c.script) h → OnlyText (report_of c p h) answer
