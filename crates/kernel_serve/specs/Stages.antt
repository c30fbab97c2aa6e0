-- The work of a call, stage by stage: `Works`, what it ends with and writes where nothing outside fails and there is
-- memory. Each stage ends the call or hands on to the next one (this project's own).
use Rattle.std.specs.Prelude.{◌≡◌, ◌≢◌, ◌⊎◌, ◌+◌, ◌<◌, ◌≤◌, ℕ, ℤ, Bool, true, false, ◌&&◌, List, [], ◌∷◌, ◌++◌, map, Option, None, Some, Err, Ok, length, is_some, bytes_eq, codes, Result, if◌then◌else◌}
use Rattle.acsl_bind.specs.Programs.{Binds}
use Rattle.acsl_bind.specs.declared.fault.BindFault.{BindFault}
use Rattle.acsl_bind.specs.declared.fault.BindFault.TheVariants as B
use Rattle.acsl_notes.specs.Notes.{AreAnnots, IsFirstFault, notes_of}
use Rattle.acsl_read.specs.declared.text.AcslFault.{AcslFault}
use Rattle.acsl_read.specs.declared.text.AcslFault.TheVariants as A
use Rattle.c_ast.specs.declared.annot.Annot.{Annot}
use Rattle.c_ast.specs.declared.unit.Item.{Item}
use Rattle.c_ast.specs.declared.unit.Unit.{Unit as Text}
use Rattle.c_lex.specs.Tokens.{Lexes, Stuck}
use Rattle.c_lex.specs.declared.fault.LexFault.{LexFault}
use Rattle.c_lex.specs.declared.token.Token.{Token}
use Rattle.c_parse.specs.Program.{IsFault, IsUnit}
use Rattle.c_parse.specs.declared.text.ParseFault.{ParseFault}
use Rattle.c_parse.specs.declared.text.ParseFault.TheVariants as P
use Rattle.kernel_serve.specs.Limits.{most_file, most_script}
use Rattle.eva_rules.specs.Entries.{eva_said}
use Rattle.eva_run.specs.Answers.{counted_cells, is_too_large}
use Rattle.eva_work.specs.Work.{counted_work}
use Rattle.kernel_serve.specs.declared.status.LimitFault.{LimitFault}
use Rattle.kernel_serve.specs.declared.status.LimitFault.TheVariants as Limit
use Rattle.param_book.specs.Table.{opening_values}
use Rattle.c_ir.specs.Programs.{Program}
use Rattle.c_ir.specs.Props.{Props}
use Rattle.c_ir.specs.declared.program.Skeleton.{Skeleton}
use Rattle.c_ir.specs.declared.tree.Fun.{Fun}
use Rattle.c_types.specs.Programs.{Checks}
use Rattle.c_types.specs.declared.fault.TypeFault.{TypeFault}
use Rattle.c_types.specs.declared.fault.TypeFault.TheVariants as T
use Rattle.fc_outside.specs.Contents.{contents_of}
use Rattle.prop_table.specs.Tables.{Tables}
use Rattle.prop_table.specs.declared.fault.TableFault.TheVariants as Many
use Rattle.report_print.specs.Report.{report_text}
use Rattle.status_history.specs.declared.history.Change.{Change}
use Rattle.status_history.specs.declared.history.Entry.{Entry}
use Rattle.status_history.specs.declared.history.History.{History}
use Rattle.status_rules.specs.Verdicts.{full_of}
use Rattle.prop_runs.specs.Numbers.{props_of}
use Rattle.prop_table.specs.Rows.{rows_of}
use Rattle.rte_alarms.specs.Entries.{decided_said, links_said}
use Rattle.status_history.specs.declared.history.Change.TheVariants.{Emit}
use Rattle.kernel_serve.specs.declared.status.FrontFault.TheVariants as Fault
use Rattle.kernel_serve.specs.declared.status.Status.{Status}
use Rattle.kernel_serve.specs.declared.status.Status.TheVariants as S
use Rattle.kernel_serve.specs.Script.{LineStop, scripted}
use Rattle.kernel_serve.specs.Told.{Files}
use Rattle.kernel_serve.specs.Words.{Command, report_command}

-- the values of the parameters at the opening, where the entry function has this number
abbrev pub values_of : Command → ℕ → List ℤ
values_of c g = opening_values g c.lib_entry

-- whether the analysis would be too much work; with `--no-eva` there is none
unfoldable pub is_too_much : Command → Program → ℕ → Bool
is_too_much c p g = if c.no_eva then false else is_too_large p (values_of c g)

-- the refusal then
unfoldable pub too_large : Command → Program → ℕ → LimitFault
too_large c p g = Limit.TooLarge (counted_work p (values_of c g)) (counted_cells p)

-- what the analysis says; with `--no-eva` nothing
unfoldable pub analysed : Command → Program → ℕ → List Entry
analysed c p g = if c.no_eva then [] else eva_said p (rows_of p) (values_of c g) 0

-- the opening: what follows of the program alone is emitted, the links of calls and then the alarms that types
-- decide; and then what the analysis says
unfoldable pub opening_with : Program → List Entry → List Change
opening_with p es = map Emit (links_said p (rows_of p) 0 ++ (decided_said p (rows_of p) 0 ++ es))

abbrev pub opening_of : Command → Program → ℕ → List Change
opening_of c p g = opening_with p (analysed c p g)

-- the history that a call begins with: the changes of the opening over its values
abbrev pub history_of : Command → Program → ℕ → History
history_of c p g = record { opening = record { values = values_of c g }; changes = opening_of c p g }

-- the report on a program after a history
unfoldable pub report_of : Command → Program → History → List ℕ
report_of c p h = report_text (rows_of p) (full_of h (props_of p)) c.points

-- the call ends with this refusal, and nothing is written
abbrev pub StopsBy : Status → Status → List ℕ → Type 0
StopsBy refusal status out = (status ≡ refusal) × (out ≡ [])

-- the report: all of it is written
abbrev pub AtReport : Command → Program → History → Status → List ℕ → Type 0
AtReport c p h status out = (status ≡ S.Done) × (out ≡ report_of c p h)

-- the script's lines: they make a history, or one of them stops the call
abbrev pub AtLines : Command → Program → Result History LineStop → Status → List ℕ → Type 0
AtLines c p (Err stop) status out = StopsBy (S.ScriptLine stop.line stop.why) status out
AtLines c p (Ok h) status out = AtReport c p h status out

-- the bytes of the named script
abbrev pub script_of : Files → Option (List ℕ) → Option (List ℕ)
script_of files None = None
script_of files (Some name) = Some (contents_of name files)

-- the script, if one is named: it is within its limit, or it is refused
abbrev pub AtScript : Command → Program → ℕ → Option (List ℕ) → Status → List ℕ → Type 0
AtScript c p g None status out = AtReport c p (history_of c p g) status out
AtScript c p g (Some script) status out =
    ((most_script < length script) × StopsBy (S.Limit (Limit.ScriptTooLong (most_script + 1))) status out)
    ⊎ ((length script ≤ most_script) × AtLines c p (scripted p (history_of c p g) script) status out)

-- the work of the analysis: it is within its limit, or the file is refused
abbrev pub AtWork : Command → Program → ℕ → Option (List ℕ) → Status → List ℕ → Type 0
AtWork c p g script status out =
    ((is_too_much c p g ≡ true) × StopsBy (S.Limit (too_large c p g)) status out)
    ⊎ ((is_too_much c p g ≡ false) × AtScript c p g script status out)

-- what comes after the file's own stages, for its program and the number of its entry function
abbrev pub Next : Type 1
Next = Program → ℕ → Status → List ℕ → Type 0

-- a function of this name with a body
abbrev pub is_entry : List ℕ → Fun → Bool
is_entry name f = is_some f.body && bytes_eq f.name name

-- its number, where the first of these functions has number n
abbrev pub entry_from : List ℕ → ℕ → List Fun → Option ℕ
entry_from name n [] = None
entry_from name n (f ∷ fs) = if is_entry name f then Some n else entry_from name (n + 1) fs

-- the table: the program has few enough properties, or it is refused
abbrev pub AtTable : Program → ℕ → Next → Status → List ℕ → Type 0
AtTable p g next status out =
    ((n : ℕ) × Tables p (Err (Many.TooManyProps n)) × StopsBy (S.Limit (Limit.TooManyProps n)) status out)
    ⊎ ((t : Props) × Tables p (Ok t) × next p g status out)

-- the entry function: the program defines it, or the file is refused
abbrev pub AtEntry : List ℕ → Program → Next → Status → List ℕ → Type 0
AtEntry name p next status out =
    ((entry_from name 0 p.fns ≡ None) × StopsBy (S.Refused (Fault.Types (T.Unknown name))) status out)
    ⊎ ((g : ℕ) × (entry_from name 0 p.fns ≡ Some g) × AtTable p g next status out)

-- binding: the annotations are bound to the program, or one is in breach
abbrev pub AtBind : List ℕ → Skeleton → List Annot → Next → Status → List ℕ → Type 0
AtBind name s annots next status out =
    ((f : BindFault) × Binds s annots (Err f) × (f ≢ B.Memory)
    × StopsBy (S.Refused (Fault.Bind f)) status out)
    ⊎ ((p : Program) × Binds s annots (Ok p) × AtEntry name p next status out)

-- types: the text has a program, or a breach, a recursive function or too many cells
abbrev pub type_refusal : TypeFault → Status
type_refusal (T.TooManyCells count) = S.Limit (Limit.TooManyCells count)
type_refusal f = S.Refused (Fault.Types f)

abbrev pub text_of : List Item → Text
text_of items = record { items = items }

abbrev pub AtTypes : List ℕ → List Item → List Annot → Next → Status → List ℕ → Type 0
AtTypes name items annots next status out =
    ((f : TypeFault) × Checks (text_of items) (Err f) × (f ≢ T.Memory) × StopsBy (type_refusal f) status out)
    ⊎ ((s : Skeleton) × Checks (text_of items) (Ok s) × AtBind name s annots next status out)

-- the grammar of annotations: each note is one, or the reading of one stops
abbrev pub AtNotes : List ℕ → List ℕ → List Token → List Item → Next → Status → List ℕ → Type 0
AtNotes name file tokens items next status out =
    ((f : AcslFault) × IsFirstFault file (notes_of tokens) f × (f ≢ A.Memory)
    × StopsBy (S.Refused (Fault.Acsl f)) status out)
    ⊎ ((annots : List Annot) × AreAnnots file annots (notes_of tokens)
    × AtTypes name items annots next status out)

-- the grammar of C: the tokens are a text of C, or the reading stops
abbrev pub AtParse : List ℕ → List ℕ → List Token → Next → Status → List ℕ → Type 0
AtParse name file tokens next status out =
    ((f : ParseFault) × IsFault file tokens f × (f ≢ P.Memory)
    × StopsBy (S.Refused (Fault.Parse f)) status out)
    ⊎ ((items : List Item) × IsUnit file items tokens × AtNotes name file tokens items next status out)

-- tokens: the file has tokens of C, or a first fault
abbrev pub AtLex : List ℕ → List ℕ → Next → Status → List ℕ → Type 0
AtLex name file next status out =
    ((f : LexFault) × Stuck file f × StopsBy (S.Refused (Fault.Lex f)) status out)
    ⊎ ((tokens : List Token) × Lexes file tokens × AtParse name file tokens next status out)

-- the file: it is within its limit, or it is refused
abbrev pub AtLength : List ℕ → List ℕ → Next → Status → List ℕ → Type 0
AtLength name file next status out =
    ((most_file < length file) × StopsBy (S.Limit (Limit.FileTooLong (most_file + 1))) status out)
    ⊎ ((length file ≤ most_file) × AtLex name file next status out)

-- the name of the entry function: `main`, if the command names no other
abbrev pub entry_name : Option (List ℕ) → List ℕ
entry_name None = codes "main"
entry_name (Some name) = name

-- what comes after the file, for its program and its entry function
abbrev pub after_file : Files → Command → Next
after_file files c p g status out = AtWork c p g (script_of files c.script) status out

-- the files of a command
abbrev pub AtFile : Files → Command → Status → List ℕ → Type 0
AtFile files c status out = AtLength (entry_name c.main) (contents_of c.file files)
    (after_file files c) status out

-- the words: they are a command, or they are refused
abbrev pub AtWords : Files → Option Command → Status → List ℕ → Type 0
AtWords files None status out = StopsBy S.Usage status out
AtWords files (Some c) status out = AtFile files c status out

abbrev pub Works : List (List ℕ) → Files → Status → List ℕ → Type 0
Works words files status out = AtWords files (report_command words) status out

-- a text and annotations that have this program
pub record IsBound (items : List Item) (annots : List Annot) (p : Program) : Type 0 where
  pub skeleton : Skeleton
  pub checks : Checks (text_of items) (Ok skeleton)
  pub binds : Binds skeleton annots (Ok p)

-- a program with few enough properties, whose entry function of this name has this number
pub record Enters (name : List ℕ) (p : Program) (g : ℕ) : Type 0 where
  pub entry : entry_from name 0 p.fns ≡ Some g
  pub table : Props
  pub tables : Tables p (Ok table)

-- a text and annotations that have such a program
pub record IsTypedText (name : List ℕ) (items : List Item) (annots : List Annot) (p : Program)
    (g : ℕ) : Type 0 where
  pub bound : IsBound items annots p
  pub enters : Enters name p g

-- What is read: a file that passes all its stages, of this program, whose entry function has this number.
pub record IsRead (name file : List ℕ) (p : Program) (g : ℕ) : Type 0 where
  pub within : length file ≤ most_file
  pub tokens : List Token
  pub lexes : Lexes file tokens
  pub items : List Item
  pub parses : IsUnit file items tokens
  pub annots : List Annot
  pub noted : AreAnnots file annots (notes_of tokens)
  pub typed : IsTypedText name items annots p g

-- the analysis isn't too much work, and this is the history of the opening and of the script, if one is named
abbrev pub Makes : Command → Program → ℕ → Option (List ℕ) → History → Type 0
Makes c p g None h = (is_too_much c p g ≡ false) × (h ≡ history_of c p g)
Makes c p g (Some script) h = (is_too_much c p g ≡ false) × (length script ≤ most_script)
    × (scripted p (history_of c p g) script ≡ Ok h)
