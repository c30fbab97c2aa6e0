-- What a program says of how a call ended: `exit_status`, `fault_text` (this project's own).
use Rattle.std.specs.Prelude.{ℕ, List, [], ◌++◌, codes}
use Rattle.std.specs.Fmt.{decimal}
use Rattle.acsl_bind.specs.declared.fault.BindFault.{BindFault}
use Rattle.acsl_bind.specs.declared.fault.BindFault.TheVariants as B
use Rattle.acsl_read.specs.declared.text.AcslFault.{AcslFault}
use Rattle.acsl_read.specs.declared.text.AcslFault.TheVariants as A
use Rattle.c_lex.specs.declared.fault.LexFault.{LexFault}
use Rattle.c_lex.specs.declared.fault.LexFault.TheVariants as L
use Rattle.c_parse.specs.declared.text.ParseFault.{ParseFault}
use Rattle.c_parse.specs.declared.text.ParseFault.TheVariants as P
use Rattle.c_types.specs.declared.fault.TypeFault.{TypeFault}
use Rattle.c_types.specs.declared.fault.TypeFault.TheVariants as T
use Rattle.kernel_serve.specs.declared.status.FrontFault.TheVariants as Fault
use Rattle.status_rules.specs.declared.refusals.Refusal.{Refusal}
use Rattle.status_rules.specs.declared.refusals.Refusal.TheVariants as R
use Rattle.kernel_serve.specs.declared.status.LimitFault.{LimitFault}
use Rattle.kernel_serve.specs.declared.status.LimitFault.TheVariants as Limit
use Rattle.kernel_serve.specs.declared.status.LineFault.{LineFault}
use Rattle.kernel_serve.specs.declared.status.LineFault.TheVariants as Line
use Rattle.kernel_serve.specs.declared.status.Status.{Status}
use Rattle.kernel_serve.specs.declared.status.Status.TheVariants as S

-- the exit status of the program
abbrev pub exit_status : Status → ℕ
exit_status S.Done = 0
exit_status (S.Refused fault) = 1
exit_status S.Usage = 2
exit_status S.ReadFault = 3
exit_status S.WriteFault = 4
exit_status S.Memory = 5
exit_status (S.Limit fault) = 6
exit_status (S.ScriptLine line why) = 7

-- a name and a number, on a line
abbrev pub with_number : List ℕ → ℕ → List ℕ
with_number text n = text ++ (decimal n ++ codes "\n")

unfoldable pub lex_text : LexFault → List ℕ
lex_text (L.BadByte at) = with_number (codes "refused: lex BadByte ") at
lex_text (L.OpenComment at) = with_number (codes "refused: lex OpenComment ") at
lex_text (L.LiteralTooWide at) = with_number (codes "refused: lex LiteralTooWide ") at
lex_text (L.Directive line) = with_number (codes "refused: lex Directive ") line.0
lex_text (L.NameTooLong at) = with_number (codes "refused: lex NameTooLong ") at
lex_text L.Memory = codes "out of memory\n"

unfoldable pub parse_text : ParseFault → List ℕ
parse_text (P.NotC at) = with_number (codes "refused: parse NotC ") at
parse_text (P.Unsupported word at) = codes "refused: parse Unsupported "
    ++ (word ++ with_number (codes " ") at)
parse_text (P.TooDeep at) = with_number (codes "refused: parse TooDeep ") at
parse_text P.Memory = codes "out of memory\n"

-- a name, on a line
abbrev pub with_name : List ℕ → List ℕ → List ℕ
with_name text x = text ++ (x ++ codes "\n")

unfoldable pub types_text : TypeFault → List ℕ
types_text (T.Unknown x) = with_name (codes "refused: types Unknown ") x
types_text (T.Twice x) = with_name (codes "refused: types Twice ") x
types_text (T.BadType at) = with_number (codes "refused: types BadType ") at
types_text (T.Arity at) = with_number (codes "refused: types Arity ") at
types_text (T.SideEffect at) = with_number (codes "refused: types SideEffect ") at
types_text (T.Recursive x) = with_name (codes "refused: types Recursive ") x
types_text (T.ConstWrite at) = with_number (codes "refused: types ConstWrite ") at
types_text (T.TooManyCells count) = with_number (codes "limit: TooManyCells ") count
types_text T.Memory = codes "out of memory\n"

unfoldable pub acsl_text : AcslFault → List ℕ
acsl_text (A.NotAcsl at) = with_number (codes "refused: acsl NotAcsl ") at
acsl_text (A.Unsupported word at) = codes "refused: acsl Unsupported " ++ (word ++ with_number (codes " ") at)
acsl_text (A.TooDeep at) = with_number (codes "refused: acsl TooDeep ") at
acsl_text A.Memory = codes "out of memory\n"

unfoldable pub bind_text : BindFault → List ℕ
bind_text (B.Unknown x) = with_name (codes "refused: bind Unknown ") x
bind_text (B.NotHere at) = with_number (codes "refused: bind NotHere ") at
bind_text (B.BadType at) = with_number (codes "refused: bind BadType ") at
bind_text B.Memory = codes "out of memory\n"

unfoldable pub limit_text : LimitFault → List ℕ
limit_text (Limit.FileTooLong count) = with_number (codes "limit: FileTooLong ") count
limit_text (Limit.ScriptTooLong count) = with_number (codes "limit: ScriptTooLong ") count
limit_text (Limit.TooManyCells count) = with_number (codes "limit: TooManyCells ") count
limit_text (Limit.TooManyProps count) = with_number (codes "limit: TooManyProps ") count
limit_text (Limit.TooLarge work cells) = codes "limit: TooLarge " ++ (decimal work ++ with_number (codes " ") cells)

-- the names of refusals
abbrev pub refusal_name : Refusal → List ℕ
refusal_name R.UnknownEmitter = codes "UnknownEmitter"
refusal_name R.ReservedEmitter = codes "ReservedEmitter"
refusal_name R.UnknownProperty = codes "UnknownProperty"
refusal_name (R.UnknownHyp place) = codes "UnknownHyp"
refusal_name (R.TooManyHyps count) = codes "TooManyHyps"
refusal_name (R.FutureVersion version) = codes "FutureVersion"
refusal_name R.OutOfRange = codes "OutOfRange"
refusal_name R.NameTaken = codes "NameTaken"
refusal_name (R.TooManyEmitters count) = codes "TooManyEmitters"
refusal_name (R.HistoryFull count) = codes "HistoryFull"
refusal_name (R.EventsFull count) = codes "EventsFull"
refusal_name R.Memory = codes "Memory"

-- why a line of a script stops it
abbrev pub line_fault_name : LineFault → List ℕ
line_fault_name Line.Form = codes "Form"
line_fault_name (Line.Refused why) = refusal_name why
line_fault_name Line.TooLarge = codes "TooLarge"

unfoldable pub script_text : ℕ → LineFault → List ℕ
script_text line why = with_name (codes "script line " ++ (decimal line ++ codes ": ")) (line_fault_name why)

-- the line that the program writes to standard error; none where all went well
abbrev pub fault_text : Status → List ℕ
fault_text S.Done = []
fault_text (S.Refused (Fault.Lex fault)) = lex_text fault
fault_text (S.Refused (Fault.Parse fault)) = parse_text fault
fault_text (S.Refused (Fault.Acsl fault)) = acsl_text fault
fault_text (S.Refused (Fault.Types fault)) = types_text fault
fault_text (S.Refused (Fault.Bind fault)) = bind_text fault
fault_text S.Usage = codes "usage\n"
fault_text S.ReadFault = codes "read fault\n"
fault_text S.WriteFault = codes "write fault\n"
fault_text S.Memory = codes "out of memory\n"
fault_text (S.Limit fault) = limit_text fault
fault_text (S.ScriptLine line why) = script_text line why
