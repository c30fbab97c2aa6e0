-- What the steps of a call come to, stage by stage.
use Rattle.std.proofs.Common.{◌≡◌, inl, inr, ℕ, true, false, List, [], Option, None, Some, IfSome, refl, sym, ap, subst, ◌∙◌, arith}
use Rattle.std.specs.Prelude.{Result, Ok, Err}
use Rattle.std.specs.Global.{Vec}
use Rattle.std.proofs.lemmas.Option.{none-some, same_Some}
use Rattle.c_ast.specs.declared.annot.Annot.{Annot}
use Rattle.c_ast.specs.declared.unit.Item.{Item}
use Rattle.c_ir.specs.Programs.{Program}
use Rattle.fc_outside.specs.Contents.{contents_of, told_contents}
use Rattle.status_history.specs.declared.history.History.{History}
use Rattle.std.proofs.lemmas.Bool.{true≢false}
use Rattle.fc_outside.specs.Requests.{Requests}
use Rattle.kernel_serve.specs.Asked.{AsksFiles, HasProgram, ReadsFile}
use Rattle.kernel_serve.specs.Script.{LineStop, scripted}
use Rattle.kernel_serve.specs.Stages.{AtEntry, AtFile, AtLength, AtLines, AtScript, AtTypes, AtWork, IsRead, Makes, Next, after_file, entry_name, history_of, is_too_much, report_of, script_of}
use Rattle.kernel_serve.specs.Told.{Files}
use Rattle.kernel_serve.specs.Words.{Command}
use Rattle.kernel_serve.specs.declared.front.Entered.{Entered}
use Rattle.kernel_serve.specs.declared.status.Status.{Status}
use Rattle.kernel_serve.specs.declared.status.Status.TheVariants as S
use Rattle.kernel_serve.specs.inner.Steps.{AsksMore, IsHistoryAnswer, IsFileAnswer, IsMoreAnswer, OnlyReport, OnlyText, StopsAtFile, ToldHistory, UnlessReadFault, nothing}

-- what stops in the file's own stages stops, whatever comes after
lift_entry : (name : List ℕ) (p : Program) (next : Next) (status : Status) (out : List ℕ)
    → AtEntry name p nothing status out → AtEntry name p next status out
lift_entry name p next status out (inl none) = inl none
lift_entry name p next status out (inr (g, is, inl many)) = inr (g, is, inl many)
lift_entry name p next status out (inr (g, is, inr (t, tables, at))) = absurd at

lift_types : (name : List ℕ) (is : List Item) (xs : List Annot) (next : Next) (status : Status) (out : List ℕ)
    → AtTypes name is xs nothing status out → AtTypes name is xs next status out
lift_types name is xs next status out (inl fault) = inl fault
lift_types name is xs next status out (inr (s, checks, inl fault)) = inr (s, checks, inl fault)
lift_types name is xs next status out (inr (s, checks, inr (p, binds, at))) = inr
    (s, checks, inr (p, binds, lift_entry name p next status out at))

lift : (name file : List ℕ) (next : Next) (status : Status) (out : List ℕ)
    → AtLength name file nothing status out → AtLength name file next status out
lift name file next status out (inl long) = inl long
lift name file next status out (inr (within, inl stuck)) = inr (within, inl stuck)
lift name file next status out (inr (within, inr (ts, lexes, inl fault))) = inr
    (within, inr (ts, lexes, inl fault))
lift name file next status out (inr (within, inr (ts, lexes, inr (is, parses, inl fault)))) = inr
    (within, inr (ts, lexes, inr (is, parses, inl fault)))
lift name file next status out (inr (within, inr (ts, lexes, inr (is, parses, inr (xs, noted, at))))) = inr
    (within, inr (ts, lexes, inr (is, parses, inr (xs, noted, lift_types name is xs next status out at))))

-- a file that passes all its stages hands on
through : (name file : List ℕ) (p : Program) (g : ℕ) (next : Next) (status : Status) (out : List ℕ)
    → IsRead name file p g → next p g status out → AtLength name file next status out
through name file p g next status out read at =
    let b = read.typed.bound in
    let e = read.typed.enters in
    inr (
      read.within,
      inr (
        read.tokens,
        read.lexes,
        inr (
          read.items,
          read.parses,
          inr (
            read.annots,
            read.noted,
            inr
                (b.skeleton, b.checks, inr (p, b.binds, inr (g, e.entry, inr (e.table, e.tables, at)))),
          ),
        ),
      ),
    )

abbrev pub Bytes : Files → Command → List ℕ
Bytes fs c = contents_of c.file fs

abbrev pub name_of : Command → List ℕ
name_of c = entry_name c.main

file_stops : (fs : Files) (c : Command) (status : Status)
    → UnlessReadFault {A = Entered} (Err status) (IsFileAnswer (name_of c) (Bytes fs c) (Err status))
    → StopsAtFile fs c status
file_stops fs c S.ReadFault h = tt
file_stops fs c S.Memory h = tt
file_stops fs c (S.Refused fault) h = lift (name_of c) (Bytes fs c) (after_file fs c)
    (S.Refused fault) [] h.stops
file_stops fs c (S.Limit fault) h = lift (name_of c) (Bytes fs c) (after_file fs c) (S.Limit fault) [] h.stops
file_stops fs c (S.ScriptLine line why) h = absurd h.stops
file_stops fs c S.Done h = tt
file_stops fs c S.Usage h = tt
file_stops fs c S.WriteFault h = tt

abbrev pub FileTold : Option Files → Command → Result Entered Status → Type 0
FileTold files c answer = IfSome (told_contents c.file files)
    (λ all. UnlessReadFault answer (IsFileAnswer (name_of c) all answer))

-- by what the code has
pub file_told : (files : Option Files) (c : Command) (name : List ℕ) (answer : Result Entered Status) → name
    ≡ name_of c
    → IfSome (told_contents c.file files) (λ all. UnlessReadFault answer (IsFileAnswer name all answer))
    → FileTold files c answer
file_told files c name answer is h =
    subst (λ (n : List ℕ). IfSome (told_contents c.file files)
    (λ all. UnlessReadFault answer (IsFileAnswer n all answer)))
    is h

pub file_stops_told : (files : Option Files) (c : Command) (status : Status) → FileTold files c (Err status)
    → IfSome files (λ fs. StopsAtFile fs c status)
file_stops_told None c status h = tt
file_stops_told (Some fs) c status h = file_stops fs c status h

file_only : (fs : Files) (c : Command) (status : Status)
    → UnlessReadFault {A = Entered} (Err status) (IsFileAnswer (name_of c) (Bytes fs c) (Err status))
    → OnlyReport fs c (Err status)
file_only fs c S.ReadFault h p g cs read made = tt
file_only fs c S.Memory h p g cs read made = tt
file_only fs c (S.Refused fault) h p g cs read made = h.only p g read
file_only fs c (S.Limit fault) h p g cs read made = h.only p g read
file_only fs c (S.ScriptLine line why) h p g cs read made = h.only p g read
file_only fs c S.Done h p g cs read made = h.only p g read
file_only fs c S.Usage h p g cs read made = h.only p g read
file_only fs c S.WriteFault h p g cs read made = h.only p g read

pub file_only_told : (files : Option Files) (c : Command) (status : Status) → FileTold files c (Err status)
    → IfSome files (λ fs. OnlyReport fs c (Err status))
file_only_told None c status h = tt
file_only_told (Some fs) c status h = file_only fs c status h

-- the script's stages
stopped_by : (c : Command) (p : Program) (o : Result History LineStop) (stop : LineStop) (status : Status) → o ≡ Err stop
    → AtLines c p (Err stop) status [] → AtLines c p o status []
stopped_by c p o stop status is at = subst (λ x. AtLines c p x status []) (sym is) at

at_script : (c : Command) (p : Program) (g : ℕ) (script : Option (List ℕ)) (status : Status)
    → IsMoreAnswer c p g script (Err status) → (status ≡ S.Memory → ⊥) → AtScript c p g script status []
at_script c p g None S.Memory h other = absurd (other refl)
at_script c p g None S.ReadFault h other = absurd h
at_script c p g None (S.Refused fault) h other = absurd h
at_script c p g None (S.Limit fault) h other = absurd h
at_script c p g None (S.ScriptLine line why) h other = absurd h
at_script c p g None S.Done h other = absurd h
at_script c p g None S.Usage h other = absurd h
at_script c p g None S.WriteFault h other = absurd h
at_script c p g (Some script) S.Memory h other = absurd (other refl)
at_script c p g (Some script) S.ReadFault h other = absurd h
at_script c p g (Some script) (S.Refused fault) h other = absurd h
at_script c p g (Some script) (S.Limit fault) h other = inl (h.1, (h.0, refl))
at_script c p g (Some script) (S.ScriptLine line why) h other =
    inr (
      h.0,
      stopped_by c p (scripted p (history_of c p g) script) (record { line = line; why = why })
          (S.ScriptLine line why) h.1 (refl, refl),
    )
at_script c p g (Some script) S.Done h other = absurd h
at_script c p g (Some script) S.Usage h other = absurd h
at_script c p g (Some script) S.WriteFault h other = absurd h

same_status : {a b : Status} → ◌≡◌ {A = Result History Status} (Err a) (Err b) → a ≡ b
same_status h = cc

-- the work of the analysis, and then the script
at_work : (c : Command) (p : Program) (g : ℕ) (script : Option (List ℕ)) (status : Status)
    → IsHistoryAnswer c p g script (Err status) → (status ≡ S.Memory → ⊥) → AtWork c p g script status []
at_work c p g script status (inl much) other = inl (much.0, (same_status much.1, refl))
at_work c p g script status (inr (inl none)) other = absurd (other (same_status none))
at_work c p g script status (inr (inr more)) other = inr (more.0, at_script c p g script status more.1 other)

script_stops : (fs : Files) (c : Command) (p : Program) (g : ℕ) (status : Status)
    → IsRead (name_of c) (Bytes fs c) p g
    → UnlessReadFault {A = History} (Err status) (IsHistoryAnswer c p g (script_of fs c.script) (Err status))
    → StopsAtFile fs c status
script_stops fs c p g S.ReadFault read h = tt
script_stops fs c p g S.Memory read h = tt
script_stops fs c p g (S.Refused fault) read h =
    through (name_of c) (Bytes fs c) p g (after_file fs c) (S.Refused fault) [] read
    (at_work c p g (script_of fs c.script) (S.Refused fault) h (λ e. absurd cc))
script_stops fs c p g (S.Limit fault) read h =
    through (name_of c) (Bytes fs c) p g (after_file fs c) (S.Limit fault) [] read
    (at_work c p g (script_of fs c.script) (S.Limit fault) h (λ e. absurd cc))
script_stops fs c p g (S.ScriptLine line why) read h =
    through (name_of c) (Bytes fs c) p g (after_file fs c) (S.ScriptLine line why) [] read
    (at_work c p g (script_of fs c.script) (S.ScriptLine line why) h (λ e. absurd cc))
script_stops fs c p g S.Done read h = tt
script_stops fs c p g S.Usage read h = tt
script_stops fs c p g S.WriteFault read h = tt

pub script_stops_told : (files : Option Files) (c : Command) (e : Entered) (status : Status)
    → FileTold files c (Ok e) → ToldHistory files c e (Err status)
    → IfSome files (λ fs. StopsAtFile fs c status)
script_stops_told None c e status file h = tt
script_stops_told (Some fs) c e status file h = script_stops fs c e.program e.entry status file.found h

no_both : {A B : Type 0} {o : Result A B} {x : A} {y : B} → o ≡ Ok x → o ≡ Err y → ⊥
no_both is other = cc

no_more : (c : Command) (p : Program) (g : ℕ) (script : Option (List ℕ)) (made : History) (text : List ℕ)
    (status : Status) → Makes c p g script made → IsMoreAnswer c p g script (Err status)
    → (status ≡ S.ReadFault → ⊥) → OnlyText text (Err status)
no_more c p g script made text S.ReadFault is h other = tt
no_more c p g None made text S.Memory is h other = tt
no_more c p g (Some script) made text S.Memory is h other = tt
no_more c p g None made text (S.Refused fault) is h other = h
no_more c p g (Some script) made text (S.Refused fault) is h other = h
no_more c p g None made text (S.Limit fault) is h other = h
no_more c p g (Some script) made text (S.Limit fault) is h other = absurd (omega (arith, h.1, is.1))
no_more c p g None made text (S.ScriptLine line why) is h other = h
no_more c p g (Some script) made text (S.ScriptLine line why) is h other = absurd (no_both is.2 h.1)
no_more c p g None made text S.Done is h other = h
no_more c p g (Some script) made text S.Done is h other = h
no_more c p g None made text S.Usage is h other = h
no_more c p g (Some script) made text S.Usage is h other = h
no_more c p g None made text S.WriteFault is h other = h
no_more c p g (Some script) made text S.WriteFault is h other = h

-- where a history is made the analysis isn't too much work
within : (c : Command) (p : Program) (g : ℕ) (script : Option (List ℕ)) (cs : History) → Makes c p g script cs
    → is_too_much c p g ≡ false
within c p g None cs made = made.0
within c p g (Some script) cs made = made.0

no_answer : (c : Command) (p : Program) (g : ℕ) (script : Option (List ℕ)) (cs : History) (text : List ℕ)
    (status : Status) → Makes c p g script cs → IsHistoryAnswer c p g script (Err status)
    → (status ≡ S.ReadFault → ⊥) → OnlyText text (Err status)
no_answer c p g script cs text status made (inl much) other =
    absurd (true≢false (sym much.0 ∙ within c p g script cs made))
no_answer c p g script cs text status made (inr (inl none)) other =
    subst (λ (s : Status). OnlyText text (Err s)) (sym (same_status none)) tt
no_answer c p g script cs text status made (inr (inr more)) other =
    no_more c p g script cs text status made more.1 other

unless_answer : (c : Command) (p : Program) (g : ℕ) (script : Option (List ℕ)) (cs : History) (text : List ℕ)
    (status : Status) → Makes c p g script cs
    → UnlessReadFault {A = History} (Err status) (IsHistoryAnswer c p g script (Err status))
    → OnlyText text (Err status)
unless_answer c p g script cs text S.ReadFault made h = tt
unless_answer c p g script cs text S.Memory made h = tt
unless_answer c p g script cs text (S.Refused fault) made h =
    no_answer c p g script cs text (S.Refused fault) made h (λ e. absurd cc)
unless_answer c p g script cs text (S.Limit fault) made h =
    no_answer c p g script cs text (S.Limit fault) made h (λ e. absurd cc)
unless_answer c p g script cs text (S.ScriptLine line why) made h =
    no_answer c p g script cs text (S.ScriptLine line why) made h (λ e. absurd cc)
unless_answer c p g script cs text S.Done made h =
    no_answer c p g script cs text S.Done made h (λ e. absurd cc)
unless_answer c p g script cs text S.Usage made h =
    no_answer c p g script cs text S.Usage made h (λ e. absurd cc)
unless_answer c p g script cs text S.WriteFault made h =
    no_answer c p g script cs text S.WriteFault made h (λ e. absurd cc)

script_only : (fs : Files) (c : Command) (e : Entered) (status : Status) → FileTold (Some fs) c (Ok e)
    → ToldHistory (Some fs) c e (Err status) → OnlyReport fs c (Err status)
script_only fs c e status file h p g cs read made =
    let same = file.only p g read in
    let here = subst (λ (q : Program). UnlessReadFault {A = History} (Err status)
    (IsHistoryAnswer c q e.entry (script_of fs c.script) (Err status))) same.0 h in
    let there = subst (λ (k : ℕ). UnlessReadFault {A = History} (Err status)
    (IsHistoryAnswer c p k (script_of fs c.script) (Err status))) same.1 here in
    unless_answer c p g (script_of fs c.script) cs (report_of c p cs) status made there

pub script_only_told : (files : Option Files) (c : Command) (e : Entered) (status : Status)
    → FileTold files c (Ok e) → ToldHistory files c e (Err status)
    → IfSome files (λ fs. OnlyReport fs c (Err status))
script_only_told None c e status file h = tt
script_only_told (Some fs) c e status file h = script_only fs c e status file h

-- no memory
pub memory_only : (files : Option Files) (c : Command) → IfSome files (λ fs. OnlyReport fs c (Err S.Memory))
memory_only None c = tt
memory_only (Some fs) c = λ p g cs read made. tt

pub memory_stops : (files : Option Files) (c : Command) → IfSome files (λ fs. StopsAtFile fs c S.Memory)
memory_stops None c = tt
memory_stops (Some fs) c = tt

-- the report
not_much : (c : Command) (p : Program) (g : ℕ) (script : Option (List ℕ)) (cs : History)
    → IsMoreAnswer c p g script (Ok cs) → is_too_much c p g ≡ false → Makes c p g script cs
not_much c p g None cs h few = (few, h)
not_much c p g (Some script) cs h few = (few, h.0, h.1)

pub made_by : (c : Command) (p : Program) (g : ℕ) (script : Option (List ℕ)) (cs : History)
    → UnlessReadFault {A = History} (Ok cs) (IsHistoryAnswer c p g script (Ok cs)) → Makes c p g script cs
made_by c p g script cs (inl much) = absurd (not_err much.1)
  where
    not_err : {s : Status} → ◌≡◌ {A = Result History Status} (Ok cs) (Err s) → ⊥
    not_err e = cc
made_by c p g script cs (inr (inl none)) = absurd (not_err none)
  where
    not_err : {s : Status} → ◌≡◌ {A = Result History Status} (Ok cs) (Err s) → ⊥
    not_err e = cc
made_by c p g script cs (inr (inr more)) = not_much c p g script cs more.1 more.0

at_report : (c : Command) (p : Program) (g : ℕ) (script : Option (List ℕ)) (cs : History) (text : List ℕ)
    → Makes c p g script cs → text ≡ report_of c p cs → AtWork c p g script S.Done text
at_report c p g None cs text made printed = inr (made.0, (refl, printed ∙ ap (report_of c p) made.1))
at_report c p g (Some script) cs text made printed =
    inr (made.0, inr (made.1, subst (λ o. AtLines c p o S.Done text) (sym made.2) (refl, printed)))

pub text_told : (files : Option Files) (c : Command) (e : Entered) (cs : History) (text : Vec ℕ)
    → FileTold files c (Ok e) → ToldHistory files c e (Ok cs) → text.items
    ≡ report_of c e.program cs → IfSome files (λ fs. AtFile fs c S.Done text.items)
text_told None c e cs text file script printed = tt
text_told (Some fs) c e cs text file script printed =
    through (name_of c) (Bytes fs c) e.program e.entry (after_file fs c) S.Done text.items file.found
    (at_report c e.program e.entry (script_of fs c.script) cs text.items
    (made_by c e.program e.entry (script_of fs c.script) cs script) printed)

same_Ok : {A B : Type 0} {x y : A} → ◌≡◌ {A = Result A B} (Ok x) (Ok y) → x ≡ y
same_Ok is = cc

same_made : (c : Command) (p : Program) (g : ℕ) (script : Option (List ℕ)) (cs ds : History)
    → Makes c p g script cs → Makes c p g script ds → cs ≡ ds
same_made c p g None cs ds made again = made.1 ∙ sym again.1
same_made c p g (Some script) cs ds made again = same_Ok (sym made.2 ∙ again.2)

pub only_told : (files : Option Files) (c : Command) (e : Entered) (cs : History) (text : Vec ℕ)
    → FileTold files c (Ok e) → ToldHistory files c e (Ok cs) → text.items
    ≡ report_of c e.program cs → IfSome files (λ fs. OnlyReport fs c (Ok text))
only_told None c e cs text file script printed = tt
only_told (Some fs) c e cs text file script printed = λ p g ds read made.
    let same = file.only p g read in
    let one = subst (λ (q : Program). Makes c q e.entry (script_of fs c.script) cs) same.0
    (made_by c e.program e.entry (script_of fs c.script) cs script) in
    let here = subst (λ (k : ℕ). Makes c p k (script_of fs c.script) cs) same.1 one in
    let equal = same_made c p g (script_of fs c.script) cs ds here made in
    printed ∙ (ap (λ (q : Program). report_of c q cs) same.0 ∙ ap (report_of c p) equal)

-- a file that passes all its stages was asked for, and then the script or nothing
pub asks : (files : Option Files) (c : Command) (e : Entered) (old mid new : Option Requests)
    → ReadsFile c.file old mid → AsksMore c e mid new → FileTold files c (Ok e) → AsksFiles files old new c
asks files c e old mid new read (inl same) file =
    inl (subst (λ (r : Option Requests). ReadsFile c.file old r) (sym same) read)
asks files c e old mid new read (inr more) file = inr (mid, read, more.1, has_program files c e more.0 file)
  where
    has_program : (files : Option Files) (c : Command) (e : Entered) → is_too_much c e.program e.entry ≡ false
        → FileTold files c (Ok e) → HasProgram files c
    has_program None c e few h = tt
    has_program (Some fs) c e few h = (e.program, e.entry, h.found, few)
