-- What a call comes to that ends before it writes, and one that writes.
use Rattle.std.proofs.Common.{◌≡◌, ◌++◌, ◌⊎◌, inl, inr, ◌<◌, length, take, ℕ, List, [], Option, None, Some, refl, sym, ap, subst, ◌∙◌}
use Rattle.std.specs.Prelude.{IfSome, Result, Ok, Err}
use Rattle.std.specs.Global.{Vec}
use Rattle.std.specs.Io.KnownBytes.{append_known}
use Rattle.std.proofs.lemmas.List.{append-nil}
use Rattle.std.proofs.lemmas.Option.{none-some, same_Some}
use Rattle.c_ir.specs.Keeps.{Keeps}
use Rattle.prop_runs.specs.Laws.{RunsKeepLaws}
use Rattle.prop_runs.specs.Numbers.{props_of, runs_of}
use Rattle.eva_rules.specs.Laws.{EntriesAreRight}
use Rattle.rte_alarms.specs.Laws.{DecidedAreRight, LinksAreRight}
use Rattle.status_history.specs.Laws.{ValuesStay}
use Rattle.status_history.specs.declared.history.History.{History}
use Rattle.status_rules.specs.Truth.{VerdictsAreTrue}
use Rattle.kernel_serve.specs.declared.status.Status.{Status}
use Rattle.kernel_serve.specs.declared.status.Status.TheVariants as S
use Rattle.kernel_serve.specs.Headline.{Complete, Outcome, Says, TrueReport}
use Rattle.kernel_serve.specs.Stages.{AtFile, AtWords, Works, report_of, script_of}
use Rattle.kernel_serve.specs.declared.front.Entered.{Entered}
use Rattle.kernel_serve.specs.Told.{Files, WhereTold}
use Rattle.kernel_serve.specs.Words.{Command, report_command}
use Rattle.kernel_serve.specs.inner.Steps.{IsStop, OnlyReport, OnlyText, StopsAtFile, ToldHistory}
use Rattle.kernel_serve.proofs.Stopped.{FileTold, made_by}
use Rattle.kernel_serve.proofs.External.{all_right}

-- a fact, where all is told and nothing was written
untouched : (files : Option Files) (before : Option (List ℕ)) (fact : Files → List ℕ → List ℕ → Type 0)
    → ((fs : Files) (bs : List ℕ) → files ≡ Some fs → fact fs bs bs) → WhereTold files before before fact
untouched None before fact h = tt
untouched (Some fs) None fact h = tt
untouched (Some fs) (Some bs) fact h = (bs, refl, h fs bs refl)

says_nothing : (words : List (List ℕ)) (status : Status) (fs : Files) (bs now : List ℕ) → IsStop status
    → Says words status fs bs now
says_nothing words S.ReadFault fs bs now stop = tt
says_nothing words S.Memory fs bs now stop = tt
says_nothing words (S.Refused fault) fs bs now stop = tt
says_nothing words (S.Limit fault) fs bs now stop = tt
says_nothing words (S.ScriptLine line why) fs bs now stop = tt
says_nothing words S.Done fs bs now stop = absurd stop
says_nothing words S.Usage fs bs now stop = tt
says_nothing words S.WriteFault fs bs now stop = tt

pub stop_says : (words : List (List ℕ)) (status : Status) (files : Option Files) (before : Option (List ℕ))
    → IsStop status → WhereTold files before before (Says words status)
stop_says words status files before stop = untouched files before (Says words status)
    (λ fs bs is. says_nothing words status fs bs bs stop)

-- what the stages from the file on come to, the words do
at_words : (words : List (List ℕ)) (c : Command) (fs : Files) (status : Status) (out : List ℕ)
    → report_command words ≡ Some c → AtFile fs c status out → Works words fs status out
at_words words c fs status out is at = subst (λ o. AtWords fs o status out) (sym is) at

told_stop : (files : Option Files) (fs : Files) (c : Command) (status : Status) → files ≡ Some fs
    → IfSome files (λ fs. StopsAtFile fs c status) → StopsAtFile fs c status
told_stop files fs c status is stops = subst (λ o. IfSome o (λ fs. StopsAtFile fs c status)) is stops

outcome_of : (words : List (List ℕ)) (c : Command) (status : Status) (fs : Files) (bs : List ℕ)
    → report_command words ≡ Some c → IsStop status → StopsAtFile fs c status → Outcome words status fs bs bs
outcome_of words c S.ReadFault fs bs is stop stops = refl
outcome_of words c S.Memory fs bs is stop stops = refl
outcome_of words c (S.Refused fault) fs bs is stop stops =
    ([], at_words words c fs (S.Refused fault) [] is stops, sym (append-nil bs))
outcome_of words c (S.Limit fault) fs bs is stop stops =
    ([], at_words words c fs (S.Limit fault) [] is stops, sym (append-nil bs))
outcome_of words c (S.ScriptLine line why) fs bs is stop stops =
    ([], at_words words c fs (S.ScriptLine line why) [] is stops, sym (append-nil bs))
outcome_of words c S.Done fs bs is stop stops = absurd stop
outcome_of words c S.Usage fs bs is stop stops = absurd stop
outcome_of words c S.WriteFault fs bs is stop stops = absurd stop

pub stop_outcome : (words : List (List ℕ)) (c : Command) (status : Status) (files : Option Files)
    (before : Option (List ℕ)) → report_command words ≡ Some c → IsStop status
    → IfSome files (λ fs. StopsAtFile fs c status) → WhereTold files before before (Outcome words status)
stop_outcome words c status files before is stop stops =
    untouched files before (Outcome words status)
    (λ fs bs told. outcome_of words c status fs bs is stop (told_stop files fs c status told stops))

complete_of : (words : List (List ℕ)) (c : Command) (status : Status) (fs : Files) (bs : List ℕ)
    → report_command words ≡ Some c → (status ≡ S.ReadFault → ⊥) → OnlyReport fs c (Err status)
    → Complete words status fs bs bs
complete_of words c status fs bs is quiet only d p g cs call read made =
    let same : c ≡ d = same_Some c d (sym is ∙ call) in
    not_read status quiet (report_of d p cs)
    (subst (λ (e : Command). OnlyReport fs e (Err status)) same only p g cs read made)
  where
    not_read : (status : Status) → (status ≡ S.ReadFault → ⊥) → (text : List ℕ) → OnlyText text (Err status)
        → (status ≡ S.Memory) ⊎ ((status ≡ S.Done) × (bs ≡ bs ++ text))
    not_read S.ReadFault quiet text h = absurd (quiet refl)
    not_read S.Memory quiet text h = inl refl
    not_read (S.Refused fault) quiet text h = absurd h
    not_read (S.Limit fault) quiet text h = absurd h
    not_read (S.ScriptLine line why) quiet text h = absurd h
    not_read S.Done quiet text h = absurd h
    not_read S.Usage quiet text h = absurd h
    not_read S.WriteFault quiet text h = absurd h

told_only : (files : Option Files) (fs : Files) (c : Command) (answer : Result (Vec ℕ) Status) → files
    ≡ Some fs → IfSome files (λ fs. OnlyReport fs c answer) → OnlyReport fs c answer
told_only files fs c answer is only = subst (λ o. IfSome o (λ fs. OnlyReport fs c answer)) is only

pub stop_complete : (words : List (List ℕ)) (c : Command) (status : Status) (files : Option Files)
    (before : Option (List ℕ)) → report_command words ≡ Some c → (status ≡ S.ReadFault → ⊥)
    → IfSome files (λ fs. OnlyReport fs c (Err status))
    → WhereTold files before before (Complete words status)
stop_complete words c status files before is quiet only =
    untouched files before (Complete words status)
    (λ fs bs told. complete_of words c status fs bs is quiet
    (told_only files fs c (Err status) told only))

-- what was written is the whole report
written_whole : (words : List (List ℕ)) (c : Command) (fs : Files) (bs : List ℕ) (text : Vec ℕ)
    → report_command words ≡ Some c → OnlyReport fs c (Ok text)
    → Complete words S.Done fs bs (bs ++ text.items)
written_whole words c fs bs text is only d p g cs call read made =
    let same : c ≡ d = same_Some c d (sym is ∙ call) in
    inr (
      refl,
      ap (λ t. bs ++ t)
          (subst (λ (e : Command). OnlyReport fs e (Ok text)) same only p g cs read made),
    )

pub done_complete : (words : List (List ℕ)) (c : Command) (files : Option Files)
    (before after : Option (List ℕ)) (text : Vec ℕ) → report_command words ≡ Some c
    → IfSome files (λ fs. OnlyReport fs c (Ok text)) → after ≡ append_known before text.items
    → WhereTold files before after (Complete words S.Done)
done_complete words c None before after text is only written = tt
done_complete words c (Some fs) None after text is only written = tt
done_complete words c (Some fs) (Some bs) after text is only written =
    (bs ++ text.items, written, written_whole words c fs bs text is only)

stop_apart : (status : Status) → IsStop status → (status ≡ S.Usage → ⊥) × (status ≡ S.WriteFault → ⊥)
stop_apart S.ReadFault stop = ((λ e. absurd cc), (λ e. absurd cc))
stop_apart S.Memory stop = ((λ e. absurd cc), (λ e. absurd cc))
stop_apart (S.Refused fault) stop = ((λ e. absurd cc), (λ e. absurd cc))
stop_apart (S.Limit fault) stop = ((λ e. absurd cc), (λ e. absurd cc))
stop_apart (S.ScriptLine line why) stop = ((λ e. absurd cc), (λ e. absurd cc))
stop_apart S.Done stop = absurd stop
stop_apart S.Usage stop = absurd stop
stop_apart S.WriteFault stop = absurd stop

pub no_usage : (words : List (List ℕ)) (c : Command) (status : Status) → report_command words ≡ Some c
    → IsStop status → (status ≡ S.Usage → report_command words ≡ None)
    × (report_command words ≡ None → status ≡ S.Usage)
no_usage words c status is stop =
    ((λ e. absurd ((stop_apart status stop).0 e)), (λ e. absurd (none-some c (sym e ∙ is))))

pub no_write_fault : {A : Type 0} (status : Status) → IsStop status → status ≡ S.WriteFault → A
no_write_fault status stop e = absurd ((stop_apart status stop).1 e)

-- what is written at Done is true
true_by : RunsKeepLaws → VerdictsAreTrue → LinksAreRight → DecidedAreRight → EntriesAreRight → ValuesStay
    → (fs : Files) (c : Command) (e : Entered) (cs : History) (text : List ℕ) → Keeps e.program
    → FileTold (Some fs) c (Ok e) → ToldHistory (Some fs) c e (Ok cs) → text
    ≡ report_of c e.program cs → TrueReport c fs text
unfolding report_of
true_by laws law links decided said stay fs c e cs text keeps file script printed =
    let made = made_by c e.program e.entry (script_of fs c.script) cs script in
    record {
      program = e.program;
      entry = e.entry;
      is_read = file.found;
      history = cs;
      made = made;
      printed = printed;
      true_of_runs = λ right. law (props_of e.program) (runs_of e.program) cs
          (laws e.program keeps)
          (all_right links decided said stay c e.program e.entry (script_of fs c.script) cs keeps made right);
    }

pub true_told : RunsKeepLaws → VerdictsAreTrue → LinksAreRight → DecidedAreRight → EntriesAreRight → ValuesStay
    → (files : Option Files) (c : Command) (e : Entered) (cs : History) (text : List ℕ) → Keeps e.program
    → FileTold files c (Ok e) → ToldHistory files c e (Ok cs) → text
    ≡ report_of c e.program cs → IfSome files (λ fs. TrueReport c fs text)
true_told laws law links decided said stay None c e cs text keeps file script printed = tt
true_told laws law links decided said stay (Some fs) c e cs text keeps file script printed =
    true_by laws law links decided said stay fs c e cs text keeps file script printed

pub done_says : (words : List (List ℕ)) (c : Command) (files : Option Files) (before after : Option (List ℕ))
    (text : List ℕ) → report_command words ≡ Some c → IfSome files (λ fs. TrueReport c fs text) → after
    ≡ append_known before text → WhereTold files before after (Says words S.Done)
done_says words c None before after text is at written = tt
done_says words c (Some fs) None after text is at written = tt
done_says words c (Some fs) (Some bs) after text is at written =
    (bs ++ text, written, record { command = c; is_command = is; out = text; appended = refl; report = at })

pub done_outcome : (words : List (List ℕ)) (c : Command) (files : Option Files)
    (before after : Option (List ℕ)) (text : List ℕ) → report_command words ≡ Some c
    → IfSome files (λ fs. AtFile fs c S.Done text) → after ≡ append_known before text
    → WhereTold files before after (Outcome words S.Done)
done_outcome words c None before after text is at written = tt
done_outcome words c (Some fs) None after text is at written = tt
done_outcome words c (Some fs) (Some bs) after text is at written =
    (bs ++ text, written, (text, at_words words c fs S.Done text is at, refl))

-- a prefix of the report was written
pub fault_outcome : (words : List (List ℕ)) (c : Command) (files : Option Files)
    (before after : Option (List ℕ)) (text : List ℕ) → report_command words ≡ Some c
    → IfSome files (λ fs. AtFile fs c S.Done text) → (n : ℕ) × (n < length text)
    × (after ≡ append_known before (take n text)) → WhereTold files before after (Outcome words S.WriteFault)
fault_outcome words c None before after text is at written = tt
fault_outcome words c (Some fs) None after text is at written = tt
fault_outcome words c (Some fs) (Some bs) after text is at written = (
  bs ++ take written.0 text,
  written.2,
  (text, at_words words c fs S.Done text is at, (written.0, written.1, refl)),
)
