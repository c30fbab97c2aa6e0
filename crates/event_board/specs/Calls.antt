-- What a call of a board comes to: its one event, and its answer over the history that stands before that event (this
-- project's own).
use Rattle.std.specs.Prelude.{◌≡◌, ◌<◌, ◌^◌, ℕ, List, [], ◌∷◌, ◌++◌, true, length, Option, Some, None, Result, Ok, Err, IfOk, ⊤}
use Rattle.std.specs.List.{list_all}
use Rattle.std.specs.Result.{result_err}
use Rattle.fc_base.specs.declared.params.ParamValues.{ParamValues}
use Rattle.c_ir.specs.Props.{Props}
use Rattle.status_history.specs.Events.{event_at, is_apart, kept}
use Rattle.status_history.specs.Values.{version_of}
use Rattle.status_history.specs.declared.events.Event.{Event}
use Rattle.status_history.specs.declared.events.Half.{Half}
use Rattle.status_history.specs.declared.events.What.{What}
use Rattle.status_history.specs.declared.events.What.TheVariants.{Done, Asked}
use Rattle.status_history.specs.declared.history.Change.{Change}
use Rattle.status_history.specs.declared.history.Change.TheVariants.{Emit}
use Rattle.status_history.specs.declared.history.Entry.{Entry}
use Rattle.status_history.specs.declared.history.History.{History}
use Rattle.status_rules.specs.Answers.{Answers, refused_question}
use Rattle.status_rules.specs.Judge.{judge, judge_own}
use Rattle.status_rules.specs.declared.questions.Answer.{Answer}
use Rattle.status_rules.specs.declared.questions.Body.{Body}
use Rattle.status_rules.specs.declared.questions.Body.TheVariants as B
use Rattle.status_rules.specs.declared.questions.Question.{Question}
use Rattle.status_rules.specs.declared.refusals.BoardFault.{BoardFault}
use Rattle.status_rules.specs.declared.refusals.BoardFault.TheVariants as F
use Rattle.status_rules.specs.declared.refusals.Placed.{Placed}
use Rattle.status_rules.specs.declared.refusals.Refusal.{Refusal}
use Rattle.status_rules.specs.declared.refusals.Refusal.TheVariants.{EventsFull}
use Rattle.event_board.specs.Asked.{all_fit}

-- what a board had seen before a call and has seen after it
pub record Seen : Type 0 where
  pub opening : ParamValues
  pub address : List Half
  pub before : List Event
  pub now : List Event

-- the call's event comes at the board's address after what was seen and after events of others, none of which is
-- under the board's pass or has an address that begins its address; there was room for it
pub record Adds (s : Seen) (others : List Event) (what : What) : Type 0 where
  pub apart : list_all (is_apart s.address) others ≡ true
  pub room : length (s.before ++ others) < 2 ^ 62
  pub seen : s.now ≡ (s.before ++ others) ++ event_at s.address what ∷ []

-- no event is added to those of others, as there are 2^62
pub record AddsNone (s : Seen) (others : List Event) : Type 0 where
  pub apart : list_all (is_apart s.address) others ≡ true
  pub seen : s.now ≡ s.before ++ others
  pub full : length s.now ≡ 2 ^ 62

-- the history that stands before the call's event
abbrev pub history_of : Seen → List Event → History
history_of s others = kept s.opening (s.before ++ others)

-- the counts of a refusal
pub record Counts (h : History) (at version : ℕ) : Type 0 where
  pub at_is : at ≡ length h.changes
  pub version_is : version ≡ version_of h

-- a refusal: either there was no room for the event, or it is the one that the history gives
abbrev pub Refuses : Seen → (History → Option Refusal) → ℕ → ℕ → Refusal → Type 0
Refuses s why_of at version (EventsFull n) =
    (others : List Event) × AddsNone s others × Counts (history_of s others) at version × (n ≡ 2 ^ 62)
Refuses s why_of at version why =
    (others : List Event) × Adds s others Asked × Counts (history_of s others) at version
    × (why_of (history_of s others) ≡ Some why)

-- a look
abbrev pub Looked : Props → Seen → Question → Result Answer BoardFault → Type 0
Looked t s q (Ok a) =
    (others : List Event) × Adds s others Asked × (refused_question t q ≡ None)
    × Answers t q (history_of s others) a
Looked t s q (Err (F.Refused at version why)) = Refuses s (λ h. refused_question t q) at version why
Looked t s q (Err F.Memory) = s.now ≡ s.before

-- a change, for what changes are answered over a history
abbrev pub Judged : (History → Result Placed Refusal) → Seen → Change → Result Placed BoardFault → Type 0
Judged answer s c (Ok placed) =
    (others : List Event) × Adds s others (Done c) × (answer (history_of s others) ≡ Ok placed)
Judged answer s c (Err (F.Refused at version why)) = Refuses s (λ h. result_err (answer h)) at version why
Judged answer s c (Err F.Memory) = s.now ≡ s.before

abbrev pub Changed : Props → Seen → Change → Result Placed BoardFault → Type 0
Changed t s c result = Judged (λ h. judge t h c) s c result

abbrev pub Owned : Props → Seen → Entry → Result Placed BoardFault → Type 0
Owned t s e result = Judged (λ h. judge_own t h e) s (Emit e) result

-- the values of the parameters that a look answers fit
abbrev pub BodyFits : Props → Body → Type 0
BodyFits t (B.Params values) = all_fit t values ≡ true
BodyFits t body = ⊤

abbrev pub AnswerFits : Props → Result Answer BoardFault → Type 0
AnswerFits t result = IfOk result (λ a. BodyFits t a.body)
