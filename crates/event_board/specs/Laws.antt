-- What a question is answered is one thing, but for supports; what a change is answered rests on changes alone.
use Rattle.std.specs.Prelude.{◌≡◌, Bool, List, true, false}
use Rattle.fc_base.specs.declared.params.ParamValues.{ParamValues}
use Rattle.c_ir.specs.Props.{Props}
use Rattle.status_history.specs.declared.history.Change.{Change}
use Rattle.status_history.specs.declared.history.History.{History}
use Rattle.status_rules.specs.Answers.{Answers}
use Rattle.status_rules.specs.Judge.{judge}
use Rattle.status_rules.specs.declared.questions.Answer.{Answer}
use Rattle.status_rules.specs.declared.questions.Question.{Question}
use Rattle.status_rules.specs.declared.questions.Question.TheVariants as Q

-- whether a question asks for a support
abbrev pub asks_support : Question → Bool
asks_support Q.Params = false
asks_support (Q.List from limit) = false
asks_support (Q.StatusOf p) = false
asks_support (Q.SupportOf p) = true
asks_support (Q.Fetch cursor limit) = false
asks_support Q.Count = false

-- two answers to one question over one history are the same
abbrev pub AnswersAreOne : Type 0
AnswersAreOne =
    (t : Props) (q : Question) (h : History) (a b : Answer) → asks_support q ≡ false → Answers t q h a
    → Answers t q h b → a ≡ b

-- the values at the opening are of no account in what a change is answered
abbrev pub OpeningsDontCount : Type 0
OpeningsDontCount =
    (t : Props) (a b : ParamValues) (cs : List Change) (c : Change)
    → judge t (record { opening = a; changes = cs }) c ≡ judge t (record { opening = b; changes = cs }) c
