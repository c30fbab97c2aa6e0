-- What a question is answered: `Answers` (this project's own).
use Rattle.std.specs.Prelude.{◌≡◌, List, [], ◌∷◌, ℕ, true, not, take, drop, length, Option, Some, None, slice_get, if◌then◌else◌}
use Rattle.fc_base.specs.declared.ids.PropId.{PropId}
use Rattle.c_ir.specs.Props.{Props}
use Rattle.c_ir.specs.Table.{is_row}
use Rattle.status_history.specs.declared.history.History.{History}
use Rattle.status_history.specs.Values.{values_now, version_of}
use Rattle.status_rules.specs.declared.questions.Answer.{Answer}
use Rattle.status_rules.specs.declared.questions.Body.{Body}
use Rattle.status_rules.specs.declared.questions.Body.TheVariants as B
use Rattle.status_rules.specs.declared.questions.Question.{Question}
use Rattle.status_rules.specs.declared.questions.Question.TheVariants as Q
use Rattle.status_rules.specs.declared.refusals.Refusal.{Refusal}
use Rattle.status_rules.specs.declared.refusals.Refusal.TheVariants.{UnknownProperty}
use Rattle.status_rules.specs.Fetch.{IsFetched}
use Rattle.status_rules.specs.Holds.{at_each, basis_of}
use Rattle.status_rules.specs.Judge.{if_so}
use Rattle.status_rules.specs.Support.{IsSupportIfHeld}
use Rattle.status_rules.specs.Verdicts.{full_of}

-- the numbers of all properties, in order
abbrev pub all_props : Props → List PropId
all_props t = at_each (λ p. record { 0 = p }) 0 t.rows

-- What is answered besides the counts: the values at the end; the first properties from a number on; the verdict by
-- full recomputation; a support, if the property holds; the first rows after the cursor; nothing
abbrev pub IsBody : Props → History → Question → Body → Type 0
IsBody t h Q.Params (B.Params values) = values ≡ values_now h
IsBody t h (Q.List from limit) (B.Rows ps) = ps ≡ take limit (drop from (all_props t))
IsBody t h (Q.StatusOf p) (B.Status v) = slice_get (full_of h t) p.0 ≡ Some v
IsBody t h (Q.SupportOf p) (B.Support found) = IsSupportIfHeld (basis_of h t) p.0 found
IsBody t h (Q.Fetch cursor limit) (B.Fetched fetched) = IsFetched h t cursor limit fetched
IsBody t h Q.Count B.Count = Unit {0}
IsBody t h q b = ⊥

-- what a question is answered over a history
pub record Answers (t : Props) (q : Question) (h : History) (a : Answer) : Type 0 where
  pub at_is : a.at ≡ length h.changes
  pub version_is : a.version ≡ version_of h
  pub body_is : IsBody t h q a.body

-- why a question is refused: it names no property
abbrev pub refused_question : Props → Question → Option Refusal
refused_question t Q.Params = None
refused_question t (Q.List from limit) = None
refused_question t (Q.StatusOf p) = if_so (not (is_row t p.0)) UnknownProperty
refused_question t (Q.SupportOf p) = if_so (not (is_row t p.0)) UnknownProperty
refused_question t (Q.Fetch cursor limit) = None
refused_question t Q.Count = None
