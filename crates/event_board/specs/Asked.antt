-- What the calls of a board ask for (this project's own).
use Rattle.std.specs.Prelude.{◌≡◌, ◌≤◌, ℕ, Bool, true, false, nat_le, ◌&&◌, length}
use Rattle.std.specs.List.{list_all}
use Rattle.fc_base.specs.Params.{value_at}
use Rattle.fc_base.specs.declared.ids.PropId.{PropId}
use Rattle.fc_base.specs.declared.params.ParamValues.{ParamValues}
use Rattle.param_book.specs.Emitters.{is_external}
use Rattle.param_book.specs.Table.{fits_param, numbers, under}
use Rattle.c_ir.specs.Props.{Props}
use Rattle.c_ir.specs.Table.{is_row}
use Rattle.status_history.specs.Claims.{LocallyRight}
use Rattle.status_history.specs.Values.{version_of}
use Rattle.status_history.specs.declared.history.Change.{Change}
use Rattle.status_history.specs.declared.history.Change.TheVariants.{Register, Param, Emit}
use Rattle.status_history.specs.declared.history.Entry.{Entry}
use Rattle.status_history.specs.declared.history.History.{History}
use Rattle.status_rules.specs.Judge.{is_emitter_name}
use Rattle.status_rules.specs.Truth.{Runs}
use Rattle.status_rules.specs.declared.questions.Question.{Question}
use Rattle.status_rules.specs.declared.questions.Question.TheVariants as Q

-- limits are 1 to 1,000
abbrev pub is_limit : ℕ → Bool
is_limit n = nat_le 1 n && nat_le n 1000

abbrev pub has_limit : Question → Bool
has_limit Q.Params = true
has_limit (Q.List from limit) = is_limit limit
has_limit (Q.StatusOf p) = true
has_limit (Q.SupportOf p) = true
has_limit (Q.Fetch cursor limit) = is_limit limit
has_limit Q.Count = true

-- an emitter is registered under a name that one can have
abbrev pub has_name : Change → Bool
has_name (Register name set) = is_emitter_name name
has_name (Param n x) = true
has_name (Emit e) = true

-- what an entry of the program's own emitters is, where runs are those of the program by the values of the run
-- parameters: it is on properties of the table and has at most 256 hypotheses, its version isn't above the current
-- one, and it is locally right
pub record IsOwn (t : Props) (runs : Runs) (h : History) (e : Entry) : Type 0 where
  pub emitter : is_external e.emitter ≡ false
  pub prop : is_row t e.prop.0 ≡ true
  pub hyps : list_all (λ (q : PropId). is_row t q.0) e.hyps ≡ true
  pub few : length e.hyps ≤ 256
  pub version : e.version ≤ version_of h
  pub right : LocallyRight (under runs) h e

-- whether each parameter's value is in its range
abbrev pub all_fit : Props → ParamValues → Bool
all_fit t values = list_all (λ n. fits_param t.defined n (value_at values.values n)) numbers
