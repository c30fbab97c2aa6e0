-- What is kept of the past says which entries are current, and what a change is answered.
use Rattle.std.proofs.Common.{◌≡◌, ℕ, List, ap, ◌∙◌}
use Rattle.std.specs.Prelude.{slice_get, unwrap_or}
use Rattle.fc_base.specs.declared.params.ParamSet.{ParamSet}
use Rattle.fc_base.specs.declared.params.ParamValues.{ParamValues}
use Rattle.param_book.specs.Agreement.{agree_on}
use Rattle.status_history.specs.Values.{all_values, params_set, values_of}
use Rattle.status_history.specs.declared.history.Entry.{Entry}
use Rattle.status_history.specs.declared.history.History.{History}
use Rattle.status_history.proofs.Versions.{stands_at}
use Rattle.status_rules.specs.Counting.{is_current, set_of}
use Rattle.status_core.specs.inner.Kept.{IsPast}

pub current_by : (h : History) (place : ℕ) (e : Entry) (versions : List ParamValues) (now : ParamValues) (sets : List ParamSet) (taken : List (List ℕ)) (set : ParamSet) (then_ : ParamValues) → IsPast h versions now sets taken → set ≡ unwrap_or (slice_get sets e.emitter.0) (record { 0 = 0 }) → then_ ≡ unwrap_or (slice_get versions e.version) now → agree_on set then_ now ≡ is_current h (record { place = place; entry = e })
current_by h place e versions now sets taken set then_ past is_set is_then =
    let of = λ (ss : List ParamSet). unwrap_or (slice_get ss e.emitter.0) (record { 0 = 0 }) in
    let at = is_then
    ∙ (ap (λ (vs : List ParamValues). unwrap_or (slice_get vs e.version) now) past.versions_are
    ∙ (ap (λ (v : ParamValues). unwrap_or (slice_get (all_values h.opening (params_set h.changes)) e.version) v) past.now_is
    ∙ stands_at h.opening (params_set h.changes) e.version)) in
    ap (λ (s : ParamSet). agree_on s then_ now) (is_set ∙ ap of past.sets_are)
    ∙ (ap (λ (v : ParamValues). agree_on (set_of h.changes e.emitter.0) v now) at
    ∙ ap (λ (v : ParamValues). agree_on (set_of h.changes e.emitter.0) (values_of h e.version) v) past.now_is)
