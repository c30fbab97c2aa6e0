-- The changes of events.
use Rattle.std.proofs.Common.{◌≡◌, List, [], ◌∷◌, ◌++◌, append_assoc, refl, sym, ap, ◌∙◌}
use Rattle.fc_base.specs.declared.params.ParamValues.{ParamValues}
use Rattle.status_history.specs.declared.events.Event.{Event}
use Rattle.status_history.specs.declared.history.Change.{Change}
use Rattle.status_history.specs.declared.history.History.{History}
use Rattle.status_history.specs.Events.{change_in, changes_in, KeptGrows}

pub changes_in-append : (es more : List Event) → changes_in (es ++ more) ≡ changes_in es ++ changes_in more
changes_in-append [] more = refl
changes_in-append (e ∷ es) more =
    ap (λ cs. change_in e.what ++ cs) (changes_in-append es more)
    ∙ sym (append_assoc (change_in e.what) (changes_in es) (changes_in more))

pub kept_more : KeptGrows
kept_more opening es more =
    ap (λ (cs : List Change). let h : History = record { opening = opening; changes = cs } in h) (changes_in-append es more)
