-- The values at a version, as the history grows.
use Rattle.std.proofs.Common.{◌≡◌, ℕ, ℤ, List, [], ◌∷◌, ◌++◌, take, refl, ap, ◌∙◌}
use Rattle.std.proofs.lemmas.List.{take-append-le}
use Rattle.status_history.specs.declared.history.Change.{Change}
use Rattle.status_history.specs.declared.history.Change.TheVariants.{Register, Param, Emit}
use Rattle.status_history.specs.Values.{params_set, changed_by}
use Rattle.status_history.specs.Laws.{ValuesStay}

params_set-append : (cs more : List Change) → params_set (cs ++ more) ≡ params_set cs ++ params_set more
params_set-append [] more = refl
params_set-append (Register name set ∷ cs) more = params_set-append cs more
params_set-append (Param n x ∷ cs) more = ap (λ (ps : List (ℕ × ℤ)). (n, x) ∷ ps) (params_set-append cs more)
params_set-append (Emit e ∷ cs) more = params_set-append cs more

pub values_stay : ValuesStay
values_stay h more v within =
    ap (λ (ps : List (ℕ × ℤ)). changed_by h.opening (take v ps)) (params_set-append h.changes more)
    ∙ ap (changed_by h.opening) (take-append-le v (params_set h.changes) (params_set more) within)
