-- How many changes set a parameter or register an emitter.
use Rattle.std.proofs.Common.{◌≡◌, ℕ, ◌+◌, ◌≤◌, ℤ, List, [], ◌∷◌, ◌++◌, length, length-append, refl, ap, ◌∙◌, arith}
use Rattle.status_history.specs.Values.{params_set, version_of, extended}
use Rattle.status_history.specs.declared.history.Change.{Change}
use Rattle.status_history.specs.declared.history.Change.TheVariants.{Register, Param, Emit}
use Rattle.status_history.specs.declared.history.History.{History}

params_within : (cs : List Change) → length (params_set cs) ≤ length cs
params_within [] = omega arith
params_within (Register name set ∷ cs) = omega (arith, params_within cs)
params_within (Param n x ∷ cs) = omega (arith, params_within cs)
params_within (Emit e ∷ cs) = omega (arith, params_within cs)

pub version_within : (h : History) → version_of h ≤ length h.changes
version_within h = params_within h.changes

pub params_set-append : (cs more : List Change) → params_set (cs ++ more) ≡ params_set cs ++ params_set more
params_set-append [] more = refl
params_set-append (Register name set ∷ cs) more = params_set-append cs more
params_set-append (Param n x ∷ cs) more = ap (λ (ps : List (ℕ × ℤ)). (n, x) ∷ ps) (params_set-append cs more)
params_set-append (Emit e ∷ cs) more = params_set-append cs more

-- the version after one more change
pub version_after : (h : History) (c : Change)
    → version_of (extended h (c ∷ [])) ≡ version_of h + length (params_set (c ∷ []))
version_after h c =
    ap length (params_set-append h.changes (c ∷ []))
    ∙ length-append (params_set h.changes) (params_set (c ∷ []))
