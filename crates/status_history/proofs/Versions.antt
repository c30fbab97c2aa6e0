-- The values at a version, by the list of the values at each.
use Rattle.std.proofs.Common.{◌≡◌, ℕ, zero, suc, ℤ, List, [], ◌∷◌, length, take, refl, ap, ◌∙◌}
use Rattle.std.proofs.Math.Seq.{take-length}
use Rattle.std.specs.Prelude.{slice_get, unwrap_or}
use Rattle.fc_base.specs.declared.params.ParamValues.{ParamValues}
use Rattle.status_history.specs.Values.{changed_at, changed_by, all_values}

-- what stands at version v; the values at the end, where no such version stands
unwrap_or-all_values : (o : ParamValues) (ps : List (ℕ × ℤ)) (v : ℕ) → unwrap_or (slice_get (all_values o ps) v) (changed_by o ps) ≡ changed_by o (take v ps)
unwrap_or-all_values o [] zero = refl
unwrap_or-all_values o [] (suc v) = refl
unwrap_or-all_values o (p ∷ ps) zero = refl
unwrap_or-all_values o (p ∷ ps) (suc v) = unwrap_or-all_values (changed_at o p) ps v

-- the same, where the values at the end are those after all changes
pub stands_at : (o : ParamValues) (ps : List (ℕ × ℤ)) (v : ℕ) → unwrap_or (slice_get (all_values o ps) v) (changed_by o (take (length ps) ps)) ≡ changed_by o (take v ps)
stands_at o ps v = ap (λ qs. unwrap_or (slice_get (all_values o ps) v) (changed_by o qs)) (take-length ps) ∙ unwrap_or-all_values o ps v
