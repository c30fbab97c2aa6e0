-- Values of the parameters at each version of a history (this project's own). A version is the number of Param
-- changes before.
use Rattle.std.specs.Prelude.{List, [], ◌∷◌, ◌++◌, ℕ, ℤ, take, length, slice_set}
use Rattle.fc_base.specs.declared.params.ParamSet.{ParamSet}
use Rattle.fc_base.specs.declared.params.ParamValues.{ParamValues}
use Rattle.status_history.specs.declared.history.Change.{Change}
use Rattle.status_history.specs.declared.history.Change.TheVariants.{Register, Param, Emit}
use Rattle.status_history.specs.declared.history.History.{History}

-- the parameters that the Param changes set, with their new values, in order
abbrev pub params_set : List Change → List (ℕ × ℤ)
params_set [] = []
params_set (Register name set ∷ cs) = params_set cs
params_set (Param n x ∷ cs) = (n, x) ∷ params_set cs
params_set (Emit e ∷ cs) = params_set cs

-- values with the value of one parameter changed; a number past 15 changes none
abbrev pub changed_at : ParamValues → ℕ × ℤ → ParamValues
changed_at values p = record { values = slice_set values.values p.0 p.1 }

-- values after changes, in order
abbrev pub changed_by : ParamValues → List (ℕ × ℤ) → ParamValues
changed_by values [] = values
changed_by values (p ∷ ps) = changed_by (changed_at values p) ps

-- how many Param changes there are
abbrev pub version_of : History → ℕ
version_of h = length (params_set h.changes)

-- the opening values, changed by the first v Param changes; by all, where there are fewer
abbrev pub values_of : History → ℕ → ParamValues
values_of h v = changed_by h.opening (take v (params_set h.changes))

-- the values at the end
abbrev pub values_now : History → ParamValues
values_now h = values_of h (version_of h)

-- the values at each version, from the opening on
abbrev pub all_values : ParamValues → List (ℕ × ℤ) → List ParamValues
all_values values [] = values ∷ []
all_values values (p ∷ ps) = values ∷ all_values (changed_at values p) ps

-- the correctness sets of the emitters that are registered, in order
abbrev pub sets_registered : List Change → List ParamSet
sets_registered [] = []
sets_registered (Register name set ∷ cs) = set ∷ sets_registered cs
sets_registered (Param n x ∷ cs) = sets_registered cs
sets_registered (Emit e ∷ cs) = sets_registered cs

-- a history and further changes
abbrev pub extended : History → List Change → History
extended h more = record h { changes = h.changes ++ more }
