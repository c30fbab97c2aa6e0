-- Steps, one after the other: the code's side of a check.
use Rattle.std.specs.Prelude.{List, [], ◌∷◌, ◌++◌, Bool, true, false, not, ◌&&◌}
use Rattle.status_rules.specs.declared.steps.Step.{Step}
use Rattle.status_rules.specs.Holds.{Basis}
use Rattle.status_rules.specs.Support.{has_step, rests}

-- whether a step rests on these, none of which is on its property
abbrev pub fits : Basis → List Step → Step → Bool
fits b before s = rests b before s.prop.0 s.reason && not (has_step before s.prop.0)

-- whether so does each of the further steps, on those before it
abbrev pub all_fit : Basis → List Step → List Step → Bool
all_fit b before [] = true
all_fit b before (s ∷ ss) = fits b before s && all_fit b (before ++ s ∷ []) ss

-- whether steps are some property's support
abbrev pub is_certificate : Basis → List Step → Bool
is_certificate b [] = false
is_certificate b (s ∷ ss) = all_fit b [] (s ∷ ss)
