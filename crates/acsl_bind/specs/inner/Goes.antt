-- What is left of a walk gives what the whole walk gives.
use Rattle.std.specs.Prelude.{◌≡◌}
use Rattle.acsl_terms.specs.Breaches.{least}
use Rattle.acsl_bind.specs.Placing.{Went}
use Rattle.acsl_bind.specs.declared.walk.Walk.{Walk}

pub record Goes {X : Type 0} (left whole : Went X) (now start : Walk) : Type 0 where
  pub value : left.value ≡ whole.value
  pub made : left.made ≡ whole.made
  pub first : least now.first left.breaches ≡ least start.first whole.breaches
