-- What is left of a walk gives what the whole walk gives.
use Rattle.std.specs.Prelude.{◌≡◌}
use Rattle.c_rules.specs.Breaches.{least}
use Rattle.c_typing.specs.FileScope.{Filed}
use Rattle.c_typing.specs.Walking.{Went}
use Rattle.c_typing.specs.declared.file.File.{File}
use Rattle.c_typing.specs.declared.walk.Walk.{Walk}

pub record Goes {X : Type 0} (left whole : Went X) (now start : Walk) : Type 0 where
  pub value : left.value ≡ whole.value
  pub names : left.names ≡ whole.names
  pub made : left.made ≡ whole.made
  pub first : least now.found.first left.breaches ≡ least start.found.first whole.breaches

pub record FileGoes {X : Type 0} (left whole : Filed X) (now start : File) : Type 0 where
  pub value : left.value ≡ whole.value
  pub declared : left.declared ≡ whole.declared
  pub first : least now.walk.found.first left.breaches ≡ least start.walk.found.first whole.breaches
