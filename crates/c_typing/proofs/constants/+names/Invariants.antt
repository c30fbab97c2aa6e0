use Rattle.std.proofs.Common.{◌≡◌, map, drop}
use Rattle.c_typing.specs.ConstantValues.{form, some_name}
use Rattle.c_typing.proofs.constants.+names.Given as goal

abbrev pub invariant-some_name-loop-e : goal.invariant-some_name-loop-e
invariant-some_name-loop-e l = some_name (map form (drop l.e-index l.all)) ≡ some_name (map form l.all)
