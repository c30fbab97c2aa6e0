use Rattle.std.proofs.Common.{◌≡◌}
use Rattle.acsl_terms.specs.Names.{object_of}
use Rattle.acsl_terms.proofs.sight.newest.Given as goal

abbrev pub invariant-walk : goal.invariant-walk
invariant-walk l = object_of l.name l.left ≡ object_of l.name l.declared
