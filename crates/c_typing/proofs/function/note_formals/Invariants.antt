use Rattle.std.proofs.Common.{◌≡◌, drop}
use Rattle.c_rules.specs.Breaches.{least}
use Rattle.c_typing.specs.Functions.{formals_faults}
use Rattle.c_typing.specs.Walking.{made_of}
use Rattle.c_typing.proofs.function.note_formals.Given as goal

abbrev pub invariant-loop-formal : goal.invariant-loop-formal
invariant-loop-formal l = record {
  made : made_of l.walk ≡ made_of l.fn.walk;
  first : least l.walk.found.first (formals_faults (drop l.formal-index l.all)) ≡ least l.fn.walk.found.first (formals_faults l.all);
}
