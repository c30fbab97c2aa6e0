use Rattle.std.proofs.Common.{◌≡◌, ◌++◌, ◌≤◌, drop}
use Rattle.c_rules.specs.Breaches.{least}
use Rattle.c_typing.specs.FileScope.{start_values, values_faults}
use Rattle.c_typing.specs.Room.{total_of}
use Rattle.c_typing.specs.Walking.{names_of, made_of}
use Rattle.c_typing.proofs.start.start_values.Given as goal

abbrev pub invariant-loop-e : goal.invariant-loop-e
invariant-loop-e l = record {
  value : l.done ++ start_values l.ty (names_of l.scope).env (drop l.e-index l.all) ≡ start_values l.ty (names_of l.scope).env l.all;
  made : made_of l.walk ≡ made_of l.fn.walk;
  first : least l.walk.found.first (values_faults (names_of l.scope).env (drop l.e-index l.all))
      ≡ least l.fn.walk.found.first (values_faults (names_of l.scope).env l.all);
  room : total_of (drop l.e-index l.all) ≤ total_of l.all;
}
