use Rattle.std.proofs.Common.{◌≡◌, drop}
use Rattle.std.specs.Prelude.{bytes_eq}
use Rattle.std.specs.List.{list_any}
use Rattle.status_core.proofs.past.Past.has_name.Given as goal

abbrev pub invariant-loop-taken : goal.invariant-loop-taken
invariant-loop-taken l = list_any (bytes_eq l.fn.name) (drop l.taken-index l.fn.self.taken) ≡ list_any (bytes_eq l.fn.name) l.fn.self.taken
