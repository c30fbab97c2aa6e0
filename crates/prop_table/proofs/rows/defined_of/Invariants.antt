use Rattle.std.proofs.Common.{◌≡◌, ◌++◌, drop, map}
use Rattle.prop_table.specs.Rows.{is_defined}
use Rattle.prop_table.proofs.rows.defined_of.Given as goal

abbrev pub invariant-loop-f : goal.invariant-loop-f
invariant-loop-f l = l.defined ++ map is_defined (drop l.f-index l.program.fns) ≡ map is_defined l.program.fns
