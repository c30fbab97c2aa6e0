use Rattle.std.proofs.Common.{◌≡◌, ◌++◌, ◌+◌, ◌-◌, drop, map}
use Rattle.eva_rules.specs.Passing.{set_flag}
use Rattle.eva_run.proofs.inside.set_flags.Given as goal

abbrev pub invariant-loop-shape : goal.invariant-loop-shape
invariant-loop-shape l = l.flags ++ map set_flag (drop l._shape-index l.shapes) ≡ map set_flag l.shapes
