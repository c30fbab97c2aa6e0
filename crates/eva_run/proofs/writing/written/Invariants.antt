use Rattle.std.proofs.Common.{◌≡◌, ◌++◌, ◌+◌, ◌-◌, drop, map}
use Rattle.eva_rules.specs.Writing.{written}
use Rattle.eva_run.proofs.writing.written.Given as goal

abbrev pub invariant-loop-place : goal.invariant-loop-place
invariant-loop-place l = written (drop l.place l.cells) (drop l.place l.values) l.now ≡ written l.cells l.values l.fn.env
