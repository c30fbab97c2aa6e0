use Rattle.std.proofs.Common.{◌≡◌, length}
use Rattle.std.specs.BTreeMap.{get_by_text}
use Rattle.c_typing.specs.Walking.{undone}
use Rattle.c_typing.proofs.scope.take_back.Given as goal

abbrev pub invariant-loop-last : goal.invariant-loop-last
invariant-loop-last l = undone l.log (get_by_text l.names) ≡ undone l.initial.log (get_by_text l.initial.names)

abbrev pub decreases-loop-last : goal.decreases-loop-last
decreases-loop-last l = length l.log
