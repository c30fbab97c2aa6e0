use Rattle.std.proofs.Common.{◌≡◌, ◌++◌, drop}
use Rattle.rte_alarms.specs.inner.Links.{links_to}
use Rattle.rte_alarms.proofs.links.add_instances.Given as goal

abbrev pub invariant-loop-callee : goal.invariant-loop-callee
invariant-loop-callee l =
    l.found ++ links_to l.program l.lists l.total l.call.prop.0 l.call.clause (drop l.callee-index l.callees)
    ≡ l.fn.found ++ links_to l.program l.lists l.total l.call.prop.0 l.call.clause l.callees
