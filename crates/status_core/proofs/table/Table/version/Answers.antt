use Rattle.std.proofs.Common.{length, ap, arith}
use Rattle.event_board.proofs.Versions.{version_within}
use Rattle.status_history.specs.Values.{params_set, version_of}
use Rattle.status_core.specs.Held.{Held}
use Rattle.status_core.proofs.Answered.{length_values}
use Rattle.status_core.proofs.table.Table.version.Goals as goal

pub overflow_cast-result : goal.overflow_cast-result
overflow_cast-result c =
    let s = c.self.inside in
    omega (arith, c.len.ensures, s.past.versions.ok.0, ap length c.self.invariant.past.versions_are, length_values s.history.opening (params_set s.history.changes), version_within s.history, c.self.invariant.of_program.few)

pub returns : goal.returns
returns c =
    let s = c.self.inside in
    omega (arith, c.len.ensures, s.past.versions.ok.0, ap length c.self.invariant.past.versions_are, length_values s.history.opening (params_set s.history.changes), ap (λ (b : Held). version_of b.history) c.self.view_is)
