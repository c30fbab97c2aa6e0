use Rattle.std.proofs.Common.{◌≡◌, ◌++◌, drop}
use Rattle.eva_run.specs.Entered.{entries_by}
use Rattle.eva_run.proofs.run.entries_of.Given as goal

abbrev pub invariant-loop-number : goal.invariant-loop-number
invariant-loop-number l =
    l.entries ++ entries_by l.props l.entry_function l.version l.number (drop l.number l.rows)
    (drop l.number l.table)
    ≡ entries_by l.props l.entry_function l.version 0 l.rows l.table
