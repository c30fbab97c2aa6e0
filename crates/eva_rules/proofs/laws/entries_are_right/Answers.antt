use Rattle.param_book.specs.Table.{entry_function}
use Rattle.prop_table.specs.Rows.{rows_of}
use Rattle.std.proofs.Common.{length}
use Rattle.c_runs.specs.Programs.{entry_number}
use Rattle.eva_rules.specs.Entries.{ground_of}
use Rattle.eva_rules.proofs.Functions.{call_sound}
use Rattle.eva_rules.proofs.Start.{entries_from_sound}
use Rattle.eva_rules.proofs.laws.entries_are_right.Goals as goal

-- src/laws.rt:7:1
pub returns : goal.returns
returns c =
    entries_from_sound (λ p keeps values holding.
    call_sound (ground_of p (rows_of p) values) holding keeps (length p.fns) (entry_number p (entry_function values)))
