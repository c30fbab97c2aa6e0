use Rattle.std.proofs.Common.{arith, ap, length}
use Rattle.prop_table.proofs.Numbering.{length-rows_of}
use Rattle.prop_table.proofs.whole.filled.Goals as goal

pub new-requires : goal.new-requires
new-requires c = omega (arith, c.requires.room, length-rows_of c.args.program.now, ap length c.in_ok-rows.ensures)
