use Rattle.std.proofs.Common.{arith}
use Rattle.prop_table.specs.Tables.{Tables}
use Rattle.prop_table.proofs.Numbering.{length-rows_of}
use Rattle.prop_table.proofs.whole.table.Goals as goal

pub returns-then-count-gt-MOST : goal.returns-then-count-gt-MOST
unfolding Tables
returns-then-count-gt-MOST c = (
  omega (arith, c.count-count.ensures, c.if-count-gt-MOST.true, length-rows_of c.args.program.now),
  omega (arith, c.number_of.ensures, c.count-count.ensures, length-rows_of c.args.program.now),
)
