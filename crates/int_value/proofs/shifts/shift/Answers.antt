use Rattle.int_value.proofs.Reduction.{shift_parts}
use Rattle.int_value.proofs.shifts.shift.Goals as goal

pub returns-clause-range : goal.returns-clause-range
returns-clause-range c = (shift_parts c.args.shape.now c.args.by.now c.met_shift.result c.met_shift.ensures).0

pub returns-clause-congr : goal.returns-clause-congr
returns-clause-congr c = (shift_parts c.args.shape.now c.args.by.now c.met_shift.result c.met_shift.ensures).1
