use Rattle.int_value.proofs.Checked.{div_any, rem_any}
use Rattle.int_value.proofs.laws.division_covers.Goals as goal

pub returns-clause-div : goal.returns-clause-div
returns-clause-div c = div_any

pub returns-clause-rem : goal.returns-clause-rem
returns-clause-rem c = rem_any
