use Rattle.std.proofs.Common.{◌+◌, length, arith}
use Rattle.fc_outside.proofs.Asked.{asked_more}
use Rattle.fc_outside.proofs.whole.read_all.Goals as goal

pub returns-in_err-read_some-clause-asked : goal.returns-in_err-read_some-clause-asked
returns-in_err-read_some-clause-asked g c =
    let taken = c.in_err-read_some.ensures.asked in
    (length c.reading.bytes.items + taken.0, omega arith, asked_more _ _ taken.0 _ _ _ c.reading.invariant.asked taken.2)
