use Rattle.std.proofs.Common.{sym}
use Rattle.eva_run.proofs.Tallying.{put_done}
use Rattle.eva_run.proofs.tallies.put.Goals as goal

pub returns : goal.returns
returns c n =
    put_done c.args.table.now c.set.new.self c.args.number
    (record { named = n; said = c.args.said; used = c.args.used.now }) c.in-Some.tally.now
    c.in_ok-tally-in-Some.tally (sym c.in-Some.ensures.value) (c.in_ok-tally-in-Some.ensures n) c.set.ensures
