use Rattle.eva_run.proofs.Tallying.{noted_one}
use Rattle.eva_run.proofs.points.note.Goals as goal

pub returns-in_ok-put : goal.returns-in_ok-put
returns-in_ok-put c f n is =
    noted_one f n c.args.number c.args.noting c.args.table.now c.put.new.table c.args.said c.args.used.now is
    c.if-noting.true (c.in_ok-put.ensures n)
