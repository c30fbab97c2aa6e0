use Rattle.std.proofs.Common.{length, refl}
use Rattle.eva_run.proofs.Numbering.{numbering}
use Rattle.eva_run.proofs.numbers.Numbers.new.Goals as goal

pub returns : goal.returns
returns c =
    numbering
    (record {
      total = length c.args.rows.now;
      deads = c.in_ok-found.field-0;
      clauses = c.in_ok-found-2.field-0;
      instances = c.in_ok-found-3.field-0;
      division = c.in_ok-found-4.field-0;
      overflow = c.in_ok-found-5.field-0;
      shift = c.in_ok-found-6.field-0;
      index = c.in_ok-found-7.field-0;
      initialization = c.in_ok-found-8.field-0;
    })
    c.args.rows.now
    (record {
      total = refl;
      deads = c.in_ok-found.ensures;
      clauses = c.in_ok-found-2.ensures;
      instances = c.in_ok-found-3.ensures;
      division = c.in_ok-found-4.ensures;
      overflow = c.in_ok-found-5.ensures;
      shift = c.in_ok-found-6.ensures;
      index = c.in_ok-found-7.ensures;
      initialization = c.in_ok-found-8.ensures;
    })
