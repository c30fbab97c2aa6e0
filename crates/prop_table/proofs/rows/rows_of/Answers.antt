use Rattle.std.proofs.Common.{◌≡◌, ◌∙◌, arith, ap, length}
use Rattle.c_ir.specs.Programs.{Program}
use Rattle.prop_table.specs.inner.Counts.{fns_count}
use Rattle.prop_table.proofs.Numbering.{all_rows, fns_step, fns_room, added_fn}
use Rattle.prop_table.proofs.rows.rows_of.Goals as goal

pub loop-number-init : goal.loop-number-init
loop-number-init c =
    let fns : c.as_slice-fns.result.now ≡ c.args.program.now.fns = c.as_slice-fns.ensures ∙ ap (λ (v : Program). v.fns) c.program.view_is in
    record {
      goes = λ z h. all_rows c.new-all.result z c.args.program.now c.as_slice-fns.result.now fns c.new-all.ensures h;
      room = omega (arith, c.requires.room, ap length c.new-all.ensures, ap (fns_count c.args.program.now) fns);
    }

pub loop-number-preserved : goal.loop-number-preserved
loop-number-preserved c =
    let i = c.loop-number.number in
    let f = c.index-fns-number.result in
    record {
      goes = λ z h. c.loop-number.invariant.goes z (fns_step _ _ z c.args.program.now c.as_slice-fns.result.now i f c.loop-number-test.true c.index-fns-number.is (rw c.id_of-function.ensures at c.in_ok-push_fn.ensures) h);
      room = omega (arith, added_fn _ _ c.args.program.now i f (rw c.id_of-function.ensures at c.in_ok-push_fn.ensures), c.loop-number.invariant.room, fns_room c.args.program.now c.as_slice-fns.result.now i f c.loop-number-test.true c.index-fns-number.is);
    }
