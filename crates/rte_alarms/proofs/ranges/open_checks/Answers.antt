use Rattle.std.proofs.Common.{◌≡◌, ◌∙◌, ◌≤◌, length, ap, sym, arith}
use Rattle.c_ir.specs.Programs.{Program}
use Rattle.rte_alarms.proofs.Opened.{checks_open, open_done}
use Rattle.rte_alarms.proofs.ranges.open_checks.Goals as goal

pub returns : goal.returns
returns c =
    let p = c.args.program.now in
    let fns : c.as_slice-f-items.result.now ≡ p.fns = c.as_slice-f-items.ensures
    ∙ ap (λ (v : Program). v.fns) c.program.view_is in
    let past : length p.fns ≤ c.loop-f.f-index = omega (arith, c.loop-f-test.false, ap length fns) in
    open_done c.loop-f.found p.fns c.loop-f.f-index past c.loop-f.invariant ∙ sym (checks_open p)
