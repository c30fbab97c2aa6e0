use Rattle.std.proofs.Common.{◌++◌, ◌<◌, ◌≤◌, Bool, false, List, sym, ap, subst, ◌∙◌, arith}
use mathlib.Core.List.{append_assoc, append-nil}
use Rattle.eva_run.proofs.Leaves.{flag_end, flag_step}
use Rattle.eva_run.proofs.inside.either_flag.Goals as goal

pub loop-number-preserved : goal.loop-number-preserved
loop-number-preserved c =
    let step = flag_step c.args.flags.now c.args.cells.now c.loop-number.number false
    (omega (arith, c.min-number-end.ensures, c.len.ensures, c.loop-number-test.true))
    (omega (arith, c.min-number-end.ensures, c.len.ensures, c.loop-number-test.true)) in
    rw (c.in_ok-push.ensures.ok, c.flag_of.ensures, c.get.ensures)
    (append_assoc c.loop-number.all _ _ ∙ ap (λ (fs : List Bool). c.loop-number.all ++ fs) (sym step)
    ∙ c.loop-number.invariant)

pub returns : goal.returns
returns c =
    let ended = flag_end c.args.flags.now c.args.cells.now c.loop-number.number
    (omega (arith, c.min-number-end.ensures, c.len.ensures, c.loop-number-test.false)) in
    sym (append-nil c.loop-number.all)
    ∙ ap (λ (fs : List Bool). c.loop-number.all ++ fs) (sym ended) ∙ c.loop-number.invariant
