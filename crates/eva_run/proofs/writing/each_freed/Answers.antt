use Rattle.std.proofs.Common.{◌++◌, ◌<◌, ◌≤◌, List, sym, ap, subst, ◌∙◌}
use mathlib.Core.List.{append_assoc, append-nil}
use Rattle.int_value.specs.declared.value.Value.{Value}
use Rattle.eva_run.proofs.Leaves.{freed_end, freed_step}
use Rattle.eva_run.proofs.writing.each_freed.Goals as goal

pub loop-number-preserved : goal.loop-number-preserved
loop-number-preserved c =
    let step = freed_step c.args.function c.args.infos.now c.args.cells.now c.loop-number.number
    (subst (λ n. c.loop-number.number < n) c.len-number-end.ensures c.loop-number-test.true) in
    rw (c.in_ok-push.ensures.ok, c.freed.ensures)
    (append_assoc c.loop-number.values _ _ ∙ ap (λ (vs : List Value). c.loop-number.values ++ vs) (sym step)
    ∙ c.loop-number.invariant)

pub returns : goal.returns
returns c =
    let ended = freed_end c.args.function c.args.infos.now c.args.cells.now c.loop-number.number
    (subst (λ n. n ≤ c.loop-number.number) c.len-number-end.ensures c.loop-number-test.false) in
    c.new.ensures ∙ sym (append-nil c.loop-number.values)
    ∙ ap (λ (vs : List Value). c.loop-number.values ++ vs) (sym ended) ∙ c.loop-number.invariant
