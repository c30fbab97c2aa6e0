use Rattle.std.proofs.Common.{◌≡◌, ◌++◌, ◌<◌, ◌≤◌, List, length, min, sym, ap, subst, ◌∙◌}
use Rattle.std.specs.Prelude.{pos}
use mathlib.Core.List.{append_assoc, append-nil}
use Rattle.int_value.specs.declared.value.Value.{Value}
use Rattle.abs_state.proofs.Steps.{widened_end, widened_step}
use Rattle.abs_state.proofs.widening.widen.Goals as goal

pub returns : goal.returns
returns c =
    let shapes = c.args.shapes.now in let old = c.args.old.now in let next = c.args.next.now in
    let count : c.min-number-end.result ≡ min (min (length shapes) (length old)) (length next) = cc in
    let ended = widened_end c.args.turn c.args.thresholds.now shapes old next c.loop-number.number
    (subst (λ n. n ≤ c.loop-number.number) count c.loop-number-test.false) in
    c.new.ensures ∙ sym (append-nil c.loop-number.values)
    ∙ ap (λ (vs : List Value). c.loop-number.values ++ vs) (sym ended) ∙ c.loop-number.invariant

pub loop-number-preserved : goal.loop-number-preserved
loop-number-preserved c =
    let shapes = c.args.shapes.now in let old = c.args.old.now in let next = c.args.next.now in
    let count : c.min-number-end.result ≡ min (min (length shapes) (length old)) (length next) = cc in
    let step = widened_step c.args.turn c.args.thresholds.now shapes old next c.loop-number.number
    (record { lo = pos 0; hi = pos 0; width = 0 })
    (subst (λ n. c.loop-number.number < n) count c.loop-number-test.true) in
    rw (c.in_ok-push.ensures.ok, c.widen.ensures, c.get-value.ensures, c.get.ensures)
    (append_assoc c.loop-number.values _ _ ∙ ap (λ (vs : List Value). c.loop-number.values ++ vs) (sym step)
    ∙ c.loop-number.invariant)
