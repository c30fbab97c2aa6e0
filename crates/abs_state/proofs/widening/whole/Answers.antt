use Rattle.std.proofs.Common.{◌++◌, ◌≤◌, List, sym, ap, subst, ◌∙◌}
use mathlib.Core.List.{append-nil}
use Rattle.int_value.specs.declared.value.Value.{Value}
use Rattle.abs_state.proofs.Steps.{whole_end}
use Rattle.abs_state.proofs.widening.whole.Goals as goal

pub returns : goal.returns
returns c =
    let ended = whole_end c.args.shapes.now c.args.flags.now c.loop-number.number
    (subst (λ n. n ≤ c.loop-number.number) c.min-number-end.ensures c.loop-number-test.false) in
    c.new.ensures ∙ sym (append-nil c.loop-number.values)
    ∙ ap (λ (vs : List Value). c.loop-number.values ++ vs) (sym ended) ∙ c.loop-number.invariant
