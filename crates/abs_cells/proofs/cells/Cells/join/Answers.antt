use Rattle.std.proofs.Common.{◌≡◌, ◌++◌, ◌≤◌, List, [], length, min, sym, ap, subst, ◌∙◌}
use mathlib.Core.List.{append-nil}
use Rattle.int_value.specs.declared.value.Value.{Value}
use Rattle.abs_cells.specs.Cells.{joined}
use Rattle.abs_cells.proofs.Steps.{joined_end}
use Rattle.abs_cells.proofs.cells.Cells.join.Goals as goal

pub returns : goal.returns
returns c =
    let mine = c.as_slice-mine.result.now in
    let others = c.as_slice-others.result.now in
    let ended = joined_end mine others c.loop-number.number (subst (λ n. n ≤ c.loop-number.number) c.min-number-end.ensures c.loop-number-test.false) in
    sym (append-nil c.loop-number.values) ∙ ap (λ (vs : List Value). c.loop-number.values ++ vs) (sym ended) ∙ c.loop-number.invariant ∙ cc
