use Rattle.std.proofs.Common.{◌≡◌, ◌+◌, ◌≤◌, [], length}
use Rattle.std.specs.Option.{option_map_or}
use Rattle.kernel_serve.specs.Script.{lines_of, with_lines}
use Rattle.kernel_serve.proofs.inputs.history_of_lines.Given as goal

abbrev pub decreases-lines : goal.decreases-lines
decreases-lines l = option_map_or (λ text. length text.now + 1) l.rest 0

abbrev pub invariant-lines : goal.invariant-lines
invariant-lines l = (with_lines l.entered.program l.number l.accepted (option_map_or (λ text. lines_of text.now) l.rest [])
    ≡ with_lines l.fn.entered.program 1 l.fn.before (lines_of l.fn.text))
    × (l.number + option_map_or (λ text. length text.now + 1) l.rest 0 ≤ length l.fn.text + 2)
