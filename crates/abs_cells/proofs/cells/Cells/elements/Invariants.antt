use Rattle.std.proofs.Common.{◌≡◌, ◌-◌, false}
use Rattle.int_value.specs.Rows.{empty_of}
use Rattle.abs_cells.specs.Cells.{elements_from}
use Rattle.abs_cells.proofs.cells.Cells.elements.Given as goal

abbrev pub invariant-loop-number : goal.invariant-loop-number
invariant-loop-number l =
    elements_from l.self l.first l.index l.value l.number (l.end - l.number)
    ≡ elements_from l.fn.self l.fn.first l.fn.index (empty_of false) l.fn.from (l.fn.end - l.fn.from)
