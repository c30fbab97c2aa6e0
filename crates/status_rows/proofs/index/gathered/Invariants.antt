use Rattle.std.proofs.Common.{◌≡◌, drop, ◌++◌}
use Rattle.status_rows.specs.Index.{all_listed, gathered}
use Rattle.status_rows.proofs.index.gathered.Given as goal

abbrev pub invariant-loop-number : goal.invariant-loop-number
invariant-loop-number l = l.all.items ++ all_listed l.fn.lists (drop l.number-index l.fn.numbers) ≡ gathered l.fn.lists l.fn.numbers
