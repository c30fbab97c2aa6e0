use Rattle.std.proofs.Common.{◌≡◌, drop}
use Rattle.std.specs.List.{list_all}
use Rattle.param_book.specs.Agreement.{agrees_at}
use Rattle.param_book.proofs.agreement.agree_on.Given as goal

abbrev pub invariant-loop-number : goal.invariant-loop-number
invariant-loop-number l = list_all (agrees_at l.set l.a l.b) (drop l.number-index l.numbers) ≡ list_all (agrees_at l.set l.a l.b) l.numbers
