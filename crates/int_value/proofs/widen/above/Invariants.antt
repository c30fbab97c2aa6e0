use Rattle.std.proofs.Common.{◌≡◌, take, fold, int_le, if◌then◌else◌}
use Rattle.std.specs.Int.{int_min}
use Rattle.int_value.proofs.widen.above.Given as goal

abbrev pub invariant-seeking : goal.invariant-seeking
invariant-seeking l = l.best ≡ fold (λ b t. if int_le l.fn.hi t then int_min b t else b) l.fn.top (take l.t-index l.thresholds)
