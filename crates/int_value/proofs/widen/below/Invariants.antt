use Rattle.std.proofs.Common.{◌≡◌, take, fold, int_le, if◌then◌else◌}
use Rattle.std.specs.Int.{int_max}
use Rattle.int_value.proofs.widen.below.Given as goal

abbrev pub invariant-seeking : goal.invariant-seeking
invariant-seeking l = l.best ≡ fold (λ b t. if int_le t l.fn.lo then int_max b t else b) l.fn.bottom (take l.t-index l.thresholds)
