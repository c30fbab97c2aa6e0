use Rattle.std.proofs.Common.{◌≡◌, [], replicate}
use Rattle.by_key.proofs.lists.ByKey.empty.Given as goal

abbrev pub invariant-loop-key : goal.invariant-loop-key
invariant-loop-key l = l.lists.items ≡ replicate l._key []
