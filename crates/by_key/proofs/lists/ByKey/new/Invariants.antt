use Rattle.std.proofs.Common.{◌≡◌, ◌<◌, ◌++◌, [], ℕ, drop, get_or, length}
use Rattle.by_key.specs.Keys.{numbers_at}
use Rattle.by_key.proofs.lists.ByKey.new.Given as goal

abbrev pub invariant-loop-keyed : goal.invariant-loop-keyed
invariant-loop-keyed l = record {
  count : length l.lists ≡ l.keys;
  at : (q : ℕ) → q < l.keys → get_or l.lists q [] ++ numbers_at q (drop l.keyed-index l.all) ≡ numbers_at q l.all;
}
