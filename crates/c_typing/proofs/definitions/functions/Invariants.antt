use Rattle.std.proofs.Common.{◌≡◌, ◌+◌, ◌*◌, ◌≤◌, [], length, drop}
use Rattle.std.specs.Vec.Iter.{into_iter_items, into_iter_len}
use Rattle.c_typing.specs.Texts.{funs_from}
use Rattle.c_typing.specs.Walking.{names_of, made_of}
use Rattle.c_typing.specs.inner.Goes.{Goes}
use Rattle.c_typing.proofs.definitions.functions.Given as goal

abbrev pub invariant-loop-definition : goal.invariant-loop-definition
invariant-loop-definition l = record {
  goes : Goes (funs_from l.number (drop l.number l.known) (into_iter_items l.definition-iterator) l.done (names_of l.scope) (made_of l.walk))
      (funs_from 0 l.known l.fn.definitions.items [] (names_of l.scope) (made_of l.fn.walk)) l.walk l.fn.walk;
  left : into_iter_len l.definition-iterator ≡ length (into_iter_items l.definition-iterator);
  points : length l.walk.points + 2 * length (drop l.number l.known) ≤ length l.fn.walk.points + 2 * length l.known;
  count : length l.done + length (drop l.number l.known) ≤ length l.known;
  within : l.number ≤ length l.known;
}
