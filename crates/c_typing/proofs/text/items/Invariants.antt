use Rattle.std.proofs.Common.{[], ◌+◌, ◌*◌, ◌≤◌, length, drop}
use Rattle.c_typing.specs.FileScope.{declared_of}
use Rattle.c_typing.specs.Functions.{AreRoomy}
use Rattle.c_typing.specs.Texts.{items_from, room_of_items}
use Rattle.c_typing.specs.Walking.{names_of}
use Rattle.c_typing.specs.inner.Goes.{FileGoes}
use Rattle.c_typing.proofs.text.items.Given as goal

abbrev pub invariant-loop-item : goal.invariant-loop-item
invariant-loop-item l = record {
  goes : FileGoes (items_from l.waiting (drop l.item-index l.all) (declared_of l.file))
      (items_from [] l.all (declared_of l.fn.file)) l.file l.fn.file;
  sites : length l.file.walk.found.sites + room_of_items (drop l.item-index l.all) ≤ length l.fn.file.walk.found.sites + room_of_items l.all;
  points : length l.file.walk.points + 2 * length l.file.functions + room_of_items (drop l.item-index l.all) ≤ length l.fn.file.walk.points + 2 * length l.fn.file.functions + room_of_items l.all;
  cells : l.file.walk.cells + room_of_items (drop l.item-index l.all) ≤ l.fn.file.walk.cells + room_of_items l.all;
  roomy : AreRoomy (names_of l.file.scope).env;
}
