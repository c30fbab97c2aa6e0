use Rattle.std.proofs.Common.{◌+◌, ◌≤◌, length, drop}
use Rattle.c_typing.specs.FileScope.{global_declarators, declared_of}
use Rattle.c_typing.specs.Functions.{KeepsFunctions}
use Rattle.c_typing.specs.Room.{room_of_declrs}
use Rattle.c_typing.specs.inner.Goes.{FileGoes}
use Rattle.c_typing.proofs.global.global_declarators.Given as goal

abbrev pub invariant-loop-d : goal.invariant-loop-d
invariant-loop-d l = record {
  goes : FileGoes (global_declarators l.ty l.constant (drop l.d-index l.all) (declared_of l.file))
      (global_declarators l.ty l.constant l.all (declared_of l.fn.file)) l.file l.fn.file;
  functions : KeepsFunctions l.fn.file l.file;
  sites : length l.file.walk.found.sites + room_of_declrs (drop l.d-index l.all) ≤ length l.fn.file.walk.found.sites + room_of_declrs l.all;
  points : length l.file.walk.points + room_of_declrs (drop l.d-index l.all) ≤ length l.fn.file.walk.points + room_of_declrs l.all;
  cells : l.file.walk.cells + room_of_declrs (drop l.d-index l.all) ≤ l.fn.file.walk.cells + room_of_declrs l.all;
}
