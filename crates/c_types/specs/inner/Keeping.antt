-- When what was declared makes a program.
use Rattle.std.specs.Prelude.{None}
use Rattle.c_ir.specs.Keeps.{Keeps}
use Rattle.c_typing.specs.FileScope.{Declared}
use Rattle.c_types.specs.Programs.{FirstRecursive, functions_of, skeleton_of}

-- its functions, cells, points and sites make one, unless a function leads to itself
abbrev pub KeepsIfCallsEnd : Declared → Type 0
KeepsIfCallsEnd d = FirstRecursive (functions_of d).value None → Keeps (skeleton_of d).program
