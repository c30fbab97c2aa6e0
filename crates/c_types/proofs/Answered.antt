-- A text that has a program has no other answer, but for want of memory.
use Rattle.std.proofs.Common.{◌∙◌, Option, Some, None, Result, Ok, Err, sym, arith}
use Rattle.c_ir.specs.declared.program.Skeleton.{Skeleton}
use Rattle.c_rules.specs.declared.breach.Breach.{Breach}
use Rattle.c_typing.specs.FileScope.{Declared}
use Rattle.c_types.specs.Programs.{FirstRecursive, Judges, OneProgram, Repeats}
use Rattle.c_typing.specs.Texts.{first_breach, walk_of}
use Rattle.c_types.specs.declared.fault.TypeFault.{TypeFault}
use Rattle.c_types.specs.declared.fault.TypeFault.TheVariants as T

one : (d : Declared) (b : Option Breach) (s : Skeleton) (r : Result Skeleton TypeFault) → Judges d b (Ok s) → Judges d b r → Repeats s r
unfolding FirstRecursive
one d None s (Ok t) h k = k.skeleton ∙ sym h.skeleton
one d None s (Err (T.Unknown x)) h k = absurd k
one d None s (Err (T.Twice x)) h k = absurd k
one d None s (Err (T.BadType at)) h k = absurd k
one d None s (Err (T.Arity at)) h k = absurd k
one d None s (Err (T.SideEffect at)) h k = absurd k
one d None s (Err (T.Recursive x)) h k = absurd (h.cycles k.function k.cycles.0 k.cycles.1)
one d None s (Err (T.ConstWrite at)) h k = absurd k
one d None s (Err (T.TooManyCells n)) h k =
    let few = h.cells in let is = k.count in let many = k.many in absurd (omega (arith, few, is, many))
one d None s (Err T.Memory) h k = tt
one d (Some b) s r h k = absurd h

pub one_program : OneProgram
one_program u s r h k = one (walk_of u).declared (first_breach u) s r h k
