use Rattle.std.proofs.Common.{[], length}
use Rattle.acsl_bind.specs.Placing.{made_of}
use Rattle.acsl_bind.specs.Programs.{functions_from}
use Rattle.acsl_bind.specs.inner.Goes.{Goes}
use Rattle.acsl_bind.specs.inner.Texts.{text}
use Rattle.acsl_bind.proofs.fns.functions.Given as goal

abbrev pub invariant-loop-f : goal.invariant-loop-f
invariant-loop-f l =
    Goes (functions_from (text l.source l.annots) l.number l.rest l.done l.moves (made_of l.walk))
    (functions_from (text l.source l.annots) 0 l.fns [] [] (made_of l.fn.walk)) l.walk l.fn.walk

abbrev pub decreases-loop-f : goal.decreases-loop-f
decreases-loop-f l = length l.rest
