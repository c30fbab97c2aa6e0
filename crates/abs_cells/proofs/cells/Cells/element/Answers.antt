use Rattle.std.proofs.Common.{◌≤◌, ◌<◌, ◌+◌, ◌^◌, ℕ, ℤ, pos, ◌≤ℤ◌, ◌<ℤ◌, sym, subst, arith}
use Rattle.std.proofs.lemmas.Int.{ints}
use lib.IntN.{nat_abs}
use Rattle.abs_cells.proofs.Index.{Ends, Cast, cast_of, index_ends}
use Rattle.abs_cells.proofs.cells.Cells.element.Goals as goal

ends : (c : goal.After-met-1) → Ends c.args.length c.in-Within.lo c.in-Within.hi
ends c = index_ends c.args.length c.args.index.now c.within_array-met.result c.in-Within.lo c.in-Within.hi
    c.within_array-met.ensures c.in-Within.is

low : (c : goal.After-met-1) → Cast c.in-Within.lo
low c = let e = ends c in let f = c.ranges.length in let a = e.low in let b = e.order in let d = e.high in
    cast_of c.in-Within.lo e.low (omega (arith, ints))

high : (c : goal.After-met-1) → Cast c.in-Within.hi
high c = let e = ends c in let f = c.ranges.length in let a = e.low in let b = e.order in let d = e.high in
    cast_of c.in-Within.hi (omega (arith, ints)) (omega (arith, ints))

pub overflow_cast-lo : goal.overflow_cast-lo
overflow_cast-lo c = rw (low c).same ((low c).fits)

pub overflow_cast-hi : goal.overflow_cast-hi
overflow_cast-hi c = rw (high c).same ((high c).fits)

pub overflow_add-hi : goal.overflow_add-hi
overflow_add-hi c = rw (high c).same (let b = (high c).bound in omega arith)

pub elements-requires-clause-order : goal.elements-requires-clause-order
elements-requires-clause-order c =
    rw ((low c).same, (high c).same) (let e = ends c in let a = e.low in let b = e.order in omega (arith, ints))

pub elements-requires-clause-bound : goal.elements-requires-clause-bound
elements-requires-clause-bound c = rw (high c).same (let b = (high c).bound in omega arith)
