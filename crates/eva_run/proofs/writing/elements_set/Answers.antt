use Rattle.std.proofs.Common.{◌≤◌, ◌<◌, ◌+◌, ◌^◌, ℕ, ℤ, pos, ◌≤ℤ◌, ◌<ℤ◌, sym, subst, ◌∙◌, arith}
use Rattle.std.proofs.lemmas.Int.{ints}
use lib.IntN.{nat_abs}
use Rattle.abs_cells.proofs.Index.{Cast, Ends, index_ends}
use Rattle.eva_run.proofs.Elements.{high_cast, low_cast, number_cast}
use Rattle.eva_run.proofs.writing.elements_set.Goals as goal

pub overflow_cast-number : goal.overflow_cast-number
overflow_cast-number c =
    let k = number_cast c.args.length c.args.index.now c.met_index-met.result c.in-Within.lo c.in-Within.hi c.in-Some.number
    c.ranges.length.fits c.met_index-met.ensures c.in-Within.is (sym c.in-Some.is ∙ c.single.ensures) in
    rw k.same k.fits

pub overflow_add-first : goal.overflow_add-first
overflow_add-first c =
    let k = number_cast c.args.length c.args.index.now c.met_index-met.result c.in-Within.lo c.in-Within.hi c.in-Some.number
    c.ranges.length.fits c.met_index-met.ensures c.in-Within.is (sym c.in-Some.is ∙ c.single.ensures) in
    rw k.same (let b = k.bound in let f = c.ranges.first.fits in omega arith)

pub overflow_cast-lo : goal.overflow_cast-lo
overflow_cast-lo c =
    let k = low_cast c.args.length c.args.index.now c.met_index-met.result c.in-Within.lo c.in-Within.hi
    c.ranges.length.fits c.met_index-met.ensures c.in-Within.is in
    rw k.same k.fits

pub overflow_cast-hi : goal.overflow_cast-hi
overflow_cast-hi c =
    let k = high_cast c.args.length c.args.index.now c.met_index-met.result c.in-Within.lo c.in-Within.hi
    c.ranges.length.fits c.met_index-met.ensures c.in-Within.is in
    rw k.same k.fits

pub overflow_add-hi : goal.overflow_add-hi
overflow_add-hi c =
    let k = high_cast c.args.length c.args.index.now c.met_index-met.result c.in-Within.lo c.in-Within.hi
    c.ranges.length.fits c.met_index-met.ensures c.in-Within.is in
    rw k.same (let b = k.bound in omega arith)

pub each_joined-requires-in-None-clause-order : goal.each_joined-requires-in-None-clause-order
each_joined-requires-in-None-clause-order c =
    let j = low_cast c.args.length c.args.index.now c.met_index-met.result c.in-Within.lo c.in-Within.hi
    c.ranges.length.fits c.met_index-met.ensures c.in-Within.is in
    let k = high_cast c.args.length c.args.index.now c.met_index-met.result c.in-Within.lo c.in-Within.hi
    c.ranges.length.fits c.met_index-met.ensures c.in-Within.is in
    let e = index_ends c.args.length c.args.index.now c.met_index-met.result c.in-Within.lo c.in-Within.hi
    c.met_index-met.ensures c.in-Within.is in
    rw (j.same, k.same) (let a = e.low in let b = e.order in omega (arith, ints))

pub each_joined-requires-in-None-clause-bound : goal.each_joined-requires-in-None-clause-bound
each_joined-requires-in-None-clause-bound c =
    let k = high_cast c.args.length c.args.index.now c.met_index-met.result c.in-Within.lo c.in-Within.hi
    c.ranges.length.fits c.met_index-met.ensures c.in-Within.is in
    rw k.same (let b = k.bound in omega arith)
