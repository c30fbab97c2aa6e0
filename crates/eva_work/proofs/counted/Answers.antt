use Rattle.std.proofs.Common.{ℕ, ◌∙◌, ap₂}
use Rattle.eva_work.specs.Work.{counted_work, work_of}
use Rattle.eva_work.specs.inner.Counting.{capped, whole}
use Rattle.eva_work.proofs.Sums.{none_noted}
use Rattle.eva_work.proofs.counted.Goals as goal

pub function-requires : goal.function-requires
function-requires c = none_noted c.args.program.now c.unrolled.result 32768 c.args.known.now c.requires

pub returns : goal.returns
unfolding counted_work work_of whole
returns c =
    let p = c.args.program.now in
    c.function.ensures.count ∙ ap₂ (λ (u g : ℕ). capped (whole p u g)) c.unrolled.ensures c.entry.ensures
