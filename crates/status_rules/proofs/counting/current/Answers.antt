use Rattle.std.proofs.Common.{◌<◌, length, arith, append_assoc}
use Rattle.status_rules.specs.Counting.{is_current}
use Rattle.status_rules.proofs.Kept.{kept_more}
use Rattle.status_rules.proofs.counting.current.Goals as goal

pub loop-index-preserved : goal.loop-index-preserved
loop-index-preserved c =
    let cs = c.as_slice-change-items.result.now in
    let i = c.loop-index.index in
    let within : i < length cs = omega arith in
    let kept = kept_more (is_current c.args.history.now) cs i c.change-item.result within c.change-item.is in
    record {
      rest = rw (c.in_ok-push_if_current.ensures, append_assoc, ← kept) c.loop-index.invariant.rest;
      items = c.loop-index.invariant.items;
    }
