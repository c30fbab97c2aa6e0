use Rattle.std.proofs.Common.{◌<◌, ◌≤◌, length, map, drop, set, get_or, [], ap, ◌∙◌, arith}
use Rattle.status_rules.specs.Counting.{last_of_each}
use Rattle.status_rules.specs.Holds.{by_prop}
use Rattle.status_rules.specs.inner.ByProp.{placed, with_entry}
use Rattle.status_rules.proofs.Noted.{entry_step, one_back}
use Rattle.status_rules.proofs.by_prop.last_by_prop.Goals as goal

pub loop-left-preserved : goal.loop-left-preserved
loop-left-preserved c =
    let xs = c.args.entries.now in
    let left = c.loop-left.left in
    let x = c.index-entries-left.result in
    let e = placed x in
    let later = map placed (drop left xs) in
    let above : 0 < left = omega arith in
    let within : left ≤ length xs = c.loop-left.invariant.within in
    record {
      within = omega arith;
      noted =
          c.in_ok-note_at.ensures
          ∙ (ap (λ ls. set ls e.entry.prop.0 (with_entry e (get_or ls e.entry.prop.0 []))) c.loop-left.invariant.noted
          ∙ (entry_step e later c.args.rows.now
          ∙ ap (λ es. by_prop (last_of_each es) c.args.rows.now) (one_back xs left x above within c.index-entries-left.is)));
    }
