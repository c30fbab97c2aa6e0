use Rattle.std.proofs.Common.{◌∙◌, arith}
use Rattle.status_rows.proofs.Reach.{members_done, members_more}
use Rattle.status_rows.proofs.index.members.Goals as goal

pub loop-place-init : goal.loop-place-init
loop-place-init c = (c.in_ok-lists.ensures, λ q h. absurd (omega (arith, h)))

pub loop-place-preserved : goal.loop-place-preserved
loop-place-preserved c = (
  c.note_member.ensures.grown.0 ∙ c.loop-place.invariant.0,
  members_more c.args.props.now c.loop-place.lists.items c.note_member.new.lists.items c.loop-place.place c.loop-place.invariant.1 c.note_member.ensures.grown.1 (c.in_ok-note_member.ensures.noted c.loop-place.invariant.0),
)

pub returns : goal.returns
returns c = members_done c.args.props.now c.loop-place.lists.items c.loop-place.place (omega arith) c.loop-place.invariant.1
