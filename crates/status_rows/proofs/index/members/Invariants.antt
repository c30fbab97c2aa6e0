use Rattle.std.proofs.Common.{◌≡◌, length}
use Rattle.status_rows.specs.inner.Noted.{MembersBelow}
use Rattle.status_rows.proofs.index.members.Given as goal

abbrev pub invariant-loop-place : goal.invariant-loop-place
invariant-loop-place l = (length l.lists.items ≡ length l.fn.props.rows) × MembersBelow l.fn.props l.lists.items l.place
