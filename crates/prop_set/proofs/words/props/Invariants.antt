use Rattle.std.proofs.Common.{◌≡◌, ◌++◌}
use Rattle.prop_set.specs.Sets.{prop_ids}
use Rattle.prop_set.specs.inner.Words.{members_of}
use Rattle.prop_set.proofs.Counts.{rest_of}
use Rattle.prop_set.proofs.words.props.Given as goal

abbrev pub invariant-loop-number : goal.invariant-loop-number
invariant-loop-number l = l.props ++ prop_ids (rest_of l.words l.number) ≡ prop_ids (members_of l.words)
