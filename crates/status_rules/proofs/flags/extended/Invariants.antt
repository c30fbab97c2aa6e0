use Rattle.std.proofs.Common.{◌≡◌, ◌++◌, drop}
use Rattle.status_rules.specs.inner.Flags.{flag}
use Rattle.status_rules.specs.Holds.{at_each, extends}
use Rattle.status_rules.proofs.flags.extended.Given as goal

abbrev pub invariant-loop-place : goal.invariant-loop-place
invariant-loop-place l = l.flags.items ++ at_each (extends l.props (flag l.known) (flag l.claimed)) l.place (drop l.place l.props.rows) ≡ at_each (extends l.props (flag l.known) (flag l.claimed)) 0 l.props.rows
