use Rattle.std.proofs.Common.{ap, ◌∙◌}
use Rattle.prop_set.specs.inner.Words.{members_of}
use Rattle.prop_set.proofs.Members.{none}
use Rattle.prop_set.proofs.set.PropSet.new.Goals as goal

pub returns : goal.returns
returns c = ap members_of c.new.ensures ∙ none
