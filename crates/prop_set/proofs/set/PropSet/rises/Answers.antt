use Rattle.std.proofs.Common.{subst}
use Rattle.prop_set.specs.Sets.{IsRising}
use Rattle.prop_set.proofs.Members.{members_rise}
use Rattle.prop_set.proofs.set.PropSet.rises.Goals as goal

pub returns : goal.returns
returns c = subst IsRising c.self.view_is (members_rise c.self.inside.words)
