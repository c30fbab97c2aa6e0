use Rattle.std.proofs.Common.{sym, ◌∙◌}
use Rattle.prop_set.proofs.Members.{member_by_bit}
use Rattle.prop_set.proofs.words.has.Goals as goal

pub returns : goal.returns
returns c = c.bit.ensures ∙ sym (member_by_bit c.args.words.now c.args.number)
