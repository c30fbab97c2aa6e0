use Rattle.prop_set.proofs.Lists.{adds_one, adds_all, within, one_rises, all_rise, members_decide}
use Rattle.prop_set.proofs.laws.sets_are_lists.Goals as goal

pub returns-clause-one : goal.returns-clause-one
returns-clause-one c = adds_one

pub returns-clause-all : goal.returns-clause-all
returns-clause-all c = adds_all

pub returns-clause-within : goal.returns-clause-within
returns-clause-within c = within

pub returns-clause-one_rises : goal.returns-clause-one_rises
returns-clause-one_rises c = one_rises

pub returns-clause-all_rise : goal.returns-clause-all_rise
returns-clause-all_rise c = all_rise

pub returns-clause-equal : goal.returns-clause-equal
returns-clause-equal c = members_decide
