use Rattle.int_value.proofs.Cover.{contains_member}
use Rattle.int_value.proofs.Members.{empty_none, single_one}
use Rattle.int_value.proofs.laws.membership.Goals as goal

pub returns-clause-contains : goal.returns-clause-contains
returns-clause-contains c = contains_member

pub returns-clause-is_empty : goal.returns-clause-is_empty
returns-clause-is_empty c = empty_none

pub returns-clause-single : goal.returns-clause-single
returns-clause-single c = single_one
