use Rattle.int_interval.proofs.Cover.{contains_member, empty_none, just_same, join_left, join_right, meet_both, meet_holds, included_holds}
use Rattle.int_interval.proofs.laws.set_laws.Goals as goal

pub returns-clause-contains : goal.returns-clause-contains
returns-clause-contains c = contains_member

pub returns-clause-is_empty : goal.returns-clause-is_empty
returns-clause-is_empty c = empty_none

pub returns-clause-is_just : goal.returns-clause-is_just
returns-clause-is_just c = just_same

pub returns-clause-join : goal.returns-clause-join
returns-clause-join c = λ a b z. (join_left a b z, join_right a b z)

pub returns-clause-meet : goal.returns-clause-meet
returns-clause-meet c = λ a b z. (meet_both a b z, λ h. meet_holds a b z h.0 h.1)

pub returns-clause-included : goal.returns-clause-included
returns-clause-included c = included_holds
