use Rattle.int_value.proofs.Cover.{reduce_keeps, join_upper, meet_both, included_subset}
use Rattle.int_value.proofs.laws.set_laws.Goals as goal

pub returns-clause-reduce : goal.returns-clause-reduce
returns-clause-reduce c = reduce_keeps

pub returns-clause-join : goal.returns-clause-join
returns-clause-join c = join_upper

pub returns-clause-meet : goal.returns-clause-meet
returns-clause-meet c = meet_both

pub returns-clause-included : goal.returns-clause-included
returns-clause-included c = included_subset
