use Rattle.int_congr.proofs.Cover.{contains_member, join_upper, included_subset, meets_common}
use Rattle.int_congr.proofs.Normal.{join_least}
use Rattle.int_congr.proofs.laws.set_laws.Goals as goal

pub returns-clause-contains : goal.returns-clause-contains
returns-clause-contains c = contains_member

pub returns-clause-join : goal.returns-clause-join
returns-clause-join c = join_upper

pub returns-clause-included : goal.returns-clause-included
returns-clause-included c = included_subset

pub returns-clause-meets : goal.returns-clause-meets
returns-clause-meets c = meets_common

pub returns-clause-least : goal.returns-clause-least
returns-clause-least c = join_least
