use Rattle.int_value.proofs.Typed.{whole_typed}
use Rattle.int_value.proofs.Included.{whole_includes, join_least}
use Rattle.int_value.proofs.laws.whole_type_includes.Goals as goal

pub returns-clause-whole : goal.returns-clause-whole
returns-clause-whole c = whole_typed

pub returns-clause-includes : goal.returns-clause-includes
returns-clause-includes c = whole_includes

pub returns-clause-least : goal.returns-clause-least
returns-clause-least c = join_least
