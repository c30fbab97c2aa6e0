use Rattle.int_value.proofs.Cover.{conversion_covers, bool_covers}
use Rattle.int_value.proofs.laws.conversions_cover.Goals as goal

pub returns-clause-convert : goal.returns-clause-convert
returns-clause-convert c = conversion_covers

pub returns-clause-to_bool : goal.returns-clause-to_bool
returns-clause-to_bool c = bool_covers
