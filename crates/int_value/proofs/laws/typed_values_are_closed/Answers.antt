use Rattle.int_value.proofs.Typed.{convert_typed, bool_typed, join_typed, meet_typed}
use Rattle.int_value.proofs.Widened.{widen_typed, widen_keeps}
use Rattle.int_value.proofs.laws.typed_values_are_closed.Goals as goal

pub returns-clause-convert : goal.returns-clause-convert
returns-clause-convert c = convert_typed

pub returns-clause-to_bool : goal.returns-clause-to_bool
returns-clause-to_bool c = bool_typed

pub returns-clause-join : goal.returns-clause-join
returns-clause-join c = join_typed

pub returns-clause-meet : goal.returns-clause-meet
returns-clause-meet c = meet_typed

pub returns-clause-widen : goal.returns-clause-widen
returns-clause-widen c = widen_typed

pub returns-clause-widen_range : goal.returns-clause-widen_range
returns-clause-widen_range c = widen_keeps
