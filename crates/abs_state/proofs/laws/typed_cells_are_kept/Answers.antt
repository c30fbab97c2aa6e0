use Rattle.abs_state.proofs.Keeping.{whole_stands, widen_keeps}
use Rattle.abs_state.proofs.laws.typed_cells_are_kept.Goals as goal

pub returns-clause-widen : goal.returns-clause-widen
returns-clause-widen c = widen_keeps

pub returns-clause-whole : goal.returns-clause-whole
returns-clause-whole c = whole_stands
