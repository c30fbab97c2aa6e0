use Rattle.abs_state.proofs.Keeping.{included_covers, included_stands, join_covers}
use Rattle.abs_state.proofs.laws.states_cover.Goals as goal

pub returns-clause-join : goal.returns-clause-join
returns-clause-join c = join_covers

pub returns-clause-included_stands : goal.returns-clause-included_stands
returns-clause-included_stands c = included_stands

pub returns-clause-included_covers : goal.returns-clause-included_covers
returns-clause-included_covers c = included_covers
