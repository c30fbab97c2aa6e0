use Rattle.event_board.proofs.Openings.{openings_dont_count}
use Rattle.event_board.proofs.laws.openings_dont_count.Goals as goal

pub returns : goal.returns
returns c = openings_dont_count
