use Rattle.event_board.proofs.Single.{answers_are_one}
use Rattle.event_board.proofs.laws.answers_are_one.Goals as goal

pub returns : goal.returns
returns c = answers_are_one
