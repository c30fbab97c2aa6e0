use Rattle.event_board.proofs.Standings.{own_standing}
use Rattle.event_board.proofs.judging.judge_own.Goals as goal

pub returns : goal.returns
returns c =
    own_standing c.args.props.now c.args.entry.now _ _ c.judged_own.ensures c.args.history.now c.numbers.ensures.value
