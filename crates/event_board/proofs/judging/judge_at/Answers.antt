use Rattle.event_board.proofs.Standings.{by_standing}
use Rattle.event_board.proofs.judging.judge_at.Goals as goal

pub returns : goal.returns
returns c = λ h is. by_standing c.args.props.now c.args.change.now c.args.standing _ c.judged.ensures h is
