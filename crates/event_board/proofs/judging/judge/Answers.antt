use Rattle.event_board.proofs.judging.judge.Goals as goal

pub returns : goal.returns
returns c = c.judge_at.ensures c.args.history.now c.standing_for.ensures.value
