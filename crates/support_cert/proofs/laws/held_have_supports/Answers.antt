use Rattle.support_cert.proofs.Supports.{held_have_supports}
use Rattle.support_cert.proofs.laws.held_have_supports.Goals as goal

pub returns : goal.returns
returns c = held_have_supports
