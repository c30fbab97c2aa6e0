use Rattle.support_cert.proofs.Supports.{supported_hold}
use Rattle.support_cert.proofs.laws.supported_hold.Goals as goal

pub returns : goal.returns
returns c = supported_hold
