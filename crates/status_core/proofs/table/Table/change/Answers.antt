use Rattle.status_core.proofs.Placings.{made_ok}
use Rattle.status_core.proofs.table.Table.change.Goals as goal

pub returns-in-Ok : goal.returns-in-Ok
returns-in-Ok c = made_ok c.args.self.now.props c.args.change.now c.args.self.now c.made.new.self c.in-Ok.value c.len-at.result c.version.result c.in-Ok.ensures c.len-at.ensures.value c.version.ensures
