use Rattle.status_core.proofs.Placings.{own_ok}
use Rattle.status_core.proofs.table.Table.own.Goals as goal

pub returns-in-Ok : goal.returns-in-Ok
returns-in-Ok c = own_ok c.args.self.now.props c.args.entry.now c.args.self.now c.emit_kernel.new.self c.in-Ok.value c.len-at.result c.version.result c.in-Ok.ensures c.len-at.ensures.value c.version.ensures
