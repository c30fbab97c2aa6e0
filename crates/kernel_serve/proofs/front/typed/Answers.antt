use Rattle.kernel_serve.proofs.Fronted.{entry_found, not_bound}
use Rattle.kernel_serve.proofs.front.typed.Goals as goal

pub returns-in-Ok : goal.returns-in-Ok
returns-in-Ok c = entry_found c.args.name.now c.args.tree.now.items c.args.annots.now c.in-Ok.program
    c.enter.result c.in-Ok.ensures c.enter.ensures

pub returns-in-Err : goal.returns-in-Err
returns-in-Err c = not_bound c.args.name.now c.args.tree.now.items c.args.annots.now c.in-Err.status
    c.in-Err.ensures
