use Rattle.eva_expr.specs.Conditions.{checks_overflow}
use Rattle.eva_run.specs.Code.{ground_by}
use Rattle.eva_run.proofs.Aiming.{cell_aimed, element_aimed, nowhere_aimed}
use Rattle.eva_run.proofs.values.aim.Goals as goal

pub returns-in-Cell : goal.returns-in-Cell
returns-in-Cell c =
    cell_aimed (ground_by c.args.setting).number c.args.noting c.args.table.now
    (checks_overflow c.args.setting.params.now.values) c.args.target.now c.in-Cell.cell c.in-Cell.checked
    c.args.state
    c.in-Cell.is

pub returns-in-Element : goal.returns-in-Element
returns-in-Element c =
    element_aimed (ground_by c.args.setting).number c.args.noting c.args.table.now c.aim_element.new.table
    c.aim_element.result (checks_overflow c.args.setting.params.now.values) c.args.target.now
    c.in-Element.first
    c.in-Element.length c.in-Element.index c.get-index.result.now c.in-Element.checked c.args.state
    c.in-Element.is
    c.get-index.ensures c.aim_element.ensures

pub returns-in-Literal : goal.returns-in-Literal
returns-in-Literal c =
    nowhere_aimed (ground_by c.args.setting).number c.args.noting c.args.table.now
    (checks_overflow c.args.setting.params.now.values) c.args.target.now c.args.state c.unreached.result
    c.in-Literal.is c.unreached.ensures
