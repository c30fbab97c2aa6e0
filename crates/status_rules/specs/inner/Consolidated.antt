-- What the computation of verdicts is given: the code's side.
use Rattle.std.specs.Global.{Vec}
use Rattle.fc_base.specs.declared.params.ParamValues.{ParamValues}
use Rattle.param_book.specs.Table.{entry_function, run_values}
use Rattle.c_ir.specs.Props.{Props}
use Rattle.status_rules.specs.declared.counting.CountedEntry.{CountedEntry}
use Rattle.status_rules.specs.Holds.{Basis}
use Rattle.status_rules.specs.inner.ByProp.{entries_in}

-- what verdicts rest on, for a table, the values of the parameters and the counted entries on each property
abbrev pub basis : Props → ParamValues → Vec (Vec CountedEntry) → Basis
basis t values lists = record { table = t; entry_function = entry_function (run_values values); entries = entries_in lists }
