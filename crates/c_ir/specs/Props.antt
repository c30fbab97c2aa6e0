-- What contracts see of a table of properties.
use Rattle.std.specs.Prelude.{List, Bool}
use Rattle.c_ir.specs.declared.prop.Prop.{Prop}

-- the properties in order, and for each function whether it is defined
pub record Props : Type 0 where
  pub rows : List Prop
  pub defined : List Bool
