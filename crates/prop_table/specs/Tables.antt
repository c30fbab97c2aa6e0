-- What is answered: the table of all properties, or why there is none (this project's own).
use Rattle.std.specs.Prelude.{◌≡◌, ◌<◌, ◌≤◌, length, min, Result, Ok, Err}
use Rattle.c_ir.specs.Programs.{Program}
use Rattle.c_ir.specs.Props.{Props}
use Rattle.prop_table.specs.declared.fault.TableFault.{TableFault}
use Rattle.prop_table.specs.declared.fault.TableFault.TheVariants.{TooManyProps, Memory}
use Rattle.prop_table.specs.Rows.{rows_of, defined_of}

-- a table has at most 65,536 properties; the number of a refusal is how many there are, at most 4,294,967,295
unfoldable pub Tables : Program → Result Props TableFault → Type 0
Tables p (Ok t) = (length (rows_of p) ≤ 65536) × (t ≡ record { rows = rows_of p; defined = defined_of p })
Tables p (Err (TooManyProps n)) = (65536 < length (rows_of p)) × (n ≡ min (length (rows_of p)) 4294967295)
Tables p (Err Memory) = Unit {0}
