-- The shapes of C's integer types, as the domain sees them (C11 6.2.5, 6.2.6.2).
use Rattle.std.specs.Prelude.{pos, if◌then◌else◌}
use Rattle.c_ir.specs.Types.{greatest, least, same_type, width}
use Rattle.c_ir.specs.declared.ty.IntType.{IntType}
use Rattle.c_ir.specs.declared.ty.IntType.TheVariants as T
use Rattle.int_interval.specs.declared.shape.Shape.{Shape}
use Rattle.int_value.specs.Rows.{convert_row, to_bool_row}
use Rattle.int_value.specs.declared.value.Value.{Value}

abbrev pub shape_of : IntType → Shape
shape_of ty = record { lo = least ty; hi = pos (greatest ty); width = width ty }

-- a conversion to the type (6.3.1.2, 6.3.1.3)
abbrev pub converted_row : IntType → Value → Value
converted_row ty v = if same_type ty T.Bool then to_bool_row v else convert_row (shape_of ty) v
