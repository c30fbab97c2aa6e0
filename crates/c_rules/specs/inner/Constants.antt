-- The checks of constant expressions as the code has them.
use Rattle.std.specs.Prelude.{ℕ, ◌^◌, ℤ, pos, negsuc, ◌*ℤ◌, int_lt, int_le, Bool, not, ◌&&◌, if◌then◌else◌, Option, Some, None}
use Rattle.machine_ints.specs.Bound.{bounded}
use Rattle.c_ir.specs.declared.ty.IntType.{IntType}
use Rattle.c_ir.specs.Types.{least, width}
use Rattle.c_rules.specs.Constants.{is_number, is_zero, equals, brought}

abbrev pub has_negative : IntType → Bool
has_negative ty = int_lt (least ty) (pos 0)

-- an exact result, brought into the type; of a signed type it has to be there
abbrev pub kept : IntType → ℤ → Option ℤ
kept ty z = if has_negative ty && not (is_number ty z) then None else Some (brought ty z)

-- the same of a result that may be past the bound
abbrev pub kept_if : IntType → Option ℤ → Option ℤ
kept_if ty None = None
kept_if ty (Some z) = kept ty z

abbrev pub divides : IntType → ℤ → ℤ → Bool
divides ty x y = not (is_zero y) && not (has_negative ty && (equals x (least ty) && equals y (negsuc 0)))

-- brought into a signed type
abbrev pub brought_if : IntType → ℤ → ℤ
brought_if ty z = if has_negative ty then brought ty z else z

abbrev pub is_shift_by : IntType → ℤ → Bool
is_shift_by ty y = int_le (pos 0) y && int_lt y (pos (width ty))

abbrev pub signed_shift : IntType → ℤ → ℕ → Option ℤ
signed_shift ty x by = if int_lt x (pos 0) then None else kept_if ty (bounded (x *ℤ pos (2 ^ by)))
