-- What is asked of a table of properties: which numbers are a property's, names, the properties of kind Dead,
-- which functions are defined, and which properties are admitted (this project's own).
use Rattle.std.specs.Prelude.{List, ℕ, ℤ, pos, Bool, true, false, not, Option, Some, None, position, bytes_eq, slice_get, slice_index_or, length, nat_lt, ◌&&◌, ◌==◌}
use Rattle.std.specs.Option.{option_map, option_and_then}
use Rattle.std.specs.Ordering.{int_eq}
use Rattle.fc_base.specs.declared.ids.PropId.{PropId}
use Rattle.c_ir.specs.declared.kind.Kind.{Kind}
use Rattle.c_ir.specs.declared.kind.Kind.TheVariants.{Requires, Ensures, Admit}
use Rattle.c_ir.specs.declared.prop.Prop.{Prop}
use Rattle.c_ir.specs.Kinds.{is_dead}
use Rattle.c_ir.specs.Props.{Props}

-- Numbers.

-- whether a number is a property's
abbrev pub is_row : Props → ℕ → Bool
is_row t p = nat_lt p (length t.rows)

-- whether the property with a number passes a test; false where the table has none
abbrev pub some_row : (Prop → Bool) → Option Prop → Bool
some_row test None = false
some_row test (Some row) = test row

abbrev pub row_passes : Props → (Prop → Bool) → ℕ → Bool
row_passes t test p = some_row test (slice_get t.rows p)

-- whether a property is of kind Dead, is of another kind, is firm
abbrev pub is_dead_row : Props → ℕ → Bool
is_dead_row t p = row_passes t (λ row. is_dead row.kind) p

abbrev pub is_live : Props → ℕ → Bool
is_live t p = row_passes t (λ row. not (is_dead row.kind)) p

abbrev pub is_firm_row : Props → ℕ → Bool
is_firm_row t p = row_passes t (λ row. row.firm) p

-- Names and points.

-- the number of the first property that passes a test
abbrev pub first_place : (Prop → Bool) → List Prop → Option PropId
first_place test rows = option_map (λ n. record { 0 = n }) (position test rows)

-- whether this is the property's name
abbrev pub has_name : List ℕ → Prop → Bool
has_name name p = bytes_eq p.name name

-- the number of the first property with this name
abbrev pub first_named : List ℕ → List Prop → Option PropId
first_named name rows = first_place (has_name name) rows

-- whether the property claims that no run arrives at this point
abbrev pub claims_dead : ℕ → Prop → Bool
claims_dead point p = is_dead p.kind && (p.point.0 == point)

-- the number of the first property that claims that no run arrives at this point
abbrev pub dead_at : List Prop → ℕ → Option PropId
dead_at rows point = first_place (claims_dead point) rows

-- the number of the first property that claims that no run arrives at the point of property n; none
-- where the table has no property n
abbrev pub dead_of : List Prop → ℕ → Option PropId
dead_of rows n = option_and_then (λ p. dead_at rows p.point.0) (slice_get rows n)

-- Admitted properties.

-- whether a function is defined; one that the table doesn't list isn't
abbrev pub is_defined : Props → ℕ → Bool
is_defined t f = slice_index_or t.defined f false

-- a property is admitted if it is of kind Admit, an Ensures of an undefined function, or a Requires of the entry
-- function, which is given by its number
abbrev pub kind_admitted : Props → ℤ → ℕ → Kind → Bool
kind_admitted t entry f Admit = true
kind_admitted t entry f Ensures = not (is_defined t f)
kind_admitted t entry f Requires = int_eq (pos f) entry
kind_admitted t entry f _ = false

abbrev pub row_admitted : Props → ℤ → Prop → Bool
row_admitted t entry row = kind_admitted t entry row.function.0 row.kind
