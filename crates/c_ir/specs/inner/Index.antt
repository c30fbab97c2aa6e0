-- What a table's indexes hold: the code's side.
use Rattle.std.specs.Prelude.{◌≡◌, ◌≤◌, List, ℕ, position, length}
use Rattle.std.specs.BTreeMap.{BTreeMap, get, get_by_text}
use Rattle.std.specs.Ordering.{nat_cmp}
use Rattle.std.specs.Prelude.{String}
use Rattle.c_ir.specs.declared.prop.Prop.{Prop}
use Rattle.c_ir.specs.Table.{has_name, claims_dead}

-- few enough rows, and beside them the first row of each name and the first row of kind Dead at each point
pub record IsIndexed {A : Type 0} (rows : List Prop) (names : BTreeMap (String A) ℕ) (deads : BTreeMap ℕ ℕ) : Type 0 where
  pub bound : length rows ≤ 65536
  pub first_names : (name : List ℕ) → get_by_text names name ≡ position (has_name name) rows
  pub first_deads : (point : ℕ) → get nat_cmp deads point ≡ position (claims_dead point) rows
