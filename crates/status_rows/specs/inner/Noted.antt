-- Lists that grow: the code's side.
use Rattle.std.specs.Prelude.{◌≡◌, ◌<◌, List, ℕ, true, Some}
use Rattle.std.specs.Global.{Vec}
use Rattle.fc_base.specs.declared.ids.PropId.{PropId}
use Rattle.c_ir.specs.Props.{Props}
use Rattle.c_ir.specs.Table.{dead_of}
use Rattle.status_rows.specs.Index.{has, listed}

-- a list that has all that another has
abbrev pub Longer : List ℕ → List ℕ → Type 0
Longer old new = (q : ℕ) → has q old ≡ true → has q new ≡ true

-- a property is listed at the one of kind Dead at its point
abbrev pub IsMember : Props → List (Vec ℕ) → ℕ → Type 0
IsMember t lists q = (d : PropId) → dead_of t.rows q ≡ Some d → has q (listed lists d.0) ≡ true

-- so it is for each property below a number
abbrev pub MembersBelow : Props → List (Vec ℕ) → ℕ → Type 0
MembersBelow t lists n = (q : ℕ) → q < n → IsMember t lists q
