-- Which properties an emission may reach, by lists of properties (this project's own).
use Rattle.std.specs.Prelude.{◌≡◌, ◌<◌, List, [], ◌∷◌, ◌++◌, ℕ, ◌==◌, Bool, true, Option, Some, None, slice_get, length}
use Rattle.std.specs.List.{list_any}
use Rattle.std.specs.Global.{Vec}
use Rattle.fc_base.specs.declared.ids.PropId.{PropId}
use Rattle.c_ir.specs.Props.{Props}
use Rattle.c_ir.specs.Table.{dead_of}
use Rattle.status_rules.specs.Counting.{PlacedEntry}
use Rattle.status_rules.specs.Holds.{Basis, entries_on}

-- whether a number is in a list
abbrev pub has : ℕ → List ℕ → Bool
has q qs = list_any (λ x. x == q) qs

abbrev pub some_items : Option (Vec ℕ) → List ℕ
some_items None = []
some_items (Some v) = v.items

-- the list with a number; the empty one, where there is none
abbrev pub listed : List (Vec ℕ) → ℕ → List ℕ
listed lists n = some_items (slice_get lists n)

-- what the lists of these numbers have
abbrev pub all_listed : List (Vec ℕ) → List ℕ → List ℕ
all_listed lists [] = []
all_listed lists (q ∷ qs) = listed lists q ++ all_listed lists qs

-- these numbers and what their lists have
abbrev pub gathered : List (Vec ℕ) → List ℕ → List ℕ
gathered lists qs = qs ++ all_listed lists qs

-- for each property of kind Dead the properties whose point's it is
abbrev pub MembersCover : Props → List (Vec ℕ) → Type 0
MembersCover t members =
    (q : ℕ) (d : PropId) → dead_of t.rows q ≡ Some d → has q (listed members d.0) ≡ true

-- whether an entry names a property as a hypothesis
abbrev pub names : ℕ → PlacedEntry → Bool
names r e = list_any (λ (h : PropId). h.0 == r) e.entry.hyps

-- for each property at least those with a counted entry that names it
abbrev pub UsersCover : Basis → List (Vec ℕ) → Type 0
UsersCover b users =
    (q r : ℕ) → r < length b.table.rows → list_any (names r) (entries_on b q) ≡ true
    → has q (listed users r) ≡ true

-- the properties that an emission on p may reach
abbrev pub reached_by : List (Vec ℕ) → List (Vec ℕ) → ℕ → List ℕ
reached_by members users p = gathered members (gathered users (gathered members (p ∷ [])))

-- lists that have grown
abbrev pub Grown : List (Vec ℕ) → List (Vec ℕ) → Type 0
Grown old new =
    (length new ≡ length old)
    × ((q r : ℕ) → has q (listed old r) ≡ true → has q (listed new r) ≡ true)

-- a property is noted at each of its hypotheses
abbrev pub AreNoted : ℕ → List PropId → List (Vec ℕ) → List (Vec ℕ) → Type 0
AreNoted p hyps old new =
    (r : ℕ) → r < length old → list_any (λ (h : PropId). h.0 == r) hyps ≡ true
    → has p (listed new r) ≡ true
