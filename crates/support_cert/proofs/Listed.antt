-- The entries on a property, read from the lists of all properties.
use Rattle.std.proofs.Common.{◌≡◌, ℕ, zero, suc, Bool, List, [], ◌∷◌, Option, Some, None, map, refl}
use Rattle.std.specs.Prelude.{find, slice_get, slice_index_or}
use Rattle.std.specs.List.{list_any}
use Rattle.std.specs.Global.{Vec}
use Rattle.status_rules.specs.declared.counting.CountedEntry.{CountedEntry}
use Rattle.status_rules.specs.Counting.{PlacedEntry}
use Rattle.status_rules.specs.inner.ByProp.{all_entries, placed}

abbrev pub listed : Option (Vec CountedEntry) → List PlacedEntry
listed None = []
listed (Some v) = map placed v.items

pub any_listed : (test : PlacedEntry → Bool) (ls : List (Vec CountedEntry)) (p : ℕ)
    → list_any test (slice_index_or (all_entries ls) p []) ≡ list_any test (listed (slice_get ls p))
any_listed test [] p = refl
any_listed test (l ∷ ls) zero = refl
any_listed test (l ∷ ls) (suc p) = any_listed test ls p

pub find_listed : (test : PlacedEntry → Bool) (ls : List (Vec CountedEntry)) (p : ℕ)
    → find test (slice_index_or (all_entries ls) p []) ≡ find test (listed (slice_get ls p))
find_listed test [] p = refl
find_listed test (l ∷ ls) zero = refl
find_listed test (l ∷ ls) (suc p) = find_listed test ls p
