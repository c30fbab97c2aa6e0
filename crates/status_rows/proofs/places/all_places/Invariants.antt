use Rattle.std.proofs.Common.{◌≡◌, drop, ◌++◌, map, ℕ}
use Rattle.std.specs.Global.{Vec}
use Rattle.status_rows.specs.inner.Counted.{places_in}
use Rattle.status_rows.proofs.places.all_places.Given as goal

abbrev pub invariant-loop-list : goal.invariant-loop-list
invariant-loop-list l = map (λ (b : Vec ℕ). b.items) l.lists.items ++ map places_in (drop l.list-index l.fn.entries) ≡ map places_in l.fn.entries
