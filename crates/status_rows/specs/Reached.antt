-- Which verdicts can alter where the counted entries on one property do (this project's own).
use Rattle.std.specs.Prelude.{◌≡◌, ◌≢◌, ℕ, Bool, false, ◌==◌, ◌||◌}
use Rattle.std.specs.List.{list_any}
use Rattle.fc_base.specs.declared.ids.PropId.{PropId}
use Rattle.c_ir.specs.Props.{Props}
use Rattle.c_ir.specs.Table.{dead_of}
use Rattle.status_rules.specs.Counting.{PlacedEntry}
use Rattle.status_rules.specs.Holds.{Basis, entries_on, some_prop}
use Rattle.status_rules.specs.Verdicts.{verdict_of}

-- q is p, or p is the property of kind Dead at the point of q
abbrev pub is_near : Props → ℕ → ℕ → Bool
is_near t p q = (q == p) || some_prop (λ d. d == p) (dead_of t.rows q)

-- whether an entry has a hypothesis that is near p
abbrev pub rests_near : Props → ℕ → PlacedEntry → Bool
rests_near t p e = list_any (λ (h : PropId). is_near t p h.0) e.entry.hyps

-- q is p or has a counted entry with a hypothesis that is near p
abbrev pub leans_on : Basis → ℕ → ℕ → Bool
leans_on b p q = (q == p) || list_any (rests_near b.table p) (entries_on b q)

-- q is near p or leans on it, or the property of kind Dead at its point leans on p
abbrev pub is_reached : Basis → ℕ → ℕ → Bool
is_reached b p q =
    is_near b.table p q || (leans_on b p q || some_prop (leans_on b p) (dead_of b.table.rows q))

-- two bases with the same table and entry function, and with the same counted entries on each property but p
pub record DiffersAt (p : ℕ) (a b : Basis) : Type 0 where
  pub same_table : b.table ≡ a.table
  pub same_entry : b.entry_function ≡ a.entry_function
  pub elsewhere : (q : ℕ) → q ≢ p → entries_on b q ≡ entries_on a q

-- the verdict of a property that isn't reached stays
abbrev pub UnreachedKeep : Type 0
UnreachedKeep =
    (a b : Basis) (p q : ℕ) → DiffersAt p a b → is_reached a p q ≡ false → verdict_of b q ≡ verdict_of a q
