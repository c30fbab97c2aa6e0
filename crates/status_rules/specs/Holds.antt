-- Which properties are sure, and which hold (this project's own): `is_sure`, `is_held`.
use Rattle.std.specs.Prelude.{List, [], ℕ, ◌+◌, ℤ, Bool, true, false, ◌==◌, ◌&&◌, ◌||◌, ◌∷◌, Option, Some, None, slice_index_or, filter}
use Rattle.std.specs.List.{list_any, list_all}
use denote.Enum.Bare.{sameb}
use Rattle.fc_base.specs.declared.ids.PropId.{PropId}
use Rattle.fc_base.specs.declared.status.LocalStatus.{LocalStatus}
use Rattle.fc_base.specs.declared.status.LocalStatus.TheVariants as Status
use Rattle.fc_base.specs.contracts.status.LocalStatus.{the_type}
use Rattle.param_book.specs.Table.{run_values, entry_function}
use Rattle.c_ir.specs.Props.{Props}
use Rattle.c_ir.specs.Table.{dead_of, is_live, is_row, row_admitted, row_passes}
use Rattle.c_ir.specs.declared.prop.Prop.{Prop}
use Rattle.status_history.specs.declared.history.History.{History}
use Rattle.status_history.specs.Values.{values_now}
use Rattle.status_rules.specs.Counting.{PlacedEntry, counted_of}

-- what a function has at the number of each element of a list, counted from n
abbrev pub at_each : {A B : Type 0} → (ℕ → B) → ℕ → List A → List B
at_each f n [] = []
at_each f n (x ∷ xs) = f n ∷ at_each f (n + 1) xs

-- whether an entry is on a property
abbrev pub is_on : ℕ → PlacedEntry → Bool
is_on p e = e.entry.prop.0 == p

-- for each property of a table, by its number, the entries on it
abbrev pub by_prop : List PlacedEntry → List Prop → List (List PlacedEntry)
by_prop es rows = at_each (λ p. filter (is_on p) es) 0 rows

-- what verdicts rest on: the table, the number of the entry function, and for each property the entries on it
-- that count
pub record Basis : Type 0 where
  pub table : Props
  pub entry_function : ℤ
  pub entries : List (List PlacedEntry)

-- what the verdicts of a history rest on
abbrev pub basis_of : History → Props → Basis
basis_of h t = record {
  table = t;
  entry_function = entry_function (run_values (values_now h));
  entries = by_prop (counted_of h) t.rows;
}

-- the counted entries on a property
abbrev pub entries_on : Basis → ℕ → List PlacedEntry
entries_on b p = slice_index_or b.entries p []

-- whether a property is admitted
abbrev pub is_admitted : Basis → ℕ → Bool
is_admitted b p = row_passes b.table (row_admitted b.table b.entry_function) p

-- whether two statuses are the same
abbrev pub same_status : LocalStatus → LocalStatus → Bool
same_status = sameb the_type

-- whether an entry has this status and all its hypotheses pass a test
abbrev pub supports : LocalStatus → (ℕ → Bool) → PlacedEntry → Bool
supports s known e = same_status e.entry.status s && list_all (λ (q : PropId). known q.0) e.entry.hyps

-- whether a property has a counted entry with this status, all of whose hypotheses pass a test
abbrev pub is_claimed : LocalStatus → (ℕ → Bool) → Basis → ℕ → Bool
is_claimed s known b p = list_any (supports s known) (entries_on b p)

-- no property: a list all of whose elements are among none is empty
abbrev pub nothing : ℕ → Bool
nothing p = false

-- whether the property of kind Dead at a point passes a test
abbrev pub some_prop : (ℕ → Bool) → Option PropId → Bool
some_prop test None = false
some_prop test (Some d) = test d.0

-- whether a property isn't of kind Dead, and the property of kind Dead at its point passes a test
abbrev pub dead_passes : Props → (ℕ → Bool) → ℕ → Bool
dead_passes t test p = is_live t p && some_prop test (dead_of t.rows p)

-- a property of the table that passes either of two tests, or that isn't of kind Dead and whose point's
-- property of kind Dead passes the second
abbrev pub extends : Props → (ℕ → Bool) → (ℕ → Bool) → ℕ → Bool
extends t known claimed p = is_row t p && (known p || (claimed p || dead_passes t claimed p))

-- a property is sure if it is admitted or has a counted True entry without hypotheses, or isn't of kind
-- Dead and the one of kind Dead at its point has such an entry
abbrev pub is_sure : Basis → ℕ → Bool
is_sure b = extends b.table (is_admitted b) (is_claimed Status.True nothing b)

-- whether a property has a counted entry with this status and with hypotheses that are all sure
abbrev pub is_supported : LocalStatus → Basis → ℕ → Bool
is_supported s b = is_claimed s (is_sure b) b

-- a property holds if it is sure or has a counted True entry with hypotheses that are all sure, or isn't
-- of kind Dead and the one of kind Dead at its point has such an entry
abbrev pub is_held : Basis → ℕ → Bool
is_held b = extends b.table (is_sure b) (is_supported Status.True b)
