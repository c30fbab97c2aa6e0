-- The links of calls, by the lists of each point's callees and clauses.
use Rattle.std.specs.Prelude.{ℕ, ◌+◌, if◌then◌else◌, List, [], ◌∷◌, ◌++◌, get_or, set, length, replicate, Option, Some, None, slice_get}
use Rattle.by_key.specs.Keys.{Groups}
use Rattle.by_key.specs.declared.lists.Keyed.{Keyed}
use Rattle.fc_base.specs.declared.ids.PointId.{PointId}
use Rattle.c_ir.specs.Programs.{Program}
use Rattle.c_ir.specs.declared.prop.Prop.{Prop}
use Rattle.c_ir.specs.declared.tree.Fun.{Fun}
use Rattle.prop_runs.specs.Numbers.{is_call_requires, is_clause}
use Rattle.prop_table.specs.Points.{is_requires, noted_calls}
use Rattle.rte_alarms.specs.Entries.{link_entry}
use Rattle.rte_alarms.specs.declared.links.Lists.{Lists}
use Rattle.status_history.specs.declared.history.Entry.{Entry}

-- ---- clauses

abbrev pub clause_row : Prop → List Keyed
clause_row r = if is_clause r.kind then record { key = r.point.0; number = r.id.0 } ∷ [] else []

-- the properties of clauses, each with its point
abbrev pub clause_rows : List Prop → List Keyed
clause_rows [] = []
clause_rows (r ∷ rs) = clause_row r ++ clause_rows rs

-- the number of clause k at point q; `total` if there are fewer
abbrev pub clause_by : Lists → ℕ → ℕ → ℕ → ℕ
clause_by lists total q k = get_or (get_or lists.clauses q []) k total

-- the lists are those of the program and of these properties
pub record IsLists (p : Program) (rows : List Prop) (lists : Lists) : Type 0 where
  pub callees : Groups lists.callees (length p.points) (noted_calls p.fns)
  pub clauses : Groups lists.clauses (length p.points) (clause_rows rows)

-- ---- counts

abbrev pub count_in : List ℕ → Prop → ℕ
count_in counts r = get_or counts r.point.0 0

abbrev pub counted : List ℕ → Prop → List ℕ
counted counts r = if is_call_requires r.kind then set counts r.point.0 (count_in counts r + 1) else counts

-- ---- links

abbrev pub entry_if : Option Fun → Option PointId
entry_if None = None
entry_if (Some f) = Some f.entry

-- the entry of the function with this number
abbrev pub entry_of : Program → ℕ → Option PointId
entry_of p g = entry_if (slice_get p.fns g)

-- property n is an instance of clause k at this entry
abbrev pub link_to : Lists → ℕ → ℕ → ℕ → Option PointId → List Keyed
link_to lists total n k None = []
link_to lists total n k (Some q) = record { key = clause_by lists total q.0 k; number = n } ∷ []

-- and at those of these functions
abbrev pub links_to : Program → Lists → ℕ → ℕ → ℕ → List ℕ → List Keyed
links_to p lists total n k [] = []
links_to p lists total n k (g ∷ gs) = link_to lists total n k (entry_of p g) ++ links_to p lists total n k gs

abbrev pub row_links : Program → Lists → ℕ → List ℕ → Prop → List Keyed
row_links p lists total counts r =
    if is_call_requires r.kind
    then links_to p lists total r.id.0 (count_in counts r) (get_or lists.callees r.point.0 [])
    else []

abbrev pub links_by : Program → Lists → ℕ → List ℕ → List Prop → List Keyed
links_by p lists total counts [] = []
links_by p lists total counts (r ∷ rs) =
    row_links p lists total counts r ++ links_by p lists total (counted counts r) rs

-- those of all properties
abbrev pub all_links : Program → Lists → List Prop → List Keyed
all_links p lists rows = links_by p lists (length rows) (replicate (length p.points) 0) rows

-- ---- entries

abbrev pub link_row : ℕ → List (List ℕ) → Prop → List Entry
link_row version lists r = if is_requires r.kind then link_entry version r.id.0
    (get_or lists r.id.0 []) ∷ [] else []

abbrev pub entries_by : ℕ → List (List ℕ) → List Prop → List Entry
entries_by version lists [] = []
entries_by version lists (r ∷ rs) = link_row version lists r ++ entries_by version lists rs
