-- Which precondition of a callee a property of a call is an instance of (ACSL manual, function contracts: a
-- caller
-- has to establish the `requires` of what it calls).
use Rattle.std.specs.Prelude.{ℕ, ◌+◌, List, [], ◌∷◌, ◌++◌, Option, Some, None, slice_get, if◌then◌else◌}
use Rattle.by_key.specs.declared.lists.Keyed.{Keyed}
use Rattle.c_ir.specs.Programs.{Program}
use Rattle.c_ir.specs.declared.prop.Prop.{Prop}
use Rattle.c_ir.specs.declared.tree.Fun.{Fun}
use Rattle.prop_table.specs.Points.{calls_at}
use Rattle.c_runs.specs.Visits.{Clause}
use Rattle.prop_runs.specs.Numbers.{call_requires_at, number_of}

-- how many of these are instances at this point
abbrev pub count_at : ℕ → List Prop → ℕ
count_at q [] = 0
count_at q (r ∷ rs) = (if call_requires_at q r then 1 else 0) + count_at q rs

abbrev pub entry_in : Option Fun → List ℕ
entry_in None = []
entry_in (Some f) = f.entry.0 ∷ []

-- the entries of these functions
abbrev pub callee_entries : Program → List ℕ → List ℕ
callee_entries p [] = []
callee_entries p (g ∷ gs) = entry_in (slice_get p.fns g) ++ callee_entries p gs

-- property n, before which k instances stand at its point, is an instance of clause k at each of these
-- entries; a
-- statement calls one function at most
abbrev pub link : List Prop → ℕ → ℕ → List ℕ → List Keyed
link all n k [] = []
link all n k (q ∷ qs) = record { key = number_of all (Clause q k); number = n } ∷ link all n k qs

abbrev pub links_at : Program → List Prop → ℕ → ℕ → Prop → List Keyed
links_at p all n k r =
    if call_requires_at r.point.0 r then link all n k (callee_entries p (calls_at p r.point.0)) else []

-- the links of the properties after others, of which the first has number n
abbrev pub links_from : Program → List Prop → ℕ → List Prop → List Prop → List Keyed
links_from p all n before [] = []
links_from p all n before (r ∷ rs) =
    links_at p all n (count_at r.point.0 before) r ++ links_from p all (n + 1) (before ++ r ∷ []) rs

-- for each property of a call, by its number, the number of the precondition that it is an instance of, as
-- its key
unfoldable pub links_of : Program → List Prop → List Keyed
links_of p rows = links_from p rows 0 [] rows
