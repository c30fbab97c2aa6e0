-- The list of operators, by the lists of each point's operators; and the highest point.
use Rattle.std.specs.Prelude.{ℕ, zero, suc, ◌+◌, max, List, [], ◌∷◌, ◌++◌, map, get_or}
use Rattle.fc_base.specs.declared.ids.SiteId.{SiteId}
use Rattle.c_ir.specs.declared.tree.Fun.{Fun}
use Rattle.rte_alarms.specs.Entries.{site_id}

abbrev pub sites_by : List (List ℕ) → ℕ → ℕ → List SiteId
sites_by lists q zero = []
sites_by lists q (suc k) = map site_id (get_or lists q []) ++ sites_by lists (q + 1) k

-- the number behind the highest exit of these functions, 0 where there is none
abbrev pub exits_top : List Fun → ℕ
exits_top [] = 0
exits_top (f ∷ fs) = max (f.exit.0 + 1) (exits_top fs)
