-- What an analysis knows at a place of a program: its cells, and which properties it used to know them (this
-- project's own, after the abstract interpretation of Cousot and Cousot).
use Rattle.std.specs.Prelude.{ℕ, Bool, IsTrue, List, None}
use Rattle.prop_set.specs.Sets.{is_member, union}
use Rattle.abs_cells.specs.Cells.{included_env, join_env}
use Rattle.abs_cells.specs.Laws.{Contents, In}
use Rattle.abs_state.specs.declared.state.State.{State}

-- ---- states

-- the cells joined, and what either used
abbrev pub joined_state : State → State → State
joined_state a b = record { env = join_env a.env b.env; used = union a.used b.used }

-- the properties that were used play no part
abbrev pub included_state : State → State → Bool
included_state a b = included_env a.env b.env

-- no run comes here, if these properties are true
abbrev pub unreached_state : List ℕ → State
unreached_state used = record { env = None; used = used }

-- ---- what a state stands for

-- each of these properties passes a test, as that of being true in all runs
abbrev pub AllPass : (ℕ → Bool) → List ℕ → Type 0
AllPass test used = (p : ℕ) → IsTrue (is_member p used) → IsTrue (test p)

-- if each property that was used passes the test, the cells of a run are some that the state stands for
abbrev pub Covers : (ℕ → Bool) → State → Contents → Type 0
Covers test s c = AllPass test s.used → In s.env c
