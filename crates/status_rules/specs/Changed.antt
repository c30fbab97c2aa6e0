-- When a verdict changed last: `changed_of`.
use Rattle.std.specs.Prelude.{◌≡◌, ◌≢◌, ◌<◌, ◌≤◌, ℕ, zero, suc, take, length, if◌then◌else◌}
use denote.Enum.Bare.{sameb}
use Rattle.fc_base.specs.declared.verdict.Verdict.{Verdict}
use Rattle.fc_base.specs.contracts.verdict.Verdict.{the_type}
use Rattle.c_ir.specs.Props.{Props}
use Rattle.status_history.specs.declared.history.History.{History}
use Rattle.status_rules.specs.Holds.{basis_of}
use Rattle.status_rules.specs.Verdicts.{verdict_of}

-- the first k changes of a history
abbrev pub prefix_of : History → ℕ → History
prefix_of h k = record h { changes = take k h.changes }

-- the greatest k from 1 to n at which a verdict differs from the one at k - 1; 0 if there is none
abbrev pub last_change : (ℕ → Verdict) → ℕ → ℕ
last_change f zero = 0
last_change f (suc k) = if sameb the_type (f (suc k)) (f k) then last_change f k else suc k

-- the greatest k from 1 to the length of the history such that the property's verdict differs between
-- the prefixes of k - 1 and of k changes; 0 if there is none
unfoldable pub changed_of : History → Props → ℕ → ℕ
changed_of h t p = last_change (λ k. verdict_of (basis_of (prefix_of h k) t) p) (length h.changes)

-- what makes k the last change of the verdicts from 0 to n: it is no more than n, the verdict is the same from
-- there on, and it differs at k from the one before, unless k is 0
pub record IsLastChange (f : ℕ → Verdict) (n k : ℕ) : Type 0 where
  pub within : k ≤ n
  pub same_later : (j : ℕ) → k ≤ j → j < n → f (suc j) ≡ f j
  pub differs : (j : ℕ) → suc j ≡ k → f (suc j) ≢ f j

-- so it is of each property of each history
abbrev pub ChangedIsLast : Type 0
ChangedIsLast = (h : History) (t : Props) (p : ℕ) → IsLastChange (λ k. verdict_of (basis_of (prefix_of h k) t) p) (length h.changes) (changed_of h t p)
