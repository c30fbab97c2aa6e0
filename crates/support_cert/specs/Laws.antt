-- A property has a support exactly where it holds.
use Rattle.std.specs.Prelude.{◌≡◌, ℕ, true, List}
use Rattle.c_ir.specs.Props.{Props}
use Rattle.status_history.specs.declared.history.History.{History}
use Rattle.status_rules.specs.declared.steps.Step.{Step}
use Rattle.status_rules.specs.Holds.{basis_of, is_held}
use Rattle.status_rules.specs.Support.{IsSupport}

-- each property that holds has a support
abbrev pub HeldHaveSupports : Type 0
HeldHaveSupports =
    (h : History) (t : Props) (p : ℕ) → is_held (basis_of h t) p ≡ true
    → (steps : List Step) × IsSupport (basis_of h t) p steps

-- each property that has one holds
abbrev pub SupportedHold : Type 0
SupportedHold =
    (h : History) (t : Props) (p : ℕ) (steps : List Step) → IsSupport (basis_of h t) p steps
    → is_held (basis_of h t) p ≡ true
