-- A property has a support exactly where it holds.
use Rattle.std.proofs.Common.{◌≡◌, ℕ, ◌≤◌, true, List, Option, Some, None, length, le_refl}
use Rattle.c_ir.specs.Props.{Props}
use Rattle.status_history.specs.declared.history.History.{History}
use Rattle.status_rules.specs.declared.steps.Step.{Step}
use Rattle.status_rules.specs.Holds.{Basis, basis_of, is_held}
use Rattle.status_rules.specs.Support.{IsSupport, IsSupportIfHeld}
use Rattle.support_cert.specs.Laws.{HeldHaveSupports, SupportedHold}
use Rattle.support_cert.specs.inner.Found.{support_of}
use Rattle.support_cert.proofs.Counted.{on_most, on_row}
use Rattle.support_cert.proofs.Held.{support_held}
use Rattle.support_cert.proofs.Made.{Usual, support_is}
use Rattle.support_cert.proofs.Tests.{clash}

pub usual : (h : History) (t : Props) (m : ℕ) → length h.changes ≤ m → Usual m (basis_of h t)
usual h t m most = record { table = record { rows = on_row h t }; places = on_most h t m most }

some_support : (b : Basis) (p : ℕ) (o : Option (List Step)) → is_held b p ≡ true → IsSupportIfHeld b p o
    → (steps : List Step) × IsSupport b p steps
some_support b p None held found = absurd (clash (is_held b p) held found)
some_support b p (Some steps) held found = (steps, found)

pub held_have_supports : HeldHaveSupports
held_have_supports h t p held =
    let m = length h.changes in
    some_support (basis_of h t) p (support_of m (basis_of h t) p) held (support_is m (basis_of h t) (usual h t m (le_refl m)) p)

pub supported_hold : SupportedHold
supported_hold h t p steps sound = support_held (basis_of h t) (record { rows = on_row h t }) p steps sound
