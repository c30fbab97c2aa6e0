-- The rule of verdicts: `full_of`, the verdicts of all properties of a history (this project's own; the names of
-- verdicts are after Frama-C's).
use Rattle.std.specs.Prelude.{List, [], ◌∷◌, ℕ, Bool, true, false, not, ◌&&◌, ◌||◌, if◌then◌else◌}
use Rattle.std.specs.List.{list_any}
use Rattle.fc_base.specs.declared.status.LocalStatus.{LocalStatus}
use Rattle.fc_base.specs.declared.status.LocalStatus.TheVariants.{FalseIfReachable, FalseAndReachable}
use Rattle.fc_base.specs.declared.status.LocalStatus.TheVariants as Status
use Rattle.fc_base.specs.declared.verdict.Verdict.{Verdict}
use Rattle.fc_base.specs.declared.verdict.Verdict.TheVariants.{NeverTried, ConsideredValid, Valid, ValidUnderHyp, Unknown, Invalid, InvalidUnderHyp, InvalidButDead, ValidButDead, UnknownButDead, Inconsistent}
use Rattle.c_ir.specs.Props.{Props}
use Rattle.c_ir.specs.Table.{dead_of, is_firm_row, is_live}
use Rattle.status_history.specs.declared.history.History.{History}
use Rattle.status_rules.specs.declared.inputs.VerdictInputs.{VerdictInputs}
use Rattle.status_rules.specs.Counting.{PlacedEntry}
use Rattle.status_rules.specs.Holds.{Basis, basis_of, entries_on, is_admitted, is_held, is_supported, same_status, some_prop, at_each}

-- whether a list of entries has one
abbrev pub has_entry : List PlacedEntry → Bool
has_entry [] = false
has_entry (e ∷ es) = true

-- whether a list of entries has one with this status
abbrev pub has_said : LocalStatus → List PlacedEntry → Bool
has_said s es = list_any (λ e. same_status e.entry.status s) es

-- whether it has one of False_if_reachable or False_and_reachable
abbrev pub has_said_false : List PlacedEntry → Bool
has_said_false es = has_said FalseIfReachable es || has_said FalseAndReachable es

-- A property is proven, disproven or refuting if it has a counted entry of True, of False_if_reachable or of
-- False_and_reachable, all of whose hypotheses are sure.

-- a property is refuted if it is refuting, or if it is firm and disproven and the property of kind Dead at its
-- point is refuting
abbrev pub is_refuted : Props → (ℕ → Bool) → (ℕ → Bool) → ℕ → Bool
is_refuted t disproven refuting p =
    refuting p || (is_firm_row t p && disproven p && some_prop refuting (dead_of t.rows p))

-- a property is unvisited if it isn't of kind Dead, and either the one of kind Dead at its point holds or it is
-- both proven and disproven
abbrev pub is_unvisited : Props → (ℕ → Bool) → (ℕ → Bool) → (ℕ → Bool) → ℕ → Bool
is_unvisited t held proven disproven p =
    is_live t p && (some_prop held (dead_of t.rows p) || (proven p && disproven p))

-- what a property's verdict is read from, for these tests and the counted entries on it
abbrev pub inputs_from : Props → (ℕ → Bool) → (ℕ → Bool) → (ℕ → Bool) → (ℕ → Bool) → (ℕ → Bool) → List PlacedEntry → ℕ → VerdictInputs
inputs_from t admitted held proven disproven refuting es p = record {
  admitted = admitted p;
  held = held p;
  refuted = is_refuted t disproven refuting p;
  unvisited = is_unvisited t held proven disproven p;
  proven = proven p;
  disproven = disproven p;
  tried = has_entry es;
  said_true = has_said Status.True es;
  said_false = has_said_false es;
}

-- the verdict where no entry with hypotheses that are all sure settles it: the first case that fits
abbrev pub open_verdict : VerdictInputs → Verdict
open_verdict i =
    if not i.tried then NeverTried else
    (if i.said_true && not i.said_false then ValidUnderHyp else
    (if i.said_false && not i.said_true then InvalidUnderHyp else Unknown))

-- the first case that fits
abbrev pub verdict_by : VerdictInputs → Verdict
verdict_by i =
    if i.refuted && i.held then Inconsistent else
    (if i.admitted then ConsideredValid else
    (if i.refuted then Invalid else
    (if i.unvisited && i.proven then ValidButDead else
    (if i.unvisited && i.disproven then InvalidButDead else
    (if i.unvisited then UnknownButDead else
    (if i.proven then Valid else open_verdict i))))))

-- what the verdict of a property is read from
abbrev pub inputs_of : Basis → ℕ → VerdictInputs
inputs_of b p = inputs_from b.table (is_admitted b) (is_held b) (is_supported Status.True b) (is_supported FalseIfReachable b) (is_supported FalseAndReachable b) (entries_on b p) p

-- the verdict of a property
abbrev pub verdict_of : Basis → ℕ → Verdict
verdict_of b p = verdict_by (inputs_of b p)

-- full recomputation: the verdicts of all properties, in the order of the table
unfoldable pub full_of : History → Props → List Verdict
full_of h t = at_each (verdict_of (basis_of h t)) 0 t.rows
