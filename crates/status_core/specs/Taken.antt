-- What a call that makes a change comes to (this project's own).
use Rattle.std.specs.Prelude.{◌≡◌, ℕ, Result, Ok, Err}
use Rattle.status_history.specs.declared.history.Change.{Change}
use Rattle.status_rules.specs.declared.refusals.Placed.{Placed}
use Rattle.status_rules.specs.declared.refusals.Refusal.{Refusal}
use Rattle.status_rules.specs.declared.refusals.Refusal.TheVariants.{Memory}
use Rattle.status_core.specs.Held.{Held, after}

-- A change that the rules refuse is refused so. One that they take is appended, and its value is answered; or there
-- was no memory. Wherever it isn't appended, the table is as before.
abbrev pub Taken : {A : Type 0} → (A → ℕ) → Result Placed Refusal → Change → Held → Held → Result A Refusal → Type 0
Taken number (Err why) c old new result = (result ≡ Err why) × (new ≡ old)
Taken number (Ok placed) c old new (Ok x) = (number x ≡ placed.value) × (new ≡ after old c)
Taken number (Ok placed) c old new (Err why) = (why ≡ Memory) × (new ≡ old)

-- the same, where all that the change comes to is answered
abbrev pub Made : Result Placed Refusal → Change → Held → Held → Result Placed Refusal → Type 0
Made (Err why) c old new result = (result ≡ Err why) × (new ≡ old)
Made (Ok placed) c old new (Ok p) = (p ≡ placed) × (new ≡ after old c)
Made (Ok placed) c old new (Err why) = (why ≡ Memory) × (new ≡ old)
