-- What a shelf was asked (this project's own): for each beginning of a file, the newest first, the name that
-- was asked for and how many bytes were taken since.
use Rattle.std.specs.Prelude.{◌≡◌, ◌+◌, ◌≤◌, ℕ, List, [], ◌∷◌, Option, None, Some}
use Rattle.fc_outside.specs.declared.outside.Got.{Got}
use Rattle.fc_outside.specs.declared.outside.Got.TheVariants as got

abbrev pub Requests : Type 0
Requests = List (List ℕ × ℕ)

-- one file was asked for, by its name, and so many bytes were taken since; said where it is told before and
-- after, and what isn't told stays so
abbrev pub AskedOnce : List ℕ → ℕ → Option Requests → Option Requests → Type 0
AskedOnce name count None new = new ≡ None
AskedOnce name count (Some old) None = Unit {0}
AskedOnce name count (Some old) (Some new) = new ≡ (name, count) ∷ old

-- one file was asked for, and at most so many bytes were taken since
abbrev pub AskedAtMost : List ℕ → ℕ → Option Requests → Option Requests → Type 0
AskedAtMost name most old new = (count : ℕ) × (count ≤ most) × AskedOnce name count old new

-- how many bytes an answer gives
abbrev pub bytes_got : Got → ℕ
bytes_got (got.Bytes n) = n
bytes_got got.End = 0
bytes_got got.Failed = 0

-- so many bytes more were taken
abbrev pub with_taken : ℕ → Requests → Requests
with_taken n [] = []
with_taken n (request ∷ requests) = (request.0, request.1 + n) ∷ requests

abbrev pub TookMore : ℕ → Option Requests → Option Requests → Type 0
TookMore n None new = new ≡ None
TookMore n (Some old) None = Unit {0}
TookMore n (Some old) (Some new) = new ≡ with_taken n old
