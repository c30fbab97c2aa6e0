-- The value that bytes are.
use Rattle.std.proofs.Common.{◌≡◌, ℕ, List, Bool, true, false, cond, Some, None, Option, refl}
use Rattle.std.specs.Str.{IsUtf8, is_utf8}
use Rattle.std.proofs.lemmas.Str.{IsUtf8-from_is_utf8, is_utf8-from_IsUtf8}
use Rattle.serde_json.specs.Data.{Data}
use Rattle.serde_json.specs.Read.{read}
use Rattle.event_script.specs.Values.{value_of}

pub value_of-some : (bs : List ℕ) (d : Data) → IsUtf8 bs → read bs ≡ Some d → value_of bs ≡ Some d
value_of-some bs d u r = rw (is_utf8-from_IsUtf8 bs u) r

none_by : (b : Bool) (o : Option Data) → (b ≡ true → o ≡ None) → cond b o None ≡ None
none_by true o h = h refl
none_by false o h = refl

pub value_of-none : (bs : List ℕ) → (IsUtf8 bs → read bs ≡ None) → value_of bs ≡ None
value_of-none bs h = none_by (is_utf8 bs) (read bs) (λ t. h (IsUtf8-from_is_utf8 bs t))
