-- Which texts are names.
use Rattle.std.proofs.Common.{◌≡◌, ◌≤◌, [], List, ℕ, Bool, true, false, refl, length, arith}
use Rattle.std.specs.Prelude.{nat_lt}
use Rattle.std.specs.Str.{IsUtf8, is_utf8}
use Rattle.std.proofs.lemmas.Str.{is_utf8-from_IsUtf8, IsUtf8-from_is_utf8}
use Rattle.std.proofs.lemmas.Bool.Decides.{nat_tests}
use Rattle.c_parse.specs.Places.{word_of}

short : (n : ℕ) → n ≤ 256 → nat_lt 256 n ≡ false
short n h = grind (arith, nat_tests)

not_true : (b : Bool) → (b ≡ true → ⊥) → b ≡ false
not_true true h = absurd (h refl)
not_true false h = refl

pub named : (text : List ℕ) → length text ≤ 256 → IsUtf8 text → word_of text ≡ text
unfolding word_of
named text h u = rw (short (length text) h, is_utf8-from_IsUtf8 text u) refl

pub unnamed : (text : List ℕ) → length text ≤ 256 → (IsUtf8 text → ⊥) → word_of text ≡ []
unfolding word_of
unnamed text h u = rw (short (length text) h, not_true (is_utf8 text) (λ e. u (IsUtf8-from_is_utf8 text e))) refl
