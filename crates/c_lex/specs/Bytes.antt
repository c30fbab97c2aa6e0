-- Tests on bytes, and on the bytes that stand first in a text.
use Rattle.std.specs.Prelude.{◌+◌, ◌==◌, ◌&&◌, ◌||◌, ◌∷◌, [], ℕ, List, Bool, true, false, not, nat_le, drop, if◌then◌else◌}
use Rattle.std.specs.Char.{is_ascii_alphabetic, is_ascii_alphanumeric, is_ascii_digit}

-- the first byte passes
abbrev pub begins_with : (ℕ → Bool) → List ℕ → Bool
begins_with test [] = false
begins_with test (b ∷ bs) = test b

-- the bytes begin with this text
abbrev pub begins : List ℕ → List ℕ → Bool
begins [] bytes = true
begins (t ∷ ts) bytes = begins_with (λ b. b == t) bytes && begins ts (drop 1 bytes)

-- space, tab, LF, VT, FF and CR are blank (C11 6.4, paragraph 3), and in a note `@` is (ACSL manual)
abbrev pub is_blank : Bool → ℕ → Bool
is_blank note b = b == 32 || nat_le 9 b && nat_le b 13 || note && b == 64

-- how many lines end in these bytes
abbrev pub line_ends : List ℕ → ℕ
line_ends [] = 0
line_ends (b ∷ bs) = (if b == 10 then 1 else 0) + line_ends bs

-- a byte before the end of its line
abbrev pub is_in_line : ℕ → Bool
is_in_line b = not (b == 10)

-- C11 6.4.2.1: letters and `_`, and these with digits
abbrev pub is_letter : ℕ → Bool
is_letter b = is_ascii_alphabetic b || b == 95

abbrev pub is_word_byte : ℕ → Bool
is_word_byte b = is_ascii_alphanumeric b || b == 95

-- C11 6.4.4.1: the digits of the three bases
abbrev pub is_octal_digit : ℕ → Bool
is_octal_digit b = nat_le 48 b && nat_le b 55

abbrev pub is_hexadecimal_digit : ℕ → Bool
is_hexadecimal_digit b = is_ascii_digit b || nat_le 97 b && nat_le b 102 || nat_le 65 b && nat_le b 70
