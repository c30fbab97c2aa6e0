-- Sets in words of 64 bits: the code's side. Bit k of word w is the number 64 * w + k.
use Rattle.std.specs.Prelude.{ℕ, zero, suc, ◌+◌, ◌*◌, ◌/◌, ◌%◌, Bool, ◌==◌, if◌then◌else◌, List, [], ◌∷◌}
use Rattle.std.specs.Prelude.{length, get_or}
use Rattle.std.specs.Int.{bit_at}

-- the word at a place, 0 past the last
abbrev pub word_at : List ℕ → ℕ → ℕ
word_at ws i = get_or ws i 0

-- whether the bit of a number is set
unfoldable pub has_bit : List ℕ → ℕ → Bool
has_bit ws n = bit_at (word_at ws (n / 64)) (n % 64) == 1

-- of `count` numbers from `from` on those that pass a test
unfoldable pub passing : (ℕ → Bool) → ℕ → ℕ → List ℕ
passing test zero from = []
passing test (suc count) from =
    if test from then from ∷ passing test count (from + 1) else passing test count (from + 1)

-- the numbers whose bits are set
unfoldable pub members_of : List ℕ → List ℕ
members_of ws = passing (has_bit ws) (64 * length ws) 0
