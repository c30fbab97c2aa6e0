-- Members of words.
use Rattle.std.proofs.Common.{◌≡◌, ◌≤◌, ◌<◌, ◌+◌, ◌*◌, ◌/◌, ◌%◌, ℕ, zero, suc, Bool, true, false, List, []}
use Rattle.std.proofs.Common.{◌∷◌, ◌++◌, length, refl, sym, ap, ◌∙◌, arith, ⊎_elim}
use Rattle.std.specs.Prelude.{◌==◌, ◌||◌, if◌then◌else◌}
use Rattle.std.proofs.lemmas.Bool.{eq-eqb, ne_eqb, cases_lt, cases_eq, cond_both}
use Rattle.std.proofs.lemmas.Nat.Bits.{bit_at-zero}
use Rattle.std.proofs.lemmas.List.{get_or_past}
use Rattle.prop_set.specs.Sets.{RisesFrom, IsRising, is_member}
use Rattle.prop_set.specs.inner.Words.{word_at, has_bit, passing, members_of}
use Rattle.prop_set.proofs.Lists.{members_decide, lower, absent, after}

-- ---- numbers that pass a test

passing_rises : (test : ℕ → Bool) (count from : ℕ) → RisesFrom from (passing test count from)
unfolding passing
passing_rises test zero from = tt
passing_rises test (suc count) from =
    let rest = passing test count (from + 1) in
    let rises : RisesFrom (from + 1) rest = passing_rises test count (from + 1) in
    cond_both (test from) (from ∷ rest) rest (RisesFrom from)
    (λ e. (omega arith, rises)) (λ e. lower from (from + 1) rest (omega arith) rises)

-- whether m is x, if that is in, or one of the others
first_or : Bool → ℕ → ℕ → List ℕ → Bool
first_or b m x xs = if b then (m == x) || is_member m xs else is_member m xs

in_first_or : (b : Bool) (m x : ℕ) (xs : List ℕ) → is_member m (if b then x ∷ xs else xs) ≡ first_or b m x xs
unfolding first_or
in_first_or true m x xs = refl
in_first_or false m x xs = refl

is_first : (b : Bool) (m x : ℕ) (xs : List ℕ) → m ≡ x → is_member m xs ≡ false → first_or b m x xs ≡ b
unfolding first_or
is_first true m x xs e h = rw (eq-eqb m x e) refl
is_first false m x xs e h = h

is_later : (b : Bool) (m x : ℕ) (xs : List ℕ) → (m ≡ x → ⊥) → first_or b m x xs ≡ is_member m xs
unfolding first_or
is_later true m x xs n = rw (ne_eqb m x n) refl
is_later false m x xs n = refl

-- the members are those that pass
passes : (test : ℕ → Bool) (count from m : ℕ) → from ≤ m → m < from + count
    → is_member m (passing test count from) ≡ test m
unfolding passing
passes test zero from m l h = absurd (omega arith)
passes test (suc count) from m l h =
    let rest = passing test count (from + 1) in
    let rises : RisesFrom (from + 1) rest = passing_rises test count (from + 1) in
    in_first_or (test from) m from rest ∙ ⊎_elim
    (λ (e : m ≡ from). is_first (test from) m from rest e (absent m (from + 1) rest rises (omega arith))
    ∙ ap test (sym e))
    (λ (n : m ≡ from → ⊥). is_later (test from) m from rest n
    ∙ passes test count (from + 1) m (after from m l (λ e. n (sym e))) (omega arith))
    (cases_eq m from)

-- no number past the last is one
none_past : (test : ℕ → Bool) (count from m : ℕ) → from + count ≤ m
    → is_member m (passing test count from) ≡ false
unfolding passing
none_past test zero from m h = refl
none_past test (suc count) from m h =
    let rest = passing test count (from + 1) in
    in_first_or (test from) m from rest ∙ is_later (test from) m from rest (λ e. omega (arith, e))
    ∙ none_past test count (from + 1) m (omega arith)

-- ---- members of words

pub members_rise : (ws : List ℕ) → IsRising (members_of ws)
unfolding members_of
members_rise ws = passing_rises (has_bit ws) (64 * length ws) 0

no_bit_past : (ws : List ℕ) (m : ℕ) → 64 * length ws ≤ m → has_bit ws m ≡ false
unfolding has_bit
no_bit_past ws m h = rw (get_or_past ws (m / 64) 0 (omega arith), bit_at-zero (m % 64)) refl

pub member_by_bit : (ws : List ℕ) (m : ℕ) → is_member m (members_of ws) ≡ has_bit ws m
unfolding members_of
member_by_bit ws m =
    let all = 64 * length ws in
    ⊎_elim (λ (h : m < all). passes (has_bit ws) all 0 m (omega arith) (omega arith))
    (λ (h : all ≤ m). none_past (has_bit ws) all 0 m (omega arith) ∙ sym (no_bit_past ws m h))
    (cases_lt m all)

-- ---- equal members

-- a rising list with these members is that of the words
pub members_are : (ws xs : List ℕ)
    → IsRising xs → ((m : ℕ) → has_bit ws m ≡ is_member m xs) → members_of ws ≡ xs
members_are ws xs r h = members_decide (members_of ws) xs (members_rise ws) r (λ m. member_by_bit ws m ∙ h m)

bit_by_word : (ws vs : List ℕ) (m : ℕ)
    → word_at ws (m / 64) ≡ word_at vs (m / 64) → has_bit ws m ≡ has_bit vs m
unfolding has_bit
bit_by_word ws vs m e = rw e refl

pub same_by_words : (ws vs : List ℕ)
    → ((i : ℕ) → word_at ws i ≡ word_at vs i) → members_of ws ≡ members_of vs
same_by_words ws vs h = members_are ws (members_of vs) (members_rise vs)
    (λ m. bit_by_word ws vs m (h (m / 64)) ∙ sym (member_by_bit vs m))

-- ---- words of 0

pub none : members_of [] ≡ []
unfolding members_of passing
none = refl

word_at-padded : (ws : List ℕ) (i : ℕ) → word_at (ws ++ 0 ∷ []) i ≡ word_at ws i
word_at-padded [] zero = refl
word_at-padded [] (suc i) = refl
word_at-padded (w ∷ ws) zero = refl
word_at-padded (w ∷ ws) (suc i) = word_at-padded ws i

pub padded : (ws : List ℕ) → members_of (ws ++ 0 ∷ []) ≡ members_of ws
padded ws = same_by_words (ws ++ 0 ∷ []) ws (word_at-padded ws)
