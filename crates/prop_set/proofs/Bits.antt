-- Members by the bits of words.
use Rattle.std.proofs.Common.{◌≡◌, ◌<◌, ◌+◌, ◌*◌, ◌/◌, ◌%◌, ◌^◌, max, ℕ, zero, suc, Bool, true, List}
use Rattle.std.proofs.Common.{length, set, refl, sym, ap, ◌∙◌, arith, ⊎_elim, bit_or}
use Rattle.std.specs.Prelude.{◌==◌, ◌||◌}
use Rattle.std.specs.Int.{bit_at, w64}
use Rattle.std.proofs.lemmas.Bool.{false≢true, eqb-true, eq-eqb, ne_eqb, or_left, cases_eq}
use Rattle.std.proofs.lemmas.Nat.{or_lt, div-mul-add, mod-mul-add}
use Rattle.std.proofs.lemmas.Nat.Bits.{bit_at-lt, bit_at_or, bit_at_set_same, bit_at_set_other}
use Rattle.std.proofs.lemmas.Nat.Bits.{same_from_bits_below}
use Rattle.std.proofs.lemmas.List.{get_or-set_same, get_or-set_other}
use Rattle.prop_set.specs.Sets.{is_member, with_member, union, is_within}
use Rattle.prop_set.specs.inner.Words.{word_at, has_bit, members_of}
use Rattle.prop_set.proofs.Lists.{adds_one, adds_all, within, one_rises, all_rise}
use Rattle.prop_set.proofs.Members.{members_rise, member_by_bit, members_are}

-- ---- one bit more

-- a word with bit k set
abbrev with_bit : ℕ → ℕ → ℕ
with_bit w k = bit_or w (1 * 2 ^ k % 2 ^ 64)

-- words with the bit of n set
abbrev with_number : ℕ → List ℕ → List ℕ
with_number n ws = set ws (n / 64) (with_bit (word_at ws (n / 64)) (n % 64))

bit_set : (ws : List ℕ) (n m : ℕ) → n / 64 < length ws
    → has_bit (with_number n ws) m ≡ ((m == n) || has_bit ws m)
unfolding has_bit
bit_set ws n m h =
    let at = n / 64 in
    let old = word_at ws at in
    let new = with_bit old (n % 64) in
    ⊎_elim
    (λ (e : m / 64 ≡ at). let there = get_or-set_same ws at new 0 h in
    ⊎_elim
    (λ (f : m % 64 ≡ n % 64).
    let here = bit_at_set_same w64 old (n % 64) (omega arith) in
    rw (e, f, there, here, eq-eqb m n (omega arith)) refl)
    (λ (f : m % 64 ≡ n % 64 → ⊥).
    let apart = ne_eqb m n (λ s. f (ap (λ (k : ℕ). k % 64) s)) in
    rw (e, there, bit_at_set_other w64 old (n % 64) (omega arith) (m % 64) f, apart) refl)
    (cases_eq (m % 64) (n % 64)))
    (λ (e : m / 64 ≡ at → ⊥).
    rw (get_or-set_other ws at (m / 64) new 0 e, ne_eqb m n (λ s. e (ap (λ (k : ℕ). k / 64) s))) refl)
    (cases_eq (m / 64) at)

pub added : (ws : List ℕ) (n : ℕ) → n / 64 < length ws
    → members_of (with_number n ws) ≡ with_member n (members_of ws)
added ws n h =
    let old = members_of ws in
    members_are (with_number n ws) (with_member n old) (one_rises n old (members_rise ws))
    (λ m. bit_set ws n m h ∙ ap (λ (b : Bool). (m == n) || b) (sym (member_by_bit ws m))
    ∙ sym (adds_one m n old))

-- ---- the bits of two words

max_is_or : (a b : ℕ) → a < 2 → b < 2 → (max a b == 1) ≡ ((a == 1) || (b == 1))
max_is_or zero zero h k = refl
max_is_or zero (suc zero) h k = refl
max_is_or zero (suc (suc b)) h k = absurd (omega arith)
max_is_or (suc zero) zero h k = refl
max_is_or (suc zero) (suc zero) h k = refl
max_is_or (suc zero) (suc (suc b)) h k = absurd (omega arith)
max_is_or (suc (suc a)) b h k = absurd (omega arith)

bit_of_both : (ws vs us : List ℕ) (m : ℕ)
    → word_at us (m / 64) ≡ bit_or (word_at ws (m / 64)) (word_at vs (m / 64))
    → has_bit us m ≡ (has_bit ws m || has_bit vs m)
unfolding has_bit
bit_of_both ws vs us m e =
    let w = word_at ws (m / 64) in
    let v = word_at vs (m / 64) in
    let k = m % 64 in
    rw (e, bit_at_or w v k) (max_is_or (bit_at w k) (bit_at v k) (bit_at-lt w k) (bit_at-lt v k))

pub joined : (ws vs us : List ℕ) → ((i : ℕ) → word_at us i ≡ bit_or (word_at ws i) (word_at vs i))
    → members_of us ≡ union (members_of ws) (members_of vs)
joined ws vs us h =
    let xs = members_of ws in
    let ys = members_of vs in
    members_are us (union xs ys) (all_rise xs ys (members_rise ws))
    (λ m. bit_of_both ws vs us m (h (m / 64))
    ∙ rw (← member_by_bit ws m, ← member_by_bit vs m) (sym (adds_all m xs ys)))

-- ---- words by their members

pub bit_in : (ws : List ℕ) (i j : ℕ) → j < 64 → has_bit ws (i * 64 + j) ≡ (bit_at (word_at ws i) j == 1)
unfolding has_bit
bit_in ws i j h = rw (div-mul-add i 64 j h, mod-mul-add i 64 j h) refl

-- a bit of a word says whether its number is a member
member_in : (ws : List ℕ) (i j : ℕ) → j < 64
    → is_member (i * 64 + j) (members_of ws) ≡ (bit_at (word_at ws i) j == 1)
member_in ws i j h = member_by_bit ws (i * 64 + j) ∙ bit_in ws i j h

same_bit : (a b : ℕ) → a < 2 → b < 2 → (a == 1) ≡ (b == 1) → a ≡ b
same_bit zero zero h k e = refl
same_bit zero (suc zero) h k e = absurd (false≢true e)
same_bit zero (suc (suc b)) h k e = absurd (omega arith)
same_bit (suc zero) zero h k e = absurd (false≢true (sym e))
same_bit (suc zero) (suc zero) h k e = refl
same_bit (suc zero) (suc (suc b)) h k e = absurd (omega arith)
same_bit (suc (suc a)) b h k e = absurd (omega arith)

-- words with the same members are the same at each place
pub words_by_members : (ws vs : List ℕ) → members_of ws ≡ members_of vs → (i : ℕ) → word_at ws i < 2 ^ 64
    → word_at vs i < 2 ^ 64 → word_at ws i ≡ word_at vs i
words_by_members ws vs e i h k =
    let w = word_at ws i in
    let v = word_at vs i in
    same_from_bits_below 64 w v h k (λ j below.
    same_bit (bit_at w j) (bit_at v j) (bit_at-lt w j) (bit_at-lt v j)
    (sym (member_in ws i j below) ∙ ap (is_member (i * 64 + j)) e ∙ member_in vs i j below))

-- ---- words within words

pub within_by_words : (ws vs : List ℕ) → ((i : ℕ) → bit_or (word_at ws i) (word_at vs i) ≡ word_at vs i)
    → is_within (members_of ws) (members_of vs) ≡ true
within_by_words ws vs h = (within (members_of ws) (members_of vs)).1
    (λ m k. member_by_bit vs m ∙ bit_of_both ws vs vs m (sym (h (m / 64)))
    ∙ or_left (has_bit ws m) (has_bit vs m) (sym (member_by_bit ws m) ∙ k))

implied : (a b : ℕ) → a < 2 → b < 2 → (a ≡ 1 → b ≡ 1) → max a b ≡ b
implied zero b h k f = omega arith
implied (suc zero) b h k f = let e : b ≡ 1 = f refl in omega arith
implied (suc (suc a)) b h k f = absurd (omega arith)

pub words_by_within : (ws vs : List ℕ) → is_within (members_of ws) (members_of vs) ≡ true → (i : ℕ)
    → word_at ws i < 2 ^ 64 → word_at vs i < 2 ^ 64 → bit_or (word_at ws i) (word_at vs i) ≡ word_at vs i
words_by_within ws vs e i h k =
    let w = word_at ws i in
    let v = word_at vs i in
    let goes = (within (members_of ws) (members_of vs)).0 e in
    same_from_bits_below 64 (bit_or w v) v (or_lt 64 w v h k) k (λ j below.
    bit_at_or w v j ∙ implied (bit_at w j) (bit_at v j) (bit_at-lt w j) (bit_at-lt v j) (λ one.
    eqb-true (bit_at v j) 1 (sym (member_in vs i j below)
    ∙ goes (i * 64 + j) (member_in ws i j below ∙ eq-eqb (bit_at w j) 1 one))))
