-- The number of members, and the members one by one.
use Rattle.std.proofs.Common.{◌≡◌, ◌≤◌, ◌<◌, ◌+◌, ◌-◌, ◌*◌, ◌/◌, ◌%◌, ◌^◌, ℕ, zero, suc, Bool, true, false}
use Rattle.std.proofs.Common.{List, [], ◌∷◌, ◌++◌, length, refl, sym, ap, subst, ◌∙◌, arith, append_assoc}
use Rattle.std.proofs.Common.{append-nil}
use Rattle.std.specs.Prelude.{◌==◌, if◌then◌else◌}
use Rattle.std.specs.Int.{bit_at}
use Rattle.std.specs.Int.Count.{ones}
use Rattle.std.proofs.lemmas.Nat.{ones_cat}
use Rattle.std.proofs.lemmas.Nat.Bits.{bit_at-suc, bit_at_lowest}
use Rattle.fc_base.specs.declared.ids.PropId.{PropId}
use Rattle.prop_set.specs.Sets.{prop_id, prop_ids}
use Rattle.prop_set.specs.inner.Words.{word_at, has_bit, passing, members_of}
use Rattle.prop_set.proofs.Bits.{bit_in}

-- ---- how many

length-if : (b : Bool) (x : ℕ) (xs : List ℕ)
    → length (if b then x ∷ xs else xs) ≡ (if b then 1 else 0) + length xs
length-if true x xs = omega arith
length-if false x xs = omega arith

length-split : (test : ℕ → Bool) (c d from : ℕ)
    → length (passing test (c + d) from) ≡ length (passing test c from) + length (passing test d (from + c))
unfolding passing
length-split test zero d from =
    let e : zero + d ≡ d = omega arith in
    let f : from + zero ≡ from = omega arith in
    rw (e, f) (omega arith)
length-split test (suc c) d from =
    let e : suc c + d ≡ suc (c + d) = omega arith in
    let f : from + suc c ≡ (from + 1) + c = omega arith in
    let rest = length-split test c d (from + 1) in
    let long = length-if (test from) from (passing test (c + d) (from + 1)) in
    let short = length-if (test from) from (passing test c (from + 1)) in
    rw (e, f) (omega arith)

one_if : (a : ℕ) → a < 2 → (if a == 1 then 1 else 0) ≡ ones a
unfolding ones
one_if zero h = refl
one_if (suc zero) h = refl
one_if (suc (suc a)) h = absurd (omega arith)

no_ones : ones 0 ≡ 0
unfolding ones
no_ones = refl

double : (c : ℕ) → 2 ^ suc c ≡ 2 * 2 ^ c
double c = omega arith

move : (from j : ℕ) → from + suc j ≡ (from + 1) + j
move from j = omega arith

stay : (from : ℕ) → from + 0 ≡ from
stay from = omega arith

-- where the test reads the bits of w, as many pass as are set
ones_pass : (test : ℕ → Bool) (c from w : ℕ) → w < 2 ^ c
    → ((j : ℕ) → j < c → test (from + j) ≡ (bit_at w j == 1)) → length (passing test c from) ≡ ones w
unfolding passing
ones_pass test zero from w h f = let e : w ≡ 0 = omega arith in rw (e, no_ones) refl
ones_pass test (suc c) from w h f =
    let high = λ (j : ℕ) (below : j < c). subst (λ (n : ℕ). test n ≡ (bit_at (w / 2) j == 1)) (move from j)
    (f (suc j) (omega arith) ∙ ap (λ (b : ℕ). b == 1) (bit_at-suc w j)) in
    let rest = ones_pass test c (from + 1) (w / 2) (omega (arith, double c)) high in
    let first : test from ≡ (w % 2 == 1) = subst (λ (n : ℕ). test n ≡ (w % 2 == 1)) (stay from)
    (f 0 (omega arith) ∙ ap (λ (b : ℕ). b == 1) (bit_at_lowest w)) in
    let low : (if test from then 1 else 0) ≡ ones (w % 2) = rw first (one_if (w % 2) (omega arith)) in
    let whole : w / 2 * 2 ^ 1 + w % 2 ≡ w = omega arith in
    let sum = sym (ap ones whole) ∙ ones_cat 1 (w / 2) (w % 2) (omega arith) in
    length-if (test from) from (passing test c (from + 1)) ∙ omega arith

place : (i j : ℕ) → i * 64 + j ≡ (0 + 64 * i) + j
place i j = omega arith

-- the members in one word more
pub counted : (ws : List ℕ) (i : ℕ) → word_at ws i < 2 ^ 64
    → length (passing (has_bit ws) (64 * (i + 1)) 0)
    ≡ length (passing (has_bit ws) (64 * i) 0) + ones (word_at ws i)
counted ws i h =
    let e : 64 * (i + 1) ≡ 64 * i + 64 = omega arith in
    let before = length (passing (has_bit ws) (64 * i) 0) in
    let bits = λ (j : ℕ) (below : j < 64).
    subst (λ (n : ℕ). has_bit ws n ≡ (bit_at (word_at ws i) j == 1)) (place i j) (bit_in ws i j below) in
    rw e (length-split (has_bit ws) (64 * i) 64 0
    ∙ ap (λ (n : ℕ). before + n) (ones_pass (has_bit ws) 64 (0 + 64 * i) (word_at ws i) h bits))

-- ---- one by one

-- the members from n on
abbrev pub rest_of : List ℕ → ℕ → List ℕ
rest_of ws n = passing (has_bit ws) (64 * length ws - n) n

next : (ws : List ℕ) (n : ℕ) → n < 64 * length ws
    → rest_of ws n ≡ (if has_bit ws n then n ∷ rest_of ws (n + 1) else rest_of ws (n + 1))
unfolding passing
next ws n h = let e : 64 * length ws - n ≡ suc (64 * length ws - (n + 1)) = omega arith in rw e refl

-- a property, if it is to be there
abbrev pub prop_if : Bool → ℕ → List PropId
prop_if b n = if b then prop_id n ∷ [] else []

pushed : (ps : List PropId) (b : Bool) (n : ℕ) (ns : List ℕ)
    → (ps ++ prop_if b n) ++ prop_ids ns ≡ ps ++ prop_ids (if b then n ∷ ns else ns)
pushed ps true n ns = append_assoc ps (prop_id n ∷ []) (prop_ids ns)
pushed ps false n ns = append_assoc ps [] (prop_ids ns)

pub props_step : (ws : List ℕ) (ps : List PropId) (n : ℕ) → n < 64 * length ws
    → (ps ++ prop_if (has_bit ws n) n) ++ prop_ids (rest_of ws (n + 1)) ≡ ps ++ prop_ids (rest_of ws n)
props_step ws ps n h = pushed ps (has_bit ws n) n (rest_of ws (n + 1))
    ∙ ap (λ (ns : List ℕ). ps ++ prop_ids ns) (sym (next ws n h))

pub props_start : (ws : List ℕ) → prop_ids (rest_of ws 0) ≡ prop_ids (members_of ws)
unfolding members_of
props_start ws = let e : 64 * length ws - 0 ≡ 64 * length ws = omega arith in rw e refl

pub props_end : (ws : List ℕ) (ps : List PropId) (n : ℕ) → 64 * length ws ≤ n
    → ps ++ prop_ids (rest_of ws n) ≡ ps
unfolding passing
props_end ws ps n h = let e : 64 * length ws - n ≡ zero = omega arith in rw e (append-nil ps)
