-- Rising lists as sets.
use Rattle.std.proofs.Common.{◌≡◌, ◌≤◌, ◌<◌, ◌+◌, ℕ, Bool, true, false, List, [], ◌∷◌, refl, sym, ap, ◌∙◌}
use Rattle.std.proofs.Common.{arith, ⊎_elim}
use Rattle.std.specs.Prelude.{◌==◌, ◌||◌, if◌then◌else◌, nat_lt}
use Rattle.std.proofs.lemmas.Bool.{false≢true, eqb-true, eqb-false, eq-eqb, ne_eqb, ltb-true, ltb-false}
use Rattle.std.proofs.lemmas.Bool.{and_parts, and_from, or_cases, or_from, or_left, or_right, cases_Bool}
use Rattle.std.proofs.lemmas.Bool.{cases_order, cond_both}
use Rattle.prop_set.specs.Sets.{RisesFrom, is_member, with_member, is_within}
use Rattle.prop_set.specs.Laws.{AddsOne, AddsAll, IsWithin, OneKeepsRising, AllKeepRising, MembersDecide}

-- ---- members

swap : (a b c : Bool) → (a || (b || c)) ≡ (b || (a || c))
swap true true c = refl
swap true false c = refl
swap false true c = refl
swap false false c = refl

twice : (a c : Bool) → (a || c) ≡ (a || (a || c))
twice true c = refl
twice false c = refl

turn : (a b c : Bool) → ((a || b) || c) ≡ (b || (a || c))
turn true true c = refl
turn true false c = refl
turn false true c = refl
turn false false c = refl

or_none : (a : Bool) → a ≡ (a || false)
or_none true = refl
or_none false = refl

placed : (less same : Bool) (m n x : ℕ) (xs ys : List ℕ)
    → (same ≡ true → n ≡ x) → is_member m ys ≡ ((m == n) || is_member m xs)
    → is_member m (if less then x ∷ ys else (if same then x ∷ xs else n ∷ x ∷ xs))
    ≡ ((m == n) || ((m == x) || is_member m xs))
placed true same m n x xs ys is h = rw h (swap (m == x) (m == n) (is_member m xs))
placed false true m n x xs ys is h = rw (is refl) (twice (m == x) (is_member m xs))
placed false false m n x xs ys is h = refl

pub adds_one : AddsOne
adds_one m n [] = refl
adds_one m n (x ∷ xs) =
    placed (nat_lt x n) (n == x) m n x xs (with_member n xs) (eqb-true n x) (adds_one m n xs)

pub adds_all : AddsAll
adds_all m xs [] = or_none (is_member m xs)
adds_all m xs (y ∷ ys) = adds_all m (with_member y xs) ys
    ∙ rw (adds_one m y xs) (turn (m == y) (is_member m xs) (is_member m ys))

only : (xs ys : List ℕ) → is_within xs ys ≡ true → (m : ℕ) → is_member m xs ≡ true → is_member m ys ≡ true
only [] ys h m k = absurd (false≢true k)
only (x ∷ xs) ys h m k =
    let p = and_parts (is_member x ys) (is_within xs ys) h in
    ⊎_elim (λ (e : (m == x) ≡ true). rw (eqb-true m x e) p.0)
    (λ (r : is_member m xs ≡ true). only xs ys p.1 m r)
    (or_cases (m == x) (is_member m xs) k)

every : (xs ys : List ℕ) → ((m : ℕ) → is_member m xs ≡ true → is_member m ys ≡ true) → is_within xs ys ≡ true
every [] ys h = refl
every (x ∷ xs) ys h = and_from (is_member x ys) (is_within xs ys)
    (h x (or_left (x == x) (is_member x xs) (eq-eqb x x refl)))
    (every xs ys (λ m k. h m (or_right (m == x) (is_member m xs) k)))

pub within : IsWithin
within xs ys = (only xs ys, every xs ys)

-- ---- rising

pub lower : (a b : ℕ) (xs : List ℕ) → a ≤ b → RisesFrom b xs → RisesFrom a xs
lower a b [] h r = tt
lower a b (x ∷ xs) h r = (omega (arith, r.0), r.1)

pub after : (n x : ℕ) → n ≤ x → (n ≡ x → ⊥) → n + 1 ≤ x
after n x h f = grind arith

one_from : (k n : ℕ) (xs : List ℕ) → k ≤ n → RisesFrom k xs → RisesFrom k (with_member n xs)
one_from k n [] h r = (h, tt)
one_from k n (x ∷ xs) h r =
    let behind = λ (e : nat_lt x n ≡ false). cond_both (n == x) (x ∷ xs) (n ∷ x ∷ xs) (RisesFrom k) (λ f. r)
    (λ f. (h, (after n x (ltb-false x n e) (eqb-false n x f), r.1))) in
    cond_both (nat_lt x n) (x ∷ with_member n xs) (if n == x then x ∷ xs else n ∷ x ∷ xs) (RisesFrom k)
    (λ e. (r.0, one_from (x + 1) n xs (omega (arith, ltb-true x n e)) r.1)) behind

pub one_rises : OneKeepsRising
one_rises n xs r = one_from 0 n xs (omega arith) r

pub all_rise : AllKeepRising
all_rise xs [] r = r
all_rise xs (y ∷ ys) r = all_rise (with_member y xs) ys (one_rises y xs r)

-- ---- equal

pub absent : (m k : ℕ) (xs : List ℕ) → RisesFrom k xs → m < k → is_member m xs ≡ false
absent m k [] r h = refl
absent m k (x ∷ xs) r h = or_from (m == x) (is_member m xs) (ne_eqb m x (λ e. omega (arith, e, r.0)))
    (absent m (x + 1) xs r.1 (omega (arith, r.0)))

tails : (x : ℕ) (xs ys : List ℕ) → RisesFrom (x + 1) xs → RisesFrom (x + 1) ys
    → ((m : ℕ) → is_member m (x ∷ xs) ≡ is_member m (x ∷ ys)) → (m : ℕ) → is_member m xs ≡ is_member m ys
tails x xs ys r s h m = ⊎_elim
    (λ (e : (m == x) ≡ true). let f = eqb-true m x e in
    absent m (x + 1) xs r (omega arith) ∙ sym (absent m (x + 1) ys s (omega arith)))
    (λ (e : (m == x) ≡ false). rw e at (h m))
    (cases_Bool (m == x))

is_first : (x : ℕ) (xs : List ℕ) → is_member x (x ∷ xs) ≡ true
is_first x xs = or_left (x == x) (is_member x xs) (eq-eqb x x refl)

-- a list that begins later has not the first number
begins_later : (x y : ℕ) (xs ys : List ℕ) → x < y → RisesFrom (y + 1) ys
    → is_member x (x ∷ xs) ≡ is_member x (y ∷ ys) → ⊥
begins_later x y xs ys l s e =
    false≢true (sym (absent x y (y ∷ ys) (omega arith, s) l) ∙ sym e ∙ is_first x xs)

decide : (a b : ℕ) (xs ys : List ℕ) → RisesFrom a xs → RisesFrom b ys
    → ((m : ℕ) → is_member m xs ≡ is_member m ys) → xs ≡ ys
decide a b [] [] r s h = refl
decide a b [] (y ∷ ys) r s h = absurd (false≢true (h y ∙ is_first y ys))
decide a b (x ∷ xs) [] r s h = absurd (false≢true (sym (h x) ∙ is_first x xs))
decide a b (x ∷ xs) (y ∷ ys) r s h = ⊎_elim
    (λ (e : x ≡ y).
    let low : RisesFrom (x + 1) ys = lower (x + 1) (y + 1) ys (omega arith) s.1 in
    let heads = λ (m : ℕ). h m ∙ ap (λ (z : ℕ). is_member m (z ∷ ys)) (sym e) in
    let rest : xs ≡ ys = decide (x + 1) (x + 1) xs ys r.1 low (tails x xs ys r.1 low heads) in
    cc)
    (⊎_elim (λ (l : x < y). absurd (begins_later x y xs ys l s.1 (h x)))
    (λ (l : y < x). absurd (begins_later y x ys xs l r.1 (sym (h y)))))
    (cases_order x y)

pub members_decide : MembersDecide
members_decide xs ys r s h = decide 0 0 xs ys r s h
