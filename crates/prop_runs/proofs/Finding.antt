-- Which members of a list pass a test, and where they stand.
use Rattle.std.proofs.Common.{◌≡◌, ◌∙◌, ◌⊎◌, inl, inr, ℕ, zero, suc, ◌+◌, ◌<◌, nat_lt, Bool, true, false, not, cond, List, [], ◌∷◌, ◌++◌, length, Some, None, slice_get, refl, ap, sym, subst, arith}
use Rattle.std.proofs.lemmas.Bool.{true≢false}
use Rattle.std.specs.Prelude.{if◌then◌else◌, position}
use Rattle.std.specs.List.{position_or_len}
use Rattle.c_runs.specs.Parts.{Has}
use Rattle.prop_table.proofs.Lists.{some_is, not_some, Each}
use Rattle.prop_runs.specs.Numbers.{place}

-- ---- the members that pass

abbrev pub kept : {X : Type 0} → Bool → X → List X → List X
kept true x xs = x ∷ xs
kept false x xs = xs

abbrev pub passing : {X : Type 0} → (X → Bool) → List X → List X
passing test [] = []
passing test (x ∷ xs) = kept (test x) x (passing test xs)

kept_append : {X : Type 0} (b : Bool) (x : X) (xs ys zs : List X) → zs ≡ xs ++ ys
    → kept b x zs ≡ kept b x xs ++ ys
kept_append true x xs ys zs is = ap (λ us. x ∷ us) is
kept_append false x xs ys zs is = is

pub passing_append : {X : Type 0} (test : X → Bool) (xs ys : List X)
    → passing test (xs ++ ys) ≡ passing test xs ++ passing test ys
passing_append test [] ys = refl
passing_append test (x ∷ xs) ys =
    kept_append (test x) x (passing test xs) (passing test ys) (passing test (xs ++ ys))
    (passing_append test xs ys)

pub passing_none : {X : Type 0} (test : X → Bool) (xs : List X) → Each (λ x. test x ≡ false) xs
    → passing test xs ≡ []
passing_none test [] h = refl
passing_none test (x ∷ xs) h = ap (λ (b : Bool). kept b x (passing test xs)) h.0 ∙ passing_none test xs h.1

pub passing_all : {X : Type 0} (test : X → Bool) (xs : List X) → Each (λ x. test x ≡ true) xs
    → passing test xs ≡ xs
passing_all test [] h = refl
passing_all test (x ∷ xs) h =
    ap (λ (b : Bool). kept b x (passing test xs)) h.0 ∙ ap (λ us. x ∷ us) (passing_all test xs h.1)

-- ---- their places

-- slice_get at the place that `place` gives
abbrev Leads : {X : Type 0} → (X → Bool) → List X → X → ℕ → Type 0
Leads test xs x k = slice_get (passing test xs) k ≡ Some x → slice_get xs (place test xs k) ≡ Some x

first_found : {X : Type 0} (test : X → Bool) (y : X) (ys : List X) (x : X) (b : Bool)
    → slice_get (kept b y (passing test ys)) zero ≡ Some x → Leads test ys x zero
    → slice_get (y ∷ ys) (if b then 0 else suc (place test ys zero)) ≡ Some x
first_found test y ys x true is rest = is
first_found test y ys x false is rest = rest is

later_found : {X : Type 0} (test : X → Bool) (y : X) (ys : List X) (k : ℕ) (x : X) (b : Bool)
    → slice_get (kept b y (passing test ys)) (suc k) ≡ Some x → Leads test ys x k → Leads test ys x (suc k)
    → slice_get (y ∷ ys) (if b then suc (place test ys k) else suc (place test ys (suc k))) ≡ Some x
later_found test y ys k x true is here rest = here is
later_found test y ys k x false is here rest = rest is

-- the k-th member that passes stands at its place
pub found : {X : Type 0} (test : X → Bool) (xs : List X) (k : ℕ) (x : X)
    → slice_get (passing test xs) k ≡ Some x → slice_get xs (place test xs k) ≡ Some x
found test [] k x is = absurd (not_some x is)
found test (y ∷ ys) zero x is = first_found test y ys x (test y) is (found test ys zero x)
found test (y ∷ ys) (suc k) x is =
    later_found test y ys k x (test y) is (found test ys k x) (found test ys (suc k) x)

first_lands : {X : Type 0} (test : X → Bool) (y : X) (ys : List X) (x : X) (n : ℕ) (b : Bool) → test y ≡ b
    → slice_get (y ∷ ys) (if b then 0 else suc n) ≡ Some x →
    (slice_get ys n ≡ Some x → test x ≡ true) → test x ≡ true
first_lands test y ys x n true passes is rest = subst (λ z. test z ≡ true) (some_is y x is) passes
first_lands test y ys x n false passes is rest = rest is

later_lands : {X : Type 0} (test : X → Bool) (y : X) (ys : List X) (x : X) (n m : ℕ) (b : Bool)
    → slice_get (y ∷ ys) (if b then suc n else suc m) ≡ Some x → (slice_get ys n ≡ Some x → test x ≡ true)
    → (slice_get ys m ≡ Some x → test x ≡ true) → test x ≡ true
later_lands test y ys x n m true is here rest = here is
later_lands test y ys x n m false is here rest = rest is

-- what stands at a place passes
pub lands : {X : Type 0} (test : X → Bool) (xs : List X) (k : ℕ) (x : X)
    → slice_get xs (place test xs k) ≡ Some x → test x ≡ true
lands test [] k x is = absurd (not_some x is)
lands test (y ∷ ys) zero x is =
    first_lands test y ys x (place test ys zero) (test y) refl is (lands test ys zero x)
lands test (y ∷ ys) (suc k) x is =
    later_lands test y ys x (place test ys k) (place test ys (suc k)) (test y) is (lands test ys k x)
    (lands test ys (suc k) x)

-- the member at m is the k-th that passes
pub record Kth {X : Type 0} (test : X → Bool) (xs : List X) (m : ℕ) (x : X) : Type 0 where
  pub count : ℕ
  pub is_place : place test xs count ≡ m
  pub is_member : slice_get (passing test xs) count ≡ Some x

kth_first : {X : Type 0} (test : X → Bool) (y : X) (ys : List X) (x : X) (b : Bool) → b ≡ true → y ≡ x
    → ((if b then 0 else suc (place test ys zero)) ≡ 0) × (slice_get (kept b y (passing test ys)) 0 ≡ Some x)
kth_first test y ys x true passes is = (refl, ap (λ z. Some z) is)
kth_first test y ys x false passes is = absurd (true≢false (sym passes))

-- with one more in front
abbrev counted_on : Bool → ℕ → ℕ
counted_on true k = suc k
counted_on false k = k

kth_place : {X : Type 0} (test : X → Bool) (y : X) (ys : List X) (m k : ℕ) (b : Bool) → test y ≡ b
    → place test ys k ≡ m
    → place test (y ∷ ys) (counted_on b k) ≡ suc m
kth_place test y ys m k true passes is =
    ap (λ (c : Bool). if c then suc (place test ys k) else suc (place test ys (suc k))) passes ∙ ap
    (λ (n : ℕ). suc n) is
kth_place test y ys m zero false passes is =
    ap (λ (c : Bool). if c then 0 else suc (place test ys zero)) passes ∙ ap (λ (n : ℕ). suc n) is
kth_place test y ys m (suc k) false passes is =
    ap (λ (c : Bool). if c then suc (place test ys k) else suc (place test ys (suc k))) passes ∙ ap
    (λ (n : ℕ). suc n) is

kth_member : {X : Type 0} (test : X → Bool) (y : X) (ys : List X) (k : ℕ) (x : X) (b : Bool)
    → slice_get (passing test ys) k ≡ Some x
    → slice_get (kept b y (passing test ys)) (counted_on b k) ≡ Some x
kth_member test y ys k x true is = is
kth_member test y ys k x false is = is

-- a member that passes is the k-th that does so, for some k
pub kth : {X : Type 0} (test : X → Bool) (xs : List X) (m : ℕ) (x : X) → slice_get xs m ≡ Some x
    → test x ≡ true → Kth test xs m x
kth test [] m x is passes = absurd (not_some x is)
kth test (y ∷ ys) zero x is passes =
    let one = some_is y x is in
    let h = kth_first test y ys x (test y) (ap test one ∙ passes) one in
    record { count = 0; is_place = h.0; is_member = h.1 }
kth test (y ∷ ys) (suc m) x is passes =
    let h = kth test ys m x is passes in
    record {
      count = counted_on (test y) h.count;
      is_place = kth_place test y ys m h.count (test y) refl h.is_place;
      is_member = kth_member test y ys h.count x (test y) h.is_member;
    }

-- a member that passes: so there is one at the first place
first_exists : {X : Type 0} (xs : List X) (k : ℕ) (x : X) → slice_get xs k ≡ Some x
    → (z : X) × (slice_get xs 0 ≡ Some z)
first_exists [] k x is = absurd (not_some x is)
first_exists (z ∷ xs) k x is = (z, refl)

pub first_place : {X : Type 0} (test : X → Bool) (xs : List X) (m : ℕ) (x : X) → slice_get xs m ≡ Some x
    → test x ≡ true
    → (z : X) × (slice_get xs (place test xs 0) ≡ Some z)
first_place test xs m x is passes =
    let h = kth test xs m x is passes in
    let z = first_exists (passing test xs) h.count x h.is_member in
    (z.0, found test xs 0 z.0 z.1)

-- a member that passes, so one is the first that does so
some_kept : {X : Type 0} (b : Bool) (x : X) (xs : List X) → (b ≡ true) ⊎ ((z : X) × (slice_get xs 0 ≡ Some z))
    → (z : X) × (slice_get (kept b x xs) 0 ≡ Some z)
some_kept true x xs h = (x, refl)
some_kept false x xs (inl is) = absurd (true≢false (sym is))
some_kept false x xs (inr h) = h

pub some_passes : {X : Type 0} (test : X → Bool) (xs : List X) (x : X) → Has xs x → test x ≡ true
    → (z : X) × (slice_get (passing test xs) 0 ≡ Some z)
some_passes test [] x h passes = absurd h
some_passes test (y ∷ ys) x (inl is) passes =
    some_kept (test y) y (passing test ys) (inl (ap test is ∙ passes))
some_passes test (y ∷ ys) x (inr h) passes =
    some_kept (test y) y (passing test ys) (inr (some_passes test ys x h passes))

-- ---- the first place is that of std

count_on : (b : Bool) (m n : ℕ) → m ≡ n → cond (not b) (1 + m) 0 ≡ (if b then 0 else suc n)
count_on true m n is = refl
count_on false m n is = omega (arith, is)

position_place : {X : Type 0} (test : X → Bool) (xs : List X) → position_or_len test xs ≡ place test xs 0
position_place test [] = refl
position_place test (x ∷ xs) =
    count_on (test x) (position_or_len test xs) (place test xs 0) (position_place test xs)

some_position : (b : Bool) (m n : ℕ) → cond b (Some m) None ≡ Some n → m ≡ n
some_position true m n is = some_is m n is
some_position false m n is = absurd (not_some n is)

pub position_is : {X : Type 0} (test : X → Bool) (xs : List X) (n : ℕ) → position test xs ≡ Some n
    → place test xs 0 ≡ n
position_is test xs n is = sym (position_place test xs) ∙ some_position _ (position_or_len test xs) n is

-- ---- lists in step

-- each member of the one is so related to that of the other
abbrev pub Along : {X Y : Type 0} → (X → Y → Type 0) → List X → List Y → Type 0
Along R [] [] = Unit {0}
Along R [] (y ∷ ys) = ⊥
Along R (x ∷ xs) [] = ⊥
Along R (x ∷ xs) (y ∷ ys) = R x y × Along R xs ys

kept_along : {X Y : Type 0} (R : X → Y → Type 0) (a b : Bool) (x : X) (y : Y) (xs : List X) (ys : List Y)
    → a ≡ b → R x y → Along R xs ys → Along R (kept a x xs) (kept b y ys)
kept_along R true true x y xs ys is here rest = (here, rest)
kept_along R false false x y xs ys is here rest = rest
kept_along R true false x y xs ys is here rest = absurd (true≢false is)
kept_along R false true x y xs ys is here rest = absurd (true≢false (sym is))

pub passing_along : {X Y : Type 0} (R : X → Y → Type 0) (t : X → Bool) (u : Y → Bool) (xs : List X)
    (ys : List Y)
    → ((x : X) (y : Y) → R x y → t x ≡ u y) → Along R xs ys → Along R (passing t xs) (passing u ys)
passing_along R t u [] [] same h = tt
passing_along R t u [] (y ∷ ys) same h = absurd h
passing_along R t u (x ∷ xs) [] same h = absurd h
passing_along R t u (x ∷ xs) (y ∷ ys) same h =
    kept_along R (t x) (u y) x y (passing t xs) (passing u ys) (same x y h.0) h.0
    (passing_along R t u xs ys same h.1)

pub get_along : {X Y : Type 0} (R : X → Y → Type 0) (xs : List X) (ys : List Y) (k : ℕ) (y : Y)
    → Along R xs ys → slice_get ys k ≡ Some y
    → (x : X) × (slice_get xs k ≡ Some x) × R x y
get_along R [] [] k y h is = absurd (not_some y is)
get_along R [] (z ∷ ys) k y h is = absurd h
get_along R (x ∷ xs) [] k y h is = absurd h
get_along R (x ∷ xs) (z ∷ ys) zero y h is = (x, refl, subst (R x) (some_is z y is) h.0)
get_along R (x ∷ xs) (z ∷ ys) (suc k) y h is = get_along R xs ys k y h.1 is

pub length_along : {X Y : Type 0} (R : X → Y → Type 0) (xs : List X) (ys : List Y) → Along R xs ys
    → length xs ≡ length ys
length_along R [] [] h = refl
length_along R [] (y ∷ ys) h = absurd h
length_along R (x ∷ xs) [] h = absurd h
length_along R (x ∷ xs) (y ∷ ys) h = ap (λ (n : ℕ). suc n) (length_along R xs ys h.1)

pub within_some : {X : Type 0} (xs : List X) (n : ℕ) → n < length xs → (x : X) × (slice_get xs n ≡ Some x)
within_some [] n h = absurd (omega arith)
within_some (x ∷ xs) zero h = (x, refl)
within_some (x ∷ xs) (suc n) h = within_some xs n (omega (arith, h))

less_is : (a b : ℕ) → nat_lt a b ≡ true → a < b
less_is a b h = grind arith

position_within : (b : Bool) (m n size : ℕ) → nat_lt m size ≡ b → cond b (Some m) None ≡ Some n → n < size
position_within true m n size less is = subst (λ (k : ℕ). k < size) (some_is m n is) (less_is m size less)
position_within false m n size less is = absurd (not_some n is)

-- a member that passes stands at the first position
pub position_member : {X : Type 0} (test : X → Bool) (xs : List X) (n : ℕ) → position test xs ≡ Some n
    → (x : X) × (slice_get xs n ≡ Some x) × (test x ≡ true)
position_member {X} test xs n is =
    let x = within_some xs n (position_within _ (position_or_len test xs) n (length xs) refl is) in (
      x.0,
      x.1,
      lands test xs 0 x.0 (subst (λ (m : ℕ). slice_get xs m ≡ Some x.0) (sym (position_is test xs n is)) x.1),
    )
