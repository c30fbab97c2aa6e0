-- Sets of numbers.
use Rattle.std.proofs.Common.{◌≡◌, ◌∙◌, ◌==◌, ◌||◌, ◌+◌, ◌<◌, ℕ, Bool, true, false, List, ◌∷◌, cond, drop, get_or, length, nat_lt, refl, ap, sym, arith}
use Rattle.std.proofs.lemmas.Bool.Decides.{nat_tests}
use Rattle.std.proofs.lemmas.List.{drop_more}
use Rattle.std.specs.BTreeMap.{is_at}
use Rattle.std.specs.List.{list_any}
use Rattle.std.specs.Ordering.{nat_cmp}

-- two numbers are equal where they compare so
at_is : (k n : ℕ) → is_at (nat_cmp k) n ≡ (n == k)
at_is k n = grind (arith, nat_tests)

one_of : (b old more : Bool) → (cond b true old || more) ≡ (old || (b || more))
one_of true true more = refl
one_of true false more = refl
one_of false old more = refl

-- a number more in the set, and one less to come
pub inserted : (numbers : List ℕ) (i n : ℕ) (old new all : Bool) → i < length numbers → new ≡ cond (is_at (nat_cmp (get_or numbers i 0)) n) true old → (old || list_any (λ m. n == m) (drop i numbers)) ≡ all → (new || list_any (λ m. n == m) (drop (i + 1) numbers)) ≡ all
inserted numbers i n old new all less is before =
    let k = get_or numbers i 0 in
    let more = list_any (λ m. n == m) (drop (i + 1) numbers) in
    ap (λ (b : Bool). b || more) (is ∙ ap (λ (b : Bool). cond b true old) (at_is k n))
    ∙ (one_of (n == k) old more
    ∙ (ap (λ (ms : List ℕ). old || list_any (λ m. n == m) ms) (sym (drop_more numbers i 0 less)) ∙ before))
