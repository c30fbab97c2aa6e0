-- Which numbers a reduced value has: none, or just one.
use Rattle.std.proofs.Common.{◌≡◌, ℤ, pos, ◌+ℤ◌, ◌-ℤ◌, int_le, IsTrue, Bool, true, false, Some, None, refl, ap, subst, ◌∙◌, sym, arith}
use Rattle.std.proofs.lemmas.Int.{ints}
use Rattle.std.proofs.lemmas.Bool.{and_parts, and_from, false≢true}
use Rattle.machine_ints.proofs.Choices.{choose}
use Rattle.machine_ints.proofs.Congruences.{multiple_one}
use Rattle.int_interval.proofs.Cover as intervals
use Rattle.int_interval.specs.Laws as interval_laws
use Rattle.int_interval.specs.Rows.{is_empty, is_one}
use Rattle.int_interval.specs.declared.interval.Interval.{Interval}
use Rattle.int_interval.specs.declared.interval.Interval.TheVariants.{Empty, Within, All}
use Rattle.int_congr.specs.Laws as congr_laws
use Rattle.int_congr.specs.Rows.{unknown_of}
use Rattle.int_congr.specs.declared.congr.Congr.{Congr}
use Rattle.int_value.specs.Laws.{EmptyIsNone, SingleIsOne}
use Rattle.int_value.specs.Rows.{single_of}
use Rattle.int_value.specs.Standing.{Holds}
use Rattle.int_value.specs.Typed.{AreReduced}

-- without bounds each number is there
unknown_holds : (c : Congr) (z : ℤ) → c ≡ unknown_of → congr_laws.Holds c z
unknown_holds c z e = subst (λ d. congr_laws.Holds d z) (sym e) (multiple_one (z -ℤ pos 0))

-- one number of a value that isn't empty
some_number : (r : Interval) (c : Congr) → AreReduced r c → is_empty r ≡ false → (z : ℤ) × (interval_laws.Holds r z × congr_laws.Holds c z)
some_number Empty c u e = absurd (false≢true (sym e))
some_number (Within lo hi) c u e = (lo, ((omega (arith, ints), u.0), u.1))
some_number All c u e = (pos 0, (tt, unknown_holds c (pos 0) u))

pub empty_none : EmptyIsNone
empty_none v u = (λ e z h. intervals.empty_none v.range e z h.0, by_test (is_empty v.range) refl)
  where
    by_test : (b : Bool) → is_empty v.range ≡ b → ((z : ℤ) → ¬ (Holds v z)) → IsTrue b
    by_test true e f = refl
    by_test false e f = let s = some_number v.range v.congr u e in absurd (f s.0 s.1)

some_same : (x y : ℤ) → x ≡ y → Some x ≡ Some y
some_same x y e = ap (λ (z : ℤ). Some z) e

pub single_one : SingleIsOne
single_one v n u = (λ e. found v.range v.congr u e, λ h. back v.range v.congr u h.0 h.1)
  where
    Only : Interval → Congr → Type 0
    Only r c = (interval_laws.Holds r n × congr_laws.Holds c n) × ((z : ℤ) → interval_laws.Holds r z × congr_laws.Holds c z → z ≡ n)

    found : (r : Interval) (c : Congr) → AreReduced r c → single_of r ≡ Some n → Only r c
    found Empty c u e = absurd (cc)
    found (Within lo hi) c (o, l, h, k, m') e = choose (λ s. s ≡ Some n → Only (Within lo hi) c) (is_one lo hi) (Some lo) None
        (λ one e. let t = and_parts (int_le lo hi) (int_le hi lo) one in let m = t.1 in let same : lo ≡ n = cc in
        (((omega (arith, ints), omega (arith, ints)), subst (congr_laws.Holds c) same l), λ z p. let q = p.0 in omega (arith, ints, q.0, q.1)))
        (λ _ e. absurd (cc)) e
    found All c u e = absurd (cc)

    back : (r : Interval) (c : Congr) → AreReduced r c → interval_laws.Holds r n × congr_laws.Holds c n → ((z : ℤ) → interval_laws.Holds r z × congr_laws.Holds c z → z ≡ n) → single_of r ≡ Some n
    back Empty c u h f = absurd h.0
    back (Within lo hi) c (o, l, h, k, m') _ f =
        let a = f lo ((omega (arith, ints), o), l) in let b = f hi ((o, omega (arith, ints)), h) in
        choose (λ s. s ≡ Some n) (is_one lo hi) (Some lo) None (λ _. some_same lo n a)
        (λ e. absurd (false≢true (sym e ∙ and_from (int_le lo hi) (int_le hi lo) (sym (omega (arith, ints))) (sym (omega (arith, ints))))))
    back All c u h f = let e = f (n +ℤ pos 1) (tt, unknown_holds c (n +ℤ pos 1) u) in absurd (omega (arith, ints))
