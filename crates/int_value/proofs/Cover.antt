-- What the answers stand for, operation by operation.
use Rattle.std.proofs.Common.{◌≡◌, ◌≢◌, Option, int_div, int_rem, zero, suc, ◌<◌, ℤ, pos, negsuc, neg_ℤ, ◌+ℤ◌, ◌-ℤ◌, ◌*ℤ◌, ◌≤ℤ◌, ◌<ℤ◌}
use Rattle.std.proofs.Common.{int_le, int_lt, Some, None, Bool, true, false, not, ◌&&◌, ◌||◌, refl, ap, subst, ◌∙◌, sym, arith, ⊎_elim}
use Rattle.std.proofs.lemmas.Int.{ints}
use Rattle.std.proofs.lemmas.Bool.{and_parts, and_from, or_cases, false≢true, eqb-false}
use Rattle.machine_ints.specs.Bound.{is_small}
use Rattle.machine_ints.specs.Convert.{wrap, bool_of}
use Rattle.machine_ints.specs.Operators.{IsWithin}
use Rattle.machine_ints.proofs.Choices.{choose}
use Rattle.machine_ints.proofs.Congruences.{multiple_one, multiple_neg}
use Rattle.machine_ints.proofs.Residues.{residue_split, residue_le, residue_same}
use Rattle.machine_ints.proofs.Results.{wrap_kept, bool_is_typed}
use Rattle.int_interval.proofs.Cover as intervals
use Rattle.int_interval.specs.Laws as interval_laws
use Rattle.int_interval.specs.Rows as interval_rows
use Rattle.int_interval.specs.Shapes.{IsShape}
use Rattle.int_interval.specs.declared.interval.Interval.{Interval}
use Rattle.int_interval.specs.declared.interval.Interval.TheVariants.{Empty, Within, All}
use Rattle.int_interval.specs.declared.shape.Shape.{Shape}
use Rattle.int_congr.proofs.Cover as congrs
use Rattle.int_congr.specs.Laws as congr_laws
use Rattle.int_congr.specs.Rows as congr_rows
use Rattle.int_congr.specs.declared.congr.Congr.{Congr}
use Rattle.int_value.specs.Checks.{said_of, within_said, less_said, less_eq_said, equal_said, equal_row}
use Rattle.int_value.specs.Laws.{ContainsIsMember, ReduceKeeps, JoinIsUpper, MeetIsBoth, IncludedIsSubset, CoversConversion}
use Rattle.int_value.specs.Laws.{CoversBool, CoversUnaryTerm, CoversTerm, CoversDivision, CoversNumber, RelationsAreRight, WithinIsRight}
use Rattle.int_value.specs.Rows.{contains_row, raised_to, lowered_to, reduced, reduced_range, answer_congr, answer_of, joined_congr, reduce_row, join_row, meet_row, included_row, congr_within}
use Rattle.int_value.specs.Rows.{unset_within, type_range, converted_congr, convert_row, to_bool_row, by_parts}
use Rattle.int_value.specs.Rows.{number_row, negation_row, sum_row, difference_row, product_row, quotient_row, remainder_row}
use Rattle.int_value.specs.Standing.{Holds, Stands, HasValue, IsRight}
use Rattle.int_value.specs.declared.value.Value.{Value}

-- ---- reduction

only_holds : (r z : ℤ) → z ≡ r → congr_laws.Holds (congr_rows.only r) z
only_holds r z e = (pos 0, omega (arith, ints))

module _ (lo hi : ℤ) (c : Congr) where
  -- the raised end is in the congruence, and no number of it is between
  pub raised_in : 0 < congr_rows.period c → congr_laws.Holds c (raised_to c lo)
  raised_in h = let s = residue_split (c.rem -ℤ lo) (congr_rows.period c) h in
      congrs.renamed (pos (congr_rows.period c)) (neg_ℤ (s.0 *ℤ pos (congr_rows.period c))) (raised_to c lo -ℤ c.rem) (omega (arith, ints, s.1))
      (multiple_neg (pos (congr_rows.period c)) (s.0 *ℤ pos (congr_rows.period c)) (s.0, refl))

  pub raised_below : (z : ℤ) → 0 < congr_rows.period c → lo ≤ℤ z → congr_laws.Holds c z → raised_to c lo ≤ℤ z
  raised_below z h k m =
      let same = residue_same (z -ℤ lo) (c.rem -ℤ lo) (congr_rows.period c) h (congrs.renamed (pos (congr_rows.period c)) (z -ℤ c.rem) ((z -ℤ lo) -ℤ (c.rem -ℤ lo)) (omega (arith, ints)) m) in
      let low = residue_le (z -ℤ lo) (congr_rows.period c) (omega (arith, ints)) in
      omega (arith, ints)

  pub lowered_above : (z : ℤ) → 0 < congr_rows.period c → z ≤ℤ hi → congr_laws.Holds c z → z ≤ℤ lowered_to c hi
  lowered_above z h k m =
      let same = residue_same (hi -ℤ c.rem) (hi -ℤ z) (congr_rows.period c) h (congrs.renamed (pos (congr_rows.period c)) (z -ℤ c.rem) ((hi -ℤ c.rem) -ℤ (hi -ℤ z)) (omega (arith, ints)) m) in
      let low = residue_le (hi -ℤ z) (congr_rows.period c) (omega (arith, ints)) in
      omega (arith, ints)

periodic : (c : Congr) → congr_rows.is_only c ≡ false → 0 < congr_rows.period c
periodic c e = let n = eqb-false (congr_rows.period c) 0 e in omega arith

pub reduced_holds : (lo hi : ℤ) (c : Congr) (unset : Bool) (z : ℤ) → lo ≤ℤ z → z ≤ℤ hi → congr_laws.Holds c z → Holds (reduced lo hi c unset) z
unfolding reduced
reduced_holds lo hi c unset z h k m = choose (λ v. Holds v z) (congr_rows.is_only c) _ _
    (λ e. let same = congrs.only_same c z e m in
    choose (λ v. Holds v z) (interval_rows.contains_row (Within lo hi) c.rem) _ _
    (λ _. ((omega (arith, ints), omega (arith, ints)), only_holds c.rem z same))
    (λ n. absurd (false≢true (sym n ∙ and_from (int_le lo c.rem) (int_le c.rem hi) (sym (omega (arith, ints))) (sym (omega (arith, ints)))))))
    (λ e. let low = raised_below lo hi c z (periodic c e) h m in let high = lowered_above lo hi c z (periodic c e) k m in
    choose (λ v. Holds v z) (int_lt (lowered_to c hi) (raised_to c lo)) _ _
    (λ n. absurd (omega (arith, ints)))
    (λ _. choose (λ v. Holds v z) (int_le (lowered_to c hi) (raised_to c lo)) _ _
    (λ n. ((low, omega (arith, ints)), only_holds (raised_to c lo) z (omega (arith, ints))))
    (λ _. ((low, high), m))))

pub reduced_back : (lo hi : ℤ) (c : Congr) (unset : Bool) (z : ℤ) → Holds (reduced lo hi c unset) z → interval_laws.Holds (Within lo hi) z × congr_laws.Holds c z
unfolding reduced
reduced_back lo hi c unset z = choose Back (congr_rows.is_only c) _ _
    (λ e. choose Back (interval_rows.contains_row (Within lo hi) c.rem) _ _
    (λ i (h, k). let t = and_parts (int_le lo c.rem) (int_le c.rem hi) i in let l = t.0 in let m = t.1 in
    ((omega (arith, ints, h.0), omega (arith, ints, h.1)), congrs.renamed _ (c.rem -ℤ c.rem) (z -ℤ c.rem) (omega (arith, ints, h.0, h.1)) (congrs.itself (pos (congr_rows.period c)) c.rem)))
    (λ _ (h, k). absurd h))
    (λ e. let member = raised_in lo hi c (periodic c e) in
    choose Back (int_lt (lowered_to c hi) (raised_to c lo)) _ _
    (λ _ (h, k). absurd h)
    (λ n. choose Back (int_le (lowered_to c hi) (raised_to c lo)) _ _
    (λ l (h, k). ((omega (arith, ints, h.0), omega (arith, ints, h.1)), congrs.renamed _ (raised_to c lo -ℤ c.rem) (z -ℤ c.rem) (omega (arith, ints, h.0, h.1)) member))
    (λ _ (h, k). ((omega (arith, ints, h.0), omega (arith, ints, h.1)), k))))
  where
    Back : Value → Type 0
    Back v = Holds v z → interval_laws.Holds (Within lo hi) z × congr_laws.Holds c z

pub range_holds : (r : Interval) (c : Congr) (unset : Bool) (z : ℤ) → interval_laws.Holds r z → congr_laws.Holds c z → Holds (reduced_range r c unset) z
range_holds Empty c unset z h k = absurd h
range_holds (Within lo hi) c unset z h k = reduced_holds lo hi c unset z h.0 h.1 k
range_holds All c unset z h k = (tt, k)

pub range_back : (r : Interval) (c : Congr) (unset : Bool) (z : ℤ) → Holds (reduced_range r c unset) z → interval_laws.Holds r z × congr_laws.Holds c z
range_back Empty c unset z (h, k) = absurd h
range_back (Within lo hi) c unset z h = reduced_back lo hi c unset z h
range_back All c unset z h = h

pub answer_holds : (r : Interval) (c : Congr) (unset : Bool) (z : ℤ) → interval_laws.Holds r z → congr_laws.Holds c z → Holds (answer_of r c unset) z
answer_holds r c unset z h k = range_holds r (answer_congr r c) unset z h (known r)
  where
    known : (r : Interval) → congr_laws.Holds (answer_congr r c) z
    known Empty = k
    known (Within lo hi) = k
    known All = multiple_one (z -ℤ pos 0)

-- the flag is handed on
pub range_unset : (r : Interval) (c : Congr) (unset : Bool) → (reduced_range r c unset).unset ≡ unset
unfolding reduced
range_unset Empty c unset = refl
range_unset (Within lo hi) c unset = choose Kept (congr_rows.is_only c) _ _
    (λ _. choose Kept (interval_rows.contains_row (Within lo hi) c.rem) _ _ (λ _. refl) (λ _. refl))
    (λ _. choose Kept (int_lt (lowered_to c hi) (raised_to c lo)) _ _ (λ _. refl)
    (λ _. choose Kept (int_le (lowered_to c hi) (raised_to c lo)) _ _ (λ _. refl) (λ _. refl)))
  where
    Kept : Value → Type 0
    Kept v = v.unset ≡ unset
range_unset All c unset = refl

-- an answer that isn't unset has a value
pub answer_set : (r : Interval) (c : Congr) → HasValue (answer_of r c false)
answer_set r c e = false≢true (sym (range_unset r (answer_congr r c) false) ∙ e)

pub reduce_keeps : ReduceKeeps
unfolding reduce_row
reduce_keeps v None = (λ e. sym (range_unset v.range v.congr v.unset) ∙ e, λ e. range_unset v.range v.congr v.unset ∙ e)
reduce_keeps v (Some z) = (range_back v.range v.congr v.unset z, λ h. range_holds v.range v.congr v.unset z h.0 h.1)

-- ---- sets

-- what has a number isn't empty
pub not_empty : (r : Interval) (z : ℤ) → interval_laws.Holds r z → interval_rows.is_empty r ≡ false
not_empty Empty z h = absurd h
not_empty (Within lo hi) z h = refl
not_empty All z h = refl

pub joined_left : (a b : Value) (z : ℤ) → Holds a z → congr_laws.Holds (joined_congr a b) z
joined_left a b z h = choose (λ c. congr_laws.Holds c z) (interval_rows.is_empty a.range) _ _
    (λ e. absurd (false≢true (sym (not_empty a.range z h.0) ∙ e)))
    (λ _. choose (λ c. congr_laws.Holds c z) (interval_rows.is_empty b.range) _ _ (λ _. h.1) (λ _. (congrs.join_upper a.congr b.congr z).0 h.1))

pub joined_right : (a b : Value) (z : ℤ) → Holds b z → congr_laws.Holds (joined_congr a b) z
joined_right a b z h = choose (λ c. congr_laws.Holds c z) (interval_rows.is_empty a.range) _ _
    (λ _. h.1)
    (λ _. choose (λ c. congr_laws.Holds c z) (interval_rows.is_empty b.range) _ _ (λ e. absurd (false≢true (sym (not_empty b.range z h.0) ∙ e))) (λ _. (congrs.join_upper a.congr b.congr z).1 h.1))

pub or_left : (a b : Bool) → a ≡ true → (a || b) ≡ true
or_left true b e = refl
or_left false b e = absurd (false≢true e)

pub or_right : (a b : Bool) → b ≡ true → (a || b) ≡ true
or_right true b e = refl
or_right false b e = e

pub join_upper : JoinIsUpper
unfolding join_row
join_upper a b None = let same = range_unset (interval_rows.join_row a.range b.range) (answer_congr (interval_rows.join_row a.range b.range) (joined_congr a b)) (a.unset || b.unset) in
    (λ e. same ∙ or_left a.unset b.unset e, λ e. same ∙ or_right a.unset b.unset e)
join_upper a b (Some z) = (
  λ h. answer_holds (interval_rows.join_row a.range b.range) (joined_congr a b) (a.unset || b.unset) z (intervals.join_left a.range b.range z h.0) (joined_left a b z h),
  λ h. answer_holds (interval_rows.join_row a.range b.range) (joined_congr a b) (a.unset || b.unset) z (intervals.join_right a.range b.range z h.0) (joined_right a b z h),
)

pub meet_holds : (v : Value) (r : Interval) (z : ℤ) → Holds v z → interval_laws.Holds r z → Holds (meet_row v r) z
unfolding meet_row
meet_holds v r z h k = range_holds (interval_rows.meet_row v.range r) v.congr v.unset z (intervals.meet_holds v.range r z h.0 k) h.1

pub meet_unset : (v : Value) (r : Interval) → (meet_row v r).unset ≡ v.unset
unfolding meet_row
meet_unset v r = range_unset (interval_rows.meet_row v.range r) v.congr v.unset

pub meet_both : MeetIsBoth
unfolding meet_row
meet_both v r None = (λ e. (sym (meet_unset v r) ∙ e, tt), λ h. meet_unset v r ∙ h.0)
meet_both v r (Some z) = (
  λ h. let b = range_back (interval_rows.meet_row v.range r) v.congr v.unset z h in let m = intervals.meet_both v.range r z b.0 in ((m.0, b.1), m.1),
  λ h. meet_holds v r z h.0 h.1,
)

pub included_subset : IncludedIsSubset
unfolding included_row
included_subset a b o e = by_kind o
  where
    parts : (interval_rows.included_row a.range b.range ≡ true) × ((congr_within a b && unset_within a.unset b.unset) ≡ true)
    parts = and_parts (interval_rows.included_row a.range b.range) (congr_within a b && unset_within a.unset b.unset) e

    rest : (congr_within a b ≡ true) × (unset_within a.unset b.unset ≡ true)
    rest = and_parts (congr_within a b) (unset_within a.unset b.unset) parts.1

    flag : (s t : Bool) → unset_within s t ≡ true → s ≡ true → t ≡ true
    flag true t e s = e
    flag false t e s = absurd (false≢true s)

    by_kind : (o : Option ℤ) → Stands a o → Stands b o
    by_kind None h = flag a.unset b.unset rest.1 h
    by_kind (Some z) h = (
      intervals.included_holds a.range b.range z parts.0 h.0,
      ⊎_elim (λ p. absurd (false≢true (sym (not_empty a.range z h.0) ∙ p)))
          (λ p. (congrs.included_subset a.congr b.congr).0 p z h.1) (or_cases (interval_rows.is_empty a.range) (congr_rows.included_row a.congr b.congr) rest.0),
    )

-- ---- conversions

pub convert_holds : (shape : Shape) (v : Value) (x : ℤ) → IsShape shape → Holds v x → Holds (convert_row shape v) (wrap shape.lo shape.width x)
unfolding convert_row
convert_holds shape v x t h = answer_holds (interval_rows.convert_row shape v.range) (converted_congr shape v) false (wrap shape.lo shape.width x) (intervals.convert_holds shape v.range x t h.0)
    (choose (λ c. congr_laws.Holds c (wrap shape.lo shape.width x)) (interval_rows.included_row v.range (type_range shape)) _ _
    (λ e. let i = intervals.included_holds v.range (type_range shape) x e h.0 in rw (wrap_kept shape.lo shape.hi shape.width t x i) h.1)
    (λ _. congrs.convert_holds shape v.congr x h.1))

pub convert_set : (shape : Shape) (v : Value) → HasValue (convert_row shape v)
unfolding convert_row
convert_set shape v = answer_set (interval_rows.convert_row shape v.range) (converted_congr shape v)

pub conversion_covers : CoversConversion
conversion_covers shape v t = (convert_set shape v, λ x h. convert_holds shape v x t h)

-- membership by the test
pub contains_member : ContainsIsMember
unfolding contains_row
contains_member v z = (
  λ e. let t = and_parts (interval_rows.contains_row v.range z) (congr_rows.contains_row v.congr z) e in ((intervals.contains_member v.range z).0 t.0, (congrs.contains_member v.congr z).0 t.1),
  λ h. and_from (interval_rows.contains_row v.range z) (congr_rows.contains_row v.congr z) ((intervals.contains_member v.range z).1 h.0) ((congrs.contains_member v.congr z).1 h.1),
)

pub contains_holds : (v : Value) (z : ℤ) → Holds v z → contains_row v z ≡ true
contains_holds v z = (contains_member v z).1

not_true : (b : Bool) → not b ≡ true → b ≡ true → ⊥
not_true true e f = false≢true e
not_true false e f = false≢true f

bool_one : (x : ℤ) → x ≢ pos 0 → bool_of x ≡ pos 1
bool_one (pos zero) n = absurd (n refl)
bool_one (pos (suc k)) n = refl
bool_one (negsuc k) n = refl

bool_holds : (v : Value) (x : ℤ) → Holds v x → Holds (to_bool_row v) (bool_of x)
unfolding to_bool_row
bool_holds v x h = choose (λ w. Holds w (bool_of x)) (interval_rows.is_empty v.range) _ _
    (λ e. absurd (false≢true (sym (not_empty v.range x h.0) ∙ e)))
    (λ _. choose (λ w. Holds w (bool_of x)) (not (contains_row v (pos 0))) _ _
    (λ e. let one : bool_of x ≡ pos 1 = bool_one x (λ z. not_true (contains_row v (pos 0)) e (subst (λ n. contains_row v n ≡ true) z (contains_holds v x h))) in
    ((omega (arith, ints), omega (arith, ints)), only_holds (pos 1) (bool_of x) one))
    (λ _. choose (λ w. Holds w (bool_of x)) (interval_rows.is_just v.range (pos 0)) _ _
    (λ e. let none : bool_of x ≡ pos 0 = ap bool_of (intervals.just_same v.range (pos 0) x e h.0) in ((omega (arith, ints), omega (arith, ints)), only_holds (pos 0) (bool_of x) none))
    (λ _. (bool_is_typed x, multiple_one (bool_of x -ℤ pos 0)))))

pub bool_covers : CoversBool
unfolding to_bool_row
bool_covers v = (
  choose HasValue (interval_rows.is_empty v.range) _ _ (λ _. none) (λ _. choose HasValue (not (contains_row v (pos 0))) _ _ (λ _. none)
      (λ _. choose HasValue (interval_rows.is_just v.range (pos 0)) _ _ (λ _. none) (λ _. none))),
  bool_holds v,
)
  where
    none : false ≡ true → ⊥
    none e = false≢true e

-- ---- what is said

pub said_right : (y n : Bool) (P : Type 0) → (y ≡ true → P) → (n ≡ true → ¬ P) → IsRight (said_of y n) P
said_right true n P f g = f refl
said_right false true P f g = g refl
said_right false false P f g = tt

pub within_right : (lo hi : ℤ) (r : Interval) (z : ℤ) → interval_laws.Holds r z → IsRight (within_said lo hi r) (IsWithin lo hi z)
within_right lo hi Empty z h = absurd h
within_right lo hi (Within a b) z h = said_right (interval_rows.is_inside a b lo hi) (int_lt b lo || int_lt hi a) (IsWithin lo hi z)
    (λ e. let t = and_parts (int_le lo a) (int_le b hi) e in let l = t.0 in let m = t.1 in (omega (arith, ints, h.0), omega (arith, ints, h.1)))
    (λ e (p, q). ⊎_elim (λ l. absurd (omega (arith, ints, h.0, h.1))) (λ l. absurd (omega (arith, ints, h.0, h.1))) (or_cases (int_lt b lo) (int_lt hi a) e))
within_right lo hi All z h = tt

pub relations_right : RelationsAreRight
unfolding less_said less_eq_said equal_row
relations_right a b x y h k = (
  less a.range b.range h.0 k.0,
  less_eq a.range b.range h.0 k.0,
  equal a.range b.range (not (congr_rows.may_meet a.congr b.congr)) h.0 k.0
      (λ e same. not_true (congr_rows.may_meet a.congr b.congr) e (congrs.meets_common a.congr b.congr x h.1 (subst (λ z. congr_laws.Holds b.congr z) (sym same) k.1))),
)
  where
    less : (r s : Interval) → interval_laws.Holds r x → interval_laws.Holds s y → IsRight (less_said r s) (x <ℤ y)
    less Empty s h k = absurd h
    less (Within a b) Empty h k = absurd k
    less (Within a b) (Within c d) h k = said_right (int_lt b c) (int_le d a) (x <ℤ y) (λ e. omega (arith, ints, h.1, k.0)) (λ e l. absurd (omega (arith, ints, h.0, k.1)))
    less (Within a b) All h k = tt
    less All Empty h k = absurd k
    less All (Within c d) h k = tt
    less All All h k = tt

    less_eq : (r s : Interval) → interval_laws.Holds r x → interval_laws.Holds s y → IsRight (less_eq_said r s) (x ≤ℤ y)
    less_eq Empty s h k = absurd h
    less_eq (Within a b) Empty h k = absurd k
    less_eq (Within a b) (Within c d) h k = said_right (int_le b c) (int_lt d a) (x ≤ℤ y) (λ e. omega (arith, ints, h.1, k.0)) (λ e l. absurd (omega (arith, ints, h.0, k.1)))
    less_eq (Within a b) All h k = tt
    less_eq All Empty h k = absurd k
    less_eq All (Within c d) h k = tt
    less_eq All All h k = tt

    equal : (r s : Interval) (apart : Bool) → interval_laws.Holds r x → interval_laws.Holds s y → (apart ≡ true → x ≢ y) → IsRight (equal_said r s apart) (x ≡ y)
    equal Empty s apart h k g = absurd h
    equal (Within a b) Empty apart h k g = absurd k
    equal (Within a b) (Within c d) apart h k g = said_right (interval_rows.are_one a b c d && interval_rows.is_one a c) (int_lt b c || int_lt d a || apart) (x ≡ y)
        (λ e. let t = and_parts (interval_rows.are_one a b c d) (interval_rows.is_one a c) e in let u = and_parts (interval_rows.is_one a b) (interval_rows.is_one c d) t.0 in
        let w = and_parts (int_le a c) (int_le c a) t.1 in let p = intervals.one_same a b x u.0 h.0 h.1 in let q = intervals.one_same c d y u.1 k.0 k.1 in let l = w.0 in let m = w.1 in
        omega (arith, ints))
        (λ e same. ⊎_elim (λ n. ⊎_elim (λ l. absurd (omega (arith, ints, h.0, h.1, k.0, k.1))) (λ l. absurd (omega (arith, ints, h.0, h.1, k.0, k.1))) (or_cases (int_lt b c) (int_lt d a) n))
        (λ n. absurd (g n same)) (or_cases (int_lt b c || int_lt d a) apart e))
    equal (Within a b) All apart h k g = tt
    equal All Empty apart h k g = absurd k
    equal All (Within c d) apart h k g = tt
    equal All All apart h k g = tt

pub within_covers : WithinIsRight
within_covers v lo hi z h = within_right lo hi v.range z h.0

-- ---- terms

-- an operator by its parts
pub parts_hold : (f : Interval → Interval → Interval) (g : Congr → Congr → Congr) (a b : Value) (z : ℤ) → interval_laws.Holds (f a.range b.range) z → congr_laws.Holds (g a.congr b.congr) z
    → Holds (by_parts f g a b) z
parts_hold f g a b z h k = answer_holds (f a.range b.range) (g a.congr b.congr) false z h k

pub parts_set : (f : Interval → Interval → Interval) (g : Congr → Congr → Congr) (a b : Value) → HasValue (by_parts f g a b)
parts_set f g a b = answer_set (f a.range b.range) (g a.congr b.congr)

pub negation_covers : CoversUnaryTerm negation_row neg_ℤ
unfolding negation_row
negation_covers a = (
  answer_set (interval_rows.negative_row a.range) (congr_rows.negative_row a.congr),
  λ x h. answer_holds (interval_rows.negative_row a.range) (congr_rows.negative_row a.congr) false (neg_ℤ x) (intervals.negative_holds a.range x h.0) (congrs.negative_holds a.congr x h.1),
)

pub sum_covers : CoversTerm sum_row ◌+ℤ◌
unfolding sum_row
sum_covers a b = (
  parts_set interval_rows.sum_row congr_rows.sum_row a b,
  λ x y h k. parts_hold interval_rows.sum_row congr_rows.sum_row a b (x +ℤ y) (intervals.sum_holds a.range b.range x y h.0 k.0) (congrs.sum_holds a.congr b.congr x y h.1 k.1),
)

pub difference_covers : CoversTerm difference_row ◌-ℤ◌
unfolding difference_row
difference_covers a b = (
  parts_set interval_rows.difference_row congr_rows.difference_row a b,
  λ x y h k. parts_hold interval_rows.difference_row congr_rows.difference_row a b (x -ℤ y) (intervals.difference_holds a.range b.range x y h.0 k.0)
      (congrs.difference_holds a.congr b.congr x y h.1 k.1),
)

pub product_covers : CoversTerm product_row ◌*ℤ◌
unfolding product_row
product_covers a b = (
  parts_set interval_rows.product_row congr_rows.product_row a b,
  λ x y h k. parts_hold interval_rows.product_row congr_rows.product_row a b (x *ℤ y) (intervals.product_holds a.range b.range x y h.0 k.0) (congrs.product_holds a.congr b.congr x y h.1 k.1),
)

pub quotient_covers : CoversDivision quotient_row int_div
unfolding quotient_row
quotient_covers a b = (
  parts_set interval_rows.quotient_row congr_rows.quotient_row a b,
  λ x y h k n. parts_hold interval_rows.quotient_row congr_rows.quotient_row a b (int_div x y) (intervals.quotient_holds a.range b.range x y h.0 k.0 n)
      (congrs.quotient_holds a.congr b.congr x y h.1 k.1),
)

pub remainder_covers : CoversDivision remainder_row int_rem
unfolding remainder_row
remainder_covers a b = (
  parts_set interval_rows.remainder_row congr_rows.remainder_row a b,
  λ x y h k n. parts_hold interval_rows.remainder_row congr_rows.remainder_row a b (int_rem x y) (intervals.remainder_holds a.range b.range x y h.0 k.0 n)
      (congrs.remainder_holds a.congr b.congr x y h.1 k.1),
)

pub number_covers : CoversNumber
unfolding number_row
number_covers n = (
  choose HasValue (is_small n) _ _ (λ _ e. false≢true e) (λ _ e. false≢true e),
  choose (λ v. Holds v n) (is_small n) _ _ (λ _. ((omega (arith, ints), omega (arith, ints)), only_holds n n refl)) (λ _. (tt, multiple_one (n -ℤ pos 0))),
)
