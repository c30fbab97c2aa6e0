-- Reduction leaves what is reduced; the whole type includes its values, and a join is the least upper bound of them.
use Rattle.std.proofs.Common.{◌≡◌, ◌≢◌, ◌≤◌, ◌<◌, ℤ, pos, neg_ℤ, ◌-ℤ◌, ◌≤ℤ◌, ◌<ℤ◌, unsigned_abs, int_le, int_lt, IsTrue, Bool, true, false, not, ◌&&◌, ◌||◌, refl, ap, subst, ◌∙◌, sym, arith, ⊎_elim}
use Rattle.std.specs.Int.{int_min, int_max}
use Rattle.std.proofs.lemmas.Int.{ints, clamps}
use Rattle.std.proofs.lemmas.Bool.{and_parts, and_from, false≢true, eqb-true, eqb-false, eq-eqb}
use Rattle.std.proofs.lemmas.Nat.Gcd.{le_of_dvd}
use Rattle.machine_ints.specs.Divisors.{IsMultiple}
use Rattle.machine_ints.proofs.Choices.{choose}
use Rattle.machine_ints.proofs.Congruences.{multiple_one, multiple_sub, dvd_of_multiple}
use Rattle.machine_ints.proofs.Conversions.{range_of_type}
use Rattle.machine_ints.proofs.Products.{mul-neg}
use Rattle.machine_ints.proofs.Residues.{residue_is}
use Rattle.int_interval.proofs.Cuts.{cut_in}
use Rattle.int_interval.specs.Rows as interval_rows
use Rattle.int_interval.specs.Shapes as shapes
use Rattle.int_interval.specs.Shapes.{IsShape}
use Rattle.int_interval.specs.declared.interval.Interval.{Interval}
use Rattle.int_interval.specs.declared.interval.Interval.TheVariants.{Empty, Within, All}
use Rattle.int_interval.specs.declared.shape.Shape.{Shape}
use Rattle.int_congr.proofs.Cover as congrs
use Rattle.int_congr.proofs.Normal as normals
use Rattle.int_congr.specs.Laws as congr_laws
use Rattle.int_congr.specs.Rows as congr_rows
use Rattle.int_congr.specs.declared.congr.Congr.{Congr}
use Rattle.int_value.specs.Rows.{meet_row, type_range, value_of, one_of, raised_to, lowered_to, between, reduced, reduced_range}
use Rattle.int_value.specs.Rows.{answer_of, joined_congr, congr_within, unset_within, included_row, reduce_row, join_row, whole_of}
use Rattle.int_value.specs.Typed.{AreReduced, IsReduced, ReduceIsStable, WholeIncludes, JoinIsLeast}
use Rattle.int_value.specs.declared.value.Value.{Value}
use Rattle.int_value.proofs.Cover.{range_unset, raised_in, or_right}
use Rattle.int_value.proofs.Reduction.{IsPart, reduced_part}

-- ---- reduction of what is reduced

module _ (c : Congr) where
  -- a number of the congruence has no residue
  raised_same : (lo : ℤ) → 0 < congr_rows.period c → congr_laws.Holds c lo → raised_to c lo ≡ lo
  raised_same lo h (k, e) =
      let z = residue_is (c.rem -ℤ lo) (congr_rows.period c) 0 (neg_ℤ k) h (omega (arith, ints, e, mul-neg k (pos (congr_rows.period c)))) in omega (arith, ints)

  lowered_same : (hi : ℤ) → 0 < congr_rows.period c → congr_laws.Holds c hi → lowered_to c hi ≡ hi
  lowered_same hi h (k, e) =
      let z = residue_is (hi -ℤ c.rem) (congr_rows.period c) 0 k h (omega (arith, ints, e)) in omega (arith, ints)

  modulus_zero : congr_rows.period c ≡ 0 → c.modulus ≡ pos 0
  modulus_zero e = by_modulus c.modulus e
    where
      by_modulus : (m : ℤ) → unsigned_abs m ≡ 0 → m ≡ pos 0
      by_modulus m e = omega (arith, ints)

  within_stable : (lo hi : ℤ) (unset : Bool) → AreReduced (Within lo hi) c → reduced lo hi c unset ≡ value_of (Within lo hi) c unset
  unfolding reduced
  within_stable lo hi unset (order, low, high, one, n) = choose Same (congr_rows.is_only c) _ _
      (λ e. let p = congrs.only_same c lo e low in let q = congrs.only_same c hi e high in
      choose Same (interval_rows.contains_row (Within lo hi) c.rem) _ _
      (λ _. single p q (modulus_zero (eqb-true (congr_rows.period c) 0 e)))
      (λ m. absurd (false≢true (sym m ∙ and_from (int_le lo c.rem) (int_le c.rem hi) (sym (omega (arith, ints))) (sym (omega (arith, ints)))))))
      (λ e. let h : 0 < congr_rows.period c = omega (arith, eqb-false (congr_rows.period c) 0 e) in
      subst (λ z. between z (lowered_to c hi) c unset ≡ value_of (Within lo hi) c unset) (sym (raised_same lo h low))
      (subst (λ z. between lo z c unset ≡ value_of (Within lo hi) c unset) (sym (lowered_same hi h high))
      (choose Same (int_lt hi lo) _ _ (λ l. absurd (omega (arith, ints)))
      (λ _. choose Same (int_le hi lo) _ _ (λ l. absurd (eqb-false (congr_rows.period c) 0 e (ap unsigned_abs (one (omega (arith, ints)))))) (λ _. refl)))))
    where
      Same : Value → Type 0
      Same v = v ≡ value_of (Within lo hi) c unset

      single : lo ≡ c.rem → hi ≡ c.rem → c.modulus ≡ pos 0 → one_of c.rem unset ≡ value_of (Within lo hi) c unset
      single p q m = subst (λ z. one_of c.rem unset ≡ value_of (Within z hi) c unset) (sym p)
          (subst (λ z. one_of c.rem unset ≡ value_of (Within c.rem z) c unset) (sym q)
          (ap (λ (m : ℤ). value_of (Within c.rem c.rem) (record { rem = c.rem; modulus = m }) unset) (sym m)))

  pub range_stable : (r : Interval) (unset : Bool) → AreReduced r c → reduced_range r c unset ≡ value_of r c unset
  range_stable Empty unset e = ap (λ (d : Congr). value_of Empty d unset) (sym e)
  range_stable (Within lo hi) unset e = within_stable lo hi unset e
  range_stable All unset e = refl

  pub answer_stable : (r : Interval) (unset : Bool) → AreReduced r c → answer_of r c unset ≡ value_of r c unset
  answer_stable Empty unset e = range_stable Empty unset e
  answer_stable (Within lo hi) unset e = range_stable (Within lo hi) unset e
  answer_stable All unset e = ap (λ (d : Congr). value_of All d unset) (sym e)

pub reduce_stable : ReduceIsStable
unfolding reduce_row
reduce_stable v e = range_stable v.congr v.range v.unset e

-- what lies in the type is what its meet with the type is
pub met_stable : (shape : Shape) (v : Value) → IsReduced v → IsTrue (interval_rows.included_row v.range (type_range shape)) → v ≡ meet_row v (type_range shape)
unfolding meet_row interval_rows.meet_row interval_rows.included_row
met_stable shape v u e = by_range v.range v.congr v.unset u e
  where
    by_range : (r : Interval) (c : Congr) (unset : Bool) → AreReduced r c → IsTrue (interval_rows.included_row r (type_range shape))
        → value_of r c unset ≡ reduced_range (interval_rows.meet_row r (type_range shape)) c unset
    by_range Empty c unset u e = sym (range_stable c Empty unset u)
    by_range (Within p q) c unset u e =
        let i = and_parts (int_le shape.lo p) (int_le q shape.hi) e in let l = i.0 in let m = i.1 in
        let low : p ≡ int_max p shape.lo = omega (arith, ints, clamps) in let high : q ≡ int_min q shape.hi = omega (arith, ints, clamps) in
        choose (λ w. value_of (Within p q) c unset ≡ reduced_range w c unset) (int_le (int_max p shape.lo) (int_min q shape.hi)) _ Empty
        (λ _. subst (λ x. value_of (Within p q) c unset ≡ reduced_range (Within x (int_min q shape.hi)) c unset) low
        (subst (λ y. value_of (Within p q) c unset ≡ reduced_range (Within p y) c unset) high (sym (range_stable c (Within p q) unset u))))
        (λ n. absurd (omega (arith, ints, u.0)))
    by_range All c unset u e = absurd (false≢true e)

-- ---- inclusion by its parts

included_from : (a b : Value) → IsTrue (interval_rows.included_row a.range b.range) → IsTrue (congr_within a b) → IsTrue (unset_within a.unset b.unset) → IsTrue (included_row a b)
unfolding included_row
included_from a b h k l = and_from (interval_rows.included_row a.range b.range) (congr_within a b && unset_within a.unset b.unset) h (and_from (congr_within a b) (unset_within a.unset b.unset) k l)

pub record Parts (a b : Value) : Type 0 where
  pub range : IsTrue (interval_rows.included_row a.range b.range)
  pub congr : IsTrue (congr_within a b)
  pub unset : IsTrue (unset_within a.unset b.unset)

included_parts : (a b : Value) → IsTrue (included_row a b) → Parts a b
unfolding included_row
included_parts a b e =
    let t = and_parts (interval_rows.included_row a.range b.range) (congr_within a b && unset_within a.unset b.unset) e in
    let u = and_parts (congr_within a b) (unset_within a.unset b.unset) t.1 in
    record { range = t.0; congr = u.0; unset = u.1 }

in_type : (shape : Shape) (r : Interval) → shapes.IsTyped shape r → IsTrue (interval_rows.included_row r (Within shape.lo shape.hi))
unfolding interval_rows.included_row
in_type shape Empty u = refl
in_type shape (Within p q) u = and_from (int_le shape.lo p) (int_le q shape.hi) (sym (omega (arith, ints, u.0))) (sym (omega (arith, ints, u.2)))
in_type shape All u = absurd u

shrunk_part : (lo hi : ℤ) (p : Interval) (d : Congr) (r : Interval) → IsPart lo hi p d → IsTrue (interval_rows.included_row (Within lo hi) r) → IsTrue (interval_rows.included_row p r)
unfolding interval_rows.included_row
shrunk_part lo hi Empty d r q e = refl
shrunk_part lo hi (Within s t) d Empty q e = absurd (false≢true e)
shrunk_part lo hi (Within s t) d (Within x y) q e = let i = and_parts (int_le x lo) (int_le hi y) e in let l = i.0 in let m = i.1 in
    and_from (int_le x s) (int_le t y) (sym (omega (arith, ints, q.0))) (sym (omega (arith, ints, q.2)))
shrunk_part lo hi (Within s t) d All q e = refl
shrunk_part lo hi All d r q e = absurd q

hull_in : (p q s t : ℤ) (r : Interval) → IsTrue (interval_rows.included_row (Within p q) r) → IsTrue (interval_rows.included_row (Within s t) r)
    → IsTrue (interval_rows.included_row (Within (int_min p s) (int_max q t)) r)
unfolding interval_rows.included_row
hull_in p q s t Empty e f = e
hull_in p q s t (Within x y) e f = let i = and_parts (int_le x p) (int_le q y) e in let j = and_parts (int_le x s) (int_le t y) f in
    let a = i.0 in let b = i.1 in let c = j.0 in let d = j.1 in
    and_from (int_le x (int_min p s)) (int_le (int_max q t) y) (sym (omega (arith, ints, clamps))) (sym (omega (arith, ints, clamps)))
hull_in p q s t All e f = refl

-- ---- the whole type

pub whole_includes : WholeIncludes
whole_includes shape v u = included_from v (whole_of shape true) (in_type shape v.range u.0)
    (or_right (interval_rows.is_empty v.range) (congr_rows.included_row v.congr congr_rows.unknown_of) ((congrs.included_subset v.congr congr_rows.unknown_of).1 (λ z _. multiple_one (z -ℤ pos 0))))
    (or_right (not v.unset) true refl)

-- ---- the least upper bound

-- a range within another, after reduction
shrunk : (lo hi : ℤ) (c : Congr) (unset : Bool) (r : Interval) → IsTrue (interval_rows.included_row (Within lo hi) r) → IsTrue (interval_rows.included_row (reduced lo hi c unset).range r)
shrunk lo hi c unset r = shrunk_part lo hi (reduced lo hi c unset).range (reduced lo hi c unset).congr r (reduced_part lo hi c unset)

-- a congruence within another, after reduction
narrowed : (lo hi : ℤ) (c d : Congr) (unset : Bool) → IsTrue (congr_rows.included_row c d)
    → (interval_rows.is_empty (reduced lo hi c unset).range || congr_rows.included_row (reduced lo hi c unset).congr d) ≡ true
unfolding reduced
narrowed lo hi c d unset e = choose Kept (congr_rows.is_only c) _ _
    (λ o. choose Kept (interval_rows.contains_row (Within lo hi) c.rem) _ _ (λ _. by_one c.rem (congrs.itself (pos (congr_rows.period c)) c.rem)) (λ _. refl))
    (λ n. choose Kept (int_lt (lowered_to c hi) (raised_to c lo)) _ _ (λ _. refl)
    (λ _. choose Kept (int_le (lowered_to c hi) (raised_to c lo)) _ _
    (λ _. by_one (raised_to c lo) (raised_in lo hi c (omega (arith, eqb-false (congr_rows.period c) 0 n))))
    (λ _. e)))
  where
    Kept : Value → Type 0
    Kept v = (interval_rows.is_empty v.range || congr_rows.included_row v.congr d) ≡ true

    by_one : (r : ℤ) → congr_laws.Holds c r → congr_rows.included_row (congr_rows.only r) d ≡ true
    by_one r h = (congrs.included_subset (congr_rows.only r) d).1 (λ z k. subst (congr_laws.Holds d) (sym (congrs.only_same (congr_rows.only r) z refl k)) ((congrs.included_subset c d).0 e r h))

-- the congruence of a typed value that has numbers has small numbers
modest : (shape : Shape) (lo hi : ℤ) (c : Congr) → IsShape shape → shapes.IsTyped shape (Within lo hi) → AreReduced (Within lo hi) c → congr_laws.IsModest c
modest shape lo hi c t (l, o, m) (order, low, high, one, n) = let r = range_of_type shape.lo shape.hi shape.width t in ⊎_elim
    (λ (z : c.modulus ≡ pos 0). let p : congr_rows.period c ≡ 0 = ap unsigned_abs z in
    let s : lo ≡ c.rem = congrs.only_same c lo (eq-eqb (congr_rows.period c) 0 p) low in (omega (arith, ints, r.least, r.greatest), omega arith))
    (λ (u : (pos 0 ≤ℤ c.rem) × (c.rem <ℤ c.modulus)). let small = near (multiple_sub (pos (congr_rows.period c)) (hi -ℤ c.rem) (lo -ℤ c.rem) high low) (omega (arith, ints, u.0, u.1)) in
    (omega (arith, ints, r.least, r.greatest, u.0, u.1), omega (arith, ints, r.least, r.greatest)))
    n
  where
    apart : 0 < unsigned_abs c.modulus → lo ≢ hi
    apart h e = absurd (omega (arith, ap unsigned_abs (one e)))

    spread : lo ≢ hi → 0 < unsigned_abs (hi -ℤ lo)
    spread n = omega (arith, ints, n)

    near : IsMultiple (pos (congr_rows.period c)) ((hi -ℤ c.rem) -ℤ (lo -ℤ c.rem)) → 0 < unsigned_abs c.modulus → congr_rows.period c ≤ unsigned_abs (hi -ℤ lo)
    near k h = let e : (hi -ℤ c.rem) -ℤ (lo -ℤ c.rem) ≡ hi -ℤ lo = omega (arith, ints) in
        le_of_dvd (spread (apart h)) (dvd_of_multiple (congr_rows.period c) (hi -ℤ lo) (congrs.renamed (pos (congr_rows.period c)) ((hi -ℤ c.rem) -ℤ (lo -ℤ c.rem)) (hi -ℤ lo) e k))

unset_joined : (a b c : Bool) → unset_within a c ≡ true → unset_within b c ≡ true → unset_within (a || b) c ≡ true
unset_joined true b c e f = e
unset_joined false b c e f = f

-- the join of two reduced values by their parts
module _ (shape : Shape) (t : IsShape shape) (c : Value) where
  joined : (r s : Interval) (d e : Congr) (f g : Bool) → shapes.IsTyped shape r → shapes.IsTyped shape s → AreReduced r d → AreReduced s e → Parts (value_of r d f) c → Parts (value_of s e g) c
      → IsTrue (included_row (answer_of (interval_rows.join_row r s) (joined_congr (value_of r d f) (value_of s e g)) (f || g)) c)
  unfolding interval_rows.join_row
  joined Empty s d e f g u v h k i j = kept s e j h k i
    where
      kept : (s : Interval) (e : Congr) → Parts (value_of s e g) c → AreReduced Empty d → AreReduced s e → Parts (value_of Empty d f) c → IsTrue (included_row (answer_of s e (f || g)) c)
      kept s e j h k i = subst (λ v. IsTrue (included_row v c)) (sym (answer_stable e s (f || g) k))
          (included_from (value_of s e (f || g)) c j.range j.congr (unset_joined f g c.unset i.unset j.unset))
  joined (Within p q) Empty d e f g u v h k i j = subst (λ v. IsTrue (included_row v c)) (sym (answer_stable d (Within p q) (f || g) h))
      (included_from (value_of (Within p q) d (f || g)) c i.range i.congr (unset_joined f g c.unset i.unset j.unset))
  joined (Within p q) (Within x y) d e f g u v h k i j = let r = range_of_type shape.lo shape.hi shape.width t in
      let same : interval_rows.cut (int_min p x) (int_max q y) ≡ Within (int_min p x) (int_max q y) = cut_in (int_min p x) (int_max q y)
      (omega (arith, ints, clamps, u.0, u.1, u.2, v.0, r.least, r.greatest)) (omega (arith, ints, clamps, u.0, u.1, u.2, v.2, r.least, r.greatest)) in
      subst (λ w. IsTrue (included_row (answer_of w (congr_rows.join_row d e) (f || g)) c)) (sym same)
      (included_from (reduced (int_min p x) (int_max q y) (congr_rows.join_row d e) (f || g)) c
      (shrunk (int_min p x) (int_max q y) (congr_rows.join_row d e) (f || g) c.range (hull_in p q x y c.range i.range j.range))
      (narrowed (int_min p x) (int_max q y) (congr_rows.join_row d e) c.congr (f || g) (normals.join_least d e c.congr (modest shape p q d t u h) (modest shape x y e t v k) i.congr j.congr))
      (subst (λ w. unset_within w c.unset ≡ true) (sym (range_unset (Within (int_min p x) (int_max q y)) (congr_rows.join_row d e) (f || g))) (unset_joined f g c.unset i.unset j.unset)))
  joined (Within p q) All d e f g u v h k i j = absurd v
  joined All s d e f g u v h k i j = absurd u

pub join_least : JoinIsLeast
unfolding join_row
join_least shape a b c t u v i j = joined shape t c a.range b.range a.congr b.congr a.unset b.unset u.0 v.0 u.1 v.1 (included_parts a c i) (included_parts b c j)
