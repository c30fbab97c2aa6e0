-- What is said of connectives, relations and quantifiers is right where what is said of their parts is.
use Rattle.std.proofs.Common.{◌≡◌, ◌≢◌, ℕ, zero, suc, ℤ, pos, negsuc, ◌+ℤ◌, ◌-ℤ◌, ◌≤ℤ◌, ◌<ℤ◌, int_le, Bool, true, false, not, ◌&&◌, ◌||◌, Option, Some, None, refl, sym, ap, subst, ◌∙◌, arith}
use Rattle.std.proofs.lemmas.Int.{ints}
use Rattle.std.proofs.lemmas.Bool.{and_parts, and_from, false≢true, true≢false}
use Rattle.machine_ints.proofs.Choices.{choose}
use Rattle.machine_ints.proofs.Congruences.{multiple_one}
use Rattle.fc_base.specs.declared.relation.Relation.{Relation}
use Rattle.fc_base.specs.declared.relation.Relation.TheVariants as R
use Rattle.int_interval.specs.Laws as interval_laws
use Rattle.int_interval.specs.Rows.{by_ends, is_empty}
use Rattle.int_interval.specs.declared.interval.Interval.{Interval}
use Rattle.int_interval.specs.declared.interval.Interval.TheVariants.{Empty, Within, All}
use Rattle.int_interval.specs.declared.said.Said.{Said}
use Rattle.int_interval.specs.declared.said.Said.TheVariants as S
use Rattle.int_value.specs.Rows.{all_of}
use Rattle.int_value.specs.Standing.{Holds, IsRight, Stands}
use Rattle.int_value.specs.declared.value.Value.{Value}
use Rattle.int_value.proofs.Cover.{meet_holds, not_empty, or_left, or_right}
use Rattle.c_rules.specs.Constants.{equals}
use Rattle.c_runs.specs.Truth as runs
use Rattle.c_runs.specs.Truth.{count_up, each_from, from_low, quantified, related, relates, to_high}
use Rattle.abs_cells.specs.Laws.{Relates}
use Rattle.abs_cells.specs.Relations.{opposite_of, relation_said}
use Rattle.abs_cells.proofs.Keeping.{relation_right}
use Rattle.eva_terms.specs.Laws.{Fits}
use Rattle.eva_terms.specs.Truths.{and_truth, by_body, forall_truth, has_some, implies_truth, is_never_empty, last_of, not_truth, or_truth, range_value, related_truth, same_truth, truth_of, unless_unset}
use Rattle.eva_terms.specs.declared.answer.Truth.{Truth}
use Rattle.eva_terms.specs.declared.answer.Truth.TheVariants.{Yes, No, Maybe}

-- ---- connectives

and_no : (x y : Bool) → y ≡ false → (x && y) ≡ false
and_no true y h = h
and_no false y h = refl

or_yes : (x y : Bool) → y ≡ true → (x || y) ≡ true
or_yes true y h = refl
or_yes false y h = h

pub not_fits : (a : Truth) (x : Bool) → Fits a x → Fits (not_truth a) (not x)
not_fits Yes x h = ap not h
not_fits No x h = ap not h
not_fits Maybe x h = tt

pub and_fits : (a b : Truth) (x y : Bool) → Fits a x → Fits b y → Fits (and_truth a b) (x && y)
and_fits Yes b x y h k = subst (λ (v : Bool). Fits b (v && y)) (sym h) k
and_fits No b x y h k = ap (λ (v : Bool). v && y) h
and_fits Maybe Yes x y h k = tt
and_fits Maybe No x y h k = and_no x y k
and_fits Maybe Maybe x y h k = tt

pub or_fits : (a b : Truth) (x y : Bool) → Fits a x → Fits b y → Fits (or_truth a b) (x || y)
or_fits Yes b x y h k = ap (λ (v : Bool). v || y) h
or_fits No b x y h k = subst (λ (v : Bool). Fits b (v || y)) (sym h) k
or_fits Maybe Yes x y h k = or_yes x y k
or_fits Maybe No x y h k = tt
or_fits Maybe Maybe x y h k = tt

pub implies_fits : (a b : Truth) (x y : Bool) → Fits a x → Fits b y → Fits (implies_truth a b) (not x || y)
implies_fits a b x y h k = or_fits (not_truth a) b (not x) y (not_fits a x h) k

pub same_fits : (a b : Truth) (x y : Bool) → Fits a x → Fits b y
    → Fits (same_truth a b) (runs.same_truth x y)
same_fits Yes b x y h k = subst (λ (v : Bool). Fits b (runs.same_truth v y)) (sym h) k
same_fits No b x y h k = subst (λ (v : Bool). Fits (not_truth b) (runs.same_truth v y)) (sym h)
    (not_fits b y k)
same_fits Maybe b x y h k = tt

-- ---- relations

pub true_equals : (x y : ℤ) → equals x y ≡ true → x ≡ y
true_equals x y t = let p = and_parts (int_le x y) (int_le y x) t in let l = p.0 in let h = p.1 in omega
    (arith, ints)

pub equals_true : (x y : ℤ) → x ≡ y → equals x y ≡ true
equals_true x y e = and_from (int_le x y) (int_le y x) (sym (omega (arith, ints)))
    (sym (omega (arith, ints)))

pub false_equals : (x y : ℤ) → equals x y ≡ false → x ≢ y
false_equals x y f e = true≢false (sym (equals_true x y e) ∙ f)

not_is : (b : Bool) → not b ≡ true → b ≡ false
not_is true h = absurd (false≢true h)
not_is false h = refl

not_lacks : (b : Bool) → not b ≡ false → b ≡ true
not_lacks true h = refl
not_lacks false h = absurd (true≢false h)

pub relates_is : (r : Relation) (x y : ℤ) → relates r x y ≡ true → Relates r x y
relates_is R.Less x y h = omega (arith, ints, h)
relates_is R.LessEq x y h = omega (arith, ints, h)
relates_is R.Greater x y h = omega (arith, ints, h)
relates_is R.GreaterEq x y h = omega (arith, ints, h)
relates_is R.Equal x y h = true_equals x y h
relates_is R.NotEqual x y h = false_equals x y (not_is (equals x y) h)

pub relates_not : (r : Relation) (x y : ℤ) → relates r x y ≡ false → Relates (opposite_of r) x y
relates_not R.Less x y h = omega (arith, ints, h)
relates_not R.LessEq x y h = omega (arith, ints, h)
relates_not R.Greater x y h = omega (arith, ints, h)
relates_not R.GreaterEq x y h = omega (arith, ints, h)
relates_not R.Equal x y h = false_equals x y h
relates_not R.NotEqual x y h = true_equals x y (not_lacks (equals x y) h)

opposed : (r : Relation) (x y : ℤ) → Relates r x y → Relates (opposite_of r) x y → ⊥
opposed R.Less x y h k = omega (arith, ints, h, k)
opposed R.LessEq x y h k = omega (arith, ints, h, k)
opposed R.Greater x y h k = omega (arith, ints, h, k)
opposed R.GreaterEq x y h k = omega (arith, ints, h, k)
opposed R.Equal x y h k = k h
opposed R.NotEqual x y h k = h k

pub unset_fits : (u : Bool) (t : Truth) → u ≡ true → Fits (unless_unset u t) false
unset_fits true Yes h = tt
unset_fits false Yes h = absurd (false≢true h)
unset_fits u No h = refl
unset_fits u Maybe h = tt

weakened_fits : (u : Bool) (t : Truth) (b : Bool) → Fits t b → Fits (unless_unset u t) b
weakened_fits true Yes b h = tt
weakened_fits false Yes b h = h
weakened_fits u No b h = h
weakened_fits u Maybe b h = tt

said_fits : (s : Said) (r : Relation) (x y : ℤ) (b : Bool) → relates r x y ≡ b → IsRight s (Relates r x y)
    → Fits (truth_of s) b
said_fits S.Yes r x y true e h = refl
said_fits S.Yes r x y false e h = absurd (opposed r x y h (relates_not r x y e))
said_fits S.No r x y true e h = absurd (h (relates_is r x y e))
said_fits S.No r x y false e h = refl
said_fits S.Maybe r x y b e h = tt
said_fits S.Unreached r x y b e h = absurd h

pub related_fits : (r : Relation) (a b : Value) (x y : Option ℤ) → Stands a x → Stands b y
    → Fits (related_truth r a b) (related r x y)
unfolding related_truth
related_fits r a b None y h k = unset_fits (a.unset || b.unset) (truth_of (relation_said r a b))
    (or_left a.unset b.unset h)
related_fits r a b (Some x) None h k = unset_fits (a.unset || b.unset) (truth_of (relation_said r a b))
    (or_right a.unset b.unset k)
related_fits r a b (Some x) (Some y) h k =
    weakened_fits (a.unset || b.unset) (truth_of (relation_said r a b)) (relates r x y)
    (said_fits (relation_said r a b) r x y (relates r x y) refl (relation_right r a b x y h k))

-- ---- quantifiers

-- a test of each number from a on below b
each_true : (n : ℕ) (a : ℤ) (f : ℤ → Bool) → ((z : ℤ) → a ≤ℤ z → z <ℤ (a +ℤ pos n) → f z ≡ true)
    → each_from a n f ≡ true
each_true zero a f h = refl
each_true (suc n) a f h =
    and_from (f a) (each_from (a +ℤ pos 1) n f) (h a (omega (arith, ints)) (omega (arith, ints)))
    (each_true n (a +ℤ pos 1) f (λ z p q. h z (omega (arith, ints)) (omega (arith, ints))))

between_true : (d a b : ℤ) (f : ℤ → Bool) → d ≡ b -ℤ a → ((z : ℤ) → a ≤ℤ z → z <ℤ b → f z ≡ true)
    → each_from a (count_up d) f ≡ true
between_true (pos n) a b f e h = each_true n a f (λ z p q. h z p (omega (arith, ints)))
between_true (negsuc n) a b f e h = refl

between_false : (d a b : ℤ) (f : ℤ → Bool) → d ≡ b -ℤ a → a <ℤ b → f a ≡ false
    → each_from a (count_up d) f ≡ false
between_false (pos zero) a b f e h k = absurd (omega (arith, ints))
between_false (pos (suc n)) a b f e h k = ap (λ (v : Bool). v && each_from (a +ℤ pos 1) n f) k
between_false (negsuc n) a b f e h k = absurd (omega (arith, ints))

low_from : (strict : Bool) (a : ℤ) → a ≤ℤ from_low strict a
low_from true a = omega (arith, ints)
low_from false a = omega (arith, ints)

low_more : (strict : Bool) (a b : ℤ) → a ≤ℤ b → from_low strict a ≤ℤ from_low strict b
low_more true a b h = omega (arith, ints)
low_more false a b h = h

high_more : (strict : Bool) (a b : ℤ) → a ≤ℤ b → to_high strict a ≤ℤ to_high strict b
high_more true a b h = h
high_more false a b h = omega (arith, ints)

high_last : (strict : Bool) (z b d : ℤ) → z <ℤ to_high strict b → b ≤ℤ d → z ≤ℤ last_of strict d
high_last true z b d h k = omega (arith, ints)
high_last false z b d h k = omega (arith, ints)

in_ends : (low high : Interval) (strict : Bool) (a b z : ℤ) → interval_laws.Holds low a
    → interval_laws.Holds high b
    → a ≤ℤ z → z <ℤ to_high strict b
    → interval_laws.Holds (by_ends (λ p q c d. Within p (last_of strict d)) low high) z
in_ends Empty high strict a b z h k p q = absurd h
in_ends (Within lo hi) Empty strict a b z h k p q = absurd k
in_ends (Within lo hi) (Within c d) strict a b z h k p q =
    let m = h.0 in (omega (arith, ints), high_last strict z b d q k.1)
in_ends (Within lo hi) All strict a b z h k p q = tt
in_ends All Empty strict a b z h k p q = absurd k
in_ends All (Within c d) strict a b z h k p q = tt
in_ends All All strict a b z h k p q = tt

in_range : (low high : Value) (ls hs : Bool) (a b z : ℤ) → Holds low a → Holds high b → from_low ls a ≤ℤ z
    → z <ℤ to_high hs b → Holds (range_value low high hs) z
unfolding range_value
in_range low high ls hs a b z h k p q =
    let l = low_from ls a in
    meet_holds (all_of false) (by_ends (λ p q c d. Within p (last_of hs d)) low.range high.range) z
    (tt, multiple_one (z -ℤ pos 0)) (in_ends low.range high.range hs a b z h.0 k.0 (omega (arith, ints)) q)

some_between : (low high : Interval) (ls hs : Bool) (a b : ℤ) → has_some low ls high hs ≡ true
    → interval_laws.Holds low a
    → interval_laws.Holds high b → from_low ls a <ℤ to_high hs b
some_between Empty high ls hs a b e h k = absurd h
some_between (Within p q) Empty ls hs a b e h k = absurd k
some_between (Within p q) (Within c d) ls hs a b e h k =
    let m = low_more ls a q h.1 in let n = high_more hs c b k.0 in omega (arith, ints, e)
some_between (Within p q) All ls hs a b e h k = absurd (false≢true e)
some_between All high ls hs a b e h k = absurd (false≢true e)

-- where a bound may be undefined it is never said that the range has a number
never_false : (u : Bool) (b : Bool) → u ≡ true → (not u && b) ≡ false
never_false true b h = refl
never_false false b h = absurd (false≢true h)

body_true : (n : Bool) (t : Truth) → n ≡ false → Fits (by_body n t) true
body_true n Yes h = refl
body_true true No h = absurd (true≢false h)
body_true false No h = tt
body_true n Maybe h = tt

undefined_fits : (low high : Value) (ls hs : Bool) (body : Value → Truth) → (low.unset || high.unset) ≡ true
    → Fits (forall_truth low ls high hs body) true
unfolding forall_truth
undefined_fits low high ls hs body h =
    choose (λ (t : Truth). Fits t true) (is_empty (range_value low high hs).range) _ _ (λ _. refl)
    (λ _. body_true (is_never_empty low ls high hs) (body (range_value low high hs))
    (never_false (low.unset || high.unset) (has_some low.range ls high.range hs) h))

module _ (low high : Value) (ls hs : Bool) (a b : ℤ) (f : ℤ
    → Bool) (h : Holds low a) (k : Holds high b) where
  all : Bool
  all = each_from (from_low ls a) (count_up (to_high hs b -ℤ from_low ls a)) f

  empty_true : is_empty (range_value low high hs).range ≡ true → all ≡ true
  unfolding all
  empty_true e = between_true (to_high hs b -ℤ from_low ls a) (from_low ls a) (to_high hs b) f refl
      (λ z p q. absurd (false≢true (sym
      (not_empty (range_value low high hs).range z (in_range low high ls hs a b z h k p q).0) ∙ e)))

  by_body_fits : (n : Bool) (t : Truth) → (n ≡ true → from_low ls a <ℤ to_high hs b)
      → ((z : ℤ) → Holds (range_value low high hs) z → Fits t (f z)) → Fits (by_body n t) all
  unfolding all
  by_body_fits n Yes some body = between_true (to_high hs b -ℤ from_low ls a) (from_low ls a)
      (to_high hs b) f refl
      (λ z p q. body z (in_range low high ls hs a b z h k p q))
  by_body_fits true No some body = between_false (to_high hs b -ℤ from_low ls a) (from_low ls a)
      (to_high hs b) f refl (some refl)
      (body (from_low ls a) (in_range low high ls hs a b (from_low ls a) h k (omega (arith, ints))
      (some refl)))
  by_body_fits false No some body = tt
  by_body_fits n Maybe some body = tt

  defined_fits : (body : Value → Truth) → ((v : Value) (z : ℤ) → Holds v z → Fits (body v) (f z))
      → Fits (forall_truth low ls high hs body) all
  unfolding forall_truth
  defined_fits body right =
      choose (λ (t : Truth). Fits t all) (is_empty (range_value low high hs).range) _ _
      (λ e. empty_true e)
      (λ _. by_body_fits (is_never_empty low ls high hs) (body (range_value low high hs))
      (λ e. some_between low.range high.range ls hs a b
      (and_parts (not (low.unset || high.unset)) (has_some low.range ls high.range hs) e).1 h.0 k.0)
      (λ z inside. right (range_value low high hs) z inside))

pub forall_fits : (low high : Value) (ls hs : Bool) (x y : Option ℤ) (body : Value → Truth) (f : ℤ → Bool)
    → Stands low x
    → Stands high y → ((v : Value) (z : ℤ) → Holds v z → Fits (body v) (f z))
    → Fits (forall_truth low ls high hs body) (quantified x ls y hs f)
unfolding all
forall_fits low high ls hs None y body f h k right = undefined_fits low high ls hs body
    (or_left low.unset high.unset h)
forall_fits low high ls hs (Some a) None body f h k right = undefined_fits low high ls hs body
    (or_right low.unset high.unset k)
forall_fits low high ls hs (Some a) (Some b) body f h k right =
    defined_fits low high ls hs a b f h k body right
