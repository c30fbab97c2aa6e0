-- Joins, inclusion, elements and relations keep what cells stand for.
use Rattle.std.proofs.Common.{◌≡◌, ◌≢◌, ◌<◌, ◌≤◌, ◌+◌, ◌-◌, ℕ, zero, suc, ℤ, pos, ◌+ℤ◌, ◌-ℤ◌, ◌≤ℤ◌, ◌<ℤ◌, unsigned_abs, int_le, IsTrue, Bool, true, false, cond, ◌&&◌, ◌⊎◌, List, [], ◌∷◌, Option, Some, None, slice_get, slice_set, refl, sym, ap, subst, ◌∙◌, arith, inl, inr, ⊎_elim}
use Rattle.std.proofs.lemmas.Int.{ints}
use Rattle.std.proofs.lemmas.Bool.{and_parts, false≢true}
use Rattle.std.proofs.lemmas.Option.{same_Some}
use Rattle.machine_ints.proofs.Choices.{choose}
use Rattle.machine_ints.proofs.Congruences.{multiple_one}
use Rattle.fc_base.specs.declared.relation.Relation.{Relation}
use Rattle.fc_base.specs.declared.relation.Relation.TheVariants as R
use Rattle.int_interval.proofs.Cover.{one_same}
use Rattle.int_interval.specs.Laws as interval_laws
use Rattle.int_interval.specs.Rows.{is_empty, is_one}
use Rattle.int_interval.specs.declared.interval.Interval.{Interval}
use Rattle.int_interval.specs.declared.interval.Interval.TheVariants.{Empty, Within, All}
use Rattle.int_interval.specs.declared.said.Said.{Said}
use Rattle.int_interval.specs.declared.said.Said.TheVariants.{Yes, No, Maybe, Unreached}
use Rattle.int_value.specs.Laws.{IsIn}
use Rattle.int_value.specs.Rows.{all_of, contains_row, empty_of, included_row, join_row, meet_row}
use Rattle.int_value.specs.Standing.{Holds, IsRight, Stands}
use Rattle.int_value.specs.declared.value.Value.{Value}
use Rattle.int_value.proofs.Cover.{contains_member, included_subset, join_upper, meet_both, meet_holds, not_empty, relations_right}
use Rattle.int_value.proofs.Reduction.{IsPart, meet_part}
use Rattle.abs_cells.specs.Cells.{Env, element_value, elements_from, elements_in, included_env, index_met, is_included, join_env, joined, value_at}
use Rattle.abs_cells.specs.Laws.{Contents, ElementStands, In, IncludedKeeps, JoinKeeps, Names, NarrowKeeps, RelationIsRight, Relates, StandFor}
use Rattle.abs_cells.specs.Relations.{high_but, left, left_by, left_of_all, low_but, mirror_of, narrow_both, narrow_cell, narrow_named, narrowed_row, on_env, relation_said, turned, with_value}
use Rattle.abs_cells.specs.declared.narrowing.Side.{Side}

-- ---- joins and inclusion

-- nothing is known
unknown_stands : (o : Option ℤ) → Stands (all_of true) o
unknown_stands None = refl
unknown_stands (Some z) = (tt, multiple_one (z -ℤ pos 0))

join_left : (vs ws : List Value) (x : ℕ) (o : Option ℤ) → Stands (value_at vs x) o → Stands (value_at (joined vs ws) x) o
join_left [] ws x o h = unknown_stands o
join_left (v ∷ vs) [] x o h = unknown_stands o
join_left (v ∷ vs) (w ∷ ws) zero o h = (join_upper v w o).0 h
join_left (v ∷ vs) (w ∷ ws) (suc x) o h = join_left vs ws x o h

join_right : (vs ws : List Value) (x : ℕ) (o : Option ℤ) → Stands (value_at ws x) o → Stands (value_at (joined vs ws) x) o
join_right [] ws x o h = unknown_stands o
join_right (v ∷ vs) [] x o h = unknown_stands o
join_right (v ∷ vs) (w ∷ ws) zero o h = (join_upper v w o).1 h
join_right (v ∷ vs) (w ∷ ws) (suc x) o h = join_right vs ws x o h

pub join_keeps : JoinKeeps
join_keeps None b c = (λ h. absurd h, λ h. h)
join_keeps (Some vs) None c = (λ h. h, λ h. absurd h)
join_keeps (Some vs) (Some ws) c = (λ h x. join_left vs ws x (c x) (h x), λ h x. join_right vs ws x (c x) (h x))

included_at : (vs ws : List Value) (x : ℕ) (o : Option ℤ) → is_included vs ws ≡ true → Stands (value_at vs x) o
    → Stands (value_at ws x) o
included_at vs [] x o e h = unknown_stands o
included_at [] (w ∷ ws) x o e h = absurd (false≢true e)
included_at (v ∷ vs) (w ∷ ws) zero o e h = included_subset v w o (and_parts (included_row v w) (is_included vs ws) e).0 h
included_at (v ∷ vs) (w ∷ ws) (suc x) o e h =
    included_at vs ws x o (and_parts (included_row v w) (is_included vs ws) e).1 h

pub included_keeps : IncludedKeeps
included_keeps None b c e h = absurd h
included_keeps (Some vs) None c e h = absurd (false≢true e)
included_keeps (Some vs) (Some ws) c e h = λ x. included_at vs ws x (c x) e (h x)

-- ---- elements

module _ (cells : List Value) (first : ℕ) (index : Value) (o : Option ℤ) where
  added : ℕ → Value → Value
  added k v = cond (contains_row index (pos k)) (join_row v (value_at cells (first + k))) v

  added_keeps : (k : ℕ) (v : Value) → Stands v o → Stands (added k v) o
  unfolding added
  added_keeps k v h = choose (λ (w : Value). Stands w o) (contains_row index (pos k)) _ _
      (λ _. (join_upper v (value_at cells (first + k)) o).0 h) (λ _. h)

  rest_keeps : (m k : ℕ) (v : Value) → Stands v o → Stands (elements_from cells first index v k m) o
  unfolding added
  rest_keeps zero k v h = h
  rest_keeps (suc m) k v h = rest_keeps m (k + 1) (added k v) (added_keeps k v h)

  element_found : (m k j : ℕ) (v : Value) → k ≤ j → j < k + m → contains_row index (pos j) ≡ true
      → Stands (value_at cells (first + j)) o → Stands (elements_from cells first index v k m) o
  unfolding added
  element_found zero k j v low high is h = absurd (omega arith)
  element_found (suc m) k j v low high is h = by_place (int_le (pos j) (pos k)) refl (element_found m (k + 1) j (added k v))
    where
      by_place : (b : Bool) → int_le (pos j) (pos k) ≡ b
          → (k + 1 ≤ j → j < (k + 1) + m → contains_row index (pos j) ≡ true → Stands (value_at cells (first + j)) o
          → Stands (elements_from cells first index (added k v) (k + 1) m) o)
          → Stands (elements_from cells first index (added k v) (k + 1) m) o
      by_place true e later = let same : k ≡ j = omega (arith, ints) in
          rest_keeps m (k + 1) (added k v) (choose (λ (w : Value). Stands w o) (contains_row index (pos k)) _ _
          (λ _. (join_upper v (value_at cells (first + k)) o).1 (subst (λ (n : ℕ). Stands (value_at cells (first + n)) o) (sym same) h))
          (λ n. absurd (false≢true (sym n ∙ subst (λ (n : ℕ). contains_row index (pos n) ≡ true) (sym same) is))))
      by_place false e later = later (omega (arith, ints)) (omega (arith, ints)) is h

pub element_stands : ElementStands
unfolding element_value
element_stands cells first n index c k all at below =
    by_range (index_met n index) (index_met n index).range refl (meet_part index (pos 0) (pos n -ℤ pos 1)) met
  where
    met : Stands (index_met n index) (Some (pos k))
    met = (meet_both index (Within (pos 0) (pos n -ℤ pos 1)) (Some (pos k))).1 (at, (omega (arith, ints), omega (arith, ints)))

    by_range : (v : Value) (r : Interval) → v.range ≡ r → IsPart (pos 0) (pos n -ℤ pos 1) v.range v.congr
        → Stands v (Some (pos k)) → Stands (elements_in cells first v r) (c (first + k))
    by_range v Empty e p h = absurd (subst (λ (r : Interval). interval_laws.Holds r (pos k)) e h.0)
    by_range v (Within lo hi) e p h =
        let part = subst (λ (r : Interval). IsPart (pos 0) (pos n -ℤ pos 1) r v.congr) e p in
        let ends = subst (λ (r : Interval). interval_laws.Holds r (pos k)) e h.0 in
        let a = part.0 in let b = ends.0 in let d = ends.1 in
        element_found cells first v (c (first + k)) (suc (unsigned_abs hi) - unsigned_abs lo) (unsigned_abs lo) k (empty_of false)
        (omega (arith, ints)) (omega (arith, ints)) ((contains_member v (pos k)).1 h) (all (first + k))
    by_range v All e p h = unknown_stands (c (first + k))

-- ---- relations

turned_right : (s : Said) (P : Type 0) → IsRight s P → IsRight (turned s) (¬ P)
turned_right Yes P h = λ n. n h
turned_right No P h = h
turned_right Maybe P h = tt
turned_right Unreached P h = h

pub relation_right : RelationIsRight
unfolding relation_said
relation_right R.Less a b x y h k = (relations_right a b x y h k).0
relation_right R.LessEq a b x y h k = (relations_right a b x y h k).1
relation_right R.Greater a b x y h k = (relations_right b a y x k h).0
relation_right R.GreaterEq a b x y h k = (relations_right b a y x k h).1
relation_right R.Equal a b x y h k = (relations_right a b x y h k).2
relation_right R.NotEqual a b x y h k = turned_right _ (x ≡ y) (relations_right a b x y h k).2

-- ---- narrowing

mirrored : (r : Relation) (x y : ℤ) → Relates r x y → Relates (mirror_of r) y x
mirrored R.Less x y h = h
mirrored R.LessEq x y h = h
mirrored R.Greater x y h = h
mirrored R.GreaterEq x y h = h
mirrored R.Equal x y h = sym h
mirrored R.NotEqual x y h = λ e. h (sym e)

-- a number that isn't n is past an end that is n
low_past : (a n x : ℤ) → a ≤ℤ x → x ≢ n → low_but a n ≤ℤ x
low_past a n x h apart = choose (λ (l : ℤ). l ≤ℤ x) (is_one a n) _ _
    (λ e. let t = and_parts (int_le a n) (int_le n a) e in past t.0 t.1 (int_le x a) refl)
    (λ _. h)
  where
    past : int_le a n ≡ true → int_le n a ≡ true → (b : Bool) → int_le x a ≡ b → (a +ℤ pos 1) ≤ℤ x
    past p q true e = let same : x ≡ n = omega (arith, ints) in absurd (apart same)
    past p q false e = omega (arith, ints)

high_past : (b n x : ℤ) → x ≤ℤ b → x ≢ n → x ≤ℤ high_but b n
high_past b n x h apart = choose (λ (l : ℤ). x ≤ℤ l) (is_one b n) _ _
    (λ e. let t = and_parts (int_le b n) (int_le n b) e in past t.0 t.1 (int_le b x) refl)
    (λ _. h)
  where
    past : int_le b n ≡ true → int_le n b ≡ true → (t : Bool) → int_le b x ≡ t → x ≤ℤ (b -ℤ pos 1)
    past p q true e = let same : x ≡ n = omega (arith, ints) in absurd (apart same)
    past p q false e = omega (arith, ints)

left_ends : (r : Relation) (a b c d x y : ℤ) → Relates r x y → a ≤ℤ x → x ≤ℤ b → c ≤ℤ y → y ≤ℤ d
    → interval_laws.Holds (left_by r a b c d) x
left_ends R.Less a b c d x y h p q s t = (p, omega (arith, ints))
left_ends R.LessEq a b c d x y h p q s t = (p, omega (arith, ints))
left_ends R.Greater a b c d x y h p q s t = (omega (arith, ints), q)
left_ends R.GreaterEq a b c d x y h p q s t = (omega (arith, ints), q)
left_ends R.Equal a b c d x y h p q s t = (omega (arith, ints), omega (arith, ints))
left_ends R.NotEqual a b c d x y h p q s t = choose (λ (i : Interval). interval_laws.Holds i x) (is_one c d) _ _
    (λ one. let apart : x ≢ c = λ e. h (e ∙ sym (one_same c d y one s t)) in (low_past a c x p apart, high_past b c x q apart))
    (λ _. (p, q))

left_all : (r : Relation) (c d x y : ℤ) → Relates r x y → c ≤ℤ y → y ≤ℤ d → interval_laws.Holds (left_of_all r c d) x
left_all R.Less c d x y h s t = tt
left_all R.LessEq c d x y h s t = tt
left_all R.Greater c d x y h s t = tt
left_all R.GreaterEq c d x y h s t = tt
left_all R.Equal c d x y h s t = (omega (arith, ints), omega (arith, ints))
left_all R.NotEqual c d x y h s t = tt

left_holds : (r : Relation) (own other : Interval) (x y : ℤ) → Relates r x y → interval_laws.Holds own x
    → interval_laws.Holds other y → interval_laws.Holds (left r own other) x
left_holds r Empty other x y h p q = absurd p
left_holds r (Within a b) Empty x y h p q = absurd q
left_holds r (Within a b) (Within c d) x y h p q = left_ends r a b c d x y h p.0 p.1 q.0 q.1
left_holds r (Within a b) All x y h p q = tt
left_holds r All Empty x y h p q = absurd q
left_holds r All (Within c d) x y h p q = left_all r c d x y h q.0 q.1
left_holds r All All x y h p q = tt

-- a cell's value after another was set
set_at : (cells : List Value) (x y : ℕ) (v : Value)
    → (value_at (slice_set cells x v) y ≡ value_at cells y) ⊎ ((y ≡ x) × (value_at (slice_set cells x v) y ≡ v))
set_at [] x y v = inl refl
set_at (w ∷ ws) zero zero v = inr (refl, refl)
set_at (w ∷ ws) zero (suc y) v = inl refl
set_at (w ∷ ws) (suc x) zero v = inl refl
set_at (w ∷ ws) (suc x) (suc y) v =
    ⊎_elim inl (λ (p : (y ≡ x) × (value_at (slice_set ws x v) y ≡ v)). inr (ap suc p.0, p.1)) (set_at ws x y v)

pub set_stands : (cells : List Value) (c : Contents) (x : ℕ) (v : Value) → StandFor cells c → Stands v (c x)
    → StandFor (slice_set cells x v) c
set_stands cells c x v all at y = by_place (set_at cells x y v)
  where
    by_place : (value_at (slice_set cells x v) y ≡ value_at cells y) ⊎ ((y ≡ x) × (value_at (slice_set cells x v) y ≡ v))
        → Stands (value_at (slice_set cells x v) y) (c y)
    by_place (inl same) = subst (λ (w : Value). Stands w (c y)) (sym same) (all y)
    by_place (inr p) = subst (λ (w : Value). Stands w (c y)) (sym p.1) (subst (λ (n : ℕ). Stands v (c n)) (sym p.0) at)

with_value_keeps : (cells : List Value) (c : Contents) (x : ℕ) (v : Value) (z : ℤ) → StandFor cells c → c x ≡ Some z
    → Stands v (Some z) → In (with_value cells x v) c
with_value_keeps cells c x v z all is at = choose (λ (e : Env). In e c) (is_empty v.range) _ _
    (λ e. absurd (false≢true (sym (not_empty v.range z at.0) ∙ e)))
    (λ _. set_stands cells c x v all (subst (Stands v) (sym is) at))

named_keeps : (r : Relation) (named : Option ℕ) (other : Value) (x y : ℤ) (cells : List Value) (c : Contents)
    → Relates r x y → Names named c x → Stands other (Some y) → StandFor cells c → In (narrow_named r named other cells) c
unfolding narrowed_row
named_keeps r None other x y cells c h names at all = all
named_keeps r (Some n) other x y cells c h is at all =
    let own = subst (Stands (value_at cells n)) is (all n) in
    with_value_keeps cells c n (narrowed_row r (value_at cells n) other) x all is
    (meet_holds (value_at cells n) (left r (value_at cells n).range other.range) x own
    (left_holds r (value_at cells n).range other.range x y h own.0 at.0))

on_env_keeps : (f : List Value → Env) (e : Env) (c : Contents) → ((cells : List Value) → StandFor cells c → In (f cells) c)
    → In e c → In (on_env f e) c
on_env_keeps f None c keeps h = absurd h
on_env_keeps f (Some cells) c keeps h = keeps cells h

pub narrow_keeps : NarrowKeeps
unfolding narrow_both
narrow_keeps r a b x y cells c h p q named_a named_b all =
    on_env_keeps (narrow_named (mirror_of r) b.cell a.value) (narrow_named r a.cell b.value cells) c
    (λ more s. named_keeps (mirror_of r) b.cell a.value y x more c (mirrored r x y h) named_b p s)
    (named_keeps r a.cell b.value x y cells c h named_a q all)
