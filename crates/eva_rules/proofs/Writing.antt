-- What is written to cells stands for what is written in runs.
use Rattle.std.proofs.Common.{◌≡◌, ◌∙◌, ◌==◌, ◌+◌, ◌-◌, ◌<◌, ◌≤◌, ⊎_elim, ℕ, zero, suc, ℤ, pos, ◌-ℤ◌, ◌≤ℤ◌, unsigned_abs, int_le, int_lt, Bool, true, false, ◌&&◌, ◌||◌, List, [], ◌∷◌, map, Option, Some, None, slice_get, slice_set, nat_lt, nat_le, refl, sym, ap, subst, arith}
use Rattle.std.specs.Prelude.{if◌then◌else◌}
use Rattle.std.proofs.lemmas.Int.{ints}
use Rattle.std.proofs.lemmas.Bool.{and_parts, and_from, cases_eq, cond_both, eqb-true, eqb-false, false≢true, true≢false, leb-true, le-leb, lt-ltb, ltb-true}
use Rattle.machine_ints.proofs.Congruences.{multiple_one}
use Rattle.int_interval.proofs.Cover.{one_same}
use Rattle.int_interval.specs.Laws as interval_laws
use Rattle.int_interval.specs.Rows.{is_one}
use Rattle.int_interval.specs.declared.interval.Interval.{Interval}
use Rattle.int_interval.specs.declared.interval.Interval.TheVariants.{Empty, Within, All}
use Rattle.int_interval.specs.declared.shape.Shape.{Shape}
use Rattle.int_value.specs.Rows.{all_of, contains_row, join_row}
use Rattle.int_value.specs.Standing.{Stands}
use Rattle.int_value.specs.declared.value.Value.{Value}
use Rattle.int_value.proofs.Cover.{contains_member, join_upper, meet_both}
use Rattle.int_value.proofs.Reduction.{IsPart, meet_part}
use Rattle.c_ir.specs.Keeps.{ty_at}
use Rattle.c_ir.specs.Programs.{Program}
use Rattle.c_ir.specs.declared.tree.CellInfo.{CellInfo}
use Rattle.c_rules.specs.Constants.{converted}
use Rattle.c_runs.specs.Evaluation.{is_index}
use Rattle.c_runs.specs.Parts.{IsOf, Typed}
use Rattle.c_runs.specs.Programs.{start_in, start_cells}
use Rattle.c_runs.specs.Statements as runs
use Rattle.c_runs.specs.Statements.{freed, is_owned_by, set, set_all}
use Rattle.c_runs.specs.Visits.{Cells}
use Rattle.c_runs.proofs.OperatorValues.{converted_is}
use Rattle.abs_cells.specs.Cells.{Env, index_met, value_at}
use Rattle.abs_cells.specs.Laws.{In, StandFor}
use Rattle.abs_cells.proofs.Keeping.{set_stands}
use Rattle.abs_state.specs.Laws.{AreOfShapes, HasUnless, IsOfShape}
use Rattle.abs_state.proofs.Keeping.{whole_stands, widen_keeps}
use Rattle.eva_values.proofs.Marking.{one_stands}
use Rattle.eva_rules.specs.Passing.{Widening, advanced_env, any_env, either_flag, set_flag, whole_env, widened_env}
use Rattle.eva_rules.specs.Writing.{any_of, each_freed, each_joined, each_set, element_set, elements_set, freed_cells, joined_if, receive, set_cell, set_cells, shape_in, shapes_of, start_env, start_of, start_value, unset, write_element, written}

-- ---- one cell

-- nothing is known
unknown_stands : (o : Option ℤ) → Stands (all_of true) o
unknown_stands None = refl
unknown_stands (Some z) = (tt, multiple_one (z -ℤ pos 0))

here : (cells : List Value) (x : ℕ) (v : Value) (o : Option ℤ) → Stands v o
    → Stands (value_at (slice_set cells x v) x) o
here [] x v o h = unknown_stands o
here (w ∷ ws) zero v o h = h
here (w ∷ ws) (suc x) v o h = here ws x v o h

elsewhere : (cells : List Value) (x y : ℕ) (v : Value) → (x ≡ y → ⊥)
    → value_at (slice_set cells x v) y ≡ value_at cells y
elsewhere [] x y v n = refl
elsewhere (w ∷ ws) zero zero v n = absurd (n refl)
elsewhere (w ∷ ws) zero (suc y) v n = refl
elsewhere (w ∷ ws) (suc x) zero v n = refl
elsewhere (w ∷ ws) (suc x) (suc y) v n = elsewhere ws x y v (λ e. n (ap suc e))

pub set_stand : (cells : List Value) (x : ℕ) (v : Value) (o : Option ℤ) (c : Cells) → StandFor cells c → Stands v o
    → StandFor (slice_set cells x v) (set x o c)
set_stand cells x v o c all h y =
    cond_both (x == y) o (c y) (Stands (value_at (slice_set cells x v) y))
    (λ same. subst (λ (n : ℕ). Stands (value_at (slice_set cells x v) n) o) (eqb-true x y same) (here cells x v o h))
    (λ apart. subst (λ (w : Value). Stands w (c y)) (sym (elsewhere cells x y v (eqb-false x y apart))) (all y))

pub set_in : (x : ℕ) (v : Value) (o : Option ℤ) (e : Env) (c : Cells) → Stands v o → In e c
    → In (set_cell x v e) (set x o c)
set_in x v o None c h all = absurd all
set_in x v o (Some cells) c h all = set_stand cells x v o c all h

-- ---- several cells

each_out : (n x : ℕ) (v : Value) (cells : List Value) (y : ℕ) → (x ≤ y → y < x + n → ⊥)
    → value_at (each_set x n v cells) y ≡ value_at cells y
each_out zero x v cells y out = refl
each_out (suc n) x v cells y out =
    each_out n (x + 1) v (slice_set cells x v) y (λ low high. out (omega arith) (omega arith))
    ∙ elsewhere cells x y v (λ e. out (omega arith) (omega arith))

each_in : (n x : ℕ) (v : Value) (cells : List Value) (y : ℕ) (o : Option ℤ) → x ≤ y → y < x + n → Stands v o
    → Stands (value_at (each_set x n v cells) y) o
each_in zero x v cells y o low high h = absurd (omega arith)
each_in (suc n) x v cells y o low high h =
    ⊎_elim
    (λ (same : x ≡ y).
    let kept = each_out n (x + 1) v (slice_set cells x v) y (λ l k. omega arith) in
    subst (λ (w : Value). Stands w o) (sym kept)
    (subst (λ (m : ℕ). Stands (value_at (slice_set cells x v) m) o) same (here cells x v o h)))
    (λ (apart : x ≡ y → ⊥). each_in n (x + 1) v (slice_set cells x v) y o (past x y low apart) (omega arith) h)
    (cases_eq x y)
  where
    past : (x y : ℕ) → x ≤ y → (x ≡ y → ⊥) → x + 1 ≤ y
    past x y low apart = grind arith

set_all_stand : (first n : ℕ) (v : Value) (o : Option ℤ) (cells : List Value) (c : Cells) → StandFor cells c
    → Stands v o → StandFor (each_set first n v cells) (set_all first n o c)
set_all_stand first n v o cells c all h y =
    cond_both (nat_le first y && nat_lt y (first + n)) o (c y) (Stands (value_at (each_set first n v cells) y))
    (λ is.
    let parts = and_parts (nat_le first y) (nat_lt y (first + n)) is in
    each_in n first v cells y o (leb-true first y parts.0) (ltb-true y (first + n) parts.1) h)
    (λ out.
    subst (λ (w : Value). Stands w (c y))
    (sym (each_out n first v cells y (λ low high. true≢false (sym (both first y n low high) ∙ out)))) (all y))
  where
    both : (first y n : ℕ) → first ≤ y → y < first + n → (nat_le first y && nat_lt y (first + n)) ≡ true
    both first y n low high =
        and_from (nat_le first y) (nat_lt y (first + n)) (le-leb first y low) (lt-ltb y (first + n) high)

pub set_all_in : (first n : ℕ) (v : Value) (o : Option ℤ) (e : Env) (c : Cells) → Stands v o → In e c
    → In (set_cells first n v e) (set_all first n o c)
set_all_in first n v o None c h all = absurd all
set_all_in first n v o (Some cells) c h all = set_all_stand first n v o cells c all h

-- ---- elements

module _ (first : ℕ) (index v : Value) where
  added_keeps : (b : Bool) (x : ℕ) (cells : List Value) (c : Cells) → StandFor cells c
      → StandFor (joined_if b x v cells) c
  added_keeps true x cells c all =
      set_stands cells c x (join_row (value_at cells x) v) all ((join_upper (value_at cells x) v (c x)).0 (all x))
  added_keeps false x cells c all = all

  rest_keeps : (n k : ℕ) (cells : List Value) (c : Cells) → StandFor cells c
      → StandFor (each_joined first index v k n cells) c
  rest_keeps zero k cells c all = all
  rest_keeps (suc n) k cells c all =
      rest_keeps n (k + 1) (joined_if (contains_row index (pos k)) (first + k) v cells) c
      (added_keeps (contains_row index (pos k)) (first + k) cells c all)

  added_here : (b : Bool) (x : ℕ) (o : Option ℤ) (cells : List Value) (c : Cells) → b ≡ true → Stands v o
      → StandFor cells c → StandFor (joined_if b x v cells) (set x o c)
  added_here true x o cells c is h all =
      set_stand cells x (join_row (value_at cells x) v) o c all ((join_upper (value_at cells x) v o).1 h)
  added_here false x o cells c is h all = absurd (false≢true is)

  -- the element that is written is among those that are joined
  element_joined : (n k j : ℕ) (o : Option ℤ) (cells : List Value) (c : Cells) → k ≤ j → j < k + n
      → contains_row index (pos j) ≡ true → Stands v o → StandFor cells c
      → StandFor (each_joined first index v k n cells) (set (first + j) o c)
  element_joined zero k j o cells c low high is h all = absurd (omega arith)
  element_joined (suc n) k j o cells c low high is h all =
      ⊎_elim
      (λ (same : k ≡ j).
      subst (λ (m : ℕ). StandFor (each_joined first index v k (suc n) cells) (set (first + m) o c)) same
      (rest_keeps n (k + 1) (joined_if (contains_row index (pos k)) (first + k) v cells) (set (first + k) o c)
      (added_here (contains_row index (pos k)) (first + k) o cells c
      (subst (λ (m : ℕ). contains_row index (pos m) ≡ true) (sym same) is) h all)))
      (λ (apart : k ≡ j → ⊥).
      element_joined n (k + 1) j o (joined_if (contains_row index (pos k)) (first + k) v cells) c
      (past k j low apart) (omega arith) is h (added_keeps (contains_row index (pos k)) (first + k) cells c all))
      (cases_eq k j)
    where
      past : (k j : ℕ) → k ≤ j → (k ≡ j → ⊥) → k + 1 ≤ j
      past k j low apart = grind arith

-- one number of an index names one element
single_in : (first : ℕ) (index v : Value) (lo hi k : ℤ) (o : Option ℤ) (cells : List Value) (c : Cells)
    → pos 0 ≤ℤ lo → lo ≤ℤ k → k ≤ℤ hi → contains_row index k ≡ true → Stands v o → StandFor cells c
    → (b : Bool) → is_one lo hi ≡ b
    → StandFor (element_set first index v lo hi (if b then Some lo else None) cells) (set (first + unsigned_abs k) o c)
single_in first index v lo hi k o cells c low from to is h all true one =
    subst (λ (m : ℤ). StandFor (slice_set cells (first + unsigned_abs lo) v) (set (first + unsigned_abs m) o c))
    (sym (one_same lo hi k one from to)) (set_stand cells (first + unsigned_abs lo) v o c all h)
single_in first index v lo hi k o cells c low from to is h all false one =
    let natural : pos (unsigned_abs k) ≡ k = omega (arith, ints) in
    element_joined first index v (suc (unsigned_abs hi) - unsigned_abs lo) (unsigned_abs lo) (unsigned_abs k) o cells c
    (omega (arith, ints)) (omega (arith, ints))
    (subst (λ (m : ℤ). contains_row index m ≡ true) (sym natural) is) h all

element_stand : (first n : ℕ) (index v : Value) (k : ℤ) (o : Option ℤ) (cells : List Value) (c : Cells)
    → Stands index (Some k) → is_index n k ≡ true → Stands v o → StandFor cells c
    → StandFor (elements_set first n (index_met n index) v (index_met n index).range cells)
    (set (first + unsigned_abs k) o c)
element_stand first n index v k o cells c at below h all =
    by_range (index_met n index) (index_met n index).range refl (meet_part index (pos 0) (pos n -ℤ pos 1)) met
  where
    ends : interval_laws.Holds (Within (pos 0) (pos n -ℤ pos 1)) k
    ends = let p = and_parts (int_le (pos 0) k) (int_lt k (pos n)) below in let a = p.0 in let b = p.1 in
        (omega (arith, ints), omega (arith, ints))

    met : Stands (index_met n index) (Some k)
    met = (meet_both index (Within (pos 0) (pos n -ℤ pos 1)) (Some k)).1 (at, ends)

    by_range : (m : Value) (r : Interval) → m.range ≡ r → IsPart (pos 0) (pos n -ℤ pos 1) m.range m.congr
        → Stands m (Some k) → StandFor (elements_set first n m v r cells) (set (first + unsigned_abs k) o c)
    by_range m Empty e p s = absurd (subst (λ (r : Interval). interval_laws.Holds r k) e s.0)
    by_range m (Within lo hi) e p s =
        let part = subst (λ (r : Interval). IsPart (pos 0) (pos n -ℤ pos 1) r m.congr) e p in
        let inside = subst (λ (r : Interval). interval_laws.Holds r k) e s.0 in
        let member = (contains_member m k).1 s in
        single_in first m v lo hi k o cells c part.0 inside.0 inside.1 member h all (is_one lo hi) refl
    by_range m All e p s = absurd (subst (λ (r : Interval). IsPart (pos 0) (pos n -ℤ pos 1) r m.congr) e p)

pub element_in : (first n : ℕ) (index v : Value) (k : ℤ) (o : Option ℤ) (e : Env) (c : Cells) → Stands index (Some k)
    → is_index n k ≡ true → Stands v o → In e c
    → In (write_element first n (index_met n index) v e) (set (first + unsigned_abs k) o c)
element_in first n index v k o None c at below h all = absurd all
element_in first n index v k o (Some cells) c at below h all = element_stand first n index v k o cells c at below h all

-- ---- functions

freed_at : (g : ℕ) (infos : List CellInfo) (vs : List Value) (y : ℕ) (o : Option ℤ) → Stands (value_at vs y) o
    → Stands (value_at (each_freed g infos vs) y) (if is_owned_by g (slice_get infos y) then None else o)
freed_at g [] vs y o h = h
freed_at g (i ∷ is) [] y o h = unknown_stands _
freed_at g (i ∷ is) (v ∷ vs) zero o h = by_owner (is_owned_by g (Some i))
  where
    by_owner : (b : Bool) → Stands (if b then unset else v) (if b then None else o)
    by_owner true = refl
    by_owner false = h
freed_at g (i ∷ is) (v ∷ vs) (suc y) o h = freed_at g is vs y o h

pub freed_in : (p : Program) (g : ℕ) (e : Env) (c : Cells) → In e c → In (freed_cells p g e) (freed p g c)
freed_in p g None c all = absurd all
freed_in p g (Some cells) c all = λ y. freed_at g p.cells cells y (c y) (all y)

-- the values of arguments stand for the arguments
abbrev pub AllStand : List Value → List ℤ → Type 0
AllStand [] [] = Unit {0}
AllStand [] (z ∷ zs) = ⊥
AllStand (v ∷ vs) [] = ⊥
AllStand (v ∷ vs) (z ∷ zs) = Stands v (Some z) × AllStand vs zs

pub written_in : (xs : List ℕ) (vs : List Value) (zs : List ℤ) (e : Env) (c : Cells) → AllStand vs zs → In e c
    → In (written xs vs e) (runs.written xs zs c)
written_in [] vs zs e c h all = all
written_in (x ∷ xs) [] [] e c h all = all
written_in (x ∷ xs) [] (z ∷ zs) e c h all = absurd h
written_in (x ∷ xs) (v ∷ vs) [] e c h all = absurd h
written_in (x ∷ xs) (v ∷ vs) (z ∷ zs) e c h all =
    written_in xs vs zs (set_cell x v e) (set x (Some z) c) h.1 (set_in x v (Some z) e c h.0 all)

-- ---- numbers that the program doesn't say

any_stands : (p : Program) (x : ℕ) (z : ℤ) → IsOf (ty_at p.cells x) z → Stands (any_of p x) (Some z)
any_stands p x z of = (of, multiple_one (z -ℤ pos 0))

pub receive_in : (p : Program) (x : ℕ) (z : ℤ) (e : Env) (c : Cells) → In e c
    → In (receive p x e) (set x (Some (converted (ty_at p.cells x) z)) c)
receive_in p x z e c all =
    set_in x (any_of p x) (Some (converted (ty_at p.cells x) z)) e c
    (any_stands p x (converted (ty_at p.cells x) z) (converted_is (ty_at p.cells x) z)) all

-- ---- the start

start_stands : (o : Option ℤ) → Stands (start_value o) o
start_stands None = refl
start_stands (Some z) = one_stands z

start_at : (infos : List CellInfo) (x : ℕ) → Stands (value_at (map start_of infos) x) (start_in (slice_get infos x))
start_at [] x = unknown_stands (start_in (slice_get {X = CellInfo} [] x))
start_at (i ∷ is) zero = start_stands i.start
start_at (i ∷ is) (suc x) = start_at is x

pub start_stand : (p : Program) → In (start_env p) (start_cells p)
start_stand p = λ x. start_at p.cells x

-- ---- all types

of_shape : (infos : List CellInfo) (x : ℕ) (o : Option ℤ)
    → ((info : CellInfo) (z : ℤ) → slice_get infos x ≡ Some info → o ≡ Some z → IsOf info.ty z)
    → IsOfShape (slice_get (map shape_in infos) x) o
of_shape [] x o h = tt
of_shape (i ∷ is) zero None h = tt
of_shape (i ∷ is) zero (Some z) h = h i z refl refl
of_shape (i ∷ is) (suc x) o h = of_shape is x o h

-- types of cells stand for cells with numbers of these types
are_of_shapes : (p : Program) (c : Cells) (shapes : List Shape) → shapes ≡ shapes_of p → Typed p c
    → AreOfShapes shapes c
are_of_shapes p c shapes same typed x =
    subst (λ (ss : List Shape). IsOfShape (slice_get ss x) (c x)) (sym same)
    (of_shape p.cells x (c x) (λ info z at has. typed x info z at has))

or_there : (a b : Bool) → b ≡ true → (a || b) ≡ true
or_there true b is = refl
or_there false b is = is

unless_set : (flags : List Bool) (cells : List Value) (x : ℕ) (o : Option ℤ) → Stands (value_at cells x) o
    → HasUnless (slice_get (either_flag flags cells) x) o
unless_set flags cells x (Some z) h = tt
unless_set [] cells x None h = tt
unless_set (f ∷ fs) [] x None h = tt
unless_set (f ∷ fs) (v ∷ vs) zero None h = or_there f v.unset h
unless_set (f ∷ fs) (v ∷ vs) (suc x) None h = unless_set fs vs x None h

pub whole_in : (p : Program) (w : Widening) (e : Env) (c : Cells) → w.shapes ≡ shapes_of p → Typed p c → In e c
    → In (whole_env w e) c
whole_in p w None c same typed all = absurd all
whole_in p w (Some cells) c same typed all =
    whole_stands w.shapes (either_flag w.flags cells) c (are_of_shapes p c w.shapes same typed)
    (λ x. unless_set w.flags cells x (c x) (all x))

unless_any : (shapes : List Shape) (x : ℕ) (o : Option ℤ) → HasUnless (slice_get (map set_flag shapes) x) o
unless_any shapes x (Some z) = tt
unless_any [] x None = tt
unless_any (s ∷ shapes) zero None = refl
unless_any (s ∷ shapes) (suc x) None = unless_any shapes x None

pub any_in : (p : Program) (w : Widening) (c : Cells) → w.shapes ≡ shapes_of p → Typed p c → In (any_env w) c
any_in p w c same typed =
    whole_stands w.shapes (map set_flag w.shapes) c (are_of_shapes p c w.shapes same typed)
    (λ x. unless_any w.shapes x (c x))

-- ---- the next turn of a loop

widened_in : (p : Program) (w : Widening) (turn : ℕ) (old next : Env) (c : Cells) → w.shapes ≡ shapes_of p
    → Typed p c → In next c → In (widened_env w turn old next) c
widened_in p w turn None next c same typed all = all
widened_in p w turn (Some old) None c same typed all = absurd all
widened_in p w turn (Some old) (Some next) c same typed all =
    (widen_keeps turn w.thresholds w.shapes old next c (are_of_shapes p c w.shapes same typed)).1 all

pub advanced_in : (p : Program) (w : Widening) (turn : ℕ) (old next : Env) (c : Cells) → w.shapes ≡ shapes_of p
    → Typed p c → In next c → In (advanced_env w turn old next) c
advanced_in p w turn old next c same typed all =
    cond_both (nat_le turn 3) next (widened_env w turn old next) (λ (e : Env). In e c)
    (λ _. all) (λ _. widened_in p w turn old next c same typed all)
