-- The values of terms stand for what terms have.
use Rattle.std.proofs.Common.{◌≡◌, ◌≢◌, ℕ, ℤ, pos, neg_ℤ, ◌+ℤ◌, ◌-ℤ◌, ◌*ℤ◌, int_div, int_rem, ◌≤ℤ◌, ◌+◌, int_le, int_lt, negsuc, unsigned_abs, Bool, true, false, cond, not, ◌||◌, List, Option, Some, None, refl, sym, ap, subst, ◌∙◌, arith}
use Rattle.std.proofs.lemmas.Int.{ints}
use Rattle.std.proofs.lemmas.Bool.{and_parts, and_from, false≢true, true≢false}
use Rattle.std.specs.Option.{option_and_then, option_map}
use Rattle.machine_ints.proofs.Choices.{choose}
use Rattle.fc_base.specs.declared.syntax.NoteOp.{NoteOp}
use Rattle.fc_base.specs.declared.syntax.NoteOp.TheVariants as O
use Rattle.int_interval.specs.declared.said.Said.{Said}
use Rattle.int_interval.specs.declared.said.Said.TheVariants as S
use Rattle.int_value.specs.Checks.{divisor_said, within_said}
use Rattle.int_value.specs.Laws.{CoversDivision, CoversTerm}
use Rattle.int_value.specs.Rows.{difference_row, empty_of, negation_row, product_row, quotient_row, remainder_row, sum_row}
use Rattle.int_value.specs.Standing.{Holds, IsRight, Stands}
use Rattle.int_value.specs.declared.value.Value.{Value}
use Rattle.int_value.proofs.Checked.{divisor_right}
use Rattle.int_value.proofs.Cover.{difference_covers, negation_covers, or_left, or_right, product_covers, quotient_covers, remainder_covers, sum_covers, within_covers}
use Rattle.c_rules.specs.Constants.{is_zero}
use Rattle.c_runs.specs.Evaluation.{is_index}
use Rattle.c_runs.specs.Truth as runs
use Rattle.c_runs.specs.Truth.{both_terms, element_at}
use Rattle.abs_cells.specs.Cells.{Env, element_value, value_in}
use Rattle.abs_cells.specs.Laws.{Contents, In, StandFor}
use Rattle.abs_cells.proofs.Keeping.{element_stands}
use Rattle.eva_terms.specs.Terms as terms
use Rattle.eva_terms.specs.Terms.{also_unset, by_divisor, combined, divided, element_term, negated, of_both}
use Rattle.eva_terms.proofs.Tables.{false_equals, true_equals}

-- ---- operators

pub negated_right : (a : Value) (x : Option ℤ) → Stands a x → Stands (negated a) (option_map neg_ℤ x)
unfolding negated
negated_right a None h = or_right (negation_row a).unset a.unset h
negated_right a (Some x) h = (negation_covers a).1 x h

both_right : (row : Value → Value → Value) (f : ℤ → ℤ → ℤ) → CoversTerm row f
    → (a b : Value) (x y : Option ℤ) → Stands a x
    → Stands b y → Stands (of_both row a b) (option_and_then (λ m. option_and_then (λ n. Some (f m n)) y) x)
both_right row f covers a b None y h k = or_right (row a b).unset (a.unset || b.unset)
    (or_left a.unset b.unset h)
both_right row f covers a b (Some x) None h k = or_right (row a b).unset (a.unset || b.unset)
    (or_right a.unset b.unset k)
both_right row f covers a b (Some x) (Some y) h k = (covers a b).1 x y h k

undefined_divided : (s : Said) (u : Bool) (v : Value) → u ≡ true → Stands (by_divisor s u v) None
undefined_divided S.Yes u v h = or_right v.unset u h
undefined_divided S.No u v h = refl
undefined_divided S.Maybe u v h = or_right v.unset true refl
undefined_divided S.Unreached u v h = or_right v.unset true refl

by_said : (s : Said) (u : Bool) (v : Value) (y z : ℤ) (zero : Bool) → is_zero y ≡ zero
    → IsRight s (y ≢ pos 0)
    → (y ≢ pos 0 → Stands v (Some z)) → Stands (by_divisor s u v) (cond zero None (Some z))
by_said S.Yes u v y z true e right covers = absurd (right (true_equals y (pos 0) e))
by_said S.Yes u v y z false e right covers = covers right
by_said S.No u v y z true e right covers = refl
by_said S.No u v y z false e right covers = absurd (right (false_equals y (pos 0) e))
by_said S.Maybe u v y z true e right covers = or_right v.unset true refl
by_said S.Maybe u v y z false e right covers = covers (false_equals y (pos 0) e)
by_said S.Unreached u v y z zero e right covers = absurd right

divided_right : (row : Value → Value → Value) (f : ℤ → ℤ → ℤ) → CoversDivision row f
    → (a b : Value) (x y : Option ℤ)
    → Stands a x → Stands b y → Stands (divided row a b)
    (option_and_then (λ m. option_and_then (λ n. runs.divided f m n) y) x)
divided_right row f covers a b None y h k =
    undefined_divided (divisor_said a b) (a.unset || b.unset) (row a b) (or_left a.unset b.unset h)
divided_right row f covers a b (Some x) None h k =
    undefined_divided (divisor_said a b) (a.unset || b.unset) (row a b) (or_right a.unset b.unset k)
divided_right row f covers a b (Some x) (Some y) h k =
    by_said (divisor_said a b) (a.unset || b.unset) (row a b) y (f x y) (is_zero y) refl
    (divisor_right a b x y h k)
    ((covers a b).1 x y h k)

none_of_both : (op : NoteOp) (x y : Option ℤ) → ((m n : ℤ) → runs.combined op m n ≡ None)
    → Stands (empty_of true) (both_terms op x y)
none_of_both op None y h = refl
none_of_both op (Some x) None h = refl
none_of_both op (Some x) (Some y) h = subst (Stands (empty_of true)) (sym (h x y)) refl

pub combined_right : (op : NoteOp) (a b : Value) (x y : Option ℤ) → Stands a x → Stands b y
    → Stands (combined op a b) (both_terms op x y)
unfolding combined
combined_right O.Iff a b x y h k = none_of_both O.Iff x y (λ m n. refl)
combined_right O.Implies a b x y h k = none_of_both O.Implies x y (λ m n. refl)
combined_right O.Or a b x y h k = none_of_both O.Or x y (λ m n. refl)
combined_right O.And a b x y h k = none_of_both O.And x y (λ m n. refl)
combined_right O.Add a b x y h k = both_right sum_row ◌+ℤ◌ sum_covers a b x y h k
combined_right O.Sub a b x y h k = both_right difference_row ◌-ℤ◌ difference_covers a b x y h k
combined_right O.Mul a b x y h k = both_right product_row ◌*ℤ◌ product_covers a b x y h k
combined_right O.Div a b x y h k = divided_right quotient_row int_div quotient_covers a b x y h k
combined_right O.Rem a b x y h k = divided_right remainder_row int_rem remainder_covers a b x y h k

-- ---- cells and elements

pub cell_right : (now : Env) (c : Contents) (x : ℕ) → In now c → Stands (value_in now x) (c x)
cell_right None c x h = absurd h
cell_right (Some cells) c x h = h x

unsure : (n : ℕ) (index : Value) (k : ℤ) → Holds index k → is_index n k ≡ false
    → terms.is_index n index ≡ false
unsure n index k h e = by_range (within_said (pos 0) (pos n -ℤ pos 1) index.range)
    (within_covers index (pos 0) (pos n -ℤ pos 1) k h)
  where
    is_in : pos 0 ≤ℤ k → k ≤ℤ (pos n -ℤ pos 1) → is_index n k ≡ true
    is_in p q = and_from (int_le (pos 0) k) (int_lt k (pos n)) (sym (omega (arith, ints)))
        (sym (omega (arith, ints)))

    by_range : (s : Said) → IsRight s ((pos 0 ≤ℤ k) × (k ≤ℤ (pos n -ℤ pos 1))) → terms.is_surely s ≡ false
    by_range S.Yes right = let p = right.0 in let q = right.1 in absurd (true≢false (sym (is_in p q) ∙ e))
    by_range S.No right = refl
    by_range S.Maybe right = refl
    by_range S.Unreached right = refl

also_keeps : (u : Bool) (v : Value) (o : Option ℤ) → Stands v o → Stands (also_unset u v) o
also_keeps u v None h = or_left v.unset u h
also_keeps u v (Some z) h = h

outside : (n : ℕ) (index v : Value) (k : ℤ) → Holds index k → is_index n k ≡ false
    → Stands (also_unset (index.unset || not (terms.is_index n index)) v) None
outside n index v k h e =
    or_right v.unset (index.unset || not (terms.is_index n index))
    (or_right index.unset (not (terms.is_index n index)) (ap not (unsure n index k h e)))

at_number : (cells : List Value) (c : Contents) (first n : ℕ) (index : Value) (k : ℤ) → StandFor cells c
    → Holds index k
    → is_index n k ≡ true → Stands (element_value cells first n index) (c (first + unsigned_abs k))
at_number cells c first n index (pos m) all h e =
    element_stands cells first n index c m all h
    (omega (arith, ints, (and_parts (int_le (pos 0) (pos m)) (int_lt (pos m) (pos n)) e).1))
at_number cells c first n index (negsuc m) all h e = absurd (false≢true e)

pub element_right : (now : Env) (c : Contents) (first n : ℕ) (index : Value) (x : Option ℤ) → In now c
    → Stands index x
    → Stands (element_term now first n index) (option_and_then (element_at c first n) x)
unfolding element_term
element_right None c first n index x all h = absurd all
element_right (Some cells) c first n index None all h =
    or_right (element_value cells first n index).unset (index.unset || not (terms.is_index n index))
    (or_left index.unset (not (terms.is_index n index)) h)
element_right (Some cells) c first n index (Some k) all h =
    choose (Stands (also_unset (index.unset || not (terms.is_index n index))
    (element_value cells first n index)))
    (is_index n k) (c (first + unsigned_abs k)) None
    (λ e. also_keeps (index.unset || not (terms.is_index n index)) (element_value cells first n index)
    (c (first + unsigned_abs k))
    (at_number cells c first n index k all h e))
    (λ e. outside n index (element_value cells first n index) k h e)
