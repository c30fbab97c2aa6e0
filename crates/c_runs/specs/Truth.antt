-- Terms and predicates of annotations (ACSL manual, 2.2 and 2.3): terms are whole numbers without bound, and division
-- truncates. A term that divides by 0, indexes outside an array or reads a cell without a number has no value, and a
-- relation of such a term is false (this project's own).
use Rattle.std.specs.Prelude.{ℕ, zero, suc, ◌+◌, ℤ, pos, negsuc, neg_ℤ, ◌+ℤ◌, ◌-ℤ◌, ◌*ℤ◌, int_lt, int_le, int_div, int_rem, unsigned_abs, Bool, true, false, not, ◌&&◌, ◌||◌, if◌then◌else◌, List, [], ◌∷◌, Option, Some, None, slice_get}
use Rattle.std.specs.Option.{option_map, option_and_then}
use Rattle.fc_base.specs.declared.relation.Relation.{Relation}
use Rattle.fc_base.specs.declared.relation.Relation.TheVariants as R
use Rattle.fc_base.specs.declared.syntax.NoteOp.{NoteOp}
use Rattle.fc_base.specs.declared.syntax.NoteOp.TheVariants as O
use Rattle.c_ir.specs.declared.tree.Pred.{Pred, fold-Pred}
use Rattle.c_ir.specs.declared.tree.Pred.TheOpen.{Pred-F}
use Rattle.c_rules.specs.Constants.{equals, is_zero}
use Rattle.c_runs.specs.Visits.{Cells}
use Rattle.c_runs.specs.Evaluation.{is_index}

-- what a predicate speaks of: the cells now, those at the function's entry, and the numbers of the names that `\forall`
-- binds, the innermost first
pub record View : Type 0 where
  pub now : Cells
  pub entry : Cells
  pub bound : List ℤ

-- ---- relations and operators

abbrev pub relates : Relation → ℤ → ℤ → Bool
relates R.Less a b = int_lt a b
relates R.LessEq a b = int_le a b
relates R.Greater a b = int_lt b a
relates R.GreaterEq a b = int_le b a
relates R.Equal a b = equals a b
relates R.NotEqual a b = not (equals a b)

abbrev pub related : Relation → Option ℤ → Option ℤ → Bool
related r None b = false
related r (Some a) None = false
related r (Some a) (Some b) = relates r a b

-- a quotient or a remainder
abbrev pub divided : (ℤ → ℤ → ℤ) → ℤ → ℤ → Option ℤ
divided f a b = if is_zero b then None else Some (f a b)

-- a term of two terms; the operators of predicates make none
abbrev pub combined : NoteOp → ℤ → ℤ → Option ℤ
combined O.Iff a b = None
combined O.Implies a b = None
combined O.Or a b = None
combined O.And a b = None
combined O.Add a b = Some (a +ℤ b)
combined O.Sub a b = Some (a -ℤ b)
combined O.Mul a b = Some (a *ℤ b)
combined O.Div a b = divided int_div a b
combined O.Rem a b = divided int_rem a b

abbrev pub both_terms : NoteOp → Option ℤ → Option ℤ → Option ℤ
both_terms op a b = option_and_then (λ x. option_and_then (λ y. combined op x y) b) a

abbrev pub same_truth : Bool → Bool → Bool
same_truth true b = b
same_truth false b = not b

-- a term stands for the predicate that it isn't 0
abbrev pub is_not_zero : Option ℤ → Bool
is_not_zero None = false
is_not_zero (Some a) = not (is_zero a)

-- ---- quantifiers

-- the first number of a range, and the number past its last
abbrev pub from_low : Bool → ℤ → ℤ
from_low strict a = if strict then a +ℤ pos 1 else a

abbrev pub to_high : Bool → ℤ → ℤ
to_high strict b = if strict then b else b +ℤ pos 1

abbrev pub count_up : ℤ → ℕ
count_up (pos n) = n
count_up (negsuc n) = 0

-- the n numbers from a on
abbrev pub each_from : ℤ → ℕ → (ℤ → Bool) → Bool
each_from a zero f = true
each_from a (suc n) f = f a && each_from (a +ℤ pos 1) n f

-- where a bound has no value the predicate is true (this project's own)
abbrev pub quantified : Option ℤ → Bool → Option ℤ → Bool → (ℤ → Bool) → Bool
quantified None low_strict high high_strict f = true
quantified (Some a) low_strict None high_strict f = true
quantified (Some a) low_strict (Some b) high_strict f =
    each_from (from_low low_strict a) (count_up (to_high high_strict b -ℤ from_low low_strict a)) f

-- ---- trees

-- a tree, as its parent sees it: its value as a term, and its truth as a predicate
pub record Says : Type 0 where
  pub term : View → Option ℤ
  pub truth : View → Bool

abbrev pub a_term : (View → Option ℤ) → Says
a_term f = record { term = f; truth = λ v. is_not_zero (f v) }

abbrev pub a_truth : (View → Bool) → Says
a_truth f = record { term = λ v. None; truth = f }

abbrev pub at_entry : View → View
at_entry v = record { now = v.entry; entry = v.entry; bound = v.bound }

abbrev pub binding : ℤ → View → View
binding z v = record { now = v.now; entry = v.entry; bound = z ∷ v.bound }

abbrev pub element_at : Cells → ℕ → ℕ → ℤ → Option ℤ
element_at cells first n k = if is_index n k then cells (first + unsigned_abs k) else None

abbrev pub joined : NoteOp → Says → Says → Says
joined O.Iff a b = a_truth (λ v. same_truth (a.truth v) (b.truth v))
joined O.Implies a b = a_truth (λ v. not (a.truth v) || b.truth v)
joined O.Or a b = a_truth (λ v. a.truth v || b.truth v)
joined O.And a b = a_truth (λ v. a.truth v && b.truth v)
joined O.Add a b = a_term (λ v. both_terms O.Add (a.term v) (b.term v))
joined O.Sub a b = a_term (λ v. both_terms O.Sub (a.term v) (b.term v))
joined O.Mul a b = a_term (λ v. both_terms O.Mul (a.term v) (b.term v))
joined O.Div a b = a_term (λ v. both_terms O.Div (a.term v) (b.term v))
joined O.Rem a b = a_term (λ v. both_terms O.Rem (a.term v) (b.term v))

abbrev pub says_step : Pred-F Says → Says
says_step (Pred-F.Number n) = a_term (λ v. Some n)
says_step (Pred-F.Cell c) = a_term (λ v. v.now c)
says_step (Pred-F.Element first n i) = a_term (λ v. option_and_then (element_at v.now first n) (i.term v))
says_step (Pred-F.Bound between) = a_term (λ v. slice_get v.bound between)
says_step (Pred-F.Old e) = record { term = λ v. e.term (at_entry v); truth = λ v. e.truth (at_entry v) }
says_step Pred-F.True = a_truth (λ v. true)
says_step Pred-F.False = a_truth (λ v. false)
says_step (Pred-F.Neg e) = a_term (λ v. option_map neg_ℤ (e.term v))
says_step (Pred-F.Not e) = a_truth (λ v. not (e.truth v))
says_step (Pred-F.Binary op a b) = joined op a b
says_step (Pred-F.Related r a b) = a_truth (λ v. related r (a.term v) (b.term v))
says_step (Pred-F.Forall low ls high hs body) =
    a_truth (λ v. quantified (low.term v) ls (high.term v) hs (λ z. body.truth (binding z v)))

abbrev pub says : Pred → Says
says = fold-Pred Says says_step

-- whether a predicate holds in these cells, where those at the entry are the second ones
unfoldable pub holds : Pred → Cells → Cells → Bool
holds p now entry = (says p).truth (record { now = now; entry = entry; bound = [] })
