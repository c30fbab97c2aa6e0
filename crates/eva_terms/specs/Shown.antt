-- What an analysis says of a predicate in abstract cells, and how a predicate narrows them (ACSL manual,
-- 2.2 and 2.3; this project's own, after the abstract interpretation of Cousot and Cousot).
use Rattle.std.specs.Prelude.{ℕ, pos, Bool, true, false, not, ◌||◌, if◌then◌else◌, List, [], ◌∷◌, Option, Some, None, slice_get}
use Rattle.fc_base.specs.declared.relation.Relation.{Relation}
use Rattle.fc_base.specs.declared.relation.Relation.TheVariants as R
use Rattle.fc_base.specs.declared.syntax.NoteOp.{NoteOp}
use Rattle.fc_base.specs.declared.syntax.NoteOp.TheVariants as O
use Rattle.int_value.specs.Rows.{empty_of, number_row}
use Rattle.int_value.specs.declared.value.Value.{Value}
use Rattle.c_ir.specs.declared.tree.Pred.{Pred, fold-Pred}
use Rattle.c_ir.specs.declared.tree.Pred.TheOpen.{Pred-F}
use Rattle.abs_cells.specs.Cells.{Env, join_env, value_in}
use Rattle.abs_cells.specs.Relations.{narrow_both, on_env, opposite_of}
use Rattle.abs_cells.specs.declared.narrowing.Side.{Side}
use Rattle.eva_terms.specs.Terms.{bound_or, combined, element_term, negated}
use Rattle.eva_terms.specs.Truths.{and_truth, forall_truth, implies_truth, not_truth, or_truth, related_truth, same_truth}
use Rattle.eva_terms.specs.declared.answer.Truth.{Truth}
use Rattle.eva_terms.specs.declared.answer.Truth.TheVariants.{Yes, No, Maybe}

-- what a predicate speaks of: the cells now, those at the function's entry, and the values of the names
-- that `\forall` binds, the innermost first
pub record Sight : Type 0 where
  pub now : Env
  pub entry : Env
  pub bound : List Value

abbrev pub sight_of : List Value → Env → List Value → Sight
sight_of now entry bound = record { now = Some now; entry = entry; bound = bound }

abbrev pub before : Sight → Sight
before s = record { now = s.entry; entry = s.entry; bound = s.bound }

abbrev pub binding : Value → Sight → Sight
binding v s = record { now = s.now; entry = s.entry; bound = v ∷ s.bound }

-- ---- narrowing

-- what is left of the cells, the last argument, where a predicate holds (true) or doesn't (false), by those
-- at the entry and the values of bound names
abbrev pub Narrowing : Type 0
Narrowing = Bool → Env → List Value → List Value → Env

abbrev pub narrow_nothing : Narrowing
narrow_nothing taken entry bound now = Some now

abbrev pub narrow_not : Narrowing → Narrowing
narrow_not a taken entry bound now = a (not taken) entry bound now

-- the first one, then the second one in what is left
abbrev pub in_turn : Narrowing → Bool → Narrowing → Bool → Env → List Value → List Value → Env
in_turn a a_taken b b_taken entry bound now = on_env (b b_taken entry bound) (a a_taken entry bound now)

abbrev pub narrow_and : Narrowing → Narrowing → Narrowing
narrow_and a b true entry bound now = in_turn a true b true entry bound now
narrow_and a b false entry bound now =
    join_env (a false entry bound now) (in_turn a true b false entry bound now)

abbrev pub narrow_or : Narrowing → Narrowing → Narrowing
narrow_or a b true entry bound now =
    join_env (a true entry bound now) (in_turn a false b true entry bound now)
narrow_or a b false entry bound now = in_turn a false b false entry bound now

-- a relation, by its sides; where it doesn't hold the opposite one does, unless a side may be undefined
unfoldable pub narrow_related : Bool → Relation → Side → Side → List Value → Env
narrow_related true r a b now = narrow_both r a b now
narrow_related false r a b now =
    if a.value.unset || b.value.unset then Some now else narrow_both (opposite_of r) a b now

-- what surely isn't so leaves no cells
abbrev pub unless_refuted : Bool → Truth → Env → Env
unless_refuted true Yes e = e
unless_refuted true No e = None
unless_refuted true Maybe e = e
unless_refuted false Yes e = None
unless_refuted false No e = e
unless_refuted false Maybe e = e

abbrev pub guarded : (Sight → Truth) → Narrowing → Narrowing
guarded truth narrow taken entry bound now =
    unless_refuted taken (truth (sight_of now entry bound)) (narrow taken entry bound now)

-- ---- trees

-- a tree, as its parent sees it: the cell that it is, if it is one; its value as a term; its truth as a
-- predicate; and how it narrows
pub record Shown : Type 0 where
  pub cell : Option ℕ
  pub term : Sight → Value
  pub truth : Sight → Truth
  pub narrow : Narrowing

abbrev pub side_of : Option ℕ → Value → Side
side_of cell v = record { cell = cell; value = v }

abbrev pub narrow_sides : Relation → Option ℕ → (Sight → Value) → Option ℕ → (Sight → Value) → Narrowing
narrow_sides r x f y g taken entry bound now =
    narrow_related taken r (side_of x (f (sight_of now entry bound)))
    (side_of y (g (sight_of now entry bound))) now

-- a term stands for the predicate that it isn't 0
abbrev pub not_zero : Value → Truth
not_zero v = related_truth R.NotEqual v (number_row (pos 0))

abbrev pub narrow_not_zero : Option ℕ → (Sight → Value) → Narrowing
narrow_not_zero cell f = narrow_sides R.NotEqual cell f None (λ s. number_row (pos 0))

abbrev pub a_term : Option ℕ → (Sight → Value) → Shown
a_term cell f = record {
  cell = cell;
  term = f;
  truth = λ s. not_zero (f s);
  narrow = guarded (λ s. not_zero (f s)) (narrow_not_zero cell f);
}

-- a predicate is no term
abbrev pub a_truth : (Sight → Truth) → Narrowing → Shown
a_truth f narrow = record { cell = None; term = λ s. empty_of true; truth = f; narrow = guarded f narrow }

abbrev pub a_relation : Relation → Shown → Shown → Shown
a_relation r a b =
    a_truth (λ s. related_truth r (a.term s) (b.term s)) (narrow_sides r a.cell a.term b.cell b.term)

abbrev pub joined_truth : NoteOp → Shown → Shown → Sight → Truth
joined_truth O.Iff a b s = same_truth (a.truth s) (b.truth s)
joined_truth O.Implies a b s = implies_truth (a.truth s) (b.truth s)
joined_truth O.Or a b s = or_truth (a.truth s) (b.truth s)
joined_truth O.And a b s = and_truth (a.truth s) (b.truth s)
joined_truth op a b s = not_zero (combined op (a.term s) (b.term s))

abbrev pub joined_narrow : NoteOp → Shown → Shown → Narrowing
joined_narrow O.Iff a b = narrow_nothing
joined_narrow O.Implies a b = narrow_or (narrow_not a.narrow) b.narrow
joined_narrow O.Or a b = narrow_or a.narrow b.narrow
joined_narrow O.And a b = narrow_and a.narrow b.narrow
joined_narrow op a b = narrow_not_zero None (λ s. combined op (a.term s) (b.term s))

-- two terms make a term, and two predicates a predicate
abbrev pub joined : NoteOp → Shown → Shown → Shown
joined op a b = record {
  cell = None;
  term = λ s. combined op (a.term s) (b.term s);
  truth = joined_truth op a b;
  narrow = guarded (joined_truth op a b) (joined_narrow op a b);
}

-- what stands under `\old` is seen at the entry, and isn't narrowed
abbrev pub in_entry : Shown → Shown
in_entry e = record {
  cell = None;
  term = λ s. e.term (before s);
  truth = λ s. e.truth (before s);
  narrow = guarded (λ s. e.truth (before s)) narrow_nothing;
}

abbrev pub shown_step : Pred-F Shown → Shown
shown_step (Pred-F.Number n) = a_term None (λ s. number_row n)
shown_step (Pred-F.Cell x) = a_term (Some x) (λ s. value_in s.now x)
shown_step (Pred-F.Element first n i) = a_term None (λ s. element_term s.now first n (i.term s))
shown_step (Pred-F.Bound between) = a_term None (λ s. bound_or (slice_get s.bound between))
shown_step (Pred-F.Old e) = in_entry e
shown_step Pred-F.True = a_truth (λ s. Yes) narrow_nothing
shown_step Pred-F.False = a_truth (λ s. No) narrow_nothing
shown_step (Pred-F.Neg e) = a_term None (λ s. negated (e.term s))
shown_step (Pred-F.Not e) = a_truth (λ s. not_truth (e.truth s)) (narrow_not e.narrow)
shown_step (Pred-F.Binary op a b) = joined op a b
shown_step (Pred-F.Related r a b) = a_relation r a b
shown_step (Pred-F.Forall low ls high hs body) =
    a_truth (λ s. forall_truth (low.term s) ls (high.term s) hs (λ v. body.truth (binding v s)))
    narrow_nothing

abbrev pub shown : Pred → Shown
shown = fold-Pred Shown shown_step

-- ---- predicates

abbrev pub truth_at : Env → Env → Shown → Truth
truth_at None entry p = Maybe
truth_at (Some now) entry p = p.truth (sight_of now entry [])

-- what is said of a predicate in these cells, where those at the entry are the second ones; where no run
-- comes, nothing
unfoldable pub truth_row : Env → Env → Pred → Truth
truth_row now entry p = truth_at now entry (shown p)

-- what is left of the cells where the predicate holds (true) or doesn't (false)
unfoldable pub narrow_row : Bool → Env → Env → Pred → Env
narrow_row taken now entry p = on_env ((shown p).narrow taken entry []) now
