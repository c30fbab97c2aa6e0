-- What a formula of an annotation is, where it stands: its predicate or term over the program's cells, and its
-- breaches (ACSL manual, terms and predicates; that each `\forall` has bounds is this project's own). What is itself in
-- breach stands as the number 0, a `\forall` as `\true`.
use Rattle.std.specs.Prelude.{ℕ, pos, min, ◌-◌, ◌^◌, ◌==◌, Bool, true, false, not, ◌&&◌, ◌||◌, if◌then◌else◌, bytes_eq, List, [], ◌∷◌, Option, Some, None}
use Rattle.std.specs.List.{list_any}
use Rattle.fc_base.specs.declared.relation.Relation.{Relation}
use Rattle.fc_base.specs.declared.relation.Relation.TheVariants as R
use Rattle.fc_base.specs.declared.syntax.NoteOp.{NoteOp}
use Rattle.fc_base.specs.declared.syntax.NoteOp.TheVariants as O
use Rattle.c_ast.specs.declared.annot.Formula.{Formula, fold-Formula}
use Rattle.c_ast.specs.declared.annot.Formula.TheOpen.{Formula-F}
use Rattle.c_ast.specs.declared.annot.Link.{Link, Link-F, fold-Link}
use Rattle.c_ir.specs.declared.note.InScope.{InScope}
use Rattle.c_ir.specs.declared.tree.Pred.{Pred}
use Rattle.c_ir.specs.declared.tree.Pred.TheVariants as P
use Rattle.acsl_terms.specs.declared.breach.NoteFault.TheVariants as F
use Rattle.acsl_terms.specs.declared.view.View.{View}
use Rattle.acsl_terms.specs.declared.view.Meant.{Meant}
use Rattle.acsl_terms.specs.declared.view.Meant.TheVariants as M
use Rattle.acsl_terms.specs.Breaches.{Breaches, none, both, one, only_if}
use Rattle.acsl_terms.specs.Names.{Bound, meant}

-- where a formula stands: what its clause sees, the objects that it can name, and the names that are bound
pub record Context : Type 0 where
  pub view : View
  pub names : List InScope
  pub bound : Bound

abbrev pub context : List InScope → View → Bound → Context
context names v bound = record { view = v; names = names; bound = bound }

-- within a `\forall` that binds this name
abbrev pub under : List ℕ → Context → Context
under x c = record { view = c.view; names = c.names; bound = x ∷ c.bound }

abbrev pub stands_for : Context → List ℕ → Meant
stands_for c x = meant c.names c.bound x

-- a formula by itself
pub record Part : Type 0 where
  -- where it begins
  pub at : ℕ
  -- its name, if it is one
  pub name : Option (List ℕ)
  -- it is a term; else it is a predicate
  pub is_term : Bool
  pub value : Context → Pred
  pub faults : Context → Breaches
  -- whether the name stands anywhere in it
  pub has : List ℕ → Bool

-- a relation of a chain, with what stands to its right
pub record Linked : Type 0 where
  pub relation : Relation
  pub right : Part

-- `low left middle right high`
pub record Between : Type 0 where
  pub low : Part
  pub left : Relation
  pub middle : Part
  pub right : Relation
  pub high : Part

-- `between ==> body`
pub record Guarded : Type 0 where
  pub between : Between
  pub body : Part

-- a formula, as its parent sees it
pub record Meaning : Type 0 where
  pub part : Part
  -- its parts, if it is a chain of two relations
  pub between : Option Between
  -- its parts, if it is an implication from such a chain
  pub guarded : Option Guarded

abbrev pub alone : Part → Meaning
alone p = record { part = p; between = None; guarded = None }

abbrev pub zero : Pred
zero = P.Number (pos 0)

-- ---- in the place of a term: a predicate there is in breach; in the place of a predicate a term means that it isn't 0

abbrev pub term_value : Part → Context → Pred
term_value p c = if p.is_term then p.value c else zero

abbrev pub term_faults : Part → Context → Breaches
term_faults p c = both (p.faults c) (only_if (not p.is_term) p.at F.BadType)

-- ---- names, elements, and values at the entry

-- a formal of the function stands in an `ensures` for its value at the entry
abbrev pub at_entry : View → ℕ → Bool
at_entry v cell = v.old && list_any (λ f. f == cell) v.formals

abbrev pub cell_by : Bool → ℕ → Pred
cell_by true cell = P.Old (P.Cell cell)
cell_by false cell = P.Cell cell

abbrev pub name_value : View → Meant → Pred
name_value v (M.Bound n) = P.Bound n
name_value v (M.Object first None) = cell_by (at_entry v first) first
name_value v (M.Object first (Some n)) = zero
name_value v M.Nothing = zero

-- an array stands only with an index
abbrev pub name_faults : ℕ → List ℕ → Meant → Breaches
name_faults at x (M.Bound n) = none
name_faults at x (M.Object first None) = none
name_faults at x (M.Object first (Some n)) = one at F.BadType
name_faults at x M.Nothing = one at (F.Unknown x)

abbrev pub element_value : Pred → Meant → Pred
element_value index (M.Bound n) = zero
element_value index (M.Object first None) = zero
element_value index (M.Object first (Some n)) = P.Element first n index
element_value index M.Nothing = zero

-- only an array has an index; of the element that begins at `at`, whose name stands at `name_at`
abbrev pub element_faults : ℕ → ℕ → List ℕ → Meant → Breaches
element_faults at name_at x (M.Bound n) = one at F.BadType
element_faults at name_at x (M.Object first None) = one at F.BadType
element_faults at name_at x (M.Object first (Some n)) = none
element_faults at name_at x M.Nothing = one name_at (F.Unknown x)

abbrev pub result_value : Option ℕ → Pred
result_value None = zero
result_value (Some cell) = P.Cell cell

abbrev pub result_faults : ℕ → Option ℕ → Breaches
result_faults at None = one at F.NotHere
result_faults at (Some cell) = none

abbrev pub old_value : Bool → Pred → Pred
old_value true p = P.Old p
old_value false p = zero

-- where `\old` doesn't stand, what it encloses isn't looked at
abbrev pub old_faults : Bool → ℕ → Breaches → Breaches
old_faults true at b = b
old_faults false at b = one at F.NotHere

-- ---- operators

-- an operator of arithmetic, whose operands are terms; those of the others are predicates
abbrev pub is_arithmetic : NoteOp → Bool
is_arithmetic O.Iff = false
is_arithmetic O.Implies = false
is_arithmetic O.Or = false
is_arithmetic O.And = false
is_arithmetic O.Add = true
is_arithmetic O.Sub = true
is_arithmetic O.Mul = true
is_arithmetic O.Div = true
is_arithmetic O.Rem = true

abbrev pub operand_value : Bool → Part → Context → Pred
operand_value true p c = term_value p c
operand_value false p c = p.value c

abbrev pub operand_faults : Bool → Part → Context → Breaches
operand_faults true p c = term_faults p c
operand_faults false p c = p.faults c

-- `between ==> body`
abbrev pub guarded_by : NoteOp → Option Between → Part → Option Guarded
guarded_by O.Implies (Some b) body = Some (record { between = b; body = body })
guarded_by O.Implies None body = None
guarded_by O.Iff b body = None
guarded_by O.Or b body = None
guarded_by O.And b body = None
guarded_by O.Add b body = None
guarded_by O.Sub b body = None
guarded_by O.Mul b body = None
guarded_by O.Div b body = None
guarded_by O.Rem b body = None

-- ---- chains of relations: `a < b <= c` is `a < b && b <= c`

abbrev pub relations : Context → Pred → List Linked → List Pred
relations c left [] = []
relations c left (l ∷ ls) = P.Related l.relation left (term_value l.right c) ∷ relations c (term_value l.right c) ls

-- what holds so far, and each of these
abbrev pub and_all : Pred → List Pred → Pred
and_all so [] = so
and_all so (p ∷ ps) = and_all (P.Binary O.And so p) ps

abbrev pub conjunction : List Pred → Pred
conjunction [] = P.True
conjunction (p ∷ ps) = and_all p ps

abbrev pub links_faults : Context → List Linked → Breaches
links_faults c [] = none
links_faults c (l ∷ ls) = both (term_faults l.right c) (links_faults c ls)

abbrev pub links_have : List Linked → List ℕ → Bool
links_have [] x = false
links_have (l ∷ ls) x = l.right.has x || links_have ls x

abbrev pub between_of : Part → List Linked → Option Between
between_of low [] = None
between_of low (l ∷ []) = None
between_of low (l ∷ r ∷ []) = Some (record {
  low = low;
  left = l.relation;
  middle = l.right;
  right = r.relation;
  high = r.right;
})
between_of low (l ∷ r ∷ m ∷ more) = None

-- ---- `\forall integer x; low <= x < high ==> body`

abbrev pub is_limit : Relation → Bool
is_limit R.Less = true
is_limit R.LessEq = true
is_limit R.Greater = false
is_limit R.GreaterEq = false
is_limit R.Equal = false
is_limit R.NotEqual = false

abbrev pub is_strict : Relation → Bool
is_strict R.Less = true
is_strict R.LessEq = false
is_strict R.Greater = false
is_strict R.GreaterEq = false
is_strict R.Equal = false
is_strict R.NotEqual = false

abbrev pub is_named : List ℕ → Option (List ℕ) → Bool
is_named x None = false
is_named x (Some y) = bytes_eq x y

-- the chain gives the name its bounds, in which the name doesn't stand
abbrev pub is_range : List ℕ → Between → Bool
is_range x b = (is_limit b.left && is_limit b.right) && (is_named x b.middle.name && (not (b.low.has x) && not (b.high.has x)))

abbrev pub range_if : Bool → Guarded → Option Guarded
range_if true g = Some g
range_if false g = None

abbrev pub range_of : List ℕ → Option Guarded → Option Guarded
range_of x None = None
range_of x (Some g) = range_if (is_range x g.between) g

abbrev pub forall_value : List ℕ → Option Guarded → Context → Pred
forall_value x None c = P.True
forall_value x (Some g) c =
    P.Forall (term_value g.between.low c) (is_strict g.between.left) (term_value g.between.high c) (is_strict g.between.right)
    (g.body.value (under x c))

-- a body without bounds is in breach, beside what is in breach within it
abbrev pub forall_faults : List ℕ → Part → Option Guarded → Context → Breaches
forall_faults x body None c = both (one body.at F.BadType) (body.faults (under x c))
forall_faults x body (Some g) c =
    both (both (term_faults g.between.low c) (term_faults g.between.high c)) (g.body.faults (under x c))

-- ---- formulas

abbrev pub link_step : Link-F Meaning Linked → Linked
link_step l = record { relation = l.relation; right = l.right.part }

abbrev pub step : Formula-F Meaning Linked → Meaning
step (Formula-F.Number at value) =
    -- no token of a text is so large as 2^127
    alone (record {
      at = at.span.from;
      name = None;
      is_term = true;
      value = λ c. P.Number (pos (min value (2 ^ 127 - 1)));
      faults = λ c. none;
      has = λ x. false;
    })
step (Formula-F.Name n) =
    alone (record {
      at = n.at.span.from;
      name = Some n.name;
      is_term = true;
      value = λ c. name_value c.view (stands_for c n.name);
      faults = λ c. name_faults n.at.span.from n.name (stands_for c n.name);
      has = λ x. bytes_eq x n.name;
    })
step (Formula-F.Index at of index) =
    alone (record {
      at = at.span.from;
      name = None;
      is_term = true;
      value = λ c. element_value (term_value index.part c) (stands_for c of.name);
      faults = λ c.
          both (element_faults at.span.from of.at.span.from of.name (stands_for c of.name)) (term_faults index.part c);
      has = λ x. bytes_eq x of.name || index.part.has x;
    })
step (Formula-F.Result at) =
    alone (record {
      at = at.span.from;
      name = None;
      is_term = true;
      value = λ c. result_value c.view.result;
      faults = λ c. result_faults at.span.from c.view.result;
      has = λ x. false;
    })
step (Formula-F.Old at of) =
    alone (record {
      at = at.span.from;
      name = None;
      is_term = of.part.is_term;
      value = λ c. old_value c.view.old (of.part.value c);
      faults = λ c. old_faults c.view.old at.span.from (of.part.faults c);
      has = of.part.has;
    })
step (Formula-F.True at) =
    alone (record {
      at = at.span.from;
      name = None;
      is_term = false;
      value = λ c. P.True;
      faults = λ c. none;
      has = λ x. false;
    })
step (Formula-F.False at) =
    alone (record {
      at = at.span.from;
      name = None;
      is_term = false;
      value = λ c. P.False;
      faults = λ c. none;
      has = λ x. false;
    })
step (Formula-F.Neg at of) =
    alone (record {
      at = at.span.from;
      name = None;
      is_term = true;
      value = λ c. P.Neg (term_value of.part c);
      faults = λ c. term_faults of.part c;
      has = of.part.has;
    })
step (Formula-F.Not at of) =
    alone (record {
      at = at.span.from;
      name = None;
      is_term = false;
      value = λ c. P.Not (of.part.value c);
      faults = of.part.faults;
      has = of.part.has;
    })
step (Formula-F.Binary at op left right) = record {
  part = record {
    at = at.span.from;
    name = None;
    is_term = is_arithmetic op;
    value = λ c.
        P.Binary op (operand_value (is_arithmetic op) left.part c) (operand_value (is_arithmetic op) right.part c);
    faults = λ c.
        both (operand_faults (is_arithmetic op) left.part c) (operand_faults (is_arithmetic op) right.part c);
    has = λ x. left.part.has x || right.part.has x;
  };
  between = None;
  guarded = guarded_by op left.between right.part;
}
step (Formula-F.Chain at first rest) = record {
  part = record {
    at = at.span.from;
    name = None;
    is_term = false;
    value = λ c. conjunction (relations c (term_value first.part c) rest);
    faults = λ c. both (term_faults first.part c) (links_faults c rest);
    has = λ x. first.part.has x || links_have rest x;
  };
  between = between_of first.part rest;
  guarded = None;
}
step (Formula-F.Forall at n body) =
    alone (record {
      at = at.span.from;
      name = None;
      is_term = false;
      value = λ c. forall_value n.name (range_of n.name body.guarded) c;
      faults = λ c. forall_faults n.name body.part (range_of n.name body.guarded) c;
      has = λ x. bytes_eq x n.name || body.part.has x;
    })

abbrev pub meaning : Formula → Meaning
meaning = fold-Formula Meaning Linked step link_step

-- the formula by itself
abbrev pub part_of : Formula → Part
part_of f = (meaning f).part

-- a relation of a chain, with what stands to its right
abbrev pub linked : Link → Linked
linked = fold-Link Meaning Linked step link_step
