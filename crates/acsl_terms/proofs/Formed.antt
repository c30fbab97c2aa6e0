-- What is bound without breach is well formed, where the names and what the clause sees are of the cells.
use Rattle.std.proofs.Common.{◌≡◌, ◌∙◌, ◌+◌, ℕ, ℤ, Bool, true, false, not, ◌&&◌, List, [], ◌∷◌, length, map, Option, Some, None, is_some, bytes_eq, cond, refl, ap, sym, subst, arith}
use Rattle.std.proofs.lemmas.Bool.{and_parts, and_from, true≢false}
use Rattle.std.proofs.lemmas.Bool.Decides.{Decides-ltb}
use Rattle.std.proofs.lemmas.List.Quantifiers.{position-Some}
use Rattle.std.specs.List.{position}
use Rattle.fc_base.specs.declared.ids.Line.{Line}
use Rattle.fc_base.specs.declared.relation.Relation.{Relation}
use Rattle.fc_base.specs.declared.syntax.NoteOp.{NoteOp}
use Rattle.fc_base.specs.declared.syntax.NoteOp.TheVariants as O
use Rattle.c_ast.specs.declared.annot.ClauseBody.{ClauseBody}
use Rattle.c_ast.specs.declared.annot.ClauseBody.TheVariants as B
use Rattle.c_ast.specs.declared.annot.ClauseKind.{ClauseKind}
use Rattle.c_ast.specs.declared.annot.ClauseKind.TheVariants as C
use Rattle.c_ast.specs.declared.annot.Formula.{Formula, fold-roll-Formula}
use Rattle.c_ast.specs.declared.annot.Formula.TheFolds.{ind-Formula, map-Formula}
use Rattle.c_ast.specs.declared.annot.Formula.TheOpen.{Formula-F}
use Rattle.c_ast.specs.declared.annot.Link.{Link, Link-F, fold-roll-Link, map-Link}
use Rattle.c_ast.specs.declared.expr.Ident.{Ident}
use Rattle.c_ir.specs.Formed.{cell_is}
use Rattle.c_ir.specs.Preds.{Outlook, Sort, term_if, pred_if, both_if, joined, is_seen, is_pred, sort}
use Rattle.c_ir.specs.declared.kind.Kind.{Kind}
use Rattle.c_ir.specs.declared.note.InScope.{InScope}
use Rattle.c_ir.specs.declared.tree.CellInfo.{CellInfo}
use Rattle.c_ir.specs.declared.tree.PointClause.{PointClause}
use Rattle.c_ir.specs.declared.tree.Pred.{Pred}
use Rattle.c_ir.specs.declared.tree.Pred.TheVariants as P
use Rattle.acsl_terms.proofs.Sorts.{number_sort, cell_sort, element_sort, bound_sort, old_sort, true_sort, false_sort, neg_sort, not_sort, binary_sort, related_sort, forall_sort}
use Rattle.acsl_terms.specs.declared.breach.NoteFault.TheVariants as F
use Rattle.acsl_terms.specs.declared.view.View.{View}
use Rattle.acsl_terms.specs.Breaches.{Breaches, both, only_if}
use Rattle.acsl_terms.specs.Clauses.{seen, kind_of, made, made_by, body_faults, plain}
use Rattle.acsl_terms.specs.Fits.{NamesFit, ViewFits, Free, ClauseFits, object_fits, result_fits}
use Rattle.acsl_terms.specs.Meaning as meant
use Rattle.acsl_terms.specs.Meaning.{Context, Part, Linked, Between, Guarded, Meaning, context, under, alone, zero, term_value, term_faults, step, link_step, meaning, linked, part_of}
use Rattle.acsl_terms.specs.Names as standing
use Rattle.acsl_terms.specs.Names.{Bound, object_of, meant_by}

-- what is given: the names and the view are of the cells
record Given (o : Outlook) (c : Context) : Type 0 where
  names : NamesFit o.cells o.function c.names
  view : ViewFits o.cells o.function c.view
  old : o.old ≡ c.view.old

-- a tree is well formed, and where it is to be a term it is one
record Well (o : Outlook) (n : ℕ) (is_term : Bool) (p : Pred) : Type 0 where
  pred : (sort o p n).pred ≡ true
  term : is_term ≡ true → (sort o p n).term ≡ true

abbrev GoodPart : Part → Type 0
GoodPart p = (o : Outlook) (c : Context) → Given o c → Free (p.faults c) → Well o (length c.bound) p.is_term (p.value c)

abbrev GoodLink : Linked → Type 0
GoodLink l = GoodPart l.right

abbrev GoodLinks : List Linked → Type 0
GoodLinks [] = Unit {0}
GoodLinks (l ∷ ls) = GoodLink l × GoodLinks ls

record GoodBetween (b : Between) : Type 0 where
  low : GoodPart b.low
  high : GoodPart b.high

record GoodGuarded (g : Guarded) : Type 0 where
  between : GoodBetween g.between
  body : GoodPart g.body

abbrev OfAny : {X : Type 0} → (X → Type 0) → Option X → Type 0
OfAny Q None = Unit {0}
OfAny Q (Some x) = Q x

record Good (m : Meaning) : Type 0 where
  part : GoodPart m.part
  between : OfAny GoodBetween m.between
  guarded : OfAny GoodGuarded m.guarded

-- ---- trees

no : {A : Type 0} → false ≡ true → A
no is = absurd (true≢false (sym is))

no_some : {X A : Type 0} (x : X) → ◌≡◌ {A = Option X} None (Some x) → A
no_some {X} x is = no (ap (λ (o : Option X). is_some o) is)

as_term : (o : Outlook) (n : ℕ) (b : Bool) (p : Pred) → sort o p n ≡ term_if true → Well o n b p
as_term o n b p is = record {
  pred = ap (λ (s : Sort). s.pred) is;
  term = λ t. ap (λ (s : Sort). s.term) is;
}

as_pred : (o : Outlook) (n : ℕ) (p : Pred) → sort o p n ≡ pred_if true → Well o n false p
as_pred o n p is = record {
  pred = ap (λ (s : Sort). s.pred) is;
  term = λ t. absurd (true≢false (sym t));
}

term_is : (b : Bool) → b ≡ true → term_if b ≡ term_if true
term_is b is = ap term_if is

pred_is : (b : Bool) → b ≡ true → pred_if b ≡ pred_if true
pred_is b is = ap pred_if is

number_well : (o : Outlook) (n : ℕ) (b : Bool) (v : ℤ) → Well o n b (P.Number v)
number_well o n b v = as_term o n b (P.Number v) (number_sort o v n)

cell_well : (o : Outlook) (n : ℕ) (b : Bool) (c : ℕ) → cell_is (is_seen o.function) o.cells c ≡ true → Well o n b (P.Cell c)
cell_well o n b c is = as_term o n b (P.Cell c) (cell_sort o c n ∙ term_is _ is)

both_is : (b : Bool) (s t : Sort) → b ≡ true → s ≡ t → both_if b s ≡ t
both_is true s t is same = same
both_is false s t is same = no is

old_cell_well : (o : Outlook) (n : ℕ) (b : Bool) (c : ℕ) → o.old ≡ true → cell_is (is_seen o.function) o.cells c ≡ true → Well o n b (P.Old (P.Cell c))
old_cell_well o n b c old is =
    as_term o n b (P.Old (P.Cell c)) (old_sort o (P.Cell c) n ∙ both_is o.old _ _ old (cell_sort o c n ∙ term_is _ is))

-- ---- the place of a term

term_by : (o : Outlook) (n at : ℕ) (p : Pred) (b : Bool) → Free (only_if (not b) at F.BadType) → (b ≡ true → (sort o p n).term ≡ true) → (sort o (cond b p zero) n).term ≡ true
term_by o n at p true free is = is refl
term_by o n at p false free is = absurd free

term_good : (p : Part) → GoodPart p → (o : Outlook) (c : Context) → Given o c → Free (term_faults p c) → (sort o (term_value p c) (length c.bound)).term ≡ true
term_good p good o c given free = term_by o (length c.bound) p.at (p.value c) p.is_term free.1 (good o c given free.0).term

-- ---- names

object_if : (cells : List CellInfo) (f : ℕ) (d e : InScope) (o : Option InScope) (b : Bool) → object_fits cells f d.first d.length ≡ true → (o ≡ Some e → object_fits cells f e.first e.length ≡ true) → cond b (Some d) o ≡ Some e → object_fits cells f e.first e.length ≡ true
object_if cells f d e o true here more is =
    subst (λ (z : Option InScope). OfAny (λ (y : InScope). object_fits cells f y.first y.length ≡ true) z) is here
object_if cells f d e o false here more is = more is

object_known : (cells : List CellInfo) (f : ℕ) (x : List ℕ) (names : List InScope) (e : InScope) → NamesFit cells f names → object_of x names ≡ Some e → object_fits cells f e.first e.length ≡ true
object_known cells f x [] e fits is = no_some e is
object_known cells f x (d ∷ ds) e fits is =
    object_if cells f d e (object_of x ds) (bytes_eq x d.name) fits.0 (object_known cells f x ds e fits.1) is

cell_good : (o : Outlook) (n cell : ℕ) (b : Bool) → (b ≡ true → o.old ≡ true) → cell_is (is_seen o.function) o.cells cell ≡ true → Well o n true (meant.cell_by b cell)
cell_good o n cell true old is = old_cell_well o n true cell (old refl) is
cell_good o n cell false old is = cell_well o n true cell is

bound_good : (o : Outlook) (x : List ℕ) (bound : Bound) (k : ℕ) → position (λ y. bytes_eq x y) bound ≡ Some k → Well o (length bound) true (P.Bound k)
bound_good o x bound k is =
    as_term o (length bound) true (P.Bound k) (bound_sort o k (length bound) ∙ term_is _ ((Decides-ltb k (length bound)).1 (position-Some (λ y. bytes_eq x y) bound k [] is).0))

object_name_good : (o : Outlook) (c : Context) → Given o c → (at : ℕ) (x : List ℕ) (first : ℕ) (size : Option ℕ) → object_fits o.cells o.function first size ≡ true → Free (meant.name_faults at x (meant_by None (Some (record { name = x; first = first; length = size })))) → Well o (length c.bound) true (meant.name_value c.view (meant_by None (Some (record { name = x; first = first; length = size }))))
object_name_good o c given at x first None fits free =
    cell_good o (length c.bound) first (meant.at_entry c.view first) (λ is. given.old ∙ (and_parts _ _ is).0) fits
object_name_good o c given at x first (Some n) fits free = absurd free

name_by : (o : Outlook) (c : Context) → Given o c → (at : ℕ) (x : List ℕ) (k : Option ℕ) (d : Option InScope) → position (λ y. bytes_eq x y) c.bound ≡ k → object_of x c.names ≡ d → Free (meant.name_faults at x (meant_by k d)) → Well o (length c.bound) true (meant.name_value c.view (meant_by k d))
name_by o c given at x (Some k) d is names free = bound_good o x c.bound k is
name_by o c given at x None None is names free = absurd free
name_by o c given at x None (Some d) is names free =
    object_name_good o c given at x d.first d.length (object_known o.cells o.function x c.names d given.names names) free

name_good : (o : Outlook) (c : Context) → Given o c → (at : ℕ) (x : List ℕ) → Free (meant.name_faults at x (standing.meant c.names c.bound x)) → Well o (length c.bound) true (meant.name_value c.view (standing.meant c.names c.bound x))
unfolding standing.meant
name_good o c given at x free =
    name_by o c given at x (position (λ y. bytes_eq x y) c.bound) (object_of x c.names) refl refl free

-- ---- elements

object_element_good : (o : Outlook) (n : ℕ) (index : Pred) → (sort o index n).term ≡ true → (at name_at : ℕ) (x : List ℕ) (first : ℕ) (size : Option ℕ) → object_fits o.cells o.function first size ≡ true → Free (meant.element_faults at name_at x (meant_by None (Some (record { name = x; first = first; length = size })))) → Well o n true (meant.element_value index (meant_by None (Some (record { name = x; first = first; length = size }))))
object_element_good o n index is at name_at x first None fits free = absurd free
object_element_good o n index is at name_at x first (Some k) fits free =
    as_term o n true (P.Element first k index) (element_sort o first k index n ∙ term_is _ (and_from _ _ is fits))

element_by : (o : Outlook) (c : Context) → Given o c → (index : Pred) → (sort o index (length c.bound)).term ≡ true → (at name_at : ℕ) (x : List ℕ) (k : Option ℕ) (d : Option InScope) → object_of x c.names ≡ d → Free (meant.element_faults at name_at x (meant_by k d)) → Well o (length c.bound) true (meant.element_value index (meant_by k d))
element_by o c given index is at name_at x (Some k) d names free = absurd free
element_by o c given index is at name_at x None None names free = absurd free
element_by o c given index is at name_at x None (Some d) names free =
    object_element_good o (length c.bound) index is at name_at x d.first d.length (object_known o.cells o.function x c.names d given.names names) free

element_good : (o : Outlook) (c : Context) → Given o c → (index : Pred) → (sort o index (length c.bound)).term ≡ true → (at name_at : ℕ) (x : List ℕ) → Free (meant.element_faults at name_at x (standing.meant c.names c.bound x)) → Well o (length c.bound) true (meant.element_value index (standing.meant c.names c.bound x))
unfolding standing.meant
element_good o c given index is at name_at x free =
    element_by o c given index is at name_at x (position (λ y. bytes_eq x y) c.bound) (object_of x c.names) refl free

-- ---- the result, and values at the entry

result_good : (o : Outlook) (n at : ℕ) (r : Option ℕ) → result_fits o.cells o.function r → Free (meant.result_faults at r) → Well o n true (meant.result_value r)
result_good o n at None fits free = absurd free
result_good o n at (Some cell) fits free = cell_well o n true cell fits

old_well : (o : Outlook) (n : ℕ) (b : Bool) (p : Pred) → o.old ≡ true → Well o n b p → Well o n b (P.Old p)
old_well o n b p old w = record {
  pred = ap (λ (s : Sort). s.pred) (old_sort o p n) ∙ and_from _ _ old w.pred;
  term = λ t. ap (λ (s : Sort). s.term) (old_sort o p n) ∙ and_from _ _ old (w.term t);
}

old_good : (o : Outlook) (n at : ℕ) (b old : Bool) (p : Pred) (faults : Breaches) → o.old ≡ old → Free (meant.old_faults old at faults) → (Free faults → Well o n b p) → Well o n b (meant.old_value old p)
old_good o n at b true p faults is free more = old_well o n b p is (more free)
old_good o n at b false p faults is free more = absurd free

-- ---- operators

neg_good : (o : Outlook) (n : ℕ) (p : Pred) → (sort o p n).term ≡ true → Well o n true (P.Neg p)
neg_good o n p is = as_term o n true (P.Neg p) (neg_sort o p n ∙ term_is _ is)

not_good : (o : Outlook) (n : ℕ) (p : Pred) → (sort o p n).pred ≡ true → Well o n false (P.Not p)
not_good o n p is = as_pred o n (P.Not p) (not_sort o p n ∙ pred_is _ is)

terms_good : (o : Outlook) (n : ℕ) (op : NoteOp) (a b : Pred) → joined op (sort o a n) (sort o b n) ≡ term_if ((sort o a n).term && (sort o b n).term) → (sort o a n).term ≡ true → (sort o b n).term ≡ true → Well o n true (P.Binary op a b)
terms_good o n op a b is f g = as_term o n true (P.Binary op a b) (binary_sort o op a b n ∙ is ∙ term_is _ (and_from _ _ f g))

preds_good : (o : Outlook) (n : ℕ) (op : NoteOp) (a b : Pred) → joined op (sort o a n) (sort o b n) ≡ pred_if ((sort o a n).pred && (sort o b n).pred) → (sort o a n).pred ≡ true → (sort o b n).pred ≡ true → Well o n false (P.Binary op a b)
preds_good o n op a b is f g = as_pred o n (P.Binary op a b) (binary_sort o op a b n ∙ is ∙ pred_is _ (and_from _ _ f g))

arithmetic_good : (op : NoteOp) (a b : Part) → GoodPart a → GoodPart b → (o : Outlook) (c : Context) → Given o c → Free (both (term_faults a c) (term_faults b c)) → joined op (sort o (term_value a c) (length c.bound)) (sort o (term_value b c) (length c.bound)) ≡ term_if ((sort o (term_value a c) (length c.bound)).term && (sort o (term_value b c) (length c.bound)).term) → Well o (length c.bound) true (P.Binary op (term_value a c) (term_value b c))
arithmetic_good op a b f g o c given free is =
    terms_good o (length c.bound) op (term_value a c) (term_value b c) is (term_good a f o c given free.0) (term_good b g o c given free.1)

logic_good : (op : NoteOp) (a b : Part) → GoodPart a → GoodPart b → (o : Outlook) (c : Context) → Given o c → Free (both (a.faults c) (b.faults c)) → joined op (sort o (a.value c) (length c.bound)) (sort o (b.value c) (length c.bound)) ≡ pred_if ((sort o (a.value c) (length c.bound)).pred && (sort o (b.value c) (length c.bound)).pred) → Well o (length c.bound) false (P.Binary op (a.value c) (b.value c))
logic_good op a b f g o c given free is =
    preds_good o (length c.bound) op (a.value c) (b.value c) is (f o c given free.0).pred (g o c given free.1).pred

binary_good : (op : NoteOp) (a b : Part) → GoodPart a → GoodPart b → (o : Outlook) (c : Context) → Given o c → Free (both (meant.operand_faults (meant.is_arithmetic op) a c) (meant.operand_faults (meant.is_arithmetic op) b c)) → Well o (length c.bound) (meant.is_arithmetic op) (P.Binary op (meant.operand_value (meant.is_arithmetic op) a c) (meant.operand_value (meant.is_arithmetic op) b c))
binary_good O.Iff a b f g o c given free = logic_good O.Iff a b f g o c given free refl
binary_good O.Implies a b f g o c given free = logic_good O.Implies a b f g o c given free refl
binary_good O.Or a b f g o c given free = logic_good O.Or a b f g o c given free refl
binary_good O.And a b f g o c given free = logic_good O.And a b f g o c given free refl
binary_good O.Add a b f g o c given free = arithmetic_good O.Add a b f g o c given free refl
binary_good O.Sub a b f g o c given free = arithmetic_good O.Sub a b f g o c given free refl
binary_good O.Mul a b f g o c given free = arithmetic_good O.Mul a b f g o c given free refl
binary_good O.Div a b f g o c given free = arithmetic_good O.Div a b f g o c given free refl
binary_good O.Rem a b f g o c given free = arithmetic_good O.Rem a b f g o c given free refl

guarded_good : (op : NoteOp) (b : Option Between) (body : Part) → OfAny GoodBetween b → GoodPart body → OfAny GoodGuarded (meant.guarded_by op b body)
guarded_good O.Implies (Some b) body f g = record { between = f; body = g }
guarded_good O.Implies None body f g = tt
guarded_good O.Iff b body f g = tt
guarded_good O.Or b body f g = tt
guarded_good O.And b body f g = tt
guarded_good O.Add b body f g = tt
guarded_good O.Sub b body f g = tt
guarded_good O.Mul b body f g = tt
guarded_good O.Div b body f g = tt
guarded_good O.Rem b body f g = tt

-- ---- chains

related_good : (o : Outlook) (n : ℕ) (r : Relation) (a b : Pred) → (sort o a n).term ≡ true → (sort o b n).term ≡ true → (sort o (P.Related r a b) n).pred ≡ true
related_good o n r a b f g = ap (λ (s : Sort). s.pred) (related_sort o r a b n) ∙ and_from _ _ f g

and_good : (o : Outlook) (n : ℕ) (a b : Pred) → (sort o a n).pred ≡ true → (sort o b n).pred ≡ true → (sort o (P.Binary O.And a b) n).pred ≡ true
and_good o n a b f g = (preds_good o n O.And a b refl f g).pred

links_good : (o : Outlook) (c : Context) → Given o c → (so left : Pred) (ls : List Linked) → GoodLinks ls → Free (meant.links_faults c ls) → (sort o so (length c.bound)).pred ≡ true → (sort o left (length c.bound)).term ≡ true → (sort o (meant.and_all so (meant.relations c left ls)) (length c.bound)).pred ≡ true
links_good o c given so left [] good free is term = is
links_good o c given so left (l ∷ ls) good free is term =
    let right = term_good l.right good.0 o c given free.0 in
    let next = related_good o (length c.bound) l.relation left (term_value l.right c) term right in
    links_good o c given (P.Binary O.And so (P.Related l.relation left (term_value l.right c))) (term_value l.right c) ls good.1 free.1 (and_good o (length c.bound) so (P.Related l.relation left (term_value l.right c)) is next) right

chain_good : (o : Outlook) (c : Context) → Given o c → (left : Pred) (ls : List Linked) → GoodLinks ls → Free (meant.links_faults c ls) → (sort o left (length c.bound)).term ≡ true → (sort o (meant.conjunction (meant.relations c left ls)) (length c.bound)).pred ≡ true
chain_good o c given left [] good free term = (as_pred o (length c.bound) P.True (true_sort o (length c.bound))).pred
chain_good o c given left (l ∷ ls) good free term =
    let right = term_good l.right good.0 o c given free.0 in
    links_good o c given (P.Related l.relation left (term_value l.right c)) (term_value l.right c) ls good.1 free.1 (related_good o (length c.bound) l.relation left (term_value l.right c) term right) right

a_pred : (o : Outlook) (n : ℕ) (p : Pred) → (sort o p n).pred ≡ true → Well o n false p
a_pred o n p is = record { pred = is; term = λ t. absurd (true≢false (sym t)) }

between_good : (low : Part) (ls : List Linked) → GoodPart low → GoodLinks ls → OfAny GoodBetween (meant.between_of low ls)
between_good low [] f g = tt
between_good low (l ∷ []) f g = tt
between_good low (l ∷ r ∷ []) f g = record { low = f; high = g.1.0 }
between_good low (l ∷ r ∷ m ∷ more) f g = tt

-- ---- `\forall`

range_if_good : (b : Bool) (g : Guarded) → GoodGuarded g → OfAny GoodGuarded (meant.range_if b g)
range_if_good true g good = good
range_if_good false g good = tt

range_good : (x : List ℕ) (g : Option Guarded) → OfAny GoodGuarded g → OfAny GoodGuarded (meant.range_of x g)
range_good x None good = tt
range_good x (Some g) good = range_if_good (meant.is_range x g.between) g good

one_more : (x : List ℕ) (bound : Bound) → length (x ∷ bound) ≡ length bound + 1
one_more x bound = omega arith

forall_good : (o : Outlook) (c : Context) → Given o c → (x : List ℕ) (body : Part) (g : Option Guarded) → OfAny GoodGuarded g → Free (meant.forall_faults x body g c) → Well o (length c.bound) false (meant.forall_value x g c)
forall_good o c given x body None good free = absurd free.0
forall_good o c given x body (Some g) good free =
    let low = term_good g.between.low good.between.low o c given free.0.0 in
    let high = term_good g.between.high good.between.high o c given free.0.1 in
    let within = good.body o (under x c) (record { names = given.names; view = given.view; old = given.old }) free.1 in
    let said = subst (λ (n : ℕ). (sort o (g.body.value (under x c)) n).pred ≡ true) (one_more x c.bound) within.pred in
    as_pred o (length c.bound) _ (forall_sort o (term_value g.between.low c) (meant.is_strict g.between.left) (term_value g.between.high c) (meant.is_strict g.between.right) (g.body.value (under x c)) (length c.bound) ∙ pred_is _ (and_from _ _ (and_from _ _ low high) said))

-- ---- formulas

alone_good : (p : Part) → GoodPart p → Good (alone p)
alone_good p good = record { part = good; between = tt; guarded = tt }

abbrev With : Type 0
With = (f : Formula) × Good (meaning f)

abbrev WithLink : Type 0
WithLink = (l : Link) × GoodLink (linked l)

abbrev opened : Formula-F With WithLink → Formula-F Meaning Linked
opened y = map-Formula Formula Link Meaning Linked meaning linked (map-Formula With WithLink Formula Link (λ f. f.0) (λ l. l.0) y)

abbrev opened_link : Link-F With WithLink → Link-F Meaning Linked
opened_link y = map-Link Formula Link Meaning Linked meaning linked (map-Link With WithLink Formula Link (λ f. f.0) (λ l. l.0) y)

all_good : (ls : List WithLink) → GoodLinks (map linked (map (λ l. l.0) ls))
all_good [] = tt
all_good (l ∷ ls) = (l.1, all_good ls)

layer : (y : Formula-F With WithLink) → Good (step (opened y))
layer (Formula-F.Number at value) = alone_good _ (λ o c given free. number_well o (length c.bound) true _)
layer (Formula-F.Name n) = alone_good _ (λ o c given free. name_good o c given n.at.span.from n.name free)
layer (Formula-F.Index at of index) =
    alone_good _ (λ o c given free.
    let is = term_good (part_of index.0) index.1.part o c given free.1 in
    element_good o c given (term_value (part_of index.0) c) is at.span.from of.at.span.from of.name free.0)
layer (Formula-F.Result at) =
    alone_good _ (λ o c given free. result_good o (length c.bound) at.span.from c.view.result given.view free)
layer (Formula-F.Old at of) =
    alone_good _ (λ o c given free.
    old_good o (length c.bound) at.span.from (part_of of.0).is_term c.view.old ((part_of of.0).value c) ((part_of of.0).faults c) given.old free (of.1.part o c given))
layer (Formula-F.True at) = alone_good _ (λ o c given free. as_pred o (length c.bound) P.True (true_sort o (length c.bound)))
layer (Formula-F.False at) =
    alone_good _ (λ o c given free. as_pred o (length c.bound) P.False (false_sort o (length c.bound)))
layer (Formula-F.Neg at of) =
    alone_good _ (λ o c given free.
    neg_good o (length c.bound) (term_value (part_of of.0) c) (term_good (part_of of.0) of.1.part o c given free))
layer (Formula-F.Not at of) =
    alone_good _ (λ o c given free.
    not_good o (length c.bound) ((part_of of.0).value c) (of.1.part o c given free).pred)
layer (Formula-F.Binary at op left right) = record {
  part = λ o c given free. binary_good op (part_of left.0) (part_of right.0) left.1.part right.1.part o c given free;
  between = tt;
  guarded = guarded_good op (meaning left.0).between (part_of right.0) left.1.between right.1.part;
}
layer (Formula-F.Chain at first rest) = record {
  part = λ o c given free.
      let is = term_good (part_of first.0) first.1.part o c given free.0 in
      a_pred o (length c.bound) _ (chain_good o c given (term_value (part_of first.0) c) (map linked (map (λ l. l.0) rest)) (all_good rest) free.1 is);
  between = between_good (part_of first.0) (map linked (map (λ l. l.0) rest)) first.1.part (all_good rest);
  guarded = tt;
}
layer (Formula-F.Forall at n body) =
    alone_good _ (λ o c given free.
    forall_good o c given n.name (part_of body.0) (meant.range_of n.name (meaning body.0).guarded) (range_good n.name (meaning body.0).guarded body.1.guarded) free)

link_layer : (y : Link-F With WithLink) → GoodLink (link_step (opened_link y))
link_layer y = y.right.1.part

good : (f : Formula) → Good (meaning f)
good = ind-Formula (λ f. Good (meaning f)) (λ l. GoodLink (linked l))
    (λ x y is.
    let here = subst (λ (z : Formula-F Formula Link). Good (step (map-Formula Formula Link Meaning Linked meaning linked z))) is (layer y) in
    subst Good (sym (fold-roll-Formula Meaning Linked step link_step x)) here)
    (λ x y is.
    let here = subst (λ (z : Link-F Formula Link). GoodLink (link_step (map-Link Formula Link Meaning Linked meaning linked z))) is (link_layer y) in
    subst GoodLink (sym (fold-roll-Link Meaning Linked step link_step x)) here)

-- ---- clauses

view_seen : (cells : List CellInfo) (f : ℕ) (v : View) (kind : ClauseKind) → ViewFits cells f v → ViewFits cells f (seen v kind)
view_seen cells f v C.Requires fits = tt
view_seen cells f v C.Ensures fits = fits
view_seen cells f v C.Assigns fits = tt
view_seen cells f v C.LoopInvariant fits = tt
view_seen cells f v C.LoopAssigns fits = tt
view_seen cells f v C.Assert fits = tt
view_seen cells f v C.Check fits = tt
view_seen cells f v C.Admit fits = tt

abbrev MadeFits : Outlook → PointClause → Type 0
MadeFits o made = is_pred o made.pred ≡ true

said_pred : (o : Outlook) (c : Context) (f : Formula) → Given o c → c.bound ≡ [] → Free ((part_of f).faults c) → is_pred o ((part_of f).value c) ≡ true
unfolding is_pred
said_pred o c f given top free =
    subst (λ (b : Bound). (sort o ((part_of f).value c) (length b)).pred ≡ true) top ((good f).part o c given free).pred

made_pred : (o : Outlook) (c : Context) (label : Option Ident) (line : Line) (f : Formula) (kind : Option Kind) (clause : PointClause) → Given o c → c.bound ≡ [] → Free ((part_of f).faults c) → made c label line f kind ≡ Some clause → is_pred o clause.pred ≡ true
made_pred o c label line f None clause given top free is = no_some clause is
made_pred o c label line f (Some kind) clause given top free is =
    subst (OfAny (MadeFits o)) is (said_pred o c f given top free)

clause_well : (o : Outlook) (c outside : Context) (kind : ClauseKind) (label : Option Ident) (line : Line) (body : ClauseBody) (clause : PointClause) → Given o c → c.bound ≡ [] → Free (body_faults c outside body) → made_by c kind label line body ≡ Some clause → is_pred o clause.pred ≡ true
clause_well o c outside kind label line (B.Says f) clause given top free is =
    made_pred o c label line f (kind_of kind) clause given top free is
clause_well o c outside kind label line (B.Places ls) clause given top free is = no_some clause is

pub clause_fits : ClauseFits
clause_fits cells f names v c clause fits view free is =
    let o : Outlook = record { cells = cells; function = f; old = (seen v c.kind).old } in
    clause_well o (context names (seen v c.kind) []) (context names plain []) c.kind c.label c.line c.body clause
    (record { names = fits; view = view_seen cells f v c.kind view; old = refl }) refl free is
