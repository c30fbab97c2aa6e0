-- Which trees of annotations are well formed, node by node.
use Rattle.std.proofs.Common.{◌≡◌, ◌+◌, ℕ, ℤ, Bool, true, ◌&&◌, nat_lt, ap}
use Rattle.fc_base.specs.declared.relation.Relation.{Relation}
use Rattle.fc_base.specs.declared.syntax.NoteOp.{NoteOp}
use Rattle.c_ir.specs.Formed.{cell_is, cells_are}
use Rattle.c_ir.specs.Preds.{Outlook, Sort, term_if, pred_if, both_if, joined, is_seen, sort, sort_step}
use Rattle.c_ir.specs.declared.tree.Pred.{Pred}
use Rattle.c_ir.specs.declared.tree.Pred.TheFolds.{fold-roll-Pred}
use Rattle.c_ir.specs.declared.tree.Pred.TheOpen.{Pred-F}
use Rattle.c_ir.specs.declared.tree.Pred.TheVariants as P

pub number_sort : (o : Outlook) (v : ℤ) (n : ℕ) → sort o (P.Number v) n ≡ term_if true
unfolding Rattle.c_ir.specs.declared.tree.Pred.TheViews.roll-Pred denote.Hole.Carrier.roll
number_sort o v n = ap (λ (s : ℕ → Sort). s n) (fold-roll-Pred (ℕ → Sort) (sort_step o) (Pred-F.Number v))

pub cell_sort : (o : Outlook) (c n : ℕ) → sort o (P.Cell c) n ≡ term_if (cell_is (is_seen o.function) o.cells c)
unfolding Rattle.c_ir.specs.declared.tree.Pred.TheViews.roll-Pred denote.Hole.Carrier.roll
cell_sort o c n = ap (λ (s : ℕ → Sort). s n) (fold-roll-Pred (ℕ → Sort) (sort_step o) (Pred-F.Cell c))

pub element_sort : (o : Outlook) (first k : ℕ) (i : Pred) (n : ℕ) → sort o (P.Element first k i) n ≡ term_if ((sort o i n).term && cells_are (is_seen o.function) o.cells first k)
unfolding Rattle.c_ir.specs.declared.tree.Pred.TheViews.roll-Pred denote.Hole.Carrier.roll
element_sort o first k i n = ap (λ (s : ℕ → Sort). s n) (fold-roll-Pred (ℕ → Sort) (sort_step o) (Pred-F.Element first k i))

pub bound_sort : (o : Outlook) (k n : ℕ) → sort o (P.Bound k) n ≡ term_if (nat_lt k n)
unfolding Rattle.c_ir.specs.declared.tree.Pred.TheViews.roll-Pred denote.Hole.Carrier.roll
bound_sort o k n = ap (λ (s : ℕ → Sort). s n) (fold-roll-Pred (ℕ → Sort) (sort_step o) (Pred-F.Bound k))

pub old_sort : (o : Outlook) (p : Pred) (n : ℕ) → sort o (P.Old p) n ≡ both_if o.old (sort o p n)
unfolding Rattle.c_ir.specs.declared.tree.Pred.TheViews.roll-Pred denote.Hole.Carrier.roll
old_sort o p n = ap (λ (s : ℕ → Sort). s n) (fold-roll-Pred (ℕ → Sort) (sort_step o) (Pred-F.Old p))

pub true_sort : (o : Outlook) (n : ℕ) → sort o P.True n ≡ pred_if true
unfolding Rattle.c_ir.specs.declared.tree.Pred.TheViews.roll-Pred denote.Hole.Carrier.roll
true_sort o n = ap (λ (s : ℕ → Sort). s n) (fold-roll-Pred (ℕ → Sort) (sort_step o) Pred-F.True)

pub false_sort : (o : Outlook) (n : ℕ) → sort o P.False n ≡ pred_if true
unfolding Rattle.c_ir.specs.declared.tree.Pred.TheViews.roll-Pred denote.Hole.Carrier.roll
false_sort o n = ap (λ (s : ℕ → Sort). s n) (fold-roll-Pred (ℕ → Sort) (sort_step o) Pred-F.False)

pub neg_sort : (o : Outlook) (p : Pred) (n : ℕ) → sort o (P.Neg p) n ≡ term_if (sort o p n).term
unfolding Rattle.c_ir.specs.declared.tree.Pred.TheViews.roll-Pred denote.Hole.Carrier.roll
neg_sort o p n = ap (λ (s : ℕ → Sort). s n) (fold-roll-Pred (ℕ → Sort) (sort_step o) (Pred-F.Neg p))

pub not_sort : (o : Outlook) (p : Pred) (n : ℕ) → sort o (P.Not p) n ≡ pred_if (sort o p n).pred
unfolding Rattle.c_ir.specs.declared.tree.Pred.TheViews.roll-Pred denote.Hole.Carrier.roll
not_sort o p n = ap (λ (s : ℕ → Sort). s n) (fold-roll-Pred (ℕ → Sort) (sort_step o) (Pred-F.Not p))

pub binary_sort : (o : Outlook) (op : NoteOp) (a b : Pred) (n : ℕ) → sort o (P.Binary op a b) n ≡ joined op (sort o a n) (sort o b n)
unfolding Rattle.c_ir.specs.declared.tree.Pred.TheViews.roll-Pred denote.Hole.Carrier.roll
binary_sort o op a b n = ap (λ (s : ℕ → Sort). s n) (fold-roll-Pred (ℕ → Sort) (sort_step o) (Pred-F.Binary op a b))

pub related_sort : (o : Outlook) (r : Relation) (a b : Pred) (n : ℕ) → sort o (P.Related r a b) n ≡ pred_if ((sort o a n).term && (sort o b n).term)
unfolding Rattle.c_ir.specs.declared.tree.Pred.TheViews.roll-Pred denote.Hole.Carrier.roll
related_sort o r a b n = ap (λ (s : ℕ → Sort). s n) (fold-roll-Pred (ℕ → Sort) (sort_step o) (Pred-F.Related r a b))

pub forall_sort : (o : Outlook) (low : Pred) (ls : Bool) (high : Pred) (hs : Bool) (body : Pred) (n : ℕ) → sort o (P.Forall low ls high hs body) n ≡ pred_if (((sort o low n).term && (sort o high n).term) && (sort o body (n + 1)).pred)
unfolding Rattle.c_ir.specs.declared.tree.Pred.TheViews.roll-Pred denote.Hole.Carrier.roll
forall_sort o low ls high hs body n = ap (λ (s : ℕ → Sort). s n) (fold-roll-Pred (ℕ → Sort) (sort_step o) (Pred-F.Forall low ls high hs body))
