-- Which predicates and terms of annotations are well formed over a program's cells (ACSL manual, terms and predicates):
-- what stands in a term is a term, the cells that are named are there, and each name that a `\forall` binds stands in it.
use Rattle.std.specs.Prelude.{nat_lt, ◌+◌, ◌==◌, ℕ, Bool, true, false, ◌&&◌, List, Option, Some, None}
use Rattle.fc_base.specs.declared.ids.FnId.{FnId}
use Rattle.fc_base.specs.declared.syntax.NoteOp.{NoteOp}
use Rattle.fc_base.specs.declared.syntax.NoteOp.TheVariants as O
use Rattle.c_ir.specs.Formed.{cell_is, cells_are}
use Rattle.c_ir.specs.declared.tree.CellInfo.{CellInfo}
use Rattle.c_ir.specs.declared.tree.Pred.{Pred, fold-Pred}
use Rattle.c_ir.specs.declared.tree.Pred.TheOpen.{Pred-F}

-- where a clause stands: the cells, the function, and whether it may name values at the function's entry
pub record Outlook : Type 0 where
  pub cells : List CellInfo
  pub function : ℕ
  pub old : Bool

-- a tree, as its parent sees it: it is a well formed term, which may stand for the predicate that it isn't 0; or it is a
-- well formed predicate
pub record Sort : Type 0 where
  pub term : Bool
  pub pred : Bool

abbrev pub term_if : Bool → Sort
term_if b = record { term = b; pred = b }

abbrev pub pred_if : Bool → Sort
pred_if b = record { term = false; pred = b }

-- of file scope or of the function
abbrev pub is_seen_by : ℕ → Option FnId → Bool
is_seen_by function None = true
is_seen_by function (Some f) = f.0 == function

abbrev pub is_seen : ℕ → CellInfo → Bool
is_seen function c = is_seen_by function c.owner

-- an operator with its operands: those of arithmetic take terms, the others take predicates
abbrev pub joined : NoteOp → Sort → Sort → Sort
joined O.Iff a b = pred_if (a.pred && b.pred)
joined O.Implies a b = pred_if (a.pred && b.pred)
joined O.Or a b = pred_if (a.pred && b.pred)
joined O.And a b = pred_if (a.pred && b.pred)
joined O.Add a b = term_if (a.term && b.term)
joined O.Sub a b = term_if (a.term && b.term)
joined O.Mul a b = term_if (a.term && b.term)
joined O.Div a b = term_if (a.term && b.term)
joined O.Rem a b = term_if (a.term && b.term)

abbrev pub both_if : Bool → Sort → Sort
both_if b s = record { term = b && s.term; pred = b && s.pred }

-- under so many `\forall`; the bounds of one stand outside it
abbrev pub sort_step : Outlook → Pred-F (ℕ → Sort) → ℕ → Sort
sort_step o (Pred-F.Number v) depth = term_if true
sort_step o (Pred-F.Cell c) depth = term_if (cell_is (is_seen o.function) o.cells c)
sort_step o (Pred-F.Element first n i) depth =
    term_if ((i depth).term && cells_are (is_seen o.function) o.cells first n)
sort_step o (Pred-F.Bound between) depth = term_if (nat_lt between depth)
sort_step o (Pred-F.Old e) depth = both_if o.old (e depth)
sort_step o Pred-F.True depth = pred_if true
sort_step o Pred-F.False depth = pred_if true
sort_step o (Pred-F.Neg e) depth = term_if (e depth).term
sort_step o (Pred-F.Not e) depth = pred_if (e depth).pred
sort_step o (Pred-F.Binary op a b) depth = joined op (a depth) (b depth)
sort_step o (Pred-F.Related r a b) depth = pred_if ((a depth).term && (b depth).term)
sort_step o (Pred-F.Forall low ls high hs body) depth =
    pred_if (((low depth).term && (high depth).term) && (body (depth + 1)).pred)

abbrev pub sort : Outlook → Pred → ℕ → Sort
sort o = fold-Pred (ℕ → Sort) (sort_step o)

-- the clause's predicate
unfoldable pub is_pred : Outlook → Pred → Bool
is_pred o p = (sort o p 0).pred
