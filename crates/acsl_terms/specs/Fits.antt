-- What is bound is well formed: a clause without breach makes a well formed predicate, where its names and its view are
-- of the program's cells (ACSL manual, terms and predicates).
use Rattle.std.specs.Prelude.{◌≡◌, ℕ, Bool, true, List, [], ◌∷◌, Option, Some, None}
use Rattle.c_ast.specs.declared.annot.Clause.{Clause}
use Rattle.c_ast.specs.declared.annot.ClauseKind.{ClauseKind}
use Rattle.c_ir.specs.Formed.{cell_is, cells_are}
use Rattle.c_ir.specs.Preds.{is_seen, is_pred}
use Rattle.c_ir.specs.declared.note.InScope.{InScope}
use Rattle.c_ir.specs.declared.tree.CellInfo.{CellInfo}
use Rattle.c_ir.specs.declared.tree.PointClause.{PointClause}
use Rattle.acsl_terms.specs.declared.view.View.{View}
use Rattle.acsl_terms.specs.Breaches.{Breaches, none, just, both}
use Rattle.acsl_terms.specs.Clauses.{seen, clause_of, clause_faults}

-- the cells of an object are there, of file scope or of the function
abbrev pub object_fits : List CellInfo → ℕ → ℕ → Option ℕ → Bool
object_fits cells f first None = cell_is (is_seen f) cells first
object_fits cells f first (Some n) = cells_are (is_seen f) cells first n

abbrev pub NamesFit : List CellInfo → ℕ → List InScope → Type 0
NamesFit cells f [] = Unit {0}
NamesFit cells f (d ∷ ds) = (object_fits cells f d.first d.length ≡ true) × NamesFit cells f ds

abbrev pub result_fits : List CellInfo → ℕ → Option ℕ → Type 0
result_fits cells f None = Unit {0}
result_fits cells f (Some c) = cell_is (is_seen f) cells c ≡ true

abbrev pub ViewFits : List CellInfo → ℕ → View → Type 0
ViewFits cells f v = result_fits cells f v.result

-- no breach is among them
abbrev pub Free : Breaches → Type 0
Free none = Unit {0}
Free (just b) = ⊥
Free (both x y) = Free x × Free y

-- whether the clause's predicate may name values at the function's entry
abbrev pub sees_entry : View → ClauseKind → Bool
sees_entry v kind = (seen v kind).old

abbrev pub ClauseFits : Type 0
ClauseFits =
    (cells : List CellInfo) (f : ℕ) (names : List InScope) (v : View) (c : Clause) (made : PointClause)
    → NamesFit cells f names → ViewFits cells f v → Free (clause_faults names v c) → clause_of names v c ≡ Some made
    → is_pred (record { cells = cells; function = f; old = sees_entry v c.kind }) made.pred ≡ true
