-- What a clause of an annotation is over a program's objects, and its breaches (ACSL manual, function contracts, loop
-- annotations, assertions).
use Rattle.std.specs.Prelude.{ℕ, false, List, [], ◌∷◌, Option, Some, None}
use Rattle.fc_base.specs.declared.ids.Line.{Line}
use Rattle.c_ast.specs.declared.annot.Clause.{Clause}
use Rattle.c_ast.specs.declared.annot.ClauseBody.{ClauseBody}
use Rattle.c_ast.specs.declared.annot.ClauseBody.TheVariants as B
use Rattle.c_ast.specs.declared.annot.ClauseKind.{ClauseKind}
use Rattle.c_ast.specs.declared.annot.ClauseKind.TheVariants as C
use Rattle.c_ast.specs.declared.annot.Formula.{Formula}
use Rattle.c_ast.specs.declared.annot.Loc.{Loc}
use Rattle.c_ast.specs.declared.annot.LocIndex.{LocIndex}
use Rattle.c_ast.specs.declared.annot.LocIndex.TheVariants as L
use Rattle.c_ast.specs.declared.expr.Ident.{Ident}
use Rattle.c_ir.specs.declared.kind.Kind.{Kind}
use Rattle.c_ir.specs.declared.kind.Kind.TheVariants as K
use Rattle.c_ir.specs.declared.note.InScope.{InScope}
use Rattle.c_ir.specs.declared.tree.PointClause.{PointClause}
use Rattle.acsl_terms.specs.declared.breach.NoteFault.TheVariants as F
use Rattle.acsl_terms.specs.declared.view.View.{View}
use Rattle.acsl_terms.specs.Breaches.{Breaches, none, both, one}
use Rattle.acsl_terms.specs.Meaning.{Context, context, part_of, term_faults}
use Rattle.acsl_terms.specs.Names.{object_of}

-- what all clauses but an `ensures` see
abbrev pub plain : View
plain = record { formals = []; result = None; old = false }

abbrev pub seen : View → ClauseKind → View
seen v C.Ensures = v
seen v C.Requires = plain
seen v C.Assigns = plain
seen v C.LoopInvariant = plain
seen v C.LoopAssigns = plain
seen v C.Assert = plain
seen v C.Check = plain
seen v C.Admit = plain

-- ---- places that may be assigned

abbrev pub index_faults : Context → LocIndex → Breaches
index_faults c L.Nothing = none
index_faults c (L.One i) = term_faults (part_of i) c
index_faults c (L.Range i j) = both (term_faults (part_of i) c) (term_faults (part_of j) c)
index_faults c L.Whole = none

-- an object that is no array has no index
abbrev pub scalar_faults : ℕ → LocIndex → Breaches
scalar_faults at L.Nothing = none
scalar_faults at (L.One i) = one at F.BadType
scalar_faults at (L.Range i j) = one at F.BadType
scalar_faults at L.Whole = one at F.BadType

abbrev pub object_faults : ℕ → LocIndex → Option ℕ → Breaches
object_faults at index None = scalar_faults at index
object_faults at index (Some n) = none

abbrev pub place_faults_by : ℕ → List ℕ → LocIndex → Option InScope → Breaches
place_faults_by at x index None = one at (F.Unknown x)
place_faults_by at x index (Some d) = object_faults at index d.length

-- an array may stand without an index
abbrev pub place_faults : Context → Loc → Breaches
place_faults c l =
    both (place_faults_by l.name.at.span.from l.name.name l.index (object_of l.name.name c.names)) (index_faults c l.index)

abbrev pub places_faults : Context → List Loc → Breaches
places_faults c [] = none
places_faults c (l ∷ ls) = both (place_faults c l) (places_faults c ls)

-- ---- clauses

-- the kind of the property that a clause makes
abbrev pub kind_of : ClauseKind → Option Kind
kind_of C.Requires = Some K.Requires
kind_of C.Ensures = Some K.Ensures
kind_of C.Assigns = None
kind_of C.LoopInvariant = Some K.LoopInvariant
kind_of C.LoopAssigns = None
kind_of C.Assert = Some K.Assert
kind_of C.Check = Some K.Check
kind_of C.Admit = Some K.Admit

abbrev pub label_of : Option Ident → List ℕ
label_of None = []
label_of (Some n) = n.name

abbrev pub made : Context → Option Ident → Line → Formula → Option Kind → Option PointClause
made c label line f None = None
made c label line f (Some kind) =
    Some (record { kind = kind; label = label_of label; line = line; pred = (part_of f).value c })

abbrev pub made_by : Context → ClauseKind → Option Ident → Line → ClauseBody → Option PointClause
made_by c kind label line (B.Says f) = made c label line f (kind_of kind)
made_by c kind label line (B.Places ls) = None

-- what is checked or taken as true at the clause's point; `assigns` makes nothing
abbrev pub clause_of : List InScope → View → Clause → Option PointClause
clause_of names v c = made_by (context names (seen v c.kind) []) c.kind c.label c.line c.body

abbrev pub body_faults : Context → Context → ClauseBody → Breaches
body_faults c outside (B.Says f) = (part_of f).faults c
body_faults c outside (B.Places ls) = places_faults outside ls

-- the breaches of the clause
abbrev pub clause_faults : List InScope → View → Clause → Breaches
clause_faults names v c = body_faults (context names (seen v c.kind) []) (context names plain []) c.body
