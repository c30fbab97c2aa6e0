-- Where notes stand, and what becomes of each (ACSL manual: function contracts, loop annotations, assertions; the places
-- of breaches are this project's own).
use Rattle.std.specs.Prelude.{◌==◌, ℕ, Bool, true, false, not, ◌&&◌, List, [], ◌∷◌, ◌++◌, map, slice_get, Option, Some, None, position, if◌then◌else◌}
use Rattle.std.specs.Option.{option_and_then, option_map}
use Rattle.std.specs.List.{list_any}
use Rattle.fc_base.specs.declared.ids.FnId.{FnId}
use Rattle.c_ast.specs.declared.annot.Annot.{Annot}
use Rattle.c_ast.specs.declared.annot.AnnotKind.{AnnotKind}
use Rattle.c_ast.specs.declared.annot.AnnotKind.TheVariants as A
use Rattle.c_ast.specs.declared.annot.Clause.{Clause}
use Rattle.c_ir.specs.Bodies.{Stand, AtEntry, AtExit, AtLoop, AtNote, same_stand, stand_of}
use Rattle.c_ir.specs.Formed.{on_some}
use Rattle.c_ir.specs.declared.note.InScope.{InScope}
use Rattle.c_ir.specs.declared.note.NoteSpot.{NoteSpot}
use Rattle.c_ir.specs.declared.tree.Fun.{Fun}
use Rattle.c_ir.specs.declared.tree.PointClause.{PointClause}
use Rattle.c_ir.specs.declared.tree.PointInfo.{PointInfo}
use Rattle.c_ir.specs.declared.tree.Stmt.{Stmt, fold-Stmt}
use Rattle.c_ir.specs.declared.tree.Stmt.TheOpen.{Stmt-F}
use Rattle.acsl_terms.specs.Breaches.{Breaches, none, both, one}
use Rattle.acsl_terms.specs.Clauses.{clause_of, clause_faults}
use Rattle.acsl_terms.specs.declared.breach.NoteFault.TheVariants as N
use Rattle.acsl_terms.specs.declared.view.View.{View}
use Rattle.acsl_bind.specs.declared.notes.Where.{Where}
use Rattle.acsl_bind.specs.declared.notes.Where.TheVariants as W

-- ---- the notes of a body

abbrev pub all_places : List (List ℕ) → List ℕ
all_places [] = []
all_places (x ∷ xs) = x ++ all_places xs

abbrev pub places_step : Stmt-F (List ℕ) → List ℕ
places_step (Stmt-F.Declare p f n value) = []
places_step (Stmt-F.Expression p e) = []
places_step (Stmt-F.If p c ys ns) = all_places ys ++ all_places ns
places_step (Stmt-F.While p c bs) = all_places bs
places_step (Stmt-F.DoWhile p bs c) = all_places bs
places_step (Stmt-F.For hs p c bs us) = all_places hs ++ (all_places bs ++ all_places us)
places_step (Stmt-F.Break p) = []
places_step (Stmt-F.Continue p) = []
places_step (Stmt-F.Return p value) = []
places_step (Stmt-F.Empty p) = []
places_step (Stmt-F.Block ss) = all_places ss
places_step (Stmt-F.Note at) = at.span.from ∷ []
places_step (Stmt-F.Clause p) = []

-- the places of the notes that stand in these statements
abbrev pub places_of : List Stmt → List ℕ
places_of ss = all_places (map (fold-Stmt (List ℕ) places_step) ss)

abbrev pub places_in : Option (List Stmt) → List ℕ
places_in None = []
places_in (Some ss) = places_of ss

abbrev pub places_in_all : List Fun → List ℕ
places_in_all [] = []
places_in_all (f ∷ fs) = places_in f.body ++ places_in_all fs

-- ---- notes with their spots

-- the notes and the points of a skeleton
pub record Source : Type 0 where
  pub spots : List NoteSpot
  pub points : List PointInfo

pub record Noted : Type 0 where
  pub spot : NoteSpot
  pub annot : Annot

abbrev pub stands_at : ℕ → NoteSpot → Bool
stands_at at spot = spot.at.span.from == at

abbrev pub with_spot : Option NoteSpot → Option Annot → Option Noted
with_spot None a = None
with_spot (Some s) None = None
with_spot (Some s) (Some a) = Some (record { spot = s; annot = a })

-- the note of this number
abbrev pub note_number : List NoteSpot → List Annot → ℕ → Option Noted
note_number spots annots n = with_spot (slice_get spots n) (slice_get annots n)

-- the note at this place
unfoldable pub note_at : List NoteSpot → List Annot → ℕ → Option Noted
note_at spots annots at = option_and_then (note_number spots annots) (position (stands_at at) spots)

abbrev pub is_of : ℕ → Noted → Bool
is_of function n = on_some (λ f. f.0 == function) n.spot.owner

-- ---- clauses of a note

-- what the clauses become, in their order; `assigns` clauses become nothing
abbrev pub add : Option PointClause → List PointClause → List PointClause
add None cs = cs
add (Some c) cs = c ∷ cs

abbrev pub clauses_of : List InScope → View → List Clause → List PointClause
clauses_of names view [] = []
clauses_of names view (c ∷ cs) = add (clause_of names view c) (clauses_of names view cs)

abbrev pub clauses_faults : List InScope → View → List Clause → Breaches
clauses_faults names view [] = none
clauses_faults names view (c ∷ cs) = both (clause_faults names view c) (clauses_faults names view cs)

-- whether a clause of this kind stands there
abbrev pub stands_as : Stand → PointClause → Bool
stands_as stand c = on_some (same_stand stand) (stand_of c.kind)

abbrev pub keep : Bool → PointClause → List PointClause → List PointClause
keep true c cs = c ∷ cs
keep false c cs = cs

-- where a clause stands
abbrev pub stand_at : Where → Stand
stand_at W.Entry = AtEntry
stand_at W.Exit = AtExit
stand_at W.Loop = AtLoop
stand_at W.Note = AtNote

-- those that stand there
abbrev pub standing : Stand → List PointClause → List PointClause
standing stand [] = []
standing stand (c ∷ cs) = keep (stands_as stand c) c (standing stand cs)

-- the note isn't allowed where it stands, which is said of its first word
abbrev pub misplaced : Annot → Breaches
misplaced a = one a.at.span.from N.NotHere
