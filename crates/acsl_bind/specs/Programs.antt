-- The program of a skeleton and the annotations of its notes, and what is answered where there is none: the first breach
-- of the rules, in the order of the text.
use Rattle.std.specs.Prelude.{◌≡◌, ◌==◌, ◌-◌, ◌+◌, ℕ, Bool, true, false, not, ◌&&◌, List, [], ◌∷◌, ◌++◌, map, slice_get, slice_index_or, if◌then◌else◌, Option, Some, None, Result, Ok, Err}
use Rattle.std.specs.List.{list_any}
use Rattle.fc_base.specs.declared.ids.FnId.{FnId}
use Rattle.fc_base.specs.declared.ids.PointId.{PointId}
use Rattle.c_ast.specs.declared.annot.Annot.{Annot}
use Rattle.c_ast.specs.declared.annot.AnnotKind.{AnnotKind}
use Rattle.c_ast.specs.declared.annot.AnnotKind.TheVariants as A
use Rattle.c_ir.specs.Bodies.{AtEntry, AtExit}
use Rattle.c_ir.specs.Programs.{Program}
use Rattle.c_ir.specs.declared.note.NoteSpot.{NoteSpot}
use Rattle.c_ir.specs.declared.program.Skeleton.{Skeleton}
use Rattle.c_ir.specs.declared.tree.Fun.{Fun}
use Rattle.c_ir.specs.declared.tree.PointClause.{PointClause}
use Rattle.c_ir.specs.declared.tree.PointInfo.{PointInfo}
use Rattle.c_ir.specs.declared.tree.SiteInfo.{SiteInfo}
use Rattle.c_ir.specs.declared.tree.Stmt.{Stmt}
use Rattle.acsl_terms.specs.Breaches.{Breaches, none, both, least}
use Rattle.acsl_terms.specs.declared.breach.NoteBreach.{NoteBreach}
use Rattle.acsl_terms.specs.declared.breach.NoteFault.{NoteFault}
use Rattle.acsl_terms.specs.declared.breach.NoteFault.TheVariants as N
use Rattle.acsl_terms.specs.declared.view.View.{View}
use Rattle.acsl_bind.specs.Notes.{Noted, with_spot, is_of, clauses_of, clauses_faults, standing, misplaced, places_in_all}
use Rattle.acsl_bind.specs.Placing.{Made, Went, Placing, Scene, pure, ◌>>=◌, faulty, moved, stmts, placed_of}
use Rattle.acsl_bind.specs.declared.fault.BindFault.{BindFault}
use Rattle.acsl_bind.specs.declared.fault.BindFault.TheVariants as B

-- ---- notes outside bodies

-- the notes with their annotations, one for one
abbrev pub noted_all : List NoteSpot → List Annot → List Noted
noted_all [] annots = []
noted_all (s ∷ ss) [] = []
noted_all (s ∷ ss) (a ∷ more) = record { spot = s; annot = a } ∷ noted_all ss more

-- in no body, where these are the places of the notes of bodies
abbrev pub is_outside : List ℕ → Noted → Bool
is_outside inside n = not (list_any (λ at. n.spot.at.span.from == at) inside)

abbrev pub is_contract : AnnotKind → Bool
is_contract A.Contract = true
is_contract A.LoopNote = false
is_contract A.CodeNote = false

abbrev pub is_contract_of : ℕ → Noted → Bool
is_contract_of function n = is_of function n && is_contract n.annot.kind

abbrev pub first_such : (Noted → Bool) → List Noted → Option Noted
first_such test [] = None
first_such test (n ∷ ns) = if test n then Some n else first_such test ns

-- the contract of a function; one that stands in a body is in breach there
unfoldable pub contract_of : List Noted → ℕ → Option Noted
contract_of ns function = first_such (is_contract_of function) ns

-- a contract may stand directly before a function, and no other note may stand outside bodies
abbrev pub is_owned : Option FnId → Bool
is_owned None = false
is_owned (Some f) = true

abbrev pub stray : Bool → Noted → Breaches
stray true n = misplaced n.annot
stray false n = none

abbrev pub stray_of : List ℕ → Noted → Breaches
stray_of inside n = stray (is_outside inside n && not (is_owned n.spot.owner && is_contract n.annot.kind)) n

abbrev pub strays : List ℕ → List Noted → Breaches
strays inside [] = none
strays inside (n ∷ ns) = both (stray_of inside n) (strays inside ns)

-- ---- functions

-- what an `ensures` of the function sees
abbrev pub view_of : Fun → View
view_of f = record { formals = f.formals; result = f.result; old = true }

abbrev pub contract_clauses : Fun → Option Noted → Placing (List PointClause)
contract_clauses f None = pure []
contract_clauses f (Some n) =
    faulty (clauses_of n.spot.names (view_of f) n.annot.clauses) (clauses_faults n.spot.names (view_of f) n.annot.clauses)

abbrev pub body_of : Scene → Option (List Stmt) → Placing (Option (List Stmt))
body_of sc None = pure None
body_of sc (Some ss) = stmts sc (map (placed_of sc) ss) >>= (λ ss. pure (Some ss))

-- a function with its contract
unfoldable pub function : Scene → Option Noted → Fun → Placing Fun
function sc contract f =
    contract_clauses f contract >>= (λ clauses.
    moved sc f.entry (standing AtEntry clauses) >>= (λ entry.
    body_of sc f.body >>= (λ body.
    moved sc f.exit (standing AtExit clauses) >>= (λ exit.
    pure (record { name = f.name; formals = f.formals; result = f.result; body = body; entry = entry; exit = exit })))))

-- what the walk over functions is over
pub record Text : Type 0 where
  pub spots : List NoteSpot
  pub annots : List Annot
  pub points : List PointInfo

abbrev pub scene : Text → ℕ → Scene
scene t number = record { spots = t.spots; annots = t.annots; points = t.points; function = record { 0 = number } }

-- the functions, and for each of them the new numbers of its points
abbrev pub Moved : Type 0
Moved = List Fun × List (List ℕ)

-- the numbers of a function's points are set apart
abbrev pub apart : {X : Type 0} → (List ℕ → Placing X) → Placing X
apart p = λ m. p m.moved (record { points = m.points; moved = [] })

abbrev pub functions_from : Text → ℕ → List Fun → List Fun → List (List ℕ) → Placing Moved
functions_from t number [] done moves = pure (done, moves)
functions_from t number (f ∷ fs) done moves =
    function (scene t number) (contract_of (noted_all t.spots t.annots) number) f >>= (λ g.
    apart (λ of_g. functions_from t (number + 1) fs (done ++ g ∷ []) (moves ++ of_g ∷ [])))

-- ---- operators

abbrev pub entry_in : Option Fun → ℕ
entry_in None = 0
entry_in (Some f) = f.entry.0

abbrev pub moved_by : List Fun → List (List ℕ) → PointId → Option PointInfo → PointId
moved_by fns moves p None = p
moved_by fns moves p (Some info) = record {
  0 = slice_index_or (slice_index_or moves info.owner.0 []) (p.0 - entry_in (slice_get fns info.owner.0)) 0;
}

-- the new number of a point: that of its place in its function
unfoldable pub moved_to : Program → List (List ℕ) → PointId → PointId
moved_to p moves q = moved_by p.fns moves q (slice_get p.points q.0)

abbrev pub moved_site : Program → List (List ℕ) → SiteInfo → SiteInfo
moved_site p moves s = record { point = moved_to p moves s.point; checks = s.checks }

-- ---- programs

abbrev pub text_of : Skeleton → List Annot → Text
text_of s annots = record {
  spots = s.notes;
  annots = annots;
  points = s.program.points;
}

abbrev pub walk_of : Skeleton → List Annot → Went Moved
walk_of s annots = functions_from (text_of s annots) 0 s.program.fns [] [] (record { points = []; moved = [] })

-- the breaches of all notes
abbrev pub faults_of : Skeleton → List Annot → Breaches
faults_of s annots =
    both (strays (places_in_all s.program.fns) (noted_all s.notes annots)) (walk_of s annots).breaches

-- cells stay as they are, and so do the checks of operators
abbrev pub program_of : Skeleton → List Annot → Program
program_of s annots = record {
  fns = (walk_of s annots).value.0;
  cells = s.program.cells;
  points = (walk_of s annots).made.points;
  sites = map (moved_site s.program (walk_of s annots).value.1) s.program.sites;
}

-- ---- answers

abbrev pub fault_by : ℕ → NoteFault → BindFault
fault_by at (N.Unknown x) = B.Unknown x
fault_by at N.NotHere = B.NotHere at
fault_by at N.BadType = B.BadType at

abbrev pub fault_of : NoteBreach → BindFault
fault_of b = fault_by b.at b.fault

abbrev pub Judges : Skeleton → List Annot → Option NoteBreach → Result Program BindFault → Type 0
Judges s annots None (Ok p) = p ≡ program_of s annots
Judges s annots None (Err B.Memory) = Unit {0}
Judges s annots None (Err e) = ⊥
Judges s annots (Some b) (Ok p) = ⊥
Judges s annots (Some b) (Err B.Memory) = Unit {0}
Judges s annots (Some b) (Err e) = e ≡ fault_of b

-- what is answered of a skeleton and the annotations of its notes
abbrev pub Binds : Skeleton → List Annot → Result Program BindFault → Type 0
Binds s annots r = Judges s annots (least None (faults_of s annots)) r
