-- The walk that makes a program of a skeleton and its notes (ACSL manual: function contracts, loop annotations,
-- assertions; points are this project's own). Each statement note becomes a statement with a point of its own; the clauses
-- of a loop's note stand at the loop's point, those of a contract at the entry and the exit of its function. Points are
-- numbered anew, function by function.
use Rattle.std.specs.Prelude.{◌≡◌, ℕ, Bool, true, false, List, [], ◌∷◌, ◌++◌, length, slice_get, Option, Some, None, Result, Ok, Err, if◌then◌else◌}
use Rattle.std.specs.declared.alloc.AllocError.{AllocError}
use Rattle.fc_base.specs.declared.ids.FnId.{FnId}
use Rattle.fc_base.specs.declared.ids.Line.{Line}
use Rattle.fc_base.specs.declared.ids.PointId.{PointId}
use Rattle.fc_base.specs.declared.syntax.Spot.{Spot}
use Rattle.c_ast.specs.declared.annot.Annot.{Annot}
use Rattle.c_ast.specs.declared.annot.AnnotKind.{AnnotKind}
use Rattle.c_ast.specs.declared.annot.AnnotKind.TheVariants as A
use Rattle.c_ir.specs.Bodies.{AtLoop, AtNote}
use Rattle.c_ir.specs.declared.note.NoteSpot.{NoteSpot}
use Rattle.c_ir.specs.declared.tree.Expr.{Expr}
use Rattle.c_ir.specs.declared.tree.PointClause.{PointClause}
use Rattle.c_ir.specs.declared.tree.PointInfo.{PointInfo}
use Rattle.c_ir.specs.declared.tree.Stmt.{Stmt, fold-Stmt, roll-Stmt}
use Rattle.c_ir.specs.declared.tree.Stmt.TheOpen.{Stmt-F}
use Rattle.acsl_terms.specs.Breaches.{Breaches, none, both, least}
use Rattle.acsl_terms.specs.Clauses.{plain}
use Rattle.acsl_bind.specs.Notes.{Source, Noted, note_at, is_of, clauses_of, clauses_faults, standing, misplaced}
use Rattle.acsl_bind.specs.declared.bound.Bound.{Bound}
use Rattle.acsl_bind.specs.declared.bound.Bound.TheVariants as B
use Rattle.acsl_bind.specs.declared.walk.Walk.{Walk}

-- ---- walks

-- the points so far, and the new number of each point of the skeleton's function so far, in their order
pub record Made : Type 0 where
  pub points : List PointInfo
  pub moved : List ℕ

pub record Went (X : Type 0) : Type 0 where
  pub value : X
  pub made : Made
  pub breaches : Breaches

abbrev pub Placing : Type 0 → Type 0
Placing X = Made → Went X

abbrev pub pure : {X : Type 0} → X → Placing X
pure x = λ m. record { value = x; made = m; breaches = none }

abbrev pub after : {X Y : Type 0} → Went X → Went Y → Went Y
after a b = record { value = b.value; made = b.made; breaches = both a.breaches b.breaches }

infixl 10 ◌>>=◌
abbrev pub ◌>>=◌ : {X Y : Type 0} → Placing X → (X → Placing Y) → Placing Y
p >>= f = λ m. after (p m) (f (p m).value (p m).made)

abbrev pub faulty : {X : Type 0} → X → Breaches → Placing X
faulty x b = λ m. record { value = x; made = m; breaches = b }

-- ---- where the walk is

-- the skeleton's notes and points, the notes that were read, and the function
pub record Scene : Type 0 where
  pub spots : List NoteSpot
  pub annots : List Annot
  pub points : List PointInfo
  pub function : FnId

abbrev pub scene : Source → List Annot → FnId → Scene
scene s annots function = record { spots = s.spots; annots = annots; points = s.points; function = function }

-- ---- points

-- a point more, with these clauses
unfoldable pub new_point : FnId → Line → List PointClause → Placing PointId
new_point owner line clauses = λ m. record {
  value = record { 0 = length m.points };
  made = record m { points = m.points ++ (record { owner = owner; line = line; clauses = clauses }) ∷ [] };
  breaches = none;
}

abbrev pub line_in : Option PointInfo → Line
line_in None = record { 0 = 0 }
line_in (Some p) = p.line

-- a point of the skeleton, with these clauses
unfoldable pub moved_point : List PointInfo → FnId → PointId → List PointClause → Placing PointId
moved_point points function p clauses = λ m. record {
  value = record { 0 = length m.points };
  made = record {
    points = m.points ++ (record { owner = function; line = line_in (slice_get points p.0); clauses = clauses }) ∷ [];
    moved = m.moved ++ length m.points ∷ [];
  };
  breaches = none;
}

abbrev pub moved : Scene → PointId → List PointClause → Placing PointId
moved sc p clauses = moved_point sc.points sc.function p clauses

-- ---- notes of a body

abbrev pub statement_of : List PointClause → Bound
statement_of [] = B.Nothing
statement_of (c ∷ cs) = B.Statement c

-- a note, where a loop comes directly after it or not
abbrev pub bound_by : Bool → Noted → AnnotKind → Placing Bound
bound_by before_loop n A.CodeNote =
    faulty (statement_of (standing AtNote (clauses_of n.spot.before plain n.annot.clauses)))
    (clauses_faults n.spot.before plain n.annot.clauses)
bound_by true n A.LoopNote =
    faulty (B.Invariants (standing AtLoop (clauses_of n.spot.names plain n.annot.clauses)))
    (clauses_faults n.spot.names plain n.annot.clauses)
bound_by false n A.LoopNote = faulty B.Nothing (misplaced n.annot)
bound_by before_loop n A.Contract = faulty B.Nothing (misplaced n.annot)

abbrev pub bound_if : ℕ → Bool → Option Noted → Placing Bound
bound_if function before_loop None = pure B.Nothing
bound_if function before_loop (Some n) =
    if is_of function n then bound_by before_loop n n.annot.kind else pure B.Nothing

unfoldable pub bound_note : Scene → Bool → Spot → Placing Bound
bound_note sc before_loop at = bound_if sc.function.0 before_loop (note_at sc.spots sc.annots at.span.from)

-- ---- statements

-- a statement, as its parent sees it
pub record Placed : Type 0 where
  -- the place of a note
  pub note : Option Spot
  pub is_loop : Bool
  -- with these clauses at its point
  pub walk : List PointClause → Placing Stmt

abbrev pub placed : Placing Stmt → Placed
placed walk = record { note = None; is_loop = false; walk = λ clauses. walk }

abbrev pub loop : (List PointClause → Placing Stmt) → Placed
loop walk = record { note = None; is_loop = true; walk = walk }

abbrev pub heads_loop : List Placed → Bool
heads_loop [] = false
heads_loop (s ∷ ss) = s.is_loop

-- the clauses for the next statement, and what was made
abbrev pub Notes : Type 0
Notes = List PointClause × List Stmt

abbrev pub with_bound : FnId → Bound → List Stmt → Placing Notes
with_bound function B.Nothing done = pure ([], done)
with_bound function (B.Statement c) done =
    new_point function c.line (c ∷ []) >>= (λ p. pure ([], done ++ roll-Stmt (Stmt-F.Clause p) ∷ []))
with_bound function (B.Invariants cs) done = pure (cs, done)

abbrev pub next_by : Scene → List PointClause → Option Spot → Bool → (List PointClause → Placing Stmt) → List Stmt → Placing Notes
next_by sc clauses None before_loop walk done = walk clauses >>= (λ s. pure ([], done ++ s ∷ []))
next_by sc clauses (Some at) before_loop walk done = bound_note sc before_loop at >>= (λ b. with_bound sc.function b done)

-- a statement after those that were made
unfoldable pub next : Scene → List PointClause → Placed → Bool → List Stmt → Placing Notes
next sc clauses s before_loop done = next_by sc clauses s.note before_loop s.walk done

abbrev pub stmts_from : Scene → List PointClause → List Placed → List Stmt → Placing (List Stmt)
stmts_from sc clauses [] done = pure done
stmts_from sc clauses (s ∷ ss) done = next sc clauses s (heads_loop ss) done >>= (λ n. stmts_from sc n.0 ss n.1)

abbrev pub stmts : Scene → List Placed → Placing (List Stmt)
stmts sc ss = stmts_from sc [] ss []

abbrev pub single : Stmt-F Stmt → Placing Stmt
single s = pure (roll-Stmt s)

-- a statement that governs no other, at its point
abbrev pub at_point : List PointInfo → FnId → PointId → (PointId → Stmt-F Stmt) → Placing Stmt
at_point points function p s = moved_point points function p [] >>= (λ q. single (s q))

abbrev pub simple : Scene → PointId → (PointId → Stmt-F Stmt) → Placed
simple sc p s = placed (at_point sc.points sc.function p s)

abbrev pub if_stmt : Scene → PointId → Expr → List Placed → List Placed → Placing Stmt
if_stmt sc p c ys ns = moved sc p [] >>= (λ q. stmts sc ys >>= (λ ys. stmts sc ns >>= (λ ns. single (Stmt-F.If q c ys ns))))

abbrev pub while_stmt : Scene → PointId → Expr → List Placed → List PointClause → Placing Stmt
while_stmt sc p c bs clauses = moved sc p clauses >>= (λ q. stmts sc bs >>= (λ bs. single (Stmt-F.While q c bs)))

abbrev pub do_stmt : Scene → PointId → List Placed → Expr → List PointClause → Placing Stmt
do_stmt sc p bs c clauses = moved sc p clauses >>= (λ q. stmts sc bs >>= (λ bs. single (Stmt-F.DoWhile q bs c)))

abbrev pub for_stmt : Scene → List Placed → PointId → Option Expr → List Placed → List Placed → List PointClause → Placing Stmt
for_stmt sc hs p c bs us clauses =
    stmts sc hs >>= (λ hs. moved sc p clauses >>= (λ q. stmts sc bs >>= (λ bs. stmts sc us >>= (λ us.
    single (Stmt-F.For hs q c bs us)))))

abbrev pub block_stmt : Scene → List Placed → Placing Stmt
block_stmt sc ss = stmts sc ss >>= (λ ss. single (Stmt-F.Block ss))

-- a skeleton has no clause in its trees; were there one, it would be an empty statement
abbrev pub placed_step : Scene → Stmt-F Placed → Placed
placed_step sc (Stmt-F.Declare p f n value) = simple sc p (λ q. Stmt-F.Declare q f n value)
placed_step sc (Stmt-F.Expression p e) = simple sc p (λ q. Stmt-F.Expression q e)
placed_step sc (Stmt-F.If p c ys ns) = placed (if_stmt sc p c ys ns)
placed_step sc (Stmt-F.While p c bs) = loop (while_stmt sc p c bs)
placed_step sc (Stmt-F.DoWhile p bs c) = loop (do_stmt sc p bs c)
placed_step sc (Stmt-F.For hs p c bs us) = loop (for_stmt sc hs p c bs us)
placed_step sc (Stmt-F.Break p) = simple sc p (λ q. Stmt-F.Break q)
placed_step sc (Stmt-F.Continue p) = simple sc p (λ q. Stmt-F.Continue q)
placed_step sc (Stmt-F.Return p value) = simple sc p (λ q. Stmt-F.Return q value)
placed_step sc (Stmt-F.Empty p) = simple sc p (λ q. Stmt-F.Empty q)
placed_step sc (Stmt-F.Block ss) = placed (block_stmt sc ss)
placed_step sc (Stmt-F.Note at) = record { note = Some at; is_loop = false; walk = λ clauses. single (Stmt-F.Note at) }
placed_step sc (Stmt-F.Clause p) = simple sc p (λ q. Stmt-F.Empty q)

abbrev pub placed_of : Scene → Stmt → Placed
placed_of sc = fold-Stmt Placed (placed_step sc)

-- ---- what functions of the code leave

abbrev pub made_of : Walk → Made
made_of w = record { points = w.points; moved = w.moved }

-- what a function returned and left is what the walk gives, unless memory ran out
pub record Is {X : Type 0} (w : Went X) (x : X) (old new : Walk) : Type 0 where
  pub value : w.value ≡ x
  pub made : w.made ≡ made_of new
  pub first : new.first ≡ least old.first w.breaches

abbrev pub Places : {X : Type 0} → Went X → Result X AllocError → Walk → Walk → Type 0
Places w (Ok x) old new = Is w x old new
Places w (Err e) old new = Unit {0}
