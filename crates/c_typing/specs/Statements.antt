-- Statements (C11 6.8): their typed trees, points, scopes and breaches.
use Rattle.std.specs.Prelude.{ℕ, true, not, List, [], ◌∷◌, ◌++◌, Option, Some, None}
use Rattle.fc_base.specs.declared.ids.PointId.{PointId}
use Rattle.fc_base.specs.declared.syntax.Spot.{Spot}
use Rattle.c_ast.specs.declared.expr.Expr.{Expr}
use Rattle.c_ast.specs.declared.expr.Spec.{Spec}
use Rattle.c_ast.specs.declared.stmt.Declr.{Declr}
use Rattle.c_ast.specs.declared.stmt.First.{First}
use Rattle.c_ast.specs.declared.stmt.First.TheVariants as F
use Rattle.c_ast.specs.declared.stmt.Stmt.{Stmt, fold-Stmt}
use Rattle.c_ast.specs.declared.stmt.Stmt.TheOpen.{Stmt-F}
use Rattle.c_ast.specs.declared.stmt.Sub.{Sub, Sub-F, fold-Sub}
use Rattle.c_ir.specs.declared.note.InScope.{InScope}
use Rattle.c_ir.specs.declared.ty.IntType.{IntType}
use Rattle.c_ir.specs.declared.tree.Expr.{Expr as Typed}
use Rattle.c_ir.specs.declared.tree.Stmt.{Stmt as TypedStmt, roll-Stmt}
use Rattle.c_ir.specs.declared.tree.Stmt.TheOpen.{Stmt-F as TypedStmt-F}
use Rattle.c_rules.specs.Breaches.{Breaches, one, only_if}
use Rattle.c_rules.specs.Typing.{converted}
use Rattle.c_rules.specs.declared.breach.Fault.TheVariants as B
use Rattle.c_ir.specs.declared.place.Place.TheVariants as P
use Rattle.c_typing.specs.Declarations.{declaration}
use Rattle.c_typing.specs.Meaning.{meaning}
use Rattle.c_typing.specs.Walking.{Walking, pure, ◌>>=◌, breach, alone, value_of, aside, new_point, new_note}
use Rattle.c_typing.specs.declared.context.Context.{Context}

-- a statement, as its parent sees it; a note directly before it waits for it, since in front of a `for` the note can
-- name what the head of the `for` declares
pub record Meant : Type 0 where
  -- the place of a note
  pub note : Option Spot
  pub walk : Context → Option Spot → Walking (List TypedStmt)

abbrev pub single : TypedStmt-F TypedStmt → Walking (List TypedStmt)
single s = pure (roll-Stmt s ∷ [])

-- ---- notes

abbrev pub with_declared : {X : Type 0} → (List InScope → Walking X) → Walking X
with_declared f = λ s m. f s.declared s m

abbrev pub with_cells : {X : Type 0} → (ℕ → Walking X) → Walking X
with_cells f = λ s m. f m.cells s m

-- the note that waits, if there is one
abbrev pub noted : Context → Option Spot → List InScope → Walking (Unit {0})
noted ctx None before = pure tt
noted ctx (Some at) before = new_note (Some ctx.owner) at before

unfoldable pub note_waiting : Context → Option Spot → Walking (Unit {0})
note_waiting ctx waiting = with_declared (λ before. noted ctx waiting before)

-- ---- lists

abbrev pub note_of : Spot → TypedStmt
note_of at = roll-Stmt (TypedStmt-F.Note at)

-- what was made, and the note that waits
abbrev pub Notes : Type 0
Notes = Option Spot × List TypedStmt

abbrev pub next_by : Context → Option Spot → Option Spot → Meant → List TypedStmt → Walking Notes
next_by ctx waiting None s done = s.walk ctx waiting >>= (λ xs. pure (None, done ++ xs))
next_by ctx waiting (Some at) s done = note_waiting ctx waiting >>= (λ _. pure (Some at, done ++ note_of at ∷ []))

-- a statement after those that were made
unfoldable pub next : Context → Option Spot → Meant → List TypedStmt → Walking Notes
next ctx waiting s done = next_by ctx waiting s.note s done

abbrev pub stmts_from : Context → Option Spot → List Meant → List TypedStmt → Walking (List TypedStmt)
stmts_from ctx waiting [] done = note_waiting ctx waiting >>= (λ _. pure done)
stmts_from ctx waiting (s ∷ ss) done = next ctx waiting s done >>= (λ n. stmts_from ctx n.0 ss n.1)

-- the notes before a governed statement
abbrev pub notes_from : Context → Option Spot → List Spot → List TypedStmt → Walking Notes
notes_from ctx waiting [] done = pure (waiting, done)
notes_from ctx waiting (at ∷ more) done =
    note_waiting ctx waiting >>= (λ _. notes_from ctx (Some at) more (done ++ note_of at ∷ []))

abbrev pub Governed : Type 0
Governed = Context → Walking (List TypedStmt)

-- in a block whose objects begin at this cell
abbrev pub inner : Context → ℕ → Context
inner ctx since = record ctx { since = since; formals_to = 0 }

abbrev pub looping : Context → Context
looping ctx = record ctx { in_loop = true }

-- ---- single statements

-- a statement that begins at this place
abbrev pub point_at : Context → Option Spot → Spot → Walking PointId
point_at ctx waiting at = note_waiting ctx waiting >>= (λ _. new_point ctx.owner at.line)

-- an expression that is a statement
unfoldable pub dropped : Context → Expr → Walking (List TypedStmt)
dropped ctx e =
    new_point ctx.owner (meaning e).at.line >>= (λ p. value_of p P.Dropped e >>= (λ t. single (TypedStmt-F.Expression p t)))

unfoldable pub expression : Context → Option Spot → Spot → Expr → Walking (List TypedStmt)
expression ctx waiting at e =
    point_at ctx waiting at >>= (λ p. value_of p P.Dropped e >>= (λ t. single (TypedStmt-F.Expression p t)))

abbrev pub branch : Option Governed → Context → Walking (List TypedStmt)
branch None ctx = pure []
branch (Some s) ctx = s ctx

abbrev pub if_stmt : Context → Option Spot → Spot → Expr → Governed → Option Governed → Walking (List TypedStmt)
if_stmt ctx waiting at c main other =
    point_at ctx waiting at >>= (λ p. value_of p P.Inner c >>= (λ t. main ctx >>= (λ ys. branch other ctx >>= (λ ns.
    single (TypedStmt-F.If p t ys ns)))))

abbrev pub while_stmt : Context → Option Spot → Spot → Expr → Governed → Walking (List TypedStmt)
while_stmt ctx waiting at c body =
    point_at ctx waiting at >>= (λ p. value_of p P.Inner c >>= (λ t. body (looping ctx) >>= (λ bs.
    single (TypedStmt-F.While p t bs))))

abbrev pub do_stmt : Context → Option Spot → Spot → Expr → Governed → Walking (List TypedStmt)
do_stmt ctx waiting at c body =
    point_at ctx waiting at >>= (λ p. body (looping ctx) >>= (λ bs. value_of p P.Inner c >>= (λ t.
    single (TypedStmt-F.DoWhile p bs t))))

abbrev pub head_of : Context → Option Spot → First → Walking (List TypedStmt)
head_of ctx waiting F.Nothing = note_waiting ctx waiting >>= (λ _. pure [])
head_of ctx waiting (F.Expression e) = note_waiting ctx waiting >>= (λ _. dropped ctx e)
head_of ctx waiting (F.Declare spec ds) = with_declared (λ before.
    declaration ctx spec ds >>= (λ ss. noted ctx waiting before >>= (λ _. pure ss)))

-- what stands first in the head of a `for`
unfoldable pub head : Context → Option Spot → First → Walking (List TypedStmt)
head = head_of

abbrev pub condition_of : PointId → Option Expr → Walking (Option Typed)
condition_of point None = pure None
condition_of point (Some c) = value_of point P.Inner c >>= (λ t. pure (Some t))

unfoldable pub condition : PointId → Option Expr → Walking (Option Typed)
condition = condition_of

abbrev pub update_of : Context → Option Expr → Walking (List TypedStmt)
update_of ctx None = pure []
update_of ctx (Some e) = dropped ctx e

unfoldable pub update : Context → Option Expr → Walking (List TypedStmt)
update = update_of

abbrev pub for_parts : Context → Option Spot → Spot → First → Option Expr → Option Expr → Governed → Walking (List TypedStmt)
for_parts ctx waiting at first c next body =
    head ctx waiting first >>= (λ hs. new_point ctx.owner at.line >>= (λ p. condition p c >>= (λ t.
    body (looping ctx) >>= (λ bs. update ctx next >>= (λ us. single (TypedStmt-F.For hs p t bs us))))))

-- the names of its head are those of a `for` alone (6.8.5, paragraph 5)
abbrev pub for_stmt : Context → Option Spot → Spot → First → Option Expr → Option Expr → Governed → Walking (List TypedStmt)
for_stmt ctx waiting at first c next body =
    alone (with_cells (λ since. for_parts (inner ctx since) waiting at first c next body))

-- `break` and `continue` stand in a loop (6.8.6)
abbrev pub loop_faults : Context → Spot → Breaches
loop_faults ctx at = only_if (not ctx.in_loop) at.span.from B.BadType

unfoldable pub break_stmt : Context → Option Spot → Spot → Walking (List TypedStmt)
break_stmt ctx waiting at =
    point_at ctx waiting at >>= (λ p. breach (loop_faults ctx at) >>= (λ _. single (TypedStmt-F.Break p)))

unfoldable pub continue_stmt : Context → Option Spot → Spot → Walking (List TypedStmt)
continue_stmt ctx waiting at =
    point_at ctx waiting at >>= (λ p. breach (loop_faults ctx at) >>= (λ _. single (TypedStmt-F.Continue p)))

-- a `return` has a value exactly where the function has a result (6.8.6.4)
abbrev pub returned : PointId → Spot → Option IntType → Option Expr → Walking (Option Typed)
returned p at None None = pure None
returned p at (Some ty) None = breach (one at.span.from B.BadType) >>= (λ _. pure None)
returned p at None (Some e) = breach (one at.span.from B.BadType) >>= (λ _. aside P.Value e >>= (λ _. pure None))
returned p at (Some ty) (Some e) = value_of p P.Value e >>= (λ t. pure (Some (converted ty t)))

unfoldable pub return_stmt : Context → Option Spot → Spot → Option Expr → Walking (List TypedStmt)
return_stmt ctx waiting at value =
    point_at ctx waiting at >>= (λ p. returned p at ctx.result value >>= (λ t. single (TypedStmt-F.Return p t)))

unfoldable pub empty_stmt : Context → Option Spot → Spot → Walking (List TypedStmt)
empty_stmt ctx waiting at = point_at ctx waiting at >>= (λ p. single (TypedStmt-F.Empty p))

unfoldable pub declare_stmt : Context → Option Spot → Spec → List Declr → Walking (List TypedStmt)
declare_stmt ctx waiting spec ds = note_waiting ctx waiting >>= (λ _. declaration ctx spec ds)

-- the names that a block declares are its own (6.8.2)
abbrev pub block_stmts : Context → List Meant → Walking (List TypedStmt)
block_stmts ctx ss = alone (with_cells (λ since. stmts_from (inner ctx since) None ss []))

abbrev pub block_stmt : Context → Option Spot → List Meant → Walking (List TypedStmt)
block_stmt ctx waiting ss =
    note_waiting ctx waiting >>= (λ _. block_stmts ctx ss >>= (λ xs. single (TypedStmt-F.Block xs)))

abbrev pub note_stmt : Context → Option Spot → Spot → Walking (List TypedStmt)
note_stmt ctx waiting at =
    note_waiting ctx waiting >>= (λ _. note_waiting ctx (Some at) >>= (λ _. single (TypedStmt-F.Note at)))

-- ---- all statements

abbrev pub meant : (Context → Option Spot → Walking (List TypedStmt)) → Meant
meant walk = record { note = None; walk = walk }

abbrev pub stmt_step : Stmt-F Meant Governed → Meant
stmt_step (Stmt-F.Declare at spec ds) = meant (λ ctx waiting. declare_stmt ctx waiting spec ds)
stmt_step (Stmt-F.Expression at e) = meant (λ ctx waiting. expression ctx waiting at e)
stmt_step (Stmt-F.If at c main other) = meant (λ ctx waiting. if_stmt ctx waiting at c main other)
stmt_step (Stmt-F.While at c body) = meant (λ ctx waiting. while_stmt ctx waiting at c body)
stmt_step (Stmt-F.DoWhile at body c) = meant (λ ctx waiting. do_stmt ctx waiting at c body)
stmt_step (Stmt-F.For at first c next body) = meant (λ ctx waiting. for_stmt ctx waiting at first c next body)
stmt_step (Stmt-F.Break at) = meant (λ ctx waiting. break_stmt ctx waiting at)
stmt_step (Stmt-F.Continue at) = meant (λ ctx waiting. continue_stmt ctx waiting at)
stmt_step (Stmt-F.Return at value) = meant (λ ctx waiting. return_stmt ctx waiting at value)
stmt_step (Stmt-F.Empty at) = meant (λ ctx waiting. empty_stmt ctx waiting at)
stmt_step (Stmt-F.Block at ss) = meant (λ ctx waiting. block_stmt ctx waiting ss)
stmt_step (Stmt-F.Note at) = record { note = Some at; walk = λ ctx waiting. note_stmt ctx waiting at }

-- a governed statement, after its notes
abbrev pub sub_step : Sub-F Meant Governed → Governed
sub_step s ctx =
    notes_from ctx None s.notes [] >>= (λ notes. s.stmt.walk ctx notes.0 >>= (λ xs. pure (notes.1 ++ xs)))

abbrev pub meant_of : Stmt → Meant
meant_of = fold-Stmt Meant Governed stmt_step sub_step

abbrev pub governed_of : Sub → Governed
governed_of = fold-Sub Meant Governed stmt_step sub_step
