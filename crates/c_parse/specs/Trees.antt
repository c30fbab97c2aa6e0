-- What the productions of C make of their parts: trees, with the place of each node.
--
-- Value   what a production gives to those above it
-- make    what each production makes, in the order of the table
use Rattle.std.specs.Prelude.{◌++◌, ◌∷◌, [], ℕ, List, true, false, Option, Some, None}
use Rattle.fc_base.specs.declared.ids.Line.{Line}
use Rattle.fc_base.specs.declared.syntax.Spot.{Spot}
use Rattle.c_lex.specs.declared.token.Token.{Token}
use Rattle.c_lex.specs.declared.token.TokenKind.TheVariants as T
use Rattle.c_ast.specs.declared.expr.Ident.{Ident}
use Rattle.c_ast.specs.declared.expr.Spec.{Spec}
use Rattle.c_ast.specs.declared.expr.SpecWord.{SpecWord}
use Rattle.c_ast.specs.declared.expr.Expr.{Expr}
use Rattle.c_ast.specs.declared.expr.Expr.TheVariants as E
use Rattle.c_ast.specs.declared.stmt.Declr.{Declr}
use Rattle.c_ast.specs.declared.stmt.Length.TheVariants as N
use Rattle.c_ast.specs.declared.stmt.Init.TheVariants as I
use Rattle.c_ast.specs.declared.stmt.First.{First}
use Rattle.c_ast.specs.declared.stmt.First.TheVariants as F
use Rattle.c_ast.specs.declared.stmt.Stmt.{Stmt}
use Rattle.c_ast.specs.declared.stmt.Stmt.TheVariants as S
use Rattle.c_ast.specs.Subs.{sub_of}
use Rattle.c_ast.specs.declared.unit.Item.{Item}
use Rattle.c_ast.specs.declared.unit.Item.TheVariants as U
use Rattle.c_ast.specs.declared.unit.Storage.{Storage}
use Rattle.c_ast.specs.declared.unit.Formal.{Formal}
use Rattle.c_parse.specs.declared.part.Part.{Part}
use Rattle.c_parse.specs.declared.part.Ending.{Ending}
use Rattle.c_parse.specs.declared.part.Ending.TheVariants as G
use Rattle.c_parse.specs.declared.part.Bracketed.{Bracketed}
use Rattle.c_parse.specs.declared.part.Started.{Started}
use Rattle.c_parse.specs.declared.part.DeclrRest.{DeclrRest}
use Rattle.c_parse.specs.declared.part.Placed.{Placed}
use Rattle.c_parse.specs.declared.part.Governed.{Governed}
use Rattle.c_parse.specs.declared.part.Braced.{Braced}
use Rattle.c_parse.specs.declared.part.Head.{Head}
use Rattle.c_parse.specs.declared.part.Stored.{Stored}
use Rattle.c_parse.specs.declared.part.Ended.{Ended}
use Rattle.c_parse.specs.declared.part.Named.{Named}
use Rattle.c_parse.specs.declared.part.Named.TheVariants as M
use Rattle.grammar_forms.specs.Forms.{Parts, NoPart, One, Two, First as Left, Second as Right, Made}
use Rattle.c_parse.specs.Places.{spot_of, reach, up_to, ident_of}
use Rattle.c_parse.specs.Words.{binary_op, assign_op, prefix_of, prefixed, is_up, spec_word, storage, literal}
use Rattle.c_parse.specs.Table as R

pub data Value : Type 0 where
  OfPart : Part → Value
  OfJoins : List (Token × Part) → Value
  OfEnds : List (Ending × Token) → Value
  OfExprs : List Expr → Value
  OfMaybe : Option Expr → Value
  OfSpec : Spec → Value
  OfWords : List Token → Value
  OfName : Option Ident → Value
  OfBracketed : Bracketed → Value
  OfStarted : Started → Value
  OfRest : DeclrRest → Value
  OfDeclr : Declr → Value
  OfDeclrs : List Declr → Value
  OfSpot : Spot → Value
  OfSpots : List Spot → Value
  OfNothing : Value
  OfPlaced : Placed → Value
  OfGoverned : Governed → Value
  OfElse : Option Governed → Value
  OfHead : Head → Value
  OfFirst : First → Value
  OfBraced : Braced → Value
  OfStmt : Stmt → Value
  OfStmts : List Stmt → Value
  OfFormal : Formal → Value
  OfFormals : List Formal → Value
  OfEnded : Ended → Value
  OfNamed : Named → Value
  OfItem : Item → Value
  OfItems : List Item → Value

abbrev pub Found : Type 0
Found = Parts Token Value

-- The parts of a value. What stands where no value of its kind is, no production makes.

abbrev pub nowhere : Spot
nowhere = record { span = record { from = 0; to = 0 }; line = record { 0 = 1 } }

abbrev pub no_token : Token
no_token = record { kind = T.NoteTo; span = record { from = 0; to = 0 }; line = record { 0 = 1 } }

abbrev pub no_expr : Expr
no_expr = literal T.NoteTo nowhere

abbrev pub fst : Found → Found
fst (Two v w) = v
fst v = NoPart

abbrev pub snd : Found → Found
snd (Two v w) = w
snd v = NoPart

-- the alternative that was taken
abbrev pub taken : Found → Found
taken (Left v) = v
taken (Right v) = taken v
taken v = v

abbrev pub token_in : Found → Token
token_in (One t) = t
token_in v = no_token

abbrev pub spot_in : Found → Spot
spot_in v = spot_of (token_in v)

abbrev pub part_in : Found → Part
part_in (Made (OfPart x)) = x
part_in v = record { expr = no_expr; place = nowhere; is_unary = false }

abbrev pub joins_in : Found → List (Token × Part)
joins_in (Made (OfJoins x)) = x
joins_in v = []

abbrev pub ends_in : Found → List (Ending × Token)
ends_in (Made (OfEnds x)) = x
ends_in v = []

abbrev pub exprs_in : Found → List Expr
exprs_in (Made (OfExprs x)) = x
exprs_in v = []

abbrev pub maybe_in : Found → Option Expr
maybe_in (Made (OfMaybe x)) = x
maybe_in v = None

abbrev pub spec_in : Found → Spec
spec_in (Made (OfSpec x)) = x
spec_in v = record { at = nowhere; words = [] }

abbrev pub words_in : Found → List Token
words_in (Made (OfWords x)) = x
words_in v = []

abbrev pub name_in : Found → Option Ident
name_in (Made (OfName x)) = x
name_in v = None

abbrev pub bracketed_in : Found → Bracketed
bracketed_in (Made (OfBracketed x)) = x
bracketed_in v = record { length = N.Scalar; end = None }

abbrev pub started_in : Found → Started
started_in (Made (OfStarted x)) = x
started_in v = record { value = I.Nothing; end = None }

abbrev pub rest_in : Found → DeclrRest
rest_in (Made (OfRest x)) = x
rest_in v = record { length = N.Scalar; value = I.Nothing; end = None }

abbrev pub declr_in : Found → Declr
declr_in (Made (OfDeclr x)) = x
declr_in v = record { at = nowhere; name = record { at = nowhere; name = [] }; length = N.Scalar; value = I.Nothing }

abbrev pub declrs_in : Found → List Declr
declrs_in (Made (OfDeclrs x)) = x
declrs_in v = []

abbrev pub note_in : Found → Spot
note_in (Made (OfSpot x)) = x
note_in v = nowhere

abbrev pub spots_in : Found → List Spot
spots_in (Made (OfSpots x)) = x
spots_in v = []

abbrev pub placed_in : Found → Placed
placed_in (Made (OfPlaced x)) = x
placed_in v = record { stmt = S.Empty nowhere; at = nowhere }

abbrev pub governed_in : Found → Governed
governed_in (Made (OfGoverned x)) = x
governed_in v = record { sub = sub_of [] (S.Empty nowhere); end = nowhere }

abbrev pub else_in : Found → Option Governed
else_in (Made (OfElse x)) = x
else_in v = None

abbrev pub head_in : Found → Head
head_in (Made (OfHead x)) = x
head_in v = record { first = F.Nothing; cond = None; update = None }

abbrev pub first_in : Found → First
first_in (Made (OfFirst x)) = x
first_in v = F.Nothing

abbrev pub braced_in : Found → Braced
braced_in (Made (OfBraced x)) = x
braced_in v = record { stmts = []; at = nowhere; close = record { 0 = 1 } }

abbrev pub stmt_in : Found → Stmt
stmt_in (Made (OfStmt x)) = x
stmt_in v = S.Empty nowhere

abbrev pub stmts_in : Found → List Stmt
stmts_in (Made (OfStmts x)) = x
stmts_in v = []

abbrev pub formal_in : Found → Formal
formal_in (Made (OfFormal x)) = x
formal_in v = record { at = nowhere; spec = record { at = nowhere; words = [] }; name = None }

abbrev pub formals_in : Found → List Formal
formals_in (Made (OfFormals x)) = x
formals_in v = []

abbrev pub ended_in : Found → Ended
ended_in (Made (OfEnded x)) = x
ended_in v = record { body = None; end = nowhere; close = None }

abbrev pub named_in : Found → Named
named_in (Made (OfNamed x)) = x
named_in v = M.Function [] (record { body = None; end = nowhere; close = None })

abbrev pub item_in : Found → Item
item_in (Made (OfItem x)) = x
item_in v = U.Note nowhere

abbrev pub items_in : Found → List Item
items_in (Made (OfItems x)) = x
items_in v = []

-- Expressions.

abbrev pub whole : Expr → Spot → Part
whole e at = record { expr = e; place = at; is_unary = false }

abbrev pub unary_part : Expr → Spot → Part
unary_part e at = record { expr = e; place = at; is_unary = true }

abbrev pub join : Part → Token → Part → Part
join a op b = whole (E.Binary (reach a.place b.place) (binary_op op.kind) a.expr b.expr) (reach a.place b.place)

-- the operands of a level from left to right
abbrev pub joined : Part → List (Token × Part) → Part
joined a [] = a
joined a (j ∷ js) = joined (join a j.0 j.1) js

abbrev pub end_expr : Spot → Expr → Ending → Token → Expr
end_expr at e (G.At i) t = E.Index at e i
end_expr at e (G.With es) t = E.Call at e es
end_expr at e G.Step t = E.Step at (is_up t.kind) false e

abbrev pub with_end : Part → Ending → Token → Part
with_end a x t =
    unary_part (end_expr (reach a.place (spot_of t)) a.expr x t) (reach a.place (spot_of t))

abbrev pub with_ends : Part → List (Ending × Token) → Part
with_ends a [] = a
with_ends a (x ∷ xs) = with_ends (with_end a x.0 x.1) xs

abbrev pub assign_part : Part → Token → Part → Part
assign_part a op b =
    whole (E.Assign (reach a.place b.place) (assign_op op.kind) a.expr b.expr) (reach a.place b.place)

abbrev pub assign_of : Found → Part
assign_of (Left w) = assign_part (part_in (fst w)) (token_in (fst (snd w))) (part_in (snd (snd w)))
assign_of (Right w) = part_in w
assign_of v = part_in v

abbrev pub cond_part : Part → Part → Part → Part
cond_part a b c = whole (E.Cond (reach a.place c.place) a.expr b.expr c.expr) (reach a.place c.place)

abbrev pub cond_of : Part → Found → Part
cond_of a (Left w) = cond_part a (part_in (fst (snd w))) (part_in (snd (snd (snd w))))
cond_of a w = a

abbrev pub more_of : Found → List (Token × Part)
more_of (Left w) = (token_in (fst w), part_in (fst (snd w))) ∷ joins_in (snd (snd w))
more_of v = []

abbrev pub prefix_part : Token → Part → Part
prefix_part op a =
    unary_part (prefixed (prefix_of op.kind) (reach (spot_of op) a.place) a.expr) (reach (spot_of op) a.place)

abbrev pub unary_of : Found → Part
unary_of (Left w) = prefix_part (token_in (fst w)) (part_in (snd w))
unary_of (Right w) = part_in (taken w)
unary_of v = part_in v

abbrev pub cast_part : Token → Spec → Part → Part
cast_part t spec a = unary_part (E.Cast (reach (spot_of t) a.place) spec a.expr) (reach (spot_of t) a.place)

abbrev pub suffixes_of : Found → List (Ending × Token)
suffixes_of (Left w) = (G.At (part_in (fst (snd (fst w)))).expr, token_in (snd (snd (fst w)))) ∷ ends_in (snd w)
suffixes_of (Right (Left w)) =
    (G.With (exprs_in (fst (snd (fst w)))), token_in (snd (snd (fst w)))) ∷ ends_in (snd w)
suffixes_of (Right (Right (Left w))) = (G.Step, token_in (fst w)) ∷ ends_in (snd w)
suffixes_of v = []

-- an expression between parentheses, whose place reaches from one to the other
abbrev pub enclosed : Token → Part → Token → Part
enclosed a p b = unary_part p.expr (reach (spot_of a) (spot_of b))

abbrev pub primary_of : List ℕ → Found → Part
primary_of bytes (Left w) = unary_part (E.Name (ident_of bytes (token_in w))) (spot_in w)
primary_of bytes (Right (Left w)) = unary_part (literal (token_in w).kind (spot_in w)) (spot_in w)
primary_of bytes (Right (Right w)) = enclosed (token_in (fst w)) (part_in (fst (snd w))) (token_in (snd (snd w)))
primary_of bytes v = part_in v

-- the first of a list and the others
abbrev pub args_of : Found → List Expr
args_of (Left w) = (part_in (fst w)).expr ∷ exprs_in (snd w)
args_of v = []

-- one more of a list after its comma, and the others
abbrev pub more_args_of : Found → List Expr
more_args_of (Left w) = (part_in (fst (snd w))).expr ∷ exprs_in (snd (snd w))
more_args_of v = []

abbrev pub maybe_of : Found → Option Expr
maybe_of (Left w) = Some (part_in w).expr
maybe_of v = None

-- Declarations.

-- specifiers from the first to the last
abbrev pub spec_from : Spot → List SpecWord → List Token → Spec
spec_from at ws [] = record { at = at; words = ws }
spec_from at ws (t ∷ ts) = spec_from (reach at (spot_of t)) (ws ++ spec_word t.kind ∷ []) ts

abbrev pub spec_of : Token → List Token → Spec
spec_of t ts = spec_from (spot_of t) (spec_word t.kind ∷ []) ts

abbrev pub more_words_of : Found → List Token
more_words_of (Left w) = token_in (fst w) ∷ words_in (snd w)
more_words_of v = []

abbrev pub name_of : List ℕ → Found → Option Ident
name_of bytes (Left w) = Some (ident_of bytes (token_in w))
name_of bytes v = None

-- what stands between brackets: a length or nothing
abbrev pub in_brackets : Found → Spot → Bracketed
in_brackets (Left w) close = record { length = N.Of (part_in w).expr; end = Some close }
in_brackets w close = record { length = N.Open; end = Some close }

abbrev pub many : List Expr → Spot → Started
many es close = record { value = I.Many es; end = Some close }

abbrev pub initialiser : Found → Started
initialiser (Left w) = started_in w
initialiser (Right w) = record { value = I.One (part_in w).expr; end = Some (part_in w).place }
initialiser w = started_in w

-- the later of two ends
abbrev pub last_end : Option Spot → Option Spot → Option Spot
last_end a (Some b) = Some b
last_end a None = a

abbrev pub length_of : Found → Bracketed
length_of (Left w) = in_brackets (fst (snd w)) (spot_in (snd (snd w)))
length_of v = record { length = N.Scalar; end = None }

abbrev pub started_of : Found → Started
started_of (Left w) = initialiser (snd w)
started_of v = record { value = I.Nothing; end = None }

abbrev pub rest_of : Bracketed → Started → DeclrRest
rest_of l i = record { length = l.length; value = i.value; end = last_end l.end i.end }

abbrev pub declr_of : List ℕ → Token → DeclrRest → Declr
declr_of bytes t r =
    record { at = up_to (spot_of t) r.end; name = ident_of bytes t; length = r.length; value = r.value }

abbrev pub more_declrs_of : Found → List Declr
more_declrs_of (Left w) = declr_in (fst (snd w)) ∷ declrs_in (snd (snd w))
more_declrs_of v = []

-- Statements.

abbrev pub placed : Stmt → Spot → Placed
placed s at = record { stmt = s; at = at }

abbrev pub declare : Spec → List Declr → Token → Placed
declare spec ds semi =
    placed (S.Declare (reach spec.at (spot_of semi)) spec ds) (reach spec.at (spot_of semi))

abbrev pub expression : Part → Token → Placed
expression a semi =
    placed (S.Expression (reach a.place (spot_of semi)) a.expr) (reach a.place (spot_of semi))

abbrev pub jump_of : Found → Placed
jump_of (Left w) = placed (S.Empty (spot_in w)) (spot_in w)
jump_of (Right (Left w)) =
    placed (S.Break (reach (spot_in (fst w)) (spot_in (snd w)))) (reach (spot_in (fst w)) (spot_in (snd w)))
jump_of (Right (Right (Left w))) =
    placed (S.Continue (reach (spot_in (fst w)) (spot_in (snd w)))) (reach (spot_in (fst w)) (spot_in (snd w)))
jump_of (Right (Right (Right w))) =
    placed (S.Return (reach (spot_in (fst w)) (spot_in (snd (snd w)))) (maybe_in (fst (snd w))))
    (reach (spot_in (fst w)) (spot_in (snd (snd w))))
jump_of v = placed_in v

abbrev pub if_part : Token → Part → Governed → Option Governed → Placed
if_part t c main (Some other) =
    placed (S.If (reach (spot_of t) other.end) c.expr main.sub (Some other.sub)) (reach (spot_of t) other.end)
if_part t c main None = placed (S.If (reach (spot_of t) main.end) c.expr main.sub None) (reach (spot_of t) main.end)

abbrev pub else_of : Found → Option Governed
else_of (Left w) = Some (governed_in (snd w))
else_of v = None

abbrev pub while_part : Token → Part → Governed → Placed
while_part t c body = placed (S.While (reach (spot_of t) body.end) c.expr body.sub) (reach (spot_of t) body.end)

abbrev pub do_part : Token → Governed → Part → Token → Placed
do_part t body c semi =
    placed (S.DoWhile (reach (spot_of t) (spot_of semi)) body.sub c.expr) (reach (spot_of t) (spot_of semi))

abbrev pub for_part : Token → Head → Governed → Placed
for_part t h body =
    placed (S.For (reach (spot_of t) body.end) h.first h.cond h.update body.sub) (reach (spot_of t) body.end)

abbrev pub first_expr : Option Expr → First
first_expr (Some e) = F.Expression e
first_expr None = F.Nothing

abbrev pub first_of : Found → First
first_of (Left w) = F.Declare (spec_in (fst w)) (declrs_in (fst (snd w)))
first_of (Right w) = first_expr (maybe_in (fst w))
first_of v = F.Nothing

abbrev pub braced_part : Token → List Stmt → Token → Braced
braced_part a ss b = record { stmts = ss; at = reach (spot_of a) (spot_of b); close = b.line }

abbrev pub statement_of : Found → Placed
statement_of (Left w) = placed (S.Block (braced_in w).at (braced_in w).stmts) (braced_in w).at
statement_of (Right w) = placed_in (taken w)
statement_of v = placed_in v

abbrev pub item_of : Found → Stmt
item_of (Left w) = (placed_in w).stmt
item_of (Right (Left w)) = S.Note (note_in w)
item_of (Right (Right w)) = (placed_in w).stmt
item_of v = S.Empty nowhere

abbrev pub governed : List Spot → Placed → Governed
governed ns p = record { sub = sub_of ns p.stmt; end = p.at }

abbrev pub notes_of : Found → List Spot
notes_of (Left w) = note_in (fst w) ∷ spots_in (snd w)
notes_of v = []

abbrev pub stmts_of : Found → List Stmt
stmts_of (Left w) = stmt_in (fst w) ∷ stmts_in (snd w)
stmts_of v = []

-- External declarations.

abbrev pub formal_of : Spec → Option Ident → Formal
formal_of spec (Some i) = record { at = reach spec.at i.at; spec = spec; name = Some i }
formal_of spec None = record { at = spec.at; spec = spec; name = None }

abbrev pub more_formals_of : Found → List Formal
more_formals_of (Left w) = formal_in (fst (snd w)) ∷ formals_in (snd (snd w))
more_formals_of v = []

abbrev pub formals_of : Found → List Formal
formals_of (Right (Left w)) = formal_in (fst w) ∷ formals_in (snd w)
formals_of v = []

abbrev pub end_of : Found → Ended
end_of (Left w) = record { body = None; end = spot_in w; close = None }
end_of (Right w) = record { body = Some (braced_in w).stmts; end = (braced_in w).at; close = Some (braced_in w).close }
end_of v = ended_in v

abbrev pub storages_of : List Token → List Storage
storages_of [] = []
storages_of (t ∷ ts) = storage t.kind ∷ storages_of ts

abbrev pub start_of : List Token → Option Spot
start_of [] = None
start_of (t ∷ ts) = Some (spot_of t)

-- storage classes, and where they begin
abbrev pub stored_of : List Token → Stored
stored_of ts = record { storage = storages_of ts; start = start_of ts }

abbrev pub start_at : Option Spot → Spot → Spot
start_at (Some a) b = a
start_at None b = b

abbrev pub close_at : Option Line → Line → Line
close_at (Some l) m = l
close_at None m = m

abbrev pub external : List ℕ → Stored → Spec → Token → Named → Item
external bytes st spec t (M.Function fs e) =
    U.Function (record {
      at = reach (start_at st.start spec.at) e.end;
      storage = st.storage;
      spec = spec;
      name = ident_of bytes t;
      formals = fs;
      body = e.body;
      close = close_at e.close t.line;
    })
external bytes st spec t (M.Global r ds end) =
    U.Global (record {
      at = reach (start_at st.start spec.at) end;
      storage = st.storage;
      spec = spec;
      declrs = declr_of bytes t r ∷ ds;
    })

abbrev pub unit_item_of : Found → Item
unit_item_of (Left w) = U.Note (note_in w)
unit_item_of (Right w) = item_in w
unit_item_of v = item_in v

abbrev pub items_of : Found → List Item
items_of (Left w) = item_in (fst w) ∷ items_in (snd w)
items_of v = []

abbrev pub make : List ℕ → R.Production → Found → Value
make bytes R.Assign v = OfPart (assign_of v)
make bytes R.Cond v = OfPart (cond_of (part_in (fst v)) (snd v))
make bytes (R.Binary l) v = OfPart (joined (part_in (fst v)) (joins_in (snd v)))
make bytes (R.More l) v = OfJoins (more_of v)
make bytes R.Unary v = OfPart (unary_of v)
make bytes R.Cast v = OfPart (cast_part (token_in (fst v)) (spec_in (fst (snd v))) (part_in (snd (snd (snd v)))))
make bytes R.Postfix v = OfPart (with_ends (part_in (fst v)) (ends_in (snd v)))
make bytes R.Suffixes v = OfEnds (suffixes_of v)
make bytes R.Primary v = OfPart (primary_of bytes v)
make bytes R.Args v = OfExprs (args_of v)
make bytes R.MoreArgs v = OfExprs (more_args_of v)
make bytes R.Parens v = OfPart (part_in (fst (snd v)))
make bytes R.MaybeExpr v = OfMaybe (maybe_of v)
make bytes R.Specs v = OfSpec (spec_of (token_in (fst v)) (words_in (snd v)))
make bytes R.FirstSpecs v = OfSpec (spec_of (token_in (fst v)) (words_in (snd v)))
make bytes R.MoreWords v = OfWords (more_words_of v)
make bytes R.MaybeName v = OfName (name_of bytes v)
make bytes R.ArrayLength v = OfBracketed (length_of v)
make bytes R.Initialiser v = OfStarted (started_of v)
make bytes R.Braces v = OfStarted (many (exprs_in (fst (snd v))) (note_in (snd (snd v))))
make bytes R.Values v = OfExprs ((part_in (fst v)).expr ∷ exprs_in (snd v))
make bytes R.BraceEnd v = OfSpot (spot_in (snd v))
make bytes R.MoreValues v = OfExprs (more_args_of v)
make bytes R.DeclrTail v = OfRest (rest_of (bracketed_in (fst v)) (started_in (snd v)))
make bytes R.Declr v = OfDeclr (declr_of bytes (token_in (fst v)) (rest_in (snd v)))
make bytes R.MoreDeclrs v = OfDeclrs (more_declrs_of v)
make bytes R.Declrs v = OfDeclrs (declr_in (fst v) ∷ declrs_in (snd v))
make bytes R.Note v = OfSpot (reach (spot_in (fst v)) (spot_in (snd (snd v))))
make bytes R.InNote v = OfNothing
make bytes R.Notes v = OfSpots (notes_of v)
make bytes R.Declaration v = OfPlaced (declare (spec_in (fst v)) (declrs_in (fst (snd v))) (token_in (snd (snd v))))
make bytes R.ExprStatement v = OfPlaced (expression (part_in (fst v)) (token_in (snd v)))
make bytes R.Jump v = OfPlaced (jump_of v)
make bytes R.IfStatement v =
    OfPlaced (if_part (token_in (fst v)) (part_in (fst (snd v))) (governed_in (fst (snd (snd v)))) (else_in (snd (snd (snd v)))))
make bytes R.ElsePart v = OfElse (else_of v)
make bytes R.WhileStatement v =
    OfPlaced (while_part (token_in (fst v)) (part_in (fst (snd v))) (governed_in (snd (snd v))))
make bytes R.DoStatement v =
    OfPlaced (do_part (token_in (fst v)) (governed_in (fst (snd v))) (part_in (fst (snd (snd (snd v)))))
    (token_in (snd (snd (snd (snd v))))))
make bytes R.ForStatement v = OfPlaced (for_part (token_in (fst v)) (head_in (fst (snd v))) (governed_in (snd (snd v))))
make bytes R.ForHead v =
    OfHead (record {
      first = first_in (fst (snd v));
      cond = maybe_in (fst (snd (snd v)));
      update = maybe_in (fst (snd (snd (snd (snd v)))));
    })
make bytes R.ForFirst v = OfFirst (first_of v)
make bytes R.Block v = OfBraced (braced_part (token_in (fst v)) (stmts_in (fst (snd v))) (token_in (snd (snd v))))
make bytes R.Statement v = OfPlaced (statement_of v)
make bytes R.BlockItem v = OfStmt (item_of v)
make bytes R.BlockItems v = OfStmts (stmts_of v)
make bytes R.Sub v = OfGoverned (governed (spots_in (fst v)) (placed_in (snd v)))
make bytes R.Formal v = OfFormal (formal_of (spec_in (fst v)) (name_in (snd v)))
make bytes R.FirstFormal v = OfFormal (formal_of (spec_in (fst v)) (name_in (snd v)))
make bytes R.MoreFormals v = OfFormals (more_formals_of v)
make bytes R.Formals v = OfFormals (formals_of v)
make bytes R.FormalParens v = OfFormals (formals_in (fst (snd v)))
make bytes R.FunctionEnd v = OfEnded (end_of v)
make bytes R.FunctionTail v = OfNamed (M.Function (formals_in (fst v)) (ended_in (snd v)))
make bytes R.GlobalTail v = OfNamed (M.Global (rest_in (fst v)) (declrs_in (fst (snd v))) (spot_in (snd (snd v))))
make bytes R.ExternalTail v = OfNamed (named_in (taken v))
make bytes R.Storages v = OfWords (more_words_of v)
make bytes R.External v =
    OfItem (external bytes (stored_of (words_in (fst v))) (spec_in (fst (snd v))) (token_in (fst (snd (snd v)))) (named_in (snd (snd (snd v)))))
make bytes R.UnitItem v = OfItem (unit_item_of v)
make bytes R.UnitItems v = OfItems (items_of v)
