-- What the productions of annotations make of their parts: trees, with the place of each node.
--
-- Value   what a production gives to those above it
-- make    what each production makes, in the order of the table
use Rattle.std.specs.Prelude.{◌++◌, ◌∷◌, [], ℕ, List, Bool, true, false, Option, Some, None}
use Rattle.fc_base.specs.declared.syntax.Spot.{Spot}
use Rattle.c_lex.specs.declared.token.Token.{Token}
use Rattle.c_lex.specs.declared.token.TokenKind.TheVariants as T
use Rattle.c_ast.specs.declared.expr.Ident.{Ident}
use Rattle.c_ast.specs.declared.annot.Annot.{Annot}
use Rattle.c_ast.specs.declared.annot.AnnotKind.{AnnotKind}
use Rattle.c_ast.specs.declared.annot.AnnotKind.TheVariants as A
use Rattle.c_ast.specs.declared.annot.Clause.{Clause}
use Rattle.c_ast.specs.declared.annot.ClauseKind.{ClauseKind}
use Rattle.c_ast.specs.declared.annot.ClauseKind.TheVariants as K
use Rattle.c_ast.specs.declared.annot.ClauseBody.{ClauseBody}
use Rattle.c_ast.specs.declared.annot.ClauseBody.TheVariants as B
use Rattle.c_ast.specs.declared.annot.Loc.{Loc}
use Rattle.c_ast.specs.declared.annot.LocIndex.{LocIndex}
use Rattle.c_ast.specs.declared.annot.LocIndex.TheVariants as I
use Rattle.c_ast.specs.declared.annot.Formula.{Formula}
use Rattle.c_ast.specs.declared.annot.Formula.TheVariants as F
use Rattle.c_ast.specs.declared.annot.Link.{Link, roll-Link}
use Rattle.acsl_read.specs.declared.class.Class.{Class}
use Rattle.acsl_read.specs.declared.part.Part.{Part}
use Rattle.acsl_read.specs.declared.part.Captioned.{Captioned}
use Rattle.acsl_read.specs.declared.part.Ended.{Ended}
use Rattle.acsl_read.specs.declared.part.Stated.{Stated}
use Rattle.grammar_forms.specs.Forms.{Parts, NoPart, One, Two, First as Left, Second as Right, Made}
use Rattle.c_parse.specs.Places.{spot_of, reach, text_of, word_of, ident_of}
use Rattle.acsl_read.specs.Classes.{class_of}
use Rattle.acsl_read.specs.Words.{note_op, relation, prefixed, number, word_formula, clause_kind, loop_kind}
use Rattle.acsl_read.specs.Table as R

pub data Value : Type 0 where
  OfPart : Part → Value
  OfJoins : List (Token × Part) → Value
  OfToken : Token → Value
  OfCaptioned : Captioned → Value
  OfIndex : LocIndex → Value
  OfLoc : Loc → Value
  OfLocs : List Loc → Value
  OfEnded : Ended → Value
  OfStated : Stated → Value
  OfStateds : List Stated → Value
  OfAnnot : Annot → Value

abbrev pub Found : Type 0
Found = Parts Token Value

-- The parts of a value. What stands where no value of its kind is, no production makes.

abbrev pub nowhere : Spot
nowhere = record { span = record { from = 0; to = 0 }; line = record { 0 = 1 } }

abbrev pub no_token : Token
no_token = record { kind = T.NoteTo; span = record { from = 0; to = 0 }; line = record { 0 = 1 } }

abbrev pub no_formula : Formula
no_formula = F.False nowhere

abbrev pub fst : Found → Found
fst (Two v w) = v
fst v = NoPart

abbrev pub snd : Found → Found
snd (Two v w) = w
snd v = NoPart

-- the alternative that was taken
abbrev pub taken : Found → Found
taken (Left v) = v
taken (Right v) = taken v
taken v = v

abbrev pub token_in : Found → Token
token_in (One t) = t
token_in v = no_token

abbrev pub spot_in : Found → Spot
spot_in v = spot_of (token_in v)

abbrev pub part_in : Found → Part
part_in (Made (OfPart x)) = x
part_in v = record { formula = no_formula; place = nowhere; is_name = false }

abbrev pub joins_in : Found → List (Token × Part)
joins_in (Made (OfJoins x)) = x
joins_in v = []

abbrev pub made_token_in : Found → Token
made_token_in (Made (OfToken x)) = x
made_token_in v = no_token

abbrev pub captioned_in : Found → Captioned
captioned_in (Made (OfCaptioned x)) = x
captioned_in v = record { label = None; formula = no_formula }

abbrev pub index_in : Found → LocIndex
index_in (Made (OfIndex x)) = x
index_in v = I.Nothing

abbrev pub loc_in : Found → Loc
loc_in (Made (OfLoc x)) = x
loc_in v = record { name = record { at = nowhere; name = [] }; index = I.Nothing }

abbrev pub locs_in : Found → List Loc
locs_in (Made (OfLocs x)) = x
locs_in v = []

abbrev pub ended_in : Found → Ended
ended_in (Made (OfEnded x)) = x
ended_in v = record { label = None; body = B.Places []; end = nowhere }

abbrev pub no_clause : Clause
no_clause = record { kind = K.Assert; label = None; body = B.Places []; line = record { 0 = 1 } }

abbrev pub stated_in : Found → Stated
stated_in (Made (OfStated x)) = x
stated_in v = record { clause = no_clause; at = nowhere }

abbrev pub stateds_in : Found → List Stated
stateds_in (Made (OfStateds x)) = x
stateds_in v = []

abbrev pub annot_in : Found → Annot
annot_in (Made (OfAnnot x)) = x
annot_in v = record { at = nowhere; kind = A.CodeNote; clauses = [] }

-- Terms and predicates.

abbrev pub whole : Formula → Spot → Part
whole f at = record { formula = f; place = at; is_name = false }

abbrev pub join : Part → Token → Part → Part
join a op b = whole (F.Binary (reach a.place b.place) (note_op op.kind) a.formula b.formula) (reach a.place b.place)

-- the operands of a level from left to right
abbrev pub joined : Part → List (Token × Part) → Part
joined a [] = a
joined a (j ∷ js) = joined (join a j.0 j.1) js

abbrev pub more_of : Found → List (Token × Part)
more_of (Left w) = (token_in (fst w), part_in (fst (snd w))) ∷ joins_in (snd (snd w))
more_of v = []

abbrev pub implication_of : Part → Found → Part
implication_of a (Left w) = join a (token_in (fst w)) (part_in (snd w))
implication_of a w = a

abbrev pub prefix_part : Token → Part → Part
prefix_part op a =
    whole (prefixed op.kind (reach (spot_of op) a.place) a.formula) (reach (spot_of op) a.place)

abbrev pub forall_part : List ℕ → Token → Token → Part → Part
forall_part bytes t name body =
    whole (F.Forall (reach (spot_of t) body.place) (ident_of bytes name) body.formula) (reach (spot_of t) body.place)

abbrev pub quantified_of : List ℕ → Found → Part
quantified_of bytes (Left w) = prefix_part (token_in (fst w)) (part_in (snd w))
quantified_of bytes (Right w) =
    forall_part bytes (token_in (fst w)) (made_token_in (fst (snd w))) (part_in (snd (snd w)))
quantified_of bytes v = part_in v

-- a relation with what stands to its right
abbrev pub link_of : Token → Part → Link
link_of op b = roll-Link (record { relation = relation op.kind; right = b.formula })

-- an operand, or a chain of relations that begins with it and ends at `end`
abbrev pub chained : Part → Spot → List Link → Part
chained a end [] = a
chained a end (l ∷ ls) = whole (F.Chain (reach a.place end) a.formula (l ∷ ls)) (reach a.place end)

abbrev pub chain_from : Part → Spot → List Link → List (Token × Part) → Part
chain_from a end ls [] = chained a end ls
chain_from a end ls (j ∷ js) = chain_from a j.1.place (ls ++ link_of j.0 j.1 ∷ []) js

abbrev pub chain_of : Part → List (Token × Part) → Part
chain_of a js = chain_from a a.place [] js

abbrev pub links_of : Found → List (Token × Part)
links_of (Left w) = (token_in (fst w), part_in (fst (snd w))) ∷ joins_in (snd (snd w))
links_of (Right v) = links_of v
links_of v = []

abbrev pub factor_of : Found → Part
factor_of (Left w) = prefix_part (token_in (fst w)) (part_in (snd w))
factor_of (Right w) = part_in w
factor_of v = part_in v

abbrev pub named : List ℕ → Token → Part
named bytes t = record { formula = F.Name (ident_of bytes t); place = spot_of t; is_name = true }

abbrev pub indexed : List ℕ → Token → Part → Token → Part
indexed bytes t i close =
    whole (F.Index (reach (spot_of t) (spot_of close)) (ident_of bytes t) i.formula) (reach (spot_of t) (spot_of close))

abbrev pub variable_of : List ℕ → Token → Found → Part
variable_of bytes t (Left w) = indexed bytes t (part_in (fst (snd w))) (token_in (snd (snd w)))
variable_of bytes t w = named bytes t

abbrev pub atom_of : List ℕ → Found → Part
atom_of bytes (Left w) = whole (number (token_in w).kind (spot_in w)) (spot_in w)
atom_of bytes (Right w) = whole (word_formula (class_of bytes (token_in w)) (spot_in w)) (spot_in w)
atom_of bytes v = part_in v

abbrev pub old_part : Token → Part → Part
old_part t a = whole (F.Old (reach (spot_of t) a.place) a.formula) (reach (spot_of t) a.place)

-- a formula between parentheses, whose place reaches from one to the other
abbrev pub enclosed : Token → Part → Token → Part
enclosed a p b = whole p.formula (reach (spot_of a) (spot_of b))

-- Clauses.

-- the name at a place
unfoldable pub name_at : List ℕ → Spot → Ident
name_at bytes at = record { at = at; name = word_of (text_of bytes at.span) }

abbrev pub captioned_of : List ℕ → Found → Captioned
captioned_of bytes (Left w) =
    record { label = Some (name_at bytes (part_in (fst w)).place); formula = (part_in (snd (snd w))).formula }
captioned_of bytes (Right w) = record { label = None; formula = (part_in w).formula }
captioned_of bytes v = captioned_in v

-- one element, or a range of them
abbrev pub range_of : Part → Found → LocIndex
range_of a (Left w) = I.Range a.formula (part_in (snd w)).formula
range_of a w = I.One a.formula

abbrev pub within_of : Found → LocIndex
within_of (Left w) = I.Whole
within_of (Right w) = range_of (part_in (fst w)) (snd w)
within_of v = index_in v

abbrev pub place_index_of : Found → LocIndex
place_index_of (Left w) = index_in (fst (snd w))
place_index_of v = I.Nothing

abbrev pub more_places_of : Found → List Loc
more_places_of (Left w) = loc_in (fst (snd w)) ∷ locs_in (snd (snd w))
more_places_of v = []

abbrev pub places_of : Found → List Loc
places_of (Right w) = loc_in (fst w) ∷ locs_in (snd w)
places_of v = []

abbrev pub stated : ClauseKind → Token → Ended → Stated
stated kind t e =
    record {
      clause = record { kind = kind; label = e.label; body = e.body; line = t.line };
      at = reach (spot_of t) e.end;
    }

-- a clause whose first word says its kind
abbrev pub clause_of : List ℕ → Found → Stated
clause_of bytes v = stated (clause_kind (class_of bytes (token_in (fst v)))) (token_in (fst v)) (ended_in (snd v))

abbrev pub loop_clause_of : List ℕ → Token → Found → Stated
loop_clause_of bytes t v = stated (loop_kind (class_of bytes (token_in (fst v)))) t (ended_in (snd v))

abbrev pub stateds_of : Found → List Stated
stateds_of (Left w) = stated_in (fst w) ∷ stateds_in (snd w)
stateds_of v = []

-- Notes.

-- clauses from the first to the last
abbrev pub annot_from : AnnotKind → Spot → List Clause → List Stated → Annot
annot_from kind at cs [] = record { at = at; kind = kind; clauses = cs }
annot_from kind at cs (s ∷ ss) = annot_from kind (reach at s.at) (cs ++ s.clause ∷ []) ss

abbrev pub annot_of : AnnotKind → Stated → List Stated → Annot
annot_of kind s ss = annot_from kind s.at (s.clause ∷ []) ss

abbrev pub make : List ℕ → R.Production → Found → Value
make bytes (R.Binary l) v = OfPart (joined (part_in (fst v)) (joins_in (snd v)))
make bytes (R.More l) v = OfJoins (more_of v)
make bytes R.Implication v = OfPart (implication_of (part_in (fst v)) (snd v))
make bytes R.Conjunct v = OfPart (part_in (taken v))
make bytes R.Quantified v = OfPart (quantified_of bytes v)
make bytes R.Bound v = OfToken (token_in (fst (snd v)))
make bytes R.Relations v = OfPart (chain_of (part_in (fst v)) (joins_in (snd v)))
make bytes (R.Links d) v = OfJoins (links_of v)
make bytes (R.Factor s) v = OfPart (factor_of v)
make bytes R.Primary v = OfPart (part_in (taken v))
make bytes R.Variable v = OfPart (variable_of bytes (token_in (fst v)) (snd v))
make bytes R.Atom v = OfPart (atom_of bytes v)
make bytes R.Old v = OfPart (old_part (token_in (fst v)) (part_in (snd v)))
make bytes R.Parens v = OfPart (enclosed (token_in (fst v)) (part_in (fst (snd v))) (token_in (snd (snd v))))
make bytes R.Labelled v = OfCaptioned (captioned_of bytes v)
make bytes R.Within v = OfIndex (within_of v)
make bytes R.PlaceIndex v = OfIndex (place_index_of v)
make bytes R.Place v = OfLoc (record { name = ident_of bytes (token_in (fst v)); index = index_in (snd v) })
make bytes R.MorePlaces v = OfLocs (more_places_of v)
make bytes R.Places v = OfLocs (places_of v)
make bytes R.Said v =
    OfEnded (record {
      label = (captioned_in (fst v)).label;
      body = B.Says (captioned_in (fst v)).formula;
      end = spot_in (snd v);
    })
make bytes R.Assigned v =
    OfEnded (record { label = None; body = B.Places (locs_in (fst v)); end = spot_in (snd v) })
make bytes R.ContractClause v = OfStated (clause_of bytes (taken v))
make bytes R.ContractClauses v = OfStateds (stateds_of v)
make bytes R.Contract v = OfAnnot (annot_of A.Contract (stated_in (fst v)) (stateds_in (snd v)))
make bytes R.LoopClause v = OfStated (loop_clause_of bytes (token_in (fst v)) (taken (snd v)))
make bytes R.LoopClauses v = OfStateds (stateds_of v)
make bytes R.LoopNote v = OfAnnot (annot_of A.LoopNote (stated_in (fst v)) (stateds_in (snd v)))
make bytes R.CodeNote v = OfAnnot (annot_of A.CodeNote (clause_of bytes v) [])
make bytes R.Note v = OfAnnot (annot_in (taken v))
