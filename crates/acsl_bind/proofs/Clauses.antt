-- Clauses that notes say: where no breach is among them, those that stand somewhere may stand there.
use Rattle.std.proofs.Common.{◌≡◌, ◌∙◌, ◌==◌, ◌&&◌, ℕ, zero, suc, Bool, true, false, List, [], ◌∷◌, slice_get, Option, Some, None, refl, ap, sym, subst}
use Rattle.std.proofs.lemmas.Bool.{and_parts, and_from, true≢false, eqb-true}
use Rattle.std.specs.Prelude.{position, if◌then◌else◌}
use Rattle.std.specs.List.{list_all}
use Rattle.std.specs.Option.{option_and_then, option_map}
use Rattle.fc_base.specs.declared.ids.FnId.{FnId}
use Rattle.fc_base.specs.declared.ids.Line.{Line}
use Rattle.c_ast.specs.declared.annot.Annot.{Annot}
use Rattle.c_ast.specs.declared.annot.Clause.{Clause}
use Rattle.c_ast.specs.declared.annot.ClauseBody.{ClauseBody}
use Rattle.c_ast.specs.declared.annot.ClauseBody.TheVariants as B
use Rattle.c_ast.specs.declared.annot.ClauseKind.{ClauseKind}
use Rattle.c_ast.specs.declared.annot.ClauseKind.TheVariants as C
use Rattle.c_ast.specs.declared.annot.Formula.{Formula}
use Rattle.c_ast.specs.declared.expr.Ident.{Ident}
use Rattle.c_ir.specs.Bodies.{Frame, Stand, AtEntry, AtExit, AtLoop, AtNote, Plain, same_stand, stand_of, clause_fits, outlook}
use Rattle.c_ir.specs.Formed.{on_some}
use Rattle.c_ir.specs.Preds.{is_pred}
use Rattle.c_ir.specs.declared.kind.Kind.{Kind}
use Rattle.c_ir.specs.declared.kind.Kind.TheVariants as K
use Rattle.c_ir.specs.declared.note.InScope.{InScope}
use Rattle.c_ir.specs.declared.note.NoteSpot.{NoteSpot}
use Rattle.c_ir.specs.declared.tree.CellInfo.{CellInfo}
use Rattle.c_ir.specs.declared.tree.PointClause.{PointClause}
use Rattle.acsl_terms.specs.Clauses.{plain, seen, kind_of, made, made_by, clause_of, clause_faults}
use Rattle.acsl_terms.specs.Fits as fit
use Rattle.acsl_terms.specs.Fits.{NamesFit, ViewFits, Free, ClauseFits, sees_entry}
use Rattle.acsl_terms.specs.Meaning.{Context, context}
use Rattle.acsl_terms.specs.declared.view.View.{View}
use Rattle.acsl_bind.specs.Notes.{Noted, with_spot, note_number, note_at, is_of, add, clauses_of, clauses_faults, stands_as, keep, standing}
use Rattle.acsl_bind.specs.Programs.{noted_all, first_such, contract_of, is_contract_of}
use Rattle.c_types.specs.Noted.{is_shown, has_cells, object_fits, number_of, note_fits, NotesFit}
use Rattle.acsl_bind.proofs.Steps.{no_element, some_is}

-- ---- kinds

made_kind_by : (x : Context) (label : Option Ident) (line : Line) (f : Formula) (o : Option Kind) (c : PointClause) → made x label line f o ≡ Some c → o ≡ Some c.kind
made_kind_by x label line f None c is = no_element c is
made_kind_by x label line f (Some k) c is = ap (λ (d : PointClause). Some d.kind) (some_is _ c is)

made_kind : (x : Context) (kind : ClauseKind) (label : Option Ident) (line : Line) (body : ClauseBody) (c : PointClause) → made_by x kind label line body ≡ Some c → kind_of kind ≡ Some c.kind
made_kind x kind label line (B.Says f) c is = made_kind_by x label line f (kind_of kind) c is
made_kind x kind label line (B.Places ls) c is = no_element c is

-- the exit sees values at the entry, where the view does
abbrev pub Looks : Stand → View → Type 0
Looks AtEntry v = Unit {0}
Looks AtExit v = v.old ≡ true
Looks AtLoop v = Unit {0}
Looks AtNote v = Unit {0}
Looks Plain v = Unit {0}

no : {A : Type 0} → false ≡ true → A
no is = absurd (true≢false (sym is))

-- whether a kind of this number stands there
abbrev stands : Stand → Option Kind → Bool
stands stand None = false
stands stand (Some k) = on_some (same_stand stand) (stand_of k)

sees_by : (stand : Stand) (v : View) (kind : ClauseKind) → Looks stand v → stands stand (kind_of kind) ≡ true → sees_entry v kind ≡ same_stand stand AtExit
sees_by AtEntry v C.Requires looks is = refl
sees_by AtEntry v C.Ensures looks is = no is
sees_by AtEntry v C.Assigns looks is = no is
sees_by AtEntry v C.LoopInvariant looks is = no is
sees_by AtEntry v C.LoopAssigns looks is = no is
sees_by AtEntry v C.Assert looks is = no is
sees_by AtEntry v C.Check looks is = no is
sees_by AtEntry v C.Admit looks is = no is
sees_by AtExit v C.Requires looks is = no is
sees_by AtExit v C.Ensures looks is = looks
sees_by AtExit v C.Assigns looks is = no is
sees_by AtExit v C.LoopInvariant looks is = no is
sees_by AtExit v C.LoopAssigns looks is = no is
sees_by AtExit v C.Assert looks is = no is
sees_by AtExit v C.Check looks is = no is
sees_by AtExit v C.Admit looks is = no is
sees_by AtLoop v C.Requires looks is = no is
sees_by AtLoop v C.Ensures looks is = no is
sees_by AtLoop v C.Assigns looks is = no is
sees_by AtLoop v C.LoopInvariant looks is = refl
sees_by AtLoop v C.LoopAssigns looks is = no is
sees_by AtLoop v C.Assert looks is = no is
sees_by AtLoop v C.Check looks is = no is
sees_by AtLoop v C.Admit looks is = no is
sees_by AtNote v C.Requires looks is = no is
sees_by AtNote v C.Ensures looks is = no is
sees_by AtNote v C.Assigns looks is = no is
sees_by AtNote v C.LoopInvariant looks is = no is
sees_by AtNote v C.LoopAssigns looks is = no is
sees_by AtNote v C.Assert looks is = refl
sees_by AtNote v C.Check looks is = refl
sees_by AtNote v C.Admit looks is = refl
sees_by Plain v C.Requires looks is = no is
sees_by Plain v C.Ensures looks is = no is
sees_by Plain v C.Assigns looks is = no is
sees_by Plain v C.LoopInvariant looks is = no is
sees_by Plain v C.LoopAssigns looks is = no is
sees_by Plain v C.Assert looks is = no is
sees_by Plain v C.Check looks is = no is
sees_by Plain v C.Admit looks is = no is

-- ---- clauses

one_stands : (law : ClauseFits) (f : Frame) (stand : Stand) (names : List InScope) (v : View) (c : Clause) (d : PointClause) → NamesFit f.layout.cells f.function names → ViewFits f.layout.cells f.function v → Looks stand v → Free (clause_faults names v c) → clause_of names v c ≡ Some d → stands_as stand d ≡ true → clause_fits f stand d ≡ true
one_stands law f stand names v c d names_fit view_fits looks free is at =
    let kind = made_kind (context names (seen v c.kind) []) c.kind c.label c.line c.body d is in
    let sees = sees_by stand v c.kind looks (ap (stands stand) kind ∙ at) in
    let fits = law f.layout.cells f.function names v c d names_fit view_fits free is in
    and_from _ _ at
    (subst (λ (b : Bool). is_pred (record { cells = f.layout.cells; function = f.function; old = b }) d.pred ≡ true) sees fits)

keep_stands : (f : Frame) (stand : Stand) (b : Bool) (c : PointClause) (cs : List PointClause) → (b ≡ true → clause_fits f stand c ≡ true) → list_all (clause_fits f stand) cs ≡ true → list_all (clause_fits f stand) (keep b c cs) ≡ true
keep_stands f stand true c cs h rest = and_from _ _ (h refl) rest
keep_stands f stand false c cs h rest = rest

add_stands : (f : Frame) (stand : Stand) (o : Option PointClause) (cs : List PointClause) → ((d : PointClause) → o ≡ Some d → stands_as stand d ≡ true → clause_fits f stand d ≡ true) → list_all (clause_fits f stand) (standing stand cs) ≡ true → list_all (clause_fits f stand) (standing stand (add o cs)) ≡ true
add_stands f stand None cs h rest = rest
add_stands f stand (Some c) cs h rest = keep_stands f stand (stands_as stand c) c (standing stand cs) (h c refl) rest

-- those that stand there may
pub all_stand : (law : ClauseFits) (f : Frame) (stand : Stand) (names : List InScope) (v : View) (cs : List Clause) → NamesFit f.layout.cells f.function names → ViewFits f.layout.cells f.function v → Looks stand v → Free (clauses_faults names v cs) → list_all (clause_fits f stand) (standing stand (clauses_of names v cs)) ≡ true
all_stand law f stand names v [] names_fit view_fits looks free = refl
all_stand law f stand names v (c ∷ cs) names_fit view_fits looks free =
    add_stands f stand (clause_of names v c) (clauses_of names v cs)
    (λ d is at. one_stands law f stand names v c d names_fit view_fits looks free.0 is at)
    (all_stand law f stand names v cs names_fit view_fits looks free.1)

-- ---- names of a note

get_all : {X : Type 0} (p : X → Bool) (xs : List X) (n : ℕ) (x : X) → list_all p xs ≡ true → slice_get xs n ≡ Some x → p x ≡ true
get_all p [] n x is at = no_element x at
get_all p (y ∷ xs) zero x is at = ap p (sym (some_is y x at)) ∙ (and_parts _ _ is).0
get_all p (y ∷ xs) (suc n) x is at = get_all p xs n x (and_parts _ _ is).1 at

object_by : (cells : List CellInfo) (f : ℕ) (first : ℕ) (n : Option ℕ) → has_cells (is_shown (Some f)) cells first n ≡ true → fit.object_fits cells f first n ≡ true
object_by cells f first None is = is
object_by cells f first (Some n) is = is

names_by : (cells : List CellInfo) (f : ℕ) (os : List InScope) → list_all (object_fits (Some f) cells) os ≡ true → NamesFit cells f os
unfolding object_fits
names_by cells f [] is = tt
names_by cells f (o ∷ os) is = let parts = and_parts _ _ is in (object_by cells f o.first o.length parts.0, names_by cells f os parts.1)

-- the names of a note of this function, with those before its statement
pub record Names (cells : List CellInfo) (f : ℕ) (n : Noted) : Type 0 where
  pub names : NamesFit cells f n.spot.names
  pub earlier : NamesFit cells f n.spot.before

owner_by : (f : ℕ) (o : Option FnId) → on_some (λ (g : FnId). g.0 == f) o ≡ true → number_of o ≡ Some f
owner_by f None is = no is
owner_by f (Some g) is = ap (λ (k : ℕ). Some k) (eqb-true g.0 f is)

pub names_of : (cells : List CellInfo) (f : ℕ) (n : Noted) → is_of f n ≡ true → note_fits cells n.spot ≡ true → Names cells f n
unfolding note_fits
names_of cells f n own is =
    let parts = and_parts _ _ is in
    let owner = owner_by f n.spot.owner own in
    record {
      names = names_by cells f n.spot.names (subst (λ (o : Option ℕ). list_all (object_fits o cells) n.spot.names ≡ true) owner parts.0);
      earlier = names_by cells f n.spot.before (subst (λ (o : Option ℕ). list_all (object_fits o cells) n.spot.before ≡ true) owner parts.1);
    }

spot_by : (s : Option NoteSpot) (a : Option Annot) (n : Noted) → with_spot s a ≡ Some n → s ≡ Some n.spot
spot_by None a n is = no_element n is
spot_by (Some s) None n is = no_element n is
spot_by (Some s) (Some a) n is = ap (λ (m : Noted). Some m.spot) (some_is _ n is)

at_by : (cells : List CellInfo) (spots : List NoteSpot) (annots : List Annot) (o : Option ℕ) (n : Noted) → list_all (note_fits cells) spots ≡ true → option_and_then (note_number spots annots) o ≡ Some n → note_fits cells n.spot ≡ true
at_by cells spots annots None n fits is = no_element n is
at_by cells spots annots (Some i) n fits is =
    get_all (note_fits cells) spots i n.spot fits (spot_by (slice_get spots i) (slice_get annots i) n is)

-- a note of a body fits
pub note_at_fits : (cells : List CellInfo) (spots : List NoteSpot) (annots : List Annot) (at : ℕ) (n : Noted) → NotesFit cells spots → note_at spots annots at ≡ Some n → note_fits cells n.spot ≡ true
unfolding NotesFit note_at
note_at_fits cells spots annots at n fits is = at_by cells spots annots _ n fits is

such_by : (cells : List CellInfo) (test : Noted → Bool) (ns : List Noted) (m n : Noted) (b : Bool) → note_fits cells m.spot ≡ true → (first_such test ns ≡ Some n → (note_fits cells n.spot ≡ true) × (test n ≡ true)) → test m ≡ b → (if b then Some m else first_such test ns) ≡ Some n → (note_fits cells n.spot ≡ true) × (test n ≡ true)
such_by cells test ns m n true fits h e is =
    let same = some_is m n is in
    (ap (λ (x : Noted). note_fits cells x.spot) (sym same) ∙ fits, ap test (sym same) ∙ e)
such_by cells test ns m n false fits h e is = h is

first_fits : (cells : List CellInfo) (test : Noted → Bool) (spots : List NoteSpot) (annots : List Annot) (n : Noted) → list_all (note_fits cells) spots ≡ true → first_such test (noted_all spots annots) ≡ Some n → (note_fits cells n.spot ≡ true) × (test n ≡ true)
first_fits cells test [] annots n fits is = no_element n is
first_fits cells test (s ∷ ss) [] n fits is = no_element n is
first_fits cells test (s ∷ ss) (a ∷ more) n fits is =
    let parts = and_parts _ _ fits in
    such_by cells test (noted_all ss more) (record { spot = s; annot = a }) n _ parts.0 (first_fits cells test ss more n parts.1) refl is

-- so does the contract of a function
pub contract_fits : (cells : List CellInfo) (spots : List NoteSpot) (annots : List Annot) (f : ℕ) (n : Noted) → NotesFit cells spots → contract_of (noted_all spots annots) f ≡ Some n → Names cells f n
unfolding NotesFit contract_of
contract_fits cells spots annots f n fits is =
    let h = first_fits cells (is_contract_of f) spots annots n fits is in
    names_of cells f n (and_parts _ _ h.1).0 h.0
