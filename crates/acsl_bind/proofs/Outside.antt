-- Notes outside bodies.
use Rattle.std.proofs.Common.{◌≡◌, ◌∙◌, ◌==◌, ◌&&◌, ℕ, Bool, not, List, ◌∷◌, Option, ap, sym, subst}
use Rattle.std.specs.List.{list_any}
use Rattle.c_ast.specs.declared.annot.Annot.{Annot}
use Rattle.c_ir.specs.declared.note.NoteSpot.{NoteSpot}
use Rattle.acsl_terms.specs.Breaches.{least}
use Rattle.acsl_terms.specs.declared.breach.NoteBreach.{NoteBreach}
use Rattle.acsl_bind.specs.Notes.{Noted}
use Rattle.acsl_bind.specs.Programs.{is_contract, is_owned, noted_all, stray, stray_of, strays}

-- a note by what the code asks of it
pub stray_by : (places : List ℕ) (n : Noted) (first : Option NoteBreach) (c p : Bool) → list_any (λ at. n.spot.at.span.from == at) places ≡ c → (is_owned n.spot.owner && is_contract n.annot.kind) ≡ p → least first (stray_of places n) ≡ least first (stray (not c && not p) n)
stray_by places n first c p is owned =
    ap (λ (b : Bool). least first (stray (not b && not (is_owned n.spot.owner && is_contract n.annot.kind)) n)) is
    ∙ ap (λ (b : Bool). least first (stray (not c && not b) n)) owned

-- a note less to go
pub one_stray : (places : List ℕ) (s : NoteSpot) (a : Annot) (ss spots : List NoteSpot) (xs annots : List Annot) (first new whole : Option NoteBreach) → spots ≡ s ∷ ss → annots ≡ a ∷ xs → new ≡ least first (stray_of places (record { spot = s; annot = a })) → least first (strays places (noted_all spots annots)) ≡ whole → least new (strays places (noted_all ss xs)) ≡ whole
one_stray places s a ss spots xs annots first new whole is has noted before =
    ap (λ (f : Option NoteBreach). least f (strays places (noted_all ss xs))) noted
    ∙ (ap (λ (zs : List Annot). least first (strays places (noted_all (s ∷ ss) zs))) (sym has)
    ∙ (ap (λ (zs : List NoteSpot). least first (strays places (noted_all zs annots))) (sym is) ∙ before))
