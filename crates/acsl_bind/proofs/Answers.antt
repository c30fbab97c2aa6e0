-- What is answered of a skeleton and its annotations.
use Rattle.std.proofs.Common.{◌≡◌, ◌∙◌, inl, inr, List, [], ℕ, map, Option, Some, None, Ok, Err, refl, ap, sym, subst}
use Rattle.c_ast.specs.declared.annot.Annot.{Annot}
use Rattle.c_ir.specs.Keeps.{Keeps}
use Rattle.c_ir.specs.Programs.{Program}
use Rattle.c_ir.specs.declared.note.NoteSpot.{NoteSpot}
use Rattle.c_ir.specs.declared.program.Skeleton.{Skeleton}
use Rattle.c_ir.specs.declared.tree.CellInfo.{CellInfo}
use Rattle.c_ir.specs.declared.tree.Fun.{Fun}
use Rattle.c_ir.specs.declared.tree.PointInfo.{PointInfo}
use Rattle.c_ir.specs.declared.tree.SiteInfo.{SiteInfo}
use Rattle.acsl_terms.proofs.Least.{least_is_first}
use Rattle.acsl_terms.specs.Breaches.{Breaches, none, just, both, least}
use Rattle.acsl_terms.specs.First.{Has, IsFirst}
use Rattle.acsl_terms.specs.Fits.{Free}
use Rattle.acsl_terms.specs.declared.breach.NoteBreach.{NoteBreach}
use Rattle.acsl_terms.specs.declared.breach.NoteFault.{NoteFault}
use Rattle.acsl_terms.specs.declared.breach.NoteFault.TheVariants as N
use Rattle.acsl_bind.specs.Notes.{Source, places_in_all}
use Rattle.acsl_bind.specs.Placing.{Made, Is, made_of}
use Rattle.acsl_bind.specs.Programs.{Moved, functions_from, noted_all, strays, moved_site, moved_to, walk_of, faults_of, program_of, fault_of, Judges, Binds}
use Rattle.acsl_bind.specs.declared.walk.Walk.{Walk}
use Rattle.c_types.specs.Noted.{NotesFit}
use Rattle.acsl_bind.specs.inner.Texts.{of_points, text}
use Rattle.acsl_bind.proofs.Law.{program_keeps}

none_among : (all : Breaches) → ((b : NoteBreach) → Has all b → ⊥) → Free all
none_among none h = tt
none_among (just b) h = h b refl
none_among (both x y) h = (none_among x (λ b has. h b (inl has)), none_among y (λ b has. h b (inr has)))

-- without a first breach there is none
free_of : (all : Breaches) → least None all ≡ None → Free all
free_of all is = none_among all (subst (λ (o : Option NoteBreach). IsFirst all o) is (least_is_first all))

-- the walk after the notes outside bodies
abbrev before : Skeleton → List Annot → Option NoteBreach
before s annots = least None (strays (places_in_all s.program.fns) (noted_all s.notes annots))

abbrev began : Option NoteBreach → Walk
began first = record { points = []; moved = []; first = first }

-- what is kept of the first breach is that of all
first_of : (s : Skeleton) (annots : List Annot) (first : Option NoteBreach) (got : Moved) (walk : Walk) → first ≡ before s annots → Is (walk_of s annots) got (began first) walk → walk.first ≡ least None (faults_of s annots)
first_of s annots first got walk is h = h.first ∙ ap (λ (f : Option NoteBreach). least f (walk_of s annots).breaches) is

-- the program that is made
abbrev made : Skeleton → Moved → Walk → Program
made s got walk = record {
  fns = got.0;
  cells = s.program.cells;
  points = walk.points;
  sites = map (moved_site (of_points s.program.fns s.program.points) got.1) s.program.sites;
}

made_is : (s : Skeleton) (annots : List Annot) (first : Option NoteBreach) (got : Moved) (walk : Walk) → Is (walk_of s annots) got (began first) walk → program_of s annots ≡ made s got walk
unfolding moved_to
made_is s annots first got walk h =
    ap (λ (g : Moved). record { fns = g.0; cells = s.program.cells; points = (walk_of s annots).made.points; sites = map (moved_site s.program g.1) s.program.sites }) h.value
    ∙ ap (λ (m : Made). record { fns = got.0; cells = s.program.cells; points = m.points; sites = map (moved_site s.program got.1) s.program.sites }) h.made

kept : (s : Skeleton) (annots : List Annot) (first : Option NoteBreach) (got : Moved) (walk : Walk) → Keeps s.program → NotesFit s.program.cells s.notes → first ≡ before s annots → Is (walk_of s annots) got (began first) walk → walk.first ≡ None → Keeps (made s got walk)
kept s annots first got walk keeps notes is h free =
    subst Keeps (made_is s annots first got walk h)
    (program_keeps s annots keeps notes (free_of (faults_of s annots) (sym (first_of s annots first got walk is h) ∙ free)))

-- so by what the code has
pub kept_by : (s : Skeleton) (annots : List Annot) (source : Source) (outside all again : List Fun) (points : List PointInfo) (first : Option NoteBreach) (fns : List Fun) (moves moves_again : List (List ℕ)) (start walk : Walk) (cells : List CellInfo) (old_sites sites : List SiteInfo) → Keeps s.program → NotesFit s.program.cells s.notes → source ≡ record { spots = s.notes; points = s.program.points } → outside ≡ s.program.fns → all ≡ s.program.fns → again ≡ s.program.fns → points ≡ s.program.points → moves_again ≡ moves → first ≡ least None (strays (places_in_all outside) (noted_all s.notes annots)) → start ≡ began first → Is (functions_from (text source annots) 0 all [] [] (made_of start)) (fns, moves) start walk → walk.first ≡ None → cells ≡ s.program.cells → old_sites ≡ s.program.sites → sites ≡ map (moved_site (of_points again points) moves_again) old_sites → Keeps (record { fns = fns; cells = cells; points = walk.points; sites = sites })
kept_by s annots source outside all again points first fns moves moves_again start walk cells old_sites sites keeps notes is_source is_outside is_all is_again is_points is_moves is_first is_start h free is_cells is_old is_sites =
    let got : Moved = (fns, moves) in
    let from_old = subst (λ (fs : List Fun). first ≡ least None (strays (places_in_all fs) (noted_all s.notes annots))) is_outside is_first in
    let went = subst (λ (w : Walk). Is (functions_from (text source annots) 0 all [] [] (made_of w)) got w walk) is_start h in
    let by_source = subst (λ (x : Source). Is (functions_from (text x annots) 0 all [] [] (made_of (began first))) got (began first) walk) is_source went in
    let by_fns = subst (λ (fs : List Fun). Is (functions_from (text (record { spots = s.notes; points = s.program.points }) annots) 0 fs [] [] (made_of (began first))) got (began first) walk) is_all by_source in
    let by_again = subst (λ (fs : List Fun). sites ≡ map (moved_site (of_points fs points) moves_again) old_sites) is_again is_sites in
    let by_points = subst (λ (ps : List PointInfo). sites ≡ map (moved_site (of_points s.program.fns ps) moves_again) old_sites) is_points by_again in
    let by_moves = subst (λ (ms : List (List ℕ)). sites ≡ map (moved_site (of_points s.program.fns s.program.points) ms) old_sites) is_moves by_points in
    let by_sites = subst (λ (ss : List SiteInfo). sites ≡ map (moved_site (of_points s.program.fns s.program.points) moves) ss) is_old by_moves in
    subst (λ (cs : List CellInfo). Keeps (record { fns = fns; cells = cs; points = walk.points; sites = sites })) (sym is_cells)
    (subst (λ (ss : List SiteInfo). Keeps (record { fns = fns; cells = s.program.cells; points = walk.points; sites = ss })) (sym by_sites)
    (kept s annots first got walk keeps notes from_old by_fns free))

pub program_made : (s : Skeleton) (annots : List Annot) (first : Option NoteBreach) (got : Moved) (walk : Walk) → first ≡ before s annots → Is (walk_of s annots) got (began first) walk → walk.first ≡ None → Binds s annots (Ok (made s got walk))
program_made s annots first got walk is h free =
    subst (λ (o : Option NoteBreach). Judges s annots o (Ok (made s got walk))) (sym free ∙ first_of s annots first got walk is h) (sym (made_is s annots first got walk h))

says : (s : Skeleton) (annots : List Annot) (b : NoteBreach) (f : NoteFault) → b.fault ≡ f → Judges s annots (Some b) (Err (fault_of b))
says s annots b (N.Unknown x) is = rw is refl
says s annots b N.NotHere is = rw is refl
says s annots b N.BadType is = rw is refl

pub refused : (s : Skeleton) (annots : List Annot) (first : Option NoteBreach) (got : Moved) (walk : Walk) (b : NoteBreach) → first ≡ before s annots → Is (walk_of s annots) got (began first) walk → walk.first ≡ Some b → Binds s annots (Err (fault_of b))
refused s annots first got walk b is h first_is =
    subst (λ (o : Option NoteBreach). Judges s annots o (Err (fault_of b))) (sym first_is ∙ first_of s annots first got walk is h) (says s annots b b.fault refl)
