-- What the program of a text keeps.
use Rattle.std.proofs.Common.{◌≡◌, ◌∙◌, inl, inr, List, [], Option, None, Result, Ok, Err, IfOk, refl, ap, sym, subst, arith}
use Rattle.c_ast.specs.declared.unit.Unit.{Unit as Text}
use Rattle.c_types.specs.Noted.{NotesFit}
use Rattle.c_ir.specs.Programs.{Program}
use Rattle.c_ir.specs.declared.note.NoteSpot.{NoteSpot}
use Rattle.c_ir.specs.declared.program.Skeleton.{Skeleton}
use Rattle.c_ir.specs.declared.tree.CellInfo.{CellInfo}
use Rattle.c_rules.specs.Breaches.{Breaches, least}
use Rattle.c_rules.specs.Breaches as breach
use Rattle.c_rules.specs.Fits.{entry_fits}
use Rattle.c_rules.specs.declared.breach.Breach.{Breach}
use Rattle.c_typing.proofs.Least.{least_is_first}
use Rattle.c_typing.specs.FileScope.{Declared}
use Rattle.c_typing.specs.First.{Has, IsFirst}
use Rattle.c_types.specs.Programs.{FirstRecursive, functions_of, skeleton_of, Finishes}
use Rattle.c_types.specs.declared.fault.TypeFault.{TypeFault}
use Rattle.c_types.specs.inner.Keeping.{KeepsIfCallsEnd}
use Rattle.c_typing.specs.Texts.{first_breach, nothing, walk_of}
use Rattle.c_ir.specs.Keeps.{Keeps}
use Rattle.c_types.proofs.Calls.{Typed, calls_in_range, calls_end}
use Rattle.c_types.proofs.Files.{All, SoundAt}
use Rattle.c_types.proofs.Kept.{Comes, all_of, opens, cells_kept, starts_kept, entry_kept, exit_kept, defined_kept, undefined_kept, points_kept, sites_kept}
use Rattle.c_types.proofs.Noted.{Base}
use Rattle.c_types.proofs.Shapes.{shapes}
use Rattle.c_types.proofs.Starts.{StartsFit, shapes_are, cells_are_set}
use Rattle.c_types.proofs.Steps.{Free}
use Rattle.c_types.proofs.Tallies.{Tallies, items_tallies}
use Rattle.c_types.proofs.Texts.{items_files, funs_given}

-- ---- breaches

none_among : (all : Breaches) → ((b : Breach) → Has all b → ⊥) → Free all
none_among breach.none h = tt
none_among (breach.just b) h = h b refl
none_among (breach.both x y) h = (none_among x (λ b has. h b (inl has)), none_among y (λ b has. h b (inr has)))

-- without a first breach there is none
free_of : (all : Breaches) → least None all ≡ None → Free all
free_of all is = none_among all (subst (λ (o : Option Breach). IsFirst all o) is (least_is_first all))

-- ---- programs

nothing_sound : (w : All) → SoundAt w nothing
unfolding entry_fits
nothing_sound w = record {
  fits = λ x. refl;
  names = λ x. tt;
  paired = refl;
  functions = λ n k is. absurd cc;
  definitions = λ n b is. absurd cc;
  points = λ q less. absurd (omega (arith, less));
  sites = λ i less. absurd (omega (arith, less));
  starts = tt;
}

skeleton_comes : {b : Base} (d : Declared) → Tallies b d → Comes (skeleton_of d).program d
skeleton_comes d t =
    let os = (functions_of d).made.objects in
    let g = funs_given 0 d.functions d.definitions [] d.names d.made in
    record {
      fns = g.value;
      points = g.points;
      sites = g.sites;
      shaped = shapes_are os d.starts d.constants ∙ ap shapes g.objects;
      started = λ fit. cells_are_set os d.starts d.constants (subst (λ (xs : List _). StartsFit (shapes xs) d.starts) (sym g.objects) fit);
      paired = t.functions;
      counts = t.keeps.count;
    }

text_tallies : (cells : List CellInfo) (u : Text) → Tallies (record { cells = cells; objects = [] }) (walk_of u).declared
unfolding NotesFit
text_tallies cells u =
    items_tallies [] u.items nothing
    (record {
      keeps = record {
        count = refl;
        back = λ here. here;
        functions = λ here x. tt;
        declared = λ here. refl;
        noted = λ here. refl;
      };
      functions = refl;
    })

skeleton_keeps : (u : Text) → Free (walk_of u).breaches → FirstRecursive (functions_of (walk_of u).declared).value None → Keeps (skeleton_of (walk_of u).declared).program
skeleton_keeps u free cycles =
    let d = (walk_of u).declared in
    let p = (skeleton_of d).program in
    let c = skeleton_comes d (text_tallies p.cells u) in
    let w = all_of p d c in
    let s = ((items_files w [] u.items nothing).good free (opens p d c) (nothing_sound w) tt).0 in
    let typed : Typed p = λ number f body is has. (defined_kept p d c s number f body is has).typed in
    record {
      cells = cells_kept p d c s;
      starts = starts_kept p d c s;
      entry = entry_kept p d c s;
      exit = exit_kept p d c s;
      defined = defined_kept p d c s;
      undefined = undefined_kept p d c;
      points = points_kept p d c s;
      sites = sites_kept p d c s;
      calls = calls_in_range p typed;
      calls_end = calls_end p typed cycles;
    }

pub text_keeps : (u : Text) (d : Declared) → d ≡ (walk_of u).declared → first_breach u ≡ None → KeepsIfCallsEnd d
text_keeps u d is none =
    subst (λ (x : Declared). KeepsIfCallsEnd x) (sym is) (λ cycles. skeleton_keeps u (free_of (walk_of u).breaches none) cycles)

pub made_keeps : (d : Declared) (p : Program) → KeepsIfCallsEnd d → FirstRecursive p.fns None → p ≡ (skeleton_of d).program → Keeps p
made_keeps d p keeps cycles is =
    subst Keeps (sym is) (keeps (subst (λ (x : Program). FirstRecursive x.fns None) is cycles))

-- ---- notes

skeleton_notes : (u : Text) → NotesFit (skeleton_of (walk_of u).declared).program.cells (skeleton_of (walk_of u).declared).notes
skeleton_notes u =
    let d = (walk_of u).declared in
    let p = (skeleton_of d).program in
    let t = text_tallies p.cells u in
    let c = skeleton_comes d t in
    let g = funs_given 0 d.functions d.definitions [] d.names d.made in
    subst (λ (ns : List NoteSpot). NotesFit p.cells ns) (sym g.notes) (t.keeps.noted (opens p d c).made.cells)

-- the names that the notes of a text can use fit its program
pub notes_fit : (u : Text) (d : Declared) (r : Result Skeleton TypeFault) → d ≡ (walk_of u).declared → Finishes d r → IfOk r (λ s. NotesFit s.program.cells s.notes)
notes_fit u d (Ok s) is h =
    subst (λ (x : Skeleton). NotesFit x.program.cells x.notes) (sym (h.skeleton ∙ ap (λ (x : Declared). skeleton_of x) is)) (skeleton_notes u)
notes_fit u d (Err e) is h = tt
