-- Steps of the walk over statements.
use Rattle.std.proofs.Common.{◌≡◌, ◌∙◌, ◌+◌, ℕ, Bool, List, [], ◌∷◌, ◌++◌, Option, Some, None, true, false, refl, ap, sym, subst, map}
use Rattle.std.specs.Prelude.{Result, Ok, Err}
use Rattle.std.specs.declared.alloc.AllocError.{AllocError}
use Rattle.c_ast.specs.declared.annot.Annot.{Annot}
use Rattle.c_ir.specs.declared.tree.Fun.{Fun}
use Rattle.fc_base.specs.declared.syntax.Spot.{Spot}
use Rattle.c_ir.specs.Bodies.{AtEntry, AtExit, same_stand, stand_of}
use Rattle.c_ir.specs.Formed.{on_some}
use Rattle.c_ir.specs.declared.kind.Kind.{Kind}
use Rattle.c_ir.specs.declared.kind.Kind.TheVariants as K
use Rattle.c_ir.specs.declared.tree.PointClause.{PointClause}
use Rattle.c_ir.specs.declared.tree.Stmt.{Stmt}
use Rattle.acsl_terms.specs.Breaches.{least}
use Rattle.acsl_terms.specs.declared.breach.NoteBreach.{NoteBreach}
use Rattle.acsl_bind.specs.Notes.{Source}
use Rattle.acsl_bind.specs.Placing.{Made, Went, Scene, Placed, Notes, Is, made_of, scene, after, bound_note, with_bound, next, next_by, stmts_from, heads_loop, placed_of}
use Rattle.acsl_bind.specs.declared.bound.Bound.{Bound}
use Rattle.acsl_bind.specs.declared.walk.Walk.{Walk}
use Rattle.acsl_bind.specs.Programs.{Moved, noted_all, contract_of, function, functions_from}
use Rattle.acsl_bind.specs.inner.Goes.{Goes}
use Rattle.acsl_bind.specs.inner.Nexts.{Nexts}
use Rattle.acsl_bind.specs.inner.Texts.{text}

-- a statement that is no note
pub no_note : (sc : Scene) (cs : List PointClause) (p : Placed) (b : Bool) (done : List Stmt) (s : Stmt) (left : List PointClause) (more : List Stmt) (old new : Walk) → p.note ≡ None → Is (p.walk cs (made_of old)) s old new → left ≡ [] → more ≡ done ++ s ∷ [] → Is (next sc cs p b done (made_of old)) (left, more) old new
unfolding next
no_note sc cs p b done s left more old new none h is_left is_more =
    subst (λ (o : Option Spot). Is (next_by sc cs o b p.walk done (made_of old)) (left, more) old new) (sym none)
    (record {
      value = ap (λ (t : Stmt). ([], done ++ t ∷ [])) h.value ∙ (ap (λ (xs : List PointClause). (xs, done ++ s ∷ [])) (sym is_left) ∙ ap (λ (ys : List Stmt). (left, ys)) (sym is_more));
      made = h.made;
      first = h.first;
    })

-- a note
pub a_note : (sc : Scene) (cs : List PointClause) (p : Placed) (b : Bool) (done : List Stmt) (at : Spot) (bound : Bound) (r : Notes) (old mid new : Walk) → p.note ≡ Some at → Is (bound_note sc b at (made_of old)) bound old mid → Is (with_bound sc.function bound done (made_of mid)) r mid new → Is (next sc cs p b done (made_of old)) r old new
unfolding next
a_note sc cs p b done at bound r old mid new some h k =
    let a = bound_note sc b at (made_of old) in
    let same : with_bound sc.function a.value done a.made ≡ with_bound sc.function bound done (made_of mid) = ap (λ (x : Bound). with_bound sc.function x done a.made) h.value ∙ ap (λ (m : Made). with_bound sc.function bound done m) h.made in
    subst (λ (o : Option Spot). Is (next_by sc cs o b p.walk done (made_of old)) r old new) (sym some)
    (record {
      value = ap (λ (w : Went Notes). w.value) same ∙ k.value;
      made = ap (λ (w : Went Notes). w.made) same ∙ k.made;
      first = k.first ∙ ap (λ (f : Option NoteBreach). least f (with_bound sc.function bound done (made_of mid)).breaches) h.first
          ∙ ap (λ (w : Went Notes). least (least old.first a.breaches) w.breaches) (sym same);
    })

pub a_note_nexts : (sc : Scene) (cs : List PointClause) (p : Placed) (b : Bool) (done : List Stmt) (at : Spot) (bound : Bound) (r : Result (List PointClause) AllocError) (more : List Stmt) (old mid new : Walk) → p.note ≡ Some at → Is (bound_note sc b at (made_of old)) bound old mid → Nexts (with_bound sc.function bound done (made_of mid)) r more mid new → Nexts (next sc cs p b done (made_of old)) r more old new
a_note_nexts sc cs p b done at bound (Ok left) more old mid new some h k = a_note sc cs p b done at bound (left, more) old mid new some h k
a_note_nexts sc cs p b done at bound (Err e) more old mid new some h k = tt

-- a statement less to go
pub one_more : (sc : Scene) (cs : List PointClause) (p : Placed) (ps : List Placed) (done : List Stmt) (b : Bool) (r : Notes) (old new start : Walk) (whole : Went (List Stmt)) → heads_loop ps ≡ b → Is (next sc cs p b done (made_of old)) r old new → Goes (stmts_from sc cs (p ∷ ps) done (made_of old)) whole old start → Goes (stmts_from sc r.0 ps r.1 (made_of new)) whole new start
one_more sc cs p ps done b r old new start whole heads is goes =
    let a = next sc cs p b done (made_of old) in
    let g = subst (λ (h : Bool). Goes (after (next sc cs p h done (made_of old)) (stmts_from sc (next sc cs p h done (made_of old)).value.0 ps (next sc cs p h done (made_of old)).value.1 (next sc cs p h done (made_of old)).made)) whole old start) heads goes in
    let same : stmts_from sc a.value.0 ps a.value.1 a.made ≡ stmts_from sc r.0 ps r.1 (made_of new) = ap (λ (x : Notes). stmts_from sc x.0 ps x.1 a.made) is.value ∙ ap (λ (m : Made). stmts_from sc r.0 ps r.1 m) is.made in
    record {
      value = sym (ap (λ (w : Went (List Stmt)). w.value) same) ∙ g.value;
      made = sym (ap (λ (w : Went (List Stmt)). w.made) same) ∙ g.made;
      first = ap (λ (f : Option NoteBreach). least f (stmts_from sc r.0 ps r.1 (made_of new)).breaches) is.first
          ∙ ap (λ (w : Went (List Stmt)). least (least old.first a.breaches) w.breaches) (sym same) ∙ g.first;
    }

-- whether statements begin with a loop
pub begins : (s : Stmt) (more all : List Stmt) (b : Bool) → all ≡ s ∷ more → ((sc : Scene) → (placed_of sc s).is_loop ≡ b) → (sc : Scene) → heads_loop (map (placed_of sc) all) ≡ b
begins s more all b is h sc = rw is (h sc)

-- a function less to go
pub one_function : (src : Source) (annots : List Annot) (n : ℕ) (f : Fun) (fs done : List Fun) (moves : List (List ℕ)) (g : Fun) (old mid start : Walk) (whole : Went Moved) → Is (function (scene src annots (record { 0 = n })) (contract_of (noted_all src.spots annots) n) f (made_of old)) g old mid → Goes (functions_from (text src annots) n (f ∷ fs) done moves (made_of old)) whole old start → Goes (functions_from (text src annots) (n + 1) fs (done ++ g ∷ []) (moves ++ mid.moved ∷ []) (record { points = mid.points; moved = [] })) whole (record { points = mid.points; moved = []; first = mid.first }) start
one_function src annots n f fs done moves g old mid start whole is goes =
    let a = function (scene src annots (record { 0 = n })) (contract_of (noted_all src.spots annots) n) f (made_of old) in
    let on : Fun → Made → Went Moved = λ h m. functions_from (text src annots) (n + 1) fs (done ++ h ∷ []) (moves ++ m.moved ∷ []) (record { points = m.points; moved = [] }) in
    let same : on a.value a.made ≡ on g (made_of mid) = ap (λ (h : Fun). on h a.made) is.value ∙ ap (λ (m : Made). on g m) is.made in
    record {
      value = sym (ap (λ (w : Went Moved). w.value) same) ∙ goes.value;
      made = sym (ap (λ (w : Went Moved). w.made) same) ∙ goes.made;
      first = ap (λ (b : Option NoteBreach). least b (on g (made_of mid)).breaches) is.first
          ∙ ap (λ (w : Went Moved). least (least old.first a.breaches) w.breaches) (sym same) ∙ goes.first;
    }

-- what stands at the entry doesn't stand at the exit
pub at_one_end : (k : Kind) → on_some (same_stand AtEntry) (stand_of k) ≡ true → on_some (same_stand AtExit) (stand_of k) ≡ false
at_one_end K.Requires is = refl
at_one_end K.CallRequires is = refl
at_one_end K.Ensures is = absurd cc
at_one_end K.Assert is = refl
at_one_end K.Check is = refl
at_one_end K.Admit is = refl
at_one_end K.LoopInvariant is = refl
at_one_end (K.Alarm a) is = refl
at_one_end K.Dead is = refl
