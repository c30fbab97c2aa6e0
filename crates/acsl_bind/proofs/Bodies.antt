-- Statements that the walk makes: they fit where the old ones did.
use Rattle.std.proofs.Common.{◌≡◌, ◌∙◌, ◌==◌, ◌+◌, ◌&&◌, ℕ, Bool, true, false, List, [], ◌∷◌, ◌++◌, length, map, Option, Some, None, refl, ap, sym, subst, append_assoc}
use Rattle.std.proofs.lemmas.Bool.{and_parts, and_from}
use Rattle.std.proofs.lemmas.List.{append-nil}
use Rattle.std.specs.Prelude.{if◌then◌else◌}
use Rattle.std.specs.List.{list_all}
use Rattle.fc_base.specs.declared.ids.PointId.{PointId}
use Rattle.fc_base.specs.declared.syntax.Spot.{Spot}
use Rattle.c_ast.specs.declared.annot.AnnotKind.{AnnotKind}
use Rattle.c_ast.specs.declared.annot.AnnotKind.TheVariants as A
use Rattle.c_ir.specs.Bodies.{Frame, Stand, AtLoop, AtNote, Plain, is_own, clause_fits, expr_fits, value_if_fits, all_fit, fits, fits_step}
use Rattle.c_ir.specs.Calls.{all_calls, calls_of_stmt, calls_of_stmts, stmt_calls_step, calls_of, calls_if}
use Rattle.c_ir.specs.Numbers.{Numbers, none, both, all, own_point, count, points_of, points_of_all, points_step, sites, sites_if, stmt_sites, stmt_sites_of_all, stmt_sites_step}
use Rattle.c_ir.specs.declared.place.Place.{Place}
use Rattle.c_ir.specs.declared.place.Place.TheVariants as P
use Rattle.c_ir.specs.declared.tree.Expr.{Expr}
use Rattle.c_ir.specs.declared.tree.PointClause.{PointClause}
use Rattle.c_ir.specs.declared.tree.Stmt.{Stmt, map-Stmt, roll-Stmt}
use Rattle.c_ir.specs.declared.tree.Stmt.TheFolds.{fold-roll-Stmt, ind-Stmt}
use Rattle.c_ir.specs.declared.tree.Stmt.TheOpen.{Stmt-F}
use Rattle.acsl_terms.specs.Clauses.{plain}
use Rattle.acsl_terms.specs.Fits.{Free}
use Rattle.acsl_bind.specs.Notes.{Noted, note_at, is_of, clauses_of, standing}
use Rattle.acsl_bind.specs.Placing.{Made, Went, Placing, Scene, pure, after, moved, statement_of, bound_by, bound_if, bound_note, Placed, placed, heads_loop, Notes, new_point, at_point, with_bound, next_by, next, stmts_from, stmts, placed_step, placed_of}
use Rattle.acsl_bind.specs.Programs.{moved_site}
use Rattle.acsl_bind.specs.declared.bound.Bound.{Bound}
use Rattle.acsl_bind.specs.declared.bound.Bound.TheVariants as B
use Rattle.acsl_bind.proofs.Clauses.{all_stand, Names, names_of, note_at_fits}
use Rattle.acsl_bind.proofs.Sites.{Follows, expr_moves_to, if_moves, return_moves, declared_moves}
use Rattle.acsl_bind.proofs.Steps.{Same, same0, same1, same2, same3, same4, both_same, grouped, Whole, old, new, Part, still_part, pure_part, then_part, as_part, Stands, point_part, new_point_part}

-- clauses that may stand at a loop
abbrev pub AtLoops : Whole → List PointClause → Type 0
AtLoops w cs = list_all (clause_fits (new w) AtLoop) cs ≡ true

-- ---- what an old statement is

record Old : Type 0 where
  fit : Bool → Bool
  points : Numbers
  sites : Numbers
  calls : List ℕ

abbrev an_old : (Bool → Bool) → Numbers → Numbers → List ℕ → Old
an_old fit points sites calls = record { fit = fit; points = points; sites = sites; calls = calls }

abbrev old_of : Whole → Stmt → Old
old_of w s = record { fit = fits (old w) s; points = points_of s; sites = stmt_sites s; calls = calls_of_stmt s }

abbrev old_step : Whole → Stmt-F Stmt → Old
old_step w x = record {
  fit = fits_step (old w) (map-Stmt Stmt (Bool → Bool) (fits (old w)) x);
  points = points_step (map-Stmt Stmt Numbers points_of x);
  sites = stmt_sites_step (map-Stmt Stmt Numbers stmt_sites x);
  calls = stmt_calls_step (map-Stmt Stmt (List ℕ) calls_of_stmt x);
}

old_roll : (w : Whole) (x : Stmt-F Stmt) → old_step w x ≡ old_of w (roll-Stmt x)
old_roll w x =
    let o = old_step w x in
    ap (λ (f : Bool → Bool). an_old (f) (o.points) (o.sites) (o.calls)) (sym (fold-roll-Stmt (Bool → Bool) (fits_step (old w)) x))
    ∙ ap (λ (n : Numbers). an_old (fits (old w) (roll-Stmt x)) (n) (o.sites) (o.calls)) (sym (fold-roll-Stmt Numbers points_step x))
    ∙ ap (λ (n : Numbers). an_old (fits (old w) (roll-Stmt x)) (points_of (roll-Stmt x)) (n) (o.calls)) (sym (fold-roll-Stmt Numbers stmt_sites_step x))
    ∙ ap (λ (cs : List ℕ). an_old (fits (old w) (roll-Stmt x)) (points_of (roll-Stmt x)) (stmt_sites (roll-Stmt x)) (cs)) (sym (fold-roll-Stmt (List ℕ) stmt_calls_step x))

-- ---- statements that are made

record StmtGood (w : Whole) (clauses : List PointClause) (in_loop : Bool) (m : Made) (v : Went Stmt) (o : Old) : Type 0 where
  part : Part w m v (AtLoops w clauses → fits (new w) v.value in_loop ≡ true) o.points (points_of v.value)
  sites : Same (stmt_sites v.value) o.sites
  calls : calls_of_stmt v.value ≡ o.calls

abbrev GoodBy : Whole → Option Spot → (List PointClause → Placing Stmt) → Old → Type 0
GoodBy w None walk o = (clauses : List PointClause) (in_loop : Bool) (m : Made) → o.fit in_loop ≡ true → StmtGood w clauses in_loop m (walk clauses m) o
GoodBy w (Some at) walk o = (o.points ≡ none) × (o.sites ≡ none) × (o.calls ≡ [])

abbrev GoodPlaced : Whole → Placed → Old → Type 0
GoodPlaced w p o = GoodBy w p.note p.walk o

pub record ListGood (w : Whole) (in_loop : Bool) (m : Made) (v : Went (List Stmt)) (ss : List Stmt) : Type 0 where
  pub part : Part w m v (all_fit (map (fits (new w)) v.value) in_loop ≡ true) (points_of_all ss) (points_of_all v.value)
  pub sites : Same (stmt_sites_of_all v.value) (stmt_sites_of_all ss)
  pub calls : calls_of_stmts v.value ≡ calls_of_stmts ss

one_good : {w : Whole} {m : Made} {v : Went Stmt} {Q : Type 0} {xs ps : Numbers} (clauses : List PointClause) (in_loop : Bool) (o : Old) (x : Stmt-F Stmt) → Part w m v Q xs ps → v.value ≡ roll-Stmt x → (Q → AtLoops w clauses → fits_step (new w) (map-Stmt Stmt (Bool → Bool) (fits (new w)) x) in_loop ≡ true) → Same xs o.points → Same ps (points_step (map-Stmt Stmt Numbers points_of x)) → Same (stmt_sites_step (map-Stmt Stmt Numbers stmt_sites x)) o.sites → stmt_calls_step (map-Stmt Stmt (List ℕ) calls_of_stmt x) ≡ o.calls → StmtGood w clauses in_loop m v o
one_good {w} {m} {v} {Q} {xs} {ps} clauses in_loop o x part is fit olds news at_sites calls = record {
  part = as_part _ _ _
      (λ q at. ap (λ (s : Stmt). fits (new w) s in_loop) is ∙ ap (λ (g : Bool → Bool). g in_loop) (fold-roll-Stmt (Bool → Bool) (fits_step (new w)) x) ∙ fit q at)
      olds
      (record { at = λ a. news.at a ∙ ap (count a) (sym (ap points_of is ∙ fold-roll-Stmt Numbers points_step x)) })
      part;
  sites = record { at = λ a. ap (count a) (ap stmt_sites is ∙ fold-roll-Stmt Numbers stmt_sites_step x) ∙ at_sites.at a };
  calls = ap calls_of_stmt is ∙ fold-roll-Stmt (List ℕ) stmt_calls_step x ∙ calls;
}

-- ---- notes

abbrev BoundFits : Whole → Bound → Type 0
BoundFits w B.Nothing = Unit {0}
BoundFits w (B.Statement c) = clause_fits (new w) AtNote c ≡ true
BoundFits w (B.Invariants cs) = AtLoops w cs

statement_fits : (w : Whole) (cs : List PointClause) → list_all (clause_fits (new w) AtNote) cs ≡ true → BoundFits w (statement_of cs)
statement_fits w [] is = tt
statement_fits w (c ∷ cs) is = (and_parts _ _ is).0

bound_by_part : (w : Whole) (b : Bool) (n : Noted) (kind : AnnotKind) (m : Made) → Names w.program.cells w.scene.function.0 n → Part w m (bound_by b n kind m) (BoundFits w (bound_by b n kind m).value) none none
bound_by_part w true n A.CodeNote m names =
    still_part w m _ _ _ (λ free. statement_fits w _ (all_stand w.clause (new w) AtNote n.spot.before plain n.annot.clauses names.earlier tt tt free))
bound_by_part w false n A.CodeNote m names =
    still_part w m _ _ _ (λ free. statement_fits w _ (all_stand w.clause (new w) AtNote n.spot.before plain n.annot.clauses names.earlier tt tt free))
bound_by_part w true n A.LoopNote m names =
    still_part w m _ _ _ (λ free. all_stand w.clause (new w) AtLoop n.spot.names plain n.annot.clauses names.names tt tt free)
bound_by_part w false n A.LoopNote m names = still_part w m _ _ _ (λ free. tt)
bound_by_part w true n A.Contract m names = still_part w m _ _ _ (λ free. tt)
bound_by_part w false n A.Contract m names = still_part w m _ _ _ (λ free. tt)

abbrev bound_owned : Whole → Bool → Noted → Bool → Placing Bound
bound_owned w b n own = if own then bound_by b n n.annot.kind else pure B.Nothing

owned_part : (w : Whole) (b : Bool) (n : Noted) (own : Bool) (m : Made) → (own ≡ true → Names w.program.cells w.scene.function.0 n) → Part w m (bound_owned w b n own m) (BoundFits w (bound_owned w b n own m).value) none none
owned_part w b n true m names = bound_by_part w b n n.annot.kind m (names refl)
owned_part w b n false m names = pure_part w m B.Nothing

bound_if_part : (w : Whole) (b : Bool) (at : Spot) (o : Option Noted) (m : Made) → note_at w.scene.spots w.scene.annots at.span.from ≡ o → Part w m (bound_if w.scene.function.0 b o m) (BoundFits w (bound_if w.scene.function.0 b o m).value) none none
bound_if_part w b at None m is = pure_part w m B.Nothing
bound_if_part w b at (Some n) m is =
    owned_part w b n (is_of w.scene.function.0 n) m
    (λ own. names_of w.program.cells w.scene.function.0 n own (note_at_fits w.program.cells w.scene.spots w.scene.annots at.span.from n w.notes is))

bound_part : (w : Whole) (b : Bool) (at : Spot) (m : Made) → Part w m (bound_note w.scene b at m) (BoundFits w (bound_note w.scene b at m).value) none none
unfolding bound_note
bound_part w b at m = bound_if_part w b at (note_at w.scene.spots w.scene.annots at.span.from) m refl

-- ---- lists

-- what a part gives are the statements that were there and more, which fit; and the clauses for the next statement
record More {X : Type 0} (w : Whole) (clauses next : List PointClause) (in_loop : Bool) (m : Made) (v : Went X) (done now ss : List Stmt) : Type 0 where
  more : List Stmt
  is : now ≡ done ++ more
  part : Part w m v (AtLoops w clauses → (all_fit (map (fits (new w)) more) in_loop ≡ true) × AtLoops w next) (points_of_all ss) (points_of_all more)
  sites : Same (stmt_sites_of_all more) (stmt_sites_of_all ss)
  calls : calls_of_stmts more ≡ calls_of_stmts ss

all_more : (f : Frame) (in_loop : Bool) (xs ys : List Stmt) → all_fit (map (fits f) xs) in_loop ≡ true → all_fit (map (fits f) ys) in_loop ≡ true → all_fit (map (fits f) (xs ++ ys)) in_loop ≡ true
all_more f in_loop [] ys p q = q
all_more f in_loop (x ∷ xs) ys p q =
    let parts = and_parts _ _ p in and_from _ _ parts.0 (all_more f in_loop xs ys parts.1 q)

calls_more : (xs ys : List Stmt) → calls_of_stmts (xs ++ ys) ≡ calls_of_stmts xs ++ calls_of_stmts ys
calls_more [] ys = refl
calls_more (x ∷ xs) ys =
    ap (λ (cs : List ℕ). calls_of_stmt x ++ cs) (calls_more xs ys)
    ∙ sym (append_assoc (calls_of_stmt x) (calls_of_stmts xs) (calls_of_stmts ys))

numbers_more : (f : Stmt → Numbers) (xs ys : List Stmt) → Same (both (all (map f xs)) (all (map f ys))) (all (map f (xs ++ ys)))
numbers_more f [] ys = record { at = λ a. refl }
numbers_more f (x ∷ xs) ys =
    let rest = both_same (f x) (f x) (both (all (map f xs)) (all (map f ys))) (all (map f (xs ++ ys))) (same0 (f x)) (numbers_more f xs ys) in
    record { at = λ a. sym (grouped (f x) (all (map f xs)) (all (map f ys)) a) ∙ rest.at a }

then_more : {X Y : Type 0} {w : Whole} {c d e : List PointClause} {in_loop : Bool} {m : Made} {a : Went X} {b : Went Y} {done mid now xs ys : List Stmt} → More w c d in_loop m a done mid xs → More w d e in_loop a.made b mid now ys → More w c e in_loop m (after a b) done now (xs ++ ys)
then_more {X} {Y} {w} {c} {d} {e} {in_loop} {m} {a} {b} {done} {mid} {now} {xs} {ys} p q = record {
  more = p.more ++ q.more;
  is = q.is ∙ ap (λ (ss : List Stmt). ss ++ q.more) p.is ∙ append_assoc done p.more q.more;
  part = as_part _ _ _
      (λ h at. let one = h.0 at in let other = h.1 one.1 in (all_more (new w) in_loop p.more q.more one.0 other.0, other.1))
      (numbers_more points_of xs ys) (numbers_more points_of p.more q.more)
      (then_part p.part q.part);
  sites = record {
    at = λ a. sym ((numbers_more stmt_sites p.more q.more).at a)
        ∙ (both_same (stmt_sites_of_all p.more) (stmt_sites_of_all xs) (stmt_sites_of_all q.more) (stmt_sites_of_all ys) p.sites q.sites).at a
        ∙ (numbers_more stmt_sites xs ys).at a;
  };
  calls = calls_more p.more q.more
      ∙ ap (λ (cs : List ℕ). cs ++ calls_of_stmts q.more) p.calls
      ∙ ap (λ (cs : List ℕ). calls_of_stmts xs ++ cs) q.calls
      ∙ sym (calls_more xs ys);
}

-- a statement that is no note
put_more : (w : Whole) (clauses : List PointClause) (in_loop : Bool) (m : Made) (v : Went Stmt) (s : Stmt) (done : List Stmt) → StmtGood w clauses in_loop m v (old_of w s) → More {X = Notes} w clauses [] in_loop m (after v (pure ([], done ++ v.value ∷ []) v.made)) done (done ++ v.value ∷ []) (s ∷ [])
put_more w clauses in_loop m v s done g = record {
  more = v.value ∷ [];
  is = refl;
  part = as_part _ _ _ (λ h at. (and_from _ _ (h.0 at) refl, refl)) (same0 (both (points_of s) none)) (same0 (both (points_of v.value) none)) (then_part g.part (pure_part w v.made _));
  sites = both_same (stmt_sites v.value) (stmt_sites s) none none g.sites (same0 none);
  calls = ap (λ (cs : List ℕ). cs ++ []) g.calls;
}

-- what has no points
record Bare (s : Stmt) : Type 0 where
  points : points_of s ≡ none
  sites : stmt_sites s ≡ none
  calls : calls_of_stmt s ≡ []

bare_points : (s : Stmt) → Bare s → Same none (points_of_all (s ∷ []))
bare_points s b = record { at = λ a. ap (λ (n : Numbers). count a (both n none)) (sym b.points) }

bare_sites : (s : Stmt) → Bare s → Same none (stmt_sites_of_all (s ∷ []))
bare_sites s b = record { at = λ a. ap (λ (n : Numbers). count a (both n none)) (sym b.sites) }

bare_calls : (s : Stmt) → Bare s → [] ≡ calls_of_stmts (s ∷ [])
bare_calls s b = ap (λ (cs : List ℕ). cs ++ []) (sym b.calls)

-- what becomes of a note
record NoteMore (w : Whole) (in_loop : Bool) (m : Made) (v : Went Notes) (bound : Bound) (done : List Stmt) : Type 0 where
  more : List Stmt
  is : v.value.1 ≡ done ++ more
  part : Part w m v (BoundFits w bound → (all_fit (map (fits (new w)) more) in_loop ≡ true) × AtLoops w v.value.0) none (points_of_all more)
  sites : Same (stmt_sites_of_all more) none
  calls : calls_of_stmts more ≡ []

clause_points : (q : PointId) → Same (both (own_point q) none) (points_of_all (roll-Stmt (Stmt-F.Clause q) ∷ []))
clause_points q = record { at = λ a. ap (λ (n : Numbers). count a (both n none)) (sym (fold-roll-Stmt Numbers points_step (Stmt-F.Clause q))) }

clause_sites : (q : PointId) → Same (stmt_sites_of_all (roll-Stmt (Stmt-F.Clause q) ∷ [])) none
clause_sites q = record { at = λ a. ap (λ (n : Numbers). count a (both n none)) (fold-roll-Stmt Numbers stmt_sites_step (Stmt-F.Clause q)) }

clause_calls : (q : PointId) → calls_of_stmts (roll-Stmt (Stmt-F.Clause q) ∷ []) ≡ []
clause_calls q = ap (λ (cs : List ℕ). cs ++ []) (fold-roll-Stmt (List ℕ) stmt_calls_step (Stmt-F.Clause q))

clause_is : (f : Frame) (in_loop : Bool) (q : PointId) → is_own f AtNote q ≡ true → all_fit (map (fits f) (roll-Stmt (Stmt-F.Clause q) ∷ [])) in_loop ≡ true
clause_is f in_loop q own =
    and_from _ _ (ap (λ (g : Bool → Bool). g in_loop) (fold-roll-Stmt (Bool → Bool) (fits_step f) (Stmt-F.Clause q)) ∙ own) refl

with_more : (w : Whole) (in_loop : Bool) (bound : Bound) (done : List Stmt) (m : Made) → NoteMore w in_loop m (with_bound w.scene.function bound done m) bound done
with_more w in_loop B.Nothing done m = record {
  more = [];
  is = sym (append-nil done);
  part = as_part _ _ _ (λ u b. (refl, refl)) (same0 none) (same0 none) (pure_part w m _);
  sites = same0 none;
  calls = refl;
}
with_more w in_loop (B.Statement c) done m =
    let q = (new_point w.scene.function c.line (c ∷ []) m).value in
    record {
      more = roll-Stmt (Stmt-F.Clause q) ∷ [];
      is = refl;
      part = as_part _ _ _
          (λ h b. (clause_is (new w) in_loop q (h.0 (and_from _ _ refl (and_from _ _ b refl))), refl))
          (record { at = λ a. refl }) (clause_points q)
          (then_part (new_point_part w AtNote (c ∷ []) c m) (pure_part w _ _));
      sites = clause_sites q;
      calls = clause_calls q;
    }
with_more w in_loop (B.Invariants cs) done m = record {
  more = [];
  is = sym (append-nil done);
  part = as_part _ _ _ (λ u b. (refl, b)) (same0 none) (same0 none) (pure_part w m _);
  sites = same0 none;
  calls = refl;
}

note_more : (w : Whole) (clauses : List PointClause) (in_loop : Bool) (m : Made) (a : Went Bound) (done : List Stmt) (s : Stmt) → Bare s → Part w m a (BoundFits w a.value) none none → NoteMore w in_loop a.made (with_bound w.scene.function a.value done a.made) a.value done → More w clauses (with_bound w.scene.function a.value done a.made).value.0 in_loop m (after a (with_bound w.scene.function a.value done a.made)) done (with_bound w.scene.function a.value done a.made).value.1 (s ∷ [])
note_more w clauses in_loop m a done s bare p n = record {
  more = n.more;
  is = n.is;
  part = as_part _ _ _ (λ h at. h.1 h.0) (record { at = (bare_points s bare).at }) (record { at = λ a. refl }) (then_part p n.part);
  sites = record { at = λ a. n.sites.at a ∙ (bare_sites s bare).at a };
  calls = n.calls ∙ bare_calls s bare;
}

next_by_more : (w : Whole) (clauses : List PointClause) (in_loop b : Bool) (note : Option Spot) (walk : List PointClause → Placing Stmt) (s : Stmt) (done : List Stmt) (m : Made) → GoodBy w note walk (old_of w s) → fits (old w) s in_loop ≡ true → More w clauses (next_by w.scene clauses note b walk done m).value.0 in_loop m (next_by w.scene clauses note b walk done m) done (next_by w.scene clauses note b walk done m).value.1 (s ∷ [])
next_by_more w clauses in_loop b None walk s done m good is = put_more w clauses in_loop m (walk clauses m) s done (good clauses in_loop m is)
next_by_more w clauses in_loop b (Some at) walk s done m good is =
    let a = bound_note w.scene b at m in
    note_more w clauses in_loop m a done s (record { points = good.0; sites = good.1; calls = good.2 }) (bound_part w b at m) (with_more w in_loop a.value done a.made)

next_more : (w : Whole) (clauses : List PointClause) (in_loop b : Bool) (p : Placed) (s : Stmt) (done : List Stmt) (m : Made) → GoodPlaced w p (old_of w s) → fits (old w) s in_loop ≡ true → More w clauses (next w.scene clauses p b done m).value.0 in_loop m (next w.scene clauses p b done m) done (next w.scene clauses p b done m).value.1 (s ∷ [])
unfolding next
next_more w clauses in_loop b p s done m good is = next_by_more w clauses in_loop b p.note p.walk s done m good is

abbrev AllGood : Whole → List Stmt → Type 0
AllGood w [] = Unit {0}
AllGood w (s ∷ ss) = GoodPlaced w (placed_of w.scene s) (old_of w s) × AllGood w ss

from_more : (w : Whole) (clauses : List PointClause) (in_loop : Bool) (ss : List Stmt) (done : List Stmt) (m : Made) → AllGood w ss → all_fit (map (fits (old w)) ss) in_loop ≡ true → More w clauses [] in_loop m (stmts_from w.scene clauses (map (placed_of w.scene) ss) done m) done (stmts_from w.scene clauses (map (placed_of w.scene) ss) done m).value ss
from_more w clauses in_loop [] done m good is = record {
  more = [];
  is = sym (append-nil done);
  part = as_part _ _ _ (λ u at. (refl, refl)) (same0 none) (same0 none) (pure_part w m done);
  sites = same0 none;
  calls = refl;
}
from_more w clauses in_loop (s ∷ ss) done m good is =
    let parts = and_parts _ _ is in
    let b = heads_loop (map (placed_of w.scene) ss) in
    let n = next w.scene clauses (placed_of w.scene s) b done m in
    then_more {xs = s ∷ []} {ys = ss} (next_more w clauses in_loop b (placed_of w.scene s) s done m good.0 parts.0) (from_more w n.value.0 in_loop ss n.value.1 n.made good.1 parts.1)

stmts_by : (w : Whole) (in_loop : Bool) (m : Made) (v : Went (List Stmt)) (ss : List Stmt) → More w [] [] in_loop m v [] v.value ss → ListGood w in_loop m v ss
stmts_by w in_loop m v ss p = record {
  part = as_part _ _ _
      (λ h. subst (λ (xs : List Stmt). all_fit (map (fits (new w)) xs) in_loop ≡ true) (sym p.is) (h refl).0)
      (same0 (points_of_all ss)) (record { at = λ a. ap (λ (xs : List Stmt). count a (points_of_all xs)) (sym p.is) }) p.part;
  sites = record { at = λ a. ap (λ (xs : List Stmt). count a (stmt_sites_of_all xs)) p.is ∙ p.sites.at a };
  calls = ap calls_of_stmts p.is ∙ p.calls;
}

list_good : (w : Whole) (in_loop : Bool) (ss : List Stmt) (m : Made) → AllGood w ss → all_fit (map (fits (old w)) ss) in_loop ≡ true → ListGood w in_loop m (stmts w.scene (map (placed_of w.scene) ss) m) ss
list_good w in_loop ss m good is = stmts_by w in_loop m _ ss (from_more w [] in_loop ss [] m good is)

-- ---- single statements

-- one that governs no other
simple_good : (w : Whole) (was : Stand) (p : PointId) (x : PointId → Stmt-F Stmt) (o : Old) (clauses : List PointClause) (in_loop : Bool) (m : Made) → is_own (old w) was p ≡ true → ((q : PointId) → Follows w.program.sites (map (moved_site w.program w.moves) w.program.sites) p q → is_own (new w) Plain q ≡ true → fits_step (new w) (map-Stmt Stmt (Bool → Bool) (fits (new w)) (x q)) in_loop ≡ true) → own_point p ≡ o.points → ((q : PointId) → points_step (map-Stmt Stmt Numbers points_of (x q)) ≡ own_point q) → ((q : PointId) → stmt_sites_step (map-Stmt Stmt Numbers stmt_sites (x q)) ≡ o.sites) → ((q : PointId) → stmt_calls_step (map-Stmt Stmt (List ℕ) calls_of_stmt (x q)) ≡ o.calls) → StmtGood w clauses in_loop m (at_point w.scene.points w.scene.function p x m) o
simple_good w was p x o clauses in_loop m own fit olds news at_sites calls =
    let q = (moved w.scene p [] m).value in
    one_good clauses in_loop o (x q)
    (then_part (point_part w was Plain p [] m own) (pure_part w _ _))
    refl
    (λ h at. fit q h.0.follows (h.0.own refl))
    (record { at = λ a. (same1 (own_point p)).at a ∙ ap (count a) olds })
    (record { at = λ a. (same1 (own_point q)).at a ∙ ap (count a) (sym (news q)) })
    (record { at = λ a. ap (count a) (at_sites q) })
    (calls q)

-- ---- statements that govern others

abbrev Good : Whole → Stmt → Type 0
Good w s = GoodPlaced w (placed_of w.scene s) (old_of w s)

abbrev With : Whole → Type 0
With w = (s : Stmt) × Good w s

all_of : (w : Whole) (ys : List (With w)) → AllGood w (map (λ s. s.0) ys)
all_of w [] = tt
all_of w (y ∷ ys) = (y.1, all_of w ys)

abbrev stmts_in : (w : Whole) → Stmt-F (With w) → Stmt-F Stmt
stmts_in w y = map-Stmt (With w) Stmt (λ s. s.0) y

abbrev placeds : (w : Whole) → Stmt-F (With w) → Stmt-F Placed
placeds w y = map-Stmt Stmt Placed (placed_of w.scene) (stmts_in w y)

abbrev trees : (w : Whole) → List (With w) → List Stmt
trees w ys = map (λ s. s.0) ys

abbrev sub_good : (w : Whole) (in_loop : Bool) (ys : List (With w)) (m : Made) → all_fit (map (fits (old w)) (trees w ys)) in_loop ≡ true → ListGood w in_loop m (stmts w.scene (map (placed_of w.scene) (trees w ys)) m) (trees w ys)
sub_good w in_loop ys m is = list_good w in_loop (trees w ys) m (all_of w ys) is

layer : (w : Whole) (y : Stmt-F (With w)) → GoodPlaced w (placed_step w.scene (placeds w y)) (old_step w (stmts_in w y))
layer w (Stmt-F.Declare p f n value) = λ clauses in_loop m is.
    let parts = and_parts _ _ is in
    simple_good w Plain p (λ q. Stmt-F.Declare q f n value) (old_step w (Stmt-F.Declare p f n value)) clauses in_loop m parts.0
    (λ q follows own. and_from _ _ own (declared_moves (old w) _ w.points p q follows f n value parts.1))
    refl (λ q. refl) (λ q. refl) (λ q. refl)
layer w (Stmt-F.Expression p e) = λ clauses in_loop m is.
    let parts = and_parts _ _ is in
    simple_good w Plain p (λ q. Stmt-F.Expression q e) (old_step w (Stmt-F.Expression p e)) clauses in_loop m parts.0
    (λ q follows own. and_from _ _ own (expr_moves_to (old w) _ w.points p q follows P.Dropped e parts.1))
    refl (λ q. refl) (λ q. refl) (λ q. refl)
layer w (Stmt-F.If p c ys ns) = λ clauses in_loop m is.
    let parts = and_parts _ _ is in
    let head = and_parts _ _ parts.0 in
    let rest = and_parts _ _ parts.1 in
    let a = moved w.scene p [] m in
    let yes = sub_good w in_loop ys a.made rest.0 in
    let b = stmts w.scene (map (placed_of w.scene) (trees w ys)) a.made in
    let others = sub_good w in_loop ns b.made rest.1 in
    let d = stmts w.scene (map (placed_of w.scene) (trees w ns)) b.made in
    one_good clauses in_loop (old_step w (Stmt-F.If p c (trees w ys) (trees w ns))) (Stmt-F.If _ c _ _)
    (then_part (point_part w Plain Plain p [] m head.0) (then_part yes.part (then_part others.part (pure_part w _ _))))
    refl
    (λ h at. and_from _ _ (and_from _ _ (h.0.own refl) (expr_moves_to (old w) _ w.points p _ h.0.follows P.Inner c head.1)) (and_from _ _ h.1.0 h.1.1.0))
    (same3 (own_point p) _ _) (same3 (own_point _) _ _)
    (both_same _ _ _ _ (both_same _ _ _ _ (same0 (sites c)) yes.sites) others.sites)
    (ap (λ (cs : List ℕ). calls_of c ++ (cs ++ calls_of_stmts d.value)) yes.calls ∙ ap (λ (cs : List ℕ). calls_of c ++ (calls_of_stmts (trees w ys) ++ cs)) others.calls)
layer w (Stmt-F.While p c bs) = λ clauses in_loop m is.
    let parts = and_parts _ _ is in
    let head = and_parts _ _ parts.0 in
    let body = sub_good w true bs (moved w.scene p clauses m).made parts.1 in
    one_good clauses in_loop (old_step w (Stmt-F.While p c (trees w bs))) (Stmt-F.While _ c _)
    (then_part (point_part w AtLoop AtLoop p clauses m head.0) (then_part body.part (pure_part w _ _)))
    refl
    (λ h at. and_from _ _ (and_from _ _ (h.0.own at) (expr_moves_to (old w) _ w.points p _ h.0.follows P.Inner c head.1)) h.1.0)
    (same2 (own_point p) _) (same2 (own_point _) _)
    (both_same _ _ _ _ (same0 (sites c)) body.sites)
    (ap (λ (cs : List ℕ). calls_of c ++ cs) body.calls)
layer w (Stmt-F.DoWhile p bs c) = λ clauses in_loop m is.
    let parts = and_parts _ _ is in
    let head = and_parts _ _ parts.0 in
    let body = sub_good w true bs (moved w.scene p clauses m).made parts.1 in
    one_good clauses in_loop (old_step w (Stmt-F.DoWhile p (trees w bs) c)) (Stmt-F.DoWhile _ _ c)
    (then_part (point_part w AtLoop AtLoop p clauses m head.0) (then_part body.part (pure_part w _ _)))
    refl
    (λ h at. and_from _ _ (and_from _ _ (h.0.own at) (expr_moves_to (old w) _ w.points p _ h.0.follows P.Inner c head.1)) h.1.0)
    (same2 (own_point p) _) (same2 (own_point _) _)
    (both_same _ _ _ _ body.sites (same0 (sites c)))
    (ap (λ (cs : List ℕ). cs ++ calls_of c) body.calls)
layer w (Stmt-F.For hs p c bs us) = λ clauses in_loop m is.
    let parts = and_parts _ _ is in
    let own = and_parts _ _ parts.0 in
    let rest = and_parts _ _ parts.1 in
    let last = and_parts _ _ rest.1 in
    let head = sub_good w in_loop hs m rest.0 in
    let a = stmts w.scene (map (placed_of w.scene) (trees w hs)) m in
    let b = moved w.scene p clauses a.made in
    let body = sub_good w true bs b.made last.0 in
    let d = stmts w.scene (map (placed_of w.scene) (trees w bs)) b.made in
    let update = sub_good w in_loop us d.made last.1 in
    let e = stmts w.scene (map (placed_of w.scene) (trees w us)) d.made in
    one_good clauses in_loop (old_step w (Stmt-F.For (trees w hs) p c (trees w bs) (trees w us))) (Stmt-F.For _ _ c _ _)
    (then_part head.part (then_part (point_part w AtLoop AtLoop p clauses a.made own.0) (then_part body.part (then_part update.part (pure_part w _ _)))))
    refl
    (λ h at. and_from _ _ (and_from _ _ (h.1.0.own at) (if_moves (old w) _ w.points p _ h.1.0.follows P.Inner c own.1)) (and_from _ _ h.0 (and_from _ _ h.1.1.0 h.1.1.1.0)))
    (same4 _ (own_point p) _ _) (same4 _ (own_point _) _ _)
    (both_same _ _ _ _ (both_same _ _ _ _ (both_same _ _ _ _ head.sites (same0 (sites_if c))) body.sites) update.sites)
    (ap (λ (cs : List ℕ). cs ++ (calls_if c ++ (calls_of_stmts d.value ++ calls_of_stmts e.value))) head.calls
    ∙ ap (λ (cs : List ℕ). calls_of_stmts (trees w hs) ++ (calls_if c ++ (cs ++ calls_of_stmts e.value))) body.calls
    ∙ ap (λ (cs : List ℕ). calls_of_stmts (trees w hs) ++ (calls_if c ++ (calls_of_stmts (trees w bs) ++ cs))) update.calls)
layer w (Stmt-F.Break p) = λ clauses in_loop m is.
    let parts = and_parts _ _ is in
    simple_good w Plain p (λ q. Stmt-F.Break q) (old_step w (Stmt-F.Break p)) clauses in_loop m parts.0
    (λ q follows own. and_from _ _ own parts.1)
    refl (λ q. refl) (λ q. refl) (λ q. refl)
layer w (Stmt-F.Continue p) = λ clauses in_loop m is.
    let parts = and_parts _ _ is in
    simple_good w Plain p (λ q. Stmt-F.Continue q) (old_step w (Stmt-F.Continue p)) clauses in_loop m parts.0
    (λ q follows own. and_from _ _ own parts.1)
    refl (λ q. refl) (λ q. refl) (λ q. refl)
layer w (Stmt-F.Return p value) = λ clauses in_loop m is.
    let parts = and_parts _ _ is in
    simple_good w Plain p (λ q. Stmt-F.Return q value) (old_step w (Stmt-F.Return p value)) clauses in_loop m parts.0
    (λ q follows own. and_from _ _ own (return_moves (old w) _ w.points p q follows (old w).result value parts.1))
    refl (λ q. refl) (λ q. refl) (λ q. refl)
layer w (Stmt-F.Empty p) = λ clauses in_loop m is.
    simple_good w Plain p (λ q. Stmt-F.Empty q) (old_step w (Stmt-F.Empty p)) clauses in_loop m is
    (λ q follows own. own)
    refl (λ q. refl) (λ q. refl) (λ q. refl)
layer w (Stmt-F.Block ss) = λ clauses in_loop m is.
    let inner = sub_good w in_loop ss m is in
    one_good clauses in_loop (old_step w (Stmt-F.Block (trees w ss))) (Stmt-F.Block _)
    (then_part inner.part (pure_part w _ _))
    refl (λ h at. h.0) (same1 _) (same1 _) inner.sites inner.calls
layer w (Stmt-F.Note at) = (refl, refl, refl)
layer w (Stmt-F.Clause p) = λ clauses in_loop m is.
    simple_good w AtNote p (λ q. Stmt-F.Empty q) (old_step w (Stmt-F.Clause p)) clauses in_loop m is
    (λ q follows own. own)
    refl (λ q. refl) (λ q. refl) (λ q. refl)

stmt_good : (w : Whole) (s : Stmt) → Good w s
stmt_good w =
    ind-Stmt (Good w) (λ x y is.
    let here = subst (λ (z : Stmt-F Stmt). GoodPlaced w (placed_step w.scene (map-Stmt Stmt Placed (placed_of w.scene) z)) (old_step w z)) is (layer w y) in
    let there = subst (λ (o : Old). GoodPlaced w (placed_step w.scene (map-Stmt Stmt Placed (placed_of w.scene) x)) o) (old_roll w x) here in
    subst (λ (p : Placed). GoodPlaced w p (old_of w (roll-Stmt x))) (sym (fold-roll-Stmt Placed (placed_step w.scene) x)) there)

all_good : (w : Whole) (ss : List Stmt) → AllGood w ss
all_good w [] = tt
all_good w (s ∷ ss) = (stmt_good w s, all_good w ss)

-- a body fits as the old one did
pub body_good : (w : Whole) (in_loop : Bool) (ss : List Stmt) (m : Made) → all_fit (map (fits (old w)) ss) in_loop ≡ true → ListGood w in_loop m (stmts w.scene (map (placed_of w.scene) ss) m) ss
body_good w in_loop ss m is = list_good w in_loop ss m (all_good w ss) is
