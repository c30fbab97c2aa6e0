-- Each point from the entry of a function to its exit is the function's own.
use Rattle.std.proofs.Common.{◌≡◌, ◌∙◌, ◌+◌, ◌<◌, ◌≤◌, ◌⊎◌, inl, inr, ℕ, suc, Bool, true, false, List, [], ◌∷◌, map, refl, sym, ap, subst, arith}
use Rattle.std.proofs.lemmas.Bool.{and_parts}
use Rattle.std.specs.Option.{option_and_then}
use Rattle.std.specs.Prelude.{◌==◌, Some, None, Option, slice_get, if◌then◌else◌}
use Rattle.fc_base.specs.declared.ids.PointId.{PointId}
use Rattle.c_ir.specs.Bodies.{Frame, Stand, AtEntry, AtExit, AtLoop, AtNote, Plain, bears, is_own, all_fit, fits, fits_step, stmts_fit, points_of_body}
use Rattle.c_ir.specs.Formed.{on_some}
use Rattle.c_ir.specs.Keeps.{Keeps, frame_of}
use Rattle.c_ir.specs.Numbers.{Numbers, none, just, both, all, count, points_of, points_of_all, points_step}
use Rattle.c_ir.specs.Programs.{Program}
use Rattle.c_ir.specs.declared.tree.Fun.{Fun}
use Rattle.c_ir.specs.declared.tree.Stmt.{Stmt, map-Stmt}
use Rattle.c_ir.specs.declared.tree.Stmt.TheFolds.{fold-roll-Stmt, ind-Stmt}
use Rattle.c_ir.specs.declared.tree.Stmt.TheOpen.{Stmt-F}

-- the point is the function's, and its clauses are those that may stand at one of its points
abbrev pub Own : Frame → ℕ → Type 0
Own f q = (s : Stand) × (on_some (bears f s) (slice_get f.points q) ≡ true)

own_at : (f : Frame) (s : Stand) (p : PointId) → is_own f s p ≡ true → Own f p.0
unfolding is_own
own_at f s p h = (s, h)

-- ---- the points of statements

abbrev AllOwn : Frame → Numbers → Type 0
AllOwn f none = Unit {0}
AllOwn f (just q) = Own f q
AllOwn f (both x y) = AllOwn f x × AllOwn f y

abbrev OwnIfFits : Frame → Stmt → Type 0
OwnIfFits f s = (in_loop : Bool) → fits f s in_loop ≡ true → AllOwn f (points_of s)

abbrev WithStmt : Frame → Type 0
WithStmt f = (s : Stmt) × OwnIfFits f s

list_own : (f : Frame) (ss : List (WithStmt f)) (in_loop : Bool) → all_fit (map (fits f) (map (λ s. s.0) ss)) in_loop ≡ true → AllOwn f (all (map points_of (map (λ s. s.0) ss)))
list_own f [] in_loop is = tt
list_own f (s ∷ ss) in_loop is =
    let parts = and_parts _ _ is in
    (s.1 in_loop parts.0, list_own f ss in_loop parts.1)

abbrev fitting : (f : Frame) → Stmt-F (WithStmt f) → Stmt-F (Bool → Bool)
fitting f y = map-Stmt Stmt (Bool → Bool) (fits f) (map-Stmt (WithStmt f) Stmt (λ s. s.0) y)

abbrev pointed : (f : Frame) → Stmt-F (WithStmt f) → Stmt-F Numbers
pointed f y = map-Stmt Stmt Numbers points_of (map-Stmt (WithStmt f) Stmt (λ s. s.0) y)

stmt_layer : (f : Frame) (y : Stmt-F (WithStmt f)) (in_loop : Bool) → fits_step f (fitting f y) in_loop ≡ true → AllOwn f (points_step (pointed f y))
stmt_layer f (Stmt-F.Declare p first n value) in_loop is = own_at f Plain p (and_parts _ _ is).0
stmt_layer f (Stmt-F.Expression p e) in_loop is = own_at f Plain p (and_parts _ _ is).0
stmt_layer f (Stmt-F.If p c ys ns) in_loop is =
    let parts = and_parts _ _ is in
    let more = and_parts _ _ parts.1 in
    ((own_at f Plain p (and_parts _ _ parts.0).0, list_own f ys in_loop more.0), list_own f ns in_loop more.1)
stmt_layer f (Stmt-F.While p c bs) in_loop is =
    let parts = and_parts _ _ is in
    (own_at f AtLoop p (and_parts _ _ parts.0).0, list_own f bs true parts.1)
stmt_layer f (Stmt-F.DoWhile p bs c) in_loop is =
    let parts = and_parts _ _ is in
    (own_at f AtLoop p (and_parts _ _ parts.0).0, list_own f bs true parts.1)
stmt_layer f (Stmt-F.For hs p c bs us) in_loop is =
    let parts = and_parts _ _ is in
    let more = and_parts _ _ parts.1 in
    let rest = and_parts _ _ more.1 in
    (((list_own f hs in_loop more.0, own_at f AtLoop p (and_parts _ _ parts.0).0), list_own f bs true rest.0), list_own f us in_loop rest.1)
stmt_layer f (Stmt-F.Break p) in_loop is = own_at f Plain p (and_parts _ _ is).0
stmt_layer f (Stmt-F.Continue p) in_loop is = own_at f Plain p (and_parts _ _ is).0
stmt_layer f (Stmt-F.Return p value) in_loop is = own_at f Plain p (and_parts _ _ is).0
stmt_layer f (Stmt-F.Empty p) in_loop is = own_at f Plain p is
stmt_layer f (Stmt-F.Block ss) in_loop is = list_own f ss in_loop is
stmt_layer f (Stmt-F.Note at) in_loop is = tt
stmt_layer f (Stmt-F.Clause p) in_loop is = own_at f AtNote p is

stmt_own : (f : Frame) (s : Stmt) → OwnIfFits f s
stmt_own f =
    ind-Stmt (OwnIfFits f) (λ x y is in_loop fit.
    let here = subst (λ (z : Stmt-F Stmt). (b : Bool) → fits_step f (map-Stmt Stmt (Bool → Bool) (fits f) z) b ≡ true → AllOwn f (points_step (map-Stmt Stmt Numbers points_of z))) is (stmt_layer f y) in
    let fitted = sym (ap (λ (g : Bool → Bool). g in_loop) (fold-roll-Stmt (Bool → Bool) (fits_step f) x)) ∙ fit in
    subst (λ (ns : Numbers). AllOwn f ns) (sym (fold-roll-Stmt Numbers points_step x)) (here in_loop fitted))

body_own : (f : Frame) (in_loop : Bool) (ss : List Stmt) → stmts_fit f in_loop ss ≡ true → AllOwn f (points_of_all ss)
unfolding stmts_fit
body_own f in_loop [] is = tt
body_own f in_loop (s ∷ ss) is =
    let parts = and_parts _ _ is in
    (stmt_own f s in_loop parts.0, body_own f in_loop ss parts.1)

-- ---- numbers that count on

-- numbers that count on from `a` to below `b` are all those between
abbrev Between : Frame → Numbers → Type 0
Between f ns = (a b q : ℕ) → AllOwn f ns → count a ns ≡ Some b → a ≤ q → q < b → Own f q

just_one : (n a b q : ℕ) → (if n == a then Some (a + 1) else None) ≡ Some b → a ≤ q → q < b → n ≡ q
just_one n a b q is from to = grind arith

none_between : (a b q : ℕ) → Some a ≡ Some b → a ≤ q → q < b → ⊥
none_between a b q is from to = let e : a ≡ b = cc in omega arith

less_or_not : (a b : ℕ) → (a < b) ⊎ (b ≤ a)
less_or_not a b = grind arith

both_between : (f : Frame) (x y : Numbers) (a b q : ℕ) (o : Option ℕ) → Between f x → Between f y → AllOwn f x → AllOwn f y → count a x ≡ o → option_and_then (λ m. count m y) o ≡ Some b → a ≤ q → q < b → Own f q
both_between f x y a b q None hx hy ox oy e is from to = absurd cc
both_between f x y a b q (Some m) hx hy ox oy e is from to =
    elim (less_or_not q m) [ inl less ↦ hx a m q ox e from less | inr more ↦ hy m b q oy is more to ]

between : (f : Frame) (ns : Numbers) → Between f ns
between f none a b q own is from to = absurd (none_between a b q is from to)
between f (just n) a b q own is from to = subst (Own f) (just_one n a b q is from to) own
between f (both x y) a b q own is from to =
    both_between f x y a b q (count a x) (between f x) (between f y) own.0 own.1 refl is from to

-- ---- functions

one_of_two : (q a b : ℕ) → b ≡ suc a → a ≤ q → q ≤ b → (a ≡ q) ⊎ (b ≡ q)
one_of_two q a b e from to = grind arith

own_by : (p : Program) (n q : ℕ) (f : Fun) (o : Option (List Stmt)) → Keeps p → slice_get p.fns n ≡ Some f → f.body ≡ o → f.entry.0 ≤ q → q ≤ f.exit.0 → Own (frame_of p n f) q
own_by p n q f None k is has from to =
    let g = frame_of p n f in
    elim (one_of_two q f.entry.0 f.exit.0 (k.undefined n f is has) from to) [
      | inl e ↦ subst (Own g) e (own_at g AtEntry f.entry (k.entry n f is))
      | inr e ↦ subst (Own g) e (own_at g AtExit f.exit (k.exit n f is))
    ]
own_by p n q f (Some body) k is has from to =
    let g = frame_of p n f in
    let d = k.defined n f body is has in
    let first = own_at g AtEntry f.entry (k.entry n f is) in
    let last = own_at g AtExit f.exit (k.exit n f is) in
    between g (points_of_body f.entry body f.exit) f.entry.0 (suc f.exit.0) q ((first, body_own g false body d.typed), last) d.points from (omega arith)

pub own_between : (p : Program) (n q : ℕ) (f : Fun) → Keeps p → slice_get p.fns n ≡ Some f → f.entry.0 ≤ q → q ≤ f.exit.0 → Own (frame_of p n f) q
own_between p n q f k is from to = own_by p n q f f.body k is refl from to
