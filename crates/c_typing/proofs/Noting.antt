-- One note of several.
use Rattle.std.proofs.Common.{◌≡◌, ◌∙◌, ℕ, List, [], ◌∷◌, ◌++◌, Option, Some, ap, subst, sym, ◌+◌, ◌<◌, length, drop, drop-cons, get_or, add-one}
use Rattle.fc_base.specs.declared.syntax.Spot.{Spot}
use Rattle.c_ir.specs.declared.tree.Stmt.{Stmt}
use Rattle.c_ir.specs.declared.tree.Stmt.TheFolds.{fold-roll-Stmt}
use Rattle.c_ir.specs.declared.tree.Stmt.TheOpen.{Stmt-F}
use Rattle.c_ir.specs.declared.tree.Stmt.TheVariants.{Note, rolls-Note}
use Rattle.c_ir.specs.Numbers.{Numbers, none, count, points_of, points_of_all, points_step, stmt_sites, stmt_sites_of_all, stmt_sites_step}
use Rattle.c_rules.specs.Breaches.{least}
use Rattle.c_typing.specs.Statements.{Notes, note_of, note_waiting, notes_from}
use Rattle.c_typing.specs.Walking.{Names, Made, Went, Is, CountsOn, made_of}
use Rattle.c_typing.specs.declared.context.Context.{Context}
use Rattle.c_typing.specs.declared.walk.Walk.{Walk}
use Rattle.c_typing.specs.inner.Goes.{Goes}
use Rattle.c_typing.proofs.Numbering.{pushed}

pub noted : (ctx : Context) (waiting : Option Spot) (all : List Spot) (i : ℕ) (d : Spot) (done new : List Stmt) (s : Names) (now next start : Walk) (whole : Went Notes) → i < length all → new ≡ done ++ Note (get_or all i d) ∷ [] → Is (note_waiting ctx waiting s (made_of now)) (tt {0}) s now next → Goes (notes_from ctx waiting (drop i all) done s (made_of now)) whole now start → Goes (notes_from ctx (Some (get_or all i d)) (drop (i + 1) all) new s (made_of next)) whole next start
noted ctx waiting all i d done new s now next start whole within has is goes =
    let at : Spot = get_or all i d in
    let more : List Spot = drop (i + 1) all in
    let parts : drop i all ≡ at ∷ more = rw (add-one i) (drop-cons all i d within) in
    let was : Goes (notes_from ctx waiting (at ∷ more) done s (made_of now)) whole now start = subst (λ (ps : List Spot). Goes (notes_from ctx waiting ps done s (made_of now)) whole now start) parts goes in
    let e : notes_from ctx (Some at) more new s (made_of next) ≡ notes_from ctx (Some at) more (done ++ note_of at ∷ []) (note_waiting ctx waiting s (made_of now)).names (note_waiting ctx waiting s (made_of now)).made =
    ap (λ (d : List Stmt). notes_from ctx (Some at) more d s (made_of next)) (has ∙ ap (λ (x : Stmt). done ++ x ∷ []) (sym (rolls-Note at)))
    ∙ ap (λ (q : Names). notes_from ctx (Some at) more (done ++ note_of at ∷ []) q (made_of next)) (sym is.names_is)
    ∙ ap (λ (m : Made). notes_from ctx (Some at) more (done ++ note_of at ∷ []) (note_waiting ctx waiting s (made_of now)).names m) (sym is.made) in
    record {
      value = ap (λ (w : Went Notes). w.value) e ∙ was.value;
      names = ap (λ (w : Went Notes). w.names) e ∙ was.names;
      made = ap (λ (w : Went Notes). w.made) e ∙ was.made;
      first = ap (λ (w : Went Notes). least next.found.first w.breaches) e
          ∙ ap (λ f. least f (notes_from ctx (Some at) more (done ++ note_of at ∷ []) (note_waiting ctx waiting s (made_of now)).names (note_waiting ctx waiting s (made_of now)).made).breaches) is.first
          ∙ was.first;
    }

-- a note has no point and no sites
pub note_points : (xs zs : List Stmt) (at : Spot) (from m n : ℕ) → zs ≡ xs ++ Note at ∷ [] → count from (points_of_all xs) ≡ Some m → count m none ≡ Some n → count from (points_of_all zs) ≡ Some n
note_points xs zs at from m n is has goes =
    pushed points_of xs zs (Note at) from m n is has (ap (λ (s : Stmt). count m (points_of s)) (sym (rolls-Note at)) ∙ ap (count m) (fold-roll-Stmt Numbers points_step (Stmt-F.Note at)) ∙ goes)

pub note_sites : (xs zs : List Stmt) (at : Spot) (from m n : ℕ) → zs ≡ xs ++ Note at ∷ [] → count from (stmt_sites_of_all xs) ≡ Some m → count m none ≡ Some n → count from (stmt_sites_of_all zs) ≡ Some n
note_sites xs zs at from m n is has goes =
    pushed stmt_sites xs zs (Note at) from m n is has (ap (λ (s : Stmt). count m (stmt_sites s)) (sym (rolls-Note at)) ∙ ap (count m) (fold-roll-Stmt Numbers stmt_sites_step (Stmt-F.Note at)) ∙ goes)

pub note_points_on : (xs zs : List Stmt) (at : Spot) (n m : ℕ) → zs ≡ xs ++ Note at ∷ [] → count n none ≡ Some m → CountsOn (points_of_all xs) (points_of_all zs) n m
note_points_on xs zs at n m is goes = record { goes = λ from has. note_points xs zs at from n m is has goes }

pub note_sites_on : (xs zs : List Stmt) (at : Spot) (n m : ℕ) → zs ≡ xs ++ Note at ∷ [] → count n none ≡ Some m → CountsOn (stmt_sites_of_all xs) (stmt_sites_of_all zs) n m
note_sites_on xs zs at n m is goes = record { goes = λ from has. note_sites xs zs at from n m is has goes }
