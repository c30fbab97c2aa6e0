-- Each expression of a program fits where it stands, and its calls are noted at its point.
use Rattle.std.proofs.Common.{◌≡◌, ◌∙◌, ℕ, ◌+◌, Bool, true, false, List, [], ◌∷◌, ◌++◌, map, Option, Some, None, slice_get, refl, ap, sym, subst}
use Rattle.std.proofs.lemmas.Bool.{and_parts}
use Rattle.by_key.specs.declared.lists.Keyed.{Keyed}
use Rattle.fc_base.specs.declared.ids.PointId.{PointId}
use Rattle.c_ir.specs.Bodies.{Frame, expr_fits, all_fit, fits, fits_step, stmts_fit}
use Rattle.c_ir.specs.Calls.{calls_of, calls_if}
use Rattle.c_ir.specs.Formed.{form}
use Rattle.c_ir.specs.Keeps.{Keeps, frame_of, layout_of}
use Rattle.c_ir.specs.Placed.{is_formed}
use Rattle.c_ir.specs.Programs.{Program}
use Rattle.c_ir.specs.Sited.{at_sites}
use Rattle.c_ir.specs.declared.place.Place.{Place}
use Rattle.c_ir.specs.declared.place.Place.TheVariants as P
use Rattle.c_ir.specs.declared.tree.Expr.{Expr}
use Rattle.c_ir.specs.declared.tree.Fun.{Fun}
use Rattle.c_ir.specs.declared.tree.Stmt.{Stmt, map-Stmt, roll-Stmt}
use Rattle.c_ir.specs.declared.tree.Stmt.TheFolds.{fold-roll-Stmt, ind-Stmt}
use Rattle.c_ir.specs.declared.tree.Stmt.TheOpen.{Stmt-F}
use Rattle.c_runs.specs.Visits.{Cells, Visit}
use Rattle.c_runs.specs.Evaluation.{meaning}
use Rattle.c_runs.specs.Parts.{Placed, at_point, exprs_if, all_placed, placed_step, placed_in, placed_in_all, placed_in_body, placed_in_fns, Has, VisitsPart}
use Rattle.prop_table.specs.Points.{at_point as noted_at, all_noted, noted_step, noted_in, noted_in_all, noted_in_body, noted_calls}
use Rattle.prop_table.proofs.Lists.{Each, each_append, each_more, From, from_all, from_here, from_next}
use Rattle.prop_runs.proofs.Sites.{own_checks}
use Rattle.prop_runs.proofs.Operators.{OwnCheck}
use Rattle.prop_runs.proofs.Standing.{each_has, Within, left, right, Stands, expr_at, one, one_if, declared, returned}

-- ---- statements

abbrev Claim : Frame → List Keyed → Stmt → Type 0
Claim f all x =
    (in_loop : Bool) → fits f x in_loop ≡ true → Within (noted_in x) all → Each (Stands f all) (placed_in x)

abbrev With : Frame → List Keyed → Type 0
With f all = (x : Stmt) × Claim f all x

abbrev trees : (f : Frame) (all : List Keyed) → List (With f all) → List Stmt
trees f all ys = map (λ (y : With f all). y.0) ys

abbrev places : (f : Frame) (all : List Keyed) → List (With f all) → List Placed
places f all ys = all_placed (map placed_in (trees f all ys))

abbrev notes : (f : Frame) (all : List Keyed) → List (With f all) → List Keyed
notes f all ys = all_noted (map noted_in (trees f all ys))

subs : (f : Frame) (all : List Keyed) (in_loop : Bool) (ys : List (With f all))
    → all_fit (map (fits f) (trees f all ys)) in_loop ≡ true → Within (notes f all ys) all
    → Each (Stands f all) (places f all ys)
subs f all in_loop [] is within = tt
subs f all in_loop (y ∷ ys) is within =
    let parts = and_parts _ _ is in
    each_append (Stands f all) (placed_in y.0) (places f all ys)
    (y.1 in_loop parts.0 (left (noted_in y.0) (notes f all ys) all within))
    (subs f all in_loop ys parts.1 (right (noted_in y.0) (notes f all ys) all within))

abbrev stmts_in : (f : Frame) (all : List Keyed) → Stmt-F (With f all) → Stmt-F Stmt
stmts_in f all y = map-Stmt (With f all) Stmt (λ y. y.0) y

abbrev Top : Frame → List Keyed → Stmt-F Stmt → Type 0
Top f all x =
    (in_loop : Bool) → fits_step f (map-Stmt Stmt (Bool → Bool) (fits f) x) in_loop ≡ true
    → Within (noted_step (map-Stmt Stmt (List Keyed) noted_in x)) all
    → Each (Stands f all) (placed_step (map-Stmt Stmt (List Placed) placed_in x))

head_and : (f : Frame) (all : List Keyed) (x : Placed) (xs : List Placed) → Stands f all x
    → Each (Stands f all) xs → Each (Stands f all) (x ∷ [] ++ xs)
head_and f all x xs h more = (h, more)

layer : (f : Frame) (all : List Keyed) (y : Stmt-F (With f all)) → Top f all (stmts_in f all y)
layer f all (Stmt-F.Declare p first n value) in_loop is within =
    declared f all p first n value (and_parts _ _ is).1 within
layer f all (Stmt-F.Expression p e) in_loop is within =
    (one f all p P.Dropped e (and_parts _ _ is).1 within, tt)
layer f all (Stmt-F.If p c ys ns) in_loop is within =
    let parts = and_parts _ _ is in
    let rest = and_parts _ _ parts.1 in
    let head = noted_at p (calls_of c) in
    let more = right head _ all within in
    head_and f all (expr_at p c) _ (one f all p P.Inner c (and_parts _ _ parts.0).1 (left head _ all within))
    (each_append (Stands f all) (places f all ys) (places f all ns)
    (subs f all in_loop ys rest.0 (left (notes f all ys) (notes f all ns) all more))
    (subs f all in_loop ns rest.1 (right (notes f all ys) (notes f all ns) all more)))
layer f all (Stmt-F.While p c bs) in_loop is within =
    let parts = and_parts _ _ is in
    let head = noted_at p (calls_of c) in
    head_and f all (expr_at p c) _ (one f all p P.Inner c (and_parts _ _ parts.0).1 (left head _ all within))
    (subs f all true bs parts.1 (right head _ all within))
layer f all (Stmt-F.DoWhile p bs c) in_loop is within =
    let parts = and_parts _ _ is in
    let head = noted_at p (calls_of c) in
    head_and f all (expr_at p c) _
    (one f all p P.Inner c (and_parts _ _ parts.0).1 (right (notes f all bs) head all within))
    (subs f all true bs parts.1 (left (notes f all bs) head all within))
layer f all (Stmt-F.For hs p c bs us) in_loop is within =
    let parts = and_parts _ _ is in
    let rest = and_parts _ _ parts.1 in
    let last = and_parts _ _ rest.1 in
    let test = noted_at p (calls_if c) in
    let more = right (notes f all hs) _ all within in
    let tail = right test _ all more in
    each_append (Stands f all) (at_point p (exprs_if c)) _
    (one_if f all p P.Inner c (and_parts _ _ parts.0).1 (left test _ all more))
    (each_append (Stands f all) (places f all hs) _
    (subs f all in_loop hs rest.0 (left (notes f all hs) _ all within))
    (each_append (Stands f all) (places f all bs) (places f all us)
    (subs f all true bs last.0 (left (notes f all bs) (notes f all us) all tail))
    (subs f all in_loop us last.1 (right (notes f all bs) (notes f all us) all tail))))
layer f all (Stmt-F.Break p) in_loop is within = tt
layer f all (Stmt-F.Continue p) in_loop is within = tt
layer f all (Stmt-F.Return p value) in_loop is within =
    returned f all p f.result value (and_parts _ _ is).1 within
layer f all (Stmt-F.Empty p) in_loop is within = tt
layer f all (Stmt-F.Block ss) in_loop is within = subs f all in_loop ss is within
layer f all (Stmt-F.Note at) in_loop is within = tt
layer f all (Stmt-F.Clause p) in_loop is within = tt

rolled : (f : Frame) (all : List Keyed) (x : Stmt-F Stmt) → Top f all x → Claim f all (roll-Stmt x)
rolled f all x h in_loop is within =
    let fit = ap (λ (g : Bool → Bool). g in_loop) (sym (fold-roll-Stmt (Bool → Bool) (fits_step f) x)) ∙ is in
    let noted = subst (λ (xs : List Keyed). Within xs all)
    (fold-roll-Stmt (List Keyed) noted_step x) within in
    subst (λ (xs : List Placed). Each (Stands f all) xs) (sym (fold-roll-Stmt (List Placed) placed_step x))
    (h in_loop fit noted)

stmt_stands : (f : Frame) (all : List Keyed) (x : Stmt) → Claim f all x
stmt_stands f all = ind-Stmt (Claim f all) (λ x y is. rolled f all x (subst (Top f all) is (layer f all y)))

stmts_stand : (f : Frame) (all : List Keyed) (ss : List Stmt) → all_fit (map (fits f) ss) false ≡ true
    → Within (noted_in_all ss) all → Each (Stands f all) (placed_in_all ss)
stmts_stand f all [] is within = tt
stmts_stand f all (x ∷ ss) is within =
    let parts = and_parts _ _ is in
    each_append (Stands f all) (placed_in x) (placed_in_all ss)
    (stmt_stands f all x false parts.0 (left (noted_in x) (noted_in_all ss) all within))
    (stmts_stand f all ss parts.1 (right (noted_in x) (noted_in_all ss) all within))

body_stands : (f : Frame) (all : List Keyed) (ss : List Stmt) → stmts_fit f false ss ≡ true
    → Within (noted_in_all ss) all → Each (Stands f all) (placed_in_all ss)
unfolding stmts_fit
body_stands f all ss is within = stmts_stand f all ss is within

-- ---- programs

-- the expression stands in a function of the program
pub record Evaluated (p : Program) (x : Placed) : Type 0 where
  pub number : ℕ
  pub function : Fun
  pub stands : Stands (frame_of p number function) (noted_calls p.fns) x

function_stands : (p : Program) (n : ℕ) (f : Fun) (o : Option (List Stmt)) → Keeps p
    → slice_get p.fns n ≡ Some f → f.body ≡ o → Within (noted_in_body o) (noted_calls p.fns)
    → Each (Evaluated p) (placed_in_body o)
function_stands p n f None keeps is has within = tt
function_stands p n f (Some ss) keeps is has within =
    each_more (Stands (frame_of p n f) (noted_calls p.fns)) (Evaluated p) (placed_in_all ss)
    (λ x h. record { number = n; function = f; stands = h })
    (body_stands (frame_of p n f) (noted_calls p.fns) ss (keeps.defined n f ss is has).typed within)

functions_stand : (p : Program) (n : ℕ) (fs : List Fun) → Keeps p → From p.fns n fs
    → Within (noted_calls fs) (noted_calls p.fns) → Each (Evaluated p) (placed_in_fns fs)
functions_stand p n [] keeps from within = tt
functions_stand p n (f ∷ fs) keeps from within =
    let all = noted_calls p.fns in
    each_append (Evaluated p) (placed_in_body f.body) (placed_in_fns fs)
    (function_stands p n f f.body keeps (from_here p.fns n f fs from) refl
    (left (noted_in_body f.body) (noted_calls fs) all within))
    (functions_stand p (n + 1) fs keeps (from_next p.fns n f fs from)
    (right (noted_in_body f.body) (noted_calls fs) all within))

-- each expression of the program does
pub evaluated : (p : Program) (x : Placed) → Keeps p → Has (placed_in_fns p.fns) x → Evaluated p x
evaluated p x keeps h =
    each_has (Evaluated p) (placed_in_fns p.fns) x
    (functions_stand p 0 p.fns keeps (from_all p.fns) (λ m is. is)) h

fits_value : (f : Frame) (q : PointId) (place : Place) (e : Expr) → expr_fits f q place e ≡ true
    → (form f.layout e).value ≡ true
unfolding expr_fits is_formed
fits_value f q place e is = (and_parts _ _ (and_parts _ _ is).0).0

fits_sites : (f : Frame) (q : PointId) (place : Place) (e : Expr) → expr_fits f q place e ≡ true
    → at_sites f.sites q e ≡ true
unfolding expr_fits
fits_sites f q place e is = (and_parts _ _ is).1

-- what it visits is checks of operators of its point
pub own_visits : (p : Program) (x : Placed) (overflow : Bool) (c : Cells) (vs : List Visit) → Evaluated p x
    → VisitsPart (meaning overflow x.expr) c vs → Each (OwnCheck p x.point) vs
own_visits p x overflow c vs h visits =
    let s = h.stands in
    let f = frame_of p h.number h.function in
    subst (λ (q : ℕ). Each (OwnCheck p q) vs) s.is_point
    (own_checks p s.point (layout_of p) overflow x.expr c vs (fits_sites f s.point s.place x.expr s.fits)
    (fits_value f s.point s.place x.expr s.fits) visits)
