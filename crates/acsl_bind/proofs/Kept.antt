-- The program of a skeleton and its annotations keeps what the skeleton's program kept.
use Rattle.std.proofs.Common.{◌≡◌, ◌∙◌, ◌==◌, ◌<◌, ◌≤◌, ◌+◌, ◌&&◌, nat_lt, ℕ, zero, suc, Bool, true, false, List, [], ◌∷◌, ◌++◌, length, map, slice_get, Option, Some, None, refl, ap, sym, subst, arith, append_assoc, append-nil}
use Rattle.std.proofs.lemmas.Bool.{and_parts, and_from, true≢false, eq-eqb, ltb-true, ltb-false}
use Rattle.std.proofs.Math.ListN.{length-map}
use Rattle.std.specs.Prelude.{slice_index_or}
use Rattle.std.specs.Option.{option_map}
use Rattle.fc_base.specs.declared.ids.PointId.{PointId}
use Rattle.c_ast.specs.declared.annot.Annot.{Annot}
use Rattle.call_cycles.specs.Calls.{Graph, InRange, ends}
use Rattle.c_ir.specs.Bodies.{Frame, AtEntry, AtExit, is_own, all_fit, fits, stmts_fit, points_of_body}
use Rattle.std.specs.List.{list_all}
use Rattle.c_ir.specs.Formed.{Callee, Layout, cell_is}
use Rattle.c_ir.specs.Keeps.{Keeps, Defines, HasPoint, HasSite, frame_of, layout_of, callee_of, cells_fit, is_set_of, result_fits, call_graph, calls_in, ty_at}
use Rattle.c_ir.specs.Numbers.{Numbers, none, both, own_point, count, stmt_sites_of_all}
use Rattle.c_ir.specs.Programs.{Program}
use Rattle.c_ir.specs.declared.note.NoteSpot.{NoteSpot}
use Rattle.c_ir.specs.declared.program.Skeleton.{Skeleton}
use Rattle.c_ir.specs.declared.tree.CellInfo.{CellInfo}
use Rattle.c_ir.specs.declared.tree.Fun.{Fun}
use Rattle.c_ir.specs.declared.tree.PointInfo.{PointInfo}
use Rattle.c_ir.specs.declared.tree.SiteInfo.{SiteInfo}
use Rattle.c_ir.specs.declared.tree.Stmt.{Stmt}
use Rattle.acsl_terms.specs.Fits.{Free, ClauseFits}
use Rattle.acsl_bind.specs.Placing.{Made, Went, Scene, after}
use Rattle.acsl_bind.specs.Programs as spec
use Rattle.acsl_bind.specs.Programs.{Text, Moved, function, functions_from, contract_of, noted_all, moved_site, text_of, walk_of, faults_of, program_of}
use Rattle.c_types.specs.Noted.{NotesFit}
use Rattle.acsl_bind.proofs.Clauses.{contract_fits}
use Rattle.acsl_bind.proofs.Functions.{BodyFits, points_in, sites_in, points_for, Paired, Fitting, Twin, FunctionGood, Known, function_good, view_by}
use Rattle.acsl_bind.proofs.Sites.{frame_to}
use Rattle.acsl_bind.proofs.Steps.{no_element, some_is, Same, same1, two, split, own_count, Starts, index_end, grown, Whole, old, new, Begins}

-- a skeleton's program, its notes, and what the new program has
pub record All : Type 0 where
  pub program : Program
  pub spots : List NoteSpot
  pub annots : List Annot
  pub moves : List (List ℕ)
  pub points : List PointInfo
  pub notes : NotesFit program.cells spots
  pub clause : ClauseFits
  pub keeps : Keeps program

abbrev text : All → Text
text a = record { spots = a.spots; annots = a.annots; points = a.program.points }

abbrev whole : (a : All) (number : ℕ) (f : Fun) → slice_get a.program.fns number ≡ Some f → Whole
whole a number f is = record {
  program = a.program;
  scene = spec.scene (text a) number;
  function = f;
  is_function = is;
  moves = a.moves;
  points = a.points;
  notes = a.notes;
  clause = a.clause;
}

abbrev frame : All → ℕ → Fun → Frame
frame a number f = frame_to (frame_of a.program number f) (map (moved_site a.program a.moves) a.program.sites) a.points

-- ---- old functions

body_by : (a : All) (number : ℕ) (f : Fun) → slice_get a.program.fns number ≡ Some f → (o : Option (List Stmt)) → f.body ≡ o → BodyFits (frame_of a.program number f) o
unfolding stmts_fit
body_by a number f is None e = tt
body_by a number f is (Some body) e = (a.keeps.defined number f body is e).typed

known : (a : All) (number : ℕ) (f : Fun) (is : slice_get a.program.fns number ≡ Some f) → Known (whole a number f is)
known a number f is = record {
  view = view_by a.program.cells number f.result (and_parts _ _ (a.keeps.cells number f is)).1;
  fitting = record { entry = a.keeps.entry number f is; exit = a.keeps.exit number f is; body = body_by a number f is f.body refl };
}

own_is : (n : ℕ) → count n (both (own_point (record { 0 = n })) none) ≡ Some (n + 1)
own_is n = rw (eq-eqb n n refl) refl

next_is : (x : PointId) (e : ℕ) → x.0 ≡ suc e → count (e + 1) (own_point x) ≡ Some (suc x.0)
next_is x e is = rw (eq-eqb x.0 (e + 1) (omega (arith, is))) (ap (λ (n : ℕ). Some n) (omega (arith, is)))

count_by : (a : All) (number : ℕ) (f : Fun) → slice_get a.program.fns number ≡ Some f → (o : Option (List Stmt)) → f.body ≡ o → count f.entry.0 (points_for f.entry o f.exit) ≡ Some (suc f.exit.0)
count_by a number f is None e =
    two (both (own_point f.entry) none) (own_point f.exit) f.entry.0 (f.entry.0 + 1) _ (own_is f.entry.0) (next_is f.exit f.entry.0 (a.keeps.undefined number f is e))
count_by a number f is (Some body) e = (a.keeps.defined number f body is e).points

old_count : (a : All) (number : ℕ) (f : Fun) → slice_get a.program.fns number ≡ Some f → count (f.entry.0 + 0) (points_for f.entry f.body f.exit) ≡ Some (suc f.exit.0)
old_count a number f is =
    let same : f.entry.0 ≡ f.entry.0 + 0 = omega arith in
    subst (λ (n : ℕ). count n (points_for f.entry f.body f.exit) ≡ Some (suc f.exit.0)) same (count_by a number f is f.body refl)

-- ---- new functions, one after the other

record Row (a : All) (number from : ℕ) (f g : Fun) (mid : ℕ) : Type 0 where
  fitting : Fitting (frame a number f) g
  twin : Twin f g
  points : count from (points_for g.entry g.body g.exit) ≡ Some mid

abbrev Rows : All → ℕ → ℕ → List Fun → List Fun → ℕ → Type 0
Rows a number from [] [] to = to ≡ from
Rows a number from [] (g ∷ gs) to = ⊥
Rows a number from (f ∷ fs) [] to = ⊥
Rows a number from (f ∷ fs) (g ∷ gs) to = (mid : ℕ) × Row a number from f g mid × Rows a (suc number) mid fs gs to

record Rest (a : All) (number : ℕ) (fs done : List Fun) (moves : List (List ℕ)) (points : List PointInfo) (v : Went Moved) : Type 0 where
  gs : List Fun
  fns : v.value.0 ≡ done ++ gs
  more : List (List ℕ)
  moved : v.value.1 ≡ moves ++ more
  begins : a.moves ≡ v.value.1 → Starts a.points v.made.points → Starts a.points points
  rows : a.moves ≡ v.value.1 → Starts a.points v.made.points → Free v.breaches → Rows a number (length points) fs gs (length v.made.points)

abbrev start : List PointInfo → Made
start points = record { points = points; moved = [] }

abbrev r_value : All → ℕ → List Fun → List Fun → List (List ℕ) → List PointInfo → List (List ℕ)
r_value a number fs done moves points = (functions_from (text a) number fs done moves (start points)).value.1

abbrev r_points : All → ℕ → List Fun → List Fun → List (List ℕ) → List PointInfo → List PointInfo
r_points a number fs done moves points = (functions_from (text a) number fs done moves (start points)).made.points

abbrev Tail : All → ℕ → List Fun → Type 0
Tail a number fs = (i : ℕ) (f : Fun) → slice_get fs i ≡ Some f → slice_get a.program.fns (i + number) ≡ Some f

moved_here : (all moves more : List (List ℕ)) (here : List ℕ) (number : ℕ) → number ≡ length moves → all ≡ (moves ++ here ∷ []) ++ more → slice_index_or all number [] ≡ here ++ []
moved_here all moves more here number n is =
    ap (λ (k : ℕ). slice_index_or all k []) n
    ∙ ap (λ (xs : List (List ℕ)). slice_index_or xs (length moves) []) is
    ∙ index_end moves here more []
    ∙ sym (append-nil here)

one_longer : {X : Type 0} (xs : List X) (x : X) → length (xs ++ x ∷ []) ≡ suc (length xs)
one_longer xs x = let a = grown xs x in omega (arith, a)

rows_at : (a : All) (m n from : ℕ) (fs gs : List Fun) (to : ℕ) → m ≡ n → Rows a m from fs gs to → Rows a n from fs gs to
rows_at a m n from fs gs to is rows = subst (λ (k : ℕ). Rows a k from fs gs to) is rows

-- the row of a function's place
record RowAt (a : All) (number : ℕ) (gs : List Fun) (i : ℕ) (f : Fun) : Type 0 where
  function : Fun
  is_function : slice_get gs i ≡ Some function
  from : ℕ
  mid : ℕ
  row : Row a (i + number) from f function mid

at_start : (number : ℕ) → number + 0 ≡ number
at_start number = omega arith

next_on : (i number : ℕ) → i + suc number ≡ suc i + number
next_on i number = omega arith

none_on : (number : ℕ) → zero + number ≡ number
none_on number = omega arith

place_on : (i number : ℕ) → i + (number + 1) ≡ suc i + number
place_on i number = omega arith

rest_of : (a : All) (number : ℕ) (fs done : List Fun) (moves : List (List ℕ)) (points : List PointInfo) → number ≡ length moves → Tail a number fs → Rest a number fs done moves points (functions_from (text a) number fs done moves (start points))
rest_of a number [] done moves points n tail = record {
  gs = [];
  fns = sym (append-nil done);
  more = [];
  moved = sym (append-nil moves);
  begins = λ m s. s;
  rows = λ m s free. refl;
}
rest_of a number (f ∷ fs) done moves points n tail =
    let is : slice_get a.program.fns number ≡ Some f = subst (λ (k : ℕ). slice_get a.program.fns k ≡ Some f) (none_on number) (tail zero f refl) in
    let w = whole a number f is in
    let o = contract_of (noted_all a.spots a.annots) number in
    let v = function (spec.scene (text a) number) o f (start points) in
    let g = function_good w o (start points) (known a number f is) (λ c e. contract_fits a.program.cells a.spots a.annots number c a.notes e) in
    let r = rest_of a (number + 1) fs (done ++ v.value ∷ []) (moves ++ v.made.moved ∷ []) v.made.points
    (let one = one_longer moves v.made.moved in omega (arith, n, one))
    (λ i h e. ap (λ (k : ℕ). slice_get a.program.fns k) (place_on i number) ∙ tail (suc i) h e) in
    let begun : a.moves ≡ r_value a (number + 1) fs (done ++ v.value ∷ []) (moves ++ v.made.moved ∷ []) v.made.points → Starts a.points (r_points a (number + 1) fs (done ++ v.value ∷ []) (moves ++ v.made.moved ∷ []) v.made.points) → Begins w v.made =
    λ is_moves s. record {
      points = r.begins is_moves s;
      moved = record { more = []; is = moved_here a.moves moves r.more v.made.moved number n (is_moves ∙ r.moved) };
    } in
    record {
      gs = v.value ∷ r.gs;
      fns = r.fns ∙ append_assoc done (v.value ∷ []) r.gs;
      more = v.made.moved ∷ r.more;
      moved = r.moved ∙ append_assoc moves (v.made.moved ∷ []) r.more;
      begins = λ is_moves s. (g.part.back (begun is_moves s)).points;
      rows = λ is_moves s free. (
        length v.made.points,
        record {
          fitting = g.part.good (suc f.exit.0) (old_count a number f is) (begun is_moves s) free.0;
          twin = g.twin;
          points = g.part.points;
        },
        rows_at a (number + 1) (suc number) (length v.made.points) fs r.gs (length (r_points a (number + 1) fs (done ++ v.value ∷ []) (moves ++ v.made.moved ∷ []) v.made.points)) (omega arith) (r.rows is_moves s free.1),
      );
    }

-- ---- rows by their places

one_row : (a : All) (number from : ℕ) (fs gs : List Fun) (to i : ℕ) (f : Fun) → Rows a number from fs gs to → slice_get fs i ≡ Some f → RowAt a number gs i f
one_row a number from [] [] to i f rows is = no_element f is
one_row a number from [] (g ∷ gs) to i f rows is = absurd rows
one_row a number from (h ∷ fs) [] to i f rows is = absurd rows
one_row a number from (h ∷ fs) (g ∷ gs) to zero f rows is = record {
  function = g;
  is_function = refl;
  from = from;
  mid = rows.0;
  row = subst (λ (k : ℕ). Row a k from f g rows.0) (sym (none_on number)) (subst (λ (x : Fun). Row a number from x g rows.0) (some_is h f is) rows.1);
}
one_row a number from (h ∷ fs) (g ∷ gs) to (suc i) f rows is =
    let r = one_row a (suc number) rows.0 fs gs to i f rows.2 is in
    record {
      function = r.function;
      is_function = r.is_function;
      from = r.from;
      mid = r.mid;
      row = subst (λ (k : ℕ). Row a k r.from f r.function r.mid) (next_on i number) r.row;
    }

old_one : (a : All) (number from : ℕ) (fs gs : List Fun) (to i : ℕ) (g : Fun) → Rows a number from fs gs to → slice_get gs i ≡ Some g → (f : Fun) × (slice_get fs i ≡ Some f)
old_one a number from [] [] to i g rows is = no_element g is
old_one a number from [] (h ∷ gs) to i g rows is = absurd rows
old_one a number from (f ∷ fs) [] to i g rows is = absurd rows
old_one a number from (f ∷ fs) (h ∷ gs) to zero g rows is = (f, refl)
old_one a number from (f ∷ fs) (h ∷ gs) to (suc i) g rows is = old_one a (suc number) rows.0 fs gs to i g rows.2 is

-- ---- what the new program has

both_mid : (g : Fun) (from mid : ℕ) → count from (points_for g.entry g.body g.exit) ≡ Some mid → (g.entry.0 ≡ from) × (mid ≡ suc g.exit.0)
both_mid g from mid is =
    let s = split (both (own_point g.entry) (points_in g.body)) (own_point g.exit) from mid is in
    let e = split (own_point g.entry) (points_in g.body) from s.0 s.1 in
    let x = own_count g.exit s.0 mid s.2 in
    ((own_count g.entry from e.0 e.1).0, (let x0 = x.0 in let x1 = x.1 in omega (arith, x0, x1)))

-- a point of the new functions
record PointAt (gs : List Fun) (q : ℕ) : Type 0 where
  place : ℕ
  function : Fun
  is_function : slice_get gs place ≡ Some function
  from : function.entry.0 ≤ q
  to : q ≤ function.exit.0

point_here : (a : All) (number from : ℕ) (f g : Fun) (mid : ℕ) (fs gs : List Fun) (to q : ℕ) → Row a number from f g mid → (mid ≤ q → PointAt gs q) → from ≤ q → (b : Bool) → nat_lt q mid ≡ b → PointAt (g ∷ gs) q
point_here a number from f g mid fs gs to q row rest low true is =
    let less = ltb-true q mid is in
    let ends = both_mid g from mid row.points in
    let first = ends.0 in
    let last = ends.1 in
    record { place = zero; function = g; is_function = refl; from = omega (arith, first, low); to = omega (arith, last, less) }
point_here a number from f g mid fs gs to q row rest low false is =
    let r = rest (ltb-false q mid is) in
    record { place = suc r.place; function = r.function; is_function = r.is_function; from = r.from; to = r.to }

point_by : (a : All) (number from : ℕ) (fs gs : List Fun) (to q : ℕ) → Rows a number from fs gs to → from ≤ q → q < to → PointAt gs q
point_by a number from [] [] to q rows low high = absurd (omega (arith, rows, low, high))
point_by a number from [] (g ∷ gs) to q rows low high = absurd rows
point_by a number from (f ∷ fs) [] to q rows low high = absurd rows
point_by a number from (f ∷ fs) (g ∷ gs) to q rows low high =
    point_here a number from f g rows.0 fs gs to q rows.1 (λ l. point_by a (suc number) rows.0 fs gs to q rows.2 l high) low (nat_lt q rows.0) refl

lengths : (a : All) (number from : ℕ) (fs gs : List Fun) (to : ℕ) → Rows a number from fs gs to → length gs ≡ length fs
lengths a number from [] [] to rows = refl
lengths a number from [] (g ∷ gs) to rows = absurd rows
lengths a number from (f ∷ fs) [] to rows = absurd rows
lengths a number from (f ∷ fs) (g ∷ gs) to rows = ap suc (lengths a (suc number) rows.0 fs gs to rows.2)

graphs : (a : All) (number from : ℕ) (fs gs : List Fun) (to : ℕ) → Rows a number from fs gs to → call_graph gs ≡ call_graph fs
graphs a number from [] [] to rows = refl
graphs a number from [] (g ∷ gs) to rows = absurd rows
graphs a number from (f ∷ fs) [] to rows = absurd rows
graphs a number from (f ∷ fs) (g ∷ gs) to rows =
    ap (λ (r : List ℕ). r ∷ call_graph gs) rows.1.twin.calls
    ∙ ap (λ (r : Graph). calls_in f.body ∷ r) (graphs a (suc number) rows.0 fs gs to rows.2)

abbrev a_callee : List CellInfo → List ℕ → Option ℕ → Callee
a_callee cells formals result = record { formals = map (ty_at cells) formals; result = option_map (ty_at cells) result }

same_callee : (cells : List CellInfo) (f g : Fun) → Twin f g → callee_of cells g ≡ callee_of cells f
same_callee cells f g t =
    ap (λ (xs : List ℕ). a_callee cells xs g.result) t.formals ∙ ap (λ (r : Option ℕ). a_callee cells f.formals r) t.result

same_callees : (a : All) (number from : ℕ) (fs gs : List Fun) (to : ℕ) → Rows a number from fs gs to → map (callee_of a.program.cells) gs ≡ map (callee_of a.program.cells) fs
same_callees a number from [] [] to rows = refl
same_callees a number from [] (g ∷ gs) to rows = absurd rows
same_callees a number from (f ∷ fs) [] to rows = absurd rows
same_callees a number from (f ∷ fs) (g ∷ gs) to rows =
    ap (λ (c : Callee). c ∷ map (callee_of a.program.cells) gs) (same_callee a.program.cells f g rows.1.twin)
    ∙ ap (λ (cs : List Callee). callee_of a.program.cells f ∷ cs) (same_callees a (suc number) rows.0 fs gs to rows.2)

-- the new program, of these functions
abbrev made_of : All → List Fun → Program
made_of a gs = record { fns = gs; cells = a.program.cells; points = a.points; sites = map (moved_site a.program a.moves) a.program.sites }

record Ready (a : All) (gs : List Fun) : Type 0 where
  rows : Rows a 0 0 a.program.fns gs (length a.points)

abbrev a_frame : All → ℕ → List Callee → Option ℕ → Frame
a_frame a number callees result = record {
  layout = record { cells = a.program.cells; callees = callees };
  sites = map (moved_site a.program a.moves) a.program.sites;
  points = a.points;
  function = number;
  result = option_map (ty_at a.program.cells) result;
}

frames : (a : All) (gs : List Fun) (r : Ready a gs) (number : ℕ) (f g : Fun) → Twin f g → frame_of (made_of a gs) number g ≡ frame a number f
frames a gs r number f g t =
    ap (λ (cs : List Callee). a_frame a number cs g.result) (same_callees a 0 0 a.program.fns gs (length a.points) r.rows)
    ∙ ap (λ (o : Option ℕ). a_frame a number (map (callee_of a.program.cells) a.program.fns) o) t.result

-- a new function with its old one
record Matched (a : All) (gs : List Fun) (number : ℕ) (g : Fun) : Type 0 where
  was : Fun
  is_old : slice_get a.program.fns number ≡ Some was
  twin : Twin was g
  fitting : Fitting (frame_of (made_of a gs) number g) g
  from : ℕ
  mid : ℕ
  points : count from (points_for g.entry g.body g.exit) ≡ Some mid

both_of : (a : All) (gs : List Fun) (r : Ready a gs) (number : ℕ) (g : Fun) → slice_get gs number ≡ Some g → Matched a gs number g
both_of a gs r number g is =
    let o = old_one a 0 0 a.program.fns gs (length a.points) number g r.rows is in
    let h = one_row a 0 0 a.program.fns gs (length a.points) number o.0 r.rows o.1 in
    let same : h.function ≡ g = some_is h.function g (sym h.is_function ∙ is) in
    let row = subst (λ (x : Fun). Row a (number + 0) h.from o.0 x h.mid) same h.row in
    let here = subst (λ (k : ℕ). Row a k h.from o.0 g h.mid) (at_start number) row in
    record {
      was = o.0;
      is_old = o.1;
      twin = here.twin;
      fitting = subst (λ (f : Frame). Fitting f g) (sym (frames a gs r number o.0 g here.twin)) here.fitting;
      from = h.from;
      mid = h.mid;
      points = here.points;
    }

-- ---- it keeps what the old one kept

abbrev fit_cells : List CellInfo → ℕ → List ℕ → Option ℕ → Bool
fit_cells cells number formals result = list_all (cell_is (is_set_of number) cells) formals && result_fits cells number result

cells_kept : (a : All) (number : ℕ) (f g : Fun) → Twin f g → cells_fit a.program.cells number f ≡ true → cells_fit a.program.cells number g ≡ true
cells_kept a number f g t is =
    ap (λ (xs : List ℕ). fit_cells a.program.cells number xs g.result) t.formals ∙ ap (λ (r : Option ℕ). fit_cells a.program.cells number f.formals r) t.result ∙ is

-- the sites of an old body are those of the new one
record Sited (f : Fun) (body : List Stmt) (g : Fun) : Type 0 where
  new_body : List Stmt
  is_body : g.body ≡ Some new_body
  same : Same (stmt_sites_of_all new_body) (stmt_sites_of_all body)

sited_by : (f : Fun) (body : List Stmt) (g : Fun) (x y : Option (List Stmt)) → x ≡ Some body → g.body ≡ y → Paired x y → Same (sites_in y) (sites_in x) → Sited f body g
sited_by f body g None y e k paired same = no_element body e
sited_by f body g (Some xs) None e k paired same = absurd paired
sited_by f body g (Some xs) (Some ys) e k paired same = record {
  new_body = ys;
  is_body = k;
  same = subst (λ (zs : List Stmt). Same (stmt_sites_of_all ys) (stmt_sites_of_all zs)) (some_is xs body e) same;
}

abbrev with_body : Fun → List Stmt → Fun
with_body g body = record { name = g.name; formals = g.formals; result = g.result; body = Some body; entry = g.entry; exit = g.exit }

defined_by : (a : All) (gs : List Fun) (number : ℕ) (g : Fun) (b : Matched a gs number g) (body : List Stmt) (x : Option (List Stmt)) → b.was.body ≡ x → g.body ≡ Some body → Paired x (Some body) → Same (stmt_sites_of_all body) (sites_in x) → count b.from (points_for g.entry (Some body) g.exit) ≡ Some b.mid → BodyFits (frame_of (made_of a gs) number g) (Some body) → Defines (made_of a gs) number g body
unfolding stmts_fit
defined_by a gs number g b body None e k paired same points fit = absurd paired
defined_by a gs number g b body (Some xs) e k paired same points fit =
    let d = a.keeps.defined number b.was xs b.is_old e in
    let ends = both_mid (with_body g body) b.from b.mid points in
    let first = ends.0 in
    let last = ends.1 in
    record {
      typed = fit;
      points = ap (λ (n : ℕ). count n (points_for g.entry (Some body) g.exit)) first ∙ points ∙ ap (λ (n : ℕ). Some n) last;
      first_site = d.first_site;
      end_site = d.end_site;
      sites = same.at d.first_site ∙ d.sites;
    }

paired_as : (x y z : Option (List Stmt)) → y ≡ z → Paired x y → Paired x z
paired_as x y z is p = subst (λ (o : Option (List Stmt)). Paired x o) is p

defined_kept : (a : All) (gs : List Fun) (r : Ready a gs) (number : ℕ) (g : Fun) (body : List Stmt) → slice_get gs number ≡ Some g → g.body ≡ Some body → Defines (made_of a gs) number g body
defined_kept a gs r number g body is has =
    let b = both_of a gs r number g is in
    defined_by a gs number g b body b.was.body refl has
    (subst (λ (o : Option (List Stmt)). Paired b.was.body o) has b.twin.paired)
    (subst (λ (o : Option (List Stmt)). Same (sites_in o) (sites_in b.was.body)) has b.twin.sites)
    (subst (λ (o : Option (List Stmt)). count b.from (points_for g.entry o g.exit) ≡ Some b.mid) has b.points)
    (subst (λ (o : Option (List Stmt)). BodyFits (frame_of (made_of a gs) number g) o) has b.fitting.body)

-- without a body the exit comes directly after the entry
no_body : (g : Fun) (from mid : ℕ) → count from (points_for g.entry None g.exit) ≡ Some mid → g.exit.0 ≡ suc g.entry.0
no_body g from mid is =
    let s = split (both (own_point g.entry) none) (own_point g.exit) from mid is in
    let e = split (own_point g.entry) none from s.0 s.1 in
    let first = own_count g.entry from e.0 e.1 in
    let last = own_count g.exit s.0 mid s.2 in
    let between : e.0 ≡ s.0 = some_is e.0 s.0 e.2 in
    let here = first.0 in
    let next = first.1 in
    let there = last.0 in
    omega (arith, here, next, between, there)

undefined_kept : (a : All) (gs : List Fun) (r : Ready a gs) (number : ℕ) (g : Fun) → slice_get gs number ≡ Some g → g.body ≡ None → g.exit.0 ≡ suc g.entry.0
undefined_kept a gs r number g is has =
    let b = both_of a gs r number g is in
    no_body g b.from b.mid (subst (λ (o : Option (List Stmt)). count b.from (points_for g.entry o g.exit) ≡ Some b.mid) has b.points)

points_kept : (a : All) (gs : List Fun) (r : Ready a gs) (q : ℕ) → q < length a.points → HasPoint (made_of a gs) q
points_kept a gs r q less =
    let h = point_by a 0 0 a.program.fns gs (length a.points) q r.rows (omega arith) less in
    record { number = h.place; function = h.function; is_function = h.is_function; from = h.from; to = h.to }

sites_kept : (a : All) (gs : List Fun) (r : Ready a gs) (n : ℕ) → n < length (made_of a gs).sites → HasSite (made_of a gs) n
sites_kept a gs r n less =
    let many = length-map a.program.sites (moved_site a.program a.moves) in
    let h = a.keeps.sites n (omega (arith, less, many)) in
    let g = one_row a 0 0 a.program.fns gs (length a.points) h.number h.function r.rows h.is_function in
    let b = sited_by h.function h.body g.function h.function.body g.function.body h.is_body refl g.row.twin.paired g.row.twin.sites in
    record {
      number = h.number;
      function = g.function;
      is_function = g.is_function;
      body = b.new_body;
      is_body = b.is_body;
      first_site = h.first_site;
      end_site = h.end_site;
      sites = b.same.at h.first_site ∙ h.sites;
      from = h.from;
      to = h.to;
    }

all_kept : (a : All) (gs : List Fun) (r : Ready a gs) → Keeps (made_of a gs)
all_kept a gs r =
    let graph : call_graph gs ≡ call_graph a.program.fns = graphs a 0 0 a.program.fns gs (length a.points) r.rows in
    let many : length gs ≡ length a.program.fns = lengths a 0 0 a.program.fns gs (length a.points) r.rows in
    record {
      cells = λ number g is.
          let b = both_of a gs r number g is in
          cells_kept a number b.was g b.twin (a.keeps.cells number b.was b.is_old);
      starts = a.keeps.starts;
      entry = λ number g is. (both_of a gs r number g is).fitting.entry;
      exit = λ number g is. (both_of a gs r number g is).fitting.exit;
      defined = λ number g body is has. defined_kept a gs r number g body is has;
      undefined = λ number g is has. undefined_kept a gs r number g is has;
      points = λ q less. points_kept a gs r q less;
      sites = λ n less. sites_kept a gs r n less;
      calls = subst InRange (sym graph) a.keeps.calls;
      calls_end = λ f less.
          subst (λ (g : Graph). ends (length gs) g f ≡ true) (sym graph)
          (subst (λ (n : ℕ). ends n (call_graph a.program.fns) f ≡ true) (sym many) (a.keeps.calls_end f (subst (λ (n : ℕ). f < n) many less)));
    }

abbrev all_for : (law : ClauseFits) (s : Skeleton) (annots : List Annot) → Keeps s.program → NotesFit s.program.cells s.notes → All
all_for law s annots keeps notes = record {
  program = s.program;
  spots = s.notes;
  annots = annots;
  moves = (walk_of s annots).value.1;
  points = (walk_of s annots).made.points;
  notes = notes;
  clause = law;
  keeps = keeps;
}

at_zero : (p : Program) (i : ℕ) (f : Fun) → slice_get p.fns i ≡ Some f → slice_get p.fns (i + 0) ≡ Some f
at_zero p i f is = subst (λ (k : ℕ). slice_get p.fns k ≡ Some f) (sym (at_start i)) is

-- where no breach is among the notes, the rebuilt program keeps what the skeleton's program kept
pub keeps_by : ClauseFits → (s : Skeleton) (annots : List Annot) → Keeps s.program → NotesFit s.program.cells s.notes → Free (faults_of s annots) → Keeps (program_of s annots)
keeps_by law s annots keeps notes free =
    let a = all_for law s annots keeps notes in
    let r = rest_of a 0 s.program.fns [] [] [] refl (at_zero s.program) in
    let starts : Starts a.points a.points = record { more = []; is = sym (append-nil a.points) } in
    let ready : Ready a r.gs = record { rows = r.rows refl starts free.1 } in
    subst (λ (gs : List Fun). Keeps (made_of a gs)) (sym r.fns) (all_kept a r.gs ready)
