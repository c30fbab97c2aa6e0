-- Statements are analysed right.
use Rattle.std.proofs.Common.{◌≡◌, ◌∙◌, ℕ, zero, suc, ◌+◌, ◌<◌, ◌≤◌, pos, Bool, true, false, List, [], ◌∷◌, map, take, drop, Option, Some, None, slice_get, refl, sym, ap, subst, arith, not-suc-le-zero}
use Rattle.std.specs.List.{list_all}
use Rattle.std.specs.Option.{option_map}
use Rattle.std.proofs.lemmas.Bool.{and_parts, true≢false}
use Rattle.fc_base.specs.declared.ids.PointId.{PointId}
use Rattle.int_value.specs.Standing.{Stands}
use Rattle.abs_state.specs.States.{unreached_state}
use Rattle.c_ir.specs.Bodies.{Frame, all_fit, cell_count, declared_fits, expr_fits, fits, fits_step, init_fits, is_declared, is_local, return_fits, stmts_fit, value_fits, value_if_fits}
use Rattle.c_ir.specs.Formed.{cells_pass, form, on_some}
use Rattle.c_ir.specs.Keeps.{Keeps, frame_of, ty_at}
use Rattle.c_ir.specs.Placed.{is_formed}
use Rattle.c_ir.specs.Programs.{Program}
use Rattle.c_ir.specs.Trees.{ty_of}
use Rattle.c_ir.specs.declared.place.Place.{Place}
use Rattle.c_ir.specs.declared.place.Place.TheVariants as P
use Rattle.c_ir.specs.declared.ty.IntType.{IntType}
use Rattle.c_ir.specs.declared.tree.CellInfo.{CellInfo}
use Rattle.c_ir.specs.declared.tree.Expr.{Expr}
use Rattle.c_ir.specs.declared.tree.Fun.{Fun}
use Rattle.c_ir.specs.declared.tree.Init.{Init}
use Rattle.c_ir.specs.declared.tree.Init.TheVariants as I
use Rattle.c_ir.specs.declared.tree.Stmt.{Stmt, map-Stmt, roll-Stmt}
use Rattle.c_ir.specs.declared.tree.Stmt.TheFolds.{fold-roll-Stmt, ind-Stmt}
use Rattle.c_ir.specs.declared.tree.Stmt.TheOpen.{Stmt-F}
use Rattle.c_rules.proofs.Formed.{form_ty, same_is}
use Rattle.c_runs.specs.Evaluation.{meaning}
use Rattle.c_runs.specs.Parts.{IsOf}
use Rattle.c_runs.specs.Runs.{Next, Breaks, Continues, Returns, Part}
use Rattle.c_runs.specs.Runs as runs
use Rattle.c_runs.specs.Statements.{set_all, run, run_all, run_step}
use Rattle.c_runs.specs.Statements as run_parts
use Rattle.c_runs.proofs.Cells.{ToFits, cell_is_own, none_is, set_all_typed, some_is, zero_of}
use Rattle.c_runs.proofs.Typing.{CellIs}
use Rattle.eva_values.proofs.Marking.{one_stands}
use Rattle.eva_rules.specs.Meant.{meant}
use Rattle.eva_rules.specs.Passing.{Step, Widening, all_pass, changes, ends}
use Rattle.eva_rules.specs.Points.{Ground}
use Rattle.eva_rules.specs.Statements.{at, pass, pass_all, pass_step}
use Rattle.eva_rules.specs.Statements as parts
use Rattle.eva_rules.specs.Writing.{Writes, set_cell, set_cells, shapes_of, unset, write_if, zero_value}
use Rattle.eva_rules.proofs.Calls as values
use Rattle.eva_rules.proofs.Calls.{dropped}
use Rattle.eva_rules.proofs.Cover as cover
use Rattle.eva_rules.proofs.Loops as loops
use Rattle.eva_rules.proofs.Meaning.{WritesTo, meaning_covers}
use Rattle.eva_rules.proofs.Naming.{names_hold}
use Rattle.eva_rules.proofs.Passing as passing
use Rattle.eva_rules.proofs.Points as points
use Rattle.eva_rules.proofs.Writing.{set_all_in, set_in}

-- ---- what is known of expressions where they stand

fits_formed : (f : Frame) (p : PointId) (place : Place) (e : Expr) → expr_fits f p place e ≡ true
    → (form f.layout e).value ≡ true
unfolding expr_fits is_formed
fits_formed f p place e is = (and_parts _ _ (and_parts _ _ is).0).0

value_ty : (f : Frame) (p : PointId) (place : Place) (ty : IntType) (e : Expr) → value_fits f p place ty e ≡ true
    → (form f.layout e).ty ≡ ty
value_ty f p place ty e is = form_ty f.layout e ∙ same_is (ty_of e) ty (and_parts _ _ is).1

-- ---- cells of arrays

-- the cells from x on, so many, are of this type
abbrev ArrayOf : Program → IntType → ℕ → ℕ → Type 0
ArrayOf p ty x n = (y : ℕ) → x ≤ y → y < x + n → CellIs p y ty

no_cell : (y : ℕ) (info : CellInfo) → slice_get [] y ≡ Some info → ⊥
no_cell zero info is = cc
no_cell (suc y) info is = cc

taken : (t : CellInfo → Bool) (cells : List CellInfo) (n y : ℕ) (info : CellInfo) → list_all t (take n cells) ≡ true
    → y < n → slice_get cells y ≡ Some info → t info ≡ true
taken t [] n y info all less is = absurd (no_cell y info is)
taken t (c ∷ cells) zero y info all less is = absurd (not-suc-le-zero less)
taken t (c ∷ cells) (suc n) zero info all less is = subst (λ (i : CellInfo). t i ≡ true) (some_is is)
    (and_parts _ _ all).0
taken t (c ∷ cells) (suc n) (suc y) info all less is = taken t cells n y info (and_parts _ _ all).1 (omega arith) is

past : (t : CellInfo → Bool) (cells : List CellInfo) (first n y : ℕ) (info : CellInfo)
    → list_all t (take n (drop first cells)) ≡ true → first ≤ y → y < first + n → slice_get cells y ≡ Some info
    → t info ≡ true
past t cells zero n y info all from less is = taken t cells n y info all (omega arith) is
past t [] (suc first) n y info all from less is = absurd (no_cell y info is)
past t (c ∷ cells) (suc first) n zero info all from less is = absurd (not-suc-le-zero from)
past t (c ∷ cells) (suc first) n (suc y) info all from less is = past t cells first n y info all (omega arith)
    (omega arith) is

array_by : (p : Program) (function : ℕ) (ty : IntType) (checked : Bool) (first n : ℕ)
    → cells_pass (is_local function ty checked) p.cells first n ≡ true → ArrayOf p ty first n
unfolding cells_pass
array_by p function ty checked first n all y from less info is =
    let passes = past (is_local function ty checked) p.cells first n y info all from less is in
    same_is info.ty ty (and_parts _ _ (and_parts _ _ passes).0).0

one_less : (p : Program) (ty : IntType) (x n : ℕ) → ArrayOf p ty x (suc n) → ArrayOf p ty (x + 1) n
one_less p ty x n array y from less = array y (omega arith) (omega arith)

-- ---- cells that are written to

set_writes : (x : ℕ) → WritesTo (set_cell x) (Some x)
set_writes x v o e c h all = set_in x v o e c h all

write_writes : (r : Option ℕ) → WritesTo (write_if r) r
write_writes None = dropped
write_writes (Some x) = set_writes x

pub zero_stands : Stands zero_value (Some (pos 0))
zero_stands = one_stands (pos 0)

-- ---- the body of a function, over what is known of its calls

module _ (g : Ground) (holding : ℕ → Bool) (keeps : Keeps g.world.program) (calls : ℕ → Part) (analysed : ℕ → Step)
    (widening : Widening) (same : widening.shapes ≡ shapes_of g.world.program)
    (sound : (n : ℕ) → cover.Sound g.world.program g.number holding (calls n) (analysed n)) (function : Fun)
    (index : ℕ) where
  abbrev program : Program
  program = g.world.program

  abbrev run_in : run_parts.Inside
  run_in = record { world = g.world; calls = calls; result = function.result }

  abbrev analysed_in : parts.Inside
  analysed_in = record { ground = g; calls = analysed; widening = widening; result = function.result }

  abbrev frame : Frame
  frame = frame_of program index function

  abbrev Sound : Part → Step → Type 0
  Sound = cover.Sound program g.number holding

  ends_sound : (e : runs.Ending) → Sound (runs.ends e) (ends e)
  ends_sound = passing.ends_sound program g.number holding

  -- ---- statements by their kinds

  given : (p : PointId) (place : Place) (ty : IntType) (w : Writes) (to : Option ℕ) (e : Expr)
      → value_fits frame p place ty e ≡ true → ToFits program to ty → WritesTo w to
      → Sound (run_parts.giving_to run_in p.0 to e) (parts.giving_to analysed_in p.0 w e)
  given p place ty w to e is fits writes =
      values.giving_sound g holding keeps calls analysed widening function.result sound p.0 e w to ty
      (fits_formed frame p place e (and_parts _ _ is).0) (value_ty frame p place ty e is) fits writes

  conditional : (p : PointId) (e : Expr) (f h : Part) (k j : Step) → expr_fits frame p P.Inner e ≡ true → Sound f k
      → Sound h j → Sound (run_parts.condition run_in p.0 e f h) (parts.condition analysed_in e k j)
  conditional p e f h k j is first second =
      passing.branch_sound program g.number holding p.0 (meant g.world.overflow e).value
      (meaning g.world.overflow e).value f h k j
      (names_hold g.world.overflow e).value
      ((meaning_covers program g.world.overflow e).value (fits_formed frame p P.Inner e is)) first second

  conditional_if : (p : PointId) (o : Option Expr) (f h : Part) (k j : Step) → value_if_fits frame p P.Inner o ≡ true
      → Sound f k → Sound h j → Sound (run_parts.condition_if run_in p.0 o f h) (parts.condition_if analysed_in o k j)
  conditional_if p None f h k j is first second = λ s n c i typed covers clean.
      passing.good_left program g.number holding s (k s) (j (unreached_state s.used)) (f n c i)
      (first s n c i typed covers clean)
  conditional_if p (Some e) f h k j is first second = conditional p e f h k j is first second

  -- ---- declarations

  filled : (p : PointId) (ty : IntType) (x n : ℕ) (es : List Expr) → ArrayOf program ty x n
      → list_all (value_fits frame p P.Inner ty) es ≡ true
      → passing.Follows program g.number holding (run_parts.filling run_in p.0 x n es)
      (parts.filling analysed_in p.0 x n es)
  filled p ty x n [] array all =
      passing.follows_one program g.number holding (run_parts.filling run_in p.0 x n [])
      (changes (set_cells x n zero_value))
      (passing.changes_sound program g.number holding (set_cells x n zero_value) (set_all x n (Some (pos 0)))
      (λ c typed. set_all_typed program x n (Some (pos 0)) c (λ t z is. subst (IsOf t) (some_is is) (zero_of t)) typed)
      (λ e c typed inside. set_all_in x n zero_value (Some (pos 0)) e c zero_stands inside))
  filled p ty x zero (e ∷ es) array all = passing.follows_none program g.number holding
  filled p ty x (suc n) (e ∷ es) array all =
      let both = and_parts _ _ all in
      passing.follows_more program g.number holding (run_parts.giving_to run_in p.0 (Some x) e)
      (run_parts.filling run_in p.0 (x + 1) n es) (parts.giving_to analysed_in p.0 (set_cell x) e)
      (parts.filling analysed_in p.0 (x + 1) n es)
      (given p P.Inner ty (set_cell x) (Some x) e both.0 (array x (omega arith) (omega arith)) (set_writes x))
      (filled p ty (x + 1) n es (one_less program ty x n array) both.1)

  declared_by : (p : PointId) (first : ℕ) (size : Option ℕ) (value : Init) (c : CellInfo)
      → ArrayOf program c.ty first (cell_count size) → init_fits frame p c.ty size value ≡ true
      → Sound (run_parts.declaring run_in p.0 first (cell_count size) value)
      (parts.declaring analysed_in p.0 first (cell_count size) value)
  declared_by p first size I.Nothing c array fits =
      passing.changes_sound program g.number holding (set_cells first (cell_count size) unset)
      (set_all first (cell_count size) None)
      (λ d typed. set_all_typed program first (cell_count size) None d (λ t z e. absurd (none_is z e)) typed)
      (λ e d typed inside. set_all_in first (cell_count size) unset None e d refl inside)
  declared_by p first None (I.One e) c array fits =
      given p P.Value c.ty (set_cell first) (Some first) e fits (array first (omega arith) (omega arith))
      (set_writes first)
  declared_by p first (Some n) (I.One e) c array fits = absurd (true≢false (sym fits))
  declared_by p first None (I.Many es) c array fits = absurd (true≢false (sym fits))
  declared_by p first (Some n) (I.Many es) c array fits =
      passing.pass_sound program g.number holding (run_parts.filling run_in p.0 first n es)
      (parts.filling analysed_in p.0 first n es)
      (filled p c.ty first n es array (and_parts _ _ fits).1)

  declared_if : (p : PointId) (first : ℕ) (size : Option ℕ) (value : Init) (o : Option CellInfo)
      → on_some (is_declared frame p first size value) o ≡ true
      → Sound (run_parts.declaring run_in p.0 first (cell_count size) value)
      (parts.declaring analysed_in p.0 first (cell_count size) value)
  declared_if p first size value None fits = absurd (true≢false (sym fits))
  declared_if p first size value (Some c) fits =
      let both = and_parts _ _ fits in
      declared_by p first size value c
      (array_by program index c.ty c.checked first (cell_count size) (and_parts _ _ both.0).1) both.1

  declared : (p : PointId) (first : ℕ) (size : Option ℕ) (value : Init) → declared_fits frame p first size value ≡ true
      → Sound (run_parts.declaring run_in p.0 first (cell_count size) value)
      (parts.declaring analysed_in p.0 first (cell_count size) value)
  unfolding declared_fits
  declared p first size value fits = declared_if p first size value (slice_get program.cells first) fits

  -- ---- return

  returned_by : (p : PointId) (r : Option ℕ) (e : Expr)
      → return_fits frame p (option_map (ty_at program.cells) r) (Some e) ≡ true
      → Sound (run_parts.giving_to run_in p.0 r e) (parts.giving_to analysed_in p.0 (write_if r) e)
  returned_by p None e fits = absurd (true≢false (sym fits))
  returned_by p (Some r) e fits =
      given p P.Value (ty_at program.cells r) (set_cell r) (Some r) e fits (cell_is_own program r) (set_writes r)

  returned : (p : PointId) (value : Option Expr) → return_fits frame p frame.result value ≡ true
      → Sound (run_parts.returning run_in p.0 value) (parts.returning analysed_in p.0 value)
  returned p None fits = ends_sound Returns
  returned p (Some e) fits =
      passing.seq_sound program g.number holding (run_parts.giving_to run_in p.0 function.result e) (runs.ends Returns)
      (parts.giving_to analysed_in p.0 (write_if function.result) e) (ends Returns)
      (returned_by p function.result e fits) (ends_sound Returns)

  -- ---- trees

  abbrev Claim : Stmt → Type 0
  Claim x = (in_loop : Bool) → fits frame x in_loop ≡ true → Sound (run run_in x) (pass analysed_in x)

  abbrev With : Type 0
  With = (x : Stmt) × Claim x

  abbrev trees : List With → List Stmt
  trees ys = map (λ y. y.0) ys

  abbrev stmts_in : Stmt-F With → Stmt-F Stmt
  stmts_in y = map-Stmt With Stmt (λ y. y.0) y

  sub_sound : (in_loop : Bool) (ys : List With) → all_fit (map (fits frame) (trees ys)) in_loop ≡ true
      → passing.AllSound program g.number holding (map (run run_in) (trees ys)) (map (pass analysed_in) (trees ys))
  sub_sound in_loop [] is = tt
  sub_sound in_loop (y ∷ ys) is =
      let both = and_parts _ _ is in (y.1 in_loop both.0, sub_sound in_loop ys both.1)

  subs : (in_loop : Bool) (ys : List With) → all_fit (map (fits frame) (trees ys)) in_loop ≡ true
      → Sound (runs.all_run (map (run run_in) (trees ys))) (all_pass (map (pass analysed_in) (trees ys)))
  subs in_loop ys is =
      passing.all_sound program g.number holding (map (run run_in) (trees ys)) (map (pass analysed_in) (trees ys))
      (sub_sound in_loop ys is)

  at_sound : (p : PointId) (f : Part) (k : Step) → Sound f k → Sound (run_parts.at g.world p f) (at g p k)
  at_sound p f k h = points.at_sound g holding p f k h

  loop_sound : (f : Part) (k : Step) → Sound f k → Sound (runs.loop f) (parts.loop analysed_in k)
  loop_sound f k h = loops.loop_sound program g.number holding widening same f k h g.unroll

  abbrev LayerSound : Stmt-F Stmt → Type 0
  LayerSound z = (in_loop : Bool) → fits_step frame (map-Stmt Stmt (Bool → Bool) (fits frame) z) in_loop ≡ true
      → Sound (run_step run_in (map-Stmt Stmt Part (run run_in) z))
      (pass_step analysed_in (map-Stmt Stmt Step (pass analysed_in) z))

  layer : (y : Stmt-F With) → LayerSound (stmts_in y)
  layer (Stmt-F.Declare p first n value) in_loop is =
      at_sound p _ _ (declared p first n value (and_parts _ _ is).1)
  layer (Stmt-F.Expression p e) in_loop is =
      at_sound p _ _ (values.dropping_sound g holding keeps calls analysed widening function.result sound p.0 e
      (fits_formed frame p P.Dropped e (and_parts _ _ is).1))
  layer (Stmt-F.If p c ys ns) in_loop is =
      let both = and_parts _ _ is in
      let rest = and_parts _ _ both.1 in
      at_sound p _ _ (conditional p c _ _ _ _ (and_parts _ _ both.0).1 (subs in_loop ys rest.0)
      (subs in_loop ns rest.1))
  layer (Stmt-F.While p c bs) in_loop is =
      let both = and_parts _ _ is in
      loop_sound _ _ (at_sound p _ _ (conditional p c _ _ _ _ (and_parts _ _ both.0).1 (subs true bs both.1)
      (ends_sound Breaks)))
  layer (Stmt-F.DoWhile p bs c) in_loop is =
      let both = and_parts _ _ is in
      loop_sound _ _ (at_sound p _ _ (passing.seq_sound program g.number holding _ _ _ _
      (passing.continuing_sound program g.number holding _ _ (subs true bs both.1))
      (conditional p c _ _ _ _ (and_parts _ _ both.0).1 (ends_sound Next) (ends_sound Breaks))))
  layer (Stmt-F.For hs p c bs us) in_loop is =
      let both = and_parts _ _ is in
      let rest = and_parts _ _ both.1 in
      let last = and_parts _ _ rest.1 in
      passing.seq_sound program g.number holding _ _ _ _ (subs in_loop hs rest.0)
      (loop_sound _ _ (at_sound p _ _ (conditional_if p c _ _ _ _ (and_parts _ _ both.0).1
      (passing.seq_sound program g.number holding _ _ _ _
      (passing.continuing_sound program g.number holding _ _ (subs true bs last.0)) (subs in_loop us last.1))
      (ends_sound Breaks))))
  layer (Stmt-F.Break p) in_loop is = at_sound p _ _ (ends_sound Breaks)
  layer (Stmt-F.Continue p) in_loop is = at_sound p _ _ (ends_sound Continues)
  layer (Stmt-F.Return p value) in_loop is = at_sound p _ _ (returned p value (and_parts _ _ is).1)
  layer (Stmt-F.Empty p) in_loop is = at_sound p _ _ (ends_sound Next)
  layer (Stmt-F.Block ss) in_loop is = subs in_loop ss is
  layer (Stmt-F.Note note) in_loop is = ends_sound Next
  layer (Stmt-F.Clause p) in_loop is = at_sound p _ _ (ends_sound Next)

  rolled : (x : Stmt-F Stmt) → LayerSound x → Claim (roll-Stmt x)
  rolled x h in_loop is =
      let fit = ap (λ (b : Bool → Bool). b in_loop) (sym (fold-roll-Stmt (Bool → Bool) (fits_step frame) x)) ∙ is in
      let here = h in_loop fit in
      let one = subst (λ (f : Part). Sound f (pass_step analysed_in (map-Stmt Stmt Step (pass analysed_in) x)))
      (sym (fold-roll-Stmt Part (run_step run_in) x)) here in
      subst (λ (k : Step). Sound (run run_in (roll-Stmt x)) k) (sym (fold-roll-Stmt Step (pass_step analysed_in) x)) one

  stmt_sound : (x : Stmt) → Claim x
  stmt_sound = ind-Stmt Claim (λ x y is. rolled x (subst LayerSound is (layer y)))

  all_claims : (ss : List Stmt) → all_fit (map (fits frame) ss) false ≡ true
      → passing.AllSound program g.number holding (map (run run_in) ss) (map (pass analysed_in) ss)
  all_claims [] is = tt
  all_claims (x ∷ ss) is = let both = and_parts _ _ is in (stmt_sound x false both.0, all_claims ss both.1)

  pub body_sound : (ss : List Stmt) → stmts_fit frame false ss ≡ true
      → Sound (run_all run_in ss) (pass_all analysed_in ss)
  unfolding stmts_fit
  body_sound ss is = passing.all_sound program g.number holding (map (run run_in) ss) (map (pass analysed_in) ss)
      (all_claims ss is)
