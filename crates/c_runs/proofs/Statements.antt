-- Statements keep the law of pieces.
use Rattle.std.proofs.Common.{◌≡◌, ◌∙◌, ◌==◌, ℕ, zero, suc, ◌+◌, ◌<◌, ◌≤◌, ℤ, pos, Bool, true, false, ◌&&◌, ◌||◌, List, [], ◌∷◌, ◌++◌, map, take, drop, length, Option, Some, None, slice_get, nat_le, refl, sym, ap, subst, inl, inr, arith, not-suc-le-zero}
use Rattle.std.specs.List.{list_all}
use Rattle.std.specs.Option.{option_map}
use Rattle.std.proofs.lemmas.Bool.{and_parts, true≢false, both_ways}
use Rattle.std.proofs.lemmas.Option.{slice_get_within}
use Rattle.fc_base.specs.declared.ids.PointId.{PointId}
use Rattle.c_ir.specs.Bodies.{Frame, Stand, AtEntry, AtExit, AtLoop, AtNote, Plain, stand_of, same_stand, is_own, bears, clause_fits, expr_fits, value_fits, value_if_fits, declared_fits, is_declared, init_fits, is_local, cell_count, return_fits, all_fit, fits, fits_step, stmts_fit}
use Rattle.c_ir.specs.Formed.{Layout, form, on_some, cells_pass, is_read_as}
use Rattle.c_ir.specs.Keeps.{Keeps, frame_of, layout_of, ty_at}
use Rattle.c_ir.specs.Placed.{is_formed}
use Rattle.c_ir.specs.Programs.{Program}
use Rattle.c_ir.specs.Trees.{ty_of}
use Rattle.c_ir.specs.Types.{same_type}
use Rattle.c_ir.specs.declared.kind.Kind.{Kind}
use Rattle.c_ir.specs.declared.kind.Kind.TheVariants as K
use Rattle.c_ir.specs.declared.place.Place.{Place}
use Rattle.c_ir.specs.declared.place.Place.TheVariants as P
use Rattle.c_ir.specs.declared.ty.IntType.{IntType}
use Rattle.c_ir.specs.declared.tree.CellInfo.{CellInfo}
use Rattle.c_ir.specs.declared.tree.Expr.{Expr}
use Rattle.c_ir.specs.declared.tree.Fun.{Fun}
use Rattle.c_ir.specs.declared.tree.Init.{Init}
use Rattle.c_ir.specs.declared.tree.Init.TheVariants as I
use Rattle.c_ir.specs.declared.tree.PointClause.{PointClause}
use Rattle.c_ir.specs.declared.tree.PointInfo.{PointInfo}
use Rattle.c_ir.specs.declared.tree.Stmt.{Stmt, map-Stmt, roll-Stmt}
use Rattle.c_ir.specs.declared.tree.Stmt.TheFolds.{fold-roll-Stmt, ind-Stmt}
use Rattle.c_ir.specs.declared.tree.Stmt.TheOpen.{Stmt-F}
use Rattle.c_rules.proofs.Formed.{form_ty, same_is}
use Rattle.c_runs.specs.Evaluation.{Meaning}
use Rattle.c_runs.specs.Laws.{is_requires, has_requires}
use Rattle.c_runs.specs.Parts.{IsOf, Placed, at_point, exprs_if, exprs_of_init, all_placed, placed_step, placed_in, placed_in_all, placed_in_fns, Has}
use Rattle.c_runs.specs.Runs.{Ending, Next, Breaks, Continues, Returns, Part, ends, seq, all_run, loop, continuing}
use Rattle.c_runs.specs.Statements.{Inside, at, clauses_in, clauses_at, set_all, giving_to, dropping, filling, declaring, condition, condition_if, returning, meaning_in, run_step, run, run_all}
use Rattle.c_runs.proofs.Calls.{Ground, Here, value_here, giving_good, dropping_good}
use Rattle.c_runs.proofs.Cells.{ToFits, set_all_typed, cell_is_own, zero_of, some_is, none_is}
use Rattle.c_runs.proofs.Chains.{Good, anywhere, ends_good, changes_good, seq_good, all_good, AllGood, loop_good, continuing_good, branch_good, at_good}
use Rattle.c_runs.proofs.Typing.{CellIs}

-- ---- points of statements have no preconditions

kind_clear : (stand : Stand) (k : Kind) → same_stand stand AtEntry ≡ false → on_some (same_stand stand) (stand_of k) ≡ true → is_requires k ≡ false
kind_clear stand K.Requires other is = absurd (both_ways _ other is)
kind_clear stand K.CallRequires other is = refl
kind_clear stand K.Ensures other is = refl
kind_clear stand K.Assert other is = refl
kind_clear stand K.Check other is = refl
kind_clear stand K.Admit other is = refl
kind_clear stand K.LoopInvariant other is = refl
kind_clear stand (K.Alarm a) other is = refl
kind_clear stand K.Dead other is = refl

neither : (a b : Bool) → a ≡ false → b ≡ false → (a || b) ≡ false
neither a b is more = cc

clear : (f : Frame) (stand : Stand) (cs : List PointClause) → same_stand stand AtEntry ≡ false → list_all (clause_fits f stand) cs ≡ true → has_requires cs ≡ false
clear f stand [] other is = refl
clear f stand (c ∷ cs) other is =
    let parts = and_parts _ _ is in
    neither (is_requires c.kind) (has_requires cs) (kind_clear stand c.kind other (and_parts _ _ parts.0).0) (clear f stand cs other parts.1)

clear_if : (f : Frame) (stand : Stand) (o : Option PointInfo) → same_stand stand AtEntry ≡ false → on_some (bears f stand) o ≡ true → has_requires (clauses_in o) ≡ false
clear_if f stand None other is = refl
clear_if f stand (Some info) other is = clear f stand info.clauses other (and_parts _ _ (and_parts _ _ is).1).1

pub own_clear : (f : Frame) (stand : Stand) (q : PointId) → same_stand stand AtEntry ≡ false → is_own f stand q ≡ true → has_requires (clauses_in (slice_get f.points q.0)) ≡ false
unfolding is_own
own_clear f stand q other is = clear_if f stand (slice_get f.points q.0) other is

point_if : (f : Frame) (stand : Stand) (n : ℕ) (o : Option PointInfo) → slice_get f.points n ≡ o → on_some (bears f stand) o ≡ true → n < length f.points
point_if f stand n None is own = absurd (true≢false (sym own))
point_if f stand n (Some info) is own = slice_get_within f.points n info is

-- a function's point is one of the program
pub own_point : (f : Frame) (stand : Stand) (q : PointId) → is_own f stand q ≡ true → q.0 < length f.points
unfolding is_own
own_point f stand q own = point_if f stand q.0 (slice_get f.points q.0) refl own

-- ---- expressions that stand at a point

fits_formed : (f : Frame) (p : PointId) (place : Place) (e : Expr) → expr_fits f p place e ≡ true → (form f.layout e).value ≡ true
unfolding expr_fits is_formed
fits_formed f p place e is = (and_parts _ _ (and_parts _ _ is).0).0

value_ty : (f : Frame) (p : PointId) (place : Place) (ty : IntType) (e : Expr) → value_fits f p place ty e ≡ true → (form f.layout e).ty ≡ ty
value_ty f p place ty e is = form_ty f.layout e ∙ same_is (ty_of e) ty (and_parts _ _ is).1

-- ---- a body

-- a body of the program's, over what is known of its calls
pub record Body (s : Inside) : Type 0 where
  pub ground : Ground s
  pub number : ℕ
  pub function : Fun
  pub result : s.result ≡ function.result

abbrev pub frame_in : (s : Inside) → Body s → Frame
frame_in s b = frame_of s.world.program b.number b.function

-- these expressions are the program's
abbrev pub Within : Inside → List Placed → Type 0
Within s xs = (x : Placed) → Has xs x → Has (placed_in_fns s.world.program.fns) x

has_left : (xs ys : List Placed) (x : Placed) → Has xs x → Has (xs ++ ys) x
has_left [] ys x h = absurd h
has_left (z ∷ xs) ys x (inl is) = inl is
has_left (z ∷ xs) ys x (inr h) = inr (has_left xs ys x h)

has_right : (xs ys : List Placed) (x : Placed) → Has ys x → Has (xs ++ ys) x
has_right [] ys x h = h
has_right (z ∷ xs) ys x h = inr (has_right xs ys x h)

left : (s : Inside) (xs ys : List Placed) → Within s (xs ++ ys) → Within s xs
left s xs ys within x h = within x (has_left xs ys x h)

right : (s : Inside) (xs ys : List Placed) → Within s (xs ++ ys) → Within s ys
right s xs ys within x h = within x (has_right xs ys x h)

here_by : (s : Inside) (b : Body s) (p : PointId) (place : Place) (e : Expr) (es : List Expr) → expr_fits (frame_in s b) p place e ≡ true → Within s (at_point p (e ∷ es)) → Here s p.0 e
here_by s b p place e es is within = record {
  is_there = within (record { point = p.0; expr = e }) (inl refl);
  formed = fits_formed (frame_in s b) p place e is;
}

-- ---- statements by their kinds

at_own : (s : Inside) (b : Body s) (stand : Stand) (p : PointId) (f : Part) → same_stand stand AtEntry ≡ false → is_own (frame_in s b) stand p ≡ true → Good s.world (Some p.0) f → Good s.world None (at s.world p f)
at_own s b stand p f other own good =
    at_good s.world p f (own_point (frame_in s b) stand p own) (own_clear (frame_in s b) stand p other own) good

given : (s : Inside) (b : Body s) (p : PointId) (place : Place) (ty : IntType) (to : Option ℕ) (e : Expr) (es : List Expr) → value_fits (frame_in s b) p place ty e ≡ true → ToFits s.world.program to ty → Within s (at_point p (e ∷ es)) → Good s.world (Some p.0) (giving_to s p.0 to e)
given s b p place ty to e es is fits within =
    giving_good s p.0 e to ty b.ground (here_by s b p place e es (and_parts _ _ is).0 within)
    (value_ty (frame_in s b) p place ty e is) fits

conditional : (s : Inside) (b : Body s) (p : PointId) (e : Expr) (f g : Part) → expr_fits (frame_in s b) p P.Inner e ≡ true → Within s (at_point p (e ∷ [])) → Good s.world (Some p.0) f → Good s.world (Some p.0) g → Good s.world (Some p.0) (condition s p.0 e f g)
conditional s b p e f g is within hf hg =
    branch_good s.world p.0 (meaning_in s e).value f g (value_here s p.0 e (here_by s b p P.Inner e [] is within)) hf hg

conditional_if : (s : Inside) (b : Body s) (p : PointId) (o : Option Expr) (f g : Part) → value_if_fits (frame_in s b) p P.Inner o ≡ true → Within s (at_point p (exprs_if o)) → Good s.world (Some p.0) f → Good s.world (Some p.0) g → Good s.world (Some p.0) (condition_if s p.0 o f g)
conditional_if s b p None f g is within hf hg = hf
conditional_if s b p (Some e) f g is within hf hg = conditional s b p e f g is within hf hg

-- ---- declarations

-- the cells from x on, so many, are of this type
abbrev ArrayOf : Program → IntType → ℕ → ℕ → Type 0
ArrayOf p ty x n = (y : ℕ) → x ≤ y → y < x + n → CellIs p y ty

no_cell : (y : ℕ) (info : CellInfo) → slice_get [] y ≡ Some info → ⊥
no_cell zero info is = cc
no_cell (suc y) info is = cc

taken : (t : CellInfo → Bool) (cells : List CellInfo) (n y : ℕ) (info : CellInfo) → list_all t (take n cells) ≡ true → y < n → slice_get cells y ≡ Some info → t info ≡ true
taken t [] n y info all less is = absurd (no_cell y info is)
taken t (c ∷ cells) zero y info all less is = absurd (not-suc-le-zero less)
taken t (c ∷ cells) (suc n) zero info all less is = subst (λ (i : CellInfo). t i ≡ true) (some_is is) (and_parts _ _ all).0
taken t (c ∷ cells) (suc n) (suc y) info all less is = taken t cells n y info (and_parts _ _ all).1 (omega arith) is

dropped : (t : CellInfo → Bool) (cells : List CellInfo) (first n y : ℕ) (info : CellInfo) → list_all t (take n (drop first cells)) ≡ true → first ≤ y → y < first + n → slice_get cells y ≡ Some info → t info ≡ true
dropped t cells zero n y info all from less is = taken t cells n y info all (omega arith) is
dropped t [] (suc first) n y info all from less is = absurd (no_cell y info is)
dropped t (c ∷ cells) (suc first) n zero info all from less is = absurd (not-suc-le-zero from)
dropped t (c ∷ cells) (suc first) n (suc y) info all from less is = dropped t cells first n y info all (omega arith) (omega arith) is

array_by : (p : Program) (function : ℕ) (ty : IntType) (checked : Bool) (first n : ℕ) → cells_pass (is_local function ty checked) p.cells first n ≡ true → ArrayOf p ty first n
unfolding cells_pass
array_by p function ty checked first n all y from less info is =
    let passes = dropped (is_local function ty checked) p.cells first n y info all from less is in
    same_is info.ty ty (and_parts _ _ (and_parts _ _ passes).0).0

one_less : (p : Program) (ty : IntType) (x n : ℕ) → ArrayOf p ty x (suc n) → ArrayOf p ty (x + 1) n
one_less p ty x n array y from less = array y (omega arith) (omega arith)

filled : (s : Inside) (b : Body s) (p : PointId) (ty : IntType) (x n : ℕ) (es : List Expr) → ArrayOf s.world.program ty x n → list_all (value_fits (frame_in s b) p P.Inner ty) es ≡ true → Within s (at_point p es) → Good s.world (Some p.0) (filling s p.0 x n es)
filled s b p ty x n [] array all within =
    changes_good s.world (Some p.0) (set_all x n (Some (pos 0)))
    (λ c typed. set_all_typed s.world.program x n (Some (pos 0)) c (λ t z is. subst (IsOf t) (some_is is) (zero_of t)) typed)
filled s b p ty x zero (e ∷ es) array all within = ends_good s.world (Some p.0) Next
filled s b p ty x (suc n) (e ∷ es) array all within =
    let parts = and_parts _ _ all in
    seq_good s.world (Some p.0) (giving_to s p.0 (Some x) e) (filling s p.0 (x + 1) n es)
    (given s b p P.Inner ty (Some x) e es parts.0 (array x (omega arith) (omega arith)) within)
    (filled s b p ty (x + 1) n es (one_less s.world.program ty x n array) parts.1 (λ y h. within y (inr h)))

declared_by : (s : Inside) (b : Body s) (p : PointId) (first : ℕ) (size : Option ℕ) (value : Init) (c : CellInfo) → slice_get s.world.program.cells first ≡ Some c → ArrayOf s.world.program c.ty first (cell_count size) → init_fits (frame_in s b) p c.ty size value ≡ true → Within s (at_point p (exprs_of_init value)) → Good s.world (Some p.0) (declaring s p.0 first (cell_count size) value)
declared_by s b p first size I.Nothing c is array fits within =
    changes_good s.world (Some p.0) (set_all first (cell_count size) None)
    (λ d typed. set_all_typed s.world.program first (cell_count size) None d (λ t z e. absurd (none_is z e)) typed)
declared_by s b p first None (I.One e) c is array fits within =
    given s b p P.Value c.ty (Some first) e [] fits (array first (omega arith) (omega arith)) within
declared_by s b p first (Some n) (I.One e) c is array fits within = absurd (true≢false (sym fits))
declared_by s b p first None (I.Many es) c is array fits within = absurd (true≢false (sym fits))
declared_by s b p first (Some n) (I.Many es) c is array fits within =
    filled s b p c.ty first n es array (and_parts _ _ fits).1 within

declared_if : (s : Inside) (b : Body s) (p : PointId) (first : ℕ) (size : Option ℕ) (value : Init) (o : Option CellInfo) → slice_get s.world.program.cells first ≡ o → on_some (is_declared (frame_in s b) p first size value) o ≡ true → Within s (at_point p (exprs_of_init value)) → Good s.world (Some p.0) (declaring s p.0 first (cell_count size) value)
declared_if s b p first size value None is fits within = absurd (true≢false (sym fits))
declared_if s b p first size value (Some c) is fits within =
    let parts = and_parts _ _ fits in
    declared_by s b p first size value c is
    (array_by s.world.program b.number c.ty c.checked first (cell_count size) (and_parts _ _ parts.0).1) parts.1 within

declared : (s : Inside) (b : Body s) (p : PointId) (first : ℕ) (size : Option ℕ) (value : Init) → declared_fits (frame_in s b) p first size value ≡ true → Within s (at_point p (exprs_of_init value)) → Good s.world (Some p.0) (declaring s p.0 first (cell_count size) value)
unfolding declared_fits
declared s b p first size value fits within = declared_if s b p first size value (slice_get s.world.program.cells first) refl fits within

-- ---- return

returned_by : (s : Inside) (b : Body s) (p : PointId) (r : Option ℕ) (e : Expr) → return_fits (frame_in s b) p (option_map (ty_at s.world.program.cells) r) (Some e) ≡ true → Within s (at_point p (e ∷ [])) → Good s.world (Some p.0) (giving_to s p.0 r e)
returned_by s b p None e fits within = absurd (true≢false (sym fits))
returned_by s b p (Some r) e fits within =
    given s b p P.Value (ty_at s.world.program.cells r) (Some r) e [] fits (cell_is_own s.world.program r) within

returned : (s : Inside) (b : Body s) (p : PointId) (value : Option Expr) → return_fits (frame_in s b) p (frame_in s b).result value ≡ true → Within s (at_point p (exprs_if value)) → Good s.world (Some p.0) (returning s p.0 value)
returned s b p None fits within = ends_good s.world (Some p.0) Returns
returned s b p (Some e) fits within =
    seq_good s.world (Some p.0) (giving_to s p.0 s.result e) (ends Returns)
    (subst (λ (r : Option ℕ). Good s.world (Some p.0) (giving_to s p.0 r e)) (sym b.result) (returned_by s b p b.function.result e fits within))
    (ends_good s.world (Some p.0) Returns)

-- ---- trees

abbrev pub Claim : (s : Inside) → Body s → Stmt → Type 0
Claim s b x = (in_loop : Bool) → fits (frame_in s b) x in_loop ≡ true → Within s (placed_in x) → Good s.world None (run s x)

abbrev With : (s : Inside) → Body s → Type 0
With s b = (x : Stmt) × Claim s b x

abbrev trees : (s : Inside) (b : Body s) → List (With s b) → List Stmt
trees s b ys = map (λ y. y.0) ys

abbrev stmts_in : (s : Inside) (b : Body s) → Stmt-F (With s b) → Stmt-F Stmt
stmts_in s b y = map-Stmt (With s b) Stmt (λ y. y.0) y

sub_good : (s : Inside) (b : Body s) (in_loop : Bool) (ys : List (With s b)) → all_fit (map (fits (frame_in s b)) (trees s b ys)) in_loop ≡ true → Within s (all_placed (map placed_in (trees s b ys))) → AllGood s.world None (map (run s) (trees s b ys))
sub_good s b in_loop [] is within = tt
sub_good s b in_loop (y ∷ ys) is within =
    let parts = and_parts _ _ is in
    (y.1 in_loop parts.0 (left s (placed_in y.0) _ within), sub_good s b in_loop ys parts.1 (right s (placed_in y.0) _ within))

subs : (s : Inside) (b : Body s) (in_loop : Bool) (ys : List (With s b)) → all_fit (map (fits (frame_in s b)) (trees s b ys)) in_loop ≡ true → Within s (all_placed (map placed_in (trees s b ys))) → Good s.world None (all_run (map (run s) (trees s b ys)))
subs s b in_loop ys is within = all_good s.world None _ (sub_good s b in_loop ys is within)

layer : (s : Inside) (b : Body s) (y : Stmt-F (With s b)) (in_loop : Bool) → fits_step (frame_in s b) (map-Stmt Stmt (Bool → Bool) (fits (frame_in s b)) (stmts_in s b y)) in_loop ≡ true → Within s (placed_step (map-Stmt Stmt (List Placed) placed_in (stmts_in s b y))) → Good s.world None (run_step s (map-Stmt Stmt Part (run s) (stmts_in s b y)))
layer s b (Stmt-F.Declare p first n value) in_loop is within =
    let parts = and_parts _ _ is in at_own s b Plain p _ refl parts.0 (declared s b p first n value parts.1 within)
layer s b (Stmt-F.Expression p e) in_loop is within =
    let parts = and_parts _ _ is in
    at_own s b Plain p _ refl parts.0 (dropping_good s p.0 e b.ground (here_by s b p P.Dropped e [] parts.1 within))
layer s b (Stmt-F.If p c ys ns) in_loop is within =
    let parts = and_parts _ _ is in
    let head = and_parts _ _ parts.0 in
    let rest = and_parts _ _ parts.1 in
    let more = right s (at_point p (c ∷ [])) _ within in
    at_own s b Plain p _ refl head.0
    (conditional s b p c _ _ head.1 (left s (at_point p (c ∷ [])) _ within)
    (anywhere s.world (Some p.0) _ (subs s b in_loop ys rest.0 (left s (all_placed (map placed_in (trees s b ys))) _ more)))
    (anywhere s.world (Some p.0) _ (subs s b in_loop ns rest.1 (right s (all_placed (map placed_in (trees s b ys))) _ more))))
layer s b (Stmt-F.While p c bs) in_loop is within =
    let parts = and_parts _ _ is in
    let head = and_parts _ _ parts.0 in
    loop_good s.world None _
    (at_own s b AtLoop p _ refl head.0
    (conditional s b p c _ _ head.1 (left s (at_point p (c ∷ [])) _ within)
    (anywhere s.world (Some p.0) _ (subs s b true bs parts.1 (right s (at_point p (c ∷ [])) _ within)))
    (ends_good s.world (Some p.0) Breaks)))
layer s b (Stmt-F.DoWhile p bs c) in_loop is within =
    let parts = and_parts _ _ is in
    let head = and_parts _ _ parts.0 in
    loop_good s.world None _
    (at_own s b AtLoop p _ refl head.0
    (seq_good s.world (Some p.0) _ _
    (continuing_good s.world (Some p.0) _
    (anywhere s.world (Some p.0) _ (subs s b true bs parts.1 (right s (at_point p (c ∷ [])) _ within))))
    (conditional s b p c _ _ head.1 (left s (at_point p (c ∷ [])) _ within)
    (ends_good s.world (Some p.0) Next) (ends_good s.world (Some p.0) Breaks))))
layer s b (Stmt-F.For hs p c bs us) in_loop is within =
    let parts = and_parts _ _ is in
    let own = and_parts _ _ parts.0 in
    let rest = and_parts _ _ parts.1 in
    let last = and_parts _ _ rest.1 in
    let first = at_point p (exprs_if c) in
    let more = right s first _ within in
    let heads = all_placed (map placed_in (trees s b hs)) in
    let tail = right s heads _ more in
    let body = all_placed (map placed_in (trees s b bs)) in
    seq_good s.world None _ _
    (subs s b in_loop hs rest.0 (left s heads _ more))
    (loop_good s.world None _
    (at_own s b AtLoop p _ refl own.0
    (conditional_if s b p c _ _ own.1 (left s first _ within)
    (seq_good s.world (Some p.0) _ _
    (continuing_good s.world (Some p.0) _ (anywhere s.world (Some p.0) _ (subs s b true bs last.0 (left s body _ tail))))
    (anywhere s.world (Some p.0) _ (subs s b in_loop us last.1 (right s body _ tail))))
    (ends_good s.world (Some p.0) Breaks))))
layer s b (Stmt-F.Break p) in_loop is within =
    at_own s b Plain p _ refl (and_parts _ _ is).0 (ends_good s.world (Some p.0) Breaks)
layer s b (Stmt-F.Continue p) in_loop is within =
    at_own s b Plain p _ refl (and_parts _ _ is).0 (ends_good s.world (Some p.0) Continues)
layer s b (Stmt-F.Return p value) in_loop is within =
    let parts = and_parts _ _ is in at_own s b Plain p _ refl parts.0 (returned s b p value parts.1 within)
layer s b (Stmt-F.Empty p) in_loop is within = at_own s b Plain p _ refl is (ends_good s.world (Some p.0) Next)
layer s b (Stmt-F.Block ss) in_loop is within = subs s b in_loop ss is within
layer s b (Stmt-F.Note at) in_loop is within = ends_good s.world None Next
layer s b (Stmt-F.Clause p) in_loop is within = at_own s b AtNote p _ refl is (ends_good s.world (Some p.0) Next)

rolled : (s : Inside) (b : Body s) (x : Stmt-F Stmt) → ((in_loop : Bool) → fits_step (frame_in s b) (map-Stmt Stmt (Bool → Bool) (fits (frame_in s b)) x) in_loop ≡ true → Within s (placed_step (map-Stmt Stmt (List Placed) placed_in x)) → Good s.world None (run_step s (map-Stmt Stmt Part (run s) x))) → Claim s b (roll-Stmt x)
rolled s b x h in_loop is within =
    let fit = ap (λ (g : Bool → Bool). g in_loop) (sym (fold-roll-Stmt (Bool → Bool) (fits_step (frame_in s b)) x)) ∙ is in
    subst (λ (f : Part). Good s.world None f) (sym (fold-roll-Stmt Part (run_step s) x))
    (h in_loop fit (subst (λ (xs : List Placed). Within s xs) (fold-roll-Stmt (List Placed) placed_step x) within))

stmt_good : (s : Inside) (b : Body s) (x : Stmt) → Claim s b x
stmt_good s b =
    ind-Stmt (Claim s b) (λ x y is.
    rolled s b x (subst (λ (z : Stmt-F Stmt). (in_loop : Bool) → fits_step (frame_in s b) (map-Stmt Stmt (Bool → Bool) (fits (frame_in s b)) z) in_loop ≡ true → Within s (placed_step (map-Stmt Stmt (List Placed) placed_in z)) → Good s.world None (run_step s (map-Stmt Stmt Part (run s) z))) is (layer s b y)))

all_claims : (s : Inside) (b : Body s) (ss : List Stmt) → all_fit (map (fits (frame_in s b)) ss) false ≡ true → Within s (all_placed (map placed_in ss)) → AllGood s.world None (map (run s) ss)
all_claims s b [] is within = tt
all_claims s b (x ∷ ss) is within =
    let parts = and_parts _ _ is in
    (stmt_good s b x false parts.0 (left s (placed_in x) _ within), all_claims s b ss parts.1 (right s (placed_in x) _ within))

pub body_good : (s : Inside) (b : Body s) (ss : List Stmt) → stmts_fit (frame_in s b) false ss ≡ true → Within s (placed_in_all ss) → Good s.world None (run_all s ss)
unfolding stmts_fit
body_good s b ss is within = all_good s.world None _ (all_claims s b ss is within)
