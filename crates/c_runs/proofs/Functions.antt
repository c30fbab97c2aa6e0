-- Functions and whole runs keep the law of pieces.
use Rattle.std.proofs.Common.{◌≡◌, ◌<◌, ◌∙◌, ℕ, zero, suc, ◌+◌, ℤ, pos, Bool, true, false, List, [], ◌∷◌, ◌++◌, map, length, Option, Some, None, slice_get, refl, sym, ap, subst, inl, inr, negsuc, int_eq, arith}
use Rattle.std.proofs.Common.{if◌then◌else◌}
use Rattle.std.proofs.lemmas.Bool.{and_parts, eqb-true, true≢false}
use Rattle.std.proofs.lemmas.Cmp.{int_eq_equiv}
use Rattle.std.proofs.lemmas.Option.{slice_get_within}
use Rattle.c_ir.specs.Bodies.{Frame, AtEntry, AtExit, bears, is_own}
use Rattle.c_ir.specs.Formed.{on_some}
use Rattle.c_ir.specs.Table.{kind_admitted}
use Rattle.c_ir.specs.declared.kind.Kind.TheVariants as K
use Rattle.c_ir.specs.declared.tree.PointInfo.{PointInfo}
use Rattle.c_ir.specs.Keeps.{Keeps, frame_of, ty_at}
use Rattle.c_ir.specs.Programs.{Program}
use Rattle.c_ir.specs.declared.tree.Fun.{Fun}
use Rattle.c_ir.specs.declared.tree.Stmt.{Stmt}
use Rattle.c_rules.specs.Constants.{converted}
use Rattle.c_runs.specs.Visits.{Cells, Piece, Arrival}
use Rattle.c_runs.specs.Laws.{Fits, LastChecks, Joins, Chained, Runs, Admits}
use Rattle.c_runs.specs.Parts.{IsOf, Typed, Placed, placed_in_body, placed_in_all, placed_in_fns, Has}
use Rattle.c_runs.specs.Programs.{start_cells, free_cells, receiving_all, entry_number, is_lib_entry, inputs, whole, world_of, run_of}
use Rattle.c_runs.specs.Runs.{Ending, Next, Breaks, Continues, Returns, Stopped, Cut, Out, Part, ends, changes, after, admitting, goes_on, then_run, seq, all_run, taking}
use Rattle.c_runs.specs.Statements.{World, Inside, set, admitted, functions_of, owner_in, owner_at, point_visits, arrive, run_all, at_end, closing, is_main, receiving, answering, body, function, function_if, call_to, formals_in}
use Rattle.c_runs.proofs.Calls.{CallsGood, Ground}
use Rattle.c_runs.proofs.Cells.{set_typed, cell_is_own, zero_of, some_is, start_typed}
use Rattle.c_runs.proofs.Chains.{Fine, Good, ends_good, changes_good, then_fine, seq_good, closing_good, taking_good, arrive_fine}
use Rattle.c_runs.proofs.Statements.{Body, Within, own_clear, own_point, body_good}
use Rattle.c_runs.proofs.OperatorValues.{converted_is}
use Rattle.param_book.specs.Table.{entry_function}

-- ---- bodies

has_left : (xs ys : List Placed) (x : Placed) → Has xs x → Has (xs ++ ys) x
has_left [] ys x h = absurd h
has_left (z ∷ xs) ys x (inl is) = inl is
has_left (z ∷ xs) ys x (inr h) = inr (has_left xs ys x h)

has_right : (xs ys : List Placed) (x : Placed) → Has ys x → Has (xs ++ ys) x
has_right [] ys x h = h
has_right (z ∷ xs) ys x h = inr (has_right xs ys x h)

no_function : (g : ℕ) (f : Fun) → slice_get [] g ≡ Some f → ⊥
no_function zero f is = cc
no_function (suc g) f is = cc

-- the expressions of a function's body are the program's
placed_of : (fns : List Fun) (g : ℕ) (f : Fun) (x : Placed) → slice_get fns g ≡ Some f → Has (placed_in_body f.body) x → Has (placed_in_fns fns) x
placed_of [] g f x is h = absurd (no_function g f is)
placed_of (k ∷ fns) zero f x is h =
    has_left (placed_in_body k.body) (placed_in_fns fns) x (subst (λ (e : Fun). Has (placed_in_body e.body) x) (sym (some_is is)) h)
placed_of (k ∷ fns) (suc g) f x is h = has_right (placed_in_body k.body) (placed_in_fns fns) x (placed_of fns g f x is h)

at_end_good : (w : World) (main : Bool) (r : Option ℕ) → Good w None (at_end main r)
at_end_good w main None = ends_good w None Next
at_end_good w true (Some r) =
    changes_good w None (set r (Some (pos 0)))
    (λ c typed. set_typed w.program r (Some (pos 0)) (ty_at w.program.cells r) c (cell_is_own w.program r)
    (λ z is. subst (IsOf (ty_at w.program.cells r)) (some_is is) (zero_of (ty_at w.program.cells r))) typed)
at_end_good w false (Some r) = ends_good w None Stopped

-- a cell has a number of the input
received : (p : Program) (x : ℕ) (z : ℤ) (c : Cells) → Typed p c → Typed p (set x (Some (converted (ty_at p.cells x) z)) c)
received p x z c typed =
    set_typed p x (Some (converted (ty_at p.cells x) z)) (ty_at p.cells x) c (cell_is_own p x)
    (λ y is. subst (IsOf (ty_at p.cells x)) (some_is is) (converted_is (ty_at p.cells x) z)) typed

answering_good : (w : World) (r : Option ℕ) → Good w None (answering w.program r)
answering_good w None = ends_good w None Next
answering_good w (Some r) =
    taking_good w None _ (λ z. changes_good w None _ (λ c typed. received w.program r z c typed))

abbrev inside_of : World → (ℕ → Part) → Fun → Inside
inside_of w calls f = record { world = w; calls = calls; result = f.result }

made_good : (w : World) (calls : ℕ → Part) (g : ℕ) (f : Fun) (o : Option (List Stmt)) → Keeps w.program → CallsGood w calls → slice_get w.program.fns g ≡ Some f → f.body ≡ o → Good w None (body w calls f o)
made_good w calls g f None keeps good is has = answering_good w f.result
made_good w calls g f (Some ss) keeps good is has =
    let s = inside_of w calls f in
    let b : Body s = record { ground = record { keeps = keeps; calls = good }; number = g; function = f; result = refl } in
    closing_good w None (run_all s ss) (at_end (is_main f) f.result)
    (body_good s b ss (keeps.defined g f ss is has).typed
    (λ x h. placed_of w.program.fns g f x is (subst (λ (o : Option (List Stmt)). Has (placed_in_body o) x) (sym has) h)))
    (at_end_good w (is_main f) f.result)

-- ---- functions

exit_good : (w : World) (g : ℕ) (f : Fun) (entry : Cells) → Keeps w.program → slice_get w.program.fns g ≡ Some f → Good w None (arrive w f.exit.0 entry (ends Next))
exit_good w g f entry keeps is seen n c i under typed =
    arrive_fine w f.exit.0 entry (ends Next) seen n c i (own_point (frame_of w.program g f) AtExit f.exit (keeps.exit g f is))
    (inl (own_clear (frame_of w.program g f) AtExit f.exit refl (keeps.exit g f is))) typed (ends_good w (Some f.exit.0) Next)

rest_good : (w : World) (calls : ℕ → Part) (g : ℕ) (f : Fun) (entry : Cells) → Keeps w.program → CallsGood w calls → slice_get w.program.fns g ≡ Some f → Good w None (seq (body w calls f f.body) (arrive w f.exit.0 entry (ends Next)))
rest_good w calls g f entry keeps good is =
    seq_good w None (body w calls f f.body) (arrive w f.exit.0 entry (ends Next))
    (made_good w calls g f f.body keeps good is refl) (exit_good w g f entry keeps is)

called : (w : World) (calls : ℕ → Part) (g : ℕ) (f : Fun) (seen : List Piece) (n : ℕ) (c : Cells) (i : List ℤ) → Keeps w.program → CallsGood w calls → slice_get w.program.fns g ≡ Some f → LastChecks w f.entry.0 c seen → Typed w.program c → Fine w seen (function w calls f n c i)
called w calls g f seen n c i keeps good is last typed =
    let o = arrive w f.entry.0 c (ends Next) n c i in
    then_fine w None seen o.ending o (seq (body w calls f f.body) (arrive w f.exit.0 c (ends Next))) tt
    (arrive_fine w f.entry.0 c (ends Next) seen n c i (own_point (frame_of w.program g f) AtEntry f.entry (keeps.entry g f is)) (inr (last, refl)) typed (ends_good w (Some f.entry.0) Next))
    (rest_good w calls g f c keeps good is)

calls_good : (w : World) (depth : ℕ) → Keeps w.program → CallsGood w (call_to w depth)
calls_good w zero keeps = λ g f is seen n c i last typed. record { chain = tt; typed = typed }
calls_good w (suc depth) keeps = λ g f is seen n c i last typed.
    subst (λ (o : Option Fun). Fine w seen (function_if w (call_to w depth) o n c i)) (sym is)
    (called w (call_to w depth) g f seen n c i keeps (calls_good w depth keeps) is last typed)

-- ---- the first function

begun : (w : World) (q : ℕ) (entry : Cells) (b : Bool) (rest : Part) (n : ℕ) (c : Cells) (i : List ℤ) → q < length w.program.points → admitted w q entry c ≡ b → Typed w.program c → Good w None rest → Admits w q → Runs w (then_run (admitting b (Arrival q c (point_visits w.program q entry c)) (ends Next) n c i).ending (admitting b (Arrival q c (point_visits w.program q entry c)) (ends Next) n c i) rest).pieces
begun w q entry true rest n c i is_point is typed good allows =
    let piece = Arrival q c (point_visits w.program q entry c) in
    (record { is_point = is_point; typed = typed; entry = entry; admits = is; visits = refl }, (good (piece ∷ []) n c i tt typed).chain, allows)
begun w q entry false rest n c i is_point is typed good allows = tt

first_runs : (w : World) (calls : ℕ → Part) (g : ℕ) (f : Fun) (n : ℕ) (c : Cells) (i : List ℤ) → Keeps w.program → CallsGood w calls → slice_get w.program.fns g ≡ Some f → Typed w.program c → Admits w f.entry.0 → Runs w (function w calls f n c i).pieces
first_runs w calls g f zero c i keeps good is typed allows = tt
first_runs w calls g f (suc n) c i keeps good is typed allows =
    begun w f.entry.0 c (admitted w f.entry.0 c c) (seq (body w calls f f.body) (arrive w f.exit.0 c (ends Next))) n c i
    (own_point (frame_of w.program g f) AtEntry f.entry (keeps.entry g f is)) refl typed
    (rest_good w calls g f c keeps good is) allows

-- the preconditions of this function are admitted
abbrev Allows : World → ℕ → Type 0
Allows w g = (f : Fun) → slice_get w.program.fns g ≡ Some f → Admits w f.entry.0

by_function : (w : World) (depth g : ℕ) (o : Option Fun) (n : ℕ) (c : Cells) (i : List ℤ) → Keeps w.program → slice_get w.program.fns g ≡ o → Typed w.program c → Allows w g → Runs w (function_if w (call_to w depth) o n c i).pieces
by_function w depth g None n c i keeps is typed allows = tt
by_function w depth g (Some f) n c i keeps is typed allows =
    first_runs w (call_to w depth) g f n c i keeps (calls_good w depth keeps) is typed (allows f is)

entry_runs : (w : World) (depth g n : ℕ) (c : Cells) (i : List ℤ) → Keeps w.program → Typed w.program c → Allows w g → Runs w (call_to w depth g n c i).pieces
entry_runs w zero g n c i keeps typed allows = tt
entry_runs w (suc depth) g n c i keeps typed allows =
    by_function w depth g (slice_get w.program.fns g) n c i keeps refl typed allows

-- ---- inputs

-- a part without pieces
abbrev Quiet : Program → Part → Type 0
Quiet p f = (n : ℕ) (c : Cells) (i : List ℤ) → Typed p c → ((f n c i).pieces ≡ []) × Typed p (f n c i).cells

received_quiet : (p : Program) (x : ℕ) → Quiet p (receiving p x)
received_quiet p x n c [] typed = (refl, received p x (pos 0) c typed)
received_quiet p x n c (z ∷ zs) typed = (refl, received p x z c typed)

then_quiet : (p : Program) (e : Ending) (o : Out) (g : Part) → (o.pieces ≡ []) × Typed p o.cells → Quiet p g → ((then_run e o g).pieces ≡ []) × Typed p (then_run e o g).cells
then_quiet p Next o g h quiet =
    let rest = quiet o.left o.cells o.input h.1 in
    (ap (λ (xs : List Piece). xs ++ (g o.left o.cells o.input).pieces) h.0 ∙ rest.0, rest.1)
then_quiet p Breaks o g h quiet = (h.0, h.1)
then_quiet p Continues o g h quiet = (h.0, h.1)
then_quiet p Returns o g h quiet = (h.0, h.1)
then_quiet p Stopped o g h quiet = (h.0, h.1)
then_quiet p Cut o g h quiet = (h.0, h.1)

all_quiet : (p : Program) (xs : List ℕ) → Quiet p (receiving_all p xs)
all_quiet p [] n c i typed = (refl, typed)
all_quiet p (x ∷ xs) n c i typed =
    then_quiet p _ (receiving p x n c i) (receiving_all p xs) (received_quiet p x n c i typed) (all_quiet p xs)

inputs_quiet : (p : Program) (lib : Bool) (g : ℕ) → Quiet p (inputs p lib g)
inputs_quiet p lib g n c i typed =
    then_quiet p _ (receiving_all p (if lib then free_cells 0 p.cells else []) n c i) (receiving_all p (formals_in (slice_get p.fns g)))
    (all_quiet p (if lib then free_cells 0 p.cells else []) n c i typed) (all_quiet p (formals_in (slice_get p.fns g)))

after_quiet : (w : World) (e : Ending) (o : Out) (g : Part) → (o.pieces ≡ []) × Typed w.program o.cells → ((n : ℕ) (c : Cells) (i : List ℤ) → Typed w.program c → Runs w (g n c i).pieces) → Runs w (then_run e o g).pieces
after_quiet w Next o g h runs =
    subst (λ (xs : List Piece). Runs w (xs ++ (g o.left o.cells o.input).pieces)) (sym h.0) (runs o.left o.cells o.input h.1)
after_quiet w Breaks o g h runs = subst (Runs w) (sym h.0) tt
after_quiet w Continues o g h runs = subst (Runs w) (sym h.0) tt
after_quiet w Returns o g h runs = subst (Runs w) (sym h.0) tt
after_quiet w Stopped o g h runs = subst (Runs w) (sym h.0) tt
after_quiet w Cut o g h runs = subst (Runs w) (sym h.0) tt

pub whole_runs : (w : World) (lib : Bool) (g n : ℕ) (c : Cells) (i : List ℤ) → Keeps w.program → Typed w.program c → Allows w g → Runs w (whole w lib g n c i).pieces
whole_runs w lib g n c i keeps typed allows =
    let o = inputs w.program lib g n c i in
    after_quiet w o.ending o (call_to w (length w.program.fns) g) (inputs_quiet w.program lib g n c i typed)
    (λ m d j at. entry_runs w (length w.program.fns) g m d j keeps at allows)

-- ---- the entry function

owner_if : (f : Frame) (o : Option PointInfo) → on_some (bears f AtEntry) o ≡ true → owner_in o ≡ f.function
owner_if f None is = absurd (true≢false (sym is))
owner_if f (Some info) is = eqb-true info.owner.0 f.function (and_parts _ _ is).0

-- the owner of a function's entry
entry_owner : (p : Program) (g : ℕ) (f : Fun) → Keeps p → slice_get p.fns g ≡ Some f → owner_at p f.entry.0 ≡ g
unfolding is_own
entry_owner p g f keeps is = owner_if (frame_of p g f) (slice_get p.points f.entry.0) (keeps.entry g f is)

allowed : (p : Program) (z : ℤ) (f : Fun) → Keeps p → slice_get p.fns (entry_number p z) ≡ Some f
    → kind_admitted (functions_of p) z (owner_at p f.entry.0) K.Requires ≡ true
allowed p (pos g) f keeps is =
    subst (λ (n : ℕ). int_eq (pos n) (pos g) ≡ true) (sym (entry_owner p g f keeps is)) (int_eq_equiv.refl (pos g))
allowed p (negsuc g) f keeps is =
    let less = slice_get_within p.fns (length p.fns) f is in
    absurd (omega (arith, less))

pub chained : (p : Program) → Keeps p → (values input : List ℤ) (n : ℕ) → Runs (world_of p values) (run_of p values input n)
unfolding run_of
chained p keeps values input n =
    whole_runs (world_of p values) (is_lib_entry values) (entry_number p (entry_function values)) n (start_cells p) input keeps (start_typed p keeps)
    (λ f is. allowed p (entry_function values) f keeps is)
