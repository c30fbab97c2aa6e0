-- A run with fewer arrivals is a prefix of one with more.
use Rattle.std.proofs.Common.{◌≡◌, ◌∙◌, ℕ, zero, suc, ◌+◌, ◌≤◌, ◌++◌, ℤ, pos, Bool, true, false, List, [], ◌∷◌, length, map, slice_get, append_assoc, Option, Some, None, refl, sym, ap, subst, le_of_suc-le-suc, not-suc-le-zero}
use Rattle.std.specs.Prelude.{if◌then◌else◌}
use Rattle.fc_base.specs.declared.ids.PointId.{PointId}
use Rattle.param_book.specs.Table.{entry_function}
use Rattle.c_ir.specs.Bodies.{cell_count}
use Rattle.c_ir.specs.Keeps.{ty_at}
use Rattle.c_ir.specs.Programs.{Program}
use Rattle.c_ir.specs.declared.tree.Expr.{Expr}
use Rattle.c_ir.specs.declared.tree.Fun.{Fun}
use Rattle.c_ir.specs.declared.tree.Init.{Init}
use Rattle.c_ir.specs.declared.tree.Init.TheVariants as I
use Rattle.c_ir.specs.declared.tree.Stmt.{Stmt, map-Stmt}
use Rattle.c_ir.specs.declared.tree.Stmt.TheFolds.{fold-roll-Stmt, ind-Stmt}
use Rattle.c_ir.specs.declared.tree.Stmt.TheOpen.{Stmt-F}
use Rattle.c_rules.specs.Constants.{converted, is_zero}
use Rattle.c_runs.specs.Visits.{Cells, Visit, Piece, Arrival, Between}
use Rattle.c_runs.specs.Evaluation.{Evaluation, Calling, Assigning}
use Rattle.c_runs.specs.Runs.{Ending, Next, Breaks, Continues, Returns, Stopped, Cut, Out, Part, ends, changes, after, ended, admitting, arriving, goes_on, then_run, seq, all_run, between, with_value, evaluated, choose, branch, taking, again, turns, loop, continued, continuing}
use Rattle.c_runs.specs.Statements.{World, Inside, set, set_all, written, admitted, point_visits, arrive, at, store, preconditions, entry_clauses, formals_in, leaving, calling, entering, with_args, giving, statement, meaning_in, dropping, giving_to, filling, declaring, condition, condition_if, returning, run_step, run, run_all, at_end, closed, closing, is_main, receiving, answering, body, function, function_if, call_to}
use Rattle.c_runs.specs.Programs.{start_cells, free_cells, receiving_all, entry_number, is_lib_entry, inputs, whole, world_of, run_of}
use Rattle.c_runs.specs.Laws.{FewerArePrefix}

abbrev Begins : List Piece → List Piece → Type 0
Begins xs ys = (more : List Piece) × (xs ++ more ≡ ys)

abbrev same_but : Ending → Out → ℕ → Out
same_but e o left = record { pieces = o.pieces; cells = o.cells; input = o.input; left = left; ending = e }

abbrev LessAt : Ending → Out → Out → Type 0
LessAt Next o p = (left : ℕ) × (o.left ≤ left) × (p ≡ same_but Next o left)
LessAt Breaks o p = (left : ℕ) × (o.left ≤ left) × (p ≡ same_but Breaks o left)
LessAt Continues o p = (left : ℕ) × (o.left ≤ left) × (p ≡ same_but Continues o left)
LessAt Returns o p = (left : ℕ) × (o.left ≤ left) × (p ≡ same_but Returns o left)
LessAt Stopped o p = (left : ℕ) × (o.left ≤ left) × (p ≡ same_but Stopped o left)
LessAt Cut o p = Begins o.pieces p.pieces

-- the same with as many arrivals left or more, or cut off earlier
abbrev Less : Out → Out → Type 0
Less o p = LessAt o.ending o p

-- whatever the numbers of arrivals, the first part with fewer of them leaves less
abbrev Mono : Part → Part → Type 0
Mono f g = (n k : ℕ) (c : Cells) (i : List ℤ) → n ≤ k → Less (f n c i) (g k c i)

abbrev Steady : Part → Type 0
Steady f = Mono f f

-- ---- pieces before others

begins_front : (ps xs ys : List Piece) → Begins xs ys → Begins (ps ++ xs) (ps ++ ys)
begins_front ps xs ys h = (h.0, append_assoc ps xs h.0 ∙ ap (λ zs. ps ++ zs) h.1)

begins_more : (xs ys zs : List Piece) → Begins xs ys → Begins xs (ys ++ zs)
begins_more xs ys zs h = (h.0 ++ zs, sym (append_assoc xs h.0 zs) ∙ ap (λ ws. ws ++ zs) h.1)

after_less : (ps : List Piece) (e : Ending) (o p : Out) → LessAt e o p → LessAt e (after ps o) (after ps p)
after_less ps Next o p h = (h.0, h.1, ap (after ps) h.2)
after_less ps Breaks o p h = (h.0, h.1, ap (after ps) h.2)
after_less ps Continues o p h = (h.0, h.1, ap (after ps) h.2)
after_less ps Returns o p h = (h.0, h.1, ap (after ps) h.2)
after_less ps Stopped o p h = (h.0, h.1, ap (after ps) h.2)
after_less ps Cut o p h = begins_front ps o.pieces p.pieces h

-- ---- one after another

begins_then : (e : Ending) (xs : List Piece) (p : Out) (g : Part) → Begins xs p.pieces
    → Begins xs (then_run e p g).pieces
begins_then Next xs p g h = begins_more xs p.pieces (g p.left p.cells p.input).pieces h
begins_then Breaks xs p g h = h
begins_then Continues xs p g h = h
begins_then Returns xs p g h = h
begins_then Stopped xs p g h = h
begins_then Cut xs p g h = h

then_less : (e : Ending) (o p : Out) (g : Part) → Steady g → LessAt e o p
    → Less (then_run e o g) (then_run p.ending p g)
then_less Next o p g m h =
    let x = g o.left o.cells o.input in
    subst (λ (q : Out). Less (goes_on o g) (then_run q.ending q g)) (sym h.2)
    (after_less o.pieces x.ending x (g h.0 o.cells o.input) (m o.left h.0 o.cells o.input h.1))
then_less Breaks o p g m h =
    subst (λ (q : Out). Less (ended Breaks o) (then_run q.ending q g)) (sym h.2) (h.0, h.1, refl)
then_less Continues o p g m h =
    subst (λ (q : Out). Less (ended Continues o) (then_run q.ending q g)) (sym h.2) (h.0, h.1, refl)
then_less Returns o p g m h =
    subst (λ (q : Out). Less (ended Returns o) (then_run q.ending q g)) (sym h.2) (h.0, h.1, refl)
then_less Stopped o p g m h =
    subst (λ (q : Out). Less (ended Stopped o) (then_run q.ending q g)) (sym h.2) (h.0, h.1, refl)
then_less Cut o p g m h = begins_then p.ending o.pieces p g h

begins_again : (e : Ending) (xs : List Piece) (p : Out) (g : Part) → Begins xs p.pieces
    → Begins xs (again e p g).pieces
begins_again Next xs p g h = begins_more xs p.pieces (g p.left p.cells p.input).pieces h
begins_again Continues xs p g h = begins_more xs p.pieces (g p.left p.cells p.input).pieces h
begins_again Breaks xs p g h = h
begins_again Returns xs p g h = h
begins_again Stopped xs p g h = h
begins_again Cut xs p g h = h

again_less : (e : Ending) (o p : Out) (f g : Part) → Mono f g → LessAt e o p
    → Less (again e o f) (again p.ending p g)
again_less Next o p f g m h =
    let x = f o.left o.cells o.input in
    subst (λ (q : Out). Less (goes_on o f) (again q.ending q g)) (sym h.2)
    (after_less o.pieces x.ending x (g h.0 o.cells o.input) (m o.left h.0 o.cells o.input h.1))
again_less Continues o p f g m h =
    let x = f o.left o.cells o.input in
    subst (λ (q : Out). Less (goes_on o f) (again q.ending q g)) (sym h.2)
    (after_less o.pieces x.ending x (g h.0 o.cells o.input) (m o.left h.0 o.cells o.input h.1))
again_less Breaks o p f g m h =
    subst (λ (q : Out). Less (ended Next o) (again q.ending q g)) (sym h.2) (h.0, h.1, refl)
again_less Returns o p f g m h =
    subst (λ (q : Out). Less (ended Returns o) (again q.ending q g)) (sym h.2) (h.0, h.1, refl)
again_less Stopped o p f g m h =
    subst (λ (q : Out). Less (ended Stopped o) (again q.ending q g)) (sym h.2) (h.0, h.1, refl)
again_less Cut o p f g m h = begins_again p.ending o.pieces p g h

begins_closed : (e : Ending) (xs : List Piece) (p : Out) (g : Part) → Begins xs p.pieces
    → Begins xs (closed e p g).pieces
begins_closed Next xs p g h = begins_more xs p.pieces (g p.left p.cells p.input).pieces h
begins_closed Breaks xs p g h = h
begins_closed Continues xs p g h = h
begins_closed Returns xs p g h = h
begins_closed Stopped xs p g h = h
begins_closed Cut xs p g h = h

closed_less : (e : Ending) (o p : Out) (g : Part) → Steady g → LessAt e o p
    → Less (closed e o g) (closed p.ending p g)
closed_less Next o p g m h =
    let x = g o.left o.cells o.input in
    subst (λ (q : Out). Less (goes_on o g) (closed q.ending q g)) (sym h.2)
    (after_less o.pieces x.ending x (g h.0 o.cells o.input) (m o.left h.0 o.cells o.input h.1))
closed_less Breaks o p g m h =
    subst (λ (q : Out). Less (ended Stopped o) (closed q.ending q g)) (sym h.2) (h.0, h.1, refl)
closed_less Continues o p g m h =
    subst (λ (q : Out). Less (ended Stopped o) (closed q.ending q g)) (sym h.2) (h.0, h.1, refl)
closed_less Returns o p g m h =
    subst (λ (q : Out). Less (ended Next o) (closed q.ending q g)) (sym h.2) (h.0, h.1, refl)
closed_less Stopped o p g m h =
    subst (λ (q : Out). Less (ended Stopped o) (closed q.ending q g)) (sym h.2) (h.0, h.1, refl)
closed_less Cut o p g m h = begins_closed p.ending o.pieces p g h

continued_less : (e : Ending) (o p : Out) → LessAt e o p
    → Less (ended (continued e) o) (ended (continued p.ending) p)
continued_less Next o p h =
    subst (λ (q : Out). Less (ended Next o) (ended (continued q.ending) q)) (sym h.2) (h.0, h.1, refl)
continued_less Breaks o p h =
    subst (λ (q : Out). Less (ended Breaks o) (ended (continued q.ending) q)) (sym h.2) (h.0, h.1, refl)
continued_less Continues o p h =
    subst (λ (q : Out). Less (ended Next o) (ended (continued q.ending) q)) (sym h.2) (h.0, h.1, refl)
continued_less Returns o p h =
    subst (λ (q : Out). Less (ended Returns o) (ended (continued q.ending) q)) (sym h.2) (h.0, h.1, refl)
continued_less Stopped o p h =
    subst (λ (q : Out). Less (ended Stopped o) (ended (continued q.ending) q)) (sym h.2) (h.0, h.1, refl)
continued_less Cut o p h = h

-- ---- combinators

ends_steady : (e : Ending) → Steady (ends e)
ends_steady Next n k c i h = (k, h, refl)
ends_steady Breaks n k c i h = (k, h, refl)
ends_steady Continues n k c i h = (k, h, refl)
ends_steady Returns n k c i h = (k, h, refl)
ends_steady Stopped n k c i h = (k, h, refl)
ends_steady Cut n k c i h = ([], refl)

changes_steady : (f : Cells → Cells) → Steady (changes f)
changes_steady f n k c i h = (k, h, refl)

admitting_less : (b : Bool) (p : Piece) (f : Part) → Steady f → Steady (admitting b p f)
admitting_less true p f m n k c i h =
    let o = f n c i in after_less (p ∷ []) o.ending o (f k c i) (m n k c i h)
admitting_less false p f m n k c i h = (k, h, refl)

-- where no arrival is left, the run of the smaller number is cut
arriving_steady : (q : ℕ) (is : Cells → Bool) (visits : Cells → List Visit) (f : Part) → Steady f
    → Steady (arriving q is visits f)
arriving_steady q is visits f m zero k c i h = ((arriving q is visits f k c i).pieces, refl)
arriving_steady q is visits f m (suc n) zero c i h = absurd (not-suc-le-zero h)
arriving_steady q is visits f m (suc n) (suc k) c i h =
    admitting_less (is c) (Arrival q c (visits c)) f m n k c i (le_of_suc-le-suc h)

arrive_steady : (w : World) (q : ℕ) (entry : Cells) (f : Part) → Steady f → Steady (arrive w q entry f)
arrive_steady w q entry f m = arriving_steady q (admitted w q entry) (point_visits w.program q entry) f m

seq_steady : (f g : Part) → Steady f → Steady g → Steady (seq f g)
seq_steady f g mf mg n k c i h = then_less (f n c i).ending (f n c i) (f k c i) g mg (mf n k c i h)

abbrev AllSteady : List Part → Type 0
AllSteady [] = Unit {0}
AllSteady (f ∷ fs) = Steady f × AllSteady fs

all_steady : (fs : List Part) → AllSteady fs → Steady (all_run fs)
all_steady [] m = ends_steady Next
all_steady (f ∷ fs) m = seq_steady f (all_run fs) m.0 (all_steady fs m.1)

between_steady : (q : ℕ) (visits : List Visit) (f : Part) → Steady f → Steady (between q visits f)
between_steady q visits f m n k c i h =
    let o = f n c i in after_less (Between q visits ∷ []) o.ending o (f k c i) (m n k c i h)

value_steady : {A : Type 0} (v : Option A) (f : A → Part) → ((a : A) → Steady (f a))
    → Steady (with_value v f)
value_steady None f m = ends_steady Stopped
value_steady (Some a) f m = m a

evaluated_steady : {A : Type 0} (q : ℕ) (e : Evaluation A) (f : A → Part) → ((a : A) → Steady (f a))
    → Steady (evaluated q e f)
evaluated_steady q e f m n k c i h =
    between_steady q (e c).visits (with_value (e c).value f) (value_steady (e c).value f m) n k c i h

choose_steady : (b : Bool) (f g : Part) → Steady f → Steady g → Steady (choose b f g)
choose_steady true f g mf mg = mg
choose_steady false f g mf mg = mf

branch_steady : (q : ℕ) (e : Evaluation ℤ) (f g : Part) → Steady f → Steady g → Steady (branch q e f g)
branch_steady q e f g mf mg =
    evaluated_steady q e (λ z. choose (is_zero z) f g) (λ z. choose_steady (is_zero z) f g mf mg)

taking_steady : (f : ℤ → Part) → ((z : ℤ) → Steady (f z)) → Steady (taking f)
taking_steady f m n k c [] h = m (pos 0) n k c [] h
taking_steady f m n k c (z ∷ zs) h = m z n k c zs h

-- a loop makes as many turns as arrivals are left, so the numbers of turns differ too
turns_mono : (f : Part) → Steady f → (t u : ℕ) → t ≤ u → Mono (turns t f) (turns u f)
turns_mono f m zero u le n k c i h = ((turns u f k c i).pieces, refl)
turns_mono f m (suc t) zero le n k c i h = absurd (not-suc-le-zero le)
turns_mono f m (suc t) (suc u) le n k c i h =
    again_less (f n c i).ending (f n c i) (f k c i) (turns t f) (turns u f)
    (turns_mono f m t u (le_of_suc-le-suc le)) (m n k c i h)

loop_steady : (f : Part) → Steady f → Steady (loop f)
loop_steady f m n k c i h = turns_mono f m n k h n k c i h

continuing_steady : (f : Part) → Steady f → Steady (continuing f)
continuing_steady f m n k c i h = continued_less (f n c i).ending (f n c i) (f k c i) (m n k c i h)

closing_steady : (f g : Part) → Steady f → Steady g → Steady (closing f g)
closing_steady f g mf mg n k c i h = closed_less (f n c i).ending (f n c i) (f k c i) g mg (mf n k c i h)

-- ---- calls

at_steady : (w : World) (p : PointId) (f : Part) → Steady f → Steady (at w p f)
at_steady w p f m n k c i h = arrive_steady w p.0 c f m n k c i h

args_steady : (q : ℕ) (es : List (Evaluation ℤ)) (f : List ℤ → Part) → ((zs : List ℤ) → Steady (f zs))
    → Steady (with_args q es f)
args_steady q [] f m = m []
args_steady q (e ∷ es) f m =
    evaluated_steady q e (λ z. with_args q es (λ zs. f (z ∷ zs)))
    (λ z. args_steady q es (λ zs. f (z ∷ zs)) (λ zs. m (z ∷ zs)))

abbrev CallsSteady : Inside → Type 0
CallsSteady s = (g : ℕ) → Steady (s.calls g)

calling_steady : (s : Inside) → CallsSteady s → (q g : ℕ) (convert : ℤ → ℤ) (to : Option ℕ)
    → Steady (calling s q g convert to)
calling_steady s calls q g convert to n k c i h =
    let left = leaving s.world.program g convert to in
    between_steady q (preconditions q 0 c (entry_clauses s.world.program (slice_get s.world.program.fns g)))
    (seq (s.calls g) left)
    (seq_steady (s.calls g) left (calls g) (λ n k c i h. (k, h, refl))) n k c i h

entering_steady : (s : Inside) → CallsSteady s → (q : ℕ) (call : Calling) (to : Option ℕ) (zs : List ℤ)
    → Steady (entering s q call to zs)
entering_steady s calls q call to zs n k c i h =
    calling_steady s calls q call.function call.convert to n k
    (written (formals_in (slice_get s.world.program.fns call.function)) zs c) i h

-- ---- expressions and declarations

giving_steady : (s : Inside) → CallsSteady s
    → (q : ℕ) (value : Evaluation ℤ) (call : Option Calling) (to : Option ℕ)
    → Steady (giving s q value call to)
giving_steady s calls q value None to =
    evaluated_steady q value (λ z. changes (store to (Some z))) (λ z. changes_steady (store to (Some z)))
giving_steady s calls q value (Some k) to =
    args_steady q k.args (entering s q k to) (entering_steady s calls q k to)

statement_steady : (s : Inside) → CallsSteady s
    → (q : ℕ) (value : Evaluation ℤ) (call : Option Calling) (assign : Option Assigning)
    → Steady (statement s q value call assign)
statement_steady s calls q value call None = giving_steady s calls q value call None
statement_steady s calls q value call (Some a) =
    evaluated_steady q a.target (λ x. giving s q a.value a.call (Some x))
    (λ x. giving_steady s calls q a.value a.call (Some x))

to_steady : (s : Inside) → CallsSteady s → (q : ℕ) (to : Option ℕ) (e : Expr) → Steady (giving_to s q to e)
to_steady s calls q to e = giving_steady s calls q (meaning_in s e).value (meaning_in s e).call to

filling_steady : (s : Inside) → CallsSteady s → (q x left : ℕ) (es : List Expr)
    → Steady (filling s q x left es)
filling_steady s calls q x left [] = changes_steady (set_all x left (Some (pos 0)))
filling_steady s calls q x zero (e ∷ es) = ends_steady Next
filling_steady s calls q x (suc left) (e ∷ es) =
    seq_steady (giving_to s q (Some x) e) (filling s q (x + 1) left es) (to_steady s calls q (Some x) e)
    (filling_steady s calls q (x + 1) left es)

declaring_steady : (s : Inside) → CallsSteady s → (q first n : ℕ) (value : Init)
    → Steady (declaring s q first n value)
declaring_steady s calls q first n I.Nothing = changes_steady (set_all first n None)
declaring_steady s calls q first n (I.One e) = to_steady s calls q (Some first) e
declaring_steady s calls q first n (I.Many es) = filling_steady s calls q first n es

-- ---- statements

condition_steady : (s : Inside) (q : ℕ) (e : Expr) (f g : Part) → Steady f → Steady g
    → Steady (condition s q e f g)
condition_steady s q e f g mf mg = branch_steady q (meaning_in s e).value f g mf mg

if_steady : (s : Inside) (q : ℕ) (e : Option Expr) (f g : Part) → Steady f → Steady g
    → Steady (condition_if s q e f g)
if_steady s q None f g mf mg = mf
if_steady s q (Some e) f g mf mg = condition_steady s q e f g mf mg

returning_steady : (s : Inside) → CallsSteady s → (q : ℕ) (value : Option Expr)
    → Steady (returning s q value)
returning_steady s calls q None = ends_steady Returns
returning_steady s calls q (Some e) =
    seq_steady (giving_to s q s.result e) (ends Returns) (to_steady s calls q s.result e)
    (ends_steady Returns)

abbrev With : Inside → Type 0
With s = (st : Stmt) × Steady (run s st)

abbrev stmts : (s : Inside) → List (With s) → List Stmt
stmts s es = map (λ (e : With s). e.0) es

abbrev parts : (s : Inside) → Stmt-F (With s) → Stmt-F Part
parts s y = map-Stmt Stmt Part (run s) (map-Stmt (With s) Stmt (λ e. e.0) y)

each_steady : (s : Inside) (es : List (With s)) → AllSteady (map (run s) (stmts s es))
each_steady s [] = tt
each_steady s (e ∷ es) = (e.1, each_steady s es)

list_steady : (s : Inside) (es : List (With s)) → Steady (run_all s (stmts s es))
list_steady s es = all_steady (map (run s) (stmts s es)) (each_steady s es)

layer : (s : Inside) → CallsSteady s → (y : Stmt-F (With s)) → Steady (run_step s (parts s y))
layer s calls (Stmt-F.Declare p first n value) =
    at_steady s.world p (declaring s p.0 first (cell_count n) value)
    (declaring_steady s calls p.0 first (cell_count n) value)
layer s calls (Stmt-F.Expression p e) =
    let m = meaning_in s e in
    at_steady s.world p (dropping s p.0 e) (statement_steady s calls p.0 m.value m.call m.assign)
layer s calls (Stmt-F.If p c ys ns) =
    let yes = run_all s (stmts s ys) in
    let no = run_all s (stmts s ns) in
    at_steady s.world p (condition s p.0 c yes no)
    (condition_steady s p.0 c yes no (list_steady s ys) (list_steady s ns))
layer s calls (Stmt-F.While p c bs) =
    let turn = condition s p.0 c (run_all s (stmts s bs)) (ends Breaks) in
    loop_steady (at s.world p turn) (at_steady s.world p turn
    (condition_steady s p.0 c (run_all s (stmts s bs)) (ends Breaks) (list_steady s bs) (ends_steady Breaks)))
layer s calls (Stmt-F.DoWhile p bs c) =
    let inner = continuing (run_all s (stmts s bs)) in
    let test = condition s p.0 c (ends Next) (ends Breaks) in
    loop_steady (at s.world p (seq inner test)) (at_steady s.world p (seq inner test)
    (seq_steady inner test (continuing_steady (run_all s (stmts s bs)) (list_steady s bs))
    (condition_steady s p.0 c (ends Next) (ends Breaks) (ends_steady Next) (ends_steady Breaks))))
layer s calls (Stmt-F.For hs p c bs us) =
    let inner = continuing (run_all s (stmts s bs)) in
    let last = run_all s (stmts s us) in
    let turn = condition_if s p.0 c (seq inner last) (ends Breaks) in
    seq_steady (run_all s (stmts s hs)) (loop (at s.world p turn)) (list_steady s hs)
    (loop_steady (at s.world p turn) (at_steady s.world p turn
    (if_steady s p.0 c (seq inner last) (ends Breaks)
    (seq_steady inner last (continuing_steady (run_all s (stmts s bs)) (list_steady s bs)) (list_steady s us))
    (ends_steady Breaks))))
layer s calls (Stmt-F.Break p) = at_steady s.world p (ends Breaks) (ends_steady Breaks)
layer s calls (Stmt-F.Continue p) = at_steady s.world p (ends Continues) (ends_steady Continues)
layer s calls (Stmt-F.Return p value) =
    at_steady s.world p (returning s p.0 value) (returning_steady s calls p.0 value)
layer s calls (Stmt-F.Empty p) = at_steady s.world p (ends Next) (ends_steady Next)
layer s calls (Stmt-F.Block ss) = list_steady s ss
layer s calls (Stmt-F.Note note) = ends_steady Next
layer s calls (Stmt-F.Clause p) = at_steady s.world p (ends Next) (ends_steady Next)

stmt_steady : (s : Inside) → CallsSteady s → (st : Stmt) → Steady (run s st)
stmt_steady s calls =
    ind-Stmt (λ (st : Stmt). Steady (run s st)) (λ x y is.
    subst Steady (sym (fold-roll-Stmt Part (run_step s) x))
    (subst (λ (z : Stmt-F Stmt). Steady (run_step s (map-Stmt Stmt Part (run s) z))) is (layer s calls y)))

every_steady : (s : Inside) → CallsSteady s → (ss : List Stmt) → AllSteady (map (run s) ss)
every_steady s calls [] = tt
every_steady s calls (st ∷ ss) = (stmt_steady s calls st, every_steady s calls ss)

-- ---- functions

end_steady : (main : Bool) (result : Option ℕ) → Steady (at_end main result)
end_steady main None = ends_steady Next
end_steady true (Some r) = changes_steady (set r (Some (pos 0)))
end_steady false (Some r) = ends_steady Stopped

receiving_steady : (p : Program) (x : ℕ) → Steady (receiving p x)
receiving_steady p x =
    taking_steady (λ z. changes (set x (Some (converted (ty_at p.cells x) z))))
    (λ z. changes_steady (set x (Some (converted (ty_at p.cells x) z))))

answering_steady : (p : Program) (result : Option ℕ) → Steady (answering p result)
answering_steady p None = ends_steady Next
answering_steady p (Some r) = receiving_steady p r

body_steady : (w : World) (calls : ℕ → Part) → ((g : ℕ) → Steady (calls g))
    → (f : Fun) (o : Option (List Stmt)) → Steady (body w calls f o)
body_steady w calls m f None = answering_steady w.program f.result
body_steady w calls m f (Some ss) =
    let s : Inside = record { world = w; calls = calls; result = f.result } in
    let last = at_end (is_main f) f.result in
    closing_steady (run_all s ss) last (all_steady (map (run s) ss) (every_steady s m ss))
    (end_steady (is_main f) f.result)

function_steady : (w : World) (calls : ℕ → Part) → ((g : ℕ) → Steady (calls g)) → (f : Fun)
    → Steady (function w calls f)
function_steady w calls m f n k c i h =
    let first = arrive w f.entry.0 c (ends Next) in
    let mid = body w calls f f.body in
    let last = arrive w f.exit.0 c (ends Next) in
    seq_steady first (seq mid last) (arrive_steady w f.entry.0 c (ends Next) (ends_steady Next))
    (seq_steady mid last (body_steady w calls m f f.body)
    (arrive_steady w f.exit.0 c (ends Next) (ends_steady Next))) n k c i h

function_if_steady : (w : World) (calls : ℕ → Part) → ((g : ℕ) → Steady (calls g)) → (o : Option Fun)
    → Steady (function_if w calls o)
function_if_steady w calls m None = ends_steady Stopped
function_if_steady w calls m (Some f) = function_steady w calls m f

call_steady : (w : World) (depth g : ℕ) → Steady (call_to w depth g)
call_steady w zero g = ends_steady Cut
call_steady w (suc depth) g =
    function_if_steady w (call_to w depth) (call_steady w depth) (slice_get w.program.fns g)

-- ---- programs

each_receives : (p : Program) (xs : List ℕ) → AllSteady (map (receiving p) xs)
each_receives p [] = tt
each_receives p (x ∷ xs) = (receiving_steady p x, each_receives p xs)

receiving_all_steady : (p : Program) (xs : List ℕ) → Steady (receiving_all p xs)
receiving_all_steady p xs = all_steady (map (receiving p) xs) (each_receives p xs)

-- the numbers that a run takes from the input before it begins
inputs_steady : (p : Program) (lib : Bool) (g : ℕ) → Steady (inputs p lib g)
inputs_steady p lib g =
    let free = if lib then free_cells 0 p.cells else [] in
    let formals = formals_in (slice_get p.fns g) in
    seq_steady (receiving_all p free) (receiving_all p formals)
    (receiving_all_steady p free) (receiving_all_steady p formals)

whole_steady : (w : World) (lib : Bool) (g : ℕ) → Steady (whole w lib g)
whole_steady w lib g =
    let depth = length w.program.fns in
    seq_steady (inputs w.program lib g) (call_to w depth g)
    (inputs_steady w.program lib g) (call_steady w depth g)

append_none : (xs : List Piece) → xs ++ [] ≡ xs
append_none [] = refl
append_none (x ∷ xs) = ap (λ ys. x ∷ ys) (append_none xs)

same_begins : (xs ys : List Piece) → ys ≡ xs → Begins xs ys
same_begins xs ys h = ([], append_none xs ∙ sym h)

less_begins : (e : Ending) (o p : Out) → LessAt e o p → Begins o.pieces p.pieces
less_begins Next o p h = same_begins o.pieces p.pieces (ap (λ (q : Out). q.pieces) h.2)
less_begins Breaks o p h = same_begins o.pieces p.pieces (ap (λ (q : Out). q.pieces) h.2)
less_begins Continues o p h = same_begins o.pieces p.pieces (ap (λ (q : Out). q.pieces) h.2)
less_begins Returns o p h = same_begins o.pieces p.pieces (ap (λ (q : Out). q.pieces) h.2)
less_begins Stopped o p h = same_begins o.pieces p.pieces (ap (λ (q : Out). q.pieces) h.2)
less_begins Cut o p h = h

pub fewer : FewerArePrefix
unfolding run_of
fewer p values input m n h =
    let w = world_of p values in
    let lib = is_lib_entry values in
    let g = entry_number p (entry_function values) in
    let c = start_cells p in
    let o = whole w lib g m c input in
    less_begins o.ending o (whole w lib g n c input) (whole_steady w lib g m n c input h)
