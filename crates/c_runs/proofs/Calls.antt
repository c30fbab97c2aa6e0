-- Calls and values: what a statement evaluates at its point keeps the law of pieces.
use Rattle.std.proofs.Common.{◌≡◌, ◌∙◌, ℕ, zero, suc, ◌+◌, ℤ, pos, Bool, true, false, ◌&&◌, List, [], ◌∷◌, map, Option, Some, None, slice_get, refl, sym, ap, subst, inl, inr}
use Rattle.std.proofs.lemmas.Bool.{and_parts}
use Rattle.c_ir.specs.Formed.{form}
use Rattle.c_ir.specs.Keeps.{Keeps, layout_of, ty_at}
use Rattle.c_ir.specs.Programs.{Program}
use Rattle.c_ir.specs.declared.ty.IntType.{IntType}
use Rattle.c_ir.specs.declared.tree.Expr.{Expr}
use Rattle.c_ir.specs.declared.tree.Fun.{Fun}
use Rattle.c_runs.specs.Visits.{Cells, Visit, Piece, Arrival, Between}
use Rattle.c_runs.specs.Evaluation.{Evaluation, Calling, Assigning, Meaning, meaning}
use Rattle.c_runs.specs.Laws.{Evaluates, Enters, EntersAt, Fits, HasArrival, LastChecks, Joins, Chained}
use Rattle.c_runs.specs.Parts.{IsOf, Typed, Placed, placed_in_fns, Has, Visits, VisitsArg, VisitsCall, VisitsAssign, VisitsPart, Calls, call_assigned}
use Rattle.c_runs.specs.Runs.{Part, Out, Ending, ends, changes, seq, between, evaluated}
use Rattle.c_runs.specs.Statements.{World, Inside, store, written, preconditions, formals_in, entry_clauses, clauses_at, result_of, freed, leaving, calling, entering, with_args, giving, statement, meaning_in, dropping, giving_to}
use Rattle.c_runs.proofs.Cells.{ToFits, freed_typed, store_typed, written_typed, result_typed, some_is}
use Rattle.c_runs.proofs.Chains.{Under, Fine, Good, Evaluable, AllOf, changes_good, then_fine, evaluated_good, args_good}
use Rattle.c_runs.proofs.Typing.{GivesOf, ArgsTyped, CallTyped, AssignTyped, meaning_typed}

-- ---- functions that are called

-- a call of a function, after the piece that visits its preconditions
abbrev pub CallsGood : World → (ℕ → Part) → Type 0
CallsGood w calls = (g : ℕ) (f : Fun) → slice_get w.program.fns g ≡ Some f → (seen : List Piece) (n : ℕ) (c : Cells) (i : List ℤ) → LastChecks w f.entry.0 c seen → Typed w.program c → Fine w seen (calls g n c i)

-- the program, and what is known of its evaluations and of the functions that are called
pub record Ground (s : Inside) : Type 0 where
  pub keeps : Keeps s.world.program
  pub calls : CallsGood s.world s.calls

-- an expression of the program at a point, with its meaning
pub record Here (s : Inside) (q : ℕ) (e : Expr) : Type 0 where
  pub is_there : Has (placed_in_fns s.world.program.fns) (record { point = q; expr = e })
  pub formed : (form (layout_of s.world.program) e).value ≡ true

evaluates : (s : Inside) (q : ℕ) (e : Expr) → Here s q e → (c : Cells) → Typed s.world.program c → (vs : List Visit) → VisitsPart (meaning_in s e) c vs → Evaluates s.world q vs
evaluates s q e here c typed vs visits = record {
  placed = record { point = q; expr = e };
  is_there = here.is_there;
  at_point = refl;
  cells = c;
  typed = typed;
  visits = visits;
}

-- its value is evaluated there
pub value_here : (s : Inside) (q : ℕ) (e : Expr) → Here s q e → Evaluable s.world q (meaning_in s e).value
value_here s q e here c typed vs visits = evaluates s q e here c typed vs (inl visits)

enters : (s : Inside) (q : ℕ) (e : Expr) (k : Calling) (c : Cells) → Here s q e → Calls (meaning_in s e) k → Enters s.world q (preconditions q 0 c (entry_clauses s.world.program (slice_get s.world.program.fns k.function)))
enters s q e k c here calls = record {
  placed = record { point = q; expr = e };
  is_there = here.is_there;
  at_point = refl;
  call = k;
  calls = calls;
  cells = c;
  visits = refl;
}

-- ---- calls

leaving_good : (s : Inside) (u : Option ℕ) (k : Calling) (to : Option ℕ) (ty : IntType) → Ground s → CallTyped s.world.program k ty → ToFits s.world.program to ty → Good s.world u (leaving s.world.program k.function k.convert to)
leaving_good s u k to ty ground call fits =
    let p = s.world.program in
    changes_good s.world u (λ c. freed p k.function (store to (result_of (slice_get p.fns k.function) k.convert c) c))
    (λ c typed. freed_typed p k.function _
    (store_typed p to (result_of (slice_get p.fns k.function) k.convert c) ty c fits
    (result_typed p k.function call.function ty k.convert c ground.keeps call.is_function call.result typed) typed))

calling_good : (s : Inside) (q : ℕ) (e : Expr) (k : Calling) (to : Option ℕ) (ty : IntType) → Ground s → Here s q e → Calls (meaning_in s e) k → CallTyped s.world.program k ty → ToFits s.world.program to ty → Good s.world (Some q) (calling s q k.function k.convert to)
unfolding enters
calling_good s q e k to ty ground here calls call fits seen n c i under typed =
    let p = s.world.program in
    let vs = preconditions q 0 c (entry_clauses p (slice_get p.fns k.function)) in
    let piece = Between q vs in
    let same = ap (λ (o : Option Fun). preconditions q 0 c (entry_clauses p o)) call.is_function in
    let own : EntersAt s.world call.function.entry.0 q vs = record {
      enters = enters s q e k c here calls;
      function = call.function;
      is_function = call.is_function;
      at_entry = refl;
    } in
    let first = ground.calls k.function call.function call.is_function (piece ∷ seen) n c i (same, own) typed in
    let o = s.calls k.function n c i in
    let rest = then_fine s.world None (piece ∷ seen) o.ending o (leaving p k.function k.convert to) tt first (leaving_good s None k to ty ground call fits) in
    record { chain = ((inr (enters s q e k c here calls), under), rest.chain); typed = rest.typed }

entering_good : (s : Inside) (q : ℕ) (e : Expr) (k : Calling) (to : Option ℕ) (ty : IntType) (zs : List ℤ) → Ground s → Here s q e → Calls (meaning_in s e) k → (call : CallTyped s.world.program k ty) → ToFits s.world.program to ty → AllOf (map (ty_at s.world.program.cells) call.function.formals) zs → Good s.world (Some q) (entering s q k to zs)
entering_good s q e k to ty zs ground here calls call fits all seen n c i under typed =
    let p = s.world.program in
    let inside = written_typed p call.function.formals zs c all typed in
    calling_good s q e k to ty ground here calls call fits seen n (written (formals_in (slice_get p.fns k.function)) zs c) i under
    (subst (λ (o : Option Fun). Typed p (written (formals_in o) zs c)) (sym call.is_function) inside)

-- ---- values

giving_by : (s : Inside) (q : ℕ) (e : Expr) (value : Evaluation ℤ) (call : Option Calling) (to : Option ℕ) (ty : IntType) → Ground s → Here s q e → ((c : Cells) → Typed s.world.program c → (vs : List Visit) → Visits value c vs → Evaluates s.world q vs) → ((k : Calling) → call ≡ Some k → (c : Cells) → Typed s.world.program c → (vs : List Visit) → VisitsArg k.args c vs → Evaluates s.world q vs) → ((k : Calling) → call ≡ Some k → Calls (meaning_in s e) k) → GivesOf s.world.program ty value → ((k : Calling) → call ≡ Some k → CallTyped s.world.program k ty) → ToFits s.world.program to ty → Good s.world (Some q) (giving s q value call to)
giving_by s q e value None to ty ground here here_value here_args calls gives typed fits =
    evaluated_good s.world q value (λ z. changes (store to (Some z))) here_value
    (λ c at z is. changes_good s.world (Some q) (store to (Some z))
    (λ d all. store_typed s.world.program to (Some z) ty d fits (λ y e. subst (IsOf ty) (some_is e) (gives c at z is)) all))
giving_by s q e value (Some k) to ty ground here here_value here_args calls gives typed fits =
    let call = typed k refl in
    args_good s.world q (map (ty_at s.world.program.cells) call.function.formals) k.args (entering s q k to) call.args (here_args k refl)
    (λ zs all. entering_good s q e k to ty zs ground here (calls k refl) call fits all)

args_of : (m : Meaning) (k : Calling) (c : Cells) (vs : List Visit) → m.call ≡ Some k → VisitsArg k.args c vs → VisitsPart m c vs
args_of m k c vs is h = inr (inl (subst (λ (o : Option Calling). VisitsCall o c vs) (sym is) h))

-- the value of an expression, which may be a call, goes to a cell of its type or is dropped
pub giving_good : (s : Inside) (q : ℕ) (e : Expr) (to : Option ℕ) (ty : IntType) → Ground s → Here s q e → (form (layout_of s.world.program) e).ty ≡ ty → ToFits s.world.program to ty → Good s.world (Some q) (giving_to s q to e)
giving_good s q e to ty ground here is fits =
    let m = meaning_in s e in
    let typed = meaning_typed s.world.program s.world.overflow e in
    giving_by s q e m.value m.call to ty ground here
    (λ c at vs v. evaluates s q e here c at vs (inl v))
    (λ k is c at vs v. evaluates s q e here c at vs (args_of m k c vs is v))
    (λ k is. inl is)
    (subst (λ (t : IntType). GivesOf s.world.program t m.value) is (typed.value here.formed))
    (λ k at. subst (CallTyped s.world.program k) is (typed.call here.formed k at))
    fits

assigned : (s : Inside) (q : ℕ) (e : Expr) (a : Assigning) → Ground s → Here s q e → (meaning_in s e).assign ≡ Some a → Good s.world (Some q) (evaluated q a.target (λ x. giving s q a.value a.call (Some x)))
assigned s q e a ground here is =
    let m = meaning_in s e in
    let p = s.world.program in
    let typed = (meaning_typed s.world.program s.world.overflow e).assign here.formed a is in
    let part : (c : Cells) (vs : List Visit) → VisitsAssign (Some a) c vs → VisitsPart m c vs = λ c vs v. inr (inr (subst (λ (o : Option Assigning). VisitsAssign o c vs) (sym is) v)) in
    evaluated_good s.world q a.target (λ x. giving s q a.value a.call (Some x))
    (λ c at vs v. evaluates s q e here c at vs (part c vs (inl v)))
    (λ c at x has. giving_by s q e a.value a.call (Some x) typed.ty ground here
    (λ c at vs v. evaluates s q e here c at vs (part c vs (inr (inl v))))
    (λ k k_is c at vs v. evaluates s q e here c at vs (part c vs (inr (inr (subst (λ (o : Option Calling). VisitsCall o c vs) (sym k_is) v)))))
    (λ k k_is. inr (ap (call_assigned) is ∙ k_is))
    typed.value typed.call (typed.target c at x has))

statement_by : (s : Inside) (q : ℕ) (e : Expr) (o : Option Assigning) → Ground s → Here s q e → (meaning_in s e).assign ≡ o → Good s.world (Some q) (statement s q (meaning_in s e).value (meaning_in s e).call o)
statement_by s q e None ground here is = giving_good s q e None (form (layout_of s.world.program) e).ty ground here refl tt
statement_by s q e (Some a) ground here is = assigned s q e a ground here is

pub dropping_good : (s : Inside) (q : ℕ) (e : Expr) → Ground s → Here s q e → Good s.world (Some q) (dropping s q e)
dropping_good s q e ground here = statement_by s q e (meaning_in s e).assign ground here refl
