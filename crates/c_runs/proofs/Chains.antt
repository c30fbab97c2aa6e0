-- How the law of pieces passes through the parts of runs.
use Rattle.std.proofs.Common.{◌≡◌, ◌<◌, length, ◌∙◌, ℕ, zero, suc, ℤ, pos, Bool, true, false, List, [], ◌∷◌, ◌++◌, Option, Some, None, refl, sym, ap, subst, inl, inr, ◌⊎◌}
use Rattle.fc_base.specs.declared.ids.PointId.{PointId}
use Rattle.c_ir.specs.declared.ty.IntType.{IntType}
use Rattle.c_rules.specs.Constants.{is_zero}
use Rattle.c_runs.specs.Visits.{Cells, Visit, Piece, Arrival, Between}
use Rattle.c_runs.specs.Evaluation.{Evaluation}
use Rattle.c_runs.specs.Laws.{Arrives, Evaluates, Enters, Fits, HasArrival, Joins, Chained, has_requires}
use Rattle.c_runs.specs.Parts.{IsOf, Typed, Visits, VisitsArg}
use Rattle.c_runs.specs.Runs.{Ending, Next, Breaks, Continues, Returns, Stopped, Cut, Out, Part, ends, changes, after, ended, admitting, arriving, goes_on, then_run, seq, all_run, between, with_value, evaluated, choose, branch, taking, again, turns, loop, continued, continuing}
use Rattle.c_runs.specs.Statements.{World, admitted, arrive, at, clauses_at, closed, closing, point_visits, with_args}
use Rattle.c_runs.proofs.Typing.{GivesOf, ArgsTyped}

-- ---- what is asked of a part

-- a part that begins after an arrival at a point, or anywhere
abbrev pub Under : Option ℕ → List Piece → Type 0
Under None seen = Unit {0}
Under (Some q) seen = HasArrival q seen

pub record Fine (w : World) (seen : List Piece) (o : Out) : Type 0 where
  pub chain : Chained w seen o.pieces
  pub typed : Typed w.program o.cells

abbrev pub Good : World → Option ℕ → Part → Type 0
Good w u f = (seen : List Piece) (n : ℕ) (c : Cells) (i : List ℤ) → Under u seen → Typed w.program c → Fine w seen (f n c i)

-- ---- pieces after pieces

-- all pieces after these, the newest first
abbrev pub grown : List Piece → List Piece → List Piece
grown seen [] = seen
grown seen (x ∷ xs) = grown (x ∷ seen) xs

has_more : (q : ℕ) (seen xs : List Piece) → HasArrival q seen → HasArrival q (grown seen xs)
has_more q seen [] h = h
has_more q seen (x ∷ xs) h = has_more q (x ∷ seen) xs (inr h)

under_more : (u : Option ℕ) (seen xs : List Piece) → Under u seen → Under u (grown seen xs)
under_more None seen xs h = tt
under_more (Some q) seen xs h = has_more q seen xs h

chain_more : (w : World) (seen xs ys : List Piece) → Chained w seen xs → Chained w (grown seen xs) ys → Chained w seen (xs ++ ys)
chain_more w seen [] ys h k = k
chain_more w seen (x ∷ xs) ys h k = (h.0, chain_more w (x ∷ seen) xs ys h.1 k)

-- ---- combinators

pub ends_good : (w : World) (u : Option ℕ) (e : Ending) → Good w u (ends e)
ends_good w u e seen n c i under typed = record { chain = tt; typed = typed }

pub changes_good : (w : World) (u : Option ℕ) (f : Cells → Cells) → ((c : Cells) → Typed w.program c → Typed w.program (f c)) → Good w u (changes f)
changes_good w u f h seen n c i under typed = record { chain = tt; typed = h c typed }

-- a part that may stand anywhere stands after an arrival too
pub anywhere : (w : World) (u : Option ℕ) (f : Part) → Good w None f → Good w u f
anywhere w u f h seen n c i under typed = h seen n c i tt typed

goes_fine : (w : World) (u : Option ℕ) (seen : List Piece) (o : Out) (g : Part) → Under u seen → Fine w seen o → Good w u g → Fine w seen (goes_on o g)
goes_fine w u seen o g under fine good =
    let rest = good (grown seen o.pieces) o.left o.cells o.input (under_more u seen o.pieces under) fine.typed in
    record { chain = chain_more w seen o.pieces (g o.left o.cells o.input).pieces fine.chain rest.chain; typed = rest.typed }

pub then_fine : (w : World) (u : Option ℕ) (seen : List Piece) (e : Ending) (o : Out) (g : Part) → Under u seen → Fine w seen o → Good w u g → Fine w seen (then_run e o g)
then_fine w u seen Next o g under fine good = goes_fine w u seen o g under fine good
then_fine w u seen Breaks o g under fine good = record { chain = fine.chain; typed = fine.typed }
then_fine w u seen Continues o g under fine good = record { chain = fine.chain; typed = fine.typed }
then_fine w u seen Returns o g under fine good = record { chain = fine.chain; typed = fine.typed }
then_fine w u seen Stopped o g under fine good = record { chain = fine.chain; typed = fine.typed }
then_fine w u seen Cut o g under fine good = record { chain = fine.chain; typed = fine.typed }

pub seq_good : (w : World) (u : Option ℕ) (f g : Part) → Good w u f → Good w u g → Good w u (seq f g)
seq_good w u f g hf hg seen n c i under typed = then_fine w u seen (f n c i).ending (f n c i) g under (hf seen n c i under typed) hg

abbrev pub AllGood : World → Option ℕ → List Part → Type 0
AllGood w u [] = Unit {0}
AllGood w u (f ∷ fs) = Good w u f × AllGood w u fs

pub all_good : (w : World) (u : Option ℕ) (fs : List Part) → AllGood w u fs → Good w u (all_run fs)
all_good w u [] h = ends_good w u Next
all_good w u (f ∷ fs) h = seq_good w u f (all_run fs) h.0 (all_good w u fs h.1)

again_fine : (w : World) (u : Option ℕ) (seen : List Piece) (e : Ending) (o : Out) (g : Part) → Under u seen → Fine w seen o → Good w u g → Fine w seen (again e o g)
again_fine w u seen Next o g under fine good = goes_fine w u seen o g under fine good
again_fine w u seen Continues o g under fine good = goes_fine w u seen o g under fine good
again_fine w u seen Breaks o g under fine good = record { chain = fine.chain; typed = fine.typed }
again_fine w u seen Returns o g under fine good = record { chain = fine.chain; typed = fine.typed }
again_fine w u seen Stopped o g under fine good = record { chain = fine.chain; typed = fine.typed }
again_fine w u seen Cut o g under fine good = record { chain = fine.chain; typed = fine.typed }

turns_good : (w : World) (u : Option ℕ) (k : ℕ) (f : Part) → Good w u f → Good w u (turns k f)
turns_good w u zero f h = ends_good w u Cut
turns_good w u (suc k) f h = λ seen n c i under typed.
    again_fine w u seen (f n c i).ending (f n c i) (turns k f) under (h seen n c i under typed) (turns_good w u k f h)

pub loop_good : (w : World) (u : Option ℕ) (f : Part) → Good w u f → Good w u (loop f)
loop_good w u f h seen n c i under typed = turns_good w u n f h seen n c i under typed

pub continuing_good : (w : World) (u : Option ℕ) (f : Part) → Good w u f → Good w u (continuing f)
continuing_good w u f h seen n c i under typed =
    let fine = h seen n c i under typed in record { chain = fine.chain; typed = fine.typed }

closed_fine : (w : World) (u : Option ℕ) (seen : List Piece) (e : Ending) (o : Out) (g : Part) → Under u seen → Fine w seen o → Good w u g → Fine w seen (closed e o g)
closed_fine w u seen Next o g under fine good = goes_fine w u seen o g under fine good
closed_fine w u seen Breaks o g under fine good = record { chain = fine.chain; typed = fine.typed }
closed_fine w u seen Continues o g under fine good = record { chain = fine.chain; typed = fine.typed }
closed_fine w u seen Returns o g under fine good = record { chain = fine.chain; typed = fine.typed }
closed_fine w u seen Stopped o g under fine good = record { chain = fine.chain; typed = fine.typed }
closed_fine w u seen Cut o g under fine good = record { chain = fine.chain; typed = fine.typed }

pub closing_good : (w : World) (u : Option ℕ) (f g : Part) → Good w u f → Good w u g → Good w u (closing f g)
closing_good w u f g hf hg seen n c i under typed = closed_fine w u seen (f n c i).ending (f n c i) g under (hf seen n c i under typed) hg

pub taking_good : (w : World) (u : Option ℕ) (f : ℤ → Part) → ((z : ℤ) → Good w u (f z)) → Good w u (taking f)
taking_good w u f h seen n c [] under typed = h (pos 0) seen n c [] under typed
taking_good w u f h seen n c (z ∷ zs) under typed = h z seen n c zs under typed

-- ---- evaluations at a point

-- the visits are those of an evaluation at this point
abbrev pub Evaluable : {A : Type 0} → World → ℕ → Evaluation A → Type 0
Evaluable w q e = (c : Cells) → Typed w.program c → (vs : List Visit) → Visits e c vs → Evaluates w q vs

value_fine : {A : Type 0} (w : World) (q : ℕ) (v : Option A) (f : A → Part) (seen : List Piece) (n : ℕ) (c : Cells) (i : List ℤ) → HasArrival q seen → Typed w.program c → ((a : A) → v ≡ Some a → Good w (Some q) (f a)) → Fine w seen (with_value v f n c i)
value_fine w q None f seen n c i under typed h = record { chain = tt; typed = typed }
value_fine w q (Some a) f seen n c i under typed h = h a refl seen n c i under typed

pub evaluated_good : {A : Type 0} (w : World) (q : ℕ) (e : Evaluation A) (f : A → Part) → Evaluable w q e → ((c : Cells) → Typed w.program c → (a : A) → (e c).value ≡ Some a → Good w (Some q) (f a)) → Good w (Some q) (evaluated q e f)
evaluated_good w q e f here h seen n c i under typed =
    let piece = Between q (e c).visits in
    let rest = value_fine w q (e c).value f (piece ∷ seen) n c i (inr under) typed (λ a is. h c typed a is) in
    record { chain = ((inl (here c typed (e c).visits refl), under), rest.chain); typed = rest.typed }

choose_good : (w : World) (u : Option ℕ) (b : Bool) (f g : Part) → Good w u f → Good w u g → Good w u (choose b f g)
choose_good w u true f g hf hg = hg
choose_good w u false f g hf hg = hf

pub branch_good : (w : World) (q : ℕ) (e : Evaluation ℤ) (f g : Part) → Evaluable w q e → Good w (Some q) f → Good w (Some q) g → Good w (Some q) (branch q e f g)
branch_good w q e f g here hf hg =
    evaluated_good w q e (λ z. choose (is_zero z) f g) here (λ c typed z is. choose_good w (Some q) (is_zero z) f g hf hg)

-- numbers of these types
abbrev pub AllOf : List IntType → List ℤ → Type 0
AllOf [] [] = Unit {0}
AllOf [] (z ∷ zs) = ⊥
AllOf (ty ∷ tys) [] = ⊥
AllOf (ty ∷ tys) (z ∷ zs) = IsOf ty z × AllOf tys zs

pub args_good : (w : World) (q : ℕ) (tys : List IntType) (es : List (Evaluation ℤ)) (f : List ℤ → Part) → ArgsTyped w.program tys es → ((c : Cells) → Typed w.program c → (vs : List Visit) → VisitsArg es c vs → Evaluates w q vs) → ((zs : List ℤ) → AllOf tys zs → Good w (Some q) (f zs)) → Good w (Some q) (with_args q es f)
args_good w q [] [] f typed here h = h [] tt
args_good w q [] (e ∷ es) f typed here h = absurd typed
args_good w q (ty ∷ tys) [] f typed here h = absurd typed
args_good w q (ty ∷ tys) (e ∷ es) f typed here h =
    evaluated_good w q e (λ z. with_args q es (λ zs. f (z ∷ zs))) (λ c at vs is. here c at vs (inl is))
    (λ c at z is. args_good w q tys es (λ zs. f (z ∷ zs)) typed.1 (λ c at vs is. here c at vs (inr is)) (λ zs all. h (z ∷ zs) (typed.0 c at z is, all)))

-- ---- arrivals

admitted_fine : (w : World) (q : ℕ) (entry : Cells) (b : Bool) (f : Part) (seen : List Piece) (n : ℕ) (c : Cells) (i : List ℤ) → q < length w.program.points → admitted w q entry c ≡ b → Joins w seen (Arrival q c (point_visits w.program q entry c)) → Typed w.program c → Good w (Some q) f → Fine w seen (admitting b (Arrival q c (point_visits w.program q entry c)) f n c i)
admitted_fine w q entry true f seen n c i is_point is joins typed good =
    let piece = Arrival q c (point_visits w.program q entry c) in
    let rest = good (piece ∷ seen) n c i (inl refl) typed in
    record { chain = ((record { is_point = is_point; typed = typed; entry = entry; admits = is; visits = refl }, joins), rest.chain); typed = rest.typed }
admitted_fine w q entry false f seen n c i is_point is joins typed good = record { chain = tt; typed = typed }

-- an arrival, where the pieces before it are those that they must be
pub arrive_fine : (w : World) (q : ℕ) (entry : Cells) (f : Part) (seen : List Piece) (n : ℕ) (c : Cells) (i : List ℤ) → q < length w.program.points → Joins w seen (Arrival q c (point_visits w.program q entry c)) → Typed w.program c → Good w (Some q) f → Fine w seen (arrive w q entry f n c i)
arrive_fine w q entry f seen zero c i is_point joins typed good = record { chain = tt; typed = typed }
arrive_fine w q entry f seen (suc n) c i is_point joins typed good = admitted_fine w q entry (admitted w q entry c) f seen n c i is_point refl joins typed good

pub at_good : (w : World) (p : PointId) (f : Part) → p.0 < length w.program.points → has_requires (clauses_at w.program p.0) ≡ false → Good w (Some p.0) f → Good w None (at w p f)
at_good w p f is_point none good seen n c i under typed = arrive_fine w p.0 c f seen n c i is_point (inl none) typed good
