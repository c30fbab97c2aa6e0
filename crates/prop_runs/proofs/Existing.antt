-- The preconditions of each function that the statement of a point calls are in the table, with this point.
use Rattle.std.proofs.Common.{◌≡◌, ◌∙◌, ◌==◌, inl, inr, ◌<◌, ◌≤◌, ℕ, suc, Bool, true, List, [], ◌∷◌, ◌++◌, map, length, length-append, Option, Some, None, slice_get, refl, ap, sym, subst, arith}
use Rattle.std.proofs.lemmas.Bool.{and_parts, eq-eqb, true≢false}
use Rattle.std.specs.List.{list_all}
use Rattle.std.specs.Prelude.{if◌then◌else◌}
use Rattle.fc_base.specs.declared.ids.Line.{Line}
use Rattle.c_ir.specs.Bodies.{Frame, AtEntry, bears, clause_fits, is_own, is_owned, same_stand, stand_of}
use Rattle.c_ir.specs.Formed.{on_some}
use Rattle.c_ir.specs.Keeps.{Keeps, frame_of}
use Rattle.c_ir.specs.Programs.{Program}
use Rattle.c_ir.specs.declared.kind.Kind.{Kind}
use Rattle.c_ir.specs.declared.kind.Kind.TheVariants as K
use Rattle.c_ir.specs.declared.tree.Fun.{Fun}
use Rattle.c_ir.specs.declared.tree.PointClause.{PointClause}
use Rattle.c_ir.specs.declared.tree.PointInfo.{PointInfo}
use Rattle.c_runs.specs.Laws.{Enters}
use Rattle.c_runs.specs.Parts.{Has}
use Rattle.c_runs.specs.Statements.{World, clauses_in, entry_clauses}
use Rattle.c_runs.specs.Visits.{Visit, Precondition}
use Rattle.prop_table.specs.Points.{numbers_at, noted_calls, sites_at, calls_at, is_requires, requires_among, requires_in, requires_at}
use Rattle.prop_table.specs.Rows.{Claim, of_clause, alarms, of_requires, call_requires, claims_at}
use Rattle.prop_table.proofs.Lists.{Each, each_append}
use Rattle.prop_table.proofs.Places.{spot_at}
use Rattle.prop_runs.specs.Numbers.{is_call_requires, call_requires_at}
use Rattle.prop_runs.proofs.Callees.{callee}
use Rattle.prop_runs.proofs.Finding.{passing, passing_append, passing_all, within_some}
use Rattle.prop_runs.proofs.Placing.{evaluated}
use Rattle.by_key.specs.declared.lists.Keyed.{Keyed}
use Rattle.prop_runs.proofs.Points.{claim_row}
use Rattle.prop_runs.proofs.Telling.{pointed}
use Rattle.prop_runs.proofs.Claimed.{Exists, numbers_first, numbers_later}

-- ---- preconditions

-- the entry of a function has no other clauses than its preconditions
entry_kind : (k : Kind) → on_some (same_stand AtEntry) (stand_of k) ≡ true → is_requires k ≡ true
entry_kind K.Requires h = refl
entry_kind K.CallRequires h = absurd (true≢false (sym h))
entry_kind K.Ensures h = absurd (true≢false (sym h))
entry_kind K.Assert h = absurd (true≢false (sym h))
entry_kind K.Check h = absurd (true≢false (sym h))
entry_kind K.Admit h = absurd (true≢false (sym h))
entry_kind K.LoopInvariant h = absurd (true≢false (sym h))
entry_kind (K.Alarm a) h = absurd (true≢false (sym h))
entry_kind K.Dead h = absurd (true≢false (sym h))

all_require : (f : Frame) (cs : List PointClause) → list_all (clause_fits f AtEntry) cs ≡ true
    → requires_among cs ≡ cs
all_require f [] h = refl
all_require f (c ∷ cs) h =
    let parts = and_parts _ _ h in
    ap (λ (b : Bool). if b then c ∷ requires_among cs else requires_among cs)
    (entry_kind c.kind (and_parts _ _ parts.0).0)
    ∙ ap (λ ds. c ∷ ds) (all_require f cs parts.1)

require_if : (f : Frame) (o : Option PointInfo) → on_some (bears f AtEntry) o ≡ true
    → requires_in o ≡ clauses_in o
require_if f None h = refl
require_if f (Some info) h =
    all_require f info.clauses
    (and_parts (is_owned f.function info) (list_all (clause_fits f AtEntry) info.clauses) h).1

own_require : (p : Program) (g : ℕ) (f : Fun) → Keeps p → slice_get p.fns g ≡ Some f
    → requires_in (slice_get p.points f.entry.0) ≡ clauses_in (slice_get p.points f.entry.0)
unfolding is_own
own_require p g f keeps is = require_if (frame_of p g f) (slice_get p.points f.entry.0) (keeps.entry g f is)

required : (p : Program) (g : ℕ) (o : Option Fun) → Keeps p → slice_get p.fns g ≡ o
    → requires_at p g ≡ entry_clauses p o
unfolding requires_at
required p g None keeps is = rw is refl
required p g (Some f) keeps is = rw is (own_require p g f keeps is)

length_mapped : (line : Line) (cs : List PointClause) → length (map (of_requires line) cs) ≡ length cs
length_mapped line [] = refl
length_mapped line (c ∷ cs) = ap (λ (n : ℕ). suc n) (length_mapped line cs)

-- a call's preconditions are among those that are claimed
call_length : (p : Program) (line : Line) (gs : List ℕ) (g : ℕ) → Has gs g
    → length (requires_at p g) ≤ length (call_requires p line gs)
call_length p line [] g h = absurd h
call_length p line (x ∷ gs) g (inl is) =
    let long = length-append (map (of_requires line) (requires_at p x)) (call_requires p line gs) in
    let same = ap (λ (y : ℕ). length (requires_at p y)) is in
    omega (arith, long, same, length_mapped line (requires_at p x))
call_length p line (x ∷ gs) g (inr h) =
    let long = length-append (map (of_requires line) (requires_at p x)) (call_requires p line gs) in
    omega (arith, long, call_length p line gs g h)

abbrev requires_claim : Claim → Bool
requires_claim c = is_call_requires c.kind

mapped_pass : (line : Line) (cs : List PointClause)
    → Each (λ c. requires_claim c ≡ true) (map (of_requires line) cs)
mapped_pass line [] = tt
mapped_pass line (c ∷ cs) = (refl, mapped_pass line cs)

calls_pass : (p : Program) (line : Line) (gs : List ℕ)
    → Each (λ c. requires_claim c ≡ true) (call_requires p line gs)
calls_pass p line [] = tt
calls_pass p line (g ∷ gs) =
    each_append (λ c. requires_claim c ≡ true) (map (of_requires line) (requires_at p g))
    (call_requires p line gs)
    (mapped_pass line (requires_at p g)) (calls_pass p line gs)

-- what stands last passes, so as many do
last_pass : (xs ys : List Claim) → Each (λ c. requires_claim c ≡ true) ys
    → length ys ≤ length (passing requires_claim (xs ++ ys))
last_pass xs ys all =
    let both = ap length (passing_append requires_claim xs ys) in
    let long = length-append (passing requires_claim xs) (passing requires_claim ys) in
    let same = ap length (passing_all requires_claim ys all) in
    omega (arith, both, long, same)

requires_claimed : (p : Program) (q : ℕ) (info : PointInfo)
    → length (call_requires p info.line (calls_at p q)) ≤ length (passing requires_claim (claims_at p q info))
unfolding claims_at
requires_claimed p q info =
    let clauses = map of_clause info.clauses in
    let sites = alarms p info.line (sites_at p q) in
    let calls = call_requires p info.line (calls_at p q) in
    let both = ap length (passing_append requires_claim clauses (sites ++ calls)) in
    let long = length-append (passing requires_claim clauses) (passing requires_claim (sites ++ calls)) in
    omega (arith, both, long, last_pass sites calls (calls_pass p info.line (calls_at p q)))

call_noted : (q g : ℕ) (ms : List Keyed) → Has ms (record { key = q; number = g }) → Has (numbers_at q ms) g
call_noted q g [] h = absurd h
call_noted q g (m ∷ ms) (inl is) =
    let point : m.key ≡ q = ap (λ (x : Keyed). x.key) is in
    let number : m.number ≡ g = ap (λ (x : Keyed). x.number) is in
    subst (λ (n : ℕ). Has (numbers_at q (m ∷ ms)) n) number
    (numbers_first (m.key == q) m.number (numbers_at q ms) (eq-eqb m.key q point))
call_noted q g (m ∷ ms) (inr h) =
    numbers_later (m.key == q) m.number g (numbers_at q ms) (call_noted q g ms h)

call_at : (p : Program) (q g : ℕ) → Has (noted_calls p.fns) (record { key = q; number = g })
    → Has (calls_at p q) g
unfolding calls_at
call_at p q g h = call_noted q g (noted_calls p.fns) h

-- the function that a statement calls is one of its point's
pub entered : (w : World) (q : ℕ) (vs : List Visit) → Keeps w.program → (h : Enters w q vs)
    → Has (calls_at w.program q) h.call.function
entered w q vs keeps h =
    let p = w.program in
    let e = evaluated p h.placed keeps h.is_there in
    let noted = e.stands.calls h.call.function (callee w.overflow h.placed.expr h.call h.calls) in
    subst (λ (r : ℕ). Has (calls_at p r) h.call.function) h.at_point
    (call_at p h.placed.point h.call.function noted)

pub precondition_exists : (w : World) (q k : ℕ) (vs : List Visit) → Keeps w.program
    → q < length w.program.points → (h : Enters w q vs)
    → k < length (entry_clauses w.program (slice_get w.program.fns h.call.function))
    → Exists w.program (Precondition q k)
precondition_exists w q k vs keeps less h few =
    let p = w.program in
    let g = h.call.function in
    let at = pointed p q keeps less in
    let info = at.fits.info in
    let same = ap length (required p g (slice_get p.fns g) keeps refl) in
    let long = call_length p info.line (calls_at p q) g (entered w q vs keeps h) in
    let one = within_some (passing requires_claim (claims_at p q info)) k
    (omega (arith, few, same, long, requires_claimed p q info)) in
    let made = claim_row p (spot_at at.number at.function q) (call_requires_at q) requires_claim keeps at.fits
    (λ n r. refl) k one.0 one.1 in
    (made.row, made.is_row)
