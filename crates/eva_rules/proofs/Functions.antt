-- Functions are analysed right, at each depth of calls.
use Rattle.std.proofs.Common.{◌≡◌, ℕ, zero, suc, ℤ, pos, Bool, true, false, List, [], ◌∷◌, Option, Some, None, slice_get, refl, subst}
use Rattle.abs_cells.specs.Laws.{In}
use Rattle.abs_state.specs.declared.state.State.{State}
use Rattle.c_ir.specs.Keeps.{Keeps, ty_at}
use Rattle.c_ir.specs.Programs.{Program}
use Rattle.c_ir.specs.declared.tree.Fun.{Fun}
use Rattle.c_ir.specs.declared.tree.Stmt.{Stmt}
use Rattle.c_rules.specs.Constants.{converted}
use Rattle.c_runs.specs.Visits.{Arrival, Cells, Piece, Visit, all_visits}
use Rattle.c_runs.specs.Parts.{IsOf, Typed}
use Rattle.c_runs.specs.Runs.{Ending, Next, Stopped, Cut, Out, Part}
use Rattle.c_runs.specs.Runs as runs
use Rattle.c_runs.specs.Statements.{World, admitted, is_main, point_visits, run_all, set}
use Rattle.c_runs.specs.Statements as run_parts
use Rattle.c_runs.proofs.Cells.{cell_is_own, set_typed, some_is, zero_of}
use Rattle.c_runs.proofs.OperatorValues.{converted_is}
use Rattle.eva_rules.specs.Passing.{Passed, Step, closed, ends}
use Rattle.eva_rules.specs.Points.{Ground, arrive, point_noted}
use Rattle.eva_rules.specs.Statements.{after_entry, call_to, entry_passed, function, function_if, inside_of, pass_all, widening_of}
use Rattle.eva_rules.specs.Statements as parts
use Rattle.eva_rules.specs.Writing.{receive, set_cell, zero_value}
use Rattle.eva_rules.proofs.Cover as cover
use Rattle.eva_rules.proofs.Passing as passing
use Rattle.eva_rules.proofs.Points.{Sees, arrive_good}
use Rattle.eva_rules.proofs.Statements.{body_sound, zero_stands}
use Rattle.eva_rules.proofs.Writing.{receive_in, set_in}

-- ---- an arrival changes no cells

admitting_cells : (b : Bool) (x : Piece) (n : ℕ) (c : Cells) (i : List ℤ)
    → (runs.admitting b x (runs.ends Next) n c i).cells ≡ c
admitting_cells true x n c i = refl
admitting_cells false x n c i = refl

arrive_cells : (w : World) (q : ℕ) (entry : Cells) (n : ℕ) (c : Cells) (i : List ℤ)
    → (run_parts.arrive w q entry (runs.ends Next) n c i).cells ≡ c
arrive_cells w q entry zero c i = refl
arrive_cells w q entry (suc n) c i =
    admitting_cells (admitted w q entry c) (Arrival q c (point_visits w.program q entry c)) n c i

module _ (g : Ground) (holding : ℕ → Bool) (keeps : Keeps g.world.program) where
  abbrev program : Program
  program = g.world.program

  abbrev Within : List ℕ → Type 0
  Within = cover.Within program g.number holding

  abbrev Clean : List Visit → Type 0
  Clean = cover.Clean program g.number holding

  abbrev Covers : State → Cells → Type 0
  Covers = cover.Covers program g.number holding

  abbrev Reach : State → State → Cells → Type 0
  Reach = cover.Reach program g.number holding

  abbrev Leaves : State → Passed → Ending → Cells → Type 0
  Leaves = cover.Leaves program g.number holding

  abbrev Good : State → Passed → Out → Type 0
  Good = cover.Good program g.number holding

  abbrev Sound : Part → Step → Type 0
  Sound = cover.Sound program g.number holding

  -- ---- the end of a body

  at_end_sound : (main : Bool) (r : Option ℕ) → Sound (run_parts.at_end main r) (parts.at_end main r)
  at_end_sound main None = passing.ends_sound program g.number holding Next
  at_end_sound true (Some r) =
      passing.changes_sound program g.number holding (set_cell r zero_value) (set r (Some (pos 0)))
      (λ c typed. set_typed program r (Some (pos 0)) (ty_at program.cells r) c (cell_is_own program r)
      (λ z is. subst (IsOf (ty_at program.cells r)) (some_is is) (zero_of (ty_at program.cells r))) typed)
      (λ e c typed inside. set_in r zero_value (Some (pos 0)) e c zero_stands inside)
  at_end_sound false (Some r) = passing.ends_sound program g.number holding Stopped

  at_end_leaves : (main : Bool) (r : Option ℕ) (s : State) (a b : Passed) (n : ℕ) (c : Cells) (i : List ℤ)
      → Leaves s b (run_parts.at_end main r n c i).ending (run_parts.at_end main r n c i).cells
      → Leaves s (closed a b) (run_parts.at_end main r n c i).ending (run_parts.at_end main r n c i).cells
  at_end_leaves main None s a b n c i h = passing.reach_left program g.number holding s b.next a.returns c h
  at_end_leaves true (Some r) s a b n c i h =
      passing.reach_left program g.number holding s b.next a.returns (set r (Some (pos 0)) c) h
  at_end_leaves false (Some r) s a b n c i h = tt

  -- ---- numbers of the input

  received_sound : (r : ℕ) (z : ℤ)
      → Sound (runs.changes (set r (Some (converted (ty_at program.cells r) z)))) (parts.answering program (Some r))
  received_sound r z =
      passing.changes_sound program g.number holding (receive program r)
      (set r (Some (converted (ty_at program.cells r) z)))
      (λ c typed. set_typed program r (Some (converted (ty_at program.cells r) z)) (ty_at program.cells r) c
      (cell_is_own program r)
      (λ y is. subst (IsOf (ty_at program.cells r)) (some_is is) (converted_is (ty_at program.cells r) z)) typed)
      (λ e c typed inside. receive_in program r z e c inside)

  -- a cell has a number of the input
  receiving_sound : (r : ℕ) → Sound (run_parts.receiving program r) (parts.answering program (Some r))
  receiving_sound r s n c [] typed covers clean = received_sound r (pos 0) s n c [] typed covers clean
  receiving_sound r s n c (z ∷ zs) typed covers clean = received_sound r z s n c zs typed covers clean

  answering_sound : (r : Option ℕ) → Sound (run_parts.answering program r) (parts.answering program r)
  answering_sound None = passing.ends_sound program g.number holding Next
  answering_sound (Some r) = receiving_sound r

  -- ---- functions, over what is known of their calls

  module _ (calls : ℕ → Part) (analysed : ℕ → Step) (sound : (n : ℕ) → Sound (calls n) (analysed n)) (index : ℕ)
      (f : Fun) (is : slice_get program.fns index ≡ Some f) where
    made_sound : (o : Option (List Stmt)) → f.body ≡ o
        → Sound (run_parts.body g.world calls f o) (parts.body g analysed f o)
    made_sound None has = answering_sound f.result
    made_sound (Some ss) has =
        passing.closing_sound program g.number holding
        (run_all (record { world = g.world; calls = calls; result = f.result }) ss)
        (run_parts.at_end (is_main f) f.result)
        (pass_all (inside_of g analysed f) ss) (parts.at_end (is_main f) f.result)
        (body_sound g holding keeps calls analysed (widening_of program f) refl sound f index ss
        (keeps.defined index f ss is has).typed)
        (at_end_sound (is_main f) f.result) (at_end_leaves (is_main f) f.result)

    -- an arrival alone
    arrived : (q : ℕ) (entry : Option State) (before : Cells) (s : State) (n : ℕ) (c : Cells) (i : List ℤ)
        → Typed program c → Covers s c → Sees g holding entry s before c
        → Clean (all_visits (run_parts.arrive g.world q before (runs.ends Next) n c i).pieces)
        → Good s (arrive g q entry (ends Next) s) (run_parts.arrive g.world q before (runs.ends Next) n c i)
    arrived q entry before s n c i typed covers sees clean =
        arrive_good g holding q entry before (runs.ends Next) (ends Next) s n c i typed covers sees
        (λ m r cl. passing.ends_sound program g.number holding Next (point_noted g q entry s).state m c i typed
        (λ w. (r w).1) cl) clean

    -- the part of a run after its entry, whose cells are those that `\old` speaks of
    abbrev remaining : Cells → Part
    remaining before =
        runs.seq (run_parts.body g.world calls f f.body) (run_parts.arrive g.world f.exit.0 before (runs.ends Next))

    after_good : (s e : State) (before : Cells) (n : ℕ) (c : Cells) (i : List ℤ) → Typed program c → c ≡ before
        → Reach s e c → Clean (all_visits (remaining before n c i).pieces)
        → Good e (after_entry g analysed f e) (remaining before n c i)
    after_good s e before n c i typed same reach clean =
        let t = (parts.body g analysed f f.body e).next in
        passing.seq_good program g.number holding (run_parts.body g.world calls f f.body)
        (run_parts.arrive g.world f.exit.0 before (runs.ends Next)) (parts.body g analysed f f.body)
        (arrive g f.exit.0 (Some e) (ends Next) t) e n c i (made_sound f.body refl) typed (λ w. (reach w).1)
        (λ x ok later cl.
        arrived f.exit.0 (Some e) before t x.left x.cells x.input ok (λ w. (later w).1)
        (λ w. subst (λ (d : Cells). In e.env d) same (reach (later w).0).1) cl) clean

    function_sound : Sound (run_parts.function g.world calls f) (function g analysed f)
    function_sound s n c i typed covers clean =
        let first = run_parts.arrive g.world f.entry.0 c (runs.ends Next) in
        let rest = remaining c in
        let o = first n c i in
        let a = entry_passed g f s in
        let good = arrived f.entry.0 None c s n c i typed covers refl
        (passing.first_clean program g.number holding o.ending o rest clean) in
        passing.then_good program g.number holding s a (after_entry g analysed f a.next) o.ending o rest good.covered
        good.leaves
        good.typed
        (λ reach cl.
        after_good s a.next c o.left o.cells o.input good.typed (arrive_cells g.world f.entry.0 c n c i) reach cl) clean

  by_function : (calls : ℕ → Part) (analysed : ℕ → Step) → ((n : ℕ) → Sound (calls n) (analysed n)) → (index : ℕ)
      (o : Option Fun) → slice_get program.fns index ≡ o
      → Sound (run_parts.function_if g.world calls o) (function_if g analysed o)
  by_function calls analysed sound index None is = passing.ends_sound program g.number holding Stopped
  by_function calls analysed sound index (Some f) is = function_sound calls analysed sound index f is

  -- a call of a function, at each depth
  pub call_sound : (depth index : ℕ) → Sound (run_parts.call_to g.world depth index) (call_to g depth index)
  call_sound zero index = passing.ends_sound program g.number holding Cut
  call_sound (suc depth) index =
      by_function (run_parts.call_to g.world depth) (call_to g depth) (call_sound depth) index
      (slice_get program.fns index) refl
