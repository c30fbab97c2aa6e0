-- Loops: the first turns one by one, and then a state that is stable.
use Rattle.std.proofs.Common.{◌≡◌, ◌+◌, ℕ, zero, suc, ℤ, Bool, true, false, List, refl}
use Rattle.abs_cells.specs.Laws.{In}
use Rattle.abs_cells.proofs.Keeping.{join_keeps}
use Rattle.abs_state.specs.States.{included_state}
use Rattle.abs_state.specs.declared.state.State.{State}
use Rattle.abs_state.proofs.Keeping.{included_stands}
use Rattle.c_ir.specs.Programs.{Program}
use Rattle.c_runs.specs.Visits.{Cells, Named, Visit, all_visits}
use Rattle.c_runs.specs.Parts.{Typed}
use Rattle.c_runs.specs.Runs.{Ending, Next, Breaks, Continues, Returns, Stopped, Cut, Out, Part}
use Rattle.c_runs.specs.Runs as runs
use Rattle.eva_rules.specs.Passing.{Passed, Record, Step, Widening, advanced_env, any_env, back, chosen, either, left_by, looped, next_turn, nothing_passed, stable, stable_as, stable_whole, unrolled, whole_env, wide_state}
use Rattle.eva_rules.specs.Writing.{shapes_of}
use Rattle.eva_rules.proofs.Cover as cover
use Rattle.eva_rules.proofs.Passing.{good_from, good_right, leaves_from, leaves_left, leaves_right, reach_left, reach_right}
use Rattle.eva_rules.proofs.Sets.{all_left, all_pieces, all_right, clean_pieces, within_left, within_right}
use Rattle.eva_rules.proofs.Writing.{advanced_in, any_in, whole_in}

module _ (p : Program) (number : Named → ℕ) (holding : ℕ → Bool) where
  abbrev Within : List ℕ → Type 0
  Within = cover.Within p number holding

  abbrev Clean : List Visit → Type 0
  Clean = cover.Clean p number holding

  abbrev AllCovered : List Record → List Visit → Type 0
  AllCovered = cover.AllCovered p number holding

  abbrev Covers : State → Cells → Type 0
  Covers = cover.Covers p number holding

  abbrev Reach : State → State → Cells → Type 0
  Reach = cover.Reach p number holding

  abbrev Leaves : State → Passed → Ending → Cells → Type 0
  Leaves = cover.Leaves p number holding

  abbrev Good : State → Passed → Out → Type 0
  Good = cover.Good p number holding

  abbrev Sound : Part → Step → Type 0
  Sound = cover.Sound p number holding

  again_clean : (e : Ending) (o : Out) (rest : Part) → Clean (all_visits (runs.again e o rest).pieces)
      → Clean (all_visits o.pieces)
  again_clean Next o rest h = (clean_pieces p number holding o.pieces (rest o.left o.cells o.input).pieces h).0
  again_clean Breaks o rest h = h
  again_clean Continues o rest h = (clean_pieces p number holding o.pieces (rest o.left o.cells o.input).pieces h).0
  again_clean Returns o rest h = h
  again_clean Stopped o rest h = h
  again_clean Cut o rest h = h

  -- ---- on a stable state

  -- the cells that come back to the loop's point are those of the state
  abbrev Stays : State → Ending → Cells → Type 0
  Stays s Next c = In s.env c
  Stays s Breaks c = Unit {0}
  Stays s Continues c = In s.env c
  Stays s Returns c = Unit {0}
  Stays s Stopped c = Unit {0}
  Stays s Cut c = Unit {0}

  -- the turns that are left
  abbrev Later : State → Passed → Out → Part → Type 0
  Later s a o rest = Clean (all_visits (rest o.left o.cells o.input).pieces) → Good s a (rest o.left o.cells o.input)

  on_good : (s : State) (a : Passed) (o : Out) (rest : Part) → AllCovered a.records (all_visits o.pieces)
      → Later s (left_by a) o rest → Clean (all_visits (runs.goes_on o rest).pieces)
      → Good s (left_by a) (runs.goes_on o rest)
  on_good s a o rest covered h clean =
      let last = rest o.left o.cells o.input in
      let g = h (clean_pieces p number holding o.pieces last.pieces clean).1 in
      record {
        covered = all_pieces p number holding a.records o.pieces last.pieces covered g.covered;
        leaves = g.leaves;
        typed = g.typed;
      }

  again_stable : (s : State) (a : Passed) (e : Ending) (o : Out) (rest : Part)
      → AllCovered a.records (all_visits o.pieces) → Leaves s a e o.cells → Typed p o.cells
      → (Within s.used → Stays s e o.cells) → (Covers s o.cells → Later s (left_by a) o rest)
      → Clean (all_visits (runs.again e o rest).pieces) → Good s (left_by a) (runs.again e o rest)
  again_stable s a Next o rest covered leaves typed stays h clean = on_good s a o rest covered (h stays) clean
  again_stable s a Continues o rest covered leaves typed stays h clean = on_good s a o rest covered (h stays) clean
  again_stable s a Breaks o rest covered leaves typed stays h clean =
      record { covered = covered; leaves = leaves; typed = typed }
  again_stable s a Returns o rest covered leaves typed stays h clean =
      record { covered = covered; leaves = leaves; typed = typed }
  again_stable s a Stopped o rest covered leaves typed stays h clean =
      record { covered = covered; leaves = tt; typed = typed }
  again_stable s a Cut o rest covered leaves typed stays h clean =
      record { covered = covered; leaves = tt; typed = typed }

  -- the second state is stable: it has the cells of the first, and those that a turn makes of its own
  record Settled (f : Part) (s t : State) : Type 0 where
    pub earlier : Within t.used → Within s.used
    pub stays : (c : Cells) → Typed p c → Within t.used → In s.env c → In t.env c
    pub kept : (n : ℕ) (c : Cells) (i : List ℤ) → Typed p c → Within t.used → In t.env c
        → Clean (all_visits (f n c i).pieces) → Stays t (f n c i).ending (f n c i).cells

  -- the further turn is recorded; that the state is stable is known of the turn before
  turns_stable : (f : Part) (g : Step) → Sound f g → (first s : State) → Settled f first s → (k n : ℕ) (c : Cells)
      (i : List ℤ) → Typed p c → Covers s c → Clean (all_visits (runs.turns k f n c i).pieces)
      → Good s (left_by (g s)) (runs.turns k f n c i)
  turns_stable f g h first s settled zero n c i typed covers clean = record { covered = tt; leaves = tt; typed = typed }
  turns_stable f g h first s settled (suc k) n c i typed covers clean =
      let o = f n c i in
      let rest = runs.turns k f in
      let mine = again_clean o.ending o rest clean in
      let turn = h s n c i typed covers mine in
      again_stable s (g s) o.ending o rest turn.covered turn.leaves turn.typed
      (λ w. settled.kept n c i typed w (covers w) mine)
      (λ there cl. turns_stable f g h first s settled k o.left o.cells o.input turn.typed there cl) clean

  kept_back : (s t : State) (a : Passed) (e : Ending) (c : Cells) → Within (back a).used
      → ((x : Cells) → In (back a).env x → In t.env x) → Leaves s a e c → Stays t e c
  kept_back s t a Next c w sub leaves =
      sub c ((join_keeps a.next.env a.continues.env c).0
      (leaves (within_left p number holding a.next.used a.continues.used w)).1)
  kept_back s t a Breaks c w sub leaves = tt
  kept_back s t a Continues c w sub leaves =
      sub c ((join_keeps a.next.env a.continues.env c).1
      (leaves (within_right p number holding a.next.used a.continues.used w)).1)
  kept_back s t a Returns c w sub leaves = tt
  kept_back s t a Stopped c w sub leaves = tt
  kept_back s t a Cut c w sub leaves = tt

  module _ (w : Widening) (same : w.shapes ≡ shapes_of p) (f : Part) (g : Step) (sound : Sound f g) where
    -- a state that a turn doesn't change is stable
    settled_if : (b : Bool) (s later : State) → (b ≡ true → (c : Cells) → In (next_turn g s).env c → In s.env c)
        → Settled f s later → Settled f s (chosen b (stable_as s (next_turn g s)) later)
    settled_if true s later within settled =
        let t = back (g s) in
        record {
          earlier = λ all. within_left p number holding s.used t.used all;
          stays = λ c typed all k. k;
          kept = λ n c i typed all k clean.
              let o = f n c i in
              let good = sound s n c i typed (λ _. k) clean in
              kept_back s (stable_as s (next_turn g s)) (g s) o.ending o.cells
              (within_right p number holding s.used t.used all)
              (λ x y. within refl x ((join_keeps s.env t.env x).1 y)) good.leaves;
        }
    settled_if false s later within settled = settled

    included_in : (s : State) → included_state (next_turn g s) s ≡ true → (c : Cells) → In (next_turn g s).env c
        → In s.env c
    included_in s is c all = included_stands (next_turn g s) s c is all

    -- by way of another state
    through : (s t u : State) → (Within t.used → Within s.used) → ((c : Cells) → Typed p c → In s.env c → In t.env c)
        → Settled f t u → Settled f s u
    through s t u earlier sub settled = record {
      earlier = λ all. earlier (settled.earlier all);
      stays = λ c typed all k. settled.stays c typed all (sub c typed k);
      kept = settled.kept;
    }

    used_before : (s : State) → Within (next_turn g s).used → Within s.used
    used_before s all = within_left p number holding s.used (back (g s)).used all

    any_stays : (used : List ℕ) (e : Ending) (c : Cells) → Typed p c → Stays (wide_state (any_env w) used) e c
    any_stays used Next c typed = any_in p w c same typed
    any_stays used Breaks c typed = tt
    any_stays used Continues c typed = any_in p w c same typed
    any_stays used Returns c typed = tt
    any_stays used Stopped c typed = tt
    any_stays used Cut c typed = tt

    any_settled : (s : State) → Settled f s (wide_state (any_env w) (next_turn g s).used)
    any_settled s =
        let t = wide_state (any_env w) (next_turn g s).used in
        record {
          earlier = used_before s;
          stays = λ c typed all k. any_in p w c same typed;
          kept = λ n c i typed all k clean.
              any_stays (next_turn g s).used (f n c i).ending (f n c i).cells
              (sound t n c i typed (λ _. k) clean).typed;
        }

    whole_settled : (s : State) → Settled f s (stable_whole w g s)
    whole_settled s =
        settled_if (included_state (next_turn g s) s) s (wide_state (any_env w) (next_turn g s).used) (included_in s)
        (any_settled s)

    stable_settled : (left turn : ℕ) (s : State) → Settled f s (stable w g left turn s)
    stable_settled zero turn s =
        let n = next_turn g s in
        let t = wide_state (whole_env w n.env) n.used in
        settled_if (included_state n s) s (stable_whole w g t) (included_in s)
        (through s t (stable_whole w g t) (used_before s)
        (λ c typed all. whole_in p w n.env c same typed ((join_keeps s.env (back (g s)).env c).0 all))
        (whole_settled t))
    stable_settled (suc left) turn s =
        let n = next_turn g s in
        let t = wide_state (advanced_env w turn s.env n.env) n.used in
        settled_if (included_state n s) s (stable w g left (turn + 1) t) (included_in s)
        (through s t (stable w g left (turn + 1) t) (used_before s)
        (λ c typed all. advanced_in p w turn s.env n.env c same typed ((join_keeps s.env (back (g s)).env c).0 all))
        (stable_settled left (turn + 1) t))

    -- ---- the first turns

    -- what the turns before gave stays
    leaves_kept : (u : ℕ) (s : State) (a : Passed) (t : State) (e : Ending) (c : Cells) → Leaves s a e c
        → Leaves s (unrolled w g u a t) e c
    leaves_kept zero s a t e c h = leaves_left p number holding s a (left_by (g (stable w g 11 1 t))) e c h
    leaves_kept (suc u) s a t e c h =
        leaves_kept u s (either a (left_by (g t))) (back (g t)) e c
        (leaves_left p number holding s a (left_by (g t)) e c h)

    records_kept : (u : ℕ) (a : Passed) (t : State) (vs : List Visit) → AllCovered a.records vs
        → AllCovered (unrolled w g u a t).records vs
    records_kept zero a t vs h = all_left p number holding a.records (g (stable w g 11 1 t)).records vs h
    records_kept (suc u) a t vs h =
        records_kept u (either a (left_by (g t))) (back (g t)) vs
        (all_left p number holding a.records (g t).records vs h)

    first_on : (u : ℕ) (s : State) (a : Passed) (o : Out) (rest : Part) → AllCovered a.records (all_visits o.pieces)
        → Reach s (back (g s)) o.cells
        → (Covers (back (g s)) o.cells → Later (back (g s)) (unrolled w g u a (back (g s))) o rest)
        → Clean (all_visits (runs.goes_on o rest).pieces) → Good s (unrolled w g u a (back (g s))) (runs.goes_on o rest)
    first_on u s a o rest covered reach h clean =
        let last = rest o.left o.cells o.input in
        let b = unrolled w g u a (back (g s)) in
        let good = h (λ all. (reach all).1) (clean_pieces p number holding o.pieces last.pieces clean).1 in
        record {
          covered = all_pieces p number holding b.records o.pieces last.pieces
              (records_kept u a (back (g s)) (all_visits o.pieces) covered) good.covered;
          leaves = leaves_from p number holding s (back (g s)) b last.ending last.cells (λ all. (reach all).0)
              good.leaves;
          typed = good.typed;
        }

    first_turn : (u : ℕ) (s : State) (a : Passed) (e : Ending) (o : Out) (rest : Part)
        → AllCovered (g s).records (all_visits o.pieces) → Leaves s (g s) e o.cells → Typed p o.cells
        → (Covers (back (g s)) o.cells
        → Later (back (g s)) (unrolled w g u (either a (left_by (g s))) (back (g s))) o rest)
        → Clean (all_visits (runs.again e o rest).pieces)
        → Good s (unrolled w g u (either a (left_by (g s))) (back (g s))) (runs.again e o rest)
    first_turn u s a Next o rest covered leaves typed h clean =
        first_on u s (either a (left_by (g s))) o rest
        (all_right p number holding a.records (g s).records (all_visits o.pieces) covered)
        (reach_left p number holding s (g s).next (g s).continues o.cells leaves) h clean
    first_turn u s a Continues o rest covered leaves typed h clean =
        first_on u s (either a (left_by (g s))) o rest
        (all_right p number holding a.records (g s).records (all_visits o.pieces) covered)
        (reach_right p number holding s (g s).next (g s).continues o.cells leaves) h clean
    first_turn u s a Breaks o rest covered leaves typed h clean = record {
      covered = records_kept u (either a (left_by (g s))) (back (g s)) (all_visits o.pieces)
          (all_right p number holding a.records (g s).records (all_visits o.pieces) covered);
      leaves = leaves_kept u s (either a (left_by (g s))) (back (g s)) Next o.cells
          (leaves_right p number holding s a (left_by (g s)) Next o.cells leaves);
      typed = typed;
    }
    first_turn u s a Returns o rest covered leaves typed h clean = record {
      covered = records_kept u (either a (left_by (g s))) (back (g s)) (all_visits o.pieces)
          (all_right p number holding a.records (g s).records (all_visits o.pieces) covered);
      leaves = leaves_kept u s (either a (left_by (g s))) (back (g s)) Returns o.cells
          (leaves_right p number holding s a (left_by (g s)) Returns o.cells leaves);
      typed = typed;
    }
    first_turn u s a Stopped o rest covered leaves typed h clean = record {
      covered = records_kept u (either a (left_by (g s))) (back (g s)) (all_visits o.pieces)
          (all_right p number holding a.records (g s).records (all_visits o.pieces) covered);
      leaves = tt;
      typed = typed;
    }
    first_turn u s a Cut o rest covered leaves typed h clean = record {
      covered = records_kept u (either a (left_by (g s))) (back (g s)) (all_visits o.pieces)
          (all_right p number holding a.records (g s).records (all_visits o.pieces) covered);
      leaves = tt;
      typed = typed;
    }

    unrolled_good : (u : ℕ) (a : Passed) (s : State) (k n : ℕ) (c : Cells) (i : List ℤ) → Typed p c → Covers s c
        → Clean (all_visits (runs.turns k f n c i).pieces) → Good s (unrolled w g u a s) (runs.turns k f n c i)
    unrolled_good zero a s k n c i typed covers clean =
        let t = stable w g 11 1 s in
        let settled = stable_settled 11 1 s in
        good_right p number holding s a (left_by (g t)) (runs.turns k f n c i)
        (good_from p number holding s t (left_by (g t)) (runs.turns k f n c i) settled.earlier
        (turns_stable f g sound s t settled k n c i typed
        (λ all. settled.stays c typed all (covers (settled.earlier all))) clean))
    unrolled_good (suc u) a s zero n c i typed covers clean = record { covered = tt; leaves = tt; typed = typed }
    unrolled_good (suc u) a s (suc k) n c i typed covers clean =
        let o = f n c i in
        let rest = runs.turns k f in
        let turn = sound s n c i typed covers (again_clean o.ending o rest clean) in
        first_turn u s a o.ending o rest turn.covered turn.leaves turn.typed
        (λ there cl. unrolled_good u (either a (left_by (g s))) (back (g s)) k o.left o.cells o.input turn.typed there
        cl) clean

    pub loop_sound : (k : ℕ) → Sound (runs.loop f) (looped w k g)
    loop_sound k s n c i typed covers clean = unrolled_good k nothing_passed s n n c i typed covers clean
