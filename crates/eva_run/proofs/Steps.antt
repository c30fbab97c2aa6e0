-- Parts that follow each other, with what is noted of them.
use Rattle.std.proofs.Common.{◌≡◌, ℕ, zero, suc, ◌+◌, ◌-◌, ◌*◌, ◌<◌, ◌≤◌, ◌++◌, Bool, true, false, List, [], ◌∷◌, append_assoc, length, map, drop, drop-cons, add-one, get_or, min, Option, Some, None, refl, sym, ap, ap₂, subst, ◌∙◌, arith, Result, Ok, Err}
use Rattle.std.specs.Prelude.{IfOk, slice_get}
use Rattle.std.specs.Option.{option_map}
use Rattle.std.proofs.lemmas.List.{at_drop_all}
use Rattle.std.proofs.lemmas.Option.{none-some, same_Some}
use Rattle.c_ir.specs.declared.tree.Expr.{Expr}
use Rattle.c_ir.specs.declared.tree.Fun.{Fun}
use Rattle.c_ir.specs.declared.tree.Stmt.{Stmt, map-Stmt, roll-Stmt}
use Rattle.c_ir.specs.declared.tree.Stmt.TheFolds.{fold-roll-Stmt}
use Rattle.c_ir.specs.declared.tree.Stmt.TheOpen.{Stmt-F}
use Rattle.c_runs.specs.Runs.{Breaks, Ending, Next, Returns, Stopped}
use Rattle.c_runs.specs.Visits.{Named}
use Rattle.abs_cells.specs.Cells.{Env}
use Rattle.abs_state.specs.States.{included_state, joined_state, unreached_state}
use Rattle.abs_state.specs.declared.state.State.{State}
use Rattle.eva_values.specs.Values.{Abstract}
use Rattle.eva_rules.specs.Passing.{Passed, Record, Step, Widening, advanced_env, all_pass, any_env, back, branch, changes, chosen, closed, closing, continuing, either, ends, env_by, followed, left_by, looped, mark_records, next_turn, nothing_passed, nowhere, passed_by, recorded, seq, stable, stable_as, stable_whole, unrolled, whole_env, wide_state}
use Rattle.eva_rules.specs.Points.{Noted, then_pass}
use Rattle.eva_rules.specs.Statements.{Inside, pass, pass_step}
use Rattle.eva_run.specs.declared.exits.Exits.{Exits}
use Rattle.eva_run.specs.declared.inside.Tried.{Tried}
use Rattle.eva_run.specs.declared.inside.Tried.TheVariants.{Stable, Wider}
use Rattle.eva_run.specs.declared.inside.Turned.{Turned}
use Rattle.eva_run.specs.declared.tallies.Tally.{Tally}
use Rattle.eva_run.specs.Code.{IsNoted, IsPassed, after_turn, alone, exits_of, put, tallied, tried_by, with_records}

-- ---- what is noted in two steps

pub noted_two : (number : Named → ℕ) (noting : Bool) (old : List Tally) (xs ys : List Record)
    → tallied number noting (tallied number noting old xs) ys ≡ tallied number noting old (xs ++ ys)
noted_two number false old xs ys = refl
noted_two number true old [] ys = refl
noted_two number true old (x ∷ xs) ys = noted_two number true (put number old x) xs ys

pub then_noted : (number : Named → ℕ) (noting : Bool) (old mid new : List Tally) (xs ys : List Record)
    → mid ≡ tallied number noting old xs → new ≡ tallied number noting mid ys
    → new ≡ tallied number noting old (xs ++ ys)
then_noted number noting old mid new xs ys h k =
    k ∙ ap (λ (ts : List Tally). tallied number noting ts ys) h ∙ noted_two number noting old xs ys

pub noted_nothing : (number : Named → ℕ) (noting : Bool) (table : List Tally)
    → tallied number noting table [] ≡ table
noted_nothing number true table = refl
noted_nothing number false table = refl

pub drop_step : {X : Type 0} (xs : List X) (k : ℕ) (z : X) → k < length xs
    → drop k xs ≡ get_or xs k z ∷ drop (k + 1) xs
drop_step xs k z h = rw (add-one, drop-cons xs k z) refl

-- ---- exits alone

abbrev pub exits_followed : Exits → Exits → Exits
exits_followed a b = exits_of (followed (alone a) (alone b))

abbrev pub exits_either : Exits → Exits → Exits
exits_either a b = exits_of (either (alone a) (alone b))

abbrev pub exits_left : Exits → Exits
exits_left a = exits_of (left_by (alone a))

pub exits_same : (n b c r n' b' c' r' : State) → n ≡ n' → b ≡ b' → c ≡ c' → r ≡ r'
    → ◌≡◌ {A = Exits} (record { next = n; breaks = b; continues = c; returns = r })
    (record { next = n'; breaks = b'; continues = c'; returns = r' })
exits_same n b c r n' b' c' r' p q s t = λ i. record { next = p i; breaks = q i; continues = s i; returns = t i }

-- ---- parts

-- what code knows of a part that was analysed
abbrev pub Done : (Named → ℕ) → Bool → List Tally → List Tally → Exits → Passed → Type 0
Done number noting old new x a = (x ≡ exits_of a) × (new ≡ tallied number noting old a.records)

module _ (number : Named → ℕ) (noting : Bool) where
  pub ended : {X : Type 0} (r : Result Exits X) (old new : List Tally) (x : Exits) (a : Passed)
      → IfOk r (λ y. y ≡ x) → Done number noting old new x a → IsPassed number r noting old new a
  ended (Ok y) old new x a h k = (h ∙ k.0, k.1)
  ended (Err e) old new x a h k = tt

  pub no_more : {X : Type 0} (r : Result Exits X) (old : List Tally) (a : Passed)
      → IfOk r (λ y. y ≡ exits_of a) → a.records ≡ [] → IsPassed number r noting old old a
  no_more (Ok y) old a h e =
      (h, sym (noted_nothing number noting old) ∙ ap (λ (rs : List Record). tallied number noting old rs) (sym e))
  no_more (Err e) old a h k = tt

  pub nothing_done : (old : List Tally) (x : Exits) (a : Passed) → x ≡ exits_of a → a.records ≡ []
      → Done number noting old old x a
  nothing_done old x a h e =
      (h, sym (noted_nothing number noting old) ∙ ap (λ (rs : List Record). tallied number noting old rs) (sym e))

  pub done_at : (old new : List Tally) (x : Exits) (f : Step) (s t : State) → s ≡ t
      → Done number noting old new x (f s) → Done number noting old new x (f t)
  done_at old new x f s t e h = subst (λ (y : State). Done number noting old new x (f y)) e h

  pub passed_at : {X : Type 0} (r : Result Exits X) (old new : List Tally) (f : Step) (s t : State) → s ≡ t
      → IsPassed number r noting old new (f s) → IsPassed number r noting old new (f t)
  passed_at r old new f s t e h = subst (λ (y : State). IsPassed number r noting old new (f y)) e h

  -- records come before what follows them
  pub then_passed : {X : Type 0} (r : Result Exits X) (old mid new : List Tally) (rs : List Record) (a : Passed)
      → mid ≡ tallied number noting old rs → IsPassed number r noting mid new a
      → IsPassed number r noting old new (recorded rs a)
  then_passed (Ok y) old mid new rs a h k = (k.0, then_noted number noting old mid new rs a.records h k.1)
  then_passed (Err e) old mid new rs a h k = tt

  -- what is done at a point, and what follows it
  pub point_passed : {X : Type 0} (r : Result Exits X) (old mid new : List Tally) (s : State) (n : Noted) (f : Step)
      → (s ≡ n.state) × (mid ≡ tallied number noting old n.records) → IsPassed number r noting mid new (f s)
      → IsPassed number r noting old new (then_pass n f)
  point_passed r old mid new s n f h k =
      then_passed r old mid new n.records (f n.state) h.1 (passed_at r mid new f s n.state h.0 k)

  pub point_done : (old new : List Tally) (x : Exits) (s : State) (n : Noted)
      → (s ≡ n.state) × (new ≡ tallied number noting old n.records) → x ≡ exits_of (ends Next s)
      → Done number noting old new x (then_pass n (ends Next))
  point_done old new x s n h k =
      (k ∙ ap (λ (y : State). exits_of (ends Next y)) h.0, then_noted number noting old new new n.records [] h.1 (sym (noted_nothing number noting new)))

  pub followed_done : (a : Passed) (g : Step) (x y : Exits) (t0 t1 t2 : List Tally)
      → Done number noting t0 t1 x a → Done number noting t1 t2 y (g x.next)
      → Done number noting t0 t2 (exits_followed x y) (followed a (g a.next))
  followed_done a g x y t0 t1 t2 h k =
      let b = done_at t1 t2 y g x.next a.next (ap (λ (z : Exits). z.next) h.0) k in
      (ap₂ exits_followed h.0 b.0, then_noted number noting t0 t1 t2 a.records (g a.next).records h.1 b.1)

  pub seq_done : (f g : Step) (s : State) (x y : Exits) (t0 t1 t2 : List Tally)
      → Done number noting t0 t1 x (f s) → Done number noting t1 t2 y (g x.next)
      → Done number noting t0 t2 (exits_followed x y) (seq f g s)
  seq_done f g s x y t0 t1 t2 h k = followed_done (f s) g x y t0 t1 t2 h k

  pub either_done : (a b : Passed) (x y : Exits) (t0 t1 t2 : List Tally)
      → Done number noting t0 t1 x a → Done number noting t1 t2 y b
      → Done number noting t0 t2 (exits_either x y) (either a b)
  either_done a b x y t0 t1 t2 h k =
      (ap₂ exits_either h.0 k.0, then_noted number noting t0 t1 t2 a.records b.records h.1 k.1)

  pub branch_done : (c : Abstract) (f g : Step) (s taken skipped : State) (x y : Exits) (t0 t1 t2 t3 : List Tally)
      → t1 ≡ tallied number noting t0 (mark_records s.used (c.marks s.env))
      → taken ≡ env_by (c.narrowed true) s → skipped ≡ env_by (c.narrowed false) s
      → Done number noting t1 t2 x (f taken) → Done number noting t2 t3 y (g skipped)
      → Done number noting t0 t3 (exits_either x y) (branch c f g s)
  branch_done c f g s taken skipped x y t0 t1 t2 t3 marks one two h k =
      let a = done_at t1 t2 x f taken (env_by (c.narrowed true) s) one h in
      let b = done_at t2 t3 y g skipped (env_by (c.narrowed false) s) two k in
      let both =
      either_done (f (env_by (c.narrowed true) s)) (g (env_by (c.narrowed false) s)) x y t1 t2 t3 a b in
      (both.0, then_noted number noting t0 t1 t3 (mark_records s.used (c.marks s.env)) _ marks both.1)

  pub continuing_done : (f : Step) (s : State) (x y : Exits) (t0 t1 : List Tally) → Done number noting t0 t1 x (f s)
      → y ≡ exits_of (continuing (λ _. alone x) x.next) → Done number noting t0 t1 y (continuing f s)
  continuing_done f s x y t0 t1 h k =
      (k ∙ ap (λ (z : Exits). exits_of (continuing (λ _. alone z) z.next)) h.0, h.1)

  pub closing_done : (f g : Step) (s : State) (x y z : Exits) (t0 t1 : List Tally) → Done number noting t0 t1 x (f s)
      → y ≡ exits_of (g x.next) → ((u : State) → (g u).records ≡ []) → z ≡ exits_of (closed (alone x) (alone y))
      → Done number noting t0 t1 z (closing f g s)
  closing_done f g s x y z t0 t1 h k none is =
      let b = done_at t1 t1 y g x.next (f s).next (ap (λ (w : Exits). w.next) h.0) (nothing_done t1 y (g x.next) k (none x.next)) in (
        is ∙ ap₂ (λ (v w : Exits). exits_of (closed (alone v) (alone w))) h.0 b.0,
        then_noted number noting t0 t1 t1 (f s).records (g (f s).next).records h.1 b.1,
      )

  -- ---- one part of several

  -- the parts that are left, after what passed already, make the whole
  abbrev pub Going : List Step → Exits → List Tally → List Tally → Passed → Type 0
  Going gs x old table target =
      (more : List Record) × (table ≡ tallied number noting old more) × (passed_by gs (with_records x more) ≡ target)

  pub going_init : (gs : List Step) (s b c r : State) (old : List Tally) → b ≡ nowhere → c ≡ nowhere → r ≡ nowhere
      → Going gs (record { next = s; breaks = b; continues = c; returns = r }) old old (all_pass gs s)
  going_init gs s b c r old p q t = (
    [],
    sym (noted_nothing number noting old),
    ap (λ (x : Exits). passed_by gs (alone x)) (exits_same s b c r s nowhere nowhere nowhere refl p q t),
  )

  pub going_step : (g : Step) (gs : List Step) (next breaks continues returns : State) (step : Exits) (b c r : State)
      (old table new : List Tally) (target : Passed)
      → Done number noting table new step (g next) → b ≡ joined_state breaks step.breaks
      → c ≡ joined_state continues step.continues → r ≡ joined_state returns step.returns
      → Going (g ∷ gs) (record { next = next; breaks = breaks; continues = continues; returns = returns }) old table target
      → Going gs (record { next = step.next; breaks = b; continues = c; returns = r }) old new target
  going_step g gs next breaks continues returns step b c r old table new target done bs cs rs going =
      let x : Exits = record { next = next; breaks = breaks; continues = continues; returns = returns } in
      let more = going.0 ++ (g next).records in
      let same : ◌≡◌ {A = Exits} (exits_followed x (exits_of (g next))) (record { next = step.next; breaks = b; continues = c; returns = r }) =
      exits_same (g next).next (joined_state breaks (g next).breaks) (joined_state continues (g next).continues) (joined_state returns (g next).returns) step.next b c r
      (ap (λ (y : Exits). y.next) (sym done.0)) (ap (λ (y : Exits). joined_state breaks y.breaks) (sym done.0) ∙ sym bs)
      (ap (λ (y : Exits). joined_state continues y.continues) (sym done.0) ∙ sym cs)
      (ap (λ (y : Exits). joined_state returns y.returns) (sym done.0) ∙ sym rs) in (
        more,
        then_noted number noting old table new going.0 (g next).records going.1 done.1,
        ap (λ (y : Exits). passed_by gs (with_records y more)) (sym same) ∙ going.2,
      )

  pub going_end : (x : Exits) (old table : List Tally) (target : Passed) → Going [] x old table target
      → Done number noting old table x target
  going_end x old table target k = (ap exits_of k.2, k.1 ∙ ap (λ (a : Passed). tallied number noting old a.records) k.2)

  -- ---- turns

  abbrev pub Turning : Widening → Step → ℕ → Exits → State → List Tally → List Tally → Passed → Type 0
  Turning w f left x s old table target =
      (more : List Record) × (table ≡ tallied number noting old more) × (unrolled w f left (with_records x more) s ≡ target)

  pub turning_init : (w : Widening) (f : Step) (u v : ℕ) (x : Exits) (s : State) (t : List Tally) → u ≡ v
      → x ≡ exits_of nothing_passed → Turning w f (u - 0) x s t t (looped w v f s)
  turning_init w f u v x s t e h = (
    [],
    sym (noted_nothing number noting t),
    ap₂ (λ (n : ℕ) (y : Exits). unrolled w f n (alone y) s) (less e) h,
  )
    where
      less : u ≡ v → u - 0 ≡ v
      less e = omega (arith, e)

  pub turning_step : (w : Widening) (f : Step) (u i : ℕ) (x y left one : Exits) (s t : State) (old table new : List Tally)
      (target : Passed) → i < u → Done number noting table new one (f s)
      → left ≡ exits_left one → y ≡ exits_either x left → t ≡ back (alone one)
      → Turning w f (u - i) x s old table target → Turning w f (u - (i + 1)) y t old new target
  turning_step w f u i x y left one s t old table new target less done lefts ys ts going =
      let k = subst (λ (n : ℕ). Turning w f n x s old table target) (less_one less) going in
      let more = k.0 ++ (f s).records in
      let same : y ≡ exits_either x (exits_left (exits_of (f s))) =
      ys ∙ ap (exits_either x) (lefts ∙ ap exits_left done.0) in
      let back_is : t ≡ back (f s) = ts ∙ ap (λ (z : Exits). back (alone z)) done.0 in (
        more,
        then_noted number noting old table new k.0 (f s).records k.1 done.1,
        ap₂ (λ (z : Exits) (b : State). unrolled w f (u - (i + 1)) (with_records z more) b) same back_is ∙ k.2,
      )
    where
      less_one : i < u → u - i ≡ suc (u - (i + 1))
      less_one h = omega arith

  pub turning_end : {X : Type 0} (r : Result Exits X) (w : Widening) (f : Step) (u i : ℕ) (x last left : Exits) (s st : State)
      (old table new : List Tally) (target : Passed) → u ≤ i → st ≡ stable w f 11 1 s
      → Done number noting table new last (f st) → left ≡ exits_left last → IfOk r (λ y. y ≡ exits_either x left)
      → Turning w f (u - i) x s old table target → IsPassed number r noting old new target
  turning_end r w f u i x last left s st old table new target le settled done lefts h going =
      let end = stable w f 11 1 s in
      let k = subst (λ (n : ℕ). Turning w f n x s old table target) (none_less le) going in
      let at_end = done_at table new last f st end settled done in
      let same = lefts ∙ ap exits_left at_end.0 in
      subst (λ (a : Passed). IsPassed number r noting old new a) k.2
      (ended r old new (exits_either x left) (either (with_records x k.0) (left_by (f end))) h
      (ap (exits_either x) same, then_noted number noting old table new k.0 (f end).records k.1 at_end.1))
    where
      none_less : u ≤ i → u - i ≡ 0
      none_less h = omega arith

-- ---- the stable state

stable_same : {p q : State} → Stable p ≡ Stable q → p ≡ q
stable_same e = cc

wider_same : {p q : State} → Wider p ≡ Wider q → p ≡ q
wider_same e = cc

not_wider : {p q : State} → Wider p ≡ Stable q → ⊥
not_wider e = cc

not_stable : {p q : State} → Stable p ≡ Wider q → ⊥
not_stable e = cc

stable_by : (b : Bool) (s wide rest t : State) (r : Tried) → r ≡ tried_by b s wide → r ≡ Stable t
    → chosen b s rest ≡ t
stable_by true s wide rest t r h k = stable_same (sym h ∙ k)
stable_by false s wide rest t r h k = absurd (not_wider (sym h ∙ k))

wider_by : (b : Bool) (f : State → State) (s wide t : State) (r : Tried) → r ≡ tried_by b s wide → r ≡ Wider t
    → chosen b s (f wide) ≡ f t
wider_by true f s wide t r h k = absurd (not_stable (sym h ∙ k))
wider_by false f s wide t r h k = ap f (wider_same (sym h ∙ k))

-- what comes of a turn, before which the state was s
abbrev pub TriedTurn : (Turned → Env) → Tried → Turned → Type 0
TriedTurn wide r a =
    r ≡ tried_by a.is_stable (record { env = a.old; used = a.next.used }) (wide_state (wide a) a.next.used)

module _ (w : Widening) (f : Step) where
  abbrev pub wider_at : ℕ → Turned → Env
  wider_at n a = advanced_env w n a.old a.next.env

  abbrev pub whole_at : Turned → Env
  whole_at a = whole_env w a.next.env

  twelve : (n : ℕ) → n < 12 → 12 - n ≡ suc (12 - (n + 1))
  twelve n h = omega arith

  pub stable_is : (n : ℕ) (s t target : State) (a : Turned) (r : Tried) → n < 12 → a ≡ after_turn f s
      → TriedTurn (wider_at n) r a → r ≡ Stable t → stable w f (12 - n) n s ≡ target → t ≡ target
  stable_is n s t target a r h e is k going =
      let at = subst (λ (x : Turned). TriedTurn (wider_at n) r x) e is in
      let now = subst (λ (left : ℕ). stable w f left n s ≡ target) (twelve n h) going in
      sym (stable_by (included_state (next_turn f s) s) (stable_as s (next_turn f s))
      (wide_state (advanced_env w n s.env (next_turn f s).env) (next_turn f s).used) _ t r at k) ∙ now

  pub wider_is : (n : ℕ) (s t target : State) (a : Turned) (r : Tried) → n < 12 → a ≡ after_turn f s
      → TriedTurn (wider_at n) r a → r ≡ Wider t → stable w f (12 - n) n s ≡ target
      → stable w f (12 - (n + 1)) (n + 1) t ≡ target
  wider_is n s t target a r h e is k going =
      let at = subst (λ (x : Turned). TriedTurn (wider_at n) r x) e is in
      let now = subst (λ (left : ℕ). stable w f left n s ≡ target) (twelve n h) going in
      sym (wider_by (included_state (next_turn f s) s) (stable w f (12 - (n + 1)) (n + 1)) (stable_as s (next_turn f s))
      (wide_state (advanced_env w n s.env (next_turn f s).env) (next_turn f s).used) t r at k) ∙ now

  -- turn 12, and turn 13 with the whole types
  last_turn : (n : ℕ) (s target : State) → 12 ≤ n → stable w f (12 - n) n s ≡ target → stable w f 0 n s ≡ target
  last_turn n s target h k = subst (λ (left : ℕ). stable w f left n s ≡ target) (none_left n h) k
    where
      none_left : (n : ℕ) → 12 ≤ n → 12 - n ≡ 0
      none_left n h = omega arith

  pub stable_last : (n : ℕ) (s t target : State) (a : Turned) (r : Tried) → 12 ≤ n → a ≡ after_turn f s
      → TriedTurn whole_at r a → r ≡ Stable t → stable w f (12 - n) n s ≡ target → t ≡ target
  stable_last n s t target a r h e is k going =
      let at = subst (λ (x : Turned). TriedTurn whole_at r x) e is in
      sym (stable_by (included_state (next_turn f s) s) (stable_as s (next_turn f s))
      (wide_state (whole_env w (next_turn f s).env) (next_turn f s).used) _ t r at k) ∙ last_turn n s target h going

  settled_by : (t : State) (a : Turned) (v : State) → a ≡ after_turn f t
      → v ≡ chosen a.is_stable (record { env = a.old; used = a.next.used }) (wide_state (any_env w) a.next.used)
      → v ≡ stable_whole w f t
  settled_by t a v e is = is ∙ ap (λ (x : Turned). chosen x.is_stable (record { env = x.old; used = x.next.used }) (wide_state (any_env w) x.next.used)) e

  pub settled_last : {X : Type 0} (q : Result State X) (n : ℕ) (s t target : State) (a b : Turned) (r : Tried) → 12 ≤ n → a ≡ after_turn f s
      → TriedTurn whole_at r a → r ≡ Wider t → b ≡ after_turn f t
      → IfOk q (λ v. v ≡ chosen b.is_stable (record { env = b.old; used = b.next.used }) (wide_state (any_env w) b.next.used))
      → stable w f (12 - n) n s ≡ target → IfOk q (λ v. v ≡ target)
  settled_last (Ok v) n s t target a b r h e is k e' is' going =
      let at = subst (λ (x : Turned). TriedTurn whole_at r x) e is in
      settled_by t b v e' is'
      ∙ sym (wider_by (included_state (next_turn f s) s) (stable_whole w f) (stable_as s (next_turn f s))
      (wide_state (whole_env w (next_turn f s).env) (next_turn f s).used) t r at k) ∙ last_turn n s target h going
  settled_last (Err x) n s t target a b r h e is k e' is' going = tt

-- ---- trees

pub pass_is : (s : Inside) (x : Stmt) (y : Stmt-F Stmt) → x ≡ roll-Stmt y
    → pass s x ≡ pass_step s (map-Stmt Stmt Step (pass s) y)
pass_is s x y h = ap (pass s) h ∙ fold-roll-Stmt Step (pass_step s) y
