-- How a value that is given, and a call, are what the definition says.
use Rattle.std.proofs.Common.{◌≡◌, ℕ, zero, suc, ◌+◌, ◌-◌, ◌<◌, ◌≤◌, ◌++◌, Bool, true, false, List, [], ◌∷◌, append_assoc, length, map, drop, get_or, Option, Some, None, refl, sym, ap, ap₂, subst, ◌∙◌, arith, Result, Ok, Err}
use Rattle.std.specs.Prelude.{IfOk, slice_get}
use Rattle.std.specs.Option.{option_map}
use Rattle.fc_base.specs.declared.ids.SiteId.{SiteId}
use Rattle.c_ir.specs.declared.kind.AlarmKind.{AlarmKind}
use Rattle.c_ir.specs.declared.ty.IntType.{IntType}
use Rattle.c_ir.specs.declared.tree.Expr.{Expr, map-Expr, roll-Expr}
use Rattle.c_ir.specs.declared.tree.Expr.TheFolds.{fold-roll-Expr, ind-Expr}
use Rattle.c_ir.specs.declared.tree.Expr.TheOpen.{Expr-F}
use Rattle.c_ir.specs.declared.tree.Fun.{Fun}
use Rattle.c_ir.specs.declared.tree.Node.{Node}
use Rattle.c_ir.specs.declared.tree.Node.TheVariants as N
use Rattle.std.proofs.lemmas.List.{at_drop_all}
use Rattle.c_runs.specs.Runs.{Next}
use Rattle.c_runs.specs.Statements.{entry_clauses, formals_in}
use Rattle.c_runs.specs.Visits.{Named}
use Rattle.int_value.specs.declared.value.Value.{Value}
use Rattle.abs_cells.specs.Cells.{Env}
use Rattle.abs_state.specs.declared.state.State.{State}
use Rattle.eva_values.specs.Values.{Abstract, abstract_step, abstracted, node_abstract}
use Rattle.eva_rules.specs.Meant.{Assigned, Called, Meant, meant, meant_step, node_meant}
use Rattle.eva_rules.specs.Passing.{Passed, Record, Step, all_pass, changes, ends, evaluated, followed, has_number, mark_records, passed_by, reached_if, recorded, seq}
use Rattle.eva_rules.specs.Points.{Ground, Noted, preconditions_noted, then_pass}
use Rattle.eva_rules.specs.Statements.{Inside, call_to, calling, dropping, entered, entering, filling, function_if, giving, giving_to, leaving, meant_in, program_of, statement, with_args}
use Rattle.eva_rules.specs.Writing.{Writes, nowhere_to, set_cell, set_cells, written, zero_value}
use Rattle.eva_rules.proofs.Meaning.{meant_value}
use Rattle.eva_run.specs.declared.exits.Exits.{Exits}
use Rattle.eva_run.specs.declared.tallies.Tally.{Tally}
use Rattle.eva_run.specs.Code.{Arguments, IsNoted, IsPassed, after_one, alone, arguments, exits_of, tallied, with_records}
use Rattle.eva_run.proofs.Steps.{Done, Going, done_at, drop_step, ended, exits_followed, noted_nothing, passed_at, seq_done, then_noted, then_passed}

-- ---- the parts of an expression

-- the value of what an expression means is the one that eva_values gives
pub value_is : (s : Inside) (e : Expr) → (meant_in s e).value ≡ abstracted s.ground.world.overflow e
value_is s e = meant_value s.ground.world.overflow e

-- ---- arguments

recorded_twice : (xs ys : List Record) (a : Passed) → recorded xs (recorded ys a) ≡ recorded (xs ++ ys) a
recorded_twice xs ys a =
    ap (λ (rs : List Record). with_records (exits_of a) rs) (sym (append_assoc xs ys a.records))

-- the arguments are evaluated, and what follows begins where they end
abbrev pub after_args : Arguments → (List Value → Step) → Passed
after_args a f = recorded a.records (f a.values a.state)

pub with_args_is : (args : List Abstract) (f : List Value → Step) (s : State) → with_args args f s ≡ after_args (arguments args s) f
with_args_is [] f s = refl
with_args_is (a ∷ rest) f s =
    let v = (a.side s.env).value in
    let marks = mark_records s.used (a.marks s.env) in
    let next = reached_if (has_number v) s in
    let more = arguments rest next in
    ap (recorded marks) (with_args_is rest (λ vs. f (v ∷ vs)) next)
    ∙ recorded_twice marks more.records (f (v ∷ more.values) more.state)

-- ---- calls

module _ (number : Named → ℕ) (noting : Bool) (i : Inside) (q : ℕ) (g : ℕ) (convert : Value → Value) (to : Writes) where
  abbrev noted_at : State → Noted
  noted_at s = preconditions_noted i.ground q 0 (entry_clauses (program_of i) (slice_get (program_of i).fns g)) s

  -- from the entered state on
  calling_done : (s u : State) (x y : Exits) (t0 t1 t2 : List Tally)
      → (u ≡ (noted_at s).state) × (t1 ≡ tallied number noting t0 (noted_at s).records)
      → Done number noting t1 t2 x (i.calls g u)
      → y ≡ exits_followed x (exits_of (leaving (program_of i) g convert to x.next))
      → Done number noting t0 t2 y (calling i q g convert to s)
  calling_done s u x y t0 t1 t2 noted done is =
      let last = leaving (program_of i) g convert to in
      let ends : Done number noting t2 t2 (exits_of (last x.next)) (last x.next) = (refl, sym (noted_nothing number noting t2)) in
      let all = seq_done number noting (i.calls g) last u x (exits_of (last x.next)) t1 t2 t2 done ends in
      let here = done_at number noting t1 t2 _ (seq (i.calls g) last) u (noted_at s).state noted.0 all in
      (is ∙ here.0, then_noted number noting t0 t1 t2 (noted_at s).records _ noted.1 here.1)

  pub call_passed : {X : Type 0} (r : Result Exits X) (e : Expr) (args : List Expr) (s : State) (vs : List Value)
      (u w v : State) (body : Exits) (t0 t1 t2 t3 : List Tally)
      → (meant_in i e).call ≡ Some (record { function = g; args = map (abstracted i.ground.world.overflow) args; convert = convert })
      → (vs ≡ (arguments (map (abstracted i.ground.world.overflow) args) s).values)
      × (u ≡ (arguments (map (abstracted i.ground.world.overflow) args) s).state)
      × (t1 ≡ tallied number noting t0 (arguments (map (abstracted i.ground.world.overflow) args) s).records)
      → w ≡ entered i g vs u
      → (v ≡ (noted_at w).state) × (t2 ≡ tallied number noting t1 (noted_at w).records)
      → Done number noting t2 t3 body (i.calls g v)
      → IfOk r (λ y. y ≡ exits_followed body (exits_of (leaving (program_of i) g convert to body.next)))
      → IsPassed number r noting t0 t3 (giving_to i q to e s)
  call_passed r e args s vs u w v body t0 t1 t2 t3 call given is noted done ends =
      let known : Called =
      record { function = g; args = map (abstracted i.ground.world.overflow) args; convert = convert } in
      let a = arguments known.args s in
      let f = entering i q known to in
      let x = exits_followed body (exits_of (leaving (program_of i) g convert to body.next)) in
      let one = calling_done w v body x t1 t2 t3 noted done refl in
      let two = done_at number noting t1 t3 x (calling i q g convert to) w (entered i g a.values a.state) (is ∙ ap₂ (entered i g) given.0 given.1) one in
      let three : Done number noting t0 t3 x (after_args a f) =
      (two.0, then_noted number noting t0 t1 t3 a.records (f a.values a.state).records given.2 two.1) in
      let four = subst (λ (p : Passed). Done number noting t0 t3 x p) (sym (with_args_is known.args f s)) three in
      let five =
      subst (λ (c : Option Called). Done number noting t0 t3 x (giving i q (meant_in i e).value c to s)) (sym call) four in
      ended number noting r t0 t3 x (giving_to i q to e s) ends five

-- ---- values without a call

module _ (number : Named → ℕ) (noting : Bool) (i : Inside) (q : ℕ) (to : Writes) where
  pub given_done : (e : Expr) (s : State) (v : Value) (u : State) (env : Env) (x : Exits) (t0 t1 : List Tally)
      → (meant_in i e).call ≡ None
      → (v ≡ ((abstracted i.ground.world.overflow e).side s.env).value)
      × (u ≡ reached_if (has_number ((abstracted i.ground.world.overflow e).side s.env).value) s)
      × (t1 ≡ tallied number noting t0 (mark_records s.used ((abstracted i.ground.world.overflow e).marks s.env)))
      → env ≡ to v u.env → x ≡ exits_of (ends Next (record { env = env; used = u.used }))
      → Done number noting t0 t1 x (giving_to i q to e s)
  given_done e s v u env x t0 t1 call seen is ends_is =
      let a = abstracted i.ground.world.overflow e in
      let marks = mark_records s.used (a.marks s.env) in
      let one : Done number noting t0 t1 x (giving i q a None to s) = (
        ends_is ∙ ap (λ (z : Env). exits_of (ends Next (record { env = z; used = u.used }))) is
            ∙ ap₂ (λ (w : Value) (y : State). exits_of (changes (to w) y)) seen.0 seen.1,
        then_noted number noting t0 t1 t1 marks [] seen.2 (sym (noted_nothing number noting t1)),
      ) in
      let two = subst (λ (b : Abstract). Done number noting t0 t1 x (giving i q b None to s)) (sym (value_is i e)) one in
      subst (λ (c : Option Called). Done number noting t0 t1 x (giving i q (meant_in i e).value c to s)) (sym call) two

-- ---- assignments and values that are dropped

module _ (number : Named → ℕ) (noting : Bool) (i : Inside) (q : ℕ) where
  pub assign_passed : {X : Type 0} (r : Result Exits X) (e target value : Expr) (s u : State) (w : Writes)
      (t0 t1 t2 : List Tally)
      → (meant_in i e).assign ≡ Some (record {
        target = (meant_in i target).target;
        value = (meant_in i value).value;
        call = (meant_in i value).call;
      })
      → (w ≡ (meant_in i target).target.writes s.env)
      × (u ≡ reached_if ((meant_in i target).target.is_there s.env) s)
      × (t1 ≡ tallied number noting t0 (mark_records s.used ((meant_in i target).target.marks s.env)))
      → IsPassed number r noting t1 t2 (giving_to i q w value u)
      → IsPassed number r noting t0 t2 (dropping i q e s)
  assign_passed r e target value s u w t0 t1 t2 is aimed_at given =
      let t = (meant_in i target).target in
      let marks = mark_records s.used (t.marks s.env) in
      let one = subst (λ (x : Writes). IsPassed number r noting t1 t2 (giving_to i q x value u)) aimed_at.0 given in
      let two = passed_at number noting r t1 t2 (giving_to i q (t.writes s.env) value) u (reached_if (t.is_there s.env) s) aimed_at.1 one in
      let three = then_passed number noting r t0 t1 t2 marks (giving_to i q (t.writes s.env) value (reached_if (t.is_there s.env) s)) aimed_at.2 two in
      subst (λ (a : Option Assigned). IsPassed number r noting t0 t2 (statement i q (meant_in i e).value (meant_in i e).call a s)) (sym is) three

  pub dropped_passed : {X : Type 0} (r : Result Exits X) (e : Expr) (s : State) (t0 t1 : List Tally)
      → (meant_in i e).assign ≡ None → IsPassed number r noting t0 t1 (giving_to i q nowhere_to e s)
      → IsPassed number r noting t0 t1 (dropping i q e s)
  dropped_passed r e s t0 t1 is given =
      subst (λ (a : Option Assigned). IsPassed number r noting t0 t1 (statement i q (meant_in i e).value (meant_in i e).call a s)) (sym is) given

-- ---- brace lists

next_cell : (first k : ℕ) → first + k + 1 ≡ first + (k + 1)
next_cell first k = omega arith

one_less : (count k : ℕ) → k < count → count - k ≡ suc (count - (k + 1))
one_less count k h = omega arith

module _ (i : Inside) (q first count : ℕ) (values : List Expr) where
  pub filling_step : (k : ℕ) (e : Expr) → e ≡ get_or values k e → k < length values → k < count
      → filling i q (first + k) (count - k) (drop k values)
      ≡ giving_to i q (set_cell (first + k)) e ∷ filling i q (first + (k + 1)) (count - (k + 1)) (drop (k + 1) values)
  filling_step k e at within less =
      ap₂ (λ (n : ℕ) (es : List Expr). filling i q (first + k) n es) (one_less count k less)
      (drop_step values k e within ∙ ap (λ (x : Expr). x ∷ drop (k + 1) values) (sym at))
      ∙ ap (λ (x : ℕ). giving_to i q (set_cell (first + k)) e ∷ filling i q x (count - (k + 1)) (drop (k + 1) values))
      (next_cell first k)

none_left : (i : Inside) (q x : ℕ) (values : List Expr) (k : ℕ) → k < length values
    → filling i q x 0 (drop k values) ≡ []
none_left i q x [] k h = absurd (omega (arith, h))
none_left i q x (e ∷ es) zero h = refl
none_left i q x (e ∷ es) (suc k) h = none_left i q x es k (omega (arith, h))

-- there are more values than cells
pub all_filled : (i : Inside) (q x : ℕ) (values : List Expr) (count k : ℕ) → k ≡ count → count < length values
    → filling i q x (count - k) (drop k values) ≡ []
all_filled i q x values count k e h =
    subst (λ (n : ℕ). filling i q x n (drop k values) ≡ []) (sym (nothing_left e)) (none_left i q x values k (omega (arith, e, h)))
  where
    nothing_left : k ≡ count → count - k ≡ 0
    nothing_left e = omega (arith, e)

module _ (number : Named → ℕ) (noting : Bool) (i : Inside) (q : ℕ) where
  pub filled_passed : {X : Type 0} (r : Result Exits X) (x count k : ℕ) (values : List Expr) (exits : Exits)
      (old table : List Tally) (target : Passed) → length values ≤ k
      → IfOk r (λ y. y ≡ exits_followed exits (exits_of (changes (set_cells x count zero_value) exits.next)))
      → Going number noting (filling i q x count (drop k values)) exits old table target
      → IsPassed number r noting old table target
  filled_passed r x count k values exits old table target h is going =
      let last = changes (set_cells x count zero_value) in
      let at = subst (λ (gs : List Step). Going number noting gs exits old table target)
      (at_drop_all (λ (es : List Expr). filling i q x count es) values k h) going in
      let rest = followed (with_records exits at.0) (last exits.next) in
      subst (λ (a : Passed). IsPassed number r noting old table a) at.2
      (ended number noting r old table (exits_of rest) rest is
      (refl, then_noted number noting old table table at.0 [] at.1 (sym (noted_nothing number noting table))))

-- ---- what an assignment is

module _ (overflow : Bool) where
  abbrev node_assign : IntType → Option SiteId → Node Expr (List Expr) → Option Assigned
  node_assign ty site n = (meant_step overflow (map-Expr Expr Meant (meant overflow) (record { ty = ty; site = site; node = n }))).assign

  pub assign_by : (e : Expr) (y : Expr-F Expr) → e ≡ roll-Expr y → (meant overflow e).assign ≡ node_assign y.ty y.site y.node
  unfolding meant
  assign_by e y h =
      ap (λ (x : Expr). (meant overflow x).assign) h
      ∙ ap (λ (m : Meant). m.assign) (fold-roll-Expr Meant (meant_step overflow) y)

-- ---- functions

pub call_is : (g : Ground) (depth n : ℕ) (s : State) → 0 < depth
    → call_to g depth n s ≡ function_if g (call_to g (depth - 1)) (slice_get g.world.program.fns n) s
call_is g depth n s h =
    subst (λ (k : ℕ). call_to g k n s ≡ function_if g (call_to g (depth - 1)) (slice_get g.world.program.fns n) s)
    (sym (up depth h)) refl
  where
    up : (n : ℕ) → 0 < n → n ≡ suc (n - 1)
    up n h = omega arith
