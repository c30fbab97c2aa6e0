-- Calls and values: what a statement evaluates at its point is analysed right.
use Rattle.std.proofs.Common.{◌≡◌, ℕ, ℤ, Bool, true, List, [], ◌∷◌, map, Option, Some, None, slice_get, refl, sym, subst}
use Rattle.std.specs.Option.{option_map, option_and_then}
use Rattle.int_value.specs.Standing.{Stands}
use Rattle.int_value.specs.declared.value.Value.{Value}
use Rattle.abs_cells.specs.Cells.{Env, value_in}
use Rattle.abs_cells.specs.Laws.{In}
use Rattle.abs_state.specs.declared.state.State.{State}
use Rattle.c_ir.specs.Formed.{form}
use Rattle.c_ir.specs.Keeps.{Keeps, layout_of, ty_at}
use Rattle.c_ir.specs.Programs.{Program}
use Rattle.c_ir.specs.declared.ty.IntType.{IntType}
use Rattle.c_ir.specs.declared.tree.Expr.{Expr}
use Rattle.c_ir.specs.declared.tree.Fun.{Fun}
use Rattle.c_runs.specs.Visits.{Cells, Between, Visit, all_visits}
use Rattle.c_runs.specs.Evaluation.{Assigning, Calling, Evaluation, meaning}
use Rattle.c_runs.specs.Parts.{IsOf, Typed}
use Rattle.c_runs.specs.Runs.{Out, Part}
use Rattle.c_runs.specs.Runs as runs
use Rattle.c_runs.specs.Statements.{entry_clauses, formals_in, freed, preconditions, result_in, result_of, store, written}
use Rattle.c_runs.specs.Statements as run_parts
use Rattle.c_runs.proofs.Cells.{ToFits, freed_typed, result_typed, some_is, store_typed, written_typed}
use Rattle.c_runs.proofs.Chains.{AllOf}
use Rattle.c_runs.proofs.Typing.{ArgsTyped, AssignTyped, CallTyped, GivesOf, meaning_typed}
use Rattle.eva_values.specs.Values.{Abstract}
use Rattle.eva_values.proofs.Covering.{in_stands}
use Rattle.eva_rules.specs.Meant.{Assigned, Called, meant}
use Rattle.eva_rules.specs.Passing.{Passed, Record, Step, Widening, reached_if}
use Rattle.eva_rules.specs.Passing as passing
use Rattle.eva_rules.specs.Points.{Ground, preconditions_noted}
use Rattle.eva_rules.specs.Statements.{kept_flag, result_value}
use Rattle.eva_rules.specs.Statements as parts
use Rattle.eva_rules.specs.Writing.{Writes, nowhere_to}
use Rattle.eva_rules.proofs.Cover as cover
use Rattle.eva_rules.proofs.Meaning.{ArgsCover, AssignCovers, AssignedCovers, CallCovers, CalledCovers, ValueCovers, WritesTo, meaning_covers}
use Rattle.eva_rules.proofs.Naming.{ArgsNames, AssignNames, AssignedNames, CallNames, NamesCover, names_hold}
use Rattle.eva_rules.proofs.Passing.{changed_good, course_good, evaluated_good, front_good, good_from, reached_covers, reached_used, seq_good}
use Rattle.eva_rules.proofs.Points.{preconditions_good}
use Rattle.eva_rules.proofs.Sets.{clean_parts}
use Rattle.eva_rules.proofs.Writing.{AllStand, freed_in, written_in}

-- ---- results

-- conversions of a call's result go together
abbrev Converts : (Value → Value) → (ℤ → ℤ) → Type 0
Converts f k = (v : Value) (z : ℤ) → Stands v (Some z) → Stands (f v) (Some (k z))

kept_stands : (f : Value → Value) (k : ℤ → ℤ) (v : Value) (o : Option ℤ) → Converts f k → Stands v o
    → Stands (kept_flag v (f v)) (option_map k o)
kept_stands f k v None converts h = h
kept_stands f k v (Some z) converts h = converts v z h

result_stands : (o : Option ℕ) (f : Value → Value) (k : ℤ → ℤ) (e : Env) (c : Cells) → Converts f k → In e c
    → Stands (result_value o f e) (option_map k (option_and_then c o))
result_stands None f k e c converts all = refl
result_stands (Some r) f k e c converts all = kept_stands f k (value_in e r) (c r) converts (in_stands e c r all)

pub dropped : WritesTo nowhere_to None
dropped v o e c h all = all

module _ (g : Ground) (holding : ℕ → Bool) (keeps : Keeps g.world.program) (calls : ℕ → Part) (analysed : ℕ → Step)
    (widening : Widening) (result : Option ℕ)
    (sound : (n : ℕ) → cover.Sound g.world.program g.number holding (calls n) (analysed n)) where
  abbrev program : Program
  program = g.world.program

  abbrev pub run_in : run_parts.Inside
  run_in = record { world = g.world; calls = calls; result = result }

  abbrev pub analysed_in : parts.Inside
  analysed_in = record { ground = g; calls = analysed; widening = widening; result = result }

  abbrev Within : List ℕ → Type 0
  Within = cover.Within program g.number holding

  abbrev Clean : List Visit → Type 0
  Clean = cover.Clean program g.number holding

  abbrev Covers : State → Cells → Type 0
  Covers = cover.Covers program g.number holding

  abbrev Reach : State → State → Cells → Type 0
  Reach = cover.Reach program g.number holding

  abbrev Good : State → Passed → Out → Type 0
  Good = cover.Good program g.number holding

  abbrev Sound : Part → Step → Type 0
  Sound = cover.Sound program g.number holding

  -- if what this state used holds, it is written so
  abbrev Ready : State → Writes → Option ℕ → Type 0
  Ready s w to = Within s.used → WritesTo w to

  -- ---- calls

  leaving_good : (k : Calling) (f : Value → Value) (w : Writes) (to : Option ℕ) (ty : IntType) (s : State) (n : ℕ)
      (c : Cells) (i : List ℤ) → CallTyped program k ty → ToFits program to ty → Converts f k.convert → Ready s w to
      → Typed program c → Covers s c
      → Good s (parts.leaving program k.function f w s) (run_parts.leaving program k.function k.convert to n c i)
  leaving_good k f w to ty s n c i call fits converts ready typed covers =
      let callee = slice_get program.fns k.function in
      let o = result_of callee k.convert c in
      changed_good program g.number holding s (parts.left_env program k.function f w)
      (λ d. freed program k.function (store to (result_of callee k.convert d) d)) n c i
      (freed_typed program k.function (store to o c)
      (store_typed program to o ty c fits
      (result_typed program k.function call.function ty k.convert c keeps call.is_function call.result typed) typed))
      covers
      (λ all inside.
      freed_in program k.function (w (result_value (result_in callee) f s.env) s.env) (store to o c)
      (ready all (result_value (result_in callee) f s.env) o s.env c
      (result_stands (result_in callee) f k.convert s.env c converts inside) inside))

  calling_good : (q : ℕ) (k : Calling) (f : Value → Value) (w : Writes) (to : Option ℕ) (ty : IntType) (s : State)
      (n : ℕ) (c : Cells) (i : List ℤ) → CallTyped program k ty → ToFits program to ty → Converts f k.convert
      → Ready s w to → Typed program c → Covers s c
      → Clean (all_visits (run_parts.calling run_in q k.function k.convert to n c i).pieces)
      → Good s (parts.calling analysed_in q k.function f w s) (run_parts.calling run_in q k.function k.convert to n c i)
  calling_good q k f w to ty s n c i call fits converts ready typed covers clean =
      let cs = entry_clauses program (slice_get program.fns k.function) in
      let vs = preconditions q 0 c cs in
      let noted = preconditions_noted g q 0 cs s in
      let t = noted.state in
      let leaves = run_parts.leaving program k.function k.convert to in
      let o = runs.seq (calls k.function) leaves n c i in
      let both = clean_parts program g.number holding vs (all_visits o.pieces) clean in
      let good = preconditions_good g holding q 0 cs s c covers both.0 in
      let next = (analysed k.function t).next in
      let a = parts.leaving program k.function f w next in
      let rest = seq_good program g.number holding (calls k.function) leaves (analysed k.function) a t n c i
      (sound k.function) typed (λ all. (good.reach all).1)
      (λ x ok reach cl.
      leaving_good k f w to ty next x.left x.cells x.input call fits converts
      (λ all. ready (good.reach (reach all).0).0) ok (λ all. (reach all).1))
      both.1 in
      front_good program g.number holding s noted.records
      (passing.seq (analysed k.function) (parts.leaving program k.function f w) t)
      (Between q vs) o good.covered
      (good_from program g.number holding s t
      (passing.seq (analysed k.function) (parts.leaving program k.function f w) t) o
      (λ all. (good.reach all).0) rest)

  entering_good : (q : ℕ) (m : Called) (k : Calling) (w : Writes) (to : Option ℕ) (ty : IntType) (vs : List Value)
      (zs : List ℤ) (s : State) (n : ℕ) (c : Cells) (i : List ℤ) → CalledCovers program m k
      → (call : CallTyped program k ty) → ToFits program to ty → Ready s w to
      → AllOf (map (ty_at program.cells) call.function.formals) zs → (Within s.used → AllStand vs zs) → Typed program c
      → Covers s c → Clean (all_visits (run_parts.entering run_in q k to zs n c i).pieces)
      → Good s (parts.entering analysed_in q m w vs s) (run_parts.entering run_in q k to zs n c i)
  entering_good q m k w to ty vs zs s n c i covered call fits ready all stand typed covers clean =
      let xs = formals_in (slice_get program.fns k.function) in
      let d = written xs zs c in
      let inside : Typed program d =
      subst (λ (o : Option Fun). Typed program (written (formals_in o) zs c)) (sym call.is_function)
      (written_typed program call.function.formals zs c all typed) in
      subst (λ (j : ℕ). Good s (parts.calling analysed_in q j m.convert w (parts.entered analysed_in j vs s))
      (run_parts.entering run_in q k to zs n c i)) (sym covered.function)
      (good_from program g.number holding s (parts.entered analysed_in k.function vs s)
      (parts.calling analysed_in q k.function m.convert w (parts.entered analysed_in k.function vs s))
      (run_parts.entering run_in q k to zs n c i) (λ x. x)
      (calling_good q k m.convert w to ty (parts.entered analysed_in k.function vs s) n d i call fits covered.convert
      ready inside
      (λ x. written_in xs vs zs s.env c (stand x) (covers x)) clean))

  -- ---- arguments

  args_good : (q : ℕ) (tys : List IntType) (ms : List Abstract) (es : List (Evaluation ℤ)) (f : List ℤ → Part)
      (k : List Value → Step) (s : State) (n : ℕ) (c : Cells) (i : List ℤ) → ArgsTyped program tys es
      → ArgsCover program ms es → ArgsNames ms es → Typed program c → Covers s c
      → ((vs : List Value) (zs : List ℤ) → AllOf tys zs → (t : State) → (Within t.used → Within s.used) → Covers t c
      → (Within t.used → AllStand vs zs) → Clean (all_visits (f zs n c i).pieces) → Good t (k vs t) (f zs n c i))
      → Clean (all_visits (run_parts.with_args q es f n c i).pieces)
      → Good s (parts.with_args ms k s) (run_parts.with_args q es f n c i)
  args_good q [] [] [] f k s n c i of right named typed covers h clean = h [] [] tt s (λ w. w) covers (λ w. tt) clean
  args_good q [] [] (e ∷ es) f k s n c i of right named typed covers h clean = absurd of
  args_good q [] (m ∷ ms) [] f k s n c i of right named typed covers h clean = absurd right
  args_good q [] (m ∷ ms) (e ∷ es) f k s n c i of right named typed covers h clean = absurd of
  args_good q (ty ∷ tys) [] [] f k s n c i of right named typed covers h clean = absurd of
  args_good q (ty ∷ tys) [] (e ∷ es) f k s n c i of right named typed covers h clean = absurd right
  args_good q (ty ∷ tys) (m ∷ ms) [] f k s n c i of right named typed covers h clean = absurd of
  args_good q (ty ∷ tys) (m ∷ ms) (e ∷ es) f k s n c i of right named typed covers h clean =
      let v = (m.side s.env).value in
      evaluated_good program g.number holding q m e (λ z. run_parts.with_args q es (λ zs. f (z ∷ zs)))
      (λ x. parts.with_args ms (λ vs. k (x ∷ vs))) s n c i named.0 right.0 typed covers
      (λ z is t earlier there stands cl.
      args_good q tys ms es (λ zs. f (z ∷ zs)) (λ vs. k (v ∷ vs)) t n c i of.1 right.1 named.1 typed there
      (λ vs zs all u before here stand cl'.
      h (v ∷ vs) (z ∷ zs) (of.0 c typed z is, all) u (λ w. earlier (before w)) here
      (λ w. (stands (earlier (before w)), stand w)) cl') cl) clean

  -- ---- values

  giving_good : (q : ℕ) (a : Abstract) (e : Evaluation ℤ) (m : Option Called) (k : Option Calling) (w : Writes)
      (to : Option ℕ) (ty : IntType) (s : State) (n : ℕ) (c : Cells) (i : List ℤ) → NamesCover a e
      → ValueCovers program a e → GivesOf program ty e → CallNames m k → CallCovers program m k
      → ((x : Calling) → k ≡ Some x → CallTyped program x ty) → ToFits program to ty → Ready s w to → Typed program c
      → Covers s c → Clean (all_visits (run_parts.giving run_in q e k to n c i).pieces)
      → Good s (parts.giving analysed_in q a m w s) (run_parts.giving run_in q e k to n c i)
  giving_good q a e None None w to ty s n c i named right of names call types fits ready typed covers clean =
      let v = (a.side s.env).value in
      evaluated_good program g.number holding q a e (λ z. runs.changes (store to (Some z))) (λ x. passing.changes (w x))
      s n c i
      named right typed covers
      (λ z is t earlier there stands cl.
      changed_good program g.number holding t (w v) (store to (Some z)) n c i
      (store_typed program to (Some z) ty c fits (λ y h. subst (IsOf ty) (some_is h) (of c typed z is)) typed) there
      (λ all inside. ready (earlier all) v (Some z) t.env c (stands (earlier all)) inside)) clean
  giving_good q a e None (Some k) w to ty s n c i named right of names call types fits ready typed covers clean =
      absurd call
  giving_good q a e (Some m) None w to ty s n c i named right of names call types fits ready typed covers clean =
      absurd call
  giving_good q a e (Some m) (Some k) w to ty s n c i named right of names call types fits ready typed covers clean =
      let to_call = types k refl in
      args_good q (map (ty_at program.cells) to_call.function.formals) m.args k.args (run_parts.entering run_in q k to)
      (parts.entering analysed_in q m w) s n c i to_call.args call.args names typed covers
      (λ vs zs all t earlier there stand cl.
      entering_good q m k w to ty vs zs t n c i call to_call fits (λ x. ready (earlier x)) all stand typed there cl)
      clean

  -- the value of an expression, which may be a call, is written to a cell of its type or is dropped
  pub giving_sound : (q : ℕ) (e : Expr) (w : Writes) (to : Option ℕ) (ty : IntType)
      → (form (layout_of program) e).value ≡ true → (form (layout_of program) e).ty ≡ ty → ToFits program to ty
      → WritesTo w to → Sound (run_parts.giving_to run_in q to e) (parts.giving_to analysed_in q w e)
  giving_sound q e w to ty formed is fits ready s n c i typed covers clean =
      let m = meant g.world.overflow e in
      let k = meaning g.world.overflow e in
      let names = names_hold g.world.overflow e in
      let right = meaning_covers program g.world.overflow e in
      let of = meaning_typed program g.world.overflow e in
      giving_good q m.value k.value m.call k.call w to ty s n c i names.value (right.value formed)
      (subst (λ (t : IntType). GivesOf program t k.value) is (of.value formed)) names.call (right.call formed)
      (λ x at. subst (CallTyped program x) is (of.call formed x at)) fits (λ _. ready) typed covers clean

  -- ---- assignments

  assigned_sound : (q : ℕ) (m : Assigned) (k : Assigning) → AssignedNames m k → AssignedCovers program m k
      → AssignTyped program k
      → Sound (runs.evaluated q k.target (λ x. run_parts.giving run_in q k.value k.call (Some x)))
      (parts.aimed m.target (parts.giving analysed_in q m.value m.call))
  assigned_sound q m k named right of s n c i typed covers clean =
      let b = m.target.is_there s.env in
      let w = m.target.writes s.env in
      let t = reached_if b s in
      let a = parts.giving analysed_in q m.value m.call w t in
      let aims = λ (x : Within s.used). right.target c s.env typed (covers x) in
      course_good program g.number holding q k.target (λ x. run_parts.giving run_in q k.value k.call (Some x))
      (m.target.marks s.env) a s n c i typed (named.target c s.env) (λ x. (aims x).marked)
      (λ x is cl.
      let earlier = reached_used program g.number holding b s in
      good_from program g.number holding s t a (run_parts.giving run_in q k.value k.call (Some x) n c i) earlier
      (giving_good q m.value k.value m.call k.call w (Some x) of.ty t n c i named.value right.value of.value named.call
      right.call
      of.call (of.target c typed x is) (λ y. (aims (earlier y)).writes x is) typed
      (reached_covers program g.number holding b s c (λ y. (aims y).there x is) covers) cl)) clean

  statement_sound : (q : ℕ) (e : Expr) (m : Option Assigned) (k : Option Assigning)
      → (form (layout_of program) e).value ≡ true → AssignNames m k → AssignCovers program m k
      → ((x : Assigning) → k ≡ Some x → AssignTyped program x)
      → Sound (run_parts.statement run_in q (meaning g.world.overflow e).value (meaning g.world.overflow e).call k)
      (parts.statement analysed_in q (meant g.world.overflow e).value (meant g.world.overflow e).call m)
  statement_sound q e None None formed named right of =
      giving_sound q e nowhere_to None (form (layout_of program) e).ty formed refl tt dropped
  statement_sound q e None (Some k) formed named right of = absurd right
  statement_sound q e (Some m) None formed named right of = absurd right
  statement_sound q e (Some m) (Some k) formed named right of = assigned_sound q m k named right (of k refl)

  -- an expression whose value is dropped
  pub dropping_sound : (q : ℕ) (e : Expr) → (form (layout_of program) e).value ≡ true
      → Sound (run_parts.dropping run_in q e) (parts.dropping analysed_in q e)
  dropping_sound q e formed =
      statement_sound q e (meant g.world.overflow e).assign (meaning g.world.overflow e).assign formed
      (names_hold g.world.overflow e).assign ((meaning_covers program g.world.overflow e).assign formed)
      ((meaning_typed program g.world.overflow e).assign formed)
