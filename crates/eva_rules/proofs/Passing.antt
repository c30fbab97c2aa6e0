-- Parts of an analysis that are put together as parts of runs are, are right where the parts are.
use Rattle.std.proofs.Common.{◌≡◌, ◌⊎◌, ℕ, ℤ, Bool, true, false, not, List, [], ◌∷◌, Option, Some, None, append_assoc, refl, sym, ap, subst, inl, inr}
use Rattle.std.specs.Prelude.{if◌then◌else◌}
use Rattle.std.proofs.lemmas.Bool.{false≢true}
use Rattle.int_interval.specs.Rows.{is_empty}
use Rattle.int_value.specs.Standing.{Stands}
use Rattle.int_value.specs.declared.value.Value.{Value}
use Rattle.int_value.proofs.Cover.{not_empty}
use Rattle.abs_cells.specs.Cells.{Env}
use Rattle.abs_cells.specs.Laws.{In}
use Rattle.abs_cells.proofs.Keeping.{join_keeps}
use Rattle.abs_state.specs.States.{joined_state}
use Rattle.abs_state.specs.declared.state.State.{State}
use Rattle.c_ir.specs.Programs.{Program}
use Rattle.c_rules.specs.Constants.{is_zero}
use Rattle.c_runs.specs.Visits.{Cells, Named, Piece, Between, Visit, all_visits, visits_of}
use Rattle.c_runs.specs.Evaluation.{Evaluation}
use Rattle.c_runs.specs.Parts.{Typed}
use Rattle.c_runs.specs.Runs.{Ending, Next, Breaks, Continues, Returns, Stopped, Cut, Out, Part}
use Rattle.c_runs.specs.Runs as runs
use Rattle.c_runs.specs.Statements as run_parts
use Rattle.eva_values.specs.Laws.{AllMarked, Marked}
use Rattle.eva_values.specs.Values.{Abstract}
use Rattle.eva_values.specs.declared.seen.SiteMark.{SiteMark}
use Rattle.eva_rules.specs.Passing.{Passed, Record, Step, all_pass, back, branch, changes, closed, closing, continuing, either, ends, env_by, evaluated, followed, has_number, mark_records, nowhere, passed_by, reached_if, recorded, seq}
use Rattle.eva_rules.proofs.Cover as cover
use Rattle.eva_rules.proofs.MeaningCovers.{ValueCovers}
use Rattle.eva_rules.proofs.Naming.{AllHaveMarks, HasMark, NamesCover}
use Rattle.eva_rules.proofs.Sets.{all_left, all_next, all_pieces, all_right, clean_both, clean_pieces, pieces_next, within_left, within_or, within_right}

has_number_by : (b : Bool) → b ≡ false → (if b then false else true) ≡ true
has_number_by true is = sym is
has_number_by false is = refl

module _ (p : Program) (number : Named → ℕ) (holding : ℕ → Bool) where
  abbrev Within : List ℕ → Type 0
  Within = cover.Within p number holding

  abbrev Clean : List Visit → Type 0
  Clean = cover.Clean p number holding

  abbrev AllCovered : List Record → List Visit → Type 0
  AllCovered = cover.AllCovered p number holding

  abbrev Covers : State → Cells → Type 0
  Covers = cover.Covers p number holding

  abbrev Reach : State → State → Cells → Type 0
  Reach = cover.Reach p number holding

  abbrev Leaves : State → Passed → Ending → Cells → Type 0
  Leaves = cover.Leaves p number holding

  abbrev Good : State → Passed → Out → Type 0
  Good = cover.Good p number holding

  abbrev Sound : Part → Step → Type 0
  Sound = cover.Sound p number holding

  -- ---- states

  pub reach_left : (s e x : State) (c : Cells) → Reach s e c → Reach s (joined_state e x) c
  reach_left s e x c h = λ w.
      let r = h (within_left p number holding e.used x.used w) in (r.0, (join_keeps e.env x.env c).0 r.1)

  pub reach_right : (s e x : State) (c : Cells) → Reach s x c → Reach s (joined_state e x) c
  reach_right s e x c h = λ w.
      let r = h (within_right p number holding e.used x.used w) in (r.0, (join_keeps e.env x.env c).1 r.1)

  reach_from : (s t e : State) (c : Cells) → (Within t.used → Within s.used) → Reach t e c → Reach s e c
  reach_from s t e c earlier h = λ w. let r = h w in (earlier r.0, r.1)

  -- ---- endings

  leaves_recorded : (s : State) (rs : List Record) (a : Passed) (e : Ending) (c : Cells) → Leaves s a e c
      → Leaves s (recorded rs a) e c
  leaves_recorded s rs a Next c h = h
  leaves_recorded s rs a Breaks c h = h
  leaves_recorded s rs a Continues c h = h
  leaves_recorded s rs a Returns c h = h
  leaves_recorded s rs a Stopped c h = tt
  leaves_recorded s rs a Cut c h = tt

  pub leaves_from : (s t : State) (a : Passed) (e : Ending) (c : Cells) → (Within t.used → Within s.used)
      → Leaves t a e c → Leaves s a e c
  leaves_from s t a Next c earlier h = reach_from s t a.next c earlier h
  leaves_from s t a Breaks c earlier h = reach_from s t a.breaks c earlier h
  leaves_from s t a Continues c earlier h = reach_from s t a.continues c earlier h
  leaves_from s t a Returns c earlier h = reach_from s t a.returns c earlier h
  leaves_from s t a Stopped c earlier h = tt
  leaves_from s t a Cut c earlier h = tt

  pub leaves_left : (s : State) (a b : Passed) (e : Ending) (c : Cells) → Leaves s a e c → Leaves s (either a b) e c
  leaves_left s a b Next c h = reach_left s a.next b.next c h
  leaves_left s a b Breaks c h = reach_left s a.breaks b.breaks c h
  leaves_left s a b Continues c h = reach_left s a.continues b.continues c h
  leaves_left s a b Returns c h = reach_left s a.returns b.returns c h
  leaves_left s a b Stopped c h = tt
  leaves_left s a b Cut c h = tt

  pub leaves_right : (s : State) (a b : Passed) (e : Ending) (c : Cells) → Leaves s b e c → Leaves s (either a b) e c
  leaves_right s a b Next c h = reach_right s a.next b.next c h
  leaves_right s a b Breaks c h = reach_right s a.breaks b.breaks c h
  leaves_right s a b Continues c h = reach_right s a.continues b.continues c h
  leaves_right s a b Returns c h = reach_right s a.returns b.returns c h
  leaves_right s a b Stopped c h = tt
  leaves_right s a b Cut c h = tt

  leaves_followed : (s : State) (a b : Passed) (e : Ending) (c : Cells) → Leaves s b e c → Leaves s (followed a b) e c
  leaves_followed s a b Next c h = h
  leaves_followed s a b Breaks c h = reach_right s a.breaks b.breaks c h
  leaves_followed s a b Continues c h = reach_right s a.continues b.continues c h
  leaves_followed s a b Returns c h = reach_right s a.returns b.returns c h
  leaves_followed s a b Stopped c h = tt
  leaves_followed s a b Cut c h = tt

  -- ---- parts without an arrival

  pub good_from : (s t : State) (a : Passed) (o : Out) → (Within t.used → Within s.used) → Good t a o → Good s a o
  good_from s t a o earlier g = record {
    covered = g.covered;
    leaves = leaves_from s t a o.ending o.cells earlier g.leaves;
    typed = g.typed;
  }

  pub good_left : (s : State) (a b : Passed) (o : Out) → Good s a o → Good s (either a b) o
  good_left s a b o g = record {
    covered = all_left p number holding a.records b.records (all_visits o.pieces) g.covered;
    leaves = leaves_left s a b o.ending o.cells g.leaves;
    typed = g.typed;
  }

  pub good_right : (s : State) (a b : Passed) (o : Out) → Good s b o → Good s (either a b) o
  good_right s a b o g = record {
    covered = all_right p number holding a.records b.records (all_visits o.pieces) g.covered;
    leaves = leaves_right s a b o.ending o.cells g.leaves;
    typed = g.typed;
  }

  pub ends_sound : (e : Ending) → Sound (runs.ends e) (ends e)
  ends_sound Next s n c i typed covers clean = record { covered = tt; leaves = λ w. (w, covers w); typed = typed }
  ends_sound Breaks s n c i typed covers clean = record { covered = tt; leaves = λ w. (w, covers w); typed = typed }
  ends_sound Continues s n c i typed covers clean = record { covered = tt; leaves = λ w. (w, covers w); typed = typed }
  ends_sound Returns s n c i typed covers clean = record { covered = tt; leaves = λ w. (w, covers w); typed = typed }
  ends_sound Stopped s n c i typed covers clean = record { covered = tt; leaves = tt; typed = typed }
  ends_sound Cut s n c i typed covers clean = record { covered = tt; leaves = tt; typed = typed }

  -- cells are changed, and the state is
  pub changed_good : (s : State) (f : Env → Env) (k : Cells → Cells) (n : ℕ) (c : Cells) (i : List ℤ) → Typed p (k c)
      → Covers s c → (Within s.used → In s.env c → In (f s.env) (k c)) → Good s (changes f s) (runs.changes k n c i)
  changed_good s f k n c i typed covers h = record { covered = tt; leaves = λ w. (w, h w (covers w)); typed = typed }

  pub changes_sound : (f : Env → Env) (k : Cells → Cells) → ((c : Cells) → Typed p c → Typed p (k c))
      → ((e : Env) (c : Cells) → Typed p c → In e c → In (f e) (k c)) → Sound (runs.changes k) (changes f)
  changes_sound f k keeps h s n c i typed covers clean =
      changed_good s f k n c i (keeps c typed) covers (λ w all. h s.env c typed all)

  -- what is visited first is recorded first
  pub front_good : (s : State) (rs : List Record) (a : Passed) (x : Piece) (o : Out) → AllCovered rs (visits_of x)
      → Good s a o → Good s (recorded rs a) (runs.after (x ∷ []) o)
  front_good s rs a x o h g = record {
    covered = all_next p number holding rs a.records (visits_of x) (all_visits o.pieces) h g.covered;
    leaves = leaves_recorded s rs a o.ending o.cells g.leaves;
    typed = g.typed;
  }

  -- ---- one after another

  pub first_clean : (e : Ending) (o : Out) (f : Part) → Clean (all_visits (runs.then_run e o f).pieces)
      → Clean (all_visits o.pieces)
  first_clean Next o f h = (clean_pieces p number holding o.pieces (f o.left o.cells o.input).pieces h).0
  first_clean Breaks o f h = h
  first_clean Continues o f h = h
  first_clean Returns o f h = h
  first_clean Stopped o f h = h
  first_clean Cut o f h = h

  -- what the second part is asked, where the first went on
  abbrev pub GoesOn : State → Passed → Passed → Out → Part → Type 0
  GoesOn s a b o f = Reach s a.next o.cells → Clean (all_visits (f o.left o.cells o.input).pieces)
      → Good a.next b (f o.left o.cells o.input)

  pub then_good : (s : State) (a b : Passed) (e : Ending) (o : Out) (f : Part)
      → AllCovered a.records (all_visits o.pieces) → Leaves s a e o.cells → Typed p o.cells → GoesOn s a b o f
      → Clean (all_visits (runs.then_run e o f).pieces) → Good s (followed a b) (runs.then_run e o f)
  then_good s a b Next o f covered leaves typed h clean =
      let last = f o.left o.cells o.input in
      let g = h leaves (clean_pieces p number holding o.pieces last.pieces clean).1 in
      record {
        covered = pieces_next p number holding a.records b.records o.pieces last.pieces covered g.covered;
        leaves = leaves_followed s a b last.ending last.cells
            (leaves_from s a.next b last.ending last.cells (λ w. (leaves w).0) g.leaves);
        typed = g.typed;
      }
  then_good s a b Breaks o f covered leaves typed h clean = record {
    covered = all_left p number holding a.records b.records (all_visits o.pieces) covered;
    leaves = reach_left s a.breaks b.breaks o.cells leaves;
    typed = typed;
  }
  then_good s a b Continues o f covered leaves typed h clean = record {
    covered = all_left p number holding a.records b.records (all_visits o.pieces) covered;
    leaves = reach_left s a.continues b.continues o.cells leaves;
    typed = typed;
  }
  then_good s a b Returns o f covered leaves typed h clean = record {
    covered = all_left p number holding a.records b.records (all_visits o.pieces) covered;
    leaves = reach_left s a.returns b.returns o.cells leaves;
    typed = typed;
  }
  then_good s a b Stopped o f covered leaves typed h clean = record {
    covered = all_left p number holding a.records b.records (all_visits o.pieces) covered;
    leaves = tt;
    typed = typed;
  }
  then_good s a b Cut o f covered leaves typed h clean = record {
    covered = all_left p number holding a.records b.records (all_visits o.pieces) covered;
    leaves = tt;
    typed = typed;
  }

  -- two parts, of which the second is right of what the first leaves
  pub seq_good : (f h : Part) (g : Step) (b : Passed) (s : State) (n : ℕ) (c : Cells) (i : List ℤ) → Sound f g
      → Typed p c → Covers s c
      → ((o : Out) → Typed p o.cells → Reach s (g s).next o.cells → Clean (all_visits (h o.left o.cells o.input).pieces)
      → Good (g s).next b (h o.left o.cells o.input))
      → Clean (all_visits (runs.seq f h n c i).pieces) → Good s (followed (g s) b) (runs.seq f h n c i)
  seq_good f h g b s n c i sound typed covers rest clean =
      let o = f n c i in
      let first = sound s n c i typed covers (first_clean o.ending o h clean) in
      then_good s (g s) b o.ending o h first.covered first.leaves first.typed (λ r k. rest o first.typed r k) clean

  pub seq_sound : (f h : Part) (g k : Step) → Sound f g → Sound h k → Sound (runs.seq f h) (seq g k)
  seq_sound f h g k first second s n c i typed covers clean =
      seq_good f h g (k (g s).next) s n c i first typed covers
      (λ o ok r cl. second (g s).next o.left o.cells o.input ok (λ w. (r w).1) cl) clean

  -- ---- lists of parts, from left to right

  -- a part goes on as these steps do, after what passed already
  abbrev pub Follows : Part → List Step → Type 0
  Follows f gs = (s : State) (a : Passed) (o : Out) → Good s a o
      → Clean (all_visits (runs.then_run o.ending o f).pieces)
      → Good s (passed_by gs a) (runs.then_run o.ending o f)

  none_by : (s : State) (a : Passed) (e : Ending) (o : Out) → AllCovered a.records (all_visits o.pieces)
      → Leaves s a e o.cells → Typed p o.cells → Good s a (runs.then_run e o (runs.ends Next))
  none_by s a Next o covered leaves typed =
      record { covered = all_pieces p number holding a.records o.pieces [] covered tt; leaves = leaves; typed = typed }
  none_by s a Breaks o covered leaves typed = record { covered = covered; leaves = leaves; typed = typed }
  none_by s a Continues o covered leaves typed = record { covered = covered; leaves = leaves; typed = typed }
  none_by s a Returns o covered leaves typed = record { covered = covered; leaves = leaves; typed = typed }
  none_by s a Stopped o covered leaves typed = record { covered = covered; leaves = tt; typed = typed }
  none_by s a Cut o covered leaves typed = record { covered = covered; leaves = tt; typed = typed }

  pub follows_none : Follows (runs.ends Next) []
  follows_none s a o good clean = none_by s a o.ending o good.covered good.leaves good.typed

  abbrev with_pieces : List Piece → Out → Out
  with_pieces ps o = record { pieces = ps; cells = o.cells; input = o.input; left = o.left; ending = o.ending }

  -- pieces in front stay in front
  then_after : (ps : List Piece) (e : Ending) (o : Out) (f : Part)
      → runs.then_run e (runs.after ps o) f ≡ runs.after ps (runs.then_run e o f)
  then_after ps Next o f =
      let last = f o.left o.cells o.input in
      ap (λ (xs : List Piece). with_pieces xs last) (append_assoc ps o.pieces last.pieces)
  then_after ps Breaks o f = refl
  then_after ps Continues o f = refl
  then_after ps Returns o f = refl
  then_after ps Stopped o f = refl
  then_after ps Cut o f = refl

  more_by : (f h : Part) (g : Step) (gs : List Step) → Sound f g → Follows h gs → (s : State) (a : Passed) (e : Ending)
      (o : Out) → AllCovered a.records (all_visits o.pieces) → Leaves s a e o.cells → Typed p o.cells
      → Clean (all_visits (runs.then_run e o (runs.seq f h)).pieces)
      → Good s (passed_by gs (followed a (g a.next))) (runs.then_run e o (runs.seq f h))
  more_by f h g gs first rest s a Next o covered leaves typed clean =
      let b = g a.next in
      let x = f o.left o.cells o.input in
      let next = runs.then_run x.ending x h in
      let same = then_after o.pieces x.ending x h in
      let parts = clean_pieces p number holding o.pieces next.pieces clean in
      let begun = clean_both p number holding o.pieces x.pieces parts.0 (first_clean x.ending x h parts.1) in
      let good = then_good s a b Next o f covered leaves typed
      (λ r k. first a.next o.left o.cells o.input typed (λ w. (r w).1) k) begun in
      subst (λ (y : Out). Good s (passed_by gs (followed a b)) y) same
      (rest s (followed a b) (runs.after o.pieces x) good
      (subst (λ (y : Out). Clean (all_visits y.pieces)) (sym same) clean))
  more_by f h g gs first rest s a Breaks o covered leaves typed clean =
      rest s (followed a (g a.next)) (runs.ended Breaks o)
      (then_good s a (g a.next) Breaks o f covered leaves typed
      (λ r k. first a.next o.left o.cells o.input typed (λ w. (r w).1) k) clean)
      clean
  more_by f h g gs first rest s a Continues o covered leaves typed clean =
      rest s (followed a (g a.next)) (runs.ended Continues o)
      (then_good s a (g a.next) Continues o f covered leaves typed
      (λ r k. first a.next o.left o.cells o.input typed (λ w. (r w).1) k) clean)
      clean
  more_by f h g gs first rest s a Returns o covered leaves typed clean =
      rest s (followed a (g a.next)) (runs.ended Returns o)
      (then_good s a (g a.next) Returns o f covered leaves typed
      (λ r k. first a.next o.left o.cells o.input typed (λ w. (r w).1) k) clean)
      clean
  more_by f h g gs first rest s a Stopped o covered leaves typed clean =
      rest s (followed a (g a.next)) (runs.ended Stopped o)
      (then_good s a (g a.next) Stopped o f covered leaves typed
      (λ r k. first a.next o.left o.cells o.input typed (λ w. (r w).1) k) clean)
      clean
  more_by f h g gs first rest s a Cut o covered leaves typed clean =
      rest s (followed a (g a.next)) (runs.ended Cut o)
      (then_good s a (g a.next) Cut o f covered leaves typed
      (λ r k. first a.next o.left o.cells o.input typed (λ w. (r w).1) k) clean)
      clean

  pub follows_more : (f h : Part) (g : Step) (gs : List Step) → Sound f g → Follows h gs
      → Follows (runs.seq f h) (g ∷ gs)
  follows_more f h g gs first rest s a o good clean =
      more_by f h g gs first rest s a o.ending o good.covered good.leaves good.typed clean

  pub follows_one : (f : Part) (g : Step) → Sound f g → Follows f (g ∷ [])
  follows_one f g sound s a o good clean =
      then_good s a (g a.next) o.ending o f good.covered good.leaves good.typed
      (λ r k. sound a.next o.left o.cells o.input good.typed (λ w. (r w).1) k) clean

  pub pass_sound : (f : Part) (gs : List Step) → Follows f gs → Sound f (all_pass gs)
  pass_sound f gs follows s n c i typed covers clean =
      follows s (ends Next s) (runs.ends Next n c i) (ends_sound Next s n c i typed covers tt) clean

  -- steps for parts, one by one
  abbrev pub AllSound : List Part → List Step → Type 0
  AllSound [] [] = Unit {0}
  AllSound [] (g ∷ gs) = ⊥
  AllSound (f ∷ fs) [] = ⊥
  AllSound (f ∷ fs) (g ∷ gs) = Sound f g × AllSound fs gs

  all_follow : (fs : List Part) (gs : List Step) → AllSound fs gs → Follows (runs.all_run fs) gs
  all_follow [] [] h = follows_none
  all_follow [] (g ∷ gs) h = absurd h
  all_follow (f ∷ fs) [] h = absurd h
  all_follow (f ∷ fs) (g ∷ gs) h = follows_more f (runs.all_run fs) g gs h.0 (all_follow fs gs h.1)

  pub all_sound : (fs : List Part) (gs : List Step) → AllSound fs gs → Sound (runs.all_run fs) (all_pass gs)
  all_sound fs gs h = pass_sound (runs.all_run fs) gs (all_follow fs gs h)

  -- ---- evaluations

  mark_right : (used : List ℕ) (ms : List SiteMark) (v : Visit) → Marked ms v
      → cover.Covered p number holding (mark_records used ms) v
  mark_right used [] v h = absurd h
  mark_right used (m ∷ ms) v (inl is) = inl (sym is.0, λ w. is.1)
  mark_right used (m ∷ ms) v (inr h) = inr (mark_right used ms v h)

  mark_named : (used : List ℕ) (ms : List SiteMark) (v : Visit) → (Within used → ⊥) → HasMark ms v
      → cover.Covered p number holding (mark_records used ms) v
  mark_named used [] v fails h = absurd h
  mark_named used (m ∷ ms) v fails (inl is) = inl (sym is, λ w. absurd (fails w))
  mark_named used (m ∷ ms) v fails (inr h) = inr (mark_named used ms v fails h)

  all_marks_right : (used : List ℕ) (ms : List SiteMark) (vs : List Visit) → AllMarked ms vs
      → AllCovered (mark_records used ms) vs
  all_marks_right used ms [] h = tt
  all_marks_right used ms (v ∷ vs) h = (mark_right used ms v h.0, all_marks_right used ms vs h.1)

  all_marks_named : (used : List ℕ) (ms : List SiteMark) (vs : List Visit) → (Within used → ⊥) → AllHaveMarks ms vs
      → AllCovered (mark_records used ms) vs
  all_marks_named used ms [] fails h = tt
  all_marks_named used ms (v ∷ vs) fails h = (mark_named used ms v fails h.0, all_marks_named used ms vs fails h.1)

  -- marks of these names, which are right if what was used holds
  marks_covered : (used : List ℕ) (ms : List SiteMark) (vs : List Visit) → AllHaveMarks ms vs
      → (Within used → AllMarked ms vs) → AllCovered (mark_records used ms) vs
  marks_covered used ms vs named right = by_used (within_or p number holding used)
    where
      by_used : Within used ⊎ (Within used → ⊥) → AllCovered (mark_records used ms) vs
      by_used (inl w) = all_marks_right used ms vs (right w)
      by_used (inr fails) = all_marks_named used ms vs fails named

  value_good : {A : Type 0} (v : Option A) (f : A → Part) (s : State) (a : Passed) (n : ℕ) (c : Cells) (i : List ℤ)
      → Typed p c → ((x : A) → v ≡ Some x → Clean (all_visits (f x n c i).pieces) → Good s a (f x n c i))
      → Clean (all_visits (runs.with_value v f n c i).pieces) → Good s a (runs.with_value v f n c i)
  value_good None f s a n c i typed h clean = record { covered = tt; leaves = tt; typed = typed }
  value_good (Some x) f s a n c i typed h clean = h x refl clean

  -- an evaluation, and what follows it
  pub course_good :
      {A : Type 0} (q : ℕ) (k : Evaluation A) (f : A → Part) (ms : List SiteMark) (a : Passed) (s : State) (n : ℕ)
      (c : Cells) (i : List ℤ) → Typed p c → AllHaveMarks ms (k c).visits → (Within s.used → AllMarked ms (k c).visits)
      → ((x : A) → (k c).value ≡ Some x → Clean (all_visits (f x n c i).pieces) → Good s a (f x n c i))
      → Clean (all_visits (runs.evaluated q k f n c i).pieces)
      → Good s (recorded (mark_records s.used ms) a) (runs.evaluated q k f n c i)
  course_good q k f ms a s n c i typed named right h clean =
      let rest = runs.with_value (k c).value f n c i in
      front_good s (mark_records s.used ms) a (Between q (k c).visits) rest
      (marks_covered s.used ms (k c).visits named right)
      (value_good (k c).value f s a n c i typed h
      (clean_pieces p number holding (Between q (k c).visits ∷ []) rest.pieces clean).1)

  -- a state that is reached if a test passes, which it does where the state stands for cells
  pub reached_covers : (b : Bool) (s : State) (c : Cells) → (Within s.used → b ≡ true) → Covers s c
      → Covers (reached_if b s) c
  reached_covers true s c passes covers = covers
  reached_covers false s c passes covers = λ w. absurd (false≢true (passes w))

  pub reached_used : (b : Bool) (s : State) → Within (reached_if b s).used → Within s.used
  reached_used true s w = w
  reached_used false s w = w

  has_one : (v : Value) (z : ℤ) → Stands v (Some z) → has_number v ≡ true
  has_one v z h = has_number_by (is_empty v.range) (not_empty v.range z h.0)

  pub evaluated_good : (q : ℕ) (a : Abstract) (k : Evaluation ℤ) (f : ℤ → Part) (g : Value → Step) (s : State) (n : ℕ)
      (c : Cells) (i : List ℤ) → NamesCover a k → ValueCovers p a k → Typed p c → Covers s c
      → ((z : ℤ) → (k c).value ≡ Some z → (t : State) → (Within t.used → Within s.used) → Covers t c
      → (Within s.used → Stands (a.side s.env).value (Some z)) → Clean (all_visits (f z n c i).pieces)
      → Good t (g (a.side s.env).value t) (f z n c i))
      → Clean (all_visits (runs.evaluated q k f n c i).pieces) → Good s (evaluated a g s) (runs.evaluated q k f n c i)
  evaluated_good q a k f g s n c i named right typed covers h clean =
      let v = (a.side s.env).value in
      let t = reached_if (has_number v) s in
      course_good q k f (a.marks s.env) (g v t) s n c i typed (named c s.env)
      (λ w. (right c s.env typed (covers w)).marked)
      (λ z is cl.
      let stands = λ (w : Within s.used). (right c s.env typed (covers w)).value z is in
      good_from s t (g v t) (f z n c i) (reached_used (has_number v) s)
      (h z is t (reached_used (has_number v) s)
      (reached_covers (has_number v) s c (λ w. has_one v z (stands w)) covers) stands cl)) clean

  choose_good : (b : Bool) (f h : Part) (g k : Step) (s t u : State) (n : ℕ) (c : Cells) (i : List ℤ) → Sound f g
      → Sound h k → (Within t.used → Within s.used) → (Within u.used → Within s.used) → (b ≡ false → Covers t c)
      → (b ≡ true → Covers u c) → Typed p c → Clean (all_visits (runs.choose b f h n c i).pieces)
      → Good s (either (g t) (k u)) (runs.choose b f h n c i)
  choose_good true f h g k s t u n c i first second earlier before other one typed clean =
      good_right s (g t) (k u) (h n c i) (good_from s u (k u) (h n c i) before (second u n c i typed (one refl) clean))
  choose_good false f h g k s t u n c i first second earlier before other one typed clean =
      good_left s (g t) (k u) (f n c i) (good_from s t (g t) (f n c i) earlier (first t n c i typed (other refl) clean))

  pub branch_sound : (q : ℕ) (a : Abstract) (e : Evaluation ℤ) (f h : Part) (g k : Step) → NamesCover a e
      → ValueCovers p a e → Sound f g → Sound h k → Sound (runs.branch q e f h) (branch a g k)
  branch_sound q a e f h g k named right first second s n c i typed covers clean =
      let t = env_by (a.narrowed true) s in
      let u = env_by (a.narrowed false) s in
      course_good q e (λ z. runs.choose (is_zero z) f h) (a.marks s.env) (either (g t) (k u)) s n c i typed
      (named c s.env)
      (λ w. (right c s.env typed (covers w)).marked)
      (λ z has cl.
      let left = λ (w : Within s.used). (right c s.env typed (covers w)).left z has in
      choose_good (is_zero z) f h g k s t u n c i first second (λ w. w) (λ w. w)
      (λ is w. subst (λ (b : Bool). In (a.narrowed (not b) s.env) c) is (left w))
      (λ is w. subst (λ (b : Bool). In (a.narrowed (not b) s.env) c) is (left w)) typed cl) clean

  -- ---- jumps

  -- what passed, where `continue` leads on
  abbrev continued : Passed → Passed
  continued a =
      record { next = back a; breaks = a.breaks; continues = nowhere; returns = a.returns; records = a.records }

  continued_leaves : (s : State) (a : Passed) (e : Ending) (c : Cells) → Leaves s a e c
      → Leaves s (continued a) (runs.continued e) c
  continued_leaves s a Next c h = reach_left s a.next a.continues c h
  continued_leaves s a Breaks c h = h
  continued_leaves s a Continues c h = reach_right s a.next a.continues c h
  continued_leaves s a Returns c h = h
  continued_leaves s a Stopped c h = tt
  continued_leaves s a Cut c h = tt

  pub continuing_sound : (f : Part) (g : Step) → Sound f g → Sound (runs.continuing f) (continuing g)
  continuing_sound f g sound s n c i typed covers clean =
      let good = sound s n c i typed covers clean in
      record {
        covered = good.covered;
        leaves = continued_leaves s (g s) (f n c i).ending (f n c i).cells good.leaves;
        typed = good.typed;
      }

  closed_good : (s : State) (a b : Passed) (e : Ending) (o : Out) (h : Part)
      → AllCovered a.records (all_visits o.pieces) → Leaves s a e o.cells → Typed p o.cells → GoesOn s a b o h
      → Clean (all_visits (run_parts.closed e o h).pieces)
      → ((n : ℕ) (d : Cells) (i : List ℤ) → Leaves a.next b (h n d i).ending (h n d i).cells
      → Leaves a.next (closed a b) (h n d i).ending (h n d i).cells)
      → Good s (closed a b) (run_parts.closed e o h)
  closed_good s a b Next o h covered leaves typed rest clean ends_well =
      let last = h o.left o.cells o.input in
      let g = rest leaves (clean_pieces p number holding o.pieces last.pieces clean).1 in
      record {
        covered = pieces_next p number holding a.records b.records o.pieces last.pieces covered g.covered;
        leaves = leaves_from s a.next (closed a b) last.ending last.cells (λ w. (leaves w).0)
            (ends_well o.left o.cells o.input g.leaves);
        typed = g.typed;
      }
  closed_good s a b Breaks o h covered leaves typed rest clean ends_well = record {
    covered = all_left p number holding a.records b.records (all_visits o.pieces) covered;
    leaves = tt;
    typed = typed;
  }
  closed_good s a b Continues o h covered leaves typed rest clean ends_well = record {
    covered = all_left p number holding a.records b.records (all_visits o.pieces) covered;
    leaves = tt;
    typed = typed;
  }
  closed_good s a b Returns o h covered leaves typed rest clean ends_well = record {
    covered = all_left p number holding a.records b.records (all_visits o.pieces) covered;
    leaves = reach_right s b.next a.returns o.cells leaves;
    typed = typed;
  }
  closed_good s a b Stopped o h covered leaves typed rest clean ends_well = record {
    covered = all_left p number holding a.records b.records (all_visits o.pieces) covered;
    leaves = tt;
    typed = typed;
  }
  closed_good s a b Cut o h covered leaves typed rest clean ends_well = record {
    covered = all_left p number holding a.records b.records (all_visits o.pieces) covered;
    leaves = tt;
    typed = typed;
  }

  first_closed : (e : Ending) (o : Out) (f : Part) → Clean (all_visits (run_parts.closed e o f).pieces)
      → Clean (all_visits o.pieces)
  first_closed Next o f h = (clean_pieces p number holding o.pieces (f o.left o.cells o.input).pieces h).0
  first_closed Breaks o f h = h
  first_closed Continues o f h = h
  first_closed Returns o f h = h
  first_closed Stopped o f h = h
  first_closed Cut o f h = h

  -- a body and its end, which ends by no jump
  pub closing_sound : (f h : Part) (g k : Step) → Sound f g → Sound h k
      → ((s : State) (a b : Passed) (n : ℕ) (c : Cells) (i : List ℤ) → Leaves s b (h n c i).ending (h n c i).cells
      → Leaves s (closed a b) (h n c i).ending (h n c i).cells)
      → Sound (run_parts.closing f h) (closing g k)
  closing_sound f h g k first second ends_well s n c i typed covers clean =
      let o = f n c i in
      let a = g s in
      let good = first s n c i typed covers (first_closed o.ending o h clean) in
      closed_good s a (k a.next) o.ending o h good.covered good.leaves good.typed
      (λ r cl. second a.next o.left o.cells o.input good.typed (λ w. (r w).1) cl) clean
      (λ m d j l. ends_well a.next a (k a.next) m d j l)
