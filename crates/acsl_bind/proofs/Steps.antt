-- Walks within one function: what each leaves as it is, what it adds, and what its value is, where what it makes is the
-- beginning of what the program has.
use Rattle.std.proofs.Common.{◌≡◌, ◌∙◌, ◌==◌, ◌+◌, ◌-◌, ◌&&◌, ℕ, zero, suc, Bool, true, false, List, [], ◌∷◌, ◌++◌, length, map, slice_get, Option, Some, None, is_some, unwrap_or, refl, ap, sym, subst, arith, append_assoc, length-append}
use Rattle.std.proofs.lemmas.Bool.{and_parts, and_from, true≢false, eq-eqb, eqb-true}
use Rattle.std.specs.Prelude.{slice_index_or, if◌then◌else◌}
use Rattle.std.specs.List.{list_all}
use Rattle.std.specs.Option.{option_and_then, option_map}
use Rattle.fc_base.specs.declared.ids.FnId.{FnId}
use Rattle.fc_base.specs.declared.ids.PointId.{PointId}
use Rattle.c_ir.specs.Bodies.{Frame, Stand, AtEntry, AtExit, AtLoop, AtNote, Plain, clauses_are, clause_fits, is_owned, bears, is_own}
use Rattle.c_ir.specs.Formed.{on_some}
use Rattle.c_ir.specs.Keeps.{layout_of, frame_of, ty_at}
use Rattle.c_ir.specs.Numbers.{Numbers, none, both, own_point, count}
use Rattle.c_ir.specs.Programs.{Program}
use Rattle.c_ir.specs.declared.tree.Fun.{Fun}
use Rattle.c_ir.specs.declared.tree.PointClause.{PointClause}
use Rattle.c_ir.specs.declared.tree.PointInfo.{PointInfo}
use Rattle.acsl_terms.specs.Breaches.{Breaches}
use Rattle.acsl_terms.specs.Fits.{Free, ClauseFits}
use Rattle.acsl_bind.specs.Placing.{Made, Went, Placing, Scene, pure, after, new_point, moved_point, moved}
use Rattle.acsl_bind.specs.Programs.{moved_to, moved_by, moved_site, entry_in}
use Rattle.c_types.specs.Noted.{NotesFit}
use Rattle.acsl_bind.proofs.Sites.{Follows, follows, frame_to}

pub no_element : {X : Type 0} {A : Type 0} (x : X) → None ≡ Some x → A
no_element x is = absurd (true≢false (sym (ap is_some is)))

pub some_is : {X : Type 0} (x y : X) → Some x ≡ Some y → x ≡ y
some_is x y is = ap (λ (o : Option _). unwrap_or o x) is

-- ---- numbers

-- they count alike
pub record Same (x y : Numbers) : Type 0 where
  pub at : (a : ℕ) → count a x ≡ count a y

ends_in : (o : Option ℕ) → option_and_then (λ (m : ℕ). Some m) o ≡ o
ends_in None = refl
ends_in (Some k) = refl

pub same0 : (x : Numbers) → Same x x
same0 x = record { at = λ a. refl }

alone : (x : Numbers) (a : ℕ) → count a (both x none) ≡ count a x
alone x a = ends_in (count a x)

pair : (x y : Numbers) (a : ℕ) → count a (both x (both y none)) ≡ count a (both x y)
pair x y a =
    elim (count a x) as (λ (o : Option ℕ). option_and_then (λ m. count m (both y none)) o ≡ option_and_then (λ m. count m y) o) [ None ↦ refl | Some k ↦ alone y k ]

three : (x y z : Numbers) (a : ℕ) → count a (both x (both y (both z none))) ≡ count a (both (both x y) z)
three x y z a =
    elim (count a x) as (λ (o : Option ℕ). option_and_then (λ m. count m (both y (both z none))) o ≡ option_and_then (λ m. count m z) (option_and_then (λ m. count m y) o)) [ None ↦ refl | Some k ↦ pair y z k ]

four : (x y z u : Numbers) (a : ℕ) → count a (both x (both y (both z (both u none)))) ≡ count a (both (both (both x y) z) u)
four x y z u a =
    elim (count a x) as (λ (o : Option ℕ). option_and_then (λ m. count m (both y (both z (both u none)))) o ≡ option_and_then (λ m. count m u) (option_and_then (λ m. count m z) (option_and_then (λ m. count m y) o))) [ None ↦ refl | Some k ↦ three y z u k ]

pub same1 : (x : Numbers) → Same (both x none) x
same1 x = record { at = alone x }

pub same2 : (x y : Numbers) → Same (both x (both y none)) (both x y)
same2 x y = record { at = pair x y }

pub same3 : (x y z : Numbers) → Same (both x (both y (both z none))) (both (both x y) z)
same3 x y z = record { at = three x y z }

pub same4 : (x y z u : Numbers) → Same (both x (both y (both z (both u none)))) (both (both (both x y) z) u)
same4 x y z u = record { at = four x y z u }

-- one group after another
pub grouped : (x y z : Numbers) (a : ℕ) → count a (both x (both y z)) ≡ count a (both (both x y) z)
grouped x y z a =
    elim (count a x) as (λ (o : Option ℕ). option_and_then (λ m. count m (both y z)) o ≡ option_and_then (λ m. count m z) (option_and_then (λ m. count m y) o)) [ None ↦ refl | Some k ↦ refl ]

then_count : (o : Option ℕ) (y v : Numbers) → Same y v → option_and_then (λ m. count m y) o ≡ option_and_then (λ m. count m v) o
then_count None y v h = refl
then_count (Some k) y v h = h.at k

pub both_same : (x u y v : Numbers) → Same x u → Same y v → Same (both x y) (both u v)
both_same x u y v h k = record { at = λ a. ap (option_and_then (λ m. count m y)) (h.at a) ∙ then_count (count a u) y v k }

-- numbers after others
pub two : (x y : Numbers) (a b : ℕ) (o : Option ℕ) → count a x ≡ Some b → count b y ≡ o → count a (both x y) ≡ o
two x y a b o p q = rw p q

split_at : (o : Option ℕ) (y : Numbers) (k : ℕ) → option_and_then (λ m. count m y) o ≡ Some k → (mid : ℕ) × (o ≡ Some mid) × (count mid y ≡ Some k)
split_at None y k is = no_element k is
split_at (Some mid) y k is = (mid, refl, is)

pub split : (x y : Numbers) (a k : ℕ) → count a (both x y) ≡ Some k → (mid : ℕ) × (count a x ≡ Some mid) × (count mid y ≡ Some k)
split x y a k is = split_at (count a x) y k is

own_by : (n a k : ℕ) (b : Bool) → (n == a) ≡ b → (if b then Some (a + 1) else None) ≡ Some k → (n ≡ a) × (k ≡ a + 1)
own_by n a k true e is = (eqb-true n a e, sym (some_is (a + 1) k is))
own_by n a k false e is = no_element k is

-- a point that counts on is the next one
pub own_count : (p : PointId) (a k : ℕ) → count a (own_point p) ≡ Some k → (p.0 ≡ a) × (k ≡ a + 1)
own_count p a k is = own_by p.0 a k (p.0 == a) refl is

-- ---- lists that begin with others

pub record Starts {A : Type 0} (all some : List A) : Type 0 where
  pub more : List A
  pub is : all ≡ some ++ more

pub starts_less : {A : Type 0} (all xs ys : List A) → Starts all (xs ++ ys) → Starts all xs
starts_less all xs ys e = record { more = ys ++ e.more; is = e.is ∙ append_assoc xs ys e.more }

pub at_end : {A : Type 0} (xs : List A) (y : A) (more : List A) → slice_get ((xs ++ y ∷ []) ++ more) (length xs) ≡ Some y
at_end [] y more = refl
at_end (x ∷ xs) y more = at_end xs y more

pub index_end : {A : Type 0} (xs : List A) (y : A) (more : List A) (d : A) → slice_index_or ((xs ++ y ∷ []) ++ more) (length xs) d ≡ y
index_end [] y more d = refl
index_end (x ∷ xs) y more d = index_end xs y more d

-- ---- a function of the old program, and what the new program has

pub record Whole : Type 0 where
  pub program : Program
  pub scene : Scene
  pub function : Fun
  pub is_function : slice_get program.fns scene.function.0 ≡ Some function
  -- the new numbers of all functions' points, and the new points
  pub moves : List (List ℕ)
  pub points : List PointInfo
  pub notes : NotesFit program.cells scene.spots
  pub clause : ClauseFits

abbrev pub old : Whole → Frame
old w = frame_of w.program w.scene.function.0 w.function

abbrev pub new : Whole → Frame
new w = frame_to (old w) (map (moved_site w.program w.moves) w.program.sites) w.points

-- the new numbers of the function's points
abbrev pub moves_of : Whole → List ℕ
moves_of w = slice_index_or w.moves w.scene.function.0 []

abbrev pub first : Whole → ℕ
first w = w.function.entry.0

pub record Begins (w : Whole) (m : Made) : Type 0 where
  pub points : Starts w.points m.points
  pub moved : Starts (moves_of w) m.moved

-- a walk over what has these old points, with these new ones: the old ones count on from what was moved before
pub record Part {X : Type 0} (w : Whole) (m : Made) (v : Went X) (Q : Type 0) (olds news : Numbers) : Type 0 where
  pub back : Begins w v.made → Begins w m
  pub good : (k : ℕ) → count (first w + length m.moved) olds ≡ Some k → Begins w v.made → Free v.breaches → Q
  pub moved : (k : ℕ) → count (first w + length m.moved) olds ≡ Some k → k ≡ first w + length v.made.moved
  pub points : count (length m.points) news ≡ Some (length v.made.points)

-- one that adds no points
pub still_part : {X : Type 0} (w : Whole) (m : Made) (x : X) (b : Breaches) (Q : Type 0) → (Free b → Q) → Part w m (record { value = x; made = m; breaches = b }) Q none none
still_part w m x b Q h = record {
  back = λ g. g;
  good = λ k is g free. h free;
  moved = λ k is. sym (some_is _ _ is);
  points = refl;
}

pub pure_part : {X : Type 0} (w : Whole) (m : Made) (x : X) → Part w m (pure x m) (Unit {0}) none none
pure_part w m x = still_part w m x _ (Unit {0}) (λ free. tt)

pub then_part : {X Y : Type 0} {w : Whole} {m : Made} {a : Went X} {b : Went Y} {Q R : Type 0} {xs ps ys qs : Numbers} → Part w m a Q xs ps → Part w a.made b R ys qs → Part w m (after a b) (Q × R) (both xs ys) (both ps qs)
then_part {X} {Y} {w} {m} {a} {b} {Q} {R} {xs} {ps} {ys} {qs} p q = record {
  back = λ g. p.back (q.back g);
  good = λ k is g free.
      let s = split xs ys (first w + length m.moved) k is in
      let rest = subst (λ (n : ℕ). count n ys ≡ Some k) (p.moved s.0 s.1) s.2 in
      (p.good s.0 s.1 (q.back g) free.0, q.good k rest g free.1);
  moved = λ k is.
      let s = split xs ys (first w + length m.moved) k is in
      q.moved k (subst (λ (n : ℕ). count n ys ≡ Some k) (p.moved s.0 s.1) s.2);
  points = two ps qs (length m.points) (length a.made.points) (Some (length b.made.points)) p.points q.points;
}

pub as_part : {X : Type 0} {w : Whole} {m : Made} {v : Went X} {Q : Type 0} {xs ps : Numbers} (R : Type 0) (ys qs : Numbers) → (Q → R) → Same xs ys → Same ps qs → Part w m v Q xs ps → Part w m v R ys qs
as_part {X} {w} {m} {v} {Q} {xs} {ps} R ys qs f h g p = record {
  back = p.back;
  good = λ k is b free. f (p.good k (h.at _ ∙ is) b free);
  moved = λ k is. p.moved k (h.at _ ∙ is);
  points = sym (g.at _) ∙ p.points;
}

-- ---- points

-- clauses that may stand there
abbrev pub Stands : Whole → Stand → List PointClause → Type 0
Stands w stand clauses = (clauses_are stand (length clauses) && list_all (clause_fits (new w) stand) clauses) ≡ true

pub grown : {A : Type 0} (xs : List A) (x : A) → length (xs ++ x ∷ []) ≡ length xs + 1
grown xs x = length-append xs (x ∷ [])

owner_of : (f : Frame) (stand : Stand) (o : Option PointInfo) → on_some (bears f stand) o ≡ true → (info : PointInfo) × (o ≡ Some info) × (info.owner.0 ≡ f.function)
owner_of f stand None is = absurd (true≢false (sym is))
owner_of f stand (Some info) is = (info, refl, eqb-true _ _ (and_parts _ _ is).0)

-- the point is one of the function
pub owned : (f : Frame) (stand : Stand) (p : PointId) → is_own f stand p ≡ true → (info : PointInfo) × (slice_get f.points p.0 ≡ Some info) × (info.owner.0 ≡ f.function)
unfolding is_own
owned f stand p is = owner_of f stand (slice_get f.points p.0) is

abbrev the_point : ℕ → PointId
the_point n = record { 0 = n }

back_off : (e n : ℕ) → (e + n) - e ≡ n
back_off e n = omega arith

-- the new number of the function's point that is so many points after the first
pub moved_is : (w : Whole) (stand : Stand) (p : PointId) (before more : List ℕ) (n : ℕ) → is_own (old w) stand p ≡ true → p.0 ≡ first w + length before → moves_of w ≡ (before ++ n ∷ []) ++ more → moved_to w.program w.moves p ≡ record { 0 = n }
unfolding moved_to
moved_is w stand p before more n own at is =
    let o = owned (old w) stand p own in
    let fns = w.program.fns in
    ap (λ (i : Option PointInfo). moved_by fns w.moves p i) o.1
    ∙ ap (λ (f : ℕ). the_point (slice_index_or (slice_index_or w.moves f []) (p.0 - entry_in (slice_get fns f)) 0)) o.2
    ∙ ap (λ (f : Option Fun). the_point (slice_index_or (moves_of w) (p.0 - entry_in f) 0)) w.is_function
    ∙ ap (λ (k : ℕ). the_point (slice_index_or (moves_of w) (k - first w) 0)) at
    ∙ ap (λ (k : ℕ). the_point (slice_index_or (moves_of w) k 0)) (back_off (first w) (length before))
    ∙ ap (λ (ns : List ℕ). the_point (slice_index_or ns (length before) 0)) is
    ∙ ap (λ (k : ℕ). the_point (k)) (index_end before n more 0)

-- what is known of a point that got a new number
pub record Moved_point (w : Whole) (stand : Stand) (p q : PointId) (clauses : List PointClause) : Type 0 where
  pub own : Stands w stand clauses → is_own (new w) stand q ≡ true
  pub follows : Follows w.program.sites (map (moved_site w.program w.moves) w.program.sites) p q

own_at : (w : Whole) (stand : Stand) (m : Made) (info : PointInfo) → info.owner.0 ≡ w.scene.function.0 → Starts w.points (m.points ++ info ∷ []) → Stands w stand info.clauses → is_own (new w) stand (record { 0 = length m.points }) ≡ true
unfolding is_own
own_at w stand m info owner starts stands =
    subst (λ (ps : List PointInfo). on_some (bears (new w) stand) (slice_get ps (length m.points)) ≡ true) (sym starts.is)
    (ap (on_some (bears (new w) stand)) (at_end m.points info starts.more) ∙ and_from _ _ (eq-eqb _ _ owner) stands)

pub point_part : (w : Whole) (was stand : Stand) (p : PointId) (clauses : List PointClause) (m : Made) → is_own (old w) was p ≡ true → Part w m (moved w.scene p clauses m) (Moved_point w stand p (moved w.scene p clauses m).value clauses) (own_point p) (own_point (moved w.scene p clauses m).value)
unfolding moved_point
point_part w was stand p clauses m own = record {
  back = λ g. record { points = starts_less _ m.points _ g.points; moved = starts_less _ m.moved _ g.moved };
  good = λ k is g free.
      let here = own_count p _ k is in
      record {
        own = λ stands. own_at w stand m _ refl g.points stands;
        follows = follows w.program w.moves p _ (moved_is w was p m.moved g.moved.more (length m.points) own here.0 g.moved.is);
      };
  moved = λ k is.
      let here = own_count p _ k is in
      let more = grown m.moved (length m.points) in
      omega (arith, here.1, more);
  points = rw (eq-eqb (length m.points) (length m.points) refl) (ap (λ (n : ℕ). Some n) (sym (grown m.points _)));
}

-- a point more, which the old program had not
pub new_point_part : (w : Whole) (stand : Stand) (clauses : List PointClause) (c : PointClause) (m : Made) → Part w m (new_point w.scene.function c.line clauses m) (Stands w stand clauses → is_own (new w) stand (new_point w.scene.function c.line clauses m).value ≡ true) none (own_point (new_point w.scene.function c.line clauses m).value)
unfolding new_point
new_point_part w stand clauses c m = record {
  back = λ g. record { points = starts_less _ m.points _ g.points; moved = g.moved };
  good = λ k is g free stands. own_at w stand m _ refl g.points stands;
  moved = λ k is. sym (some_is _ _ is);
  points = rw (eq-eqb (length m.points) (length m.points) refl) (ap (λ (n : ℕ). Some n) (sym (grown m.points _)));
}
