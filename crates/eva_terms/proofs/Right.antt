-- What is said of predicates is right, and narrowing keeps cells: one induction over the tree.
use Rattle.std.proofs.Common.{◌≡◌, ℕ, zero, suc, ℤ, pos, neg_ℤ, Bool, true, false, not, ◌&&◌, ◌||◌, cond, List, [], ◌∷◌, Option, Some, None, slice_get, refl, sym, subst}
use Rattle.std.proofs.lemmas.Bool.{false≢true, true≢false}
use Rattle.std.specs.Option.{option_and_then, option_map}
use Rattle.fc_base.specs.declared.relation.Relation.{Relation}
use Rattle.fc_base.specs.declared.relation.Relation.TheVariants as R
use Rattle.fc_base.specs.declared.syntax.NoteOp.{NoteOp}
use Rattle.fc_base.specs.declared.syntax.NoteOp.TheVariants as O
use Rattle.int_value.specs.Rows.{number_row}
use Rattle.int_value.specs.Standing.{Holds, Stands}
use Rattle.int_value.specs.declared.value.Value.{Value}
use Rattle.int_value.proofs.Cover.{number_covers, or_left, or_right}
use Rattle.c_ir.specs.declared.tree.Pred.{Pred, map-Pred, roll-Pred}
use Rattle.c_ir.specs.declared.tree.Pred.TheFolds.{fold-roll-Pred, ind-Pred}
use Rattle.c_ir.specs.declared.tree.Pred.TheOpen.{Pred-F}
use Rattle.c_runs.specs.Truth as runs
use Rattle.c_runs.specs.Truth.{Says, View, holds, related, relates, says, says_step}
use Rattle.abs_cells.specs.Cells.{Env, value_in}
use Rattle.abs_cells.specs.Laws.{Contents, In, Names, StandFor}
use Rattle.abs_cells.specs.Relations.{narrow_both, on_env, opposite_of}
use Rattle.abs_cells.specs.declared.narrowing.Side.{Side}
use Rattle.abs_cells.proofs.Keeping.{join_keeps, narrow_keeps}
use Rattle.eva_terms.specs.Laws.{Fits, PredicatesNarrow, TruthsAreRight}
use Rattle.eva_terms.specs.Shown.{Narrowing, Shown, Sight, a_relation, a_term, a_truth, before, binding, guarded, in_entry, in_turn, joined, narrow_and, narrow_not, narrow_nothing, narrow_or, narrow_related, narrow_row, narrow_sides, not_zero, shown, shown_step, side_of, sight_of, truth_row, unless_refuted}
use Rattle.eva_terms.specs.Terms.{bound_or, combined, element_term, negated}
use Rattle.eva_terms.specs.Truths.{not_truth}
use Rattle.eva_terms.specs.declared.answer.Truth.{Truth}
use Rattle.eva_terms.specs.declared.answer.Truth.TheVariants.{Yes, No, Maybe}
use Rattle.eva_terms.proofs.Tables.{and_fits, forall_fits, implies_fits, not_fits, or_fits, related_fits, relates_is, relates_not, same_fits}
use Rattle.eva_terms.proofs.Values.{cell_right, combined_right, element_right, negated_right}

-- ---- what a sight stands for

-- each bound name's value stands for its number
Bind : List Value → List ℤ → Type 0
Bind [] [] = Unit {0}
Bind [] (z ∷ zs) = ⊥
Bind (v ∷ vs) [] = ⊥
Bind (v ∷ vs) (z ∷ zs) = Holds v z × Bind vs zs

record Sees (s : Sight) (v : View) : Type 0 where
  now : In s.now v.now
  entry : In s.entry v.entry
  bound : Bind s.bound v.bound

bound_right : (vs : List Value) (zs : List ℤ) (n : ℕ) → Bind vs zs
    → Stands (bound_or (slice_get vs n)) (slice_get zs n)
unfolding Bind
bound_right [] [] n h = refl
bound_right [] (z ∷ zs) n h = absurd h
bound_right (v ∷ vs) [] n h = absurd h
bound_right (v ∷ vs) (z ∷ zs) zero h = h.0
bound_right (v ∷ vs) (z ∷ zs) (suc n) h = bound_right vs zs n h.1

-- the cell that a term is has what the term has
abbrev IsCell : Option ℕ → Contents → Option ℤ → Type 0
IsCell None c o = Unit {0}
IsCell (Some x) c o = c x ≡ o

-- ---- narrowing

on_env_in : (f : List Value → Env) (e : Env) (c : Contents)
    → ((now : List Value) → StandFor now c → In (f now) c)
    → In e c → In (on_env f e) c
on_env_in f None c keeps h = absurd h
on_env_in f (Some now) c keeps h = keeps now h

module _ (entry : Env) (bound : List Value) (c : Contents) where
  abbrev Keeps : Narrowing → Bool → Type 0
  Keeps n taken = (now : List Value) → StandFor now c → In (n taken entry bound now) c

  in_turn_keeps : (a b : Narrowing) (x y : Bool) → Keeps a x → Keeps b y → (now : List Value)
      → StandFor now c
      → In (in_turn a x b y entry bound now) c
  in_turn_keeps a b x y f g now s = on_env_in (b y entry bound) (a x entry bound now) c g (f now s)

  and_keeps : (a b : Narrowing) (x y : Bool) → Keeps a x → Keeps b y → Keeps (narrow_and a b) (x && y)
  and_keeps a b true true f g now s = in_turn_keeps a b true true f g now s
  and_keeps a b true false f g now s =
      (join_keeps (a false entry bound now) (in_turn a true b false entry bound now) c).1
      (in_turn_keeps a b true false f g now s)
  and_keeps a b false y f g now s =
      (join_keeps (a false entry bound now) (in_turn a true b false entry bound now) c).0 (f now s)

  or_keeps : (a b : Narrowing) (x y : Bool) → Keeps a x → Keeps b y → Keeps (narrow_or a b) (x || y)
  or_keeps a b true y f g now s =
      (join_keeps (a true entry bound now) (in_turn a false b true entry bound now) c).0 (f now s)
  or_keeps a b false true f g now s =
      (join_keeps (a true entry bound now) (in_turn a false b true entry bound now) c).1
      (in_turn_keeps a b false true f g now s)
  or_keeps a b false false f g now s = in_turn_keeps a b false false f g now s

  not_keeps : (a : Narrowing) (x : Bool) → Keeps a x → Keeps (narrow_not a) (not x)
  not_keeps a true f = f
  not_keeps a false f = f

  nothing_keeps : (x : Bool) → Keeps narrow_nothing x
  nothing_keeps x now s = s

  unless_keeps : (t : Truth) (x : Bool) (e : Env) → Fits t x → In e c → In (unless_refuted x t e) c
  unless_keeps Yes true e h k = k
  unless_keeps Yes false e h k = absurd (false≢true h)
  unless_keeps No true e h k = absurd (true≢false h)
  unless_keeps No false e h k = k
  unless_keeps Maybe true e h k = k
  unless_keeps Maybe false e h k = k

  guarded_keeps : (truth : Sight → Truth) (n : Narrowing) (x : Bool)
      → ((now : List Value) → StandFor now c → Fits (truth (sight_of now entry bound)) x) → Keeps n x
      → Keeps (guarded truth n) x
  guarded_keeps truth n x fits keeps now s =
      unless_keeps (truth (sight_of now entry bound)) x (n x entry bound now) (fits now s) (keeps now s)

-- a relation's sides, whether it holds or not
unless_unset_keeps : (u : Bool) (now : List Value) (e : Env) (c : Contents) → StandFor now c
    → (u ≡ false → In e c)
    → In (cond u (Some now) e) c
unless_unset_keeps true now e c s h = s
unless_unset_keeps false now e c s h = h refl

unset_keeps : (u : Bool) (now : List Value) (e : Env) (c : Contents) → StandFor now c → u ≡ true
    → In (cond u (Some now) e) c
unset_keeps true now e c s h = s
unset_keeps false now e c s h = absurd (false≢true h)

named : (cell : Option ℕ) (c : Contents) (z : ℤ) → IsCell cell c (Some z) → Names cell c z
named None c z h = tt
named (Some x) c z h = h

both_keep : (r : Relation) (a b : Side) (x y : ℤ) (t : Bool) (now : List Value) (c : Contents)
    → relates r x y ≡ t
    → Stands a.value (Some x) → Stands b.value (Some y) → IsCell a.cell c (Some x)
    → IsCell b.cell c (Some y) → StandFor now c
    → In (narrow_related t r a b now) c
unfolding narrow_related
both_keep r a b x y true now c e h k p q s =
    narrow_keeps r a b x y now c (relates_is r x y e) h k (named a.cell c x p) (named b.cell c y q) s
both_keep r a b x y false now c e h k p q s =
    unless_unset_keeps (a.value.unset || b.value.unset) now (narrow_both (opposite_of r) a b now) c s
    (λ _. narrow_keeps (opposite_of r) a b x y now c (relates_not r x y e) h k (named a.cell c x p)
    (named b.cell c y q) s)

related_keeps : (r : Relation) (a b : Side) (x y : Option ℤ) (now : List Value) (c : Contents)
    → Stands a.value x
    → Stands b.value y → IsCell a.cell c x → IsCell b.cell c y → StandFor now c
    → In (narrow_related (related r x y) r a b now) c
unfolding narrow_related
related_keeps r a b None y now c h k p q s =
    unset_keeps (a.value.unset || b.value.unset) now (narrow_both (opposite_of r) a b now) c s
    (or_left a.value.unset b.value.unset h)
related_keeps r a b (Some x) None now c h k p q s =
    unset_keeps (a.value.unset || b.value.unset) now (narrow_both (opposite_of r) a b now) c s
    (or_right a.value.unset b.value.unset k)
related_keeps r a b (Some x) (Some y) now c h k p q s = both_keep r a b x y
    (relates r x y) now c refl h k p q s

-- ---- trees

-- what a tree shows is right of what it says
record Right (b : Shown) (s : Says) : Type 0 where
  cell : (v : View) → IsCell b.cell v.now (s.term v)
  term : (w : Sight) (v : View) → Sees w v → Stands (b.term w) (s.term v)
  truth : (w : Sight) (v : View) → Sees w v → Fits (b.truth w) (s.truth v)
  narrow : (entry : Env) (bound : List Value) (v : View) → In entry v.entry → Bind bound v.bound
      → Keeps entry bound v.now b.narrow (s.truth v)

sees : (now : List Value) (entry : Env) (bound : List Value) (v : View) → StandFor now v.now
    → In entry v.entry
    → Bind bound v.bound → Sees (sight_of now entry bound) v
sees now entry bound v s e b = record { now = s; entry = e; bound = b }

sees_before : (w : Sight) (v : View) → Sees w v → Sees (before w) (runs.at_entry v)
sees_before w v s = record { now = s.entry; entry = s.entry; bound = s.bound }

sees_binding : (x : Value) (z : ℤ) (w : Sight) (v : View) → Holds x z → Sees w v
    → Sees (binding x w) (runs.binding z v)
unfolding Bind
sees_binding x z w v h s = record { now = s.now; entry = s.entry; bound = (h, s.bound) }

zero_right : Stands (number_row (pos 0)) (Some (pos 0))
zero_right = (number_covers (pos 0)).1

not_zero_fits : (a : Value) (x : Option ℤ) → Stands a x → Fits (not_zero a) (runs.is_not_zero x)
not_zero_fits a None h = related_fits R.NotEqual a (number_row (pos 0)) None (Some (pos 0)) h zero_right
not_zero_fits a (Some x) h = related_fits R.NotEqual a (number_row (pos 0)) (Some x)
    (Some (pos 0)) h zero_right

not_zero_related : (x : Option ℤ) → related R.NotEqual x (Some (pos 0)) ≡ runs.is_not_zero x
not_zero_related None = refl
not_zero_related (Some x) = refl

term_right : (cell : Option ℕ) (f : Sight → Value) (g : View → Option ℤ)
    → ((v : View) → IsCell cell v.now (g v)) → ((w : Sight) (v : View) → Sees w v → Stands (f w) (g v))
    → Right (a_term cell f) (runs.a_term g)
term_right cell f g is_cell stands = record {
  cell = is_cell;
  term = stands;
  truth = λ w v s. not_zero_fits (f w) (g v) (stands w v s);
  narrow = λ entry bound v e b.
      guarded_keeps entry bound v.now (λ s. not_zero (f s))
      (narrow_sides R.NotEqual cell f None (λ s. number_row (pos 0)))
      (runs.is_not_zero (g v))
      (λ now s. not_zero_fits (f (sight_of now entry bound)) (g v)
      (stands (sight_of now entry bound) v (sees now entry bound v s e b)))
      (λ now s. subst (λ (t : Bool). In (narrow_sides R.NotEqual cell f None
      (λ s. number_row (pos 0)) t entry bound now) v.now)
      (not_zero_related (g v))
      (related_keeps R.NotEqual (side_of cell (f (sight_of now entry bound)))
      (side_of None (number_row (pos 0))) (g v) (Some (pos 0))
      now v.now (stands (sight_of now entry bound) v (sees now entry bound v s e b)) zero_right
      (is_cell v) tt s));
}

truth_right : (f : Sight → Truth) (n : Narrowing) (g : View → Bool)
    → ((w : Sight) (v : View) → Sees w v → Fits (f w) (g v))
    → ((entry : Env) (bound : List Value) (v : View) → In entry v.entry → Bind bound v.bound
    → Keeps entry bound v.now n (g v))
    → Right (a_truth f n) (runs.a_truth g)
truth_right f n g fits keeps = record {
  cell = λ v. tt;
  term = λ w v s. refl;
  truth = fits;
  narrow = λ entry bound v e b.
      guarded_keeps entry bound v.now f n (g v)
      (λ now s. fits (sight_of now entry bound) v (sees now entry bound v s e b)) (keeps entry bound v e b);
}

joined_right : (op : NoteOp) (a b : Shown) (x y : Says) → Right a x → Right b y
    → Right (joined op a b) (runs.joined op x y)
unfolding combined
joined_right O.Iff a b x y f g =
    truth_right _ narrow_nothing _
    (λ w v s. same_fits (a.truth w) (b.truth w) (x.truth v) (y.truth v) (f.truth w v s) (g.truth w v s))
    (λ entry bound v e k. nothing_keeps entry bound v.now (runs.same_truth (x.truth v) (y.truth v)))
joined_right O.Implies a b x y f g =
    truth_right _ (narrow_or (narrow_not a.narrow) b.narrow) _
    (λ w v s. implies_fits (a.truth w) (b.truth w) (x.truth v) (y.truth v) (f.truth w v s) (g.truth w v s))
    (λ entry bound v e k. or_keeps entry bound v.now (narrow_not a.narrow) b.narrow (not (x.truth v))
    (y.truth v)
    (not_keeps entry bound v.now a.narrow (x.truth v) (f.narrow entry bound v e k))
    (g.narrow entry bound v e k))
joined_right O.Or a b x y f g =
    truth_right _ (narrow_or a.narrow b.narrow) _
    (λ w v s. or_fits (a.truth w) (b.truth w) (x.truth v) (y.truth v) (f.truth w v s) (g.truth w v s))
    (λ entry bound v e k. or_keeps entry bound v.now a.narrow b.narrow (x.truth v) (y.truth v)
    (f.narrow entry bound v e k) (g.narrow entry bound v e k))
joined_right O.And a b x y f g =
    truth_right _ (narrow_and a.narrow b.narrow) _
    (λ w v s. and_fits (a.truth w) (b.truth w) (x.truth v) (y.truth v) (f.truth w v s) (g.truth w v s))
    (λ entry bound v e k. and_keeps entry bound v.now a.narrow b.narrow (x.truth v) (y.truth v)
    (f.narrow entry bound v e k) (g.narrow entry bound v e k))
joined_right O.Add a b x y f g =
    term_right None (λ s. combined O.Add (a.term s) (b.term s))
    (λ v. runs.both_terms O.Add (x.term v) (y.term v)) (λ v. tt)
    (λ w v s. combined_right O.Add (a.term w) (b.term w) (x.term v) (y.term v) (f.term w v s) (g.term w v s))
joined_right O.Sub a b x y f g =
    term_right None (λ s. combined O.Sub (a.term s) (b.term s))
    (λ v. runs.both_terms O.Sub (x.term v) (y.term v)) (λ v. tt)
    (λ w v s. combined_right O.Sub (a.term w) (b.term w) (x.term v) (y.term v) (f.term w v s) (g.term w v s))
joined_right O.Mul a b x y f g =
    term_right None (λ s. combined O.Mul (a.term s) (b.term s))
    (λ v. runs.both_terms O.Mul (x.term v) (y.term v)) (λ v. tt)
    (λ w v s. combined_right O.Mul (a.term w) (b.term w) (x.term v) (y.term v) (f.term w v s) (g.term w v s))
joined_right O.Div a b x y f g =
    term_right None (λ s. combined O.Div (a.term s) (b.term s))
    (λ v. runs.both_terms O.Div (x.term v) (y.term v)) (λ v. tt)
    (λ w v s. combined_right O.Div (a.term w) (b.term w) (x.term v) (y.term v) (f.term w v s) (g.term w v s))
joined_right O.Rem a b x y f g =
    term_right None (λ s. combined O.Rem (a.term s) (b.term s))
    (λ v. runs.both_terms O.Rem (x.term v) (y.term v)) (λ v. tt)
    (λ w v s. combined_right O.Rem (a.term w) (b.term w) (x.term v) (y.term v) (f.term w v s) (g.term w v s))

relation_right : (r : Relation) (a b : Shown) (x y : Says) → Right a x → Right b y
    → Right (a_relation r a b) (runs.a_truth (λ v. related r (x.term v) (y.term v)))
relation_right r a b x y f g =
    truth_right _ (narrow_sides r a.cell a.term b.cell b.term) _
    (λ w v s. related_fits r (a.term w) (b.term w) (x.term v) (y.term v) (f.term w v s) (g.term w v s))
    (λ entry bound v e k now s.
    let at = sees now entry bound v s e k in let w = sight_of now entry bound in
    related_keeps r (side_of a.cell (a.term w)) (side_of b.cell (b.term w)) (x.term v) (y.term v) now v.now
    (f.term w v at) (g.term w v at) (f.cell v) (g.cell v) s)

old_right : (a : Shown) (x : Says) → Right a x
    → Right (in_entry a) (record {
      term = λ v. x.term (runs.at_entry v);
      truth = λ v. x.truth
          (runs.at_entry v);
    })
old_right a x f = record {
  cell = λ v. tt;
  term = λ w v s. f.term (before w) (runs.at_entry v) (sees_before w v s);
  truth = λ w v s. f.truth (before w) (runs.at_entry v) (sees_before w v s);
  narrow = λ entry bound v e b.
      guarded_keeps entry bound v.now (λ s. a.truth (before s)) narrow_nothing (x.truth (runs.at_entry v))
      (λ now s. f.truth (before (sight_of now entry bound)) (runs.at_entry v)
      (sees_before (sight_of now entry bound) v (sees now entry bound v s e b)))
      (nothing_keeps entry bound v.now (x.truth (runs.at_entry v)));
}

forall_right : (low high body : Shown) (ls hs : Bool) (x y z : Says) → Right low x → Right high y
    → Right body z
    → Right (shown_step (Pred-F.Forall low ls high hs body)) (says_step (Pred-F.Forall x ls y hs z))
forall_right low high body ls hs x y z f g h =
    truth_right _ narrow_nothing _
    (λ w v s. forall_fits (low.term w) (high.term w) ls hs (x.term v) (y.term v)
    (λ u. body.truth (binding u w))
    (λ n. z.truth (runs.binding n v)) (f.term w v s) (g.term w v s)
    (λ u n k. h.truth (binding u w) (runs.binding n v) (sees_binding u n w v k s)))
    (λ entry bound v e k. nothing_keeps entry bound v.now
    (runs.quantified (x.term v) ls (y.term v) hs (λ n. z.truth (runs.binding n v))))

-- ---- the induction

abbrev Claim : Pred → Type 0
Claim p = Right (shown p) (says p)

abbrev With : Type 0
With = (p : Pred) × Claim p

-- one level, over its parts
abbrev Top : Pred-F Pred → Type 0
Top x = Right (shown_step (map-Pred Pred Shown shown x)) (says_step (map-Pred Pred Says says x))

layer : (y : Pred-F With) → Top (map-Pred With Pred (λ (e : With). e.0) y)
layer (Pred-F.Number n) =
    term_right None (λ s. number_row n) (λ v. Some n) (λ v. tt) (λ w v s. (number_covers n).1)
layer (Pred-F.Cell x) =
    term_right (Some x) (λ s. value_in s.now x) (λ v. v.now x) (λ v. refl)
    (λ w v s. cell_right w.now v.now x s.now)
layer (Pred-F.Element first n i) =
    term_right None (λ s. element_term s.now first n ((shown i.0).term s))
    (λ v. option_and_then (runs.element_at v.now first n) ((says i.0).term v)) (λ v. tt)
    (λ w v s. element_right w.now v.now first n ((shown i.0).term w) ((says i.0).term v) s.now
    (i.1.term w v s))
layer (Pred-F.Bound n) =
    term_right None (λ s. bound_or (slice_get s.bound n)) (λ v. slice_get v.bound n) (λ v. tt)
    (λ w v s. bound_right w.bound v.bound n s.bound)
layer (Pred-F.Old e) = old_right (shown e.0) (says e.0) e.1
layer Pred-F.True =
    truth_right (λ s. Yes) narrow_nothing (λ v. true) (λ w v s. refl)
    (λ entry bound v e k. nothing_keeps entry bound v.now true)
layer Pred-F.False =
    truth_right (λ s. No) narrow_nothing (λ v. false) (λ w v s. refl)
    (λ entry bound v e k. nothing_keeps entry bound v.now false)
layer (Pred-F.Neg e) =
    term_right None (λ s. negated ((shown e.0).term s)) (λ v. option_map neg_ℤ ((says e.0).term v)) (λ v. tt)
    (λ w v s. negated_right ((shown e.0).term w) ((says e.0).term v) (e.1.term w v s))
layer (Pred-F.Not e) =
    truth_right (λ s. not_truth ((shown e.0).truth s)) (narrow_not (shown e.0).narrow)
    (λ v. not ((says e.0).truth v))
    (λ w v s. not_fits ((shown e.0).truth w) ((says e.0).truth v) (e.1.truth w v s))
    (λ entry bound v b k. not_keeps entry bound v.now (shown e.0).narrow ((says e.0).truth v)
    (e.1.narrow entry bound v b k))
layer (Pred-F.Binary op a b) = joined_right op (shown a.0) (shown b.0) (says a.0) (says b.0) a.1 b.1
layer (Pred-F.Related r a b) = relation_right r (shown a.0) (shown b.0) (says a.0) (says b.0) a.1 b.1
layer (Pred-F.Forall low ls high hs body) =
    forall_right (shown low.0) (shown high.0) (shown body.0) ls hs (says low.0) (says high.0)
    (says body.0) low.1 high.1 body.1

rolled : (x : Pred-F Pred) → Top x → Claim (roll-Pred x)
rolled x h =
    subst (λ (b : Shown). Right b (says (roll-Pred x))) (sym (fold-roll-Pred Shown shown_step x))
    (subst (λ (s : Says). Right (shown_step (map-Pred Pred Shown shown x)) s)
    (sym (fold-roll-Pred Says says_step x)) h)

right : (p : Pred) → Claim p
right = ind-Pred Claim (λ x y is. rolled x (subst Top is (layer y)))

view : Contents → Contents → View
view c d = record { now = c; entry = d; bound = [] }

pub truths_right : TruthsAreRight
unfolding truth_row holds view Bind
truths_right p None entry c d h k = tt
truths_right p (Some now) entry c d h k =
    (right p).truth (sight_of now entry []) (view c d) (sees now entry [] (view c d) h k tt)

pub predicates_keep : PredicatesNarrow
unfolding narrow_row holds view Bind
predicates_keep p taken None entry c d h k is = absurd h
predicates_keep p taken (Some now) entry c d h k is =
    subst (λ (t : Bool). In ((shown p).narrow t entry [] now) c) is
    ((right p).narrow entry [] (view c d) k tt now h)
