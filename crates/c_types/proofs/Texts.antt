-- Whole texts: external declarations one after the other, and the functions that come of them.
use Rattle.std.proofs.Common.{◌≡◌, ◌∙◌, ◌+◌, ℕ, suc, List, [], ◌∷◌, ◌++◌, length, Option, Some, None, refl, ap, sym, append_assoc, append-nil, arith}
use Rattle.std.proofs.lemmas.List.{length-append}
use Rattle.fc_base.specs.declared.syntax.Spot.{Spot}
use Rattle.c_ast.specs.declared.unit.Item.{Item}
use Rattle.c_ast.specs.declared.unit.Item.TheVariants as U
use Rattle.c_ir.specs.declared.tree.Fun.{Fun}
use Rattle.c_ir.specs.declared.tree.PointInfo.{PointInfo}
use Rattle.c_typing.specs.FileScope as file
use Rattle.c_typing.specs.FileScope.{Declared}
use Rattle.c_typing.specs.Functions as fn
use Rattle.c_typing.specs.Texts as text
use Rattle.c_typing.specs.Texts.{function_of}
use Rattle.c_typing.specs.Walking as walk
use Rattle.c_typing.specs.Walking.{Names, Made, Went}
use Rattle.c_typing.specs.declared.file.Definition.{Definition}
use Rattle.c_typing.specs.declared.file.Known.{Known}
use Rattle.c_types.proofs.Definitions.{notes_step, notes_adds, notes_names, function_files}
use Rattle.c_types.proofs.Files.{All}
use Rattle.c_types.proofs.Filings.{Files, pure_files, then_files, as_files, walked_files}
use Rattle.c_types.proofs.Globals.{global_files}

-- ---- external declarations

file_notes_files : (w : All) (notes : List Spot) (d : Declared) → Files w d (text.file_notes notes d) (Unit {0}) (Unit {0})
unfolding text.file_notes
file_notes_files w notes d =
    as_files w d _ _ _ _ (λ q. q.0)
    (walked_files w d (fn.notes_of None notes d.names d.made) _ _ (notes_step w.whole None notes d.names d.made) (notes_names None notes d.names d.made) (notes_adds None notes d.names d.made))

item_files : (w : All) (waiting : List Spot) (i : Item) (d : Declared) → Files w d (text.item waiting i d) (Unit {0}) (Unit {0})
unfolding text.item
item_files w waiting (U.Note at) d = pure_files w d (waiting ++ at ∷ []) _
item_files w waiting (U.Global g) d =
    let a = text.file_notes waiting d in
    let b = file.global g a.declared in
    then_files w d a (file.after b (file.pure [] b.declared)) _ _ _ (file_notes_files w waiting d)
    (then_files w a.declared b (file.pure [] b.declared) _ _ _ (global_files w g a.declared) (pure_files w b.declared [] _))
item_files w waiting (U.Function f) d =
    let a = text.function f waiting d in
    then_files w d a (file.pure [] a.declared) _ _ _ (function_files w f waiting d) (pure_files w a.declared [] _)

pub items_files : (w : All) (waiting : List Spot) (is : List Item) (d : Declared) → Files w d (text.items_from waiting is d) (Unit {0}) (Unit {0})
items_files w waiting [] d = file_notes_files w waiting d
items_files w waiting (i ∷ is) d =
    let a = text.item waiting i d in
    then_files w d a (text.items_from a.value is a.declared) _ _ _ (item_files w waiting i d) (items_files w a.value is a.declared)

-- ---- functions

-- the functions of a program, where there are so many points before
abbrev pub funs_of : ℕ → List Known → List (Option Definition) → List Fun
funs_of n [] ds = []
funs_of n (k ∷ ks) [] = []
funs_of n (k ∷ ks) (Some b ∷ ds) = function_of k (Some b.body) b.entry b.exit ∷ funs_of n ks ds
funs_of n (k ∷ ks) (None ∷ ds) = function_of k None (record { 0 = n }) (record { 0 = suc n }) ∷ funs_of (suc (suc n)) ks ds

abbrev pub point_of : ℕ → Known → PointInfo
point_of number k = record { owner = record { 0 = number }; line = k.line; clauses = [] }

-- the points of those that aren't defined
abbrev pub points_for : ℕ → List Known → List (Option Definition) → List PointInfo
points_for number [] ds = []
points_for number (k ∷ ks) [] = []
points_for number (k ∷ ks) (Some b ∷ ds) = points_for (suc number) ks ds
points_for number (k ∷ ks) (None ∷ ds) = point_of number k ∷ point_of number k ∷ points_for (suc number) ks ds

-- what the walk over the functions gives
pub record Given (number : ℕ) (ks : List Known) (ds : List (Option Definition)) (done : List Fun) (m : Made) (v : Went (List Fun)) : Type 0 where
  pub value : v.value ≡ done ++ funs_of (length m.points) ks ds
  pub sites : v.made.sites ≡ m.sites
  pub points : v.made.points ≡ m.points ++ points_for number ks ds
  pub objects : v.made.objects ≡ m.objects
  pub cells : v.made.cells ≡ m.cells
  pub notes : v.made.notes ≡ m.notes

none_given : (number : ℕ) (done : List Fun) (s : Names) (m : Made) (ks : List Known) (ds : List (Option Definition)) → funs_of (length m.points) ks ds ≡ [] → points_for number ks ds ≡ [] → Given number ks ds done m (walk.pure done s m)
none_given number done s m ks ds f p = record {
  value = sym (ap (λ (fs : List Fun). done ++ fs) f ∙ append-nil done);
  sites = refl;
  points = sym (ap (λ (ps : List PointInfo). m.points ++ ps) p ∙ append-nil m.points);
  objects = refl;
  cells = refl;
  notes = refl;
}

one_longer : {X : Type 0} (xs : List X) (x : X) → length (xs ++ x ∷ []) ≡ suc (length xs)
one_longer xs x = let a = length-append xs (x ∷ []) in omega (arith, a)

-- a point, then another
two_points : (ps : List PointInfo) (p : PointInfo) (qs : List PointInfo) → ((ps ++ p ∷ []) ++ p ∷ []) ++ qs ≡ ps ++ p ∷ p ∷ qs
two_points ps p qs =
    append_assoc (ps ++ p ∷ []) (p ∷ []) qs ∙ append_assoc ps (p ∷ []) (p ∷ qs)

pub funs_given : (number : ℕ) (ks : List Known) (ds : List (Option Definition)) (done : List Fun) (s : Names) (m : Made) → Given number ks ds done m (text.funs_from number ks ds done s m)
unfolding text.fun walk.new_point
funs_given number [] ds done s m = none_given number done s m [] ds refl refl
funs_given number (k ∷ ks) [] done s m = none_given number done s m (k ∷ ks) [] refl refl
funs_given number (k ∷ ks) (Some b ∷ ds) done s m =
    let f = function_of k (Some b.body) b.entry b.exit in
    let h = funs_given (number + 1) ks ds (done ++ f ∷ []) s m in
    record {
      value = h.value ∙ append_assoc done (f ∷ []) (funs_of (length m.points) ks ds);
      sites = h.sites;
      points = h.points ∙ ap (λ (n : ℕ). m.points ++ points_for n ks ds) (omega arith);
      objects = h.objects;
      cells = h.cells;
      notes = h.notes;
    }
funs_given number (k ∷ ks) (None ∷ ds) done s m =
    let p = point_of number k in
    let a = walk.new_point (record { 0 = number }) k.line s m in
    let b = walk.new_point (record { 0 = number }) k.line a.names a.made in
    let f = function_of k None a.value b.value in
    let g = function_of k None (record { 0 = length m.points }) (record { 0 = suc (length m.points) }) in
    let h = funs_given (number + 1) ks ds (done ++ f ∷ []) b.names b.made in
    let one = one_longer m.points p in
    let more = one_longer (m.points ++ p ∷ []) p ∙ ap suc one in
    record {
      value = h.value ∙ append_assoc done (f ∷ []) (funs_of (length b.made.points) ks ds)
          ∙ ap (λ (n : ℕ). done ++ function_of k None a.value (record { 0 = n }) ∷ funs_of (length b.made.points) ks ds) one
          ∙ ap (λ (n : ℕ). done ++ g ∷ funs_of n ks ds) more;
      sites = h.sites;
      points = h.points ∙ two_points m.points p (points_for (number + 1) ks ds)
          ∙ ap (λ (n : ℕ). m.points ++ p ∷ p ∷ points_for n ks ds) (omega arith);
      objects = h.objects;
      cells = h.cells;
      notes = h.notes;
    }
