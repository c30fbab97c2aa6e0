-- Declarations of functions: each name stands for a function that has its cells.
use Rattle.std.proofs.Common.{◌≡◌, ◌∙◌, ◌+◌, ◌&&◌, ◌||◌, ℕ, Bool, true, false, List, [], ◌∷◌, ◌++◌, length, slice_get, Option, Some, None, cond, refl, ap, sym, subst, arith}
use Rattle.std.proofs.lemmas.Bool.{and_parts, true≢false}
use Rattle.std.proofs.lemmas.Slice.Eq.{bytes_eq-Decides}
use Rattle.fc_base.specs.declared.ids.FnId.{FnId}
use Rattle.fc_base.specs.declared.syntax.Spot.{Spot}
use Rattle.c_ast.specs.declared.expr.Ident.{Ident}
use Rattle.c_ir.specs.Numbers.{none}
use Rattle.c_ir.specs.declared.ty.IntType.{IntType}
use Rattle.c_rules.specs.Breaches.{Env, only_if}
use Rattle.c_rules.specs.declared.breach.Fault.TheVariants as F
use Rattle.c_rules.specs.declared.scope.Entry.{Entry}
use Rattle.c_rules.specs.declared.scope.Entry.TheVariants as E
use Rattle.c_rules.specs.declared.scope.Signature.{Signature}
use Rattle.c_rules.proofs.Formed.{same_is}
use Rattle.c_typing.specs.FileScope as file
use Rattle.c_typing.specs.FileScope.{Declared}
use Rattle.c_typing.specs.Functions as fn
use Rattle.c_typing.specs.Walking as walk
use Rattle.c_typing.specs.Walking.{Names, Made}
use Rattle.c_typing.specs.declared.file.Known.{Known}
use Rattle.c_typing.specs.declared.walk.Allocated.{Allocated}
use Rattle.c_types.proofs.Files.{All, cells_of, CellsAre, HasCells, Stands, EntryStands, SoundAt, function_fits, sound_more}
use Rattle.c_types.proofs.Filings.{Files, pure_files, then_files, as_files, breach_files, broken_files, sound_walked, named_files}
use Rattle.c_types.proofs.Lookups.{get_end}
use Rattle.c_types.proofs.Shapes.{starts_less}
use Rattle.c_types.proofs.Steps.{Whole, Free, Step, pure_step, then_step, as_step, Adds, none_added, placed, allocate_step}

-- ---- the cells of a function

abbrev pub cell_for : FnId → IntType → Allocated
cell_for owner ty = record {
  ty = ty;
  owner = Some owner;
  constant = false;
  checked = false;
  length = 1;
}

allocated_step : (w : Whole) (owner : FnId) (tys : List IntType) (s : Names) (m : Made) → Step w s m (fn.allocate_formals owner tys s m) (CellsAre w.layout.cells owner m.cells tys)
unfolding walk.allocate
allocated_step w owner [] s m = pure_step w s m tt _ tt
allocated_step w owner (ty ∷ tys) s m =
    let o = cell_for owner ty in
    let a = walk.allocate o s m in
    as_step w s m _ _ _ (λ q. ((placed w s m o q.0).first_is (omega arith), q.1))
    (then_step w s m a (fn.allocate_formals owner tys a.names a.made) _ _ (allocate_step w s m o) (allocated_step w owner tys a.names a.made))

allocated_adds : (owner : FnId) (tys : List IntType) (s : Names) (m : Made) → Adds m (fn.allocate_formals owner tys s m).made none none
unfolding walk.allocate
allocated_adds owner [] s m = none_added m
allocated_adds owner (ty ∷ tys) s m =
    let a = walk.allocate (cell_for owner ty) s m in
    let h = allocated_adds owner tys a.names a.made in
    record { points = h.points; sites = h.sites }

allocated_names : (owner : FnId) (tys : List IntType) (s : Names) (m : Made) → (fn.allocate_formals owner tys s m).names.env ≡ s.env
unfolding walk.allocate
allocated_names owner [] s m = refl
allocated_names owner (ty ∷ tys) s m =
    let a = walk.allocate (cell_for owner ty) s m in allocated_names owner tys a.names a.made

allocated_cells : (owner : FnId) (tys : List IntType) (s : Names) (m : Made) → (fn.allocate_formals owner tys s m).made.cells ≡ m.cells + length tys
unfolding walk.allocate
allocated_cells owner [] s m = omega arith
allocated_cells owner (ty ∷ tys) s m =
    let a = walk.allocate (cell_for owner ty) s m in
    let h = allocated_cells owner tys a.names a.made in
    omega (arith, h)

-- ---- a function more

-- the function is there under its name, with these types; where it isn't defined it has no definition
pub record Listing (w : All) (d : Declared) (x : List ℕ) (result : Option IntType) (formals : List IntType) (g : Signature) : Type 0 where
  pub stands : Stands w d.functions x g
  pub undefined : g.defined ≡ false → slice_get d.definitions g.number.0 ≡ Some None
  pub result_is : g.result ≡ result
  pub formals_are : g.formals ≡ formals

at_count : {X : Type 0} (xs : List X) (y : X) (n : ℕ) → n ≡ length xs → slice_get (xs ++ y ∷ []) n ≡ Some y
at_count xs y n is = ap (slice_get (xs ++ y ∷ [])) is ∙ get_end xs y

enlist_files : (w : All) (x : Ident) (result : Option IntType) (formals : List IntType) (d : Declared) → Files w d (fn.enlist x result formals d) (Unit {0}) (Listing w (fn.enlist x result formals d).declared x.name result formals (fn.enlist x result formals d).value)
unfolding fn.enlist
enlist_files w x result formals d =
    let owner : FnId = record { 0 = length d.functions } in
    let first = d.made.cells in
    let a = fn.allocate_formals owner formals d.names d.made in
    let b = fn.allocate_formals owner (fn.result_types result) a.names a.made in
    let k : Known = record {
      name = x.name;
      line = x.at.line;
      formals = fn.cells_from first formals;
      result = fn.result_cell result (first + length formals);
    } in
    let sa = allocated_step w.whole owner formals d.names d.made in
    let sb = allocated_step w.whole owner (fn.result_types result) a.names a.made in
    let after : Declared = record d { names = b.names; made = b.made } in
    record {
      back = λ free o. record {
        made = sa.back (sb.back o.made);
        functions = starts_less w.functions d.functions (k ∷ []) o.functions;
      };
      good = λ free o h p.
          let begins = sb.back o.made in
          let of_formals = sa.good begins h.fits free.0 in
          let of_result = sb.good o.made (sa.names begins h.fits) free.1.0 in
          let has : HasCells (cells_of w) owner k result formals first = record {
            formals_at = refl;
            result_at = refl;
            formal_cells = of_formals;
            result_cells = subst (λ (n : ℕ). CellsAre (cells_of w) owner n (fn.result_types result)) (allocated_cells owner formals d.names d.made) of_result;
          } in
          let sound : SoundAt w after = sound_walked w (record d { names = a.names; made = a.made }) b.names b.made (allocated_names owner (fn.result_types result) a.names a.made) (allocated_adds owner (fn.result_types result) a.names a.made)
          (sound_walked w d a.names a.made (allocated_names owner formals d.names d.made) (allocated_adds owner formals d.names d.made) h) in (
            sound_more w b.names.env (length b.made.points) (length b.made.sites) d.functions d.definitions d.starts k (record { result = result; formals = formals; first = first; cells = has }) sound,
            record {
              stands = record { known = k; is_known = get_end d.functions k; name = refl; cells = has };
              undefined = λ is. at_count d.definitions None (length d.functions) h.paired;
              result_is = refl;
              formals_are = refl;
            },
          );
    }

-- ---- repeats

same_result : (a b : Option IntType) → fn.same_result a b ≡ true → b ≡ a
same_result None None is = refl
same_result (Some a) (Some b) is = ap (λ (t : IntType). Some t) (sym (same_is a b is))
same_result None (Some b) is = absurd (true≢false (sym is))
same_result (Some a) None is = absurd (true≢false (sym is))

pub same_types : (as' bs : List IntType) → fn.same_types as' bs ≡ true → bs ≡ as'
same_types [] [] is = refl
same_types (a ∷ as') (b ∷ bs) is =
    let parts = and_parts _ _ is in
    ap (λ (t : IntType). t ∷ bs) (sym (same_is a b parts.0)) ∙ ap (λ (ts : List IntType). a ∷ ts) (same_types as' bs parts.1)
same_types [] (b ∷ bs) is = absurd (true≢false (sym is))
same_types (a ∷ as') [] is = absurd (true≢false (sym is))

-- a name stands for the function where nothing is in breach
abbrev Listed : All → Declared → List ℕ → Option IntType → List IntType → fn.Listed → Type 0
Listed w d x result formals l = (l.0 ≡ true) × Listing w d x result formals l.1

listed_if_files : (w : All) (x : Ident) (result : Option IntType) (formals : List IntType) (g : Signature) (d : Declared) → d.names.env x.name ≡ Some (E.Function g) → (b : Bool) → fn.is_same result formals g ≡ b → Files w d (fn.listed_if b x result formals g d) (Unit {0}) (Listed w (fn.listed_if b x result formals g d).declared x.name result formals (fn.listed_if b x result formals g d).value)
unfolding fn.is_same
listed_if_files w x result formals g d is true same =
    let parts = and_parts _ _ same in
    record {
      back = λ free o. o;
      good = λ free o h p.
          let stands = subst (λ (e : Option Entry). EntryStands w d.functions d.definitions x.name e) is (h.names x.name) in (
            h,
            (
              refl,
              record {
                stands = stands.0;
                undefined = stands.1;
                result_is = same_result result g.result parts.0;
                formals_are = same_types formals g.formals parts.1;
              },
            ),
          );
    }
listed_if_files w x result formals g d is false same = broken_files w d _ _ _ (λ free. free.0)

listed_by_files : (w : All) (x : Ident) (result : Option IntType) (formals : List IntType) (d : Declared) (o : Option Entry) → d.names.env x.name ≡ o → Files w d (fn.listed_by x result formals (fn.stands_for o) d) (Unit {0}) (Listed w (fn.listed_by x result formals (fn.stands_for o) d).declared x.name result formals (fn.listed_by x result formals (fn.stands_for o) d).value)
listed_by_files w x result formals d None is =
    let a = fn.enlist x result formals d in
    as_files w d _ _ _ _ (λ q. (refl, q))
    (then_files w d a (file.pure (true, a.value) a.declared) _ _ _ (enlist_files w x result formals d) (pure_files w a.declared (true, a.value) _))
listed_by_files w x result formals d (Some (E.Object o)) is = broken_files w d _ _ _ (λ free. free.0)
listed_by_files w x result formals d (Some (E.Function g)) is =
    listed_if_files w x result formals g d is (fn.is_same result formals g) refl

listed_files : (w : All) (x : Ident) (result : Option IntType) (formals : List IntType) (d : Declared) → Files w d (fn.listed x result formals d) (Unit {0}) (Listed w (fn.listed x result formals d).declared x.name result formals (fn.listed x result formals d).value)
unfolding fn.listed
listed_files w x result formals d = listed_by_files w x result formals d (d.names.env x.name) refl

-- ---- declarations

-- where it has a body, the name stands for a defined function, whose definition isn't there yet
pub record Declares (w : All) (d : Declared) (x : List ℕ) (result : Option IntType) (formals : List IntType) (has_body : Bool) (g : Signature) : Type 0 where
  pub stands : Stands w d.functions x g
  pub result_is : g.result ≡ result
  pub formals_are : g.formals ≡ formals
  pub entry : Signature
  pub is_entry : d.names.env x ≡ Some (E.Function entry)
  pub is_defined : has_body ≡ true → entry.defined ≡ true
  pub undefined : has_body ≡ true → slice_get d.definitions g.number.0 ≡ Some None

either : (a b : Bool) → b ≡ true → (a || b) ≡ true
either true b is = refl
either false b is = is

first_of_two : (a b : Bool) → (a || b) ≡ false → a ≡ false
first_of_two true b is = is
first_of_two false b is = refl

not_both : (a b : Bool) (at : ℕ) (x : List ℕ) → Free (only_if (a && b) at (F.Twice x)) → b ≡ true → a ≡ false
not_both true true at x free is = absurd free
not_both true false at x free is = absurd (true≢false (sym is))
not_both false b at x free is = refl

put_here : (x : List ℕ) (entry : Entry) (env : Env) → walk.put x (Some entry) env x ≡ Some entry
put_here x entry env = ap (λ (b : Bool). cond b (Some entry) (env x)) ((bytes_eq-Decides x x).1 refl)

name_if_files : (w : All) (b : Bool) (x : Ident) (result : Option IntType) (formals : List IntType) (has_body : Bool) (notes : List Spot) (g : Signature) (d : Declared) → Files w d (fn.name_if b x (fn.marked has_body notes g) d) ((b ≡ true) × Listing w d x.name result formals g × (has_body ≡ true → g.defined ≡ false)) (Declares w (fn.name_if b x (fn.marked has_body notes g) d).declared x.name result formals has_body g)
unfolding walk.name_is
name_if_files w false x result formals has_body notes g d = record {
  back = λ free o. o;
  good = λ free o h p. absurd (true≢false (sym p.0));
}
name_if_files w true x result formals has_body notes g d =
    let entry = fn.marked has_body notes g in
    let P = (true ≡ true) × Listing w d x.name result formals g × (has_body ≡ true → g.defined ≡ false) in
    as_files w d _ _ _ _ (λ p. record {
      stands = p.1.stands;
      result_is = p.1.result_is;
      formals_are = p.1.formals_are;
      entry = entry;
      is_entry = put_here x.name (E.Function entry) d.names.env;
      is_defined = either g.defined has_body;
      undefined = λ is. p.1.undefined (p.2 is);
    })
    (named_files w d x.name (E.Function entry) P (λ p opens.
    let s = p.1.stands in
    let stands : Stands w d.functions x.name entry = record { known = s.known; is_known = s.is_known; name = s.name; cells = s.cells } in
    (function_fits w d.functions x.name entry opens.functions stands, (stands, λ is. p.1.undefined (first_of_two g.defined has_body is)))))

pub declared_files : (w : All) (x : Ident) (result : Option IntType) (formals : List IntType) (has_body : Bool) (notes : List Spot) (d : Declared) → Files w d (fn.declared_function x result formals has_body notes d) (Unit {0}) (Declares w (fn.declared_function x result formals has_body notes d).declared x.name result formals has_body (fn.declared_function x result formals has_body notes d).value)
unfolding fn.declared_function
declared_files w x result formals has_body notes d =
    let a = fn.listed x result formals d in
    let g = a.value.1 in
    let bad = fn.repeat_faults x has_body notes g in
    let c = fn.name_if a.value.0 x (fn.marked has_body notes g) a.declared in
    then_files w d a (file.after (file.breach bad a.declared) (file.after c (file.pure g c.declared))) _ _ _
    (listed_files w x result formals d)
    (then_files w a.declared (file.breach bad a.declared) (file.after c (file.pure g c.declared)) _ _ _
    (as_files w a.declared _ _ _ _ (λ q. (q.0.0, q.0.1, not_both g.defined has_body x.at.span.from x.name q.1.1)) (breach_files w a.declared bad _))
    (then_files w a.declared c (file.pure g c.declared) _ _ _
    (name_if_files w a.value.0 x result formals has_body notes g a.declared)
    (pure_files w c.declared g _)))
