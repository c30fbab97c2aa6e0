-- The functions of a program by their numbers: each comes of what is known of it, and of its definition if it has one.
use Rattle.std.proofs.Common.{◌≡◌, ◌∙◌, ◌⊎◌, inl, inr, ◌<◌, ◌≤◌, ◌+◌, ℕ, zero, suc, nat_lt, Bool, true, false, List, [], ◌∷◌, ◌++◌, length, map, slice_get, Option, Some, None, refl, ap, sym, subst, append_assoc, arith}
use Rattle.std.proofs.lemmas.Bool.{ltb-true, ltb-false}
use Rattle.std.proofs.lemmas.List.{length-append}
use Rattle.c_ir.specs.Formed.{Callee}
use Rattle.c_ir.specs.declared.tree.CellInfo.{CellInfo}
use Rattle.c_ir.specs.declared.tree.Fun.{Fun}
use Rattle.c_ir.specs.declared.tree.PointInfo.{PointInfo}
use Rattle.c_typing.specs.Texts.{function_of}
use Rattle.c_typing.specs.declared.file.Definition.{Definition}
use Rattle.c_typing.specs.declared.file.Known.{Known}
use Rattle.c_ir.specs.Keeps.{callee_of}
use Rattle.c_types.proofs.Files.{callee_for}
use Rattle.c_types.proofs.Lookups.{some_is, no_element}
use Rattle.c_types.proofs.Shapes.{at_end}
use Rattle.c_types.proofs.Texts.{funs_of, point_of, points_for}

-- calls see of the functions what was known of them
pub callees_are : (cells : List CellInfo) (n : ℕ) (ks : List Known) (ds : List (Option Definition)) → length ks ≡ length ds → map (callee_of cells) (funs_of n ks ds) ≡ map (callee_for cells) ks
callees_are cells n [] ds is = refl
callees_are cells n (k ∷ ks) [] is = absurd (omega (arith, is))
callees_are cells n (k ∷ ks) (Some b ∷ ds) is =
    ap (λ (cs : List Callee). callee_for cells k ∷ cs) (callees_are cells n ks ds (omega (arith, is)))
callees_are cells n (k ∷ ks) (None ∷ ds) is =
    ap (λ (cs : List Callee). callee_for cells k ∷ cs) (callees_are cells (suc (suc n)) ks ds (omega (arith, is)))

-- ---- a function

-- it has a definition
pub record FromDefinition (ds : List (Option Definition)) (n : ℕ) (k : Known) (f : Fun) : Type 0 where
  pub definition : Definition
  pub is_definition : slice_get ds n ≡ Some (Some definition)
  pub is : f ≡ function_of k (Some definition.body) definition.entry definition.exit

-- it has none, and two points of its own
pub record WithoutDefinition (ps : List PointInfo) (n : ℕ) (k : Known) (f : Fun) : Type 0 where
  pub point : ℕ
  pub is : f ≡ function_of k None (record { 0 = point }) (record { 0 = suc point })
  pub entry : slice_get ps point ≡ Some (point_of n k)
  pub exit : slice_get ps (suc point) ≡ Some (point_of n k)

pub record FunctionAt (ds : List (Option Definition)) (ps : List PointInfo) (ks : List Known) (number n : ℕ) (f : Fun) : Type 0 where
  pub known : Known
  pub is_known : slice_get ks n ≡ Some known
  pub comes : FromDefinition ds n known f ⊎ WithoutDefinition ps number known f

later : (ds : List (Option Definition)) (d : Option Definition) (ps qs : List PointInfo) (ks : List Known) (k : Known) (number other n : ℕ) (f : Fun) → ps ≡ qs → number ≡ other → FunctionAt ds ps ks number n f → FunctionAt (d ∷ ds) qs (k ∷ ks) other (suc n) f
later ds d ps qs ks k number other n f same numbered h = record {
  known = h.known;
  is_known = h.is_known;
  comes = elim h.comes [
    | inl c ↦ inl (record { definition = c.definition; is_definition = c.is_definition; is = c.is })
    | inr c ↦ inr (subst (λ (i : ℕ). WithoutDefinition qs i h.known f) numbered (subst (λ (xs : List PointInfo). WithoutDefinition xs number h.known f) same c))
  ];
}

two_more : (ps : List PointInfo) (p : PointInfo) (qs : List PointInfo) → (ps ++ p ∷ p ∷ []) ++ qs ≡ ps ++ p ∷ p ∷ qs
two_more ps p qs = append_assoc ps (p ∷ p ∷ []) qs

two_longer : {X : Type 0} (xs : List X) (x : X) (n : ℕ) → n ≡ length xs → suc (suc n) ≡ length (xs ++ x ∷ x ∷ [])
two_longer xs x n is = let a = length-append xs (x ∷ x ∷ []) in omega (arith, is, a)

first_point : (ps : List PointInfo) (p : PointInfo) (qs : List PointInfo) (n : ℕ) → n ≡ length ps → slice_get (ps ++ p ∷ p ∷ qs) n ≡ Some p
first_point ps p qs n is =
    ap (λ (i : ℕ). slice_get (ps ++ p ∷ p ∷ qs) i) is
    ∙ ap (λ (xs : List PointInfo). slice_get xs (length ps)) (sym (append_assoc ps (p ∷ []) (p ∷ qs)))
    ∙ at_end ps p (p ∷ qs)

second_point : (ps : List PointInfo) (p : PointInfo) (qs : List PointInfo) (n : ℕ) → n ≡ length ps → slice_get (ps ++ p ∷ p ∷ qs) (suc n) ≡ Some p
second_point ps p qs n is =
    let a = length-append ps (p ∷ []) in
    let at : suc n ≡ length (ps ++ p ∷ []) = omega (arith, a, is) in
    ap (λ (xs : List PointInfo). slice_get xs (suc n)) (sym (append_assoc ps (p ∷ []) (p ∷ qs)))
    ∙ first_at at
  where
    first_at : suc n ≡ length (ps ++ p ∷ []) → slice_get ((ps ++ p ∷ []) ++ p ∷ qs) (suc n) ≡ Some p
    first_at at =
        ap (slice_get ((ps ++ p ∷ []) ++ p ∷ qs)) at
        ∙ ap (λ (xs : List PointInfo). slice_get xs (length (ps ++ p ∷ []))) (sym (append_assoc (ps ++ p ∷ []) (p ∷ []) qs))
        ∙ at_end (ps ++ p ∷ []) p qs

-- each function of the list, the first of which has this number
pub function_at : (number n : ℕ) (ks : List Known) (ds : List (Option Definition)) (ps : List PointInfo) → n ≡ length ps → (i : ℕ) (f : Fun) → slice_get (funs_of n ks ds) i ≡ Some f → FunctionAt ds (ps ++ points_for number ks ds) ks (number + i) i f
function_at number n [] ds ps long i f is = no_element f is
function_at number n (k ∷ ks) [] ps long i f is = no_element f is
function_at number n (k ∷ ks) (Some b ∷ ds) ps long zero f is = record {
  known = k;
  is_known = refl;
  comes = inl (record { definition = b; is_definition = refl; is = sym (some_is _ f is) });
}
function_at number n (k ∷ ks) (Some b ∷ ds) ps long (suc i) f is =
    later ds (Some b) _ _ ks k (suc number + i) (number + suc i) i f refl (omega arith) (function_at (suc number) n ks ds ps long i f is)
function_at number n (k ∷ ks) (None ∷ ds) ps long zero f is =
    let p = point_of number k in
    let more = points_for (suc number) ks ds in
    record {
      known = k;
      is_known = refl;
      comes = inr (subst (λ (j : ℕ). WithoutDefinition (ps ++ p ∷ p ∷ more) j k f) (omega arith) (here p more));
    }
  where
    here : (p : PointInfo) (more : List PointInfo) → WithoutDefinition (ps ++ point_of number k ∷ point_of number k ∷ more) number k f
    here p more = record {
      point = n;
      is = sym (some_is _ f is);
      entry = first_point ps (point_of number k) more n long;
      exit = second_point ps (point_of number k) more n long;
    }
function_at number n (k ∷ ks) (None ∷ ds) ps long (suc i) f is =
    let p = point_of number k in
    later ds None ((ps ++ p ∷ p ∷ []) ++ points_for (suc number) ks ds) (ps ++ p ∷ p ∷ points_for (suc number) ks ds) ks k (suc number + i) (number + suc i) i f (two_more ps p (points_for (suc number) ks ds)) (omega arith)
    (function_at (suc number) (suc (suc n)) ks ds (ps ++ p ∷ p ∷ []) (two_longer ps p n long) i f is)

-- ---- the function of a definition

pub record DefinedAt (fs : List Fun) (n : ℕ) (b : Definition) : Type 0 where
  pub known : Known
  pub is_function : slice_get fs n ≡ Some (function_of known (Some b.body) b.entry b.exit)

pub defined_at : (n : ℕ) (ks : List Known) (ds : List (Option Definition)) → length ks ≡ length ds → (i : ℕ) (b : Definition) → slice_get ds i ≡ Some (Some b) → DefinedAt (funs_of n ks ds) i b
defined_at n [] [] long i b is = no_element (Some b) is
defined_at n [] (d ∷ ds) long i b is = absurd (omega (arith, long))
defined_at n (k ∷ ks) [] long i b is = no_element (Some b) is
defined_at n (k ∷ ks) (Some c ∷ ds) long zero b is =
    let same : c ≡ b = some_is c b (some_is (Some c) (Some b) is) in
    record {
      known = k;
      is_function = ap (λ (x : Definition). Some (function_of k (Some x.body) x.entry x.exit)) same;
    }
defined_at n (k ∷ ks) (Some c ∷ ds) long (suc i) b is =
    let h = defined_at n ks ds (omega (arith, long)) i b is in
    record { known = h.known; is_function = h.is_function }
defined_at n (k ∷ ks) (None ∷ ds) long zero b is = absurd cc
defined_at n (k ∷ ks) (None ∷ ds) long (suc i) b is =
    let h = defined_at (suc (suc n)) ks ds (omega (arith, long)) i b is in
    record { known = h.known; is_function = h.is_function }

-- ---- the points of functions without definition

pub record PointAt (fs : List Fun) (q : ℕ) : Type 0 where
  pub number : ℕ
  pub function : Fun
  pub is_function : slice_get fs number ≡ Some function
  pub from : function.entry.0 ≤ q
  pub to : q ≤ function.exit.0

point_later : (f : Fun) (fs : List Fun) (q : ℕ) → PointAt fs q → PointAt (f ∷ fs) q
point_later f fs q h = record {
  number = suc h.number;
  function = h.function;
  is_function = h.is_function;
  from = h.from;
  to = h.to;
}

point_here : (n : ℕ) (k : Known) (ks : List Known) (ds : List (Option Definition)) (q : ℕ) (more : Bool) → nat_lt q (suc (suc n)) ≡ more → n ≤ q → (suc (suc n) ≤ q → PointAt (funs_of (suc (suc n)) ks ds) q) → PointAt (funs_of n (k ∷ ks) (None ∷ ds)) q
point_here n k ks ds q true is from h = record {
  number = 0;
  function = function_of k None (record { 0 = n }) (record { 0 = suc n });
  is_function = refl;
  from = from;
  to = let less = ltb-true q (suc (suc n)) is in omega (arith, less);
}
point_here n k ks ds q false is from h = point_later _ _ q (h (ltb-false q (suc (suc n)) is))

pub point_at : (number n : ℕ) (ks : List Known) (ds : List (Option Definition)) (q : ℕ) → n ≤ q → q < n + length (points_for number ks ds) → PointAt (funs_of n ks ds) q
point_at number n [] ds q from to = absurd (omega (arith, from, to))
point_at number n (k ∷ ks) [] q from to = absurd (omega (arith, from, to))
point_at number n (k ∷ ks) (Some b ∷ ds) q from to = point_later _ _ q (point_at (suc number) n ks ds q from to)
point_at number n (k ∷ ks) (None ∷ ds) q from to =
    point_here n k ks ds q (nat_lt q (suc (suc n))) refl from (λ after. point_at (suc number) (suc (suc n)) ks ds q after (omega (arith, to)))
