-- Typed trees of names, elements and calls are well formed.
use Rattle.std.proofs.Common.{◌≡◌, ◌&&◌, ◌∙◌, ◌+◌, ℕ, nat_lt, nat_le, not, Bool, true, false, List, [], ◌∷◌, length, take, drop, slice_get, Option, Some, None, is_some, map, refl, ap, sym, subst, arith}
use Rattle.std.proofs.lemmas.Bool.{and_parts, and_from, true≢false, eqb-true, not-true, or_left, or_right}
use Rattle.std.specs.List.{list_all}
use Rattle.fc_base.specs.declared.ids.PointId.{PointId}
use Rattle.fc_base.specs.declared.ids.SiteId.{SiteId}
use Rattle.c_ir.specs.declared.ty.IntType.{IntType}
use Rattle.c_ir.specs.declared.tree.Node.TheVariants as N
use Rattle.c_ir.specs.declared.tree.SiteInfo.{SiteInfo}
use Rattle.c_ir.specs.declared.tree.CellInfo.{CellInfo}
use Rattle.c_ir.specs.declared.tree.Expr.{Expr}
use Rattle.c_ir.specs.Checks.{read_checks, element_checks}
use Rattle.c_ir.specs.Trees.{expr}
use Rattle.c_ir.specs.Types.{same_type}
use Rattle.c_ir.specs.Formed.{Layout, Callee, Form, form, has_site, same_bool, on_some, is_of, is_read_as, cell_is, cell_passes, cells_are, cells_pass, args_fit, all_plain, call_type, is_call_of}
use Rattle.c_rules.specs.declared.scope.Array.{Array}
use Rattle.c_rules.specs.declared.scope.Object.{Object}
use Rattle.c_rules.specs.declared.scope.Signature.{Signature}
use Rattle.c_ir.specs.declared.place.Place.{Place}
use Rattle.c_ir.specs.declared.place.Place.TheVariants as P
use Rattle.c_rules.specs.Breaches.{is_inner}
use Rattle.c_rules.specs.Fits.{is_target, is_arg, are_args, object_fits, same_types, same_result, is_callee, array_fits, function_fits}
use Rattle.c_ir.specs.Placed.{is_formed}
use Rattle.c_rules.specs.Typing as rule
use Rattle.c_rules.specs.Typing.{Gave, gave}
use Rattle.c_rules.proofs.Formed.{given, form_at, placed, value_of, plain_of, site_is, site_then, same_is, same_self, zero_formed}

-- ---- objects

checked_site : (k : Bool) (site : Option SiteId) → has_site site (read_checks k) ≡ true → same_bool (is_some site) k ≡ true
unfolding has_site
checked_site true site is = is
checked_site false site is = is

of_read : (ty : IntType) (k : Bool) (cells : List CellInfo) → list_all (is_read_as ty k) cells ≡ true → list_all (is_of ty) cells ≡ true
of_read ty k [] is = refl
of_read ty k (c ∷ cs) is =
    let parts = and_parts _ _ is in and_from _ _ (and_parts _ _ parts.0).0 (of_read ty k cs parts.1)

cells_of_read : (ty : IntType) (k : Bool) (cells : List CellInfo) (first n : ℕ) → cells_are (is_read_as ty k) cells first n ≡ true → cells_are (is_of ty) cells first n ≡ true
unfolding cells_pass
cells_of_read ty k cells first n is =
    let parts = and_parts (nat_lt 0 n && nat_le (first + n) (length cells)) _ is in
    and_from _ _ parts.0 (of_read ty k (take n (drop first cells)) parts.1)

some_of_read : (ty : IntType) (k : Bool) (o : Option CellInfo) → on_some (is_read_as ty k) o ≡ true → on_some (is_of ty) o ≡ true
some_of_read ty k None is = is
some_of_read ty k (Some c) is = (and_parts _ _ is).0

cell_of_read : (ty : IntType) (k : Bool) (cells : List CellInfo) (c : ℕ) → cell_is (is_read_as ty k) cells c ≡ true → cell_is (is_of ty) cells c ≡ true
unfolding cell_passes
cell_of_read ty k cells c is =
    let parts = and_parts (nat_lt c (length cells)) _ is in
    and_from _ _ parts.0 (some_of_read ty k (slice_get cells c) parts.1)

abbrev cell_tree : Object → Option SiteId → Expr
cell_tree o site = expr o.ty site (N.Cell o.first o.checked)

cell_formed : (l : Layout) (place : Place) (o : Object) (site : Option SiteId) → object_fits l o None ≡ true → has_site site (read_checks o.checked) ≡ true → is_formed l place (cell_tree o site) ≡ true
cell_formed l place o site fits has =
    let at = form_at l o.ty site (N.Cell o.first o.checked) in
    placed l place _
    (ap (λ (f : Form). f.value) at ∙ and_from _ _ (checked_site o.checked site has) fits)
    (ap (λ (f : Form). f.plain) at)

pub object_read_formed : (l : Layout) (place : Place) (point : PointId) (o : Object) (n : Option ℕ) (s : List SiteInfo) (e : Expr) (new : List SiteInfo) → rule.object_read point o n s ≡ gave e new → object_fits l o n ≡ true → is_formed l place e ≡ true
object_read_formed l place point o None s e new is fits =
    let t = site_then (rule.site_for point (read_checks o.checked) s) (cell_tree o) e new is in
    subst (λ (x : Expr). is_formed l place x ≡ true) t.3 (cell_formed l place o t.0 fits (site_is point (read_checks o.checked) s t.0 t.1 t.2))
object_read_formed l place point o (Some n) s e new is fits =
    subst (λ (x : Expr). is_formed l place x ≡ true) (ap (λ (g : Gave Expr). given g) is) (zero_formed l place)

object_target : (l : Layout) (o : Object) → object_fits l o None ≡ true → is_target l (rule.object_written o None) ≡ true
unfolding is_target
object_target l o fits =
    let at = form_at l o.ty None (N.Cell o.first false) in
    and_from _ _
    (ap (λ (f : Form). f.target) at ∙ cell_of_read o.ty o.checked l.cells o.first fits)
    (ap (λ (f : Form). f.plain) at)

pub scalar_target : (l : Layout) (o : Object) (n : Option ℕ) → object_fits l o n ≡ true → not (is_some n) ≡ true → is_target l (rule.object_written o n) ≡ true
scalar_target l o None fits is = object_target l o fits
scalar_target l o (Some n) fits is = absurd (true≢false (sym is))

-- ---- arrays

element_site : (k : Bool) (site : Option SiteId) → has_site site (element_checks k) ≡ true → is_some site ≡ true
unfolding has_site
element_site k (Some n) is = refl
element_site k None is = is

abbrev element_tree : Array → Bool → Expr → Option SiteId → Expr
element_tree a k i site = expr a.object.ty site (N.Element a.object.first a.length i k)

element_formed_at : (l : Layout) (place : Place) (a : Array) (i : Expr) (site : Option SiteId) → is_some site ≡ true → array_fits l (Some a) ≡ true → is_formed l P.Inner i ≡ true → is_formed l place (element_tree a a.object.checked i site) ≡ true
unfolding array_fits
element_formed_at l place a i site has fits is =
    let at = form_at l a.object.ty site (N.Element a.object.first a.length i a.object.checked) in
    placed l place _
    (ap (λ (f : Form). f.value) at ∙ and_from _ _ has (and_from _ _ (value_of l P.Inner i is) fits))
    (ap (λ (f : Form). f.plain) at ∙ plain_of l i is)

element_target_at : (l : Layout) (a : Array) (i : Expr) (site : Option SiteId) → is_some site ≡ true → array_fits l (Some a) ≡ true → is_formed l P.Inner i ≡ true → is_target l (element_tree a false i site) ≡ true
unfolding array_fits is_target
element_target_at l a i site has fits is =
    let at = form_at l a.object.ty site (N.Element a.object.first a.length i false) in
    and_from _ _
    (ap (λ (f : Form). f.target) at ∙ and_from _ _ has (and_from _ _ (value_of l P.Inner i is)
    (cells_of_read a.object.ty a.object.checked l.cells a.object.first a.length fits)))
    (ap (λ (f : Form). f.plain) at ∙ plain_of l i is)

pub element_formed : (l : Layout) (place : Place) (point : PointId) (a : Array) (k : Bool) (i : Expr) (s : List SiteInfo) (e : Expr) (new : List SiteInfo) → rule.element point a k i s ≡ gave e new → k ≡ a.object.checked → array_fits l (Some a) ≡ true → is_formed l P.Inner i ≡ true → is_formed l place e ≡ true
unfolding rule.element
element_formed l place point a k i s e new is read fits index =
    let t = site_then (rule.site_for point (element_checks k) s) (element_tree a k i) e new is in
    let has = element_site k t.0 (site_is point (element_checks k) s t.0 t.1 t.2) in
    subst (λ (x : Expr). is_formed l place x ≡ true) t.3
    (subst (λ (b : Bool). is_formed l place (element_tree a b i t.0) ≡ true) (sym read) (element_formed_at l place a i t.0 has fits index))

pub element_targeted : (l : Layout) (point : PointId) (a : Array) (k : Bool) (i : Expr) (s : List SiteInfo) (e : Expr) (new : List SiteInfo) → rule.element point a k i s ≡ gave e new → k ≡ false → array_fits l (Some a) ≡ true → is_formed l P.Inner i ≡ true → is_target l e ≡ true
unfolding rule.element
element_targeted l point a k i s e new is written fits index =
    let t = site_then (rule.site_for point (element_checks k) s) (element_tree a k i) e new is in
    let has = element_site k t.0 (site_is point (element_checks k) s t.0 t.1 t.2) in
    subst (λ (x : Expr). is_target l x ≡ true) t.3
    (subst (λ (b : Bool). is_target l (element_tree a b i t.0) ≡ true) (sym written) (element_target_at l a i t.0 has fits index))

-- ---- functions

-- arguments for formals of the same types, as many as formals
args_are : (l : Layout) (cs gs : List IntType) (es : List Expr) → same_types cs gs ≡ true → are_args l gs es ≡ true → length es ≡ length gs → args_fit cs (map (form l) es) ≡ true
unfolding are_args is_arg
args_are l [] [] [] same are long = refl
args_are l [] [] (e ∷ es) same are long = absurd (omega (arith, long))
args_are l [] (g ∷ gs) es same are long = absurd (true≢false (sym same))
args_are l (c ∷ cs) [] es same are long = absurd (true≢false (sym same))
args_are l (c ∷ cs) (g ∷ gs) [] same are long = absurd (omega (arith, long))
args_are l (c ∷ cs) (g ∷ gs) (e ∷ es) same are long =
    let types = and_parts _ _ same in
    let args = and_parts _ _ are in
    let arg = and_parts _ _ args.0 in
    and_from _ _ (and_from _ _ (value_of l P.Inner e arg.0) (subst (λ (x : IntType). same_type (form l e).ty x ≡ true) (sym (same_is c g types.0)) arg.1))
    (args_are l cs gs es types.1 args.1 (omega (arith, long)))

args_plain : (l : Layout) (gs : List IntType) (es : List Expr) → are_args l gs es ≡ true → all_plain (map (form l) es) ≡ true
unfolding are_args is_arg
args_plain l gs [] are = refl
args_plain l [] (e ∷ es) are = let args = and_parts _ _ are in and_from _ _ (plain_of l e args.0) (args_plain l [] es args.1)
args_plain l (g ∷ gs) (e ∷ es) are =
    let args = and_parts _ _ are in
    and_from _ _ (plain_of l e (and_parts _ _ args.0).0) (args_plain l gs es args.1)

result_is : (a b : Option IntType) → same_result a b ≡ true → same_type (rule.result_of b) (call_type a) ≡ true
result_is None None same = refl
result_is None (Some b) same = absurd (true≢false (sym same))
result_is (Some a) None same = absurd (true≢false (sym same))
result_is (Some a) (Some b) same = rw (same_is a b same) (same_self b)

call_is : (l : Layout) (g : Signature) (es : List Expr) (o : Option Callee) → on_some (is_callee g) o ≡ true → are_args l g.formals es ≡ true → length es ≡ length g.formals → on_some (is_call_of (rule.result_of g.result) (map (form l) es)) o ≡ true
unfolding is_call_of
call_is l g es None is are long = is
call_is l g es (Some c) is are long =
    let same = and_parts _ _ is in
    and_from _ _ (args_are l c.formals g.formals es same.0 are long) (result_is c.result g.result same.1)

call_placed : (l : Layout) (place : Place) (e : Expr) → is_inner place ≡ false → (form l e).value ≡ true → (form l e).call ≡ true → is_formed l place e ≡ true
unfolding is_formed
call_placed l P.Inner e outer v c = absurd (true≢false outer)
call_placed l P.Value e outer v c = and_from _ _ v (or_right _ _ c)
call_placed l P.Dropped e outer v c = and_from _ _ v (or_right _ _ (or_left _ _ c))

pub called_formed : (l : Layout) (place : Place) (g : Signature) (es : List Expr) (count : ℕ) → function_fits l (Some g) ≡ true → rule.is_allowed place g count ≡ true → length es ≡ count → are_args l g.formals es ≡ true → is_formed l place (rule.called g es) ≡ true
unfolding function_fits rule.is_allowed rule.called
called_formed l place g es count fits allowed long are =
    let at = form_at l (rule.result_of g.result) None (N.Call g.number es) in
    let parts = and_parts _ _ allowed in
    let many = eqb-true _ _ (and_parts _ _ parts.1).0 in
    call_placed l place _ (not-true _ parts.0)
    (ap (λ (f : Form). f.value) at ∙ call_is l g es (slice_get l.callees g.number.0) fits are (long ∙ many))
    (ap (λ (f : Form). f.call) at ∙ args_plain l g.formals es are)
