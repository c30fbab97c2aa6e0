-- Typed trees of the rules are well formed.
use Rattle.std.proofs.Common.{◌≡◌, ◌∙◌, ◌&&◌, ◌||◌, ℕ, nat_lt, Bool, true, false, List, [], ◌∷◌, get_or, Option, Some, None, is_some, unwrap_or, int_le, ℤ, refl, ap, sym, subst, if◌then◌else◌, pos, arith}
use Rattle.std.proofs.lemmas.Bool.{and_parts, and_from, true≢false, eqb-true, eq-eqb, ltb-false, le-leb}
use Rattle.fc_base.specs.declared.ids.PointId.{PointId}
use Rattle.fc_base.specs.declared.ids.SiteId.{SiteId}
use Rattle.fc_base.specs.declared.syntax.LiteralForm.{LiteralForm}
use Rattle.fc_base.specs.declared.syntax.BinaryOp.{BinaryOp}
use Rattle.fc_base.specs.declared.syntax.BinaryOp.TheVariants as B
use Rattle.fc_base.specs.declared.syntax.UnaryOp.{UnaryOp}
use Rattle.fc_base.specs.declared.syntax.UnaryOp.TheVariants as U
use Rattle.c_ir.specs.declared.ty.IntType.{IntType}
use Rattle.c_ir.specs.declared.ty.IntType.TheVariants as T
use Rattle.c_ir.specs.declared.tree.Node.{Node}
use Rattle.c_ir.specs.declared.tree.Node.TheVariants as N
use Rattle.c_ir.specs.declared.kind.AlarmKind.{AlarmKind}
use Rattle.c_ir.specs.declared.tree.Checks.{Checks}
use Rattle.c_ir.specs.declared.tree.SiteInfo.{SiteInfo}
use Rattle.c_ir.specs.declared.tree.Expr.{Expr, map-Expr, out-roll-Expr}
use Rattle.c_ir.specs.declared.tree.Expr.TheFolds.{fold-roll-Expr, fold_out-Expr}
use Rattle.c_ir.specs.declared.tree.Expr.TheOpen.{Expr-F}
use Rattle.c_ir.specs.Checks.{binary_checks, unary_checks}
use Rattle.c_ir.specs.Trees.{expr, ty_of, constant, zero_expr}
use Rattle.c_ir.specs.Types.{number, same_type, promoted, unsigned, common, greatest, least, rank, is_signed, width, higher}
use Rattle.c_ir.specs.Formed.{Layout, Form, form, node_form, form_step, is_promoted, in_range, has_site, same_bool, unary_types, binary_types, arithmetic_types, relation_types, shift_types, choice_types, assign_types}
use Rattle.c_ir.specs.declared.place.Place.{Place}
use Rattle.c_ir.specs.declared.place.Place.TheVariants as P
use Rattle.c_rules.specs.Breaches.{is_dropped}
use Rattle.c_rules.specs.Fits.{is_target, Keeps}
use Rattle.c_ir.specs.Placed.{is_formed}
use Rattle.c_rules.specs.Typing as rule
use Rattle.c_rules.specs.Typing.{Gave, gave, and_then}

abbrev pub given : {X : Type 0} → Gave X → X
given (gave x s) = x

-- ---- types

of_number : ℕ → IntType
of_number n =
    get_or (T.Bool ∷ T.Char ∷ T.SignedChar ∷ T.UnsignedChar ∷ T.Short ∷ T.UnsignedShort ∷ T.Int ∷ T.UnsignedInt ∷ T.Long
    ∷ T.UnsignedLong ∷ T.LongLong ∷ T.UnsignedLongLong ∷ []) n T.Int

numbered : (a : IntType) → of_number (number a) ≡ a
unfolding of_number
numbered T.Bool = refl
numbered T.Char = refl
numbered T.SignedChar = refl
numbered T.UnsignedChar = refl
numbered T.Short = refl
numbered T.UnsignedShort = refl
numbered T.Int = refl
numbered T.UnsignedInt = refl
numbered T.Long = refl
numbered T.UnsignedLong = refl
numbered T.LongLong = refl
numbered T.UnsignedLongLong = refl

pub same_is : (a b : IntType) → same_type a b ≡ true → a ≡ b
same_is a b is = sym (numbered a) ∙ ap of_number (eqb-true _ _ is) ∙ numbered b

pub same_self : (a : IntType) → same_type a a ≡ true
same_self a = eq-eqb _ _ refl

promoted_is : (a : IntType) → is_promoted (promoted a) ≡ true
promoted_is T.Bool = refl
promoted_is T.Char = refl
promoted_is T.SignedChar = refl
promoted_is T.UnsignedChar = refl
promoted_is T.Short = refl
promoted_is T.UnsignedShort = refl
promoted_is T.Int = refl
promoted_is T.UnsignedInt = refl
promoted_is T.Long = refl
promoted_is T.UnsignedLong = refl
promoted_is T.LongLong = refl
promoted_is T.UnsignedLongLong = refl

unsigned_is : (a : IntType) → is_promoted a ≡ true → is_promoted (unsigned a) ≡ true
unsigned_is T.Bool is = is
unsigned_is T.Char is = is
unsigned_is T.SignedChar is = is
unsigned_is T.UnsignedChar is = is
unsigned_is T.Short is = is
unsigned_is T.UnsignedShort is = is
unsigned_is T.Int is = refl
unsigned_is T.UnsignedInt is = refl
unsigned_is T.Long is = refl
unsigned_is T.UnsignedLong is = refl
unsigned_is T.LongLong is = refl
unsigned_is T.UnsignedLongLong is = refl

one_of : (b : Bool) (x y : IntType) → is_promoted x ≡ true → is_promoted y ≡ true → is_promoted (if b then x else y) ≡ true
one_of true x y p q = p
one_of false x y p q = q

common_is : (a b : IntType) → is_promoted a ≡ true → is_promoted b ≡ true → is_promoted (common a b) ≡ true
unfolding common
common_is a b p q =
    let high : is_promoted (higher a b) ≡ true = one_of (nat_lt (rank a) (rank b)) b a q p in
    one_of (nat_lt (width a) (width b)) b _ q (one_of (nat_lt (width b) (width a)) a _ p
    (one_of (is_signed a && is_signed b) _ _ high (unsigned_is _ high)))

common_type_is : (a b : IntType) → is_promoted (rule.common_type a b) ≡ true
common_type_is a b = common_is (promoted a) (promoted b) (promoted_is a) (promoted_is b)

-- ---- forms

node_ty : (l : Layout) (ty : IntType) (site : Option SiteId) (n : Node Form (List Form)) → (node_form l ty site n).ty ≡ ty
node_ty l ty site (N.Literal v) = refl
node_ty l ty site (N.Cell c k) = refl
node_ty l ty site (N.Element f n i k) = refl
node_ty l ty site (N.Call g es) = refl
node_ty l ty site (N.Unary op e) = refl
node_ty l ty site (N.Binary op a b) = refl
node_ty l ty site (N.Assign t e) = refl
node_ty l ty site (N.Cond c a b) = refl
node_ty l ty site (N.Cast e) = refl

pub form_ty : (l : Layout) (e : Expr) → (form l e).ty ≡ ty_of e
form_ty l e = ap (λ (f : Form). f.ty) (fold_out-Expr Form (form_step l) e) ∙ node_ty l _ _ _

-- the form of a tree with this node
pub form_at : (l : Layout) (ty : IntType) (site : Option SiteId) (n : Node Expr (List Expr)) → form l (expr ty site n) ≡ form_step l (map-Expr Expr Form (form l) (record { ty = ty; site = site; node = n }))
form_at l ty site n = fold-roll-Expr Form (form_step l) (record { ty = ty; site = site; node = n })

-- a plain tree may stand anywhere
pub placed : (l : Layout) (place : Place) (e : Expr) → (form l e).value ≡ true → (form l e).plain ≡ true → is_formed l place e ≡ true
unfolding is_formed
placed l P.Inner e v p = and_from _ _ v p
placed l P.Value e v p = and_from _ _ v (ap (λ (b : Bool). b || (form l e).call) p)
placed l P.Dropped e v p = and_from _ _ v (ap (λ (b : Bool). b || ((form l e).call || (form l e).assign)) p)

pub value_of : (l : Layout) (place : Place) (e : Expr) → is_formed l place e ≡ true → (form l e).value ≡ true
unfolding is_formed
value_of l place e is = (and_parts _ _ is).0

pub plain_of : (l : Layout) (e : Expr) → is_formed l P.Inner e ≡ true → (form l e).plain ≡ true
unfolding is_formed
plain_of l e is = (and_parts _ _ is).1

-- ---- conversions

pub cast_keeps : (l : Layout) (ty : IntType) (e : Expr) → Keeps l e (rule.cast ty e)
unfolding rule.cast
cast_keeps l ty e = let at = form_at l ty None (N.Cast e) in record {
  value = ap (λ (f : Form). f.value) at;
  plain = ap (λ (f : Form). f.plain) at;
  call = ap (λ (f : Form). f.call) at;
}

keeps_if : (b : Bool) (l : Layout) (e t : Expr) → Keeps l e t → Keeps l e (if b then e else t)
keeps_if true l e t k = record { value = refl; plain = refl; call = refl }
keeps_if false l e t k = k

pub converted_keeps : (l : Layout) (ty : IntType) (e : Expr) → Keeps l e (rule.converted ty e)
converted_keeps l ty e = keeps_if (same_type ty (ty_of e)) l e _ (cast_keeps l ty e)

ty_if : (b : Bool) (ty : IntType) (e t : Expr) → (b ≡ true → ty ≡ ty_of e) → ty_of t ≡ ty → ty_of (if b then e else t) ≡ ty
ty_if true ty e t same is = sym (same refl)
ty_if false ty e t same is = is

cast_ty : (ty : IntType) (e : Expr) → ty_of (rule.cast ty e) ≡ ty
unfolding rule.cast
cast_ty ty e = ap (λ (x : Expr-F Expr). x.ty) (out-roll-Expr (record { ty = ty; site = None; node = N.Cast e }))

pub converted_ty : (ty : IntType) (e : Expr) → ty_of (rule.converted ty e) ≡ ty
converted_ty ty e = ty_if (same_type ty (ty_of e)) ty e _ (same_is ty (ty_of e)) (cast_ty ty e)

pub converted_form_ty : (l : Layout) (ty : IntType) (e : Expr) → (form l (rule.converted ty e)).ty ≡ ty
converted_form_ty l ty e = form_ty l _ ∙ converted_ty ty e

converted_value : (l : Layout) (place : Place) (ty : IntType) (e : Expr) → is_formed l place e ≡ true → (form l (rule.converted ty e)).value ≡ true
converted_value l place ty e is = (converted_keeps l ty e).value ∙ value_of l place e is

converted_plain : (l : Layout) (ty : IntType) (e : Expr) → is_formed l P.Inner e ≡ true → (form l (rule.converted ty e)).plain ≡ true
converted_plain l ty e is = (converted_keeps l ty e).plain ∙ plain_of l e is

kept : (l : Layout) (place : Place) (e t : Expr) → Keeps l e t → is_dropped place ≡ false → is_formed l place e ≡ true → is_formed l place t ≡ true
unfolding is_formed
kept l P.Inner e t k inside is = rw (k.value, k.plain) is
kept l P.Value e t k inside is = rw (k.value, k.plain, k.call) is
kept l P.Dropped e t k inside is = absurd (true≢false inside)

pub cast_kept : (l : Layout) (place : Place) (ty : IntType) (e : Expr) → is_dropped place ≡ false → is_formed l place e ≡ true → is_formed l place (rule.cast ty e) ≡ true
cast_kept l place ty e inside is = kept l place e _ (cast_keeps l ty e) inside is

pub cast_form_ty : (l : Layout) (ty : IntType) (e : Expr) → (form l (rule.cast ty e)).ty ≡ ty
cast_form_ty l ty e = form_ty l _ ∙ cast_ty ty e

pub same_form_ty : (l : Layout) (ty : IntType) (e : Expr) (same : Bool) → same ≡ same_type ty (ty_of e) → same ≡ true → (form l e).ty ≡ ty
same_form_ty l ty e same is holds = form_ty l e ∙ sym (same_is ty (ty_of e) (sym is ∙ holds))

-- ---- sites

site_given : (o : Option AlarmKind) (point : PointId) (checks : Checks) (s : List SiteInfo) (site : Option SiteId) (new : List SiteInfo) → rule.site_by o point checks s ≡ gave site new → same_bool (is_some site) (is_some o) ≡ true
site_given None point checks s site new is = ap (λ (g : Gave (Option SiteId)). same_bool (is_some (given g)) false) (sym is)
site_given (Some k) point checks s site new is = ap (λ (g : Gave (Option SiteId)). same_bool (is_some (given g)) true) (sym is)

pub site_is : (point : PointId) (checks : Checks) (s : List SiteInfo) (site : Option SiteId) (new : List SiteInfo) → rule.site_for point checks s ≡ gave site new → has_site site checks ≡ true
unfolding rule.site_for has_site
site_is point checks s site new is = site_given checks.first point checks s site new is

-- ---- operators

arithmetic_fit : (ty : IntType) → is_promoted ty ≡ true → arithmetic_types ty ty ty ≡ true
arithmetic_fit ty is = and_from _ _ (and_from _ _ (same_self ty) (same_self ty)) is

relation_fit : (ty : IntType) → is_promoted ty ≡ true → relation_types T.Int ty ty ≡ true
relation_fit ty is = and_from _ _ (and_from _ _ (same_self ty) is) refl

shift_fit : (ty r : IntType) → is_promoted ty ≡ true → is_promoted r ≡ true → shift_types ty ty r ≡ true
shift_fit ty r is ris = and_from _ _ (and_from _ _ (same_self ty) is) ris

binary_fit : (op : BinaryOp) (a b : IntType) → binary_types op (rule.binary_type op (rule.left_operand op a b)) (rule.left_operand op a b) (rule.right_operand op a b) ≡ true
unfolding rule.left_operand rule.right_operand rule.binary_type binary_types
binary_fit B.LogicOr a b = refl
binary_fit B.LogicAnd a b = refl
binary_fit B.Or a b = arithmetic_fit _ (common_type_is a b)
binary_fit B.Xor a b = arithmetic_fit _ (common_type_is a b)
binary_fit B.And a b = arithmetic_fit _ (common_type_is a b)
binary_fit B.Equal a b = relation_fit _ (common_type_is a b)
binary_fit B.NotEqual a b = relation_fit _ (common_type_is a b)
binary_fit B.Less a b = relation_fit _ (common_type_is a b)
binary_fit B.Greater a b = relation_fit _ (common_type_is a b)
binary_fit B.LessEq a b = relation_fit _ (common_type_is a b)
binary_fit B.GreaterEq a b = relation_fit _ (common_type_is a b)
binary_fit B.Shl a b = shift_fit _ _ (promoted_is a) (promoted_is b)
binary_fit B.Shr a b = shift_fit _ _ (promoted_is a) (promoted_is b)
binary_fit B.Add a b = arithmetic_fit _ (common_type_is a b)
binary_fit B.Sub a b = arithmetic_fit _ (common_type_is a b)
binary_fit B.Mul a b = arithmetic_fit _ (common_type_is a b)
binary_fit B.Div a b = arithmetic_fit _ (common_type_is a b)
binary_fit B.Rem a b = arithmetic_fit _ (common_type_is a b)

-- the types and checks, where the parts' types are these
binary_at : (op : BinaryOp) (ty a b x y : IntType) (site : Option SiteId) → x ≡ a → y ≡ b → binary_types op ty a b ≡ true → has_site site (binary_checks op a) ≡ true → (binary_types op ty x y && has_site site (binary_checks op x)) ≡ true
binary_at op ty a b x y site p q types checks = rw (p, q) (and_from _ _ types checks)

binary_tree : (l : Layout) (place : Place) (op : BinaryOp) (a b : Expr) (site : Option SiteId) → is_formed l P.Inner a ≡ true → is_formed l P.Inner b ≡ true → has_site site (binary_checks op (rule.left_operand op (ty_of a) (ty_of b))) ≡ true → is_formed l place (rule.binary_of op (rule.left_operand op (ty_of a) (ty_of b)) a b site) ≡ true
binary_tree l place op a b site p q has =
    let left = rule.left_operand op (ty_of a) (ty_of b) in
    let right = rule.right_operand op (ty_of a) (ty_of b) in
    let at = form_at l (rule.binary_type op left) site (N.Binary op (rule.converted left a) (rule.converted right b)) in
    placed l place _
    (ap (λ (f : Form). f.value) at ∙ and_from _ _ (and_from _ _ (converted_value l P.Inner left a p) (converted_value l P.Inner right b q))
    (binary_at op _ left right _ _ site (converted_form_ty l left a) (converted_form_ty l right b) (binary_fit op (ty_of a) (ty_of b)) has))
    (ap (λ (f : Form). f.plain) at ∙ and_from _ _ (converted_plain l left a p) (converted_plain l right b q))

-- what comes of the next site and a tree over it
pub site_then : (g : Gave (Option SiteId)) (f : Option SiteId → Expr) (e : Expr) (new : List SiteInfo) → and_then g (λ site s. gave (f site) s) ≡ gave e new → (site : Option SiteId) × (after : List SiteInfo) × (g ≡ gave site after) × (f site ≡ e)
site_then (gave site after) f e new is = (site, after, refl, ap given is)

pub binary_formed : (l : Layout) (place : Place) (point : PointId) (op : BinaryOp) (a b : Expr) (s : List SiteInfo) (e : Expr) (new : List SiteInfo) → rule.binary point op a b s ≡ gave e new → is_formed l P.Inner a ≡ true → is_formed l P.Inner b ≡ true → is_formed l place e ≡ true
unfolding rule.binary
binary_formed l place point op a b s e new is p q =
    let ty = rule.left_operand op (ty_of a) (ty_of b) in
    let t = site_then (rule.site_for point (binary_checks op ty) s) (rule.binary_of op ty a b) e new is in
    subst (λ (x : Expr). is_formed l place x ≡ true) t.3 (binary_tree l place op a b t.0 p q (site_is point (binary_checks op ty) s t.0 t.1 t.2))

unary_fit : (op : UnaryOp) (a : IntType) → unary_types op (rule.unary_type op (rule.operand_type op a)) (rule.operand_type op a) ≡ true
unfolding unary_types
unary_fit U.Plus a = and_from _ _ (same_self (promoted a)) (promoted_is a)
unary_fit U.Minus a = and_from _ _ (same_self (promoted a)) (promoted_is a)
unary_fit U.Not a = refl
unary_fit U.Invert a = and_from _ _ (same_self (promoted a)) (promoted_is a)

unary_site : (op : UnaryOp) (a : IntType) (site : Option SiteId) → has_site site (unary_checks op a) ≡ true → has_site site (unary_checks op (rule.unary_type op a)) ≡ true
unfolding unary_checks
unary_site U.Plus a site is = is
unary_site U.Minus a site is = is
unary_site U.Not a site is = is
unary_site U.Invert a site is = is

unary_at : (op : UnaryOp) (ty a x : IntType) (has : Bool) → x ≡ a → unary_types op ty a ≡ true → has ≡ true → (unary_types op ty x && has) ≡ true
unary_at op ty a x has p types checks = rw p (and_from _ _ types checks)

abbrev unary_of : UnaryOp → Expr → Option SiteId → Expr
unary_of op a site =
    expr (rule.unary_type op (rule.operand_type op (ty_of a))) site (N.Unary op (rule.converted (rule.operand_type op (ty_of a)) a))

unary_tree : (l : Layout) (place : Place) (op : UnaryOp) (a : Expr) (site : Option SiteId) → is_formed l P.Inner a ≡ true → has_site site (unary_checks op (rule.operand_type op (ty_of a))) ≡ true → is_formed l place (unary_of op a site) ≡ true
unary_tree l place op a site p has =
    let ty = rule.operand_type op (ty_of a) in
    let at = form_at l (rule.unary_type op ty) site (N.Unary op (rule.converted ty a)) in
    placed l place _
    (ap (λ (f : Form). f.value) at ∙ and_from _ _ (converted_value l P.Inner ty a p)
    (unary_at op _ ty _ _ (converted_form_ty l ty a) (unary_fit op (ty_of a)) (unary_site op ty site has)))
    (ap (λ (f : Form). f.plain) at ∙ converted_plain l ty a p)

pub unary_formed : (l : Layout) (place : Place) (point : PointId) (op : UnaryOp) (a : Expr) (s : List SiteInfo) (e : Expr) (new : List SiteInfo) → rule.unary point op a s ≡ gave e new → is_formed l P.Inner a ≡ true → is_formed l place e ≡ true
unfolding rule.unary
unary_formed l place point op a s e new is p =
    let ty = rule.operand_type op (ty_of a) in
    let t = site_then (rule.site_for point (unary_checks op ty) s) (unary_of op a) e new is in
    subst (λ (x : Expr). is_formed l place x ≡ true) t.3 (unary_tree l place op a t.0 p (site_is point (unary_checks op ty) s t.0 t.1 t.2))

both_of : (ty x y : IntType) → x ≡ ty → y ≡ ty → (same_type x ty && same_type y ty) ≡ true
both_of ty x y p q = rw (p, q) (and_from _ _ (same_self ty) (same_self ty))

pub choice_formed : (l : Layout) (place : Place) (c a b : Expr) → is_formed l P.Inner c ≡ true → is_formed l P.Inner a ≡ true → is_formed l P.Inner b ≡ true → is_formed l place (rule.choice c a b) ≡ true
unfolding rule.choice choice_types
choice_formed l place c a b r p q =
    let ty = rule.common_type (ty_of a) (ty_of b) in
    let at = form_at l ty None (N.Cond c (rule.converted ty a) (rule.converted ty b)) in
    placed l place _
    (ap (λ (f : Form). f.value) at ∙ and_from _ _ (and_from _ _ (value_of l P.Inner c r)
    (and_from _ _ (converted_value l P.Inner ty a p) (converted_value l P.Inner ty b q)))
    (and_from _ _ (both_of ty _ _ (converted_form_ty l ty a) (converted_form_ty l ty b)) (common_type_is (ty_of a) (ty_of b))))
    (ap (λ (f : Form). f.plain) at ∙ and_from _ _ (plain_of l c r)
    (and_from _ _ (converted_plain l ty a p) (converted_plain l ty b q)))

pub cast_formed : (l : Layout) (place : Place) (ty : IntType) (e : Expr) → is_formed l P.Inner e ≡ true → is_formed l place (rule.cast ty e) ≡ true
cast_formed l place ty e is =
    placed l place _ ((cast_keeps l ty e).value ∙ value_of l P.Inner e is) ((cast_keeps l ty e).plain ∙ plain_of l e is)

placed_value : (l : Layout) (e : Expr) → is_formed l P.Value e ≡ true → ((form l e).plain || (form l e).call) ≡ true
unfolding is_formed
placed_value l e is = (and_parts _ _ is).1

either_kept : (a b x y : Bool) → x ≡ a → y ≡ b → (a || b) ≡ true → (x || y) ≡ true
either_kept a b x y p q is = rw (p, q) is

assigned_dropped : (l : Layout) (t e : Expr) → is_target l t ≡ true → is_formed l P.Value e ≡ true → is_formed l P.Dropped (rule.assigned t e) ≡ true
unfolding rule.assigned is_formed is_target assign_types
assigned_dropped l t e to is =
    let ty = ty_of t in
    let at = form_at l ty None (N.Assign t (rule.converted ty e)) in
    let keeps = converted_keeps l ty e in
    let target = and_parts _ _ to in
    and_from _ _
    (ap (λ (f : Form). f.value) at ∙ and_from _ _ (and_from _ _ target.0 (converted_value l P.Value ty e is))
    (both_of ty _ _ (form_ty l t) (converted_form_ty l ty e)))
    (ap (λ (f : Form). f.plain || (f.call || f.assign)) at
    ∙ and_from _ _ target.1 (either_kept _ _ _ _ keeps.plain keeps.call (placed_value l e is)))

pub assigned_formed : (l : Layout) (place : Place) (t e : Expr) → is_dropped place ≡ true → is_target l t ≡ true → is_formed l P.Value e ≡ true → is_formed l place (rule.assigned t e) ≡ true
assigned_formed l P.Inner t e dropped to is = absurd (true≢false (sym dropped))
assigned_formed l P.Value t e dropped to is = absurd (true≢false (sym dropped))
assigned_formed l P.Dropped t e dropped to is = assigned_dropped l t e to is

-- ---- constants

low : (ty : IntType) (v : ℕ) → int_le (least ty) (pos v) ≡ true
low T.Bool v = le-leb 0 v (omega arith)
low T.Char v = refl
low T.SignedChar v = refl
low T.UnsignedChar v = le-leb 0 v (omega arith)
low T.Short v = refl
low T.UnsignedShort v = le-leb 0 v (omega arith)
low T.Int v = refl
low T.UnsignedInt v = le-leb 0 v (omega arith)
low T.Long v = refl
low T.UnsignedLong v = le-leb 0 v (omega arith)
low T.LongLong v = refl
low T.UnsignedLongLong v = le-leb 0 v (omega arith)

pub constant_formed : (l : Layout) (place : Place) (ty : IntType) (v : ℤ) → in_range ty v ≡ true → is_formed l place (constant ty v) ≡ true
constant_formed l place ty v is =
    let at = form_at l ty None (N.Literal v) in
    placed l place _ (ap (λ (f : Form). f.value) at ∙ is) (ap (λ (f : Form). f.plain) at)

pub zero_formed : (l : Layout) (place : Place) → is_formed l place zero_expr ≡ true
unfolding in_range
zero_formed l place = constant_formed l place T.Int (pos 0) refl

held : (v : ℕ) (ts : List IntType) (ty : IntType) → rule.first_holding v ts ≡ Some ty → in_range ty (pos v) ≡ true
unfolding in_range
held v [] ty is = absurd (true≢false (sym (ap is_some is)))
held v (t ∷ ts) ty is =
    elim (nat_lt (greatest t) v) as (λ (b : Bool). nat_lt (greatest t) v ≡ b → (if b then rule.first_holding v ts else Some t) ≡ Some ty → in_range ty (pos v) ≡ true) [
      | true ↦ λ _ is. held v ts ty is
      | false ↦ λ no is. subst (λ (x : IntType). in_range x (pos v) ≡ true) (ap (λ (o : Option IntType). unwrap_or o t) is)
          (and_from _ _ (low t v) (le-leb v (greatest t) (ltb-false _ _ no)))
    ] refl is

pub literal_formed : (l : Layout) (place : Place) (v : ℕ) (form : LiteralForm) (unsigned : Bool) (longs : ℕ) → is_formed l place (rule.literal v (rule.literal_type v form unsigned longs)) ≡ true
unfolding rule.literal_type
literal_formed l place v form unsigned longs =
    let o = rule.first_holding v (rule.candidates form unsigned longs) in
    elim o as (λ (x : Option IntType). o ≡ x → is_formed l place (rule.literal v x) ≡ true) [
      | None ↦ λ _. zero_formed l place
      | Some ty ↦ λ is. constant_formed l place ty (pos v) (held v _ ty is)
    ] refl
