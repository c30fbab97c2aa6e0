-- Sites of the rules' trees have their entries.
use Rattle.std.proofs.Common.{◌≡◌, ◌∙◌, ℕ, Bool, true, false, List, [], ◌∷◌, ◌++◌, length, slice_get, Option, Some, None, ℤ, refl, ap, sym, subst, append_assoc, if◌then◌else◌}
use Rattle.std.proofs.lemmas.Bool.{and_from, eq-eqb}
use Rattle.fc_base.specs.declared.ids.PointId.{PointId}
use Rattle.fc_base.specs.declared.ids.SiteId.{SiteId}
use Rattle.fc_base.specs.declared.syntax.BinaryOp.{BinaryOp}
use Rattle.fc_base.specs.declared.syntax.UnaryOp.{UnaryOp}
use Rattle.fc_base.specs.declared.syntax.UnaryOp.TheVariants as U
use Rattle.c_ir.specs.declared.kind.AlarmKind.{AlarmKind}
use Rattle.c_ir.specs.declared.ty.IntType.{IntType}
use Rattle.c_ir.specs.declared.tree.Checks.{Checks}
use Rattle.c_ir.specs.declared.tree.Node.{Node}
use Rattle.c_ir.specs.declared.tree.Node.TheVariants as N
use Rattle.c_ir.specs.declared.tree.SiteInfo.{SiteInfo}
use Rattle.c_ir.specs.declared.tree.Expr.{Expr, map-Expr}
use Rattle.c_ir.specs.declared.tree.Expr.TheFolds.{fold-roll-Expr, fold_out-Expr}
use Rattle.c_ir.specs.Checks.{binary_checks, unary_checks, read_checks, element_checks}
use Rattle.c_ir.specs.Trees.{expr, ty_of, constant}
use Rattle.c_ir.specs.Types.{same_type}
use Rattle.c_ir.specs.Formed.{on_some}
use Rattle.c_ir.specs.Sited.{Extends, Sited, sited, sited_step, at_sites, all_at_sites, has_entry, same_alarm, same_checks, is_entry}
use Rattle.c_rules.specs.declared.scope.Array.{Array}
use Rattle.c_rules.specs.declared.scope.Object.{Object}
use Rattle.c_rules.specs.declared.scope.Signature.{Signature}
use Rattle.c_rules.specs.Typing as rule
use Rattle.c_rules.specs.Typing.{Gave, gave, and_then}
use Rattle.c_rules.proofs.Formed.{given, converted_ty}

-- ---- sites

same_alarm_self : (a : Option AlarmKind) → same_alarm a a ≡ true
same_alarm_self None = refl
same_alarm_self (Some a) = eq-eqb _ _ refl

same_checks_self : (c : Checks) → same_checks c c ≡ true
same_checks_self c = and_from _ _ (same_alarm_self c.first) (same_alarm_self c.second)

is_entry_self : (point : PointId) (c : Checks) → is_entry point c (record { point = point; checks = c }) ≡ true
is_entry_self point c = and_from _ _ (eq-eqb _ _ refl) (same_checks_self c)

-- the entry after those of a list
after_all : (s : List SiteInfo) (i : SiteInfo) (more : List SiteInfo) → slice_get ((s ++ i ∷ []) ++ more) (length s) ≡ Some i
after_all [] i more = refl
after_all (x ∷ s) i more = after_all s i more

pub extends_less : (infos s : List SiteInfo) (i : SiteInfo) → Extends infos (s ++ i ∷ []) → Extends infos s
extends_less infos s i e = record { more = i ∷ e.more; is = e.is ∙ append_assoc s (i ∷ []) e.more }

abbrev after : {X : Type 0} → Gave X → List SiteInfo
after (gave x s) = s

entry_at : (point : PointId) (checks : Checks) (s infos : List SiteInfo) → Extends infos (s ++ (record { point = point; checks = checks }) ∷ []) → has_entry infos point (Some (record { 0 = length s })) checks ≡ true
entry_at point checks s infos e =
    let i : SiteInfo = record { point = point; checks = checks } in
    subst (λ (x : List SiteInfo). has_entry x point (Some (record { 0 = length s })) checks ≡ true) (sym e.is)
    (ap (on_some (is_entry point checks)) (after_all s i e.more) ∙ is_entry_self point checks)

entry_by : (o : Option AlarmKind) (point : PointId) (checks : Checks) (s : List SiteInfo) (site : Option SiteId) (new infos : List SiteInfo) → rule.site_by o point checks s ≡ gave site new → Extends infos new → has_entry infos point site checks ≡ true
entry_by None point checks s site new infos is e =
    subst (λ (x : Option SiteId). has_entry infos point x checks ≡ true) (ap (λ (g : Gave (Option SiteId)). given g) is) refl
entry_by (Some k) point checks s site new infos is e =
    subst (λ (x : Option SiteId). has_entry infos point x checks ≡ true) (ap (λ (g : Gave (Option SiteId)). given g) is)
    (entry_at point checks s infos (subst (λ (x : List SiteInfo). Extends infos x) (sym (ap (λ (g : Gave (Option SiteId)). after g) is)) e))

grows_by : (o : Option AlarmKind) (point : PointId) (checks : Checks) (s : List SiteInfo) (site : Option SiteId) (new infos : List SiteInfo) → rule.site_by o point checks s ≡ gave site new → Extends infos new → Extends infos s
grows_by None point checks s site new infos is e =
    subst (λ (x : List SiteInfo). Extends infos x) (sym (ap (λ (g : Gave (Option SiteId)). after g) is)) e
grows_by (Some k) point checks s site new infos is e =
    extends_less infos s (record { point = point; checks = checks })
    (subst (λ (x : List SiteInfo). Extends infos x) (sym (ap (λ (g : Gave (Option SiteId)). after g) is)) e)

entry_is : (point : PointId) (checks : Checks) (s : List SiteInfo) (site : Option SiteId) (new infos : List SiteInfo) → rule.site_for point checks s ≡ gave site new → Extends infos new → has_entry infos point site checks ≡ true
unfolding rule.site_for
entry_is point checks s site new infos is e = entry_by checks.first point checks s site new infos is e

pub site_grows : (point : PointId) (checks : Checks) (s : List SiteInfo) (site : Option SiteId) (new infos : List SiteInfo) → rule.site_for point checks s ≡ gave site new → Extends infos new → Extends infos s
unfolding rule.site_for
site_grows point checks s site new infos is e = grows_by checks.first point checks s site new infos is e

-- what comes of the next site and a tree over it
then_site : (g : Gave (Option SiteId)) (f : Option SiteId → Expr) (e : Expr) (new : List SiteInfo) → and_then g (λ site s. gave (f site) s) ≡ gave e new → (site : Option SiteId) × (g ≡ gave site new) × (f site ≡ e)
then_site (gave site s) f e new is =
    (site, ap (gave site) (ap (λ (g : Gave Expr). after g) is), ap (λ (g : Gave Expr). given g) is)

-- ---- folds

sited_at : (infos : List SiteInfo) (point : PointId) (ty : IntType) (site : Option SiteId) (n : Node Expr (List Expr)) → sited infos point (expr ty site n) ≡ sited_step infos point (map-Expr Expr Sited (sited infos point) (record { ty = ty; site = site; node = n }))
sited_at infos point ty site n = fold-roll-Expr Sited (sited_step infos point) (record { ty = ty; site = site; node = n })

sited_ty : (infos : List SiteInfo) (point : PointId) (e : Expr) → (sited infos point e).ty ≡ ty_of e
sited_ty infos point e = ap (λ (f : Sited). f.ty) (fold_out-Expr Sited (sited_step infos point) e)

-- a tree at whose node there is an entry, and whose parts have theirs
tree_sited : (infos : List SiteInfo) (point : PointId) (ty : IntType) (site : Option SiteId) (n : Node Expr (List Expr)) → (sited_step infos point (map-Expr Expr Sited (sited infos point) (record { ty = ty; site = site; node = n }))).holds ≡ true → at_sites infos point (expr ty site n) ≡ true
unfolding at_sites
tree_sited infos point ty site n is = ap (λ (f : Sited). f.holds) (sited_at infos point ty site n) ∙ is

holds_of : (infos : List SiteInfo) (point : PointId) (e : Expr) → at_sites infos point e ≡ true → (sited infos point e).holds ≡ true
unfolding at_sites
holds_of infos point e is = is

-- ---- conversions

pub cast_sited : (infos : List SiteInfo) (point : PointId) (ty : IntType) (e : Expr) → at_sites infos point e ≡ true → at_sites infos point (rule.cast ty e) ≡ true
unfolding rule.cast
cast_sited infos point ty e is = tree_sited infos point ty None (N.Cast e) (holds_of infos point e is)

sited_if : (b : Bool) (infos : List SiteInfo) (point : PointId) (e t : Expr) → at_sites infos point e ≡ true → at_sites infos point t ≡ true → at_sites infos point (if b then e else t) ≡ true
sited_if true infos point e t p q = p
sited_if false infos point e t p q = q

pub converted_sited : (infos : List SiteInfo) (point : PointId) (ty : IntType) (e : Expr) → at_sites infos point e ≡ true → at_sites infos point (rule.converted ty e) ≡ true
converted_sited infos point ty e is = sited_if (same_type ty (ty_of e)) infos point e _ is (cast_sited infos point ty e is)

converted_holds : (infos : List SiteInfo) (point : PointId) (ty : IntType) (e : Expr) → at_sites infos point e ≡ true → (sited infos point (rule.converted ty e)).holds ≡ true
converted_holds infos point ty e is = holds_of infos point _ (converted_sited infos point ty e is)

-- ---- operators

binary_tree : (infos : List SiteInfo) (point : PointId) (op : BinaryOp) (a b : Expr) (site : Option SiteId) → has_entry infos point site (binary_checks op (rule.left_operand op (ty_of a) (ty_of b))) ≡ true → at_sites infos point a ≡ true → at_sites infos point b ≡ true → at_sites infos point (rule.binary_of op (rule.left_operand op (ty_of a) (ty_of b)) a b site) ≡ true
binary_tree infos point op a b site has p q =
    let left = rule.left_operand op (ty_of a) (ty_of b) in
    let right = rule.right_operand op (ty_of a) (ty_of b) in
    tree_sited infos point (rule.binary_type op left) site (N.Binary op (rule.converted left a) (rule.converted right b))
    (and_from _ _ (ap (λ (ty : IntType). has_entry infos point site (binary_checks op ty)) (sited_ty infos point _ ∙ converted_ty left a) ∙ has)
    (and_from _ _ (converted_holds infos point left a p) (converted_holds infos point right b q)))

pub binary_sited : (infos : List SiteInfo) (point : PointId) (op : BinaryOp) (a b : Expr) (s : List SiteInfo) (e : Expr) (new : List SiteInfo) → rule.binary point op a b s ≡ gave e new → Extends infos new → at_sites infos point a ≡ true → at_sites infos point b ≡ true → at_sites infos point e ≡ true
unfolding rule.binary
binary_sited infos point op a b s e new is ext p q =
    let ty = rule.left_operand op (ty_of a) (ty_of b) in
    let t = then_site (rule.site_for point (binary_checks op ty) s) (rule.binary_of op ty a b) e new is in
    subst (λ (x : Expr). at_sites infos point x ≡ true) t.2
    (binary_tree infos point op a b t.0 (entry_is point (binary_checks op ty) s t.0 new infos t.1 ext) p q)

unary_entry : (infos : List SiteInfo) (point : PointId) (op : UnaryOp) (a : IntType) (site : Option SiteId) → has_entry infos point site (unary_checks op a) ≡ true → has_entry infos point site (unary_checks op (rule.unary_type op a)) ≡ true
unfolding unary_checks
unary_entry infos point U.Plus a site is = is
unary_entry infos point U.Minus a site is = is
unary_entry infos point U.Not a site is = is
unary_entry infos point U.Invert a site is = is

abbrev unary_of : UnaryOp → Expr → Option SiteId → Expr
unary_of op a site =
    expr (rule.unary_type op (rule.operand_type op (ty_of a))) site (N.Unary op (rule.converted (rule.operand_type op (ty_of a)) a))

pub unary_sited : (infos : List SiteInfo) (point : PointId) (op : UnaryOp) (a : Expr) (s : List SiteInfo) (e : Expr) (new : List SiteInfo) → rule.unary point op a s ≡ gave e new → Extends infos new → at_sites infos point a ≡ true → at_sites infos point e ≡ true
unfolding rule.unary
unary_sited infos point op a s e new is ext p =
    let ty = rule.operand_type op (ty_of a) in
    let t = then_site (rule.site_for point (unary_checks op ty) s) (unary_of op a) e new is in
    subst (λ (x : Expr). at_sites infos point x ≡ true) t.2
    (tree_sited infos point (rule.unary_type op ty) t.0 (N.Unary op (rule.converted ty a))
    (and_from _ _ (unary_entry infos point op ty t.0 (entry_is point (unary_checks op ty) s t.0 new infos t.1 ext))
    (converted_holds infos point ty a p)))

pub choice_sited : (infos : List SiteInfo) (point : PointId) (c a b : Expr) → at_sites infos point c ≡ true → at_sites infos point a ≡ true → at_sites infos point b ≡ true → at_sites infos point (rule.choice c a b) ≡ true
unfolding rule.choice
choice_sited infos point c a b r p q =
    let ty = rule.common_type (ty_of a) (ty_of b) in
    tree_sited infos point ty None (N.Cond c (rule.converted ty a) (rule.converted ty b))
    (and_from _ _ (holds_of infos point c r)
    (and_from _ _ (converted_holds infos point ty a p) (converted_holds infos point ty b q)))

pub assigned_sited : (infos : List SiteInfo) (point : PointId) (t e : Expr) → at_sites infos point t ≡ true → at_sites infos point e ≡ true → at_sites infos point (rule.assigned t e) ≡ true
unfolding rule.assigned
assigned_sited infos point t e p q =
    tree_sited infos point (ty_of t) None (N.Assign t (rule.converted (ty_of t) e))
    (and_from _ _ (holds_of infos point t p) (converted_holds infos point (ty_of t) e q))

pub constant_sited : (infos : List SiteInfo) (point : PointId) (ty : IntType) (v : ℤ) → at_sites infos point (constant ty v) ≡ true
constant_sited infos point ty v = tree_sited infos point ty None (N.Literal v) refl

-- ---- names

pub object_read_sited : (infos : List SiteInfo) (point : PointId) (o : Object) (n : Option ℕ) (s : List SiteInfo) (e : Expr) (new : List SiteInfo) → rule.object_read point o n s ≡ gave e new → Extends infos new → at_sites infos point e ≡ true
object_read_sited infos point o None s e new is ext =
    let t = then_site (rule.site_for point (read_checks o.checked) s) (λ site. expr o.ty site (N.Cell o.first o.checked)) e new is in
    subst (λ (x : Expr). at_sites infos point x ≡ true) t.2
    (tree_sited infos point o.ty t.0 (N.Cell o.first o.checked)
    (and_from _ _ (entry_is point (read_checks o.checked) s t.0 new infos t.1 ext) refl))
object_read_sited infos point o (Some n) s e new is ext =
    subst (λ (x : Expr). at_sites infos point x ≡ true) (ap (λ (g : Gave Expr). given g) is) (constant_sited infos point _ _)

pub object_written_sited : (infos : List SiteInfo) (point : PointId) (o : Object) (n : Option ℕ) → at_sites infos point (rule.object_written o n) ≡ true
object_written_sited infos point o None = tree_sited infos point o.ty None (N.Cell o.first false) refl
object_written_sited infos point o (Some n) = constant_sited infos point _ _

pub element_sited : (infos : List SiteInfo) (point : PointId) (a : Array) (k : Bool) (i : Expr) (s : List SiteInfo) (e : Expr) (new : List SiteInfo) → rule.element point a k i s ≡ gave e new → Extends infos new → at_sites infos point i ≡ true → at_sites infos point e ≡ true
unfolding rule.element
element_sited infos point a k i s e new is ext index =
    let t = then_site (rule.site_for point (element_checks k) s) (λ site. expr a.object.ty site (N.Element a.object.first a.length i k)) e new is in
    subst (λ (x : Expr). at_sites infos point x ≡ true) t.2
    (tree_sited infos point a.object.ty t.0 (N.Element a.object.first a.length i k)
    (and_from _ _ (entry_is point (element_checks k) s t.0 new infos t.1 ext) (holds_of infos point i index)))

pub called_sited : (infos : List SiteInfo) (point : PointId) (g : Signature) (es : List Expr) → all_at_sites infos point es ≡ true → at_sites infos point (rule.called g es) ≡ true
unfolding all_at_sites rule.called
called_sited infos point g es is = tree_sited infos point (rule.result_of g.result) None (N.Call g.number es) is
