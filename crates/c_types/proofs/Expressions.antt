-- What typing an expression gives: its sites count on from those before it and have their entries, and its tree is
-- well formed where names fit.
use Rattle.std.proofs.Common.{◌≡◌, ◌∙◌, ◌+◌, ℕ, ℤ, pos, Bool, true, false, if◌then◌else◌, List, [], ◌∷◌, ◌++◌, length, drop, map, Option, Some, None, is_some, refl, ap, sym, subst, length-append, arith}
use Rattle.std.proofs.lemmas.Bool.{and_parts, and_from, true≢false, eq-eqb}
use Rattle.std.specs.Option.{option_and_then}
use Rattle.fc_base.specs.declared.ids.PointId.{PointId}
use Rattle.fc_base.specs.declared.ids.SiteId.{SiteId}
use Rattle.fc_base.specs.declared.syntax.Spot.{Spot}
use Rattle.fc_base.specs.declared.syntax.LiteralForm.{LiteralForm}
use Rattle.fc_base.specs.declared.syntax.BinaryOp.{BinaryOp}
use Rattle.fc_base.specs.declared.syntax.UnaryOp.{UnaryOp}
use Rattle.c_ast.specs.declared.expr.Expr.{Expr as Ast, fold-roll-Expr as fold-roll-Ast}
use Rattle.c_ast.specs.declared.expr.Expr.TheFolds.{ind-Expr as ind-Ast, map-Expr as map-Ast}
use Rattle.c_ast.specs.declared.expr.Expr.TheOpen.{Expr-F as Ast-F}
use Rattle.c_ir.specs.declared.kind.AlarmKind.{AlarmKind}
use Rattle.c_ir.specs.declared.ty.IntType.{IntType}
use Rattle.c_ir.specs.declared.ty.IntType.TheVariants as T
use Rattle.c_ir.specs.declared.tree.Checks.{Checks}
use Rattle.c_ir.specs.declared.tree.Node.{Node}
use Rattle.c_ir.specs.declared.tree.Node.TheVariants as N
use Rattle.c_ir.specs.declared.tree.SiteInfo.{SiteInfo}
use Rattle.c_ir.specs.declared.tree.Expr.{Expr, map-Expr}
use Rattle.c_ir.specs.declared.tree.Expr.TheFolds.{fold-roll-Expr}
use Rattle.c_ir.specs.Checks.{binary_checks, unary_checks, read_checks, element_checks}
use Rattle.c_ir.specs.Formed.{Layout, in_range}
use Rattle.c_ir.specs.Numbers.{Numbers, just, both, count, all, own_site, sites, sites_step}
use Rattle.c_ir.specs.Sited.{Extends, all_at_sites}
use Rattle.c_ir.specs.Trees.{expr, ty_of, constant, zero_expr}
use Rattle.c_ir.specs.Types.{same_type}
use Rattle.c_rules.specs.declared.scope.Array.{Array}
use Rattle.c_rules.specs.declared.scope.Entry.{Entry}
use Rattle.c_rules.specs.declared.scope.Entry.TheVariants as E
use Rattle.c_rules.specs.declared.scope.Object.{Object}
use Rattle.c_rules.specs.declared.scope.Signature.{Signature}
use Rattle.c_ir.specs.declared.place.Place.{Place}
use Rattle.c_ir.specs.declared.place.Place.TheVariants as P
use Rattle.c_rules.specs.declared.specifiers.SpecType.{SpecType}
use Rattle.c_rules.specs.declared.specifiers.SpecType.TheVariants as S
use Rattle.c_rules.specs.Breaches.{Breaches, Env, is_dropped}
use Rattle.c_rules.specs.Fits.{EnvFits, is_target, is_arg, are_args, object_fits, entry_fits, array_fits, function_fits}
use Rattle.c_ir.specs.Placed.{is_formed}
use Rattle.c_rules.specs.Specifiers.{spec_type}
use Rattle.c_rules.specs.Typing as rule
use Rattle.c_rules.specs.Typing.{Gave, gave, Typing, pure, and_then}
use Rattle.c_rules.proofs.Formed.{given, placed, value_of, plain_of, converted_keeps, converted_form_ty, same_self, binary_formed, unary_formed, choice_formed, cast_formed, assigned_formed, constant_formed, zero_formed, literal_formed}
use Rattle.c_rules.proofs.Named.{object_read_formed, scalar_target, element_formed, element_targeted, called_formed}
use Rattle.c_rules.proofs.Sited.{site_grows, cast_sited, converted_sited, binary_sited, unary_sited, choice_sited, assigned_sited, constant_sited, object_read_sited, object_written_sited, element_sited, called_sited}
use Rattle.c_typing.proofs.Args.{anywhere, args_push, args_none, formals_push, sited_none, sited_push}
use Rattle.c_typing.proofs.Numbering.{pushed}
use Rattle.c_typing.specs.Meaning.{Meaning, expression, formal, args_from, call_if, call_of, element_of, written_of, if_plain, assignment, step_op, stepped, if_allowed, may_write, cast_of, step, meaning}
use Rattle.c_types.specs.inner.Expressions.{Counted, Gives, Good}

abbrev after : {X : Type 0} → Gave X → List SiteInfo
after (gave x s) = s

-- what comes of two constructs, one after the other
split : {X Y : Type 0} (g : Gave X) (f : X → List SiteInfo → Gave Y) (y : Y) (new : List SiteInfo) → and_then g f ≡ gave y new → (x : X) × (mid : List SiteInfo) × (g ≡ gave x mid) × (f x mid ≡ gave y new)
split (gave x mid) f y new is = (x, mid, refl, is)

-- what comes of the next site and a tree over it
then_site : (g : Gave (Option SiteId)) (f : Option SiteId → Expr) (e : Expr) (new : List SiteInfo) → and_then g (λ site s. gave (f site) s) ≡ gave e new → (site : Option SiteId) × (g ≡ gave site new) × (f site ≡ e)
then_site (gave site s) f e new is = (site, ap (gave site) (ap (λ (g : Gave Expr). after g) is), ap (λ (g : Gave Expr). given g) is)

-- ---- numbers

joined : {m k : ℕ} (a b : Numbers) (n : ℕ) → count n a ≡ Some m → count m b ≡ Some k → count n (both a b) ≡ Some k
joined a b n p q = ap (option_and_then (λ i. count i b)) p ∙ q

next : (s : List SiteInfo) (i : SiteInfo) → count (length s) (just (length s)) ≡ Some (length (s ++ i ∷ []))
next s i = rw (eq-eqb (length s) (length s) refl, length-append s (i ∷ [])) refl

by_numbered : (o : Option AlarmKind) (point : PointId) (checks : Checks) (s : List SiteInfo) (site : Option SiteId) (new : List SiteInfo) → rule.site_by o point checks s ≡ gave site new → count (length s) (own_site site) ≡ Some (length new)
by_numbered None point checks s site new is =
    subst (λ (g : Gave (Option SiteId)). count (length s) (own_site (given g)) ≡ Some (length (after g))) is refl
by_numbered (Some k) point checks s site new is =
    subst (λ (g : Gave (Option SiteId)). count (length s) (own_site (given g)) ≡ Some (length (after g))) is (next s _)

site_numbered : (point : PointId) (checks : Checks) (s : List SiteInfo) (site : Option SiteId) (new : List SiteInfo) → rule.site_for point checks s ≡ gave site new → count (length s) (own_site site) ≡ Some (length new)
unfolding rule.site_for
site_numbered point checks s site new is = by_numbered checks.first point checks s site new is

-- ---- the sites of trees

both_is : (a b c d : Numbers) → a ≡ c → b ≡ d → both a b ≡ both c d
both_is a b c d p q = ap (λ (n : Numbers). both n b) p ∙ ap (both c) q

sites_at : (ty : IntType) (site : Option SiteId) (n : Node Expr (List Expr)) → sites (expr ty site n) ≡ sites_step (map-Expr Expr Numbers sites (record { ty = ty; site = site; node = n }))
sites_at ty site n = fold-roll-Expr Numbers sites_step (record { ty = ty; site = site; node = n })

cast_sites : (ty : IntType) (e : Expr) → sites (rule.cast ty e) ≡ sites e
unfolding rule.cast
cast_sites ty e = sites_at ty None (N.Cast e)

sites_either : (b : Bool) (e t : Expr) → sites t ≡ sites e → sites (if b then e else t) ≡ sites e
sites_either true e t is = refl
sites_either false e t is = is

pub converted_sites : (ty : IntType) (e : Expr) → sites (rule.converted ty e) ≡ sites e
converted_sites ty e = sites_either (same_type ty (ty_of e)) e (rule.cast ty e) (cast_sites ty e)

binary_sites : (op : BinaryOp) (ty : IntType) (a b : Expr) (site : Option SiteId) → sites (rule.binary_of op ty a b site) ≡ both (both (sites a) (sites b)) (own_site site)
binary_sites op ty a b site =
    let right = rule.right_operand op (ty_of a) (ty_of b) in
    sites_at (rule.binary_type op ty) site (N.Binary op (rule.converted ty a) (rule.converted right b))
    ∙ ap (λ (n : Numbers). both n (own_site site)) (both_is _ _ _ _ (converted_sites ty a) (converted_sites right b))

abbrev unary_of : UnaryOp → Expr → Option SiteId → Expr
unary_of op a site =
    expr (rule.unary_type op (rule.operand_type op (ty_of a))) site (N.Unary op (rule.converted (rule.operand_type op (ty_of a)) a))

unary_sites : (op : UnaryOp) (a : Expr) (site : Option SiteId) → sites (unary_of op a site) ≡ both (sites a) (own_site site)
unary_sites op a site =
    let ty = rule.operand_type op (ty_of a) in
    sites_at (rule.unary_type op ty) site (N.Unary op (rule.converted ty a))
    ∙ ap (λ (n : Numbers). both n (own_site site)) (converted_sites ty a)

choice_sites : (c a b : Expr) → sites (rule.choice c a b) ≡ both (both (sites c) (sites a)) (sites b)
unfolding rule.choice
choice_sites c a b =
    let ty = rule.common_type (ty_of a) (ty_of b) in
    sites_at ty None (N.Cond c (rule.converted ty a) (rule.converted ty b))
    ∙ both_is _ _ _ _ (ap (both (sites c)) (converted_sites ty a)) (converted_sites ty b)

assigned_sites : (t e : Expr) → sites (rule.assigned t e) ≡ both (sites t) (sites e)
unfolding rule.assigned
assigned_sites t e =
    sites_at (ty_of t) None (N.Assign t (rule.converted (ty_of t) e)) ∙ ap (both (sites t)) (converted_sites (ty_of t) e)

called_sites : (g : Signature) (es : List Expr) → sites (rule.called g es) ≡ all (map sites es)
unfolding rule.called
called_sites g es = sites_at (rule.result_of g.result) None (N.Call g.number es)

-- ---- single constructs

-- another name for the tree and the sites
counted : (point : PointId) (s : List SiteInfo) (x e : Expr) (mid new : List SiteInfo) → gave x mid ≡ gave e new → Counted point s x mid → Counted point s e new
counted point s x e mid new is c = subst (λ (g : Gave Expr). Counted point s (given g) (after g)) is c

same : {X : Type 0} (Q : X → Type 0) (x e : X) (mid new : List SiteInfo) → gave x mid ≡ gave e new → Q x → Q e
same {X} Q x e mid new is q = subst (λ (g : Gave X). Q (given g)) is q

constant_counted : (point : PointId) (s : List SiteInfo) (ty : IntType) (v : ℤ) → Counted point s (constant ty v) s
constant_counted point s ty v = record {
  grows = λ infos ext. ext;
  numbered = ap (count (length s)) (sites_at ty None (N.Literal v));
  sited = λ infos ext. constant_sited infos point ty v;
}

zero_counted : (point : PointId) (s : List SiteInfo) → Counted point s zero_expr s
zero_counted point s = constant_counted point s T.Int (pos 0)

literal_counted : (point : PointId) (s : List SiteInfo) (value : ℕ) (o : Option IntType) → Counted point s (rule.literal value o) s
literal_counted point s value None = zero_counted point s
literal_counted point s value (Some ty) = constant_counted point s ty (pos value)

cast_counted : (point : PointId) (s new : List SiteInfo) (ty : IntType) (e : Expr) → Counted point s e new → Counted point s (rule.cast ty e) new
cast_counted point s new ty e c = record {
  grows = c.grows;
  numbered = ap (count (length s)) (cast_sites ty e) ∙ c.numbered;
  sited = λ infos ext. cast_sited infos point ty e (c.sited infos ext);
}

converted_counted : (point : PointId) (s new : List SiteInfo) (ty : IntType) (e : Expr) → Counted point s e new → Counted point s (rule.converted ty e) new
converted_counted point s new ty e c = record {
  grows = c.grows;
  numbered = ap (count (length s)) (converted_sites ty e) ∙ c.numbered;
  sited = λ infos ext. converted_sited infos point ty e (c.sited infos ext);
}

binary_counted : (point : PointId) (op : BinaryOp) (a b : Expr) (s mid last : List SiteInfo) (e : Expr) (new : List SiteInfo) → rule.binary point op a b last ≡ gave e new → Counted point s a mid → Counted point mid b last → Counted point s e new
unfolding rule.binary
binary_counted point op a b s mid last e new is p q =
    let ty = rule.left_operand op (ty_of a) (ty_of b) in
    let checks = binary_checks op ty in
    let t = then_site (rule.site_for point checks last) (rule.binary_of op ty a b) e new is in
    record {
      grows = λ infos ext. p.grows infos (q.grows infos (site_grows point checks last t.0 new infos t.1 ext));
      numbered =
          ap (λ (x : Expr). count (length s) (sites x)) (sym t.2) ∙ ap (count (length s)) (binary_sites op ty a b t.0)
          ∙ joined (both (sites a) (sites b)) (own_site t.0) (length s) (joined (sites a) (sites b) (length s) p.numbered q.numbered)
          (site_numbered point checks last t.0 new t.1);
      sited = λ infos ext.
          let before = site_grows point checks last t.0 new infos t.1 ext in
          binary_sited infos point op a b last e new is ext (p.sited infos (q.grows infos before)) (q.sited infos before);
    }

unary_counted : (point : PointId) (op : UnaryOp) (a : Expr) (s last : List SiteInfo) (e : Expr) (new : List SiteInfo) → rule.unary point op a last ≡ gave e new → Counted point s a last → Counted point s e new
unfolding rule.unary
unary_counted point op a s last e new is p =
    let checks = unary_checks op (rule.operand_type op (ty_of a)) in
    let t = then_site (rule.site_for point checks last) (unary_of op a) e new is in
    record {
      grows = λ infos ext. p.grows infos (site_grows point checks last t.0 new infos t.1 ext);
      numbered =
          ap (λ (x : Expr). count (length s) (sites x)) (sym t.2) ∙ ap (count (length s)) (unary_sites op a t.0)
          ∙ joined (sites a) (own_site t.0) (length s) p.numbered (site_numbered point checks last t.0 new t.1);
      sited = λ infos ext.
          unary_sited infos point op a last e new is ext (p.sited infos (site_grows point checks last t.0 new infos t.1 ext));
    }

choice_counted : (point : PointId) (c a b : Expr) (s mid last new : List SiteInfo) → Counted point s c mid → Counted point mid a last → Counted point last b new → Counted point s (rule.choice c a b) new
choice_counted point c a b s mid last new r p q = record {
  grows = λ infos ext. r.grows infos (p.grows infos (q.grows infos ext));
  numbered =
      ap (count (length s)) (choice_sites c a b) ∙ joined (both (sites c) (sites a)) (sites b) (length s)
      (joined (sites c) (sites a) (length s) r.numbered p.numbered) q.numbered;
  sited = λ infos ext.
      let before = q.grows infos ext in
      choice_sited infos point c a b (r.sited infos (p.grows infos before)) (p.sited infos before) (q.sited infos ext);
}

assigned_counted : (point : PointId) (t e : Expr) (s mid new : List SiteInfo) → Counted point s t mid → Counted point mid e new → Counted point s (rule.assigned t e) new
assigned_counted point t e s mid new p q = record {
  grows = λ infos ext. p.grows infos (q.grows infos ext);
  numbered = ap (count (length s)) (assigned_sites t e) ∙ joined (sites t) (sites e) (length s) p.numbered q.numbered;
  sited = λ infos ext. assigned_sited infos point t e (p.sited infos (q.grows infos ext)) (q.sited infos ext);
}

-- ---- names

object_read_counted : (point : PointId) (o : Object) (n : Option ℕ) (s : List SiteInfo) (e : Expr) (new : List SiteInfo) → rule.object_read point o n s ≡ gave e new → Counted point s e new
object_read_counted point o None s e new is =
    let checks = read_checks o.checked in
    let t = then_site (rule.site_for point checks s) (λ site. expr o.ty site (N.Cell o.first o.checked)) e new is in
    record {
      grows = λ infos ext. site_grows point checks s t.0 new infos t.1 ext;
      numbered =
          ap (λ (x : Expr). count (length s) (sites x)) (sym t.2)
          ∙ ap (count (length s)) (sites_at o.ty t.0 (N.Cell o.first o.checked))
          ∙ site_numbered point checks s t.0 new t.1;
      sited = λ infos ext. object_read_sited infos point o None s e new is ext;
    }
object_read_counted point o (Some n) s e new is = counted point s _ e s new is (zero_counted point s)

object_written_counted : (point : PointId) (o : Object) (n : Option ℕ) (s : List SiteInfo) → Counted point s (rule.object_written o n) s
object_written_counted point o None s = record {
  grows = λ infos ext. ext;
  numbered = ap (count (length s)) (sites_at o.ty None (N.Cell o.first false));
  sited = λ infos ext. object_written_sited infos point o None;
}
object_written_counted point o (Some n) s = zero_counted point s

element_counted : (point : PointId) (a : Array) (k : Bool) (i : Expr) (s last : List SiteInfo) (e : Expr) (new : List SiteInfo) → rule.element point a k i last ≡ gave e new → Counted point s i last → Counted point s e new
unfolding rule.element
element_counted point a k i s last e new is p =
    let checks = element_checks k in
    let t = then_site (rule.site_for point checks last) (λ site. expr a.object.ty site (N.Element a.object.first a.length i k)) e new is in
    record {
      grows = λ infos ext. p.grows infos (site_grows point checks last t.0 new infos t.1 ext);
      numbered =
          ap (λ (x : Expr). count (length s) (sites x)) (sym t.2)
          ∙ ap (count (length s)) (sites_at a.object.ty t.0 (N.Element a.object.first a.length i k))
          ∙ joined (sites i) (own_site t.0) (length s) p.numbered (site_numbered point checks last t.0 new t.1);
      sited = λ infos ext.
          element_sited infos point a k i last e new is ext (p.sited infos (site_grows point checks last t.0 new infos t.1 ext));
    }

-- ---- what names stand for

array_of_fits : (l : Layout) (o : Object) (n : Option ℕ) → object_fits l o n ≡ true → array_fits l (rule.array_of o n) ≡ true
unfolding array_fits
array_of_fits l o None is = refl
array_of_fits l o (Some n) is = is

array_by_fits : (l : Layout) (o : Option Entry) → entry_fits l o ≡ true → array_fits l (rule.array_by o) ≡ true
unfolding array_fits entry_fits
array_by_fits l None is = refl
array_by_fits l (Some (E.Object o)) is = array_of_fits l o o.length is
array_by_fits l (Some (E.Function g)) is = refl

array_known : (l : Layout) (env : Env) (name : Option (List ℕ)) → EnvFits l env → array_fits l (rule.array env name) ≡ true
unfolding rule.array rule.array_name array_fits
array_known l env None fits = refl
array_known l env (Some x) fits = array_by_fits l (env x) (fits x)

signature_by_fits : (l : Layout) (o : Option Entry) → entry_fits l o ≡ true → function_fits l (rule.signature_by o) ≡ true
unfolding function_fits entry_fits
signature_by_fits l None is = refl
signature_by_fits l (Some (E.Object o)) is = refl
signature_by_fits l (Some (E.Function g)) is = is

function_known : (l : Layout) (env : Env) (name : Option (List ℕ)) → EnvFits l env → function_fits l (rule.function env name) ≡ true
unfolding rule.function rule.function_name function_fits
function_known l env None fits = refl
function_known l env (Some x) fits = signature_by_fits l (env x) (fits x)

-- ---- constructs as their parents see them

abbrev Formed : Layout → Place → Expr → Type 0
Formed l place e = is_formed l place e ≡ true

zero_gives : (l : Layout) (env : Env) (point : PointId) (place : Place) → Gives l env point (Formed l place) (pure zero_expr)
zero_gives l env point place s e new is =
    (counted point s zero_expr e s new is (zero_counted point s), λ fits. same (Formed l place) zero_expr e s new is (zero_formed l place))

-- an expression that can't be written to
expression_good : (at : Spot) (is_plain : Bool) (value : Env → PointId → Place → Typing Expr) (faults : Env → Place → Breaches) → ((l : Layout) (env : Env) (point : PointId) (place : Place) → Gives l env point (Formed l place) (value env point place)) → Good (expression at is_plain value faults)
expression_good at is_plain value faults gives = record {
  value = gives;
  target = λ l env point s e new is. ((zero_gives l env point P.Inner s e new is).0, λ fits writable. absurd (true≢false (sym writable)));
  again = λ l env point. zero_gives l env point P.Inner;
}

literal_gives : (l : Layout) (env : Env) (point : PointId) (place : Place) (v : ℕ) (form : LiteralForm) (unsigned : Bool) (longs : ℕ) → Gives l env point (Formed l place) (pure (rule.literal v (rule.literal_type v form unsigned longs)))
literal_gives l env point place v form unsigned longs s e new is =
    let o = rule.literal_type v form unsigned longs in
    (counted point s (rule.literal v o) e s new is (literal_counted point s v o), λ fits. same (Formed l place) (rule.literal v o) e s new is (literal_formed l place v form unsigned longs))

name_by_gives : (l : Layout) (point : PointId) (place : Place) (o : Option Entry) (s : List SiteInfo) (e : Expr) (new : List SiteInfo) → rule.name_by point o s ≡ gave e new → Counted point s e new × (entry_fits l o ≡ true → is_formed l place e ≡ true)
unfolding entry_fits
name_by_gives l point place None s e new is =
    (counted point s zero_expr e s new is (zero_counted point s), λ fits. same (Formed l place) zero_expr e s new is (zero_formed l place))
name_by_gives l point place (Some (E.Object o)) s e new is =
    (object_read_counted point o o.length s e new is, λ fits. object_read_formed l place point o o.length s e new is fits)
name_by_gives l point place (Some (E.Function g)) s e new is =
    (counted point s zero_expr e s new is (zero_counted point s), λ fits. same (Formed l place) zero_expr e s new is (zero_formed l place))

name_gives : (l : Layout) (env : Env) (point : PointId) (place : Place) (x : List ℕ) → Gives l env point (Formed l place) (rule.name_value env point x)
unfolding rule.name_value
name_gives l env point place x s e new is =
    let h = name_by_gives l point place (env x) s e new is in (h.0, λ fits. h.1 (fits x))

written_by_counted : (point : PointId) (o : Option Entry) (s : List SiteInfo) → Counted point s (rule.written_by o) s
written_by_counted point None s = zero_counted point s
written_by_counted point (Some (E.Object o)) s = object_written_counted point o o.length s
written_by_counted point (Some (E.Function g)) s = zero_counted point s

written_by_target : (l : Layout) (o : Option Entry) → entry_fits l o ≡ true → rule.is_scalar_entry o ≡ true → is_target l (rule.written_by o) ≡ true
unfolding entry_fits
written_by_target l None fits scalar = absurd (true≢false (sym scalar))
written_by_target l (Some (E.Object o)) fits scalar = scalar_target l o o.length fits scalar
written_by_target l (Some (E.Function g)) fits scalar = absurd (true≢false (sym scalar))

name_targets : (l : Layout) (env : Env) (point : PointId) (x : List ℕ) → Gives l env point (λ e. rule.is_scalar env x ≡ true → is_target l e ≡ true) (pure (rule.name_target env x))
unfolding rule.name_target rule.is_scalar
name_targets l env point x s e new is =
    let t = rule.written_by (env x) in
    (counted point s t e s new is (written_by_counted point (env x) s), λ fits scalar. same (λ t. is_target l t ≡ true) t e s new is (written_by_target l (env x) (fits x) scalar))

-- ---- elements

element_gives : (l : Layout) (env : Env) (point : PointId) (place : Place) (index : Meaning) → Good index → (o : Option Array) → (EnvFits l env → array_fits l o ≡ true) → Gives l env point (Formed l place) (element_of env point index o)
element_gives l env point place index i None known s e new is = zero_gives l env point place s e new is
element_gives l env point place index i (Some a) known s e new is =
    let t = split (index.value env point P.Inner s) _ e new is in
    let h = i.value l env point P.Inner s t.0 t.1 t.2 in
    (element_counted point a a.object.checked t.0 s t.1 e new t.3 h.0, λ fits. element_formed l place point a a.object.checked t.0 t.1 e new t.3 refl (known fits) (h.1 fits))

element_targets : (l : Layout) (env : Env) (point : PointId) (index : Meaning) → Good index → (o : Option Array) → (EnvFits l env → array_fits l o ≡ true) → Gives l env point (λ e. is_some o ≡ true → is_target l e ≡ true) (written_of env point index o)
element_targets l env point index i None known s e new is =
    ((zero_gives l env point P.Inner s e new is).0, λ fits writable. absurd (true≢false (sym writable)))
element_targets l env point index i (Some a) known s e new is =
    let t = split (index.value env point P.Inner s) _ e new is in
    let h = i.value l env point P.Inner s t.0 t.1 t.2 in
    (element_counted point a false t.0 s t.1 e new t.3 h.0, λ fits writable. element_targeted l point a false t.0 t.1 e new t.3 refl (known fits) (h.1 fits))

plain_gives : (l : Layout) (env : Env) (point : PointId) (b : Bool) (p : Typing Expr) → Gives l env point (Formed l P.Inner) p → Gives l env point (Formed l P.Inner) (if_plain b p)
plain_gives l env point true p h s e new is = h s e new is
plain_gives l env point false p h s e new is = zero_gives l env point P.Inner s e new is

index_good : (at : Spot) (of index : Meaning) → Good index → Good (step (Ast-F.Index at of index))
index_good at of index i = record {
  value = λ l env point place. element_gives l env point place index i (rule.array env of.name) (array_known l env of.name);
  target = λ l env point. element_targets l env point index i (rule.array env of.name) (array_known l env of.name);
  again = λ l env point. plain_gives l env point index.is_plain (element_of env point index (rule.array env of.name)) (element_gives l env point P.Inner index i (rule.array env of.name) (array_known l env of.name));
}

-- ---- arguments

-- what `Counted` says, of a list
record Listed (point : PointId) (s : List SiteInfo) (es : List Expr) (new : List SiteInfo) : Type 0 where
  grows : (infos : List SiteInfo) → Extends infos new → Extends infos s
  numbered : count (length s) (all (map sites es)) ≡ Some (length new)
  sited : (infos : List SiteInfo) → Extends infos new → all_at_sites infos point es ≡ true

listed_none : (point : PointId) (s : List SiteInfo) → Listed point s [] s
listed_none point s = record {
  grows = λ infos ext. ext;
  numbered = refl;
  sited = λ infos ext. sited_none infos point [] refl;
}

listed_push : (point : PointId) (s mid new : List SiteInfo) (done : List Expr) (e : Expr) → Listed point s done mid → Counted point mid e new → Listed point s (done ++ e ∷ []) new
listed_push point s mid new done e p q = record {
  grows = λ infos ext. p.grows infos (q.grows infos ext);
  numbered = pushed sites done (done ++ e ∷ []) e (length s) (length mid) (length new) refl p.numbered q.numbered;
  sited = λ infos ext. sited_push infos point done e (p.sited infos (q.grows infos ext)) (q.sited infos ext);
}

called_counted : (point : PointId) (g : Signature) (es : List Expr) (s new : List SiteInfo) → Listed point s es new → Counted point s (rule.called g es) new
called_counted point g es s new p = record {
  grows = p.grows;
  numbered = ap (count (length s)) (called_sites g es) ∙ p.numbered;
  sited = λ infos ext. called_sited infos point g es (p.sited infos ext);
}

formal_counted : (point : PointId) (s new : List SiteInfo) (formals : List IntType) (e : Expr) → Counted point s e new → Counted point s (formal formals e) new
formal_counted point s new [] e c = c
formal_counted point s new (ty ∷ tys) e c = converted_counted point s new ty e c

formal_is : (l : Layout) (formals : List IntType) (e : Expr) → is_formed l P.Inner e ≡ true → is_arg l formals (formal formals e) ≡ true
unfolding is_arg
formal_is l [] e is = is
formal_is l (ty ∷ tys) e is =
    let keeps = converted_keeps l ty e in
    and_from _ _ (placed l P.Inner (rule.converted ty e) (keeps.value ∙ value_of l P.Inner e is) (keeps.plain ∙ plain_of l e is))
    (ap (λ (x : IntType). same_type x ty) (converted_form_ty l ty e) ∙ same_self ty)

abbrev AllGood : List Meaning → Type 0
AllGood [] = Unit {0}
AllGood (m ∷ ms) = Good m × AllGood ms

-- what the arguments after `done` give, of all
record Argued (l : Layout) (env : Env) (point : PointId) (tys formals : List IntType) (count : ℕ) (done : List Expr) (s : List SiteInfo) (es : List Expr) (new : List SiteInfo) : Type 0 where
  listed : Listed point s es new
  long : length es ≡ length done + count
  are : EnvFits l env → formals ≡ drop (length done) tys → are_args l tys done ≡ true → are_args l tys es ≡ true

argued : (l : Layout) (env : Env) (point : PointId) (tys formals : List IntType) (args : List Meaning) → AllGood args → (done : List Expr) (s now : List SiteInfo) (es : List Expr) (new : List SiteInfo) → args_from env point formals args done now ≡ gave es new → Listed point s done now → Argued l env point tys formals (length args) done s es new
argued l env point tys formals [] good done s now es new is c = record {
  listed = subst (λ (g : Gave (List Expr)). Listed point s (given g) (after g)) is c;
  long = same (λ xs. length xs ≡ length done + 0) done es now new is (omega arith);
  are = λ fits left are. same (λ xs. are_args l tys xs ≡ true) done es now new is are;
}
argued l env point tys formals (a ∷ more) good done s now es new is c =
    let t = split (a.value env point P.Inner now) _ es new is in
    let h = good.0.value l env point P.Inner now t.0 t.1 t.2 in
    let one = formal formals t.0 in
    let r = argued l env point tys (drop 1 formals) more good.1 (done ++ one ∷ []) s t.1 es new t.3 (listed_push point s now t.1 done one c (formal_counted point now t.1 formals t.0 h.0)) in
    record {
      listed = r.listed;
      long = let i = r.long in omega (arith, i, length-append done (one ∷ []));
      are = λ fits left are.
          r.are fits (formals_push tys formals (drop 1 formals) done (done ++ one ∷ []) one refl left refl)
          (args_push l tys done one are (subst (λ (xs : List IntType). is_arg l xs one ≡ true) left (formal_is l formals t.0 (h.1 fits))));
    }

call_if_gives : (l : Layout) (env : Env) (point : PointId) (place : Place) (g : Signature) (args : List Meaning) → AllGood args → (EnvFits l env → function_fits l (Some g) ≡ true) → (b : Bool) → rule.is_allowed place g (length args) ≡ b → Gives l env point (Formed l place) (call_if b env point g args)
call_if_gives l env point place g args good known true allowed s e new is =
    let t = split (args_from env point g.formals args [] s) _ e new is in
    let h = argued l env point g.formals g.formals args good [] s s t.0 t.1 t.2 (listed_none point s) in
    (counted point s (rule.called g t.0) e t.1 new t.3 (called_counted point g t.0 s t.1 h.listed), λ fits. same (Formed l place) (rule.called g t.0) e t.1 new t.3 (called_formed l place g t.0 (length args) (known fits) allowed (let i = h.long in omega (arith, i)) (h.are fits refl (args_none l g.formals [] refl))))
call_if_gives l env point place g args good known false allowed s e new is = zero_gives l env point place s e new is

call_gives : (l : Layout) (env : Env) (point : PointId) (place : Place) (args : List Meaning) → AllGood args → (o : Option Signature) → (EnvFits l env → function_fits l o ≡ true) → Gives l env point (Formed l place) (call_of env point place args o)
call_gives l env point place args good None known s e new is = zero_gives l env point place s e new is
call_gives l env point place args good (Some g) known s e new is =
    call_if_gives l env point place g args good known (rule.is_allowed place g (length args)) refl s e new is

-- ---- operators

unary_gives : (l : Layout) (env : Env) (point : PointId) (place : Place) (op : UnaryOp) (of : Meaning) → Good of → Gives l env point (Formed l place) (rule.◌>>=◌ (of.value env point P.Inner) (λ e. rule.unary point op e))
unary_gives l env point place op of g s e new is =
    let t = split (of.value env point P.Inner s) _ e new is in
    let h = g.value l env point P.Inner s t.0 t.1 t.2 in
    (unary_counted point op t.0 s t.1 e new t.3 h.0, λ fits. unary_formed l place point op t.0 t.1 e new t.3 (h.1 fits))

binary_gives : (l : Layout) (env : Env) (point : PointId) (place : Place) (op : BinaryOp) (left right : Meaning) → Good left → Good right → Gives l env point (Formed l place) (rule.◌>>=◌ (left.value env point P.Inner) (λ a. rule.◌>>=◌ (right.value env point P.Inner) (λ b. rule.binary point op a b)))
binary_gives l env point place op left right f g s e new is =
    let t = split (left.value env point P.Inner s) _ e new is in
    let u = split (right.value env point P.Inner t.1) _ e new t.3 in
    let h = f.value l env point P.Inner s t.0 t.1 t.2 in
    let i = g.value l env point P.Inner t.1 u.0 u.1 u.2 in
    (binary_counted point op t.0 u.0 s t.1 u.1 e new u.3 h.0 i.0, λ fits. binary_formed l place point op t.0 u.0 u.1 e new u.3 (h.1 fits) (i.1 fits))

choice_gives : (l : Layout) (env : Env) (point : PointId) (place : Place) (c left right : Meaning) → Good c → Good left → Good right → Gives l env point (Formed l place) (rule.◌>>=◌ (c.value env point P.Inner) (λ t. rule.◌>>=◌ (left.value env point P.Inner) (λ a. rule.◌>>=◌ (right.value env point P.Inner) (λ b. pure (rule.choice t a b)))))
choice_gives l env point place c left right k f g s e new is =
    let r = split (c.value env point P.Inner s) _ e new is in
    let t = split (left.value env point P.Inner r.1) _ e new r.3 in
    let u = split (right.value env point P.Inner t.1) _ e new t.3 in
    let j = k.value l env point P.Inner s r.0 r.1 r.2 in
    let h = f.value l env point P.Inner r.1 t.0 t.1 t.2 in
    let i = g.value l env point P.Inner t.1 u.0 u.1 u.2 in
    let all = rule.choice r.0 t.0 u.0 in
    (counted point s all e u.1 new u.3 (choice_counted point r.0 t.0 u.0 s r.1 t.1 u.1 j.0 h.0 i.0), λ fits. same (Formed l place) all e u.1 new u.3 (choice_formed l place r.0 t.0 u.0 (j.1 fits) (h.1 fits) (i.1 fits)))

allowed_gives : (l : Layout) (env : Env) (point : PointId) (place : Place) (b : Bool) (p : Typing Expr) → (b ≡ true → Gives l env point (Formed l place) p) → Gives l env point (Formed l place) (if_allowed b p)
allowed_gives l env point place true p h s e new is = h refl s e new is
allowed_gives l env point place false p h s e new is = zero_gives l env point place s e new is

cast_gives : (l : Layout) (env : Env) (point : PointId) (place : Place) (of : Meaning) → Good of → (o : Option SpecType) → Gives l env point (Formed l place) (cast_of o place (of.value env point P.Inner))
cast_gives l env point place of g None s e new is = zero_gives l env point place s e new is
cast_gives l env point place of g (Some (S.Integer ty)) s e new is =
    let t = split (of.value env point P.Inner s) _ e new is in
    let h = g.value l env point P.Inner s t.0 t.1 t.2 in
    let all = rule.cast ty t.0 in
    (counted point s all e t.1 new t.3 (cast_counted point s t.1 ty t.0 h.0), λ fits. same (Formed l place) all e t.1 new t.3 (cast_formed l place ty t.0 (h.1 fits)))
cast_gives l env point place of g (Some S.Void) s e new is =
    allowed_gives l env point place (is_dropped place) (of.value env point P.Inner) (λ dropped s e new is.
    let h = g.value l env point P.Inner s e new is in (h.0, λ fits. anywhere l place e (h.1 fits))) s e new is

-- ---- assignments

assignment_gives : (l : Layout) (env : Env) (point : PointId) (place : Place) (to value : Meaning) → Good to → Good value → is_dropped place ≡ true → to.is_writable env ≡ true → (op : Option BinaryOp) → Gives l env point (Formed l place) (assignment env point to value op)
assignment_gives l env point place to value f g dropped writable None s e new is =
    let t = split (to.target env point s) _ e new is in
    let u = split (value.value env point P.Value t.1) _ e new t.3 in
    let h = f.target l env point s t.0 t.1 t.2 in
    let i = g.value l env point P.Value t.1 u.0 u.1 u.2 in
    let all = rule.assigned t.0 u.0 in
    (counted point s all e u.1 new u.3 (assigned_counted point t.0 u.0 s t.1 u.1 h.0 i.0), λ fits. same (Formed l place) all e u.1 new u.3 (assigned_formed l place t.0 u.0 dropped (h.1 fits writable) (i.1 fits)))
assignment_gives l env point place to value f g dropped writable (Some op) s e new is =
    let t = split (to.target env point s) _ e new is in
    let u = split (to.again env point t.1) _ e new t.3 in
    let v = split (value.value env point P.Inner u.1) _ e new u.3 in
    let w = split (rule.binary point op u.0 v.0 v.1) _ e new v.3 in
    let h = f.target l env point s t.0 t.1 t.2 in
    let i = f.again l env point t.1 u.0 u.1 u.2 in
    let j = g.value l env point P.Inner u.1 v.0 v.1 v.2 in
    let all = rule.assigned t.0 w.0 in
    (counted point s all e w.1 new w.3 (assigned_counted point t.0 w.0 s t.1 w.1 h.0 (binary_counted point op u.0 v.0 t.1 u.1 v.1 w.0 w.1 w.2 i.0 j.0)), λ fits. same (Formed l place) all e w.1 new w.3 (assigned_formed l place t.0 w.0 dropped (h.1 fits writable) (binary_formed l P.Value point op u.0 v.0 v.1 w.0 w.1 w.2 (i.1 fits) (j.1 fits))))

one_formed : (l : Layout) → is_formed l P.Inner (constant T.Int (pos 1)) ≡ true
unfolding in_range
one_formed l = constant_formed l P.Inner T.Int (pos 1) refl

stepped_gives : (l : Layout) (env : Env) (point : PointId) (place : Place) (to : Meaning) → Good to → is_dropped place ≡ true → to.is_writable env ≡ true → (op : BinaryOp) → Gives l env point (Formed l place) (stepped env point to op)
stepped_gives l env point place to f dropped writable op s e new is =
    let t = split (to.target env point s) _ e new is in
    let u = split (to.again env point t.1) _ e new t.3 in
    let w = split (rule.binary point op u.0 (constant T.Int (pos 1)) u.1) _ e new u.3 in
    let h = f.target l env point s t.0 t.1 t.2 in
    let i = f.again l env point t.1 u.0 u.1 u.2 in
    let all = rule.assigned t.0 w.0 in
    (counted point s all e w.1 new w.3 (assigned_counted point t.0 w.0 s t.1 w.1 h.0 (binary_counted point op u.0 (constant T.Int (pos 1)) t.1 u.1 u.1 w.0 w.1 w.2 i.0 (constant_counted point u.1 T.Int (pos 1)))), λ fits. same (Formed l place) all e w.1 new w.3 (assigned_formed l place t.0 w.0 dropped (h.1 fits writable) (binary_formed l P.Value point op u.0 (constant T.Int (pos 1)) u.1 w.0 w.1 w.2 (i.1 fits) (one_formed l))))

-- ---- all

abbrev With : Type 0
With = (e : Ast) × Good (meaning e)

all_good : (es : List With) → AllGood (map meaning (map (λ e. e.0) es))
all_good [] = tt
all_good (e ∷ es) = (e.1, all_good es)

layer : (y : Ast-F With) → Good (step (map-Ast Ast Meaning meaning (map-Ast With Ast (λ e. e.0) y)))
layer (Ast-F.Literal at value form unsigned longs) =
    expression_good _ _ _ _ (λ l env point place. literal_gives l env point place value form unsigned longs)
layer (Ast-F.Name x) = record {
  value = λ l env point place. name_gives l env point place x.name;
  target = λ l env point. name_targets l env point x.name;
  again = λ l env point. name_gives l env point P.Inner x.name;
}
layer (Ast-F.Index at of index) = index_good at (meaning of.0) (meaning index.0) index.1
layer (Ast-F.Call at of args) =
    expression_good _ _ _ _ (λ l env point place.
    call_gives l env point place (map meaning (map (λ e. e.0) args)) (all_good args) (rule.function env (meaning of.0).name) (function_known l env (meaning of.0).name))
layer (Ast-F.Unary at op of) =
    expression_good _ _ _ _ (λ l env point place. unary_gives l env point place op (meaning of.0) of.1)
layer (Ast-F.Binary at op left right) =
    expression_good _ _ _ _ (λ l env point place.
    binary_gives l env point place op (meaning left.0) (meaning right.0) left.1 right.1)
layer (Ast-F.Assign at op to value) =
    expression_good _ _ _ _ (λ l env point place.
    allowed_gives l env point place (may_write env place (meaning to.0)) (assignment env point (meaning to.0) (meaning value.0) op)
    (λ may. let parts = and_parts _ _ may in assignment_gives l env point place (meaning to.0) (meaning value.0) to.1 value.1 parts.0 parts.1 op))
layer (Ast-F.Step at up before of) =
    expression_good _ _ _ _ (λ l env point place.
    allowed_gives l env point place (may_write env place (meaning of.0)) (stepped env point (meaning of.0) (step_op up))
    (λ may. let parts = and_parts _ _ may in stepped_gives l env point place (meaning of.0) of.1 parts.0 parts.1 (step_op up)))
layer (Ast-F.Cond at c left right) =
    expression_good _ _ _ _ (λ l env point place.
    choice_gives l env point place (meaning c.0) (meaning left.0) (meaning right.0) c.1 left.1 right.1)
layer (Ast-F.Cast at spec of) =
    expression_good _ _ _ _ (λ l env point place. cast_gives l env point place (meaning of.0) of.1 (spec_type spec.words))

pub good : (e : Ast) → Good (meaning e)
good = ind-Ast (λ e. Good (meaning e)) (λ x y is.
    let here = subst (λ (z : Ast-F Ast). Good (step (map-Ast Ast Meaning meaning z))) is (layer y) in
    subst Good (sym (fold-roll-Ast Meaning step x)) here)
