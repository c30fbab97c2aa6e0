-- What an expression is, where it stands: its typed tree, the sites of its operators in order of evaluation, and its
-- breaches (C11 6.5; where calls, assignments and steps may stand is this project's own). A construct that is itself
-- in breach is typed as the constant 0.
use Rattle.std.specs.Prelude.{ℕ, Bool, true, false, not, ◌&&◌, List, [], ◌∷◌, ◌++◌, length, drop, Option, Some, None, is_some, pos}
use Rattle.fc_base.specs.declared.ids.PointId.{PointId}
use Rattle.fc_base.specs.declared.syntax.Spot.{Spot}
use Rattle.fc_base.specs.declared.syntax.BinaryOp.{BinaryOp}
use Rattle.fc_base.specs.declared.syntax.BinaryOp.TheVariants as B
use Rattle.c_ast.specs.declared.expr.Expr.{Expr, fold-Expr}
use Rattle.c_ast.specs.declared.expr.Expr.TheOpen.{Expr-F}
use Rattle.c_ir.specs.declared.ty.IntType.{IntType}
use Rattle.c_ir.specs.declared.ty.IntType.TheVariants as T
use Rattle.c_ir.specs.declared.tree.Expr.{Expr as Typed}
use Rattle.c_ir.specs.Trees.{constant, zero_expr}
use Rattle.c_rules.specs.declared.breach.Fault.TheVariants as F
use Rattle.c_rules.specs.declared.scope.Array.{Array}
use Rattle.c_rules.specs.declared.scope.Signature.{Signature}
use Rattle.c_ir.specs.declared.place.Place.{Place}
use Rattle.c_ir.specs.declared.place.Place.TheVariants as P
use Rattle.c_rules.specs.declared.specifiers.SpecType.{SpecType}
use Rattle.c_rules.specs.declared.specifiers.SpecType.TheVariants as S
use Rattle.c_rules.specs.Specifiers.{spec_type}
use Rattle.c_rules.specs.Typing as rule
use Rattle.c_rules.specs.Typing.{Typing, pure, ◌>>=◌}
use Rattle.c_rules.specs.Breaches as breach
use Rattle.c_rules.specs.Breaches.{Breaches, Env, none, both, one, only_if, is_dropped}

-- an expression, as its parent sees it
pub record Meaning : Type 0 where
  -- where it stands
  pub at : Spot
  -- its name, if it is one
  pub name : Option (List ℕ)
  -- no call, assignment or step is in it
  pub is_plain : Bool
  -- its typed tree where it is read
  pub value : Env → PointId → Place → Typing Typed
  -- whether it can be written to, and its typed tree there
  pub is_writable : Env → Bool
  pub target : Env → PointId → Typing Typed
  -- its typed tree where what is written to is read too
  pub again : Env → PointId → Typing Typed
  -- its breaches where it is read, where it is written to, where it is read besides, and where a name alone may stand
  pub faults : Env → Place → Breaches
  pub target_faults : Env → Breaches
  pub again_faults : Env → Breaches
  pub name_faults : Env → Breaches

-- where it begins
abbrev pub place_of : Meaning → ℕ
place_of e = e.at.span.from

-- an expression that is no name and can't be written to
abbrev pub expression : Spot → Bool → (Env → PointId → Place → Typing Typed) → (Env → Place → Breaches) → Meaning
expression at is_plain value faults = record {
  at = at;
  name = None;
  is_plain = is_plain;
  value = value;
  is_writable = λ env. false;
  target = λ env point. pure zero_expr;
  again = λ env point. pure zero_expr;
  faults = faults;
  target_faults = λ env. both (one at.span.from F.BadType) (faults env P.Inner);
  again_faults = λ env. none;
  name_faults = λ env. faults env P.Inner;
}

-- ---- arguments

abbrev pub formal : List IntType → Typed → Typed
formal [] e = e
formal (ty ∷ tys) e = rule.converted ty e

-- the arguments after `done`, converted to the types of the formals
abbrev pub args_from : Env → PointId → List IntType → List Meaning → List Typed → Typing (List Typed)
args_from env point formals [] done = pure done
args_from env point formals (a ∷ more) done =
    a.value env point P.Inner >>= (λ e. args_from env point (drop 1 formals) more (done ++ formal formals e ∷ []))

abbrev pub args_faults : Env → List Meaning → Breaches
args_faults env [] = none
args_faults env (a ∷ more) = both (a.faults env P.Inner) (args_faults env more)

abbrev pub all_plain : List Meaning → Bool
all_plain [] = true
all_plain (a ∷ more) = a.is_plain && all_plain more

abbrev pub call_if : Bool → Env → PointId → Signature → List Meaning → Typing Typed
call_if true env point g args = args_from env point g.formals args [] >>= (λ es. pure (rule.called g es))
call_if false env point g args = pure zero_expr

abbrev pub call_of : Env → PointId → Place → List Meaning → Option Signature → Typing Typed
call_of env point place args None = pure zero_expr
call_of env point place args (Some g) = call_if (rule.is_allowed place g (length args)) env point g args

-- ---- elements

abbrev pub element_of : Env → PointId → Meaning → Option Array → Typing Typed
element_of env point index None = pure zero_expr
element_of env point index (Some a) =
    index.value env point P.Inner >>= (λ i. rule.element point a a.object.checked i)

abbrev pub written_of : Env → PointId → Meaning → Option Array → Typing Typed
written_of env point index None = pure zero_expr
written_of env point index (Some a) = index.value env point P.Inner >>= (λ i. rule.element point a false i)

abbrev pub if_plain : Bool → Typing Typed → Typing Typed
if_plain true p = p
if_plain false p = pure zero_expr

abbrev pub faults_if : Bool → Breaches → Breaches
faults_if true b = b
faults_if false b = none

abbrev pub element_faults : Bool → Meaning → Meaning → Env → Breaches
element_faults write of index env =
    both (breach.array write env (place_of of) of.name) (both (of.name_faults env) (index.faults env P.Inner))

-- ---- assignments

-- `to = value`, and `to op= value` as `to = to op value`
abbrev pub assignment : Env → PointId → Meaning → Meaning → Option BinaryOp → Typing Typed
assignment env point to value None =
    to.target env point >>= (λ t. value.value env point P.Value >>= (λ e. pure (rule.assigned t e)))
assignment env point to value (Some op) =
    to.target env point >>= (λ t. to.again env point >>= (λ u. value.value env point P.Inner >>= (λ e.
    rule.binary point op u e >>= (λ r. pure (rule.assigned t r)))))

abbrev pub step_op : Bool → BinaryOp
step_op true = B.Add
step_op false = B.Sub

-- `to++` as `to = to + 1`
abbrev pub stepped : Env → PointId → Meaning → BinaryOp → Typing Typed
stepped env point to op =
    to.target env point >>= (λ t. to.again env point >>= (λ u.
    rule.binary point op u (constant T.Int (pos 1)) >>= (λ r. pure (rule.assigned t r))))

abbrev pub if_allowed : Bool → Typing Typed → Typing Typed
if_allowed true p = p
if_allowed false p = pure zero_expr

-- an assignment or a step is a statement
abbrev pub may_write : Env → Place → Meaning → Bool
may_write env place to = is_dropped place && to.is_writable env

abbrev pub assignment_faults : Env → Meaning → Meaning → Option BinaryOp → Breaches
assignment_faults env to value None = both (to.target_faults env) (value.faults env P.Value)
assignment_faults env to value (Some op) =
    both (to.target_faults env) (both (to.again_faults env) (value.faults env P.Inner))

abbrev pub step_faults : Env → Meaning → Breaches
step_faults env to = both (to.target_faults env) (to.again_faults env)

-- ---- casts

abbrev pub cast_of : Option SpecType → Place → Typing Typed → Typing Typed
cast_of None place p = pure zero_expr
cast_of (Some (S.Integer ty)) place p = p >>= (λ e. pure (rule.cast ty e))
cast_of (Some S.Void) place p = if_allowed (is_dropped place) p

-- a cast to `void` is a statement
abbrev pub cast_faults : Option SpecType → Place → ℕ → Breaches
cast_faults None place at = one at F.BadType
cast_faults (Some (S.Integer ty)) place at = none
cast_faults (Some S.Void) place at = only_if (not (is_dropped place)) at F.BadType

-- ---- expressions

abbrev pub step : Expr-F Meaning → Meaning
step (Expr-F.Literal at value form unsigned longs) =
    expression at true
    (λ env point place. pure (rule.literal value (rule.literal_type value form unsigned longs)))
    (λ env place. only_if (not (is_some (rule.literal_type value form unsigned longs))) at.span.from F.BadType)
step (Expr-F.Name x) = record {
  at = x.at;
  name = Some x.name;
  is_plain = true;
  value = λ env point place. rule.name_value env point x.name;
  is_writable = λ env. rule.is_scalar env x.name;
  target = λ env point. pure (rule.name_target env x.name);
  again = λ env point. rule.name_value env point x.name;
  faults = λ env place. breach.read env x.at.span.from x.name;
  target_faults = λ env. breach.written env x.at.span.from x.name;
  again_faults = λ env. breach.read env x.at.span.from x.name;
  name_faults = λ env. none;
}
step (Expr-F.Index at of index) = record {
  at = at;
  name = None;
  is_plain = of.is_plain && index.is_plain;
  value = λ env point place. element_of env point index (rule.array env of.name);
  is_writable = λ env. is_some (rule.array env of.name);
  target = λ env point. written_of env point index (rule.array env of.name);
  again = λ env point. if_plain index.is_plain (element_of env point index (rule.array env of.name));
  faults = λ env place. element_faults false of index env;
  target_faults = λ env. element_faults true of index env;
  again_faults = λ env. faults_if index.is_plain (element_faults false of index env);
  name_faults = λ env. element_faults false of index env;
}
step (Expr-F.Call at of args) =
    expression at false
    (λ env point place. call_of env point place args (rule.function env of.name))
    (λ env place. both (both (breach.function env (place_of of) of.name) (of.name_faults env))
    (both (args_faults env args) (breach.called place at.span.from (length args) (rule.function env of.name))))
step (Expr-F.Unary at op of) =
    expression at of.is_plain
    (λ env point place. of.value env point P.Inner >>= (λ e. rule.unary point op e))
    (λ env place. of.faults env P.Inner)
step (Expr-F.Binary at op left right) =
    expression at (left.is_plain && right.is_plain)
    (λ env point place. left.value env point P.Inner >>= (λ l. right.value env point P.Inner >>= (λ r.
    rule.binary point op l r)))
    (λ env place. both (left.faults env P.Inner) (right.faults env P.Inner))
step (Expr-F.Assign at op to value) =
    expression at false
    (λ env point place. if_allowed (may_write env place to) (assignment env point to value op))
    (λ env place. both (only_if (not (is_dropped place)) at.span.from F.SideEffect) (assignment_faults env to value op))
step (Expr-F.Step at up before of) =
    expression at false
    (λ env point place. if_allowed (may_write env place of) (stepped env point of (step_op up)))
    (λ env place. both (only_if (not (is_dropped place)) at.span.from F.SideEffect) (step_faults env of))
step (Expr-F.Cond at c left right) =
    expression at (c.is_plain && (left.is_plain && right.is_plain))
    (λ env point place. c.value env point P.Inner >>= (λ t. left.value env point P.Inner >>= (λ l.
    right.value env point P.Inner >>= (λ r. pure (rule.choice t l r)))))
    (λ env place. both (both (c.faults env P.Inner) (left.faults env P.Inner)) (right.faults env P.Inner))
step (Expr-F.Cast at spec of) =
    expression at of.is_plain
    (λ env point place. cast_of (spec_type spec.words) place (of.value env point P.Inner))
    (λ env place. both (cast_faults (spec_type spec.words) place at.span.from) (of.faults env P.Inner))

abbrev pub meaning : Expr → Meaning
meaning = fold-Expr Meaning step
