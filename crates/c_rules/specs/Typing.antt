-- How single constructs are typed (C11 6.3, 6.4.4, 6.5), and which numbers their checked operators get, in order of
-- evaluation.
use Rattle.std.specs.Prelude.{ℕ, ◌+◌, ◌==◌, nat_lt, Bool, false, not, ◌&&◌, ◌||◌, if◌then◌else◌, List, [], ◌∷◌, ◌++◌, length, Option, Some, None, is_some, Result, Ok, Err, ◌≡◌, pos}
use Rattle.std.specs.declared.alloc.AllocError.{AllocError}
use Rattle.fc_base.specs.declared.ids.PointId.{PointId}
use Rattle.fc_base.specs.declared.ids.SiteId.{SiteId}
use Rattle.fc_base.specs.declared.syntax.LiteralForm.{LiteralForm}
use Rattle.fc_base.specs.declared.syntax.LiteralForm.TheVariants as L
use Rattle.fc_base.specs.declared.syntax.BinaryOp.{BinaryOp}
use Rattle.fc_base.specs.declared.syntax.BinaryOp.TheVariants as B
use Rattle.fc_base.specs.declared.syntax.UnaryOp.{UnaryOp}
use Rattle.fc_base.specs.declared.syntax.UnaryOp.TheVariants as U
use Rattle.c_ir.specs.declared.ty.IntType.{IntType}
use Rattle.c_ir.specs.declared.ty.IntType.TheVariants as T
use Rattle.c_ir.specs.declared.kind.AlarmKind.{AlarmKind}
use Rattle.c_ir.specs.declared.tree.Checks.{Checks}
use Rattle.c_ir.specs.declared.tree.Node.TheVariants as N
use Rattle.c_ir.specs.declared.tree.Expr.{Expr}
use Rattle.c_ir.specs.declared.tree.SiteInfo.{SiteInfo}
use Rattle.c_ir.specs.Checks.{binary_checks, unary_checks, read_checks, element_checks}
use Rattle.c_ir.specs.Trees.{expr, ty_of, constant, zero_expr}
use Rattle.c_ir.specs.Types.{promoted, common, greatest, same_type}
use Rattle.c_rules.specs.declared.scope.Entry.{Entry}
use Rattle.c_rules.specs.declared.scope.Entry.TheVariants as E
use Rattle.c_rules.specs.declared.scope.Object.{Object}
use Rattle.c_rules.specs.declared.scope.Array.{Array}
use Rattle.c_rules.specs.declared.scope.Signature.{Signature}
use Rattle.c_ir.specs.declared.place.Place.{Place}
use Rattle.c_rules.specs.Breaches.{Env, is_inner, is_dropped}

-- ---- sites

-- what a construct gives, with the sites after it
pub data Gave (X : Type 0) : Type 0 where
  gave : X → List SiteInfo → Gave X

-- from the sites before it
abbrev pub Typing : Type 0 → Type 0
Typing X = List SiteInfo → Gave X

abbrev pub and_then : {X Y : Type 0} → Gave X → (X → List SiteInfo → Gave Y) → Gave Y
and_then (gave x s) f = f x s

infixl 10 ◌>>=◌
abbrev pub ◌>>=◌ : {X Y : Type 0} → Typing X → (X → Typing Y) → Typing Y
p >>= f = λ s. and_then (p s) f

abbrev pub pure : {X : Type 0} → X → Typing X
pure x = λ s. gave x s

-- what a function returned is what the construct gives, unless memory ran out
abbrev pub Types : {X : Type 0} → Gave X → Result X AllocError → List SiteInfo → Type 0
Types outcome (Ok x) new = outcome ≡ gave x new
Types outcome (Err e) new = Unit {0}

abbrev pub site_by : Option AlarmKind → PointId → Checks → Typing (Option SiteId)
site_by None point checks = pure None
site_by (Some k) point checks =
    λ s. gave (Some (record { 0 = length s })) (s ++ (record { point = point; checks = checks }) ∷ [])

-- the next site, where the operator has checks
unfoldable pub site_for : PointId → Checks → Typing (Option SiteId)
site_for point checks = site_by checks.first point checks

-- ---- literals (6.4.4.1, 6.4.4.4)

abbrev pub unsigned_list : ℕ → List IntType
unsigned_list longs =
    if longs == 0 then T.UnsignedInt ∷ T.UnsignedLong ∷ T.UnsignedLongLong ∷ []
    else (if longs == 1 then T.UnsignedLong ∷ T.UnsignedLongLong ∷ [] else T.UnsignedLongLong ∷ [])

abbrev pub decimal_list : ℕ → List IntType
decimal_list longs =
    if longs == 0 then T.Int ∷ T.Long ∷ T.LongLong ∷ []
    else (if longs == 1 then T.Long ∷ T.LongLong ∷ [] else T.LongLong ∷ [])

abbrev pub other_list : ℕ → List IntType
other_list longs =
    if longs == 0 then T.Int ∷ T.UnsignedInt ∷ T.Long ∷ T.UnsignedLong ∷ T.LongLong ∷ T.UnsignedLongLong ∷ []
    else (if longs == 1 then T.Long ∷ T.UnsignedLong ∷ T.LongLong ∷ T.UnsignedLongLong ∷ []
    else T.LongLong ∷ T.UnsignedLongLong ∷ [])

abbrev pub signed_list : LiteralForm → ℕ → List IntType
signed_list L.Decimal longs = decimal_list longs
signed_list L.Octal longs = other_list longs
signed_list L.Hexadecimal longs = other_list longs
signed_list L.Character longs = T.Int ∷ []

-- the list of types for a base and a suffix, the number of whose `l` is `longs`; a character constant is `int`
unfoldable pub candidates : LiteralForm → Bool → ℕ → List IntType
candidates form unsigned longs = if unsigned then unsigned_list longs else signed_list form longs

-- the first type of a list that holds a value
abbrev pub first_holding : ℕ → List IntType → Option IntType
first_holding value [] = None
first_holding value (t ∷ ts) = if nat_lt (greatest t) value then first_holding value ts else Some t

-- the type of a literal
unfoldable pub literal_type : ℕ → LiteralForm → Bool → ℕ → Option IntType
literal_type value form unsigned longs = first_holding value (candidates form unsigned longs)

abbrev pub literal : ℕ → Option IntType → Expr
literal value None = zero_expr
literal value (Some ty) = constant ty (pos value)

-- ---- conversions (6.3)

unfoldable pub cast : IntType → Expr → Expr
cast ty e = expr ty None (N.Cast e)

-- converted to a type, where it isn't of it
abbrev pub converted : IntType → Expr → Expr
converted ty e = if same_type ty (ty_of e) then e else cast ty e

-- ---- operators (6.5.3.3, 6.5.5 to 6.5.15)

-- how the operands of an operator are converted, and what its result is
pub data Conversion : Type 0 where
  -- both to their common type, which is the result's; or whose result is `int`
  arithmetic : Conversion
  relation : Conversion
  -- each promoted; the result is of the left one's type
  shift : Conversion
  -- not at all; the result is `int`
  logic : Conversion

abbrev pub conversion_of : BinaryOp → Conversion
conversion_of B.LogicOr = logic
conversion_of B.LogicAnd = logic
conversion_of B.Or = arithmetic
conversion_of B.Xor = arithmetic
conversion_of B.And = arithmetic
conversion_of B.Equal = relation
conversion_of B.NotEqual = relation
conversion_of B.Less = relation
conversion_of B.Greater = relation
conversion_of B.LessEq = relation
conversion_of B.GreaterEq = relation
conversion_of B.Shl = shift
conversion_of B.Shr = shift
conversion_of B.Add = arithmetic
conversion_of B.Sub = arithmetic
conversion_of B.Mul = arithmetic
conversion_of B.Div = arithmetic
conversion_of B.Rem = arithmetic

abbrev pub common_type : IntType → IntType → IntType
common_type a b = common (promoted a) (promoted b)

-- of types a and b: what the left and the right operand are converted to, and the type of the result
abbrev pub left_type : Conversion → IntType → IntType → IntType
left_type arithmetic a b = common_type a b
left_type relation a b = common_type a b
left_type shift a b = promoted a
left_type logic a b = a

abbrev pub right_type : Conversion → IntType → IntType → IntType
right_type arithmetic a b = common_type a b
right_type relation a b = common_type a b
right_type shift a b = promoted b
right_type logic a b = b

abbrev pub result_type : Conversion → IntType → IntType
result_type arithmetic ty = ty
result_type relation ty = T.Int
result_type shift ty = ty
result_type logic ty = T.Int

unfoldable pub left_operand : BinaryOp → IntType → IntType → IntType
left_operand op a b = left_type (conversion_of op) a b

unfoldable pub right_operand : BinaryOp → IntType → IntType → IntType
right_operand op a b = right_type (conversion_of op) a b

unfoldable pub binary_type : BinaryOp → IntType → IntType
binary_type op ty = result_type (conversion_of op) ty

abbrev pub binary_of : BinaryOp → IntType → Expr → Expr → Option SiteId → Expr
binary_of op ty l r site =
    expr (binary_type op ty) site (N.Binary op (converted ty l) (converted (right_operand op (ty_of l) (ty_of r)) r))

unfoldable pub binary : PointId → BinaryOp → Expr → Expr → Typing Expr
binary point op l r =
    let ty = left_operand op (ty_of l) (ty_of r) in
    site_for point (binary_checks op ty) >>= (λ site. pure (binary_of op ty l r site))

-- `!` takes its operand as it is, and its result is `int`; the others promote it
abbrev pub operand_type : UnaryOp → IntType → IntType
operand_type U.Plus ty = promoted ty
operand_type U.Minus ty = promoted ty
operand_type U.Not ty = ty
operand_type U.Invert ty = promoted ty

abbrev pub unary_type : UnaryOp → IntType → IntType
unary_type U.Plus ty = ty
unary_type U.Minus ty = ty
unary_type U.Not ty = T.Int
unary_type U.Invert ty = ty

unfoldable pub unary : PointId → UnaryOp → Expr → Typing Expr
unary point op e =
    let ty = operand_type op (ty_of e) in
    site_for point (unary_checks op ty) >>= (λ site.
    pure (expr (unary_type op ty) site (N.Unary op (converted ty e))))

-- `c ? l : r` is of the common type (6.5.15)
unfoldable pub choice : Expr → Expr → Expr → Expr
choice c l r =
    let ty = common_type (ty_of l) (ty_of r) in expr ty None (N.Cond c (converted ty l) (converted ty r))

-- `t = e` is of the type of what is written to (6.5.16)
unfoldable pub assigned : Expr → Expr → Expr
assigned t e = expr (ty_of t) None (N.Assign t (converted (ty_of t) e))

-- ---- names (6.5.1, 6.5.2)

abbrev pub object_read : PointId → Object → Option ℕ → Typing Expr
object_read point o None =
    site_for point (read_checks o.checked) >>= (λ site. pure (expr o.ty site (N.Cell o.first o.checked)))
object_read point o (Some n) = pure zero_expr

abbrev pub name_by : PointId → Option Entry → Typing Expr
name_by point None = pure zero_expr
name_by point (Some (E.Object o)) = object_read point o o.length
name_by point (Some (E.Function g)) = pure zero_expr

-- a name that is read
unfoldable pub name_value : Env → PointId → List ℕ → Typing Expr
name_value env point x = name_by point (env x)

abbrev pub object_written : Object → Option ℕ → Expr
object_written o None = expr o.ty None (N.Cell o.first false)
object_written o (Some n) = zero_expr

abbrev pub written_by : Option Entry → Expr
written_by None = zero_expr
written_by (Some (E.Object o)) = object_written o o.length
written_by (Some (E.Function g)) = zero_expr

-- a name that is written to
unfoldable pub name_target : Env → List ℕ → Expr
name_target env x = written_by (env x)

abbrev pub is_scalar_entry : Option Entry → Bool
is_scalar_entry None = false
is_scalar_entry (Some (E.Object o)) = not (is_some o.length)
is_scalar_entry (Some (E.Function g)) = false

-- whether a name stands for an object that is no array
unfoldable pub is_scalar : Env → List ℕ → Bool
is_scalar env x = is_scalar_entry (env x)

abbrev pub array_of : Object → Option ℕ → Option Array
array_of o None = None
array_of o (Some n) = Some (record { object = o; length = n })

abbrev pub array_by : Option Entry → Option Array
array_by None = None
array_by (Some (E.Object o)) = array_of o o.length
array_by (Some (E.Function g)) = None

unfoldable pub array_name : Env → List ℕ → Option Array
array_name env x = array_by (env x)

abbrev pub array_named : Env → Option (List ℕ) → Option Array
array_named env None = None
array_named env (Some x) = array_name env x

-- the array that an expression names
unfoldable pub array : Env → Option (List ℕ) → Option Array
array = array_named

-- an element that is read (`checked` is that of the array) or written to (it is false)
unfoldable pub element : PointId → Array → Bool → Expr → Typing Expr
element point a checked i =
    site_for point (element_checks checked) >>= (λ site.
    pure (expr a.object.ty site (N.Element a.object.first a.length i checked)))

abbrev pub signature_by : Option Entry → Option Signature
signature_by None = None
signature_by (Some (E.Object o)) = None
signature_by (Some (E.Function g)) = Some g

unfoldable pub function_name : Env → List ℕ → Option Signature
function_name env x = signature_by (env x)

abbrev pub function_named : Env → Option (List ℕ) → Option Signature
function_named env None = None
function_named env (Some x) = function_name env x

-- the function that an expression names
unfoldable pub function : Env → Option (List ℕ) → Option Signature
function = function_named

abbrev pub result_of : Option IntType → IntType
result_of None = T.Int
result_of (Some ty) = ty

-- a call stands where it may, with as many arguments as there are formals
unfoldable pub is_allowed : Place → Signature → ℕ → Bool
is_allowed place g count =
    not (is_inner place) && (count == length g.formals && (is_dropped place || is_some g.result))

-- a call, of type `int` where the function has no result (this project's own)
unfoldable pub called : Signature → List Expr → Expr
called g es = expr (result_of g.result) None (N.Call g.number es)
