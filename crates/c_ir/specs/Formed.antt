-- Which typed trees are well formed over a program's cells and functions (C11 6.3, 6.5): what the parts of each node
-- are, of which types, which cells and functions it names, and that an operator has a site exactly where it has checks.
use Rattle.std.specs.Prelude.{nat_lt, nat_le, int_le, pos, ◌+◌, ℕ, ℤ, Bool, true, false, not, ◌&&◌, ◌||◌, List, [], ◌∷◌, length, take, drop, slice_get, Option, Some, None, is_some}
use Rattle.std.specs.List.{list_all}
use Rattle.fc_base.specs.declared.ids.SiteId.{SiteId}
use Rattle.fc_base.specs.declared.syntax.BinaryOp.{BinaryOp}
use Rattle.fc_base.specs.declared.syntax.BinaryOp.TheVariants as B
use Rattle.fc_base.specs.declared.syntax.UnaryOp.{UnaryOp}
use Rattle.fc_base.specs.declared.syntax.UnaryOp.TheVariants as U
use Rattle.c_ir.specs.declared.ty.IntType.{IntType}
use Rattle.c_ir.specs.declared.ty.IntType.TheVariants as T
use Rattle.c_ir.specs.declared.tree.Node.{Node}
use Rattle.c_ir.specs.declared.tree.Node.TheVariants as N
use Rattle.c_ir.specs.declared.tree.Expr.{Expr, fold-Expr}
use Rattle.c_ir.specs.declared.tree.Expr.TheOpen.{Expr-F}
use Rattle.c_ir.specs.declared.tree.CellInfo.{CellInfo}
use Rattle.c_ir.specs.declared.tree.Checks.{Checks}
use Rattle.c_ir.specs.Checks.{binary_checks, unary_checks}
use Rattle.c_ir.specs.Types.{rank, least, greatest, same_type}

-- what calls see of a function: the types of its formals, and that of its result if it has one
pub record Callee : Type 0 where
  pub formals : List IntType
  pub result : Option IntType

-- what trees are formed over
pub record Layout : Type 0 where
  pub cells : List CellInfo
  pub callees : List Callee

-- a node, as its parent sees it
pub record Form : Type 0 where
  pub ty : IntType
  -- it is well formed, and so where it is written to
  pub value : Bool
  pub target : Bool
  -- no call and no assignment is in it
  pub plain : Bool
  -- it is a call, or a conversion of one, and nothing else in it is a call or an assignment
  pub call : Bool
  -- it is an assignment of something plain or of such a call, and nothing else in it is a call or an assignment
  pub assign : Bool

-- ---- tests

-- of the rank of `int` or greater, so that the integer promotions change nothing (6.3.1.1)
abbrev pub is_promoted : IntType → Bool
is_promoted ty = not (nat_lt (rank ty) 3)

unfoldable pub in_range : IntType → ℤ → Bool
in_range ty v = int_le (least ty) v && int_le v (pos (greatest ty))

abbrev pub same_bool : Bool → Bool → Bool
same_bool true b = b
same_bool false b = not b

abbrev pub no_site : Option SiteId → Bool
no_site None = true
no_site (Some n) = false

-- a site exactly where there is a check
unfoldable pub has_site : Option SiteId → Checks → Bool
has_site site checks = same_bool (is_some site) (is_some checks.first)

abbrev pub on_some : {X : Type 0} → (X → Bool) → Option X → Bool
on_some p None = false
on_some p (Some x) = p x

-- ---- cells

abbrev pub is_of : IntType → CellInfo → Bool
is_of ty cell = same_type cell.ty ty

-- of this type, and read with this check
abbrev pub is_read_as : IntType → Bool → CellInfo → Bool
is_read_as ty checked cell = is_of ty cell && same_bool cell.checked checked

unfoldable pub cell_passes : (CellInfo → Bool) → List CellInfo → ℕ → Bool
cell_passes p cells c = on_some p (slice_get cells c)

unfoldable pub cells_pass : (CellInfo → Bool) → List CellInfo → ℕ → ℕ → Bool
cells_pass p cells first n = list_all p (take n (drop first cells))

-- the cell of this number exists and passes a test
abbrev pub cell_is : (CellInfo → Bool) → List CellInfo → ℕ → Bool
cell_is p cells c = nat_lt c (length cells) && cell_passes p cells c

-- so do the `n` cells from `first` on, of which there is one at least
abbrev pub cells_are : (CellInfo → Bool) → List CellInfo → ℕ → ℕ → Bool
cells_are p cells first n = (nat_lt 0 n && nat_le (first + n) (length cells)) && cells_pass p cells first n

-- ---- calls (6.5.2.2)

-- as many arguments as formals, each of its formal's type
abbrev pub args_fit : List IntType → List Form → Bool
args_fit [] [] = true
args_fit [] (e ∷ es) = false
args_fit (ty ∷ tys) [] = false
args_fit (ty ∷ tys) (e ∷ es) = (e.value && same_type e.ty ty) && args_fit tys es

abbrev pub all_plain : List Form → Bool
all_plain [] = true
all_plain (e ∷ es) = e.plain && all_plain es

-- the type of a call, `int` where the function has no result (this project's own)
abbrev pub call_type : Option IntType → IntType
call_type None = T.Int
call_type (Some ty) = ty

unfoldable pub is_call_of : IntType → List Form → Callee → Bool
is_call_of ty es g = args_fit g.formals es && same_type ty (call_type g.result)

-- ---- operators (6.5.3.3, 6.5.5 to 6.5.14)

unfoldable pub unary_types : UnaryOp → IntType → IntType → Bool
unary_types U.Plus ty of = same_type of ty && is_promoted ty
unary_types U.Minus ty of = same_type of ty && is_promoted ty
unary_types U.Not ty of = same_type ty T.Int
unary_types U.Invert ty of = same_type of ty && is_promoted ty

-- both operands of the result's type
abbrev pub arithmetic_types : IntType → IntType → IntType → Bool
arithmetic_types ty l r = (same_type l ty && same_type r ty) && is_promoted ty

-- both of one type, the result is `int`
abbrev pub relation_types : IntType → IntType → IntType → Bool
relation_types ty l r = (same_type l r && is_promoted l) && same_type ty T.Int

-- the left one of the result's type
abbrev pub shift_types : IntType → IntType → IntType → Bool
shift_types ty l r = (same_type l ty && is_promoted ty) && is_promoted r

unfoldable pub binary_types : BinaryOp → IntType → IntType → IntType → Bool
binary_types B.LogicOr ty l r = same_type ty T.Int
binary_types B.LogicAnd ty l r = same_type ty T.Int
binary_types B.Or ty l r = arithmetic_types ty l r
binary_types B.Xor ty l r = arithmetic_types ty l r
binary_types B.And ty l r = arithmetic_types ty l r
binary_types B.Equal ty l r = relation_types ty l r
binary_types B.NotEqual ty l r = relation_types ty l r
binary_types B.Less ty l r = relation_types ty l r
binary_types B.Greater ty l r = relation_types ty l r
binary_types B.LessEq ty l r = relation_types ty l r
binary_types B.GreaterEq ty l r = relation_types ty l r
binary_types B.Shl ty l r = shift_types ty l r
binary_types B.Shr ty l r = shift_types ty l r
binary_types B.Add ty l r = arithmetic_types ty l r
binary_types B.Sub ty l r = arithmetic_types ty l r
binary_types B.Mul ty l r = arithmetic_types ty l r
binary_types B.Div ty l r = arithmetic_types ty l r
binary_types B.Rem ty l r = arithmetic_types ty l r

-- of what is written to and what is written (6.5.16.1)
unfoldable pub assign_types : IntType → IntType → IntType → Bool
assign_types ty to of = same_type to ty && same_type of ty

-- both of the result's type (6.5.15)
unfoldable pub choice_types : IntType → IntType → IntType → Bool
choice_types ty a b = (same_type a ty && same_type b ty) && is_promoted ty

-- ---- nodes

-- a node that can't be written to
abbrev pub read_only : IntType → Bool → Bool → Form
read_only ty value plain = record {
  ty = ty;
  value = value;
  target = false;
  plain = plain;
  call = false;
  assign = false;
}

-- an object or an element, as a value and as a target
abbrev pub place : IntType → Bool → Bool → Bool → Form
place ty value target plain = record {
  ty = ty;
  value = value;
  target = target;
  plain = plain;
  call = false;
  assign = false;
}

abbrev pub node_form : Layout → IntType → Option SiteId → Node Form (List Form) → Form
node_form l ty site (N.Literal v) = read_only ty (no_site site && in_range ty v) true
node_form l ty site (N.Cell c checked) =
    place ty (same_bool (is_some site) checked && cell_is (is_read_as ty checked) l.cells c)
    (no_site site && (not checked && cell_is (is_of ty) l.cells c)) true
node_form l ty site (N.Element first n i checked) =
    place ty (is_some site && (i.value && cells_are (is_read_as ty checked) l.cells first n))
    (is_some site && (i.value && (not checked && cells_are (is_of ty) l.cells first n))) i.plain
node_form l ty site (N.Call g es) = record {
  ty = ty;
  value = no_site site && on_some (is_call_of ty es) (slice_get l.callees g.0);
  target = false;
  plain = false;
  call = all_plain es;
  assign = false;
}
node_form l ty site (N.Unary op e) =
    read_only ty (e.value && (unary_types op ty e.ty && has_site site (unary_checks op ty))) e.plain
node_form l ty site (N.Binary op a b) =
    read_only ty ((a.value && b.value) && (binary_types op ty a.ty b.ty && has_site site (binary_checks op a.ty)))
    (a.plain && b.plain)
node_form l ty site (N.Assign t e) = record {
  ty = ty;
  value = no_site site && ((t.target && e.value) && assign_types ty t.ty e.ty);
  target = false;
  plain = false;
  call = false;
  assign = t.plain && (e.plain || e.call);
}
node_form l ty site (N.Cond c a b) =
    read_only ty ((c.value && (a.value && b.value)) && (no_site site && choice_types ty a.ty b.ty))
    (c.plain && (a.plain && b.plain))
node_form l ty site (N.Cast e) = record {
  ty = ty;
  value = no_site site && e.value;
  target = false;
  plain = e.plain;
  call = e.call;
  assign = false;
}

abbrev pub form_step : Layout → Expr-F Form → Form
form_step l e = node_form l e.ty e.site e.node

abbrev pub form : Layout → Expr → Form
form l = fold-Expr Form (form_step l)
