-- Declarations of local objects (C11 6.7, 6.7.6.2, 6.7.9).
use Rattle.std.specs.Prelude.{ℕ, nat_lt, Bool, true, false, not, ◌&&◌, ◌||◌, if◌then◌else◌, List, [], ◌∷◌, ◌++◌, length, take, drop, Option, Some, None, ℤ, pos, negsuc}
use Rattle.fc_base.specs.declared.ids.PointId.{PointId}
use Rattle.c_ast.specs.declared.expr.Expr.{Expr}
use Rattle.c_ast.specs.declared.expr.Spec.{Spec}
use Rattle.c_ast.specs.declared.stmt.Declr.{Declr}
use Rattle.c_ast.specs.declared.stmt.Init.{Init}
use Rattle.c_ast.specs.declared.stmt.Init.TheVariants as I
use Rattle.c_ast.specs.declared.stmt.Length.{Length}
use Rattle.c_ast.specs.declared.stmt.Length.TheVariants as L
use Rattle.c_ir.specs.declared.ty.IntType.{IntType}
use Rattle.c_ir.specs.declared.ty.IntType.TheVariants as T
use Rattle.c_ir.specs.declared.tree.Expr.{Expr as Typed}
use Rattle.c_ir.specs.declared.tree.Init.{Init as TypedInit}
use Rattle.c_ir.specs.declared.tree.Init.TheVariants as J
use Rattle.c_ir.specs.declared.tree.Stmt.{Stmt, roll-Stmt}
use Rattle.c_ir.specs.declared.tree.Stmt.TheOpen.{Stmt-F}
use Rattle.c_rules.specs.Breaches.{Breaches, Env, none, both, one, only_if}
use Rattle.c_rules.specs.Specifiers.{spec_type, is_constant}
use Rattle.c_rules.specs.Typing.{converted}
use Rattle.c_rules.specs.declared.breach.Fault.TheVariants as F
use Rattle.c_rules.specs.declared.scope.Entry.{Entry}
use Rattle.c_rules.specs.declared.scope.Entry.TheVariants as E
use Rattle.c_ir.specs.declared.place.Place.TheVariants as P
use Rattle.c_rules.specs.declared.specifiers.SpecType.{SpecType}
use Rattle.c_rules.specs.declared.specifiers.SpecType.TheVariants as S
use Rattle.c_typing.specs.ConstantValues.{constant_value, constant_faults}
use Rattle.c_typing.specs.Meaning.{meaning, place_of}
use Rattle.c_typing.specs.Walking.{Walking, pure, ◌>>=◌, breach, value_of, aside, new_point, allocate, name_is, in_scope}
use Rattle.c_typing.specs.declared.context.Context.{Context}

-- ---- specifiers

-- the type of an object, `int` where the specifiers name none
abbrev pub object_type : Option SpecType → IntType
object_type None = T.Int
object_type (Some S.Void) = T.Int
object_type (Some (S.Integer ty)) = ty

abbrev pub is_object_type : Option SpecType → Bool
is_object_type None = false
is_object_type (Some S.Void) = false
is_object_type (Some (S.Integer ty)) = true

-- the specifiers of an object name an integer type
unfoldable pub object_faults : Spec → Breaches
object_faults spec = only_if (not (is_object_type (spec_type spec.words))) spec.at.span.from F.BadType

-- ---- lengths (6.7.6.2): from 1 to 4096

abbrev pub is_length : Option ℤ → Bool
is_length None = false
is_length (Some (pos n)) = nat_lt 0 n && nat_lt n 4097
is_length (Some (negsuc n)) = false

abbrev pub length_by : Option ℤ → ℕ
length_by None = 1
length_by (Some (pos n)) = if nat_lt 0 n && nat_lt n 4097 then n else 1
length_by (Some (negsuc n)) = 1

-- as many elements as values, of which more than 4096 are a breach
abbrev pub value_count : Init → ℕ
value_count I.Nothing = 1
value_count (I.One e) = 1
value_count (I.Many es) = length es

abbrev pub open_length : ℕ → ℕ
open_length n = if nat_lt 0 n && nat_lt n 4097 then n else 1

abbrev pub is_open_length : ℕ → Bool
is_open_length n = nat_lt 0 n && nat_lt n 4097

-- the length of an array, none of another object
abbrev pub length_of : Env → Length → Init → Option ℕ
length_of env L.Scalar value = None
length_of env L.Open value = Some (open_length (value_count value))
length_of env (L.Of e) value = Some (length_by (constant_value env e))

abbrev pub open_faults : ℕ → Init → Breaches
open_faults at I.Nothing = one at F.BadType
open_faults at (I.One e) = none
open_faults at (I.Many es) = only_if (not (is_open_length (length es))) at F.BadType

-- of a declarator whose name stands at `at`
abbrev pub length_faults : ℕ → Env → Length → Init → Breaches
length_faults at env L.Scalar value = none
length_faults at env L.Open value = open_faults at value
length_faults at env (L.Of e) value = constant_faults (is_length (constant_value env e)) env e

abbrev pub cell_count : Option ℕ → ℕ
cell_count None = 1
cell_count (Some n) = n

-- ---- initialisers (6.7.9)

abbrev pub values_from : PointId → IntType → List Expr → List Typed → Walking (List Typed)
values_from point ty [] done = pure done
values_from point ty (e ∷ es) done =
    value_of point P.Inner e >>= (λ t. values_from point ty es (done ++ converted ty t ∷ []))

abbrev pub asides : List Expr → Walking (Unit {0})
asides [] = pure tt
asides (e ∷ es) = aside P.Inner e >>= (λ _. asides es)

abbrev pub excess_faults : List Expr → Breaches
excess_faults [] = none
excess_faults (e ∷ es) = one (place_of (meaning e)) F.BadType

-- values that have no element
unfoldable pub excess : List Expr → Walking (Unit {0})
excess es = breach (excess_faults es) >>= (λ _. asides es)

abbrev pub braced_scalar : PointId → IntType → List Expr → Walking TypedInit
braced_scalar point ty [] = pure J.Nothing
braced_scalar point ty (e ∷ es) =
    value_of point P.Inner e >>= (λ t. excess es >>= (λ _. pure (J.One (converted ty t))))

abbrev pub scalar_init : PointId → IntType → Init → Walking TypedInit
scalar_init point ty I.Nothing = pure J.Nothing
scalar_init point ty (I.One e) = value_of point P.Value e >>= (λ t. pure (J.One (converted ty t)))
scalar_init point ty (I.Many es) = braced_scalar point ty es

abbrev pub braced_array : PointId → IntType → ℕ → List Expr → Walking TypedInit
braced_array point ty n es =
    values_from point ty (take n es) [] >>= (λ ts. excess (drop n es) >>= (λ _. pure (J.Many ts)))

abbrev pub array_init : PointId → IntType → ℕ → Init → Walking TypedInit
array_init point ty n I.Nothing = pure J.Nothing
array_init point ty n (I.One e) =
    breach (one (place_of (meaning e)) F.BadType) >>= (λ _. aside P.Inner e >>= (λ _. pure J.Nothing))
array_init point ty n (I.Many es) = braced_array point ty n es

abbrev pub init_of : PointId → IntType → Option ℕ → Init → Walking TypedInit
init_of point ty None value = scalar_init point ty value
init_of point ty (Some n) value = array_init point ty n value

-- an initialiser, whose values are converted to the type of the object or of its elements
unfoldable pub initial : PointId → IntType → Option ℕ → Init → Walking TypedInit
initial = init_of

-- ---- declarators

abbrev pub is_nothing : Init → Bool
is_nothing I.Nothing = true
is_nothing (I.One e) = false
is_nothing (I.Many es) = false

-- declared in the block, or a formal of the function whose outermost block it is
abbrev pub is_here : Context → ℕ → Bool
is_here ctx first = not (nat_lt first ctx.since) || not (nat_lt first ctx.formals_from) && nat_lt first ctx.formals_to

abbrev pub is_declared : Context → Option Entry → Bool
is_declared ctx None = false
is_declared ctx (Some (E.Object o)) = is_here ctx o.first
is_declared ctx (Some (E.Function g)) = false

-- a name is declared once in a block (6.7, paragraph 3)
abbrev pub twice_faults : Context → ℕ → List ℕ → Env → Breaches
twice_faults ctx at x env = only_if (is_declared ctx (env x)) at (F.Twice x)

abbrev pub local : IntType → ℕ → Option ℕ → Bool → Bool → Bool → Entry
local ty first size constant checked is_open = E.Object (record {
  ty = ty;
  first = first;
  length = size;
  constant = constant;
  checked = checked;
  is_open = is_open;
  is_set = false;
})

abbrev pub with_env : {X : Type 0} → (Env → Walking X) → Walking X
with_env f = λ s m. f s.env s m

abbrev pub declared_as : Context → IntType → Bool → Declr → Option ℕ → PointId → Walking Stmt
declared_as ctx ty constant d size point =
    allocate (record {
      ty = ty;
      owner = Some ctx.owner;
      constant = constant;
      checked = is_nothing d.value;
      length = cell_count size;
    }) >>= (λ first.
    in_scope (record { name = d.name.name; first = first; length = size }) >>= (λ _.
    name_is d.name.name (local ty first size constant (is_nothing d.value) true) >>= (λ _.
    initial point ty size d.value >>= (λ value.
    name_is d.name.name (local ty first size constant (is_nothing d.value) false) >>= (λ _.
    pure (roll-Stmt (Stmt-F.Declare point first size value)))))))

-- a declarator: its name is in scope from its end on, and has no value in its own initialiser
unfoldable pub declarator : Context → IntType → Bool → Declr → Walking Stmt
declarator ctx ty constant d = with_env (λ env.
    new_point ctx.owner d.at.line >>= (λ point.
    breach (both (length_faults d.name.at.span.from env d.length d.value)
    (twice_faults ctx d.name.at.span.from d.name.name env)) >>= (λ _.
    declared_as ctx ty constant d (length_of env d.length d.value) point)))

abbrev pub declarators_from : Context → IntType → Bool → List Declr → List Stmt → Walking (List Stmt)
declarators_from ctx ty constant [] done = pure done
declarators_from ctx ty constant (d ∷ ds) done =
    declarator ctx ty constant d >>= (λ s. declarators_from ctx ty constant ds (done ++ s ∷ []))

unfoldable pub declaration : Context → Spec → List Declr → Walking (List Stmt)
declaration ctx spec ds =
    breach (object_faults spec) >>= (λ _.
    declarators_from ctx (object_type (spec_type spec.words)) (is_constant spec.words) ds [])
