-- Declarations at file scope (C11 6.9): objects, functions, and the notes before them.
use Rattle.std.specs.Prelude.{ℕ, ◌==◌, Bool, true, false, not, ◌&&◌, List, [], ◌∷◌, ◌++◌, take, drop, Option, Some, None, is_some, ℤ, pos, Result, Ok, Err, ◌≡◌}
use Rattle.std.specs.declared.alloc.AllocError.{AllocError}
use Rattle.c_ast.specs.declared.expr.Expr.{Expr}
use Rattle.c_ast.specs.declared.expr.Ident.{Ident}
use Rattle.c_ast.specs.declared.stmt.Declr.{Declr}
use Rattle.c_ast.specs.declared.stmt.Init.{Init}
use Rattle.c_ast.specs.declared.stmt.Init.TheVariants as I
use Rattle.c_ast.specs.declared.unit.Global.{Global}
use Rattle.c_ir.specs.Types.{same_type}
use Rattle.c_ir.specs.declared.ty.IntType.{IntType}
use Rattle.c_rules.specs.Breaches.{Breaches, Env, none, both, one, only_if, least}
use Rattle.c_rules.specs.Constants as number
use Rattle.c_rules.specs.Specifiers.{spec_type, is_constant}
use Rattle.c_rules.specs.declared.breach.Fault.TheVariants as F
use Rattle.c_rules.specs.declared.scope.Entry.{Entry}
use Rattle.c_rules.specs.declared.scope.Entry.TheVariants as E
use Rattle.c_rules.specs.declared.scope.Object.{Object}
use Rattle.c_typing.specs.ConstantValues.{constant_value, constant_faults}
use Rattle.c_typing.specs.Declarations.{object_type, object_faults, length_of, length_faults, cell_count, is_nothing, excess_faults}
use Rattle.c_typing.specs.Meaning.{meaning, place_of}
use Rattle.c_typing.specs.Walking.{Names, Made, Walking, Went, allocate, in_scope, name_is, names_of, made_of}
use Rattle.c_typing.specs.declared.file.Definition.{Definition}
use Rattle.c_typing.specs.declared.file.File.{File}
use Rattle.c_typing.specs.declared.file.Known.{Known}
use Rattle.c_typing.specs.declared.file.Start.{Start}

-- ---- values of initialisers (6.7.9, 6.6)

abbrev pub or_zero : IntType → Option ℤ → ℤ
or_zero ty None = pos 0
or_zero ty (Some v) = number.converted ty v

-- the value of a constant, converted to a type; 0 where it is in breach
abbrev pub start_value : IntType → Env → Expr → ℤ
start_value ty env e = or_zero ty (constant_value env e)

abbrev pub start_values : IntType → Env → List Expr → List ℤ
start_values ty env [] = []
start_values ty env (e ∷ es) = start_value ty env e ∷ start_values ty env es

abbrev pub value_faults : Env → Expr → Breaches
value_faults env e = constant_faults (is_some (constant_value env e)) env e

abbrev pub values_faults : Env → List Expr → Breaches
values_faults env [] = none
values_faults env (e ∷ es) = both (value_faults env e) (values_faults env es)

-- an array has its values in braces
abbrev pub single_values : IntType → Env → Option ℕ → Expr → List ℤ
single_values ty env None e = start_value ty env e ∷ []
single_values ty env (Some n) e = []

-- the values of an object of so many cells; those of no cell are in breach
abbrev pub start_of : IntType → Env → Option ℕ → Init → List ℤ
start_of ty env size I.Nothing = []
start_of ty env size (I.One e) = single_values ty env size e
start_of ty env size (I.Many es) = start_values ty env (take (cell_count size) es)

abbrev pub single_faults : Env → Option ℕ → Expr → Breaches
single_faults env None e = value_faults env e
single_faults env (Some n) e = both (one (place_of (meaning e)) F.BadType) (value_faults env e)

abbrev pub braced_faults : Env → ℕ → List Expr → Breaches
braced_faults env n es =
    both (values_faults env (take n es)) (both (excess_faults (drop n es)) (values_faults env (drop n es)))

abbrev pub start_faults : Env → Option ℕ → Init → Breaches
start_faults env size I.Nothing = none
start_faults env size (I.One e) = single_faults env size e
start_faults env size (I.Many es) = braced_faults env (cell_count size) es

-- ---- what is made at file scope

pub record Declared : Type 0 where
  pub names : Names
  pub made : Made
  -- in the order of their first declarations
  pub functions : List Known
  -- that of each function, where it has one
  pub definitions : List (Option Definition)
  -- the values that file-scope objects have at the start
  pub starts : List Start
  -- the cells of formals that are constant in a body
  pub constants : List ℕ

pub record Filed (X : Type 0) : Type 0 where
  pub value : X
  pub declared : Declared
  pub breaches : Breaches

abbrev pub Filing : Type 0 → Type 0
Filing X = Declared → Filed X

abbrev pub pure : {X : Type 0} → X → Filing X
pure x = λ d. record { value = x; declared = d; breaches = none }

abbrev pub after : {X Y : Type 0} → Filed X → Filed Y → Filed Y
after a b = record { value = b.value; declared = b.declared; breaches = both a.breaches b.breaches }

infixl 10 ◌>>=◌
abbrev pub ◌>>=◌ : {X Y : Type 0} → Filing X → (X → Filing Y) → Filing Y
p >>= f = λ d. after (p d) (f (p d).value (p d).declared)

abbrev pub breach : Breaches → Filing (Unit {0})
breach b = λ d. record { value = tt; declared = d; breaches = b }

abbrev pub went : {X : Type 0} → Declared → Went X → Filed X
went d w = record {
  value = w.value;
  declared = record d { names = w.names; made = w.made };
  breaches = w.breaches;
}

-- a walk over statements, at file scope
abbrev pub walked : {X : Type 0} → Walking X → Filing X
walked p = λ d. went d (p d.names d.made)

abbrev pub with_env : {X : Type 0} → (Env → Filing X) → Filing X
with_env f = λ d. f d.names.env d

-- ---- objects (6.7, 6.9.2)

abbrev pub same_size : Option ℕ → Option ℕ → Bool
same_size None None = true
same_size (Some n) (Some m) = n == m
same_size None (Some m) = false
same_size (Some n) None = false

abbrev pub same_flag : Bool → Bool → Bool
same_flag true b = b
same_flag false b = not b

-- a repeat has the same type, length and `const`
abbrev pub is_repeat : IntType → Bool → Option ℕ → Object → Bool
is_repeat ty constant size o = same_type ty o.ty && (same_flag constant o.constant && same_size size o.length)

abbrev pub object : IntType → ℕ → Option ℕ → Bool → Object
object ty first size constant = record {
  ty = ty;
  first = first;
  length = size;
  constant = constant;
  checked = false;
  is_open = false;
  is_set = false;
}

abbrev pub is_set : Object → Object
is_set o = record o { is_set = true }

abbrev pub bring_in : IntType → Bool → Option ℕ → Ident → Filing (Option Object)
bring_in ty constant size x =
    walked (allocate (record {
      ty = ty;
      owner = None;
      constant = constant;
      checked = false;
      length = cell_count size;
    })) >>= (λ first.
    walked (in_scope (record { name = x.name; first = first; length = size })) >>= (λ _.
    walked (name_is x.name (E.Object (object ty first size constant))) >>= (λ _.
    pure (Some (object ty first size constant)))))

-- where a repeat is of another type, its initialiser counts as no second one
abbrev pub with_repeat : Bool → Object → Object
with_repeat repeats o = record o { is_set = repeats && o.is_set }

abbrev pub repeated : IntType → Bool → Option ℕ → ℕ → Object → Filing (Option Object)
repeated ty constant size at o =
    breach (only_if (not (is_repeat ty constant size o)) at F.BadType) >>= (λ _.
    pure (Some (with_repeat (is_repeat ty constant size o) o)))

abbrev pub object_by : IntType → Bool → Option ℕ → Ident → Option Entry → Filing (Option Object)
object_by ty constant size x None = bring_in ty constant size x
object_by ty constant size x (Some (E.Object o)) = repeated ty constant size x.at.span.from o
object_by ty constant size x (Some (E.Function g)) = breach (one x.at.span.from F.BadType) >>= (λ _. pure None)

-- the object of a declarator, which a repeat has already
unfoldable pub object_of : IntType → Bool → Option ℕ → Ident → Filing (Option Object)
object_of ty constant size x = with_env (λ env. object_by ty constant size x (env x.name))

abbrev pub new_start : ℕ → List ℤ → Filing (Unit {0})
new_start first values = λ d. record {
  value = tt;
  declared = record d { starts = d.starts ++ (record { first = first; values = values }) ∷ [] };
  breaches = none;
}

abbrev pub set_if : Bool → Ident → List ℤ → Object → Filing (Unit {0})
set_if true x values o = pure tt
set_if false x values o =
    breach (only_if o.is_set x.at.span.from (F.Twice x.name)) >>= (λ _. new_start o.first values >>= (λ _.
    walked (name_is x.name (E.Object (is_set o)))))

abbrev pub set_by : Bool → Ident → List ℤ → Option Object → Filing (Unit {0})
set_by nothing x values None = pure tt
set_by nothing x values (Some o) = set_if nothing x values o

-- at most one declaration of an object has an initialiser
unfoldable pub set_once : Bool → Ident → List ℤ → Option Object → Filing (Unit {0})
set_once = set_by

-- the values of an initialiser
unfoldable pub starting : IntType → Option ℕ → Init → Filing (List ℤ)
starting ty size value = λ d. record {
  value = start_of ty d.names.env size value;
  declared = d;
  breaches = start_faults d.names.env size value;
}

unfoldable pub sized : Declr → Filing (Option ℕ)
sized r = λ d. record {
  value = length_of d.names.env r.length r.value;
  declared = d;
  breaches = length_faults r.name.at.span.from d.names.env r.length r.value;
}

-- a declarator at file scope
unfoldable pub global_declarator : IntType → Bool → Declr → Filing (Unit {0})
global_declarator ty constant r =
    sized r >>= (λ size. object_of ty constant size r.name >>= (λ o. starting ty size r.value >>= (λ values.
    set_once (is_nothing r.value) r.name values o)))

abbrev pub global_declarators : IntType → Bool → List Declr → Filing (Unit {0})
global_declarators ty constant [] = pure tt
global_declarators ty constant (r ∷ rs) = global_declarator ty constant r >>= (λ _. global_declarators ty constant rs)

unfoldable pub global : Global → Filing (Unit {0})
global g =
    breach (object_faults g.spec) >>= (λ _.
    global_declarators (object_type (spec_type g.spec.words)) (is_constant g.spec.words) g.declrs)

-- ---- what a function returned and left

abbrev pub declared_of : File → Declared
declared_of f = record {
  names = names_of f.scope;
  made = made_of f.walk;
  functions = f.functions;
  definitions = f.definitions.items;
  starts = f.starts;
  constants = f.constants;
}

pub record IsFiled {X : Type 0} (w : Filed X) (x : X) (old new : File) : Type 0 where
  pub value : w.value ≡ x
  pub declared : w.declared ≡ declared_of new
  pub first : new.walk.found.first ≡ least old.walk.found.first w.breaches

abbrev pub Files : {X : Type 0} → Filed X → Result X AllocError → File → File → Type 0
Files w (Ok x) old new = IsFiled w x old new
Files w (Err e) old new = Unit {0}
