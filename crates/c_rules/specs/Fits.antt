-- Typed trees that are written to or passed to functions, and that what names stand for is part of what trees are formed
-- over.
use Rattle.std.specs.Prelude.{◌≡◌, ℕ, Bool, true, false, ◌&&◌, List, [], ◌∷◌, slice_get, Option, Some, None}
use Rattle.c_ir.specs.declared.ty.IntType.{IntType}
use Rattle.c_ir.specs.declared.tree.Expr.{Expr}
use Rattle.c_ir.specs.Formed.{Layout, Callee, form, cell_is, cells_are, is_read_as, on_some}
use Rattle.c_ir.specs.Types.{same_type}
use Rattle.c_rules.specs.declared.scope.Array.{Array}
use Rattle.c_rules.specs.declared.scope.Entry.{Entry}
use Rattle.c_rules.specs.declared.scope.Entry.TheVariants as E
use Rattle.c_rules.specs.declared.scope.Object.{Object}
use Rattle.c_rules.specs.declared.scope.Signature.{Signature}
use Rattle.c_ir.specs.declared.place.Place.TheVariants as P
use Rattle.c_ir.specs.Placed.{is_formed}
use Rattle.c_rules.specs.Breaches.{Env}

-- ---- trees

-- the tree is a well formed target, and nothing in it is a call or an assignment
unfoldable pub is_target : Layout → Expr → Bool
is_target l e = (form l e).target && (form l e).plain

-- a conversion of a tree is what the tree is
pub record Keeps (l : Layout) (from to : Expr) : Type 0 where
  pub value : (form l to).value ≡ (form l from).value
  pub plain : (form l to).plain ≡ (form l from).plain
  pub call : (form l to).call ≡ (form l from).call

-- the tree is an argument for the first of the formals that are left, if there is one
unfoldable pub is_arg : Layout → List IntType → Expr → Bool
is_arg l [] e = is_formed l P.Inner e
is_arg l (ty ∷ tys) e = is_formed l P.Inner e && same_type (form l e).ty ty

-- so is each of a list, as far as there are formals
unfoldable pub are_args : Layout → List IntType → List Expr → Bool
are_args l tys [] = true
are_args l [] (e ∷ es) = is_arg l [] e && are_args l [] es
are_args l (ty ∷ tys) (e ∷ es) = is_arg l (ty ∷ tys) e && are_args l tys es

-- ---- names

abbrev pub object_fits : Layout → Object → Option ℕ → Bool
object_fits l o None = cell_is (is_read_as o.ty o.checked) l.cells o.first
object_fits l o (Some n) = cells_are (is_read_as o.ty o.checked) l.cells o.first n

abbrev pub same_types : List IntType → List IntType → Bool
same_types [] [] = true
same_types [] (b ∷ bs) = false
same_types (a ∷ as') [] = false
same_types (a ∷ as') (b ∷ bs) = same_type a b && same_types as' bs

abbrev pub same_result : Option IntType → Option IntType → Bool
same_result None None = true
same_result None (Some b) = false
same_result (Some a) None = false
same_result (Some a) (Some b) = same_type a b

abbrev pub is_callee : Signature → Callee → Bool
is_callee g c = same_types c.formals g.formals && same_result c.result g.result

abbrev pub signature_fits : Layout → Signature → Bool
signature_fits l g = on_some (is_callee g) (slice_get l.callees g.number.0)

-- an object's cells are there, with its type, and `checked` as it says; so is a function, with its types
unfoldable pub entry_fits : Layout → Option Entry → Bool
entry_fits l None = true
entry_fits l (Some (E.Object o)) = object_fits l o o.length
entry_fits l (Some (E.Function g)) = signature_fits l g

-- so is each thing that a name stands for
abbrev pub EnvFits : Layout → Env → Type 0
EnvFits l env = (x : List ℕ) → entry_fits l (env x) ≡ true

-- the array's cells are there
unfoldable pub array_fits : Layout → Option Array → Bool
array_fits l None = true
array_fits l (Some a) = cells_are (is_read_as a.object.ty a.object.checked) l.cells a.object.first a.length

-- the function is there
unfoldable pub function_fits : Layout → Option Signature → Bool
function_fits l None = true
function_fits l (Some g) = signature_fits l g
