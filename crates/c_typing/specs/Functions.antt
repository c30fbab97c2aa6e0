-- Declarations and definitions of functions (C11 6.7.6.3, 6.9.1), and whole texts (6.9).
use Rattle.std.specs.Prelude.{◌≡◌, ℕ, ◌+◌, ◌<◌, ◌^◌, Bool, true, false, not, ◌&&◌, ◌||◌, if◌then◌else◌, List, [], ◌∷◌, ◌++◌, length, map, Option, Some, None, is_some}
use Rattle.fc_base.specs.declared.ids.FnId.{FnId}
use Rattle.fc_base.specs.declared.ids.Line.{Line}
use Rattle.fc_base.specs.declared.syntax.Spot.{Spot}
use Rattle.c_ast.specs.declared.expr.Ident.{Ident}
use Rattle.c_ast.specs.declared.expr.Spec.{Spec}
use Rattle.c_ast.specs.declared.stmt.Stmt.{Stmt}
use Rattle.c_ast.specs.declared.unit.Formal.{Formal}
use Rattle.c_ast.specs.declared.unit.Function.{Function}
use Rattle.c_ir.specs.Types.{same_type}
use Rattle.c_ir.specs.declared.ty.IntType.{IntType}
use Rattle.c_rules.specs.Breaches.{Breaches, Env, none, both, one, only_if}
use Rattle.c_rules.specs.Specifiers.{spec_type, is_constant}
use Rattle.c_rules.specs.declared.breach.Fault.TheVariants as F
use Rattle.c_rules.specs.declared.scope.Entry.{Entry}
use Rattle.c_rules.specs.declared.scope.Entry.TheVariants as E
use Rattle.c_rules.specs.declared.scope.Signature.{Signature}
use Rattle.c_rules.specs.declared.specifiers.SpecType.{SpecType}
use Rattle.c_rules.specs.declared.specifiers.SpecType.TheVariants as S
use Rattle.c_typing.specs.Declarations.{object_type, object_faults, twice_faults}
use Rattle.c_typing.specs.FileScope.{Filing, pure, ◌>>=◌, breach, walked, with_env}
use Rattle.c_typing.specs.Walking as walk
use Rattle.c_typing.specs.Statements.{meant_of, stmts_from, with_cells}
use Rattle.c_typing.specs.Walking.{Names, names_of, Walking, allocate, in_scope, name_is, new_point, new_note}
use Rattle.c_typing.specs.declared.context.Context.{Context}
use Rattle.c_typing.specs.declared.file.Definition.{Definition}
use Rattle.c_typing.specs.declared.file.File.{File}
use Rattle.c_typing.specs.declared.function.Before.{Before}
use Rattle.c_typing.specs.declared.function.Before.TheVariants as R

-- ---- types of functions

abbrev pub result_of : Option SpecType → Option IntType
result_of None = None
result_of (Some S.Void) = None
result_of (Some (S.Integer ty)) = Some ty

-- a result is of an integer type, or there is none
abbrev pub result_faults : Spec → Breaches
result_faults spec = only_if (not (is_some (spec_type spec.words))) spec.at.span.from F.BadType

abbrev pub formal_types : List Formal → List IntType
formal_types [] = []
formal_types (f ∷ fs) = object_type (spec_type f.spec.words) ∷ formal_types fs

abbrev pub formals_faults : List Formal → Breaches
formals_faults [] = none
formals_faults (f ∷ fs) = both (object_faults f.spec) (formals_faults fs)

abbrev pub same_result : Option IntType → Option IntType → Bool
same_result None None = true
same_result (Some a) (Some b) = same_type a b
same_result None (Some b) = false
same_result (Some a) None = false

abbrev pub same_types : List IntType → List IntType → Bool
same_types [] [] = true
same_types (a ∷ as') (b ∷ bs) = same_type a b && same_types as' bs
same_types [] (b ∷ bs) = false
same_types (a ∷ as') [] = false

-- a repeat has the same result and formals; `const` is no part of them
unfoldable pub is_same : Option IntType → List IntType → Signature → Bool
is_same result formals g = same_result result g.result && same_types formals g.formals

-- ---- a function's number and cells

abbrev pub allocate_formals : FnId → List IntType → Walking (Unit {0})
allocate_formals owner [] = walk.pure tt
allocate_formals owner (ty ∷ tys) =
    walk.◌>>=◌ (allocate (record {
      ty = ty;
      owner = Some owner;
      constant = false;
      checked = false;
      length = 1;
    }))
    (λ _. allocate_formals owner tys)

abbrev pub result_types : Option IntType → List IntType
result_types None = []
result_types (Some ty) = ty ∷ []

abbrev pub cells_from : ℕ → List IntType → List ℕ
cells_from cell [] = []
cells_from cell (ty ∷ tys) = cell ∷ cells_from (cell + 1) tys

abbrev pub result_cell : Option IntType → ℕ → Option ℕ
result_cell None cell = None
result_cell (Some ty) cell = Some cell

abbrev pub new_function : Ident → Option IntType → List IntType → ℕ → Filing (Unit {0})
new_function x result formals first = λ d. record {
  value = tt;
  declared = record d {
    functions = d.functions ++ (record {
      name = x.name;
      line = x.at.line;
      formals = cells_from first formals;
      result = result_cell result (first + length formals);
    }) ∷ [];
    definitions = d.definitions ++ None ∷ [];
  };
  breaches = none;
}

abbrev pub signature : ℕ → Option IntType → List IntType → ℕ → Signature
signature number result formals first = record {
  number = record { 0 = number };
  result = result;
  formals = formals;
  first = first;
  noted = false;
  defined = false;
}

abbrev pub with_counts : {X : Type 0} → (ℕ → ℕ → Filing X) → Filing X
with_counts f = λ d. f (length d.functions) d.made.cells d

-- the next function, with cells for its formals and then for its result
unfoldable pub enlist : Ident → Option IntType → List IntType → Filing Signature
enlist x result formals = with_counts (λ number first.
    walked (allocate_formals (record { 0 = number }) formals) >>= (λ _.
    walked (allocate_formals (record { 0 = number }) (result_types result)) >>= (λ _.
    new_function x result formals first >>= (λ _. pure (signature number result formals first)))))

-- whether the name stands for the function, and its signature
abbrev pub Listed : Type 0
Listed = Bool × Signature

-- a function of its own under a name that stands for something else; a note before what the name stands for counts
abbrev pub apart : Bool → Ident → Option IntType → List IntType → Filing Listed
apart noted x result formals =
    breach (one x.at.span.from F.BadType) >>= (λ _.
    enlist x result formals >>= (λ g. pure (false, record g { noted = noted })))

abbrev pub stands_for : Option Entry → Before
stands_for None = R.Nothing
stands_for (Some (E.Object o)) = R.Object
stands_for (Some (E.Function g)) = R.Function g

abbrev pub listed_if : Bool → Ident → Option IntType → List IntType → Signature → Filing Listed
listed_if true x result formals g = pure (true, g)
listed_if false x result formals g = apart g.noted x result formals

abbrev pub listed_by : Ident → Option IntType → List IntType → Before → Filing Listed
listed_by x result formals R.Nothing = enlist x result formals >>= (λ g. pure (true, g))
listed_by x result formals R.Object = apart false x result formals
listed_by x result formals (R.Function g) = listed_if (is_same result formals g) x result formals g

-- a repeat is the same function; a name that stands for something else is in breach
unfoldable pub listed : Ident → Option IntType → List IntType → Filing Listed
listed x result formals = with_env (λ env. listed_by x result formals (stands_for (env x.name)))

-- ---- notes and repeats

abbrev pub has_notes : List Spot → Bool
has_notes [] = false
has_notes (at ∷ more) = true

abbrev pub has_two : List Spot → Bool
has_two [] = false
has_two (at ∷ more) = has_notes more

-- over all declarations of a function at most one note stands before them, and one of them has a body
abbrev pub repeat_faults : Ident → Bool → List Spot → Signature → Breaches
repeat_faults x has_body notes g =
    both (only_if (g.noted && has_notes notes || has_two notes) x.at.span.from (F.Twice x.name))
    (only_if (g.defined && has_body) x.at.span.from (F.Twice x.name))

abbrev pub marked : Bool → List Spot → Signature → Signature
marked has_body notes g = record g { noted = g.noted || has_notes notes; defined = g.defined || has_body }

abbrev pub name_if : Bool → Ident → Signature → Filing (Unit {0})
name_if true x g = walked (name_is x.name (E.Function g))
name_if false x g = pure tt

-- a declaration of a function, whose signature is the value
unfoldable pub declared_function : Ident → Option IntType → List IntType → Bool → List Spot → Filing Signature
declared_function x result formals has_body notes =
    listed x result formals >>= (λ l. breach (repeat_faults x has_body notes l.1) >>= (λ _.
    name_if l.0 x (marked has_body notes l.1) >>= (λ _. pure l.1)))

-- ---- formals in scope (6.2.1, paragraph 4)

abbrev pub formal_object : IntType → ℕ → Bool → Entry
formal_object ty cell constant = E.Object (record {
  ty = ty;
  first = cell;
  length = None;
  constant = constant;
  checked = false;
  is_open = false;
  is_set = false;
})

-- the context of the outermost block of a function whose objects begin at cell `since`
abbrev pub body_context : Signature → ℕ → Context
body_context g since = record {
  owner = g.number;
  result = g.result;
  in_loop = false;
  since = since;
  formals_from = g.first;
  formals_to = g.first + length g.formals;
}

abbrev pub with_names : {X : Type 0} → (Names → Walking X) → Walking X
with_names f = λ s m. f s s m

abbrev pub formal_named : Context → Ident → IntType → ℕ → Bool → Walking (Unit {0})
formal_named ctx x ty cell constant =
    with_names (λ names.
    walk.◌>>=◌ (walk.breach (twice_faults ctx x.at.span.from x.name names.env)) (λ _.
    walk.◌>>=◌ (in_scope (record { name = x.name; first = cell; length = None })) (λ _.
    name_is x.name (formal_object ty cell constant))))

abbrev pub formal_by : Context → ℕ → Formal → Option Ident → Walking (Unit {0})
formal_by ctx cell f None = walk.pure tt
formal_by ctx cell f (Some x) =
    formal_named ctx x (object_type (spec_type f.spec.words)) cell (is_constant f.spec.words)

-- formals, the first of which has this cell
abbrev pub formals_from : Context → ℕ → List Formal → Walking (Unit {0})
formals_from ctx cell [] = walk.pure tt
formals_from ctx cell (f ∷ fs) =
    walk.◌>>=◌ (formal_by ctx cell f f.name) (λ _. formals_from ctx (cell + 1) fs)

-- the notes before an external declaration
abbrev pub notes_of : Option FnId → List Spot → Walking (Unit {0})
notes_of owner [] = walk.pure tt
notes_of owner (at ∷ more) =
    walk.◌>>=◌ (with_names (λ names. new_note owner at names.declared)) (λ _. notes_of owner more)

-- the cells of the formals that are constant in the body
abbrev pub constant_cells : ℕ → List Formal → List ℕ
constant_cells cell [] = []
constant_cells cell (f ∷ fs) =
    if is_constant f.spec.words then cell ∷ constant_cells (cell + 1) fs else constant_cells (cell + 1) fs

-- ---- bodies (6.9.1)

abbrev pub body_of : Context → Line → Line → List Stmt → Walking Definition
body_of ctx line close ss =
    walk.◌>>=◌ (new_point ctx.owner line) (λ entry.
    walk.◌>>=◌ (stmts_from ctx None (map meant_of ss) []) (λ body.
    walk.◌>>=◌ (new_point ctx.owner close) (λ exit.
    walk.pure (record { entry = entry; body = body; exit = exit }))))

abbrev pub body_by : Context → Function → Option (List Stmt) → Walking (Option Definition)
body_by ctx f None = walk.pure None
body_by ctx f (Some ss) =
    walk.◌>>=◌ (body_of ctx f.name.at.line f.close ss) (λ b. walk.pure (Some b))

-- the formals, the notes before the function, and its body, in a scope of their own
abbrev pub parts_of : Context → Signature → Function → List Spot → Walking (Option Definition)
parts_of ctx g f notes =
    walk.◌>>=◌ (formals_from ctx g.first f.formals) (λ _.
    walk.◌>>=◌ (notes_of (Some g.number) notes) (λ _. body_by ctx f f.body))

unfoldable pub within : Signature → Function → List Spot → Walking (Option Definition)
within g f notes = walk.alone (with_cells (λ since. parts_of (body_context g since) g f notes))

-- ---- numbers of cells

-- the cells of a function's formals have numbers
abbrev pub IsRoomy : Signature → Type 0
IsRoomy g = g.first + length g.formals < 2 ^ 32

abbrev pub EntryIsRoomy : Option Entry → Type 0
EntryIsRoomy None = Unit {0}
EntryIsRoomy (Some (E.Object o)) = Unit {0}
EntryIsRoomy (Some (E.Function g)) = IsRoomy g

-- so have those of each function in scope
unfoldable pub AreRoomy : Env → Type 0
AreRoomy env = (x : List ℕ) → EntryIsRoomy (env x)

abbrev pub BeforeIsRoomy : Before → Type 0
BeforeIsRoomy R.Nothing = Unit {0}
BeforeIsRoomy R.Object = Unit {0}
BeforeIsRoomy (R.Function g) = IsRoomy g

-- the functions stay, and their cells still have numbers
pub record KeepsFunctions (old new : File) : Type 0 where
  pub functions : new.functions ≡ old.functions
  pub roomy : AreRoomy (names_of old.scope).env → AreRoomy (names_of new.scope).env
