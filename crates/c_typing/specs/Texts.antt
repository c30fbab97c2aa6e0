-- Whole texts (C11 6.9): external declarations in order, with the notes between them, and the program's functions.
use Rattle.std.specs.Prelude.{ℕ, ◌+◌, ◌*◌, ◌<◌, ◌≤◌, ◌^◌, List, [], ◌∷◌, ◌++◌, length, Option, Some, None, is_some, slice_set}
use Rattle.fc_base.specs.declared.ids.FnId.{FnId}
use Rattle.fc_base.specs.declared.ids.PointId.{PointId}
use Rattle.fc_base.specs.declared.syntax.Spot.{Spot}
use Rattle.c_ast.specs.declared.unit.Function.{Function}
use Rattle.c_ast.specs.declared.unit.Item.{Item}
use Rattle.c_ast.specs.declared.unit.Item.TheVariants as U
use Rattle.c_ast.specs.declared.unit.Unit.{Unit as Text}
use Rattle.c_ir.specs.declared.tree.Fun.{Fun}
use Rattle.c_ir.specs.declared.tree.Stmt.{Stmt}
use Rattle.c_rules.specs.Breaches.{both, least, none}
use Rattle.c_rules.specs.declared.breach.Breach.{Breach}
use Rattle.c_rules.specs.Specifiers.{spec_type}
use Rattle.c_rules.specs.declared.scope.Signature.{Signature}
use Rattle.c_typing.specs.FileScope.{Declared, Filed, Filing, pure, ◌>>=◌, breach, walked, global}
use Rattle.c_typing.specs.Functions.{result_of, result_faults, formal_types, formals_faults, declared_function, within, notes_of, constant_cells}
use Rattle.c_typing.specs.Room.{room_of_declrs, room_of_body}
use Rattle.c_typing.specs.Walking as walk
use Rattle.c_typing.specs.Walking.{Walking, new_point}
use Rattle.c_typing.specs.declared.file.Definition.{Definition}
use Rattle.c_typing.specs.declared.file.File.{File}
use Rattle.c_typing.specs.declared.file.Known.{Known}

-- ---- external declarations

abbrev pub new_constants : List ℕ → Filing (Unit {0})
new_constants cells = λ d. record {
  value = tt;
  declared = record d { constants = d.constants ++ cells };
  breaches = none;
}

abbrev pub new_definition : FnId → Definition → Filing (Unit {0})
new_definition function definition = λ d. record {
  value = tt;
  declared = record d { definitions = slice_set d.definitions function.0 (Some definition) };
  breaches = none;
}

-- what a function has between its braces, if it has them
abbrev pub define : Signature → Function → Option Definition → Filing (Unit {0})
define g f None = pure tt
define g f (Some definition) =
    new_constants (constant_cells g.first f.formals) >>= (λ _. new_definition g.number definition)

-- a declaration or a definition of a function, with the notes before it
unfoldable pub function : Function → List Spot → Filing (Unit {0})
function f notes =
    breach (both (result_faults f.spec) (formals_faults f.formals)) >>= (λ _.
    declared_function f.name (result_of (spec_type f.spec.words)) (formal_types f.formals) (is_some f.body) notes >>= (λ g.
    walked (within g f notes) >>= (λ parts. define g f parts)))

-- notes of no function
unfoldable pub file_notes : List Spot → Filing (Unit {0})
file_notes notes = walked (notes_of None notes)

-- the notes that wait for the next declaration; a note waits too
abbrev pub item_by : List Spot → Item → Filing (List Spot)
item_by waiting (U.Note at) = pure (waiting ++ at ∷ [])
item_by waiting (U.Global g) = file_notes waiting >>= (λ _. global g >>= (λ _. pure []))
item_by waiting (U.Function f) = function f waiting >>= (λ _. pure [])

unfoldable pub item : List Spot → Item → Filing (List Spot)
item = item_by

abbrev pub items_from : List Spot → List Item → Filing (Unit {0})
items_from waiting [] = file_notes waiting
items_from waiting (i ∷ is) = item waiting i >>= (λ w. items_from w is)

-- ---- texts

-- at the beginning of a text nothing is declared
abbrev pub nothing : Declared
nothing = record {
  names = record { env = λ x. None; declared = [] };
  made = record { sites = []; points = []; objects = []; cells = 0; notes = [] };
  functions = [];
  definitions = [];
  starts = [];
  constants = [];
}

abbrev pub walk_of : Text → Filed (Unit {0})
walk_of u = items_from [] u.items nothing

abbrev pub first_breach : Text → Option Breach
first_breach u = least None (walk_of u).breaches

-- ---- functions

abbrev pub function_of : Known → Option (List Stmt) → PointId → PointId → Fun
function_of k body entry exit = record {
  name = k.name;
  formals = k.formals;
  result = k.result;
  body = body;
  entry = entry;
  exit = exit;
}

-- a function that isn't defined has its points after all others, at the line of its first declaration
abbrev pub fun_by : FnId → Known → Option Definition → Walking Fun
fun_by number k (Some d) = walk.pure (function_of k (Some d.body) d.entry d.exit)
fun_by number k None =
    walk.◌>>=◌ (new_point number k.line) (λ entry.
    walk.◌>>=◌ (new_point number k.line) (λ exit. walk.pure (function_of k None entry exit)))

unfoldable pub fun : FnId → Known → Option Definition → Walking Fun
fun = fun_by

abbrev pub funs_from : ℕ → List Known → List (Option Definition) → List Fun → Walking (List Fun)
funs_from number (k ∷ ks) (d ∷ ds) done =
    walk.◌>>=◌ (fun (record { 0 = number }) k d) (λ f. funs_from (number + 1) ks ds (done ++ f ∷ []))
funs_from number [] ds done = walk.pure done
funs_from number (k ∷ ks) [] done = walk.pure done

-- ---- room for numbers

-- a function has cells for its formals and its result, and two points
abbrev pub room_of_function : Function → ℕ
room_of_function f = length f.formals + 3 + room_of_body f.body

abbrev pub room_of_item : Item → ℕ
room_of_item (U.Note at) = 0
room_of_item (U.Global g) = room_of_declrs g.declrs
room_of_item (U.Function f) = room_of_function f

abbrev pub room_of_items : List Item → ℕ
room_of_items [] = 0
room_of_items (i ∷ is) = room_of_item i + room_of_items is

pub record HasFileRoom (n : ℕ) (f : File) : Type 0 where
  pub points : length f.walk.points + 2 * length f.functions + n < 2 ^ 32
  pub cells : f.walk.cells + n < 2 ^ 32
  pub sites : length f.walk.found.sites + n < 2 ^ 32

pub record FileGrows (n : ℕ) (old new : File) : Type 0 where
  pub points : length new.walk.points + 2 * length new.functions ≤ length old.walk.points + 2 * length old.functions + n
  pub cells : new.walk.cells ≤ old.walk.cells + n
  pub sites : length new.walk.found.sites ≤ length old.walk.found.sites + n
