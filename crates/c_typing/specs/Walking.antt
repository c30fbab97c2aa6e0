-- Walks over statements and declarations: from the names in scope and what was made so far, each part gives a value,
-- the names after it, what was made after it, and its breaches.
use Rattle.std.specs.Prelude.{◌≡◌, ◌≤◌, ◌<◌, ◌^◌, ◌+◌, ℕ, List, [], ◌∷◌, ◌++◌, length, Option, Some, bytes_eq, cond, Result, Ok, Err}
use Rattle.std.specs.declared.alloc.AllocError.{AllocError}
use Rattle.std.specs.BTreeMap.{get_by_text}
use Rattle.fc_base.specs.declared.ids.FnId.{FnId}
use Rattle.fc_base.specs.declared.ids.Line.{Line}
use Rattle.fc_base.specs.declared.ids.PointId.{PointId}
use Rattle.fc_base.specs.declared.syntax.Spot.{Spot}
use Rattle.c_ast.specs.declared.expr.Expr.{Expr}
use Rattle.c_ir.specs.Numbers.{Numbers, count}
use Rattle.c_ir.specs.Scopes.{nameable}
use Rattle.c_ir.specs.declared.note.InScope.{InScope}
use Rattle.c_ir.specs.declared.note.NoteSpot.{NoteSpot}
use Rattle.c_ir.specs.declared.tree.Expr.{Expr as Typed}
use Rattle.c_ir.specs.declared.tree.PointInfo.{PointInfo}
use Rattle.c_ir.specs.declared.tree.SiteInfo.{SiteInfo}
use Rattle.c_rules.specs.Breaches.{Breaches, Env, none, both, least}
use Rattle.c_rules.specs.Typing.{Gave, gave}
use Rattle.c_rules.specs.declared.scope.Entry.{Entry}
use Rattle.c_ir.specs.declared.place.Place.{Place}
use Rattle.c_typing.specs.Meaning.{meaning}
use Rattle.c_typing.specs.declared.walk.Allocated.{Allocated}
use Rattle.c_typing.specs.declared.walk.Walk.{Walk}
use Rattle.c_typing.specs.declared.scope.Scope.{Scope}
use Rattle.c_typing.specs.declared.scope.Undo.{Undo}

-- ---- names in scope (6.2.1)

-- what names stand for, and the objects declared so far that are in scope, the newest first
pub record Names : Type 0 where
  pub env : Env
  pub declared : List InScope

abbrev pub names_of : Scope → Names
names_of s = record { env = get_by_text s.names; declared = s.declared }

-- a name stands for something else
abbrev pub put : List ℕ → Option Entry → Env → Env
put x o env = λ y. cond (bytes_eq x y) o (env y)

-- the declarations of a block are taken back
abbrev pub undone : List Undo → Env → Env
undone [] env = env
undone (u ∷ us) env = put u.name u.before (undone us env)

-- ---- what is made

pub record Made : Type 0 where
  pub sites : List SiteInfo
  pub points : List PointInfo
  pub objects : List Allocated
  -- the cells of the objects
  pub cells : ℕ
  pub notes : List NoteSpot

abbrev pub made_of : Walk → Made
made_of w = record { sites = w.found.sites; points = w.points; objects = w.objects; cells = w.cells; notes = w.notes }

-- ---- walks

pub record Went (X : Type 0) : Type 0 where
  pub value : X
  pub names : Names
  pub made : Made
  pub breaches : Breaches

abbrev pub Walking : Type 0 → Type 0
Walking X = Names → Made → Went X

abbrev pub pure : {X : Type 0} → X → Walking X
pure x = λ s m. record { value = x; names = s; made = m; breaches = none }

abbrev pub after : {X Y : Type 0} → Went X → Went Y → Went Y
after a b = record { value = b.value; names = b.names; made = b.made; breaches = both a.breaches b.breaches }

infixl 10 ◌>>=◌
abbrev pub ◌>>=◌ : {X Y : Type 0} → Walking X → (X → Walking Y) → Walking Y
p >>= f = λ s m. after (p s m) (f (p s m).value (p s m).names (p s m).made)

-- breaches alone
abbrev pub breach : Breaches → Walking (Unit {0})
breach b = λ s m. record { value = tt; names = s; made = m; breaches = b }

-- a part whose names are its own
abbrev pub alone : {X : Type 0} → Walking X → Walking X
alone p = λ s m. record { value = (p s m).value; names = s; made = (p s m).made; breaches = (p s m).breaches }

-- what a function returned and left is what the walk gives, unless memory ran out
pub record Is {X : Type 0} (w : Went X) (x : X) (names : Names) (old new : Walk) : Type 0 where
  pub value : w.value ≡ x
  pub names_is : w.names ≡ names
  pub made : w.made ≡ made_of new
  pub first : new.found.first ≡ least old.found.first w.breaches

abbrev pub Walks : {X : Type 0} → Went X → Result X AllocError → Names → Walk → Walk → Type 0
Walks w (Ok x) names old new = Is w x names old new
Walks w (Err e) names old new = Unit {0}

-- ---- steps

-- the typed tree of an expression, of which it is known what it gives
abbrev pub typed : Names → Made → Breaches → Gave Typed → Went Typed
typed s m b (gave e sites) = record { value = e; names = s; made = record m { sites = sites }; breaches = b }

-- an expression at a point
unfoldable pub value_of : PointId → Place → Expr → Walking Typed
value_of point place e = λ s m. typed s m ((meaning e).faults s.env place) ((meaning e).value s.env point place m.sites)

-- the breaches of an expression that is dropped
unfoldable pub aside : Place → Expr → Walking (Unit {0})
aside place e = λ s m. record { value = tt; names = s; made = m; breaches = (meaning e).faults s.env place }

-- the next point, of this function and line
unfoldable pub new_point : FnId → Line → Walking PointId
new_point owner line = λ s m. record {
  value = record { 0 = length m.points };
  names = s;
  made = record m { points = m.points ++ (record { owner = owner; line = line; clauses = [] }) ∷ [] };
  breaches = none;
}

-- the next cells, of this object; the value is the first of them
unfoldable pub allocate : Allocated → Walking ℕ
allocate o = λ s m. record {
  value = m.cells;
  names = s;
  made = record m { objects = m.objects ++ o ∷ []; cells = m.cells + o.length };
  breaches = none;
}

-- a name stands for this from now on
unfoldable pub name_is : List ℕ → Entry → Walking (Unit {0})
name_is x entry = λ s m. record {
  value = tt;
  names = record { env = put x (Some entry) s.env; declared = s.declared };
  made = m;
  breaches = none;
}

-- an object is in scope from now on
unfoldable pub in_scope : InScope → Walking (Unit {0})
in_scope o = λ s m. record {
  value = tt;
  names = record { env = s.env; declared = o ∷ s.declared };
  made = m;
  breaches = none;
}

-- a note of this function, with the objects that it can name; before a `for` those without what its head declares
unfoldable pub new_note : Option FnId → Spot → List InScope → Walking (Unit {0})
new_note owner at before = λ s m. record {
  value = tt;
  names = s;
  made = record m {
    notes = m.notes ++ (record {
      at = at;
      owner = owner;
      names = nameable s.declared;
      before = nameable before;
    }) ∷ [];
  };
  breaches = none;
}

-- ---- room for numbers

pub record HasRoom (n : ℕ) (w : Walk) : Type 0 where
  pub points : length w.points + n < 2 ^ 32
  pub cells : w.cells + n < 2 ^ 32
  pub sites : length w.found.sites + n < 2 ^ 32

pub record Grows (n : ℕ) (old new : Walk) : Type 0 where
  pub points : length new.points ≤ length old.points + n
  pub cells : new.cells ≤ old.cells + n
  pub sites : length new.found.sites ≤ length old.found.sites + n

-- ---- numbers

-- points and sites that count on from those that were there to those that are
pub record Numbered (ps ss : Numbers) (old new : Walk) : Type 0 where
  pub points : count (length old.points) ps ≡ Some (length new.points)
  pub sites : count (length old.found.sites) ss ≡ Some (length new.found.sites)

-- numbers that count to n, from wherever they begin, count to m with what was added to them
pub record CountsOn (old new : Numbers) (n m : ℕ) : Type 0 where
  pub goes : (from : ℕ) → count from old ≡ Some n → count from new ≡ Some m
