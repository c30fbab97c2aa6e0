-- What abstract cells stand for, and what is kept.
use Rattle.std.specs.Prelude.{◌≡◌, ◌≢◌, ◌<◌, ◌+◌, ℕ, ℤ, pos, ◌<ℤ◌, ◌≤ℤ◌, IsTrue, List, Option, Some, None}
use Rattle.fc_base.specs.declared.relation.Relation.{Relation}
use Rattle.fc_base.specs.declared.relation.Relation.TheVariants as R
use Rattle.int_value.specs.Standing.{IsRight, Stands}
use Rattle.int_value.specs.declared.value.Value.{Value}
use Rattle.abs_cells.specs.Cells.{Env, element_value, included_env, is_included, join_env, joined, value_at}
use Rattle.abs_cells.specs.Relations.{narrow_both, relation_said}
use Rattle.abs_cells.specs.declared.narrowing.Side.{Side}

-- ---- what stands for what

-- what each cell of a run has: a number, or none
abbrev pub Contents : Type 0
Contents = ℕ → Option ℤ

-- each cell has what its value stands for
abbrev pub StandFor : List Value → Contents → Type 0
StandFor cells c = (x : ℕ) → Stands (value_at cells x) (c x)

-- an unreached place stands for nothing
abbrev pub In : Env → Contents → Type 0
In None c = ⊥
In (Some cells) c = StandFor cells c

-- ---- joins and inclusion

abbrev pub JoinKeeps : Type 0
JoinKeeps = (a b : Env) (c : Contents) → (In a c → In (join_env a b) c) × (In b c → In (join_env a b) c)

abbrev pub IncludedKeeps : Type 0
IncludedKeeps = (a b : Env) (c : Contents) → IsTrue (included_env a b) → In a c → In b c

-- ---- elements

abbrev pub ElementStands : Type 0
ElementStands =
    (cells : List Value) (first n : ℕ) (index : Value) (c : Contents) (k : ℕ) → StandFor cells c
    → Stands index (Some (pos k)) → k < n → Stands (element_value cells first n index) (c (first + k))

-- ---- relations

abbrev pub Relates : Relation → ℤ → ℤ → Type 0
Relates R.Less x y = x <ℤ y
Relates R.LessEq x y = x ≤ℤ y
Relates R.Greater x y = y <ℤ x
Relates R.GreaterEq x y = y ≤ℤ x
Relates R.Equal x y = x ≡ y
Relates R.NotEqual x y = x ≢ y

abbrev pub RelationIsRight : Type 0
RelationIsRight =
    (r : Relation) (a b : Value) (x y : ℤ) → Stands a (Some x) → Stands b (Some y)
    → IsRight (relation_said r a b) (Relates r x y)

-- the cell that a side names has the side's number
abbrev pub Names : Option ℕ → Contents → ℤ → Type 0
Names None c z = Unit {0}
Names (Some x) c z = c x ≡ Some z

-- a relation that holds leaves the cells that it names what they have
abbrev pub NarrowKeeps : Type 0
NarrowKeeps =
    (r : Relation) (a b : Side) (x y : ℤ) (cells : List Value) (c : Contents) → Relates r x y
    → Stands a.value (Some x) → Stands b.value (Some y) → Names a.cell c x → Names b.cell c y
    → StandFor cells c → In (narrow_both r a b cells) c
