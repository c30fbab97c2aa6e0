-- The colours of a depth-first walk.
use Rattle.std.specs.Prelude.{◌≤◌, ◌+◌, ℕ, List, [], ◌∷◌, Bool, true, false, get_or, set}
use Rattle.call_cycles.specs.declared.state.Colour.{Colour}
use Rattle.call_cycles.specs.declared.state.Colour.TheVariants.{Unvisited, Open, Closed}

-- the colour of function f; a number beyond the list has not been visited
abbrev pub colour : List Colour → ℕ → Colour
colour cs f = get_or cs f Unvisited

abbrev pub is_new : Colour → Bool
is_new Unvisited = true
is_new (Open i) = false
is_new Closed = false

-- whether function f has not been visited
abbrev pub new_at : List Colour → ℕ → Bool
new_at cs f = is_new (colour cs f)

-- a colour of a visited function: if it is open, then not at a place below low
abbrev pub Seen : ℕ → Colour → Type 0
Seen low Unvisited = ⊥
Seen low (Open i) = low ≤ i
Seen low Closed = Unit {0}

-- how many functions have not been visited
abbrev pub unvisited_one : Colour → ℕ
unvisited_one Unvisited = 1
unvisited_one (Open i) = 0
unvisited_one Closed = 0

abbrev pub unvisited : List Colour → ℕ
unvisited [] = 0
unvisited (c ∷ cs) = unvisited_one c + unvisited cs

-- the colours where each function of a list is Closed
abbrev pub close : List ℕ → List Colour → List Colour
close [] cs = cs
close (f ∷ fs) cs = close fs (set cs f Closed)
