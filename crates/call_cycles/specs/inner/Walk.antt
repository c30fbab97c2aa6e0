-- What a depth-first walk that finds strongly connected components keeps and finds (Tarjan, Depth-first search and
-- linear graph algorithms, 1972). Its state: o, the stack of open functions; cs, the colours; first, the lowest number
-- so far of a function that leads to itself and was left.
use Rattle.std.specs.Prelude.{◌≡◌, ◌<◌, ◌≤◌, ◌+◌, ℕ, List, Bool, true, false, length, get_or, take, drop, min, Option, Some, None, ◌⊎◌}
use Rattle.call_cycles.specs.declared.state.Colour.{Colour}
use Rattle.call_cycles.specs.declared.state.Colour.TheVariants.{Open, Closed}
use Rattle.call_cycles.specs.Calls.{Graph, callees, Calls, Leads}
use Rattle.call_cycles.specs.inner.Colours.{colour, new_at, Seen, unvisited, close}

-- h is f, or h leads to f
abbrev pub LeadsOrIs : Graph → ℕ → ℕ → Type 0
LeadsOrIs g h f = (h ≡ f) ⊎ Leads g h f

abbrev pub EachLeads : Graph → List ℕ → ℕ → Type 0
EachLeads g o f = (j : ℕ) → j < length o → Leads g (get_or o j 0) f

abbrev pub EachLeadsOrIs : Graph → List ℕ → ℕ → Type 0
EachLeadsOrIs g o f = (j : ℕ) → j < length o → LeadsOrIs g (get_or o j 0) f

-- the stack has the open functions, each at its place; what a closed function calls is closed
pub record Good (g : Graph) (o : List ℕ) (cs : List Colour) : Type 0 where
  pub long : length cs ≡ length g
  pub room : length o + unvisited cs ≤ length cs
  pub places : (x i : ℕ) → colour cs x ≡ Open i → (i < length o) × (get_or o i 0 ≡ x)
  pub stands : (i : ℕ) → i < length o → colour cs (get_or o i 0) ≡ Open i
  pub closed : (x y : ℕ) → colour cs x ≡ Closed → Calls g x y → colour cs y ≡ Closed

-- from o and cs function f was walked, unless it had been visited: no function that was visited on the way calls an
-- open one at a place below low; and f leads to the function at place low, if that place was on the stack
pub record Walked (g : Graph) (o : List ℕ) (cs : List Colour) (f low : ℕ) (o' : List ℕ) (cs' : List Colour) : Type 0 where
  pub good : Good g o' cs'
  pub fewer : unvisited cs' ≤ unvisited cs
  pub keeps : (x : ℕ) → new_at cs x ≡ false → colour cs' x ≡ colour cs x
  pub here : Seen low (colour cs' f)
  pub back : (j : ℕ) → length o ≤ j → j < length o' → (low < length o) × Leads g (get_or o' j 0) (get_or o low 0)
  pub reach : low < length o → Leads g f (get_or o low 0)
  pub bound : (x y : ℕ) → new_at cs x ≡ true → new_at cs' x ≡ false → Calls g x y → Seen low (colour cs' y)

-- from o and cs, where f is on top of the stack, the first i callees of f were walked
pub record SoFar (g : Graph) (o : List ℕ) (cs : List Colour) (f i low : ℕ) (o' : List ℕ) (cs' : List Colour) : Type 0 where
  pub good : Good g o' cs'
  pub fewer : unvisited cs' ≤ unvisited cs
  pub keeps : (x : ℕ) → new_at cs x ≡ false → colour cs' x ≡ colour cs x
  pub to : EachLeadsOrIs g o' f
  pub reach : low < length o → Leads g f (get_or o low 0)
  pub bound : (x y : ℕ) → new_at cs x ≡ true → new_at cs' x ≡ false → Calls g x y → Seen low (colour cs' y)
  pub each : (j : ℕ) → j < i → Seen low (colour cs' (get_or (callees g f) j 0))

-- first is a number, and at most x
abbrev pub AtMost : Option ℕ → ℕ → Type 0
AtMost None x = ⊥
AtMost (Some a) x = a ≤ x

-- first is none, or a function that leads to itself
abbrev pub OnCycle : Graph → Option ℕ → Type 0
OnCycle g None = Unit {0}
OnCycle g (Some a) = Leads g a a

-- first after functions were visited: it takes account of each of them that leads to itself
pub record Firsts (g : Graph) (cs : List Colour) (first : Option ℕ) (cs' : List Colour) (first' : Option ℕ) : Type 0 where
  pub sound : OnCycle g first'
  pub lower : (x : ℕ) → AtMost first x → AtMost first' x
  pub found : (x : ℕ) → new_at cs x ≡ true → new_at cs' x ≡ false → Leads g x x → AtMost first' x

-- the lower of first and f
abbrev pub lowest : Option ℕ → ℕ → ℕ
lowest None f = f
lowest (Some a) f = min a f

-- first with f, if that is on a cycle
abbrev pub first_with : Bool → Option ℕ → ℕ → Option ℕ
first_with true first f = Some (lowest first f)
first_with false first f = first

-- the stack and the colours when the function at a place is left: what is from there on is closed, unless a function
-- below that place is reached
abbrev pub left_stack : Bool → ℕ → List ℕ → List ℕ
left_stack true at o = o
left_stack false at o = take at o

abbrev pub left_colours : Bool → ℕ → List ℕ → List Colour → List Colour
left_colours true at o cs = cs
left_colours false at o cs = close (drop at o) cs
