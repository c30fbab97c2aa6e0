-- The functions of a program by number, which of them call which, and cycles of calls.
use Rattle.std.specs.Prelude.{◌≡◌, ◌<◌, ℕ, zero, suc, List, [], Bool, true, false, length, get_or, Option, Some, None}
use Rattle.std.specs.List.{list_all}

-- the functions that each function calls, by number; an element of the list is a function
abbrev pub Graph : Type 0
Graph = List (List ℕ)

-- the functions that f calls; none where f is no function's number
abbrev pub callees : Graph → ℕ → List ℕ
callees g f = get_or g f []

-- f calls c directly
abbrev pub Calls : Graph → ℕ → ℕ → Type 0
Calls g f c = (i : ℕ) × (i < length (callees g f)) × (get_or (callees g f) i 0 ≡ c)

-- f calls h through k others
abbrev pub LeadsBy : Graph → ℕ → ℕ → ℕ → Type 0
LeadsBy g zero f h = Calls g f h
LeadsBy g (suc k) f h = (m : ℕ) × LeadsBy g k f m × Calls g m h

-- f calls h, directly or through others
abbrev pub Leads : Graph → ℕ → ℕ → Type 0
Leads g f h = (k : ℕ) × LeadsBy g k f h

-- each callee is a function's number
abbrev pub InRange : Graph → Type 0
InRange g = (f c : ℕ) → Calls g f c → c < length g

-- None: no function leads to itself; Some f: f is the lowest number of one that leads to itself
abbrev pub FirstOnCycle : Graph → Option ℕ → Type 0
FirstOnCycle g None = (f : ℕ) → f < length g → Leads g f f → ⊥
FirstOnCycle g (Some f) = (f < length g) × Leads g f f × ((e : ℕ) → e < f → Leads g e e → ⊥)

-- each chain of calls from f, with f itself, has at most k functions
abbrev pub ends : ℕ → Graph → ℕ → Bool
ends zero g f = false
ends (suc k) g f = list_all (ends k g) (callees g f)

-- where no function leads to itself, each chain of calls ends within the number of functions
abbrev pub EndIfNone : Graph → Option ℕ → Type 0
EndIfNone g None = (f : ℕ) → f < length g → ends (length g) g f ≡ true
EndIfNone g (Some f) = Unit {0}
