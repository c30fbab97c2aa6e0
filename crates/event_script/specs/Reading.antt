-- What a function that reads gives, in terms of what is to be read.
use Rattle.std.specs.Prelude.{◌≡◌, Option, Some, None, Result, Ok, Err}
use Rattle.event_script.specs.declared.fault.ScriptFault.{ScriptFault}
use Rattle.event_script.specs.declared.fault.ScriptFault.TheVariants as F

infixl 10 ◌>>=◌
-- what is read first, and then the rest
abbrev pub ◌>>=◌ : {A B : Type 0} → Option A → (A → Option B) → Option B
None >>= f = None
(Some a) >>= f = f a

-- the fault of form says that nothing is to be read; want of memory says nothing
abbrev pub Fails : {X : Type 0} → ScriptFault → Option X → Type 0
Fails F.Memory read = Unit {0}
Fails F.Form read = read ≡ None

-- what a function gave, seen by `view`, is what is to be read, unless memory ran out
abbrev pub Gives : {X Y : Type 0} → (X → Y) → Result X ScriptFault → Option Y → Type 0
Gives view (Ok x) read = read ≡ Some (view x)
Gives view (Err e) read = Fails e read
