-- What a function that reads gives, in terms of what is to be read.
use Rattle.std.specs.Prelude.{◌≡◌, ℕ, List, Result, Ok, Err, Option, Some, None, length, ◌<◌}
use Rattle.std.specs.Borrow.{Bor}
use Rattle.c_lex.specs.declared.token.Token.{Token}
use Rattle.c_parse.specs.declared.fault.Fault.{Fault}
use Rattle.c_parse.specs.declared.fault.Fault.TheVariants as F
use Rattle.acsl_read.specs.declared.class.Class.{Class}
use Rattle.acsl_read.specs.declared.class.Class.TheVariants as C
use Rattle.acsl_read.specs.declared.level.Direction.{Direction}
use Rattle.acsl_read.specs.declared.level.Direction.TheVariants as D
use Rattle.grammar_forms.specs.Derives.{Unexpected, TooDeep}
use Rattle.grammar_forms.specs.inner.Reading.{Reading, Read, Stop, with_value, read_rule}
use Rattle.acsl_read.specs.Table.{Production}
use Rattle.acsl_read.specs.Trees.{Value, Found}
use Rattle.acsl_read.specs.Grammar.{grammar}

-- a production, read at a depth of nesting
unfoldable pub read : List ℕ → Production → ℕ → List Token → Reading Token Value
read bytes s d ts = read_rule (grammar bytes) s d ts

abbrev pub Fails : Fault → Reading Token Value → Type 0
Fails F.Memory answer = Unit {0}
Fails (F.Unexpected n) answer = answer ≡ Stop Unexpected n
Fails (F.TooDeep n) answer = answer ≡ Stop TooDeep n

-- what a function gave, seen by `view`, is what is to be read, unless memory ran out
abbrev pub Gives : {X : Type 0} → (X → Found) → Result (X × Bor (List Token)) Fault → Reading Token Value → Type 0
Gives view (Ok x) answer = answer ≡ Read (view x.0) x.1.now
Gives view (Err e) answer = Fails e answer

-- a look for one more of a list: there is none, or one stands before the others
abbrev pub Goes : {X : Type 0} → Found → (X → Found → Found) → (List Token → Reading Token Value) → List Token
    → Result (Option (X × Bor (List Token))) Fault → Type 0
Goes none push all ts (Ok None) = all ts ≡ Read none ts
Goes none push all ts (Ok (Some x)) = (all ts ≡ with_value (push x.0) (all x.1.now)) × (length x.1.now < length ts)
Goes none push all ts (Err e) = Fails e (all ts)

-- the direction of a chain after one relation more, if that one may follow
abbrev pub turn : Direction → Class → Option Direction
turn D.Open C.Equal = Some D.Level
turn D.Open C.Rising = Some D.Rising
turn D.Open C.Falling = Some D.Falling
turn D.Open C.Distinct = Some D.Closed
turn D.Level C.Equal = Some D.Level
turn D.Level C.Rising = Some D.Rising
turn D.Level C.Falling = Some D.Falling
turn D.Rising C.Equal = Some D.Rising
turn D.Rising C.Rising = Some D.Rising
turn D.Falling C.Equal = Some D.Falling
turn D.Falling C.Falling = Some D.Falling
turn d c = None

-- a look for one relation more of a chain, after which its direction may be another
abbrev pub Links : {X : Type 0} → Found → (X → Found → Found) → (Direction → List Token → Reading Token Value)
    → Direction → List Token → Result (Option ((X × Direction) × Bor (List Token))) Fault → Type 0
Links none push all d ts (Ok None) = all d ts ≡ Read none ts
Links none push all d ts (Ok (Some x)) =
    (all d ts ≡ with_value (push x.0.0) (all x.0.1 x.1.now)) × (length x.1.now < length ts)
Links none push all d ts (Err e) = Fails e (all d ts)
