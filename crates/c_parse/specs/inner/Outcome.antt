-- What a function that reads gives, in terms of what is to be read.
use Rattle.std.specs.Prelude.{◌≡◌, ℕ, List, Result, Ok, Err, Option, Some, None, length, ◌<◌, ◌≤◌, ◌+◌, nat_lt, true, false}
use Rattle.std.specs.Borrow.{Bor}
use Rattle.c_lex.specs.declared.token.Token.{Token}
use Rattle.c_parse.specs.declared.fault.Fault.{Fault}
use Rattle.c_parse.specs.declared.fault.Fault.TheVariants as F
use Rattle.grammar_forms.specs.Forms.{most_nested, Made}
use Rattle.grammar_forms.specs.Derives.{Unexpected, TooDeep}
use Rattle.grammar_forms.specs.inner.Reading.{Reading, Read, Stop, with_value, read_rule}
use Rattle.c_parse.specs.Table.{Production}
use Rattle.c_parse.specs.Trees.{Value, Found, OfNothing}
use Rattle.c_parse.specs.Grammar.{grammar}

-- a production, read at a depth of nesting
unfoldable pub read : List ℕ → Production → ℕ → List Token → Reading Token Value
read bytes s d ts = read_rule (grammar bytes) s d ts

abbrev pub Fails : Fault → Reading Token Value → Type 0
Fails F.Memory answer = Unit {0}
Fails (F.Unexpected n) answer = answer ≡ Stop Unexpected n
Fails (F.TooDeep n) answer = answer ≡ Stop TooDeep n

-- what a function gave, seen by `view`, is what is to be read, unless memory ran out
abbrev pub Gives : {X : Type 0} → (X → Found) → Result (X × Bor (List Token)) Fault → Reading Token Value → Type 0
Gives view (Ok x) answer = answer ≡ Read (view x.0) x.1.now
Gives view (Err e) answer = Fails e answer

-- a look for one more of a list: there is none, or one stands before the others
abbrev pub Goes : {X : Type 0} → Found → (X → Found → Found) → (List Token → Reading Token Value) → List Token
    → Result (Option (X × Bor (List Token))) Fault → Type 0
Goes none push all ts (Ok None) = all ts ≡ Read none ts
Goes none push all ts (Ok (Some x)) = (all ts ≡ with_value (push x.0) (all x.1.now)) × (length x.1.now < length ts)
Goes none push all ts (Err e) = Fails e (all ts)

-- one nesting more, if there may be one
abbrev pub IsDeeper : ℕ → List Token → Result ℕ Fault → Type 0
IsDeeper d ts (Ok e) = (nat_lt d most_nested ≡ true) × (e ≡ d + 1) × (e ≤ 200)
IsDeeper d ts (Err F.Memory) = ⊥
IsDeeper d ts (Err (F.Unexpected n)) = ⊥
IsDeeper d ts (Err (F.TooDeep n)) = (nat_lt d most_nested ≡ false) × (n ≡ length ts)

-- a look for one more token of a note: the note ends here, or it goes on
abbrev pub Passes : (List Token → Reading Token Value) → List Token → Option (Bor (List Token)) → Type 0
Passes all ts None = all ts ≡ Read (Made OfNothing) ts
Passes all ts (Some rest) = (all ts ≡ all rest.now) × (length rest.now < length ts)
