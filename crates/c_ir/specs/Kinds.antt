-- The words of kinds, which kinds are firm, and which claims that no run arrives.
use Rattle.std.specs.Prelude.{List, ℕ, Bool, true, false, codes}
use Rattle.c_ir.specs.declared.kind.Kind.{Kind}
use Rattle.c_ir.specs.declared.kind.Kind.TheVariants as K
use Rattle.c_ir.specs.declared.kind.AlarmKind.TheVariants as A

-- the word of a kind in a property's name (ACSL manual for clauses, Frama-C's RTE manual for alarms)
abbrev pub kind_text : Kind → List ℕ
kind_text K.Requires = codes "requires"
kind_text K.CallRequires = codes "call_requires"
kind_text K.Ensures = codes "ensures"
kind_text K.Assert = codes "assert"
kind_text K.Check = codes "check"
kind_text K.Admit = codes "admit"
kind_text K.LoopInvariant = codes "loop_invariant"
kind_text (K.Alarm A.DivisionByZero) = codes "division_by_zero"
kind_text (K.Alarm A.SignedOverflow) = codes "signed_overflow"
kind_text (K.Alarm A.Shift) = codes "shift"
kind_text (K.Alarm A.IndexBound) = codes "index_bound"
kind_text (K.Alarm A.Initialization) = codes "initialization"
kind_text K.Dead = codes "dead"

-- a property of a firm kind is visited at each arrival at its point at which no admitted predicate is false
abbrev pub is_firm : Kind → Bool
is_firm K.Requires = true
is_firm K.CallRequires = false
is_firm K.Ensures = false
is_firm K.Assert = true
is_firm K.Check = true
is_firm K.Admit = false
is_firm K.LoopInvariant = true
is_firm (K.Alarm a) = false
is_firm K.Dead = false

-- the claim that no run arrives at the point
abbrev pub is_dead : Kind → Bool
is_dead K.Dead = true
is_dead _ = false
