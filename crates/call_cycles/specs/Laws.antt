-- Laws of chains of calls.
use Rattle.std.specs.Prelude.{◌≡◌, ◌<◌, ℕ, suc, true, length, None}
use Rattle.call_cycles.specs.Calls.{Graph, Calls, InRange, FirstOnCycle, ends}

-- with no cycle each chain of calls ends within the number of functions
abbrev pub ChainsEnd : Type 0
ChainsEnd =
    (g : Graph) → InRange g → FirstOnCycle g None →
    (f : ℕ) → f < length g → ends (length g) g f ≡ true

-- where the chains from f end within k + 1 functions, those from a callee end within k
abbrev pub CalleesEnd : Type 0
CalleesEnd = (g : Graph) (k f c : ℕ) → ends (suc k) g f ≡ true → Calls g f c → ends k g c ≡ true

-- chains that end within k functions end within k + 1
abbrev pub EndWithMore : Type 0
EndWithMore = (g : Graph) (k f : ℕ) → ends k g f ≡ true → ends (suc k) g f ≡ true
