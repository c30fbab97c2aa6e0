-- The first of all breaches, by place and then by number.
use Rattle.std.specs.Prelude.{◌≡◌, ◌⊎◌, false, Option, Some, None}
use Rattle.c_rules.specs.Breaches.{Breaches, none, just, both, is_before, least}
use Rattle.c_rules.specs.declared.breach.Breach.{Breach}

-- the breach is among them
abbrev pub Has : Breaches → Breach → Type 0
Has none b = ⊥
Has (just a) b = a ≡ b
Has (both x y) b = Has x b ⊎ Has y b

-- it is among them and none stands before it; there is none only where there are no breaches
abbrev pub IsFirst : Breaches → Option Breach → Type 0
IsFirst all None = (b : Breach) → Has all b → ⊥
IsFirst all (Some a) = Has all a × ((b : Breach) → Has all b → is_before b a ≡ false)

abbrev pub LeastIsFirst : Type 0
LeastIsFirst = (all : Breaches) → IsFirst all (least None all)
