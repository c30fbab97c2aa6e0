-- The first of all breaches of annotations, by place and then by number.
use Rattle.std.specs.Prelude.{◌≡◌, ◌⊎◌, false, Option, Some, None}
use Rattle.acsl_terms.specs.Breaches.{Breaches, none, just, both, is_before, least}
use Rattle.acsl_terms.specs.declared.breach.NoteBreach.{NoteBreach}

-- the breach is among them
abbrev pub Has : Breaches → NoteBreach → Type 0
Has none b = ⊥
Has (just a) b = a ≡ b
Has (both x y) b = Has x b ⊎ Has y b

-- it is among them and none stands before it; there is none only where there are no breaches
abbrev pub IsFirst : Breaches → Option NoteBreach → Type 0
IsFirst all None = (b : NoteBreach) → Has all b → ⊥
IsFirst all (Some a) = Has all a × ((b : NoteBreach) → Has all b → is_before b a ≡ false)

abbrev pub LeastIsFirst : Type 0
LeastIsFirst = (all : Breaches) → IsFirst all (least None all)
