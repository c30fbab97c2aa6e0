-- The computed test of a table: it is read with one token at a time, and no production begins with
-- itself. `is_sound_rule` is the test of one production.
use Rattle.std.specs.Prelude.{◌≡◌, ◌&&◌, ◌∷◌, [], ℕ, List, Bool, true, false, nat_lt, if◌then◌else◌}
use Rattle.grammar_forms.specs.Forms.{Form, Empty, OneOf, Rule, Then, Nearest, Or, Opened, Body, Extended, Grammar, one_of, null, firsts, mores}

abbrev pub same_bool : Bool → Bool → Bool
same_bool true b = b
same_bool false true = false
same_bool false false = true

module _ {C S T A : Type 0} (g : Grammar C S T A) where
  abbrev pub apart : List C → List C → Bool
  apart [] ys = true
  apart (x ∷ xs) ys = (if one_of g.same ys x then false else true) && apart xs ys

  abbrev pub within : List C → List C → Bool
  within [] ys = true
  within (x ∷ xs) ys = one_of g.same ys x && within xs ys

  -- no production begins with itself: what may stand first has a lower rank
  abbrev pub low : ℕ → Form C S → Bool
  low r Empty = true
  low r (OneOf cs) = true
  low r (Rule s) = nat_lt (g.rank s) r
  low r (Then f h) = low r f && low (if null g f then r else 1000) h
  low r (Nearest f h) = low r f && low (if null g f then r else 1000) h
  low r (Or f h) = low r f && low r h
  low r (Opened cs f) = low 1000 f
  low r (Body f) = low r f
  low r (Extended f h) = low r f && low (if null g f then r else 1000) h

  -- one token decides
  abbrev pub decided : Form C S → Bool
  decided Empty = true
  decided (OneOf cs) = true
  decided (Rule s) = true
  decided (Then f h) = decided f && (decided h && apart (firsts g h) (mores g f))
  decided (Nearest f h) = decided f && decided h
  decided (Or f h) = decided f && (decided h && ((if null g f then false else true) && apart (firsts g f) (firsts g h)))
  decided (Opened cs f) = decided f
  decided (Body f) = decided f && (if null g f then false else true)
  decided (Extended f h) = decided f && (decided h && ((if null g f then false else true) && ((if null g h then false else true) && apart (firsts g h) (mores g f))))

  abbrev pub is_sound_rule : S → Bool
  is_sound_rule s =
      nat_lt (g.rank s) 1000 && (low (g.rank s) (g.rule s) && (decided (g.rule s) && (same_bool (null g (g.rule s)) (g.nullable s)
      && (within (firsts g (g.rule s)) (g.first s) && (within (g.first s) (firsts g (g.rule s))
      && within (mores g (g.rule s)) (g.more s))))))

  -- each production passes
  abbrev pub IsSound : Type 0
  IsSound = (s : S) → is_sound_rule s ≡ true

  -- classes are the same exactly where they are equal
  abbrev pub IsExact : Type 0
  IsExact = (a b : C) → g.same a b ≡ true → a ≡ b
