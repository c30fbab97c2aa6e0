-- What a grammar says of a list of tokens.
--
-- Derives d f t ts rest   inside d nestings the tokens `ts` up to `rest` are a text of the form `f`, with
--                         the derivation tree `t` (C11 6.1: syntax by productions)
-- Stops d f p ts w n      a reading of `ts` by `f`, which follows `f` from left to right, takes of several
--                         forms the one that the next token begins, and an optional one exactly where
--                         the next token begins it, stops for cause `w` where `n` tokens are left
-- value f t               what the productions make of a derivation
use Rattle.std.specs.Prelude.{◌≡◌, ◌⊎◌, ◌+◌, ◌&&◌, ◌||◌, ◌∷◌, ℕ, List, Bool, true, false, length, nat_lt}
use Rattle.grammar_forms.specs.Forms.{Form, Empty, OneOf, Rule, Then, Nearest, Or, Opened, Body, Extended, Parts, NoPart, One, Two, First, Second, Made}
use Rattle.grammar_forms.specs.Forms.{Grammar, firsts, begins, is_here, one_of, most_nested}

-- a derivation, with a constructor for each way of a form
pub data Tree (T : Type 0) : Type 0 where
  Bare : Tree T
  Leaf : T → Tree T
  Node : Tree T → Tree T
  Both : Tree T → Tree T → Tree T
  OnLeft : Tree T → Tree T
  OnRight : Tree T → Tree T
  Nested : T → Tree T → Tree T

-- a derivation that is cut off: whole trees to the left, and the place where the reading stops
pub data Partial (T : Type 0) : Type 0 where
  Here : Partial T
  OpensTooDeep : T → Partial T
  BodyTooDeep : Partial T
  Inside : Partial T → Partial T
  InFirst : Partial T → Partial T
  InSecond : Tree T → Partial T → Partial T
  InLeft : Partial T → Partial T
  InRight : Partial T → Partial T
  Under : T → Partial T → Partial T

-- why a reading stops: at a token that is none of those needed, or at one that opens a nesting too many
pub data Cause : Type 0 where
  Unexpected : Cause
  TooDeep : Cause

-- no token
abbrev pub is_bare : {T : Type 0} → Tree T → Bool
is_bare Bare = true
is_bare (Leaf t) = false
is_bare (Node a) = is_bare a
is_bare (Both a b) = is_bare a && is_bare b
is_bare (OnLeft a) = is_bare a
is_bare (OnRight a) = is_bare a
is_bare (Nested t a) = false

module _ {C S T A : Type 0} (g : Grammar C S T A) where
  abbrev pub value : Form C S → Tree T → Parts T A
  value (Rule s) (Node a) = Made (g.make s (value (g.rule s) a))
  value (OneOf cs) (Leaf t) = One t
  value (Then f h) (Both a b) = Two (value f a) (value h b)
  value (Nearest f h) (Both a b) = Two (value f a) (value h b)
  value (Or f h) (OnLeft a) = First (value f a)
  value (Or f h) (OnRight a) = Second (value h a)
  value (Opened cs f) (Nested t a) = Two (One t) (value f a)
  value (Body f) (Node a) = value f a
  value (Extended f h) (Both a b) = First (Two (value f a) (value h b))
  value (Extended f h) (OnRight a) = Second (value f a)
  value _ _ = NoPart

  -- a token of this class could go on after the tree
  abbrev pub is_open_to : Form C S → Tree T → C → Bool
  is_open_to (Rule s) (Node a) c = is_open_to (g.rule s) a c
  is_open_to (Then f h) (Both a b) c = is_open_to h b c || (is_bare b && is_open_to f a c)
  is_open_to (Nearest f h) (Both a b) c = is_open_to h b c || (is_bare b && is_open_to f a c)
  is_open_to (Or f h) (OnLeft a) c = is_open_to f a c
  is_open_to (Or f h) (OnRight a) c = is_open_to h a c || (is_bare a && one_of g.same (firsts g f) c)
  is_open_to (Opened cs f) (Nested t a) c = is_open_to f a c
  is_open_to (Body f) (Node a) c = is_open_to f a c
  is_open_to (Extended f h) (Both a b) c = is_open_to h b c
  is_open_to (Extended f h) (OnRight a) c = is_open_to f a c || (g.may_extend (value f a) && one_of g.same (firsts g h) c)
  is_open_to _ _ c = false

  abbrev pub Derives : ℕ → Form C S → Tree T → List T → List T → Type 0
  Derives d Empty Bare ts rest = ts ≡ rest
  Derives d (OneOf cs) (Leaf t) ts rest = (ts ≡ t ∷ rest) × (is_here g cs ts ≡ true)
  Derives d (Rule s) (Node a) ts rest = Derives d (g.rule s) a ts rest
  Derives d (Then f h) (Both a b) ts rest = (mid : List T) × Derives d f a ts mid × Derives d h b mid rest
  Derives d (Nearest f h) (Both a b) ts rest =
      (mid : List T) × Derives d f a ts mid × Derives d h b mid rest × ((is_bare b ≡ true) ⊎ (is_open_to f a (g.class_at mid) ≡ false))
  Derives d (Or f h) (OnLeft a) ts rest = Derives d f a ts rest
  Derives d (Or f h) (OnRight a) ts rest = Derives d h a ts rest
  Derives d (Opened cs f) (Nested t a) ts rest =
      (mid : List T) × (ts ≡ t ∷ mid) × (is_here g cs ts ≡ true) × (nat_lt d most_nested ≡ true) × Derives (d + 1) f a mid rest
  Derives d (Body f) (Node a) ts rest = (nat_lt d most_nested ≡ true) × Derives (d + 1) f a ts rest
  Derives d (Extended f h) (Both a b) ts rest = (mid : List T) × Derives d f a ts mid × (g.may_extend (value f a) ≡ true) × Derives d h b mid rest
  Derives d (Extended f h) (OnRight a) ts rest = Derives d f a ts rest
  Derives _ _ _ _ _ = ⊥

  abbrev pub Stops : ℕ → Form C S → Partial T → List T → Cause → ℕ → Type 0
  Stops d (OneOf cs) Here ts w n = (w ≡ Unexpected) × (is_here g cs ts ≡ false) × (n ≡ length ts)
  Stops d (Rule s) (Inside a) ts w n = Stops d (g.rule s) a ts w n
  Stops d (Then f h) (InFirst a) ts w n = Stops d f a ts w n
  Stops d (Then f h) (InSecond t a) ts w n =
      (mid : List T) × Derives d f t ts mid × (is_open_to f t (g.class_at mid) ≡ false) × Stops d h a mid w n
  Stops d (Nearest f h) (InFirst a) ts w n = Stops d f a ts w n
  Stops d (Nearest f h) (InSecond t a) ts w n =
      (mid : List T) × Derives d f t ts mid × (is_open_to f t (g.class_at mid) ≡ false) × Stops d h a mid w n
  Stops d (Or f h) (InLeft a) ts w n = (begins g f ts ≡ true) × Stops d f a ts w n
  Stops d (Or f h) (InRight a) ts w n = (begins g f ts ≡ false) × Stops d h a ts w n
  Stops d (Opened cs f) Here ts w n = (w ≡ Unexpected) × (is_here g cs ts ≡ false) × (n ≡ length ts)
  Stops d (Opened cs f) (OpensTooDeep t) ts w n =
      (mid : List T) × (ts ≡ t ∷ mid) × (is_here g cs ts ≡ true) × (nat_lt d most_nested ≡ false) × (w ≡ TooDeep) × (n ≡ length ts)
  Stops d (Opened cs f) (Under t a) ts w n =
      (mid : List T) × (ts ≡ t ∷ mid) × (is_here g cs ts ≡ true) × (nat_lt d most_nested ≡ true) × Stops (d + 1) f a mid w n
  Stops d (Body f) Here ts w n = (w ≡ Unexpected) × (begins g f ts ≡ false) × (n ≡ length ts)
  Stops d (Body f) BodyTooDeep ts w n = (w ≡ TooDeep) × (begins g f ts ≡ true) × (nat_lt d most_nested ≡ false) × (n ≡ length ts)
  Stops d (Body f) (Inside a) ts w n = (begins g f ts ≡ true) × (nat_lt d most_nested ≡ true) × Stops (d + 1) f a ts w n
  Stops d (Extended f h) (InFirst a) ts w n = Stops d f a ts w n
  Stops d (Extended f h) (InSecond t a) ts w n =
      (mid : List T) × Derives d f t ts mid × (is_open_to f t (g.class_at mid) ≡ false) × ((g.may_extend (value f t) && begins g h mid) ≡ true) × Stops d h a mid w n
  Stops _ _ _ _ _ _ = ⊥

  -- a text of a production with these parts, which the next token can't go on with
  abbrev pub IsText : ℕ → S → List T → Parts T A → List T → Type 0
  IsText d s ts v rest =
      (t : Tree T) × Derives d (Rule s) t ts rest × (value (Rule s) t ≡ v)
      × (is_open_to (Rule s) t (g.class_at rest) ≡ false)

  -- a reading by a production stops
  abbrev pub StopsAt : ℕ → S → List T → Cause → ℕ → Type 0
  StopsAt d s ts w n = (p : Partial T) × Stops d (Rule s) p ts w n
