-- The code's side: how tokens are read by a grammar, from left to right.
use Rattle.std.specs.Prelude.{◌+◌, ◌*◌, ◌&&◌, ◌∷◌, [], ℕ, zero, suc, List, length, nat_lt, if◌then◌else◌}
use Rattle.grammar_forms.specs.Forms.{Form, Empty, OneOf, Rule, Then, Nearest, Or, Opened, Body, Extended, Parts, NoPart, One, Two, First, Second, Made, Grammar, one_of, most_nested, begins}
use Rattle.grammar_forms.specs.Derives.{Cause, Unexpected, TooDeep}

-- what a reading gives: the parts and the tokens after them; or why it stops, with how many tokens left.
-- `Spent` stands where the fuel is gone, which a sound table never uses up.
pub data Reading (T A : Type 0) : Type 0 where
  Read : Parts T A → List T → Reading T A
  Stop : Cause → ℕ → Reading T A
  Spent : Reading T A

abbrev pub and_then : {T A : Type 0} → Reading T A → (Parts T A → List T → Reading T A) → Reading T A
and_then (Read v ts) f = f v ts
and_then (Stop w n) f = Stop w n
and_then Spent f = Spent

abbrev pub with_value : {T A : Type 0} → (Parts T A → Parts T A) → Reading T A → Reading T A
with_value f (Read v ts) = Read (f v) ts
with_value f (Stop w n) = Stop w n
with_value f Spent = Spent

module _ {C S T A : Type 0} (g : Grammar C S T A) where
  abbrev pub token : List C → List T → Reading T A
  token cs [] = Stop Unexpected 0
  token cs (t ∷ ts) = if one_of g.same cs (g.class_at (t ∷ ts)) then Read (One t) ts else Stop Unexpected (length (t ∷ ts))

  abbrev pub finish : S → Reading T A → Reading T A
  finish s a = with_value (λ v. Made (g.make s v)) a

  -- a form from left to right, where `rule` reads the productions
  abbrev pub read_form : (S → ℕ → List T → Reading T A) → ℕ → Form C S → List T → Reading T A
  read_form rule d Empty ts = Read NoPart ts
  read_form rule d (OneOf cs) ts = token cs ts
  read_form rule d (Rule s) ts = rule s d ts
  read_form rule d (Then f h) ts = and_then (read_form rule d f ts) (λ v mid. with_value (Two v) (read_form rule d h mid))
  read_form rule d (Nearest f h) ts = and_then (read_form rule d f ts) (λ v mid. with_value (Two v) (read_form rule d h mid))
  read_form rule d (Or f h) ts = if begins g f ts then with_value First (read_form rule d f ts) else with_value Second (read_form rule d h ts)
  read_form rule d (Opened cs f) ts =
      and_then (token cs ts) (λ v mid. if nat_lt d most_nested then with_value (Two v) (read_form rule (d + 1) f mid) else Stop TooDeep (length ts))
  read_form rule d (Body f) ts =
      if begins g f ts then (if nat_lt d most_nested then read_form rule (d + 1) f ts else Stop TooDeep (length ts)) else Stop Unexpected (length ts)
  read_form rule d (Extended f h) ts =
      and_then (read_form rule d f ts)
      (λ v mid. if g.may_extend v && begins g h mid then with_value (λ w. First (Two v w)) (read_form rule d h mid) else Read (Second v) mid)

  unfoldable pub fueled : ℕ → S → ℕ → List T → Reading T A
  fueled zero s d ts = Spent
  fueled (suc k) s d ts = finish s (read_form (fueled k) d (g.rule s) ts)

  -- a production, at a depth of nesting
  unfoldable pub read_rule : S → ℕ → List T → Reading T A
  read_rule s d ts = fueled (suc (1000 * length ts + g.rank s)) s d ts
