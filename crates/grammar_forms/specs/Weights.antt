-- Weights of values, counted in tokens.
--
-- OfEach w f n K   K holds of the parts of each text of the form `f`, at `n` and what its parts count: a token
--                  counts one, a value of a production some number that is at least its weight by `w`
-- IsLight g w      what a production makes of its parts weighs at most what they count
use Rattle.std.specs.Prelude.{◌+◌, ◌≤◌, ℕ}
use Rattle.grammar_forms.specs.Forms.{Form, Empty, OneOf, Rule, Then, Nearest, Or, Opened, Body, Extended, Parts, NoPart, One, Two, First, Second, Made, Grammar}

module _ {C S T A : Type 0} (w : S → A → ℕ) where
  abbrev pub OfEach : Form C S → ℕ → (Parts T A → ℕ → Type 0) → Type 0
  OfEach Empty n K = K NoPart n
  OfEach (OneOf cs) n K = (t : T) → K (One t) (n + 1)
  OfEach (Rule s) n K = (a : A) (m : ℕ) → w s a ≤ m → K (Made a) (n + m)
  OfEach (Then f h) n K = OfEach f n (λ u m. OfEach h m (λ v k. K (Two u v) k))
  OfEach (Nearest f h) n K = OfEach f n (λ u m. OfEach h m (λ v k. K (Two u v) k))
  OfEach (Or f h) n K = OfEach f n (λ u m. K (First u) m) × OfEach h n (λ v m. K (Second v) m)
  OfEach (Opened cs f) n K = (t : T) → OfEach f (n + 1) (λ u m. K (Two (One t) u) m)
  OfEach (Body f) n K = OfEach f n K
  OfEach (Extended f h) n K =
      OfEach f n (λ u m. OfEach h m (λ v k. K (First (Two u v)) k)) × OfEach f n (λ u m. K (Second u) m)

abbrev pub IsLight : {C S T A : Type 0} → Grammar C S T A → (S → A → ℕ) → Type 0
IsLight {S = S} g w = (s : S) → OfEach w (g.rule s) 0 (λ v n. w s (g.make s v) ≤ n)
