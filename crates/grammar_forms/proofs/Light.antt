-- A value weighs at most the tokens that it is made of.
use Rattle.std.proofs.Common.{◌≡◌, ◌+◌, ◌≤◌, List, ℕ, ap, subst, length, arith}
use Rattle.grammar_forms.specs.Forms.{Form, Empty, OneOf, Rule, Then, Nearest, Or, Opened, Body, Extended, Parts, One, Two, First, Second, Made, Grammar}
use Rattle.grammar_forms.specs.Derives.{Tree, Bare, Leaf, Node, Both, OnLeft, OnRight, Nested, value, Derives, IsText}
use Rattle.grammar_forms.specs.Weights.{OfEach, IsLight}

same_made : {T A : Type 0} (a b : A) → ◌≡◌ {A = Parts T A} (Made a) (Made b) → a ≡ b
same_made a b e = cc

module _ {C S T A : Type 0} (g : Grammar C S T A) (w : S → A → ℕ) (light : IsLight g w) where
  -- what is said of each holds of the value that derives, at the number of its tokens
  of_tree : (f : Form C S) (t : Tree T) (d : ℕ) (ts rest : List T) (n : ℕ) (K : Parts T A → ℕ → Type 0) → Derives g d f t ts rest → OfEach w f n K
      → (m : ℕ) × K (value g f t) m × (n + length ts ≡ m + length rest)
  of_tree Empty Bare d ts rest n K h k = (n, k, ap (λ (us : List T). n + length us) h)
  of_tree (OneOf cs) (Leaf t) d ts rest n K h k = (n + 1, k t, omega (arith, ap length h.0))
  of_tree (Rule s) (Node a) d ts rest n K h k =
      let x = of_tree (g.rule s) a d ts rest 0 (λ v m. w s (g.make s v) ≤ m) h (light s) in
      (n + x.0, k (g.make s (value g (g.rule s) a)) x.0 x.1, omega (arith, x.2))
  of_tree (Then f j) (Both a b) d ts rest n K h k =
      let x = of_tree f a d ts h.0 n (λ u m. OfEach w j m (λ v i. K (Two u v) i)) h.1 k in
      let y = of_tree j b d h.0 rest x.0 (λ v i. K (Two (value g f a) v) i) h.2 x.1 in
      (y.0, y.1, omega (arith, x.2, y.2))
  of_tree (Nearest f j) (Both a b) d ts rest n K h k =
      let x = of_tree f a d ts h.0 n (λ u m. OfEach w j m (λ v i. K (Two u v) i)) h.1 k in
      let y = of_tree j b d h.0 rest x.0 (λ v i. K (Two (value g f a) v) i) h.2 x.1 in
      (y.0, y.1, omega (arith, x.2, y.2))
  of_tree (Or f j) (OnLeft a) d ts rest n K h k = of_tree f a d ts rest n (λ u m. K (First u) m) h k.0
  of_tree (Or f j) (OnRight a) d ts rest n K h k = of_tree j a d ts rest n (λ v m. K (Second v) m) h k.1
  of_tree (Opened cs f) (Nested t a) d ts rest n K h k =
      let x = of_tree f a (d + 1) h.0 rest (n + 1) (λ u m. K (Two (One t) u) m) h.4 (k t) in
      (x.0, x.1, omega (arith, ap length h.1, x.2))
  of_tree (Body f) (Node a) d ts rest n K h k = of_tree f a (d + 1) ts rest n K h.1 k
  of_tree (Extended f j) (Both a b) d ts rest n K h k =
      let x = of_tree f a d ts h.0 n (λ u m. OfEach w j m (λ v i. K (First (Two u v)) i)) h.1 k.0 in
      let y = of_tree j b d h.0 rest x.0 (λ v i. K (First (Two (value g f a) v)) i) h.3 x.1 in
      (y.0, y.1, omega (arith, x.2, y.2))
  of_tree (Extended f j) (OnRight a) d ts rest n K h k = of_tree f a d ts rest n (λ u m. K (Second u) m) h k.1
  of_tree _ _ d ts rest n K h k = absurd h

  pub text_weighs : (s : S) (d : ℕ) (ts : List T) (a : A) (rest : List T) → IsText g d s ts (Made a) rest → w s a + length rest ≤ length ts
  text_weighs s d ts a rest h = step h.0 h.1 h.2
    where
      step : (t : Tree T) → Derives g d (Rule s) t ts rest → value g (Rule s) t ≡ Made a → w s a + length rest ≤ length ts
      step (Node t) h e =
          let x = of_tree (g.rule s) t d ts rest 0 (λ v m. w s (g.make s v) ≤ m) h (light s) in
          let y = subst (λ (b : A). w s b ≤ x.0) (same_made (g.make s (value g (g.rule s) t)) a e) x.1 in
          omega (arith, x.2, y)
      step _ h e = absurd h
