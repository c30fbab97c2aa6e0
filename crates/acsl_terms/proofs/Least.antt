-- The least of breaches is the first of them.
use Rattle.std.proofs.Common.{◌≡◌, ◌∙◌, ◌⊎◌, inl, inr, ℕ, Bool, true, false, cond, Option, Some, None, refl, subst, arith, nat_lt, ◌==◌, ◌||◌, ◌&&◌}
use Rattle.std.proofs.lemmas.Bool.Decides.{nat_tests}
use Rattle.acsl_terms.specs.declared.breach.NoteBreach.{NoteBreach}
use Rattle.acsl_terms.specs.Breaches.{Breaches, none, just, both, is_before, number, least}
use Rattle.acsl_terms.specs.First.{Has, IsFirst, LeastIsFirst}

-- by places and numbers
before : ℕ → ℕ → ℕ → ℕ → Bool
before p m q n = nat_lt p q || p == q && nat_lt m n

before-trans : (p m q n r o : ℕ) → before p m q n ≡ false → before q n r o ≡ false → before p m r o ≡ false
unfolding before
before-trans p m q n r o h k = grind (arith, nat_tests)

before-self : (p m : ℕ) → before p m p m ≡ false
unfolding before
before-self p m = grind (arith, nat_tests)

before-not : (p m q n : ℕ) → before p m q n ≡ true → before q n p m ≡ false
unfolding before
before-not p m q n h = grind (arith, nat_tests)

trans : (a b c : NoteBreach) → is_before a b ≡ false → is_before b c ≡ false → is_before a c ≡ false
unfolding before
trans a b c = before-trans a.at (number a.fault) b.at (number b.fault) c.at (number c.fault)

self : (a : NoteBreach) → is_before a a ≡ false
unfolding before
self a = before-self a.at (number a.fault)

turned : (a b : NoteBreach) → is_before a b ≡ true → is_before b a ≡ false
unfolding before
turned a b = before-not a.at (number a.fault) b.at (number b.fault)

-- the first of a breach and of others
abbrev From : Option NoteBreach → Breaches → Option NoteBreach → Type 0
From None all None = (b : NoteBreach) → Has all b → ⊥
From None all (Some a) = Has all a × ((b : NoteBreach) → Has all b → is_before b a ≡ false)
From (Some f) all None = ⊥
From (Some f) all (Some a) = ((f ≡ a) ⊎ Has all a) × (is_before f a ≡ false) × ((b : NoteBreach) → Has all b → is_before b a ≡ false)

one_more : (f b : NoteBreach) (t : Bool) → is_before b f ≡ t → From (Some f) (just b) (cond t (Some b) (Some f))
one_more f b true is = (inr refl, turned b f is, λ c e. subst (λ (x : NoteBreach). is_before x b ≡ false) e (self b))
one_more f b false is = (inl refl, self f, λ c e. subst (λ (x : NoteBreach). is_before x f ≡ false) e is)

chain : (f m r : Option NoteBreach) (x y : Breaches) → From f x m → From m y r → From f (both x y) r
chain None None None x y p q = λ b h. elim h [ inl u ↦ p b u | inr u ↦ q b u ]
chain None None (Some a) x y p q = (inr q.0, λ b h. elim h [ inl u ↦ absurd (p b u) | inr u ↦ q.1 b u ])
chain None (Some c) None x y p q = absurd q
chain None (Some c) (Some a) x y p q =
    (elim q.0 [ inl e ↦ inl (subst (λ (z : NoteBreach). Has x z) e p.0) | inr u ↦ inr u ], λ b h. elim h [ inl u ↦ trans b c a (p.1 b u) q.1 | inr u ↦ q.2 b u ])
chain (Some f) None r x y p q = absurd p
chain (Some f) (Some c) None x y p q = absurd q
chain (Some f) (Some c) (Some a) x y p q = (
  elim q.0 [ inl e ↦ elim p.0 [ inl d ↦ inl (d ∙ e) | inr u ↦ inr (inl (subst (λ (z : NoteBreach). Has x z) e u)) ] | inr u ↦ inr (inr u) ],
  trans f c a p.1 q.1,
  λ b h. elim h [ inl u ↦ trans b c a (p.2 b u) q.1 | inr u ↦ q.2 b u ],
)

from_all : (all : Breaches) (f : Option NoteBreach) → From f all (least f all)
from_all none None = λ b h. h
from_all none (Some f) = (inl refl, self f, λ b h. absurd h)
from_all (just b) None = (refl, λ c e. subst (λ (x : NoteBreach). is_before x b ≡ false) e (self b))
from_all (just b) (Some f) = one_more f b (is_before b f) refl
from_all (both x y) f = chain f (least f x) (least (least f x) y) x y (from_all x f) (from_all y (least f x))

to_first : (all : Breaches) (r : Option NoteBreach) → From None all r → IsFirst all r
to_first all None h = h
to_first all (Some a) h = h

pub least_is_first : LeastIsFirst
least_is_first all = to_first all (least None all) (from_all all None)
