-- What the grammar says of a text is what its reading gives.
use Rattle.std.proofs.Common.{◌≡◌, ◌⊎◌, inl, inr, ◌+◌, ◌∷◌, ◌++◌, [], List, ℕ, Bool, true, false, ◌&&◌, ◌||◌, refl, ap, sym, ◌∙◌, subst}
use Rattle.std.specs.Prelude.{if◌then◌else◌}
use Rattle.grammar_forms.specs.Forms.{Form, Empty, OneOf, Rule, Then, Nearest, Or, Opened, Body, Extended, NoPart}
use Rattle.grammar_forms.specs.Forms.{Grammar, one_of, null, firsts, mores, begins, is_here}
use Rattle.grammar_forms.specs.Sound.{apart, within, decided, is_sound_rule}
use Rattle.grammar_forms.specs.inner.Reading.{Read, Stop, read_form, read_rule}
use Rattle.grammar_forms.specs.Derives.{Tree, Bare, Leaf, Node, Both, OnLeft, OnRight, Nested, Partial, Here, OpensTooDeep, BodyTooDeep, Inside, InFirst}
use Rattle.grammar_forms.specs.Derives.{InSecond, InLeft, InRight, Under, Cause, is_bare, value, is_open_to, Derives, Stops}
use Rattle.grammar_forms.proofs.Law.{both, neither, not_both, no_or, tested, read_rule-is, token_again, token_not, bare_same}

-- Sets of classes.

or_true : (a b : Bool) → (a || b) ≡ true → (a ≡ true) ⊎ (b ≡ true)
or_true true b e = inl refl
or_true false b e = inr e

true_or : (a b : Bool) → (a ≡ true) ⊎ (b ≡ true) → (a || b) ≡ true
true_or true b h = refl
true_or false b (inl e) = absurd (cc)
true_or false b (inr e) = e

not_true : (b : Bool) → (b ≡ true → ⊥) → b ≡ false
not_true true h = absurd (h refl)
not_true false h = refl

nots : (b : Bool) → (if◌then◌else◌ {A = Bool} b false true) ≡ true → b ≡ false
nots true e = absurd (cc)
nots false e = refl

pub one_more : {C : Type 0} (same : C → C → Bool) (k : C) (ks : List C) (c : C) → one_of same (k ∷ ks) c ≡ (same c k || one_of same ks c)
one_more same k [] c = or_nil (same c k)
  where
    or_nil : (b : Bool) → b ≡ (b || false)
    or_nil true = refl
    or_nil false = refl
one_more same k (l ∷ ks) c = refl

one_append : {C : Type 0} (same : C → C → Bool) (xs ys : List C) (c : C) → one_of same (xs ++ ys) c ≡ (one_of same xs c || one_of same ys c)
one_append same [] ys c = refl
one_append same (x ∷ xs) ys c =
    one_more same x (xs ++ ys) c ∙ ap (λ b. same c x || b) (one_append same xs ys c)
    ∙ sym (or_assoc (same c x) (one_of same xs c) (one_of same ys c)) ∙ ap (λ b. b || one_of same ys c) (sym (one_more same x xs c))
  where
    or_assoc : (a b d : Bool) → ((a || b) || d) ≡ (a || (b || d))
    or_assoc true b d = refl
    or_assoc false b d = refl

module _ {C S T A : Type 0} (g : Grammar C S T A) (same_is : (a b : C) → g.same a b ≡ true → a ≡ b) where
  in_within : (xs ys : List C) (c : C) → within g xs ys ≡ true → one_of g.same xs c ≡ true → one_of g.same ys c ≡ true
  in_within [] ys c w e = absurd (cc)
  in_within (x ∷ xs) ys c w e =
      let b = both (one_of g.same ys x) _ w in
      elim (or_true (g.same c x) (one_of g.same xs c) (sym (one_more g.same x xs c) ∙ e)) [
        | inl i ↦ subst (λ z. one_of g.same ys z ≡ true) (sym (same_is c x i)) b.0
        | inr i ↦ in_within xs ys c b.1 i
      ]

  not_in_apart : (xs ys : List C) (c : C) → apart g xs ys ≡ true → one_of g.same xs c ≡ true → one_of g.same ys c ≡ false
  not_in_apart [] ys c w e = absurd (cc)
  not_in_apart (x ∷ xs) ys c w e =
      let b = both (if◌then◌else◌ {A = Bool} (one_of g.same ys x) false true) _ w in
      elim (or_true (g.same c x) (one_of g.same xs c) (sym (one_more g.same x xs c) ∙ e)) [
        | inl i ↦ subst (λ z. one_of g.same ys z ≡ false) (sym (same_is c x i)) (nots _ b.0)
        | inr i ↦ not_in_apart xs ys c b.1 i
      ]

  in_first : (b : Bool) (xs ys : List C) (c : C) → one_of g.same xs c ≡ true → one_of g.same (if◌then◌else◌ {A = List C} b (xs ++ ys) xs) c ≡ true
  in_first true xs ys c e = one_append g.same xs ys c ∙ true_or _ _ (inl e)
  in_first false xs ys c e = e

  in_second : (b : Bool) (xs ys : List C) (c : C) → b ≡ true → one_of g.same ys c ≡ true → one_of g.same (if◌then◌else◌ {A = List C} b (xs ++ ys) xs) c ≡ true
  in_second true xs ys c n e = one_append g.same xs ys c ∙ true_or _ _ (inr e)
  in_second false xs ys c n e = absurd (cc)

  out_second : (b : Bool) (xs ys : List C) (c : C) → one_of g.same (if◌then◌else◌ {A = List C} b (ys ++ xs) ys) c ≡ false
      → (one_of g.same ys c ≡ false) × (b ≡ true → one_of g.same xs c ≡ false)
  out_second true xs ys c e = let p = neither _ _ (sym (one_append g.same ys xs c) ∙ e) in (p.0, λ _. p.1)
  out_second false xs ys c e = (e, λ n. absurd (cc))

  module _ (sound : (s : S) → is_sound_rule g s ≡ true) where
    -- A tree with tokens begins with what begins its form.
    abbrev Starts : Form C S → Tree T → List T → Type 0
    Starts f t ts = ((is_bare t ≡ true) × (null g f ≡ true)) ⊎ ((is_bare t ≡ false) × (begins g f ts ≡ true))

    two_start : (f k : Form C S) (a c : Tree T) (ts mid : List T) → (is_bare a ≡ true → ts ≡ mid) → Starts f a ts → Starts k c mid
        → ((is_bare a && is_bare c ≡ true) × (null g f && null g k ≡ true))
        ⊎ ((is_bare a && is_bare c ≡ false) × (one_of g.same (if◌then◌else◌ {A = List C} (null g f) (firsts g f ++ firsts g k) (firsts g f)) (g.class_at ts) ≡ true))
    two_start f k a c ts mid s (inr x) y = inr (rw x.0 refl, in_first (null g f) (firsts g f) (firsts g k) _ x.1)
    two_start f k a c ts mid s (inl x) (inl y) = inl (rw (x.0, y.0) refl, rw (x.1, y.1) refl)
    two_start f k a c ts mid s (inl x) (inr y) =
        inr (rw (x.0, y.0) refl, in_second (null g f) (firsts g f) (firsts g k) _ x.1 (rw (s x.0) y.1))

    starts : (f : Form C S) (t : Tree T) (d : ℕ) (ts rest : List T) → Derives g d f t ts rest → Starts f t ts
    starts Empty Bare d ts rest h = inl (refl, refl)
    starts (OneOf cs) (Leaf t) d ts rest h = inr (refl, here cs ts h.1)
      where
        here : (cs : List C) (ts : List T) → is_here g cs ts ≡ true → begins g (OneOf cs) ts ≡ true
        here cs [] e = absurd (cc)
        here cs (u ∷ us) e = e
    starts (Rule s) (Node a) d ts rest h =
        let p = tested g sound s in
        elim (starts (g.rule s) a d ts rest h) [
          | inl i ↦ inl (i.0, sym p.null ∙ i.1)
          | inr i ↦ inr (i.0, in_within (firsts g (g.rule s)) (g.first s) _ p.first i.1)
        ]
    starts (Then f k) (Both a c) d ts rest h = two_start f k a c ts h.0 (bare_same g sound f a d ts h.0 h.1) (starts f a d ts h.0 h.1) (starts k c d h.0 rest h.2)
    starts (Nearest f k) (Both a c) d ts rest h = two_start f k a c ts h.0 (bare_same g sound f a d ts h.0 h.1) (starts f a d ts h.0 h.1) (starts k c d h.0 rest h.2)
    starts (Or f k) (OnLeft a) d ts rest h =
        elim (starts f a d ts rest h) [
          | inl i ↦ inl (i.0, true_or _ _ (inl i.1))
          | inr i ↦ inr (i.0, one_append g.same (firsts g f) (firsts g k) _ ∙ true_or _ _ (inl i.1))
        ]
    starts (Or f k) (OnRight a) d ts rest h =
        elim (starts k a d ts rest h) [
          | inl i ↦ inl (i.0, true_or _ _ (inr i.1))
          | inr i ↦ inr (i.0, one_append g.same (firsts g f) (firsts g k) _ ∙ true_or _ _ (inr i.1))
        ]
    starts (Opened cs f) (Nested t a) d ts rest h = inr (refl, here cs ts h.2)
      where
        here : (cs : List C) (ts : List T) → is_here g cs ts ≡ true → begins g (OneOf cs) ts ≡ true
        here cs [] e = absurd (cc)
        here cs (u ∷ us) e = e
    starts (Body f) (Node a) d ts rest h = starts f a (d + 1) ts rest h.1
    starts (Extended f k) (Both a c) d ts rest h =
        elim (two_start f k a c ts h.0 (bare_same g sound f a d ts h.0 h.1) (starts f a d ts h.0 h.1) (starts k c d h.0 rest h.3)) [
          | inl i ↦ inl (i.0, (both (null g f) (null g k) i.1).0)
          | inr i ↦ inr i
        ]
    starts (Extended f k) (OnRight a) d ts rest h =
        elim (starts f a d ts rest h) [
          | inl i ↦ inl i
          | inr i ↦ inr (i.0, in_first (null g f) (firsts g f) (firsts g k) _ i.1)
        ]
    starts _ _ d ts rest h = absurd h

    -- What can't go on after a form can't go on after a tree of it.
    pub closed : (f : Form C S) (t : Tree T) (d : ℕ) (ts rest : List T) (c : C) → Derives g d f t ts rest → one_of g.same (mores g f) c ≡ false → is_open_to g f t c ≡ false
    closed Empty Bare d ts rest c h e = refl
    closed (OneOf cs) (Leaf t) d ts rest c h e = refl
    closed (Rule s) (Node a) d ts rest c h e =
        closed (g.rule s) a d ts rest c h (not_true _ (λ y. let z = in_within (mores g (g.rule s)) (g.more s) c (tested g sound s).more y in absurd (cc)))
    closed (Then f k) (Both a b) d ts rest c h e =
        let o = out_second (null g k) (mores g f) (mores g k) c e in
        no_or _ _ (closed k b d h.0 rest c h.2 o.0) (not_both (is_bare b) _ (λ n. closed f a d ts h.0 c h.1 (o.1 (bare_null k b d h.0 rest (starts k b d h.0 rest h.2) n))))
      where
        bare_null : (k : Form C S) (b : Tree T) (d : ℕ) (mid rest : List T) → Starts k b mid → is_bare b ≡ true → null g k ≡ true
        bare_null k b d mid rest (inl i) n = i.1
        bare_null k b d mid rest (inr i) n = let m = i.0 in absurd (cc)
    closed (Nearest f k) (Both a b) d ts rest c h e =
        let o = out_second (null g k) (mores g f) (mores g k) c e in
        no_or _ _ (closed k b d h.0 rest c h.2 o.0) (not_both (is_bare b) _ (λ n. closed f a d ts h.0 c h.1 (o.1 (bare_null k b d h.0 rest (starts k b d h.0 rest h.2) n))))
      where
        bare_null : (k : Form C S) (b : Tree T) (d : ℕ) (mid rest : List T) → Starts k b mid → is_bare b ≡ true → null g k ≡ true
        bare_null k b d mid rest (inl i) n = i.1
        bare_null k b d mid rest (inr i) n = let m = i.0 in absurd (cc)
    closed (Or f k) (OnLeft a) d ts rest c h e = closed f a d ts rest c h (left_out (null g k) (firsts g f) (mores g f) (mores g k) e)
      where
        left_out : (b : Bool) (xs ys zs : List C) → one_of g.same (if◌then◌else◌ {A = List C} b (xs ++ (ys ++ zs)) (ys ++ zs)) c ≡ false → one_of g.same ys c ≡ false
        left_out true xs ys zs e = (neither _ _ (sym (one_append g.same ys zs c) ∙ (neither _ _ (sym (one_append g.same xs (ys ++ zs) c) ∙ e)).1)).0
        left_out false xs ys zs e = (neither _ _ (sym (one_append g.same ys zs c) ∙ e)).0
    closed (Or f k) (OnRight a) d ts rest c h e =
        let o = right_out (null g k) (firsts g f) (mores g f) (mores g k) e in
        no_or _ _ (closed k a d ts rest c h o.0) (not_both (is_bare a) _ (λ n. o.1 (bare_null k a d ts rest (starts k a d ts rest h) n)))
      where
        right_out : (b : Bool) (xs ys zs : List C) → one_of g.same (if◌then◌else◌ {A = List C} b (xs ++ (ys ++ zs)) (ys ++ zs)) c ≡ false
            → (one_of g.same zs c ≡ false) × (b ≡ true → one_of g.same xs c ≡ false)
        right_out true xs ys zs e =
            let p = neither _ _ (sym (one_append g.same xs (ys ++ zs) c) ∙ e) in
            ((neither _ _ (sym (one_append g.same ys zs c) ∙ p.1)).1, λ _. p.0)
        right_out false xs ys zs e = ((neither _ _ (sym (one_append g.same ys zs c) ∙ e)).1, λ n. absurd (cc))

        bare_null : (k : Form C S) (b : Tree T) (d : ℕ) (mid rest : List T) → Starts k b mid → is_bare b ≡ true → null g k ≡ true
        bare_null k b d mid rest (inl i) n = i.1
        bare_null k b d mid rest (inr i) n = let m = i.0 in absurd (cc)
    closed (Opened cs f) (Nested t a) d ts rest c h e = closed f a (d + 1) h.0 rest c h.4 e
    closed (Body f) (Node a) d ts rest c h e = closed f a (d + 1) ts rest c h.1 e
    closed (Extended f k) (Both a b) d ts rest c h e =
        let o = neither _ _ (sym (one_append g.same (firsts g k) (mores g f ++ mores g k) c) ∙ e) in
        closed k b d h.0 rest c h.3 (neither _ _ (sym (one_append g.same (mores g f) (mores g k) c) ∙ o.1)).1
    closed (Extended f k) (OnRight a) d ts rest c h e =
        let o = neither _ _ (sym (one_append g.same (firsts g k) (mores g f ++ mores g k) c) ∙ e) in
        no_or _ _ (closed f a d ts rest c h (neither _ _ (sym (one_append g.same (mores g f) (mores g k) c) ∙ o.1)).0) (not_both (g.may_extend (value g f a)) _ (λ n. o.0))
    closed _ _ d ts rest c h e = absurd h

    -- the first part of a whole isn't open to what follows
    shut : (f k : Form C S) (a b : Tree T) (d : ℕ) (ts mid rest : List T) → apart g (firsts g k) (mores g f) ≡ true → Derives g d f a ts mid → Derives g d k b mid rest
        → (is_open_to g k b (g.class_at rest) || (is_bare b && is_open_to g f a (g.class_at rest))) ≡ false → is_open_to g f a (g.class_at mid) ≡ false
    shut f k a b d ts mid rest p x y o = by_start (starts k b d mid rest y)
      where
        last : (b : Bool) (z : Bool) → (b && z) ≡ false → b ≡ true → z ≡ false
        last true z e n = e
        last false z e n = absurd (cc)

        by_start : Starts k b mid → is_open_to g f a (g.class_at mid) ≡ false
        by_start (inl i) = subst (λ us. is_open_to g f a (g.class_at us) ≡ false) (sym (bare_same g sound k b d mid rest y i.0)) (last (is_bare b) _ (neither _ _ o).1 i.0)
        by_start (inr i) = closed f a d ts mid (g.class_at mid) x (not_in_apart (firsts g k) (mores g f) _ p i.1)

    -- what isn't empty begins
    begun : (f : Form C S) (a : Tree T) (d : ℕ) (ts rest : List T) → Derives g d f a ts rest → null g f ≡ false → begins g f ts ≡ true
    begun f a d ts rest h n = by_start (starts f a d ts rest h)
      where
        by_start : Starts f a ts → begins g f ts ≡ true
        by_start (inl i) = let m = i.1 in absurd (cc)
        by_start (inr i) = i.1

    again : (f : Form C S) (t : Tree T) (d : ℕ) (ts rest : List T) → decided g f ≡ true → Derives g d f t ts rest → is_open_to g f t (g.class_at rest) ≡ false
        → read_form g (read_rule g) d f ts ≡ Read (value g f t) rest
    again Empty Bare d ts rest k h o = ap (Read NoPart) h
    again (OneOf cs) (Leaf t) d ts rest k h o = token_again g cs t ts rest h.0 h.1
    again (Rule s) (Node a) d ts rest k h o =
        rw (read_rule-is g sound s d ts) (rw (again (g.rule s) a d ts rest (tested g sound s).decided h o) refl)
    again (Then f j) (Both a b) d ts rest k h o =
        let p = both (decided g f) _ k in
        let q = both (decided g j) _ p.1 in
        let x = again f a d ts h.0 p.0 h.1 (shut f j a b d ts h.0 rest q.1 h.1 h.2 o) in
        let y = again j b d h.0 rest q.0 h.2 (neither _ _ o).0 in
        rw x (rw y refl)
    again (Nearest f j) (Both a b) d ts rest k h o =
        let p = both (decided g f) _ k in
        let x = again f a d ts h.0 p.0 h.1 (near h.3) in
        let y = again j b d h.0 rest p.1 h.2 (neither _ _ o).0 in
        rw x (rw y refl)
      where
        last : (b : Bool) (z : Bool) → (b && z) ≡ false → b ≡ true → z ≡ false
        last true z e n = e
        last false z e n = absurd (cc)

        near : ((is_bare b ≡ true) ⊎ (is_open_to g f a (g.class_at h.0) ≡ false)) → is_open_to g f a (g.class_at h.0) ≡ false
        near (inl n) = subst (λ us. is_open_to g f a (g.class_at us) ≡ false) (sym (bare_same g sound j b d h.0 rest h.2 n)) (last (is_bare b) _ (neither _ _ o).1 n)
        near (inr i) = i
    again (Or f j) (OnLeft a) d ts rest k h o =
        let p = both (decided g f) _ k in
        let q = both (decided g j) _ p.1 in
        let r = both (if◌then◌else◌ {A = Bool} (null g f) false true) _ q.1 in
        let x = again f a d ts rest p.0 h o in
        rw (on_left (starts f a d ts rest h) (nots _ r.0)) (rw x refl)
      where
        on_left : Starts f a ts → null g f ≡ false → begins g f ts ≡ true
        on_left (inl i) n = let m = i.1 in absurd (cc)
        on_left (inr i) n = i.1
    again (Or f j) (OnRight a) d ts rest k h o =
        let p = both (decided g f) _ k in
        let q = both (decided g j) _ p.1 in
        let r = both (if◌then◌else◌ {A = Bool} (null g f) false true) _ q.1 in
        let n = neither _ _ o in
        let x = again j a d ts rest q.0 h n.0 in
        rw (on_right (starts j a d ts rest h) r.1 n.1) (rw x refl)
      where
        last : (b : Bool) (z : Bool) → (b && z) ≡ false → b ≡ true → z ≡ false
        last true z e n = e
        last false z e n = absurd (cc)

        on_right : Starts j a ts → apart g (firsts g f) (firsts g j) ≡ true → (is_bare a && one_of g.same (firsts g f) (g.class_at rest)) ≡ false → begins g f ts ≡ false
        on_right (inl i) s e = subst (λ us. begins g f us ≡ false) (sym (bare_same g sound j a d ts rest h i.0)) (last (is_bare a) _ e i.0)
        on_right (inr i) s e = not_true _ (λ y. let z = not_in_apart (firsts g f) (firsts g j) _ s y in let w = i.1 in absurd (cc))
    again (Opened cs f) (Nested t a) d ts rest k h o =
        let x = again f a (d + 1) h.0 rest k h.4 o in
        rw (token_again g cs t ts h.0 h.1 h.2) (rw h.3 (rw x refl))
    again (Body f) (Node a) d ts rest k h o =
        let p = both (decided g f) _ k in
        let x = again f a (d + 1) ts rest p.0 h.1 o in
        rw (begun f a (d + 1) ts rest h.1 (nots _ p.1)) (rw h.0 x)
    again (Extended f j) (Both a b) d ts rest k h o =
        let p = both (decided g f) _ k in
        let q = both (decided g j) _ p.1 in
        let r = both (if◌then◌else◌ {A = Bool} (null g f) false true) _ q.1 in
        let s = both (if◌then◌else◌ {A = Bool} (null g j) false true) _ r.1 in
        let m = begun j b d h.0 rest h.3 (nots _ s.0) in
        let x = again f a d ts h.0 p.0 h.1 (closed f a d ts h.0 _ h.1 (not_in_apart (firsts g j) (mores g f) _ s.1 m)) in
        let y = again j b d h.0 rest q.0 h.3 o in
        rw x (rw h.2 (rw m (rw y refl)))
    again (Extended f j) (OnRight a) d ts rest k h o =
        let p = both (decided g f) _ k in
        let n = neither _ _ o in
        let x = again f a d ts rest p.0 h n.0 in
        rw x (rw n.1 refl)
    again _ _ d ts rest k h o = absurd h

    stop_again : (f : Form C S) (t : Partial T) (d : ℕ) (ts : List T) (w : Cause) (n : ℕ) → decided g f ≡ true → Stops g d f t ts w n → read_form g (read_rule g) d f ts ≡ Stop w n
    stop_again (OneOf cs) Here d ts w n k h = rw (h.0, h.2) (token_not g cs ts h.1)
    stop_again (Rule s) (Inside a) d ts w n k h =
        rw (read_rule-is g sound s d ts) (rw (stop_again (g.rule s) a d ts w n (tested g sound s).decided h) refl)
    stop_again (Then f j) (InFirst a) d ts w n k h = rw (stop_again f a d ts w n (both (decided g f) _ k).0 h) refl
    stop_again (Then f j) (InSecond t a) d ts w n k h =
        let p = both (decided g f) _ k in
        let q = both (decided g j) _ p.1 in
        rw (again f t d ts h.0 p.0 h.1 h.2) (rw (stop_again j a d h.0 w n q.0 h.3) refl)
    stop_again (Nearest f j) (InFirst a) d ts w n k h = rw (stop_again f a d ts w n (both (decided g f) _ k).0 h) refl
    stop_again (Nearest f j) (InSecond t a) d ts w n k h =
        let p = both (decided g f) _ k in
        rw (again f t d ts h.0 p.0 h.1 h.2) (rw (stop_again j a d h.0 w n p.1 h.3) refl)
    stop_again (Or f j) (InLeft a) d ts w n k h = rw h.0 (rw (stop_again f a d ts w n (both (decided g f) _ k).0 h.1) refl)
    stop_again (Or f j) (InRight a) d ts w n k h =
        let p = both (decided g f) _ k in
        rw h.0 (rw (stop_again j a d ts w n (both (decided g j) _ p.1).0 h.1) refl)
    stop_again (Opened cs f) Here d ts w n k h = rw (token_not g cs ts h.1) (rw (h.0, h.2) refl)
    stop_again (Opened cs f) (OpensTooDeep t) d ts w n k h = rw (token_again g cs t ts h.0 h.1 h.2) (rw h.3 (rw (h.4, h.5) refl))
    stop_again (Opened cs f) (Under t a) d ts w n k h =
        rw (token_again g cs t ts h.0 h.1 h.2) (rw h.3 (rw (stop_again f a (d + 1) h.0 w n k h.4) refl))
    stop_again (Body f) Here d ts w n k h = rw (h.0, h.1, h.2) refl
    stop_again (Body f) BodyTooDeep d ts w n k h = rw (h.0, h.1, h.2, h.3) refl
    stop_again (Body f) (Inside a) d ts w n k h = rw (h.0, h.1) (stop_again f a (d + 1) ts w n (both (decided g f) _ k).0 h.2)
    stop_again (Extended f j) (InFirst a) d ts w n k h = rw (stop_again f a d ts w n (both (decided g f) _ k).0 h) refl
    stop_again (Extended f j) (InSecond t a) d ts w n k h =
        let p = both (decided g f) _ k in
        let q = both (decided g j) _ p.1 in
        rw (again f t d ts h.0 p.0 h.1 h.2) (rw h.3 (rw (stop_again j a d h.0 w n q.0 h.4) refl))
    stop_again _ _ d ts w n k h = absurd h

    pub derived-is_read : (s : S) (t : Tree T) (d : ℕ) (ts rest : List T) → Derives g d (Rule s) t ts rest → is_open_to g (Rule s) t (g.class_at rest) ≡ false
        → read_rule g s d ts ≡ Read (value g (Rule s) t) rest
    derived-is_read s t d ts rest h o = again (Rule s) t d ts rest refl h o

    pub stop-is_read : (s : S) (t : Partial T) (d : ℕ) (ts : List T) (w : Cause) (n : ℕ) → Stops g d (Rule s) t ts w n → read_rule g s d ts ≡ Stop w n
    stop-is_read s t d ts w n h = stop_again (Rule s) t d ts w n refl h
