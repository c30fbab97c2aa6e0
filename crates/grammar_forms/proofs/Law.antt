-- The law between a grammar and its reading.
use Rattle.std.proofs.Common.{◌≡◌, ◌⊎◌, inl, inr, ◌+◌, ◌*◌, ◌<◌, ◌≤◌, ◌∷◌, [], List, ℕ, zero, suc, Bool, true, false, ◌&&◌, ◌||◌, refl, ap, sym}
use Rattle.std.proofs.Common.{◌∙◌, subst, length, arith, le_refl, ltb-true}
use Rattle.std.specs.Prelude.{if◌then◌else◌, nat_lt}
use Rattle.grammar_forms.specs.Forms.{Form, Empty, OneOf, Rule, Then, Nearest, Or, Opened, Body, Extended, Parts, NoPart, One, Two, First, Second, Made}
use Rattle.grammar_forms.specs.Forms.{Grammar, one_of, most_nested, null, firsts, mores, begins, is_here}
use Rattle.grammar_forms.specs.Sound.{within, low, decided, same_bool, is_sound_rule}
use Rattle.grammar_forms.specs.inner.Reading.{Reading, Read, Stop, Spent, and_then, with_value, token, finish, read_form, fueled, read_rule}
use Rattle.grammar_forms.specs.Derives.{Tree, Bare, Leaf, Node, Both, OnLeft, OnRight, Nested, Partial, Here, OpensTooDeep, BodyTooDeep, Inside, InFirst}
use Rattle.grammar_forms.specs.Derives.{InSecond, InLeft, InRight, Under, Cause, Unexpected, TooDeep, is_bare, value, is_open_to, Derives, Stops}

-- Answers.

then_read : {T A : Type 0} (a : Reading T A) (k : Parts T A → List T → Reading T A) (v : Parts T A) (rest : List T) → and_then a k ≡ Read v rest
    → (w : Parts T A) × (mid : List T) × (a ≡ Read w mid) × (k w mid ≡ Read v rest)
then_read (Read w mid) k v rest e = (w, mid, refl, e)
then_read (Stop w n) k v rest e = absurd (cc)
then_read Spent k v rest e = absurd (cc)

value_read : {T A : Type 0} (f : Parts T A → Parts T A) (a : Reading T A) (v : Parts T A) (rest : List T) → with_value f a ≡ Read v rest
    → (w : Parts T A) × (a ≡ Read w rest) × (f w ≡ v)
value_read f (Read w mid) v rest e =
    let p : mid ≡ rest = cc in
    let q : f w ≡ v = cc in (w, ap (Read w) p, q)
value_read f (Stop w n) v rest e = absurd (cc)
value_read f Spent v rest e = absurd (cc)

then_stop : {T A : Type 0} (a : Reading T A) (k : Parts T A → List T → Reading T A) (w : Cause) (n : ℕ) → and_then a k ≡ Stop w n
    → (a ≡ Stop w n) ⊎ ((v : Parts T A) × (mid : List T) × (a ≡ Read v mid) × (k v mid ≡ Stop w n))
then_stop (Read v mid) k w n e = inr (v, mid, refl, e)
then_stop (Stop u m) k w n e = inl e
then_stop Spent k w n e = absurd (cc)

value_stop : {T A : Type 0} (f : Parts T A → Parts T A) (a : Reading T A) (w : Cause) (n : ℕ) → with_value f a ≡ Stop w n → a ≡ Stop w n
value_stop f (Read v mid) w n e = absurd (cc)
value_stop f (Stop u m) w n e = e
value_stop f Spent w n e = absurd (cc)

then_agree : {T A : Type 0} (a b : Reading T A) (k l : Parts T A → List T → Reading T A) → a ≡ b
    → ((v : Parts T A) (mid : List T) → a ≡ Read v mid → k v mid ≡ l v mid) → and_then a k ≡ and_then b l
then_agree (Read v mid) b k l e h = h v mid refl ∙ ap (λ x. and_then x l) e
then_agree (Stop w n) b k l e h = ap (λ x. and_then x l) e
then_agree Spent b k l e h = ap (λ x. and_then x l) e

-- Tests.

if_either : {X : Type 0} (b : Bool) (x y r : X) → if◌then◌else◌ {A = X} b x y ≡ r → ((b ≡ true) × (x ≡ r)) ⊎ ((b ≡ false) × (y ≡ r))
if_either true x y r e = inl (refl, e)
if_either false x y r e = inr (refl, e)

pub both : (a b : Bool) → (a && b) ≡ true → (a ≡ true) × (b ≡ true)
both true b e = (refl, e)
both false b e = absurd (cc)

pub not_both : (a b : Bool) → (a ≡ true → b ≡ false) → (a && b) ≡ false
not_both true b h = h refl
not_both false b h = refl

pub neither : (a b : Bool) → (a || b) ≡ false → (a ≡ false) × (b ≡ false)
neither true b e = absurd (cc)
neither false b e = (refl, e)

pub no_or : (a b : Bool) → a ≡ false → b ≡ false → (a || b) ≡ false
no_or true b e f = absurd (cc)
no_or false b e f = f

same_bool-is : (a b : Bool) → same_bool a b ≡ true → a ≡ b
same_bool-is true b e = sym e
same_bool-is false true e = absurd (cc)
same_bool-is false false e = refl

abbrev pays : Bool → ℕ
pays true = 0
pays false = 1

pays_and : (a b : Bool) → pays (a && b) ≤ pays a + pays b
pays_and true b = omega arith
pays_and false b = omega arith

pays_or : (a b : Bool) → (pays (a || b) ≤ pays a) × (pays (a || b) ≤ pays b)
pays_or true true = (omega arith, omega arith)
pays_or true false = (omega arith, omega arith)
pays_or false true = (omega arith, omega arith)
pays_or false false = (omega arith, omega arith)

ranked : (b : Bool) (m l r : ℕ) → m + pays b ≤ l → r ≤ 1000 → (1000 * m + if◌then◌else◌ {A = ℕ} b r 1000 ≤ 1000 * l + r) × (if◌then◌else◌ {A = ℕ} b r 1000 ≤ 1000)
ranked true m l r h i = (omega arith, i)
ranked false m l r h i = (omega arith, omega arith)

module _ {C S T A : Type 0} (g : Grammar C S T A) where
  -- one token

  token_read : (cs : List C) (ts : List T) (v : Parts T A) (rest : List T) → token g cs ts ≡ Read v rest → (t : T) × (ts ≡ t ∷ rest) × (is_here g cs ts ≡ true) × (One t ≡ v)
  token_read cs [] v rest e = absurd (cc)
  token_read cs (t ∷ ts) v rest e =
      elim (if_either (one_of g.same cs (g.class_at (t ∷ ts))) (Read (One t) ts) (Stop Unexpected (length (t ∷ ts))) (Read v rest) e) [
        | inl h ↦ (let f = h.1 in
            let p : ts ≡ rest = cc in
            let q : One t ≡ v = cc in (t, ap (λ us. t ∷ us) p, h.0, q))
        | inr h ↦ (let f = h.1 in absurd (cc))
      ]

  token_stop : (cs : List C) (ts : List T) (w : Cause) (n : ℕ) → token g cs ts ≡ Stop w n → (w ≡ Unexpected) × (is_here g cs ts ≡ false) × (n ≡ length ts)
  token_stop cs [] w n e =
      let p : w ≡ Unexpected = cc in
      let q : n ≡ 0 = cc in (p, refl, q)
  token_stop cs (t ∷ ts) w n e =
      elim (if_either (one_of g.same cs (g.class_at (t ∷ ts))) (Read (One t) ts) (Stop Unexpected (length (t ∷ ts))) (Stop w n) e) [
        | inl h ↦ (let f = h.1 in absurd (cc))
        | inr h ↦ (let f = h.1 in
            let p : w ≡ Unexpected = cc in
            let q : n ≡ length (t ∷ ts) = cc in (p, h.0, q))
      ]

  pub token_again : (cs : List C) (t : T) (ts rest : List T) → ts ≡ t ∷ rest → is_here g cs ts ≡ true → token g cs ts ≡ Read (One t) rest
  token_again cs t [] rest e h = absurd (cc)
  token_again cs t (u ∷ us) rest e h =
      let p : u ≡ t = cc in
      let q : us ≡ rest = cc in rw h (rw (p, q) refl)

  pub token_not : (cs : List C) (ts : List T) → is_here g cs ts ≡ false → token g cs ts ≡ Stop Unexpected (length ts)
  token_not cs [] h = refl
  token_not cs (t ∷ ts) h = rw h refl

  abbrev deep_body : (S → ℕ → List T → Reading T A) → ℕ → Form C S → List T → Reading T A
  deep_body P d f ts = if◌then◌else◌ {A = Reading T A} (nat_lt d most_nested) (read_form g P (d + 1) f ts) (Stop TooDeep (length ts))

  -- A reading leaves no more than it had, and fewer if the form isn't empty.

  abbrev Short : (S → ℕ → List T → Reading T A) → Type 0
  Short P = (s : S) (d : ℕ) (ts : List T) (v : Parts T A) (rest : List T) → P s d ts ≡ Read v rest → length rest + pays (g.nullable s) ≤ length ts

  form_short : (P : S → ℕ → List T → Reading T A) → Short P → (f : Form C S) (d : ℕ) (ts : List T) (v : Parts T A) (rest : List T) → read_form g P d f ts ≡ Read v rest
      → length rest + pays (null g f) ≤ length ts
  form_short P p Empty d ts v rest e = let q : ts ≡ rest = cc in omega (arith, ap length q)
  form_short P p (OneOf cs) d ts v rest e = let t = token_read cs ts v rest e in omega (arith, ap length t.1)
  form_short P p (Rule s) d ts v rest e = p s d ts v rest e
  form_short P p (Then f h) d ts v rest e =
      let a = then_read (read_form g P d f ts) _ v rest e in
      let b = value_read _ (read_form g P d h a.1) v rest a.3 in
      omega (arith, form_short P p f d ts a.0 a.1 a.2, form_short P p h d a.1 b.0 rest b.1, pays_and (null g f) (null g h))
  form_short P p (Nearest f h) d ts v rest e =
      let a = then_read (read_form g P d f ts) _ v rest e in
      let b = value_read _ (read_form g P d h a.1) v rest a.3 in
      omega (arith, form_short P p f d ts a.0 a.1 a.2, form_short P p h d a.1 b.0 rest b.1, pays_and (null g f) (null g h))
  form_short P p (Or f h) d ts v rest e =
      elim (if_either (begins g f ts) (with_value First (read_form g P d f ts)) (with_value Second (read_form g P d h ts)) (Read v rest) e) [
        | inl i ↦ (let b = value_read First (read_form g P d f ts) v rest i.1 in omega (arith, form_short P p f d ts b.0 rest b.1, pays_or (null g f) (null g h)))
        | inr i ↦ (let b = value_read Second (read_form g P d h ts) v rest i.1 in omega (arith, form_short P p h d ts b.0 rest b.1, pays_or (null g f) (null g h)))
      ]
  form_short P p (Opened cs f) d ts v rest e =
      let a = then_read (token g cs ts) _ v rest e in
      let t = token_read cs ts a.0 a.1 a.2 in
      elim (if_either (nat_lt d most_nested) (with_value (Two a.0) (read_form g P (d + 1) f a.1)) (Stop TooDeep (length ts)) (Read v rest) a.3) [
        | inl i ↦ (let b = value_read (Two a.0) (read_form g P (d + 1) f a.1) v rest i.1 in omega (arith, form_short P p f (d + 1) a.1 b.0 rest b.1, ap length t.1))
        | inr i ↦ (let c = i.1 in absurd (cc))
      ]
  form_short P p (Body f) d ts v rest e =
      elim (if_either (begins g f ts) (deep_body P d f ts) (Stop Unexpected (length ts)) (Read v rest) e) [
        | inl i ↦ (elim (if_either (nat_lt d most_nested) (read_form g P (d + 1) f ts) (Stop TooDeep (length ts)) (Read v rest) i.1) [
          | inl j ↦ form_short P p f (d + 1) ts v rest j.1
          | inr j ↦ (let c = j.1 in absurd (cc))
        ])
        | inr i ↦ (let c = i.1 in absurd (cc))
      ]
  form_short P p (Extended f h) d ts v rest e =
      let a = then_read (read_form g P d f ts) _ v rest e in
      elim (if_either (g.may_extend a.0 && begins g h a.1) (with_value (λ w. First (Two a.0 w)) (read_form g P d h a.1)) (Read (Second a.0) a.1) (Read v rest) a.3) [
        | inl i ↦ (let b = value_read _ (read_form g P d h a.1) v rest i.1 in omega (arith, form_short P p f d ts a.0 a.1 a.2, form_short P p h d a.1 b.0 rest b.1))
        | inr i ↦ (let c = i.1 in
            let q : a.1 ≡ rest = cc in omega (arith, form_short P p f d ts a.0 a.1 a.2, ap length q))
      ]

  module _ (sound : (s : S) → is_sound_rule g s ≡ true) where
    -- what the test says of a production
    pub record Tested (s : S) : Type 0 where
      pub rank : g.rank s < 1000
      pub low : low g (g.rank s) (g.rule s) ≡ true
      pub decided : decided g (g.rule s) ≡ true
      pub null : null g (g.rule s) ≡ g.nullable s
      pub first : within g (firsts g (g.rule s)) (g.first s) ≡ true
      pub more : within g (mores g (g.rule s)) (g.more s) ≡ true

    pub tested : (s : S) → Tested s
    tested s =
        let a = both (nat_lt (g.rank s) 1000) _ (sound s) in
        let b = both (low g (g.rank s) (g.rule s)) _ a.1 in
        let c = both (decided g (g.rule s)) _ b.1 in
        let d = both (same_bool (null g (g.rule s)) (g.nullable s)) _ c.1 in
        let e = both (within g (firsts g (g.rule s)) (g.first s)) _ d.1 in
        let f = both (within g (g.first s) (firsts g (g.rule s))) _ e.1 in
        record { rank = ltb-true _ _ a.0; low = b.0; decided = c.0; null = same_bool-is _ _ d.0; first = e.0; more = f.1 }

    short : (k : ℕ) → Short (fueled g k)
    unfolding fueled
    short zero s d ts v rest e = absurd (cc)
    short (suc k) s d ts v rest e =
        let b = value_read _ (read_form g (fueled g k) d (g.rule s) ts) v rest e in
        rw (← (tested s).null) (form_short (fueled g k) (short k) (g.rule s) d ts b.0 rest b.1)

    -- Enough fuel is as good as more.

    form_agree : (P Q : S → ℕ → List T → Reading T A) (m : ℕ) → Short P → ((s : S) (d : ℕ) (ts : List T) → 1000 * length ts + g.rank s < m → P s d ts ≡ Q s d ts)
        → (f : Form C S) (r d : ℕ) (ts : List T) → low g r f ≡ true → r ≤ 1000 → 1000 * length ts + r ≤ m → read_form g P d f ts ≡ read_form g Q d f ts
    form_agree P Q m p same Empty r d ts l i j = refl
    form_agree P Q m p same (OneOf cs) r d ts l i j = refl
    form_agree P Q m p same (Rule s) r d ts l i j = let k : g.rank s < r = ltb-true _ _ l in same s d ts (omega arith)
    form_agree P Q m p same (Then f h) r d ts l i j =
        let b = both (low g r f) _ l in
        then_agree _ _ _ _ (form_agree P Q m p same f r d ts b.0 i j) (λ v mid e.
        let k = ranked (null g f) (length mid) (length ts) r (form_short P p f d ts v mid e) i in
        ap (with_value (Two v)) (form_agree P Q m p same h _ d mid b.1 k.1 (omega (arith, k.0))))
    form_agree P Q m p same (Nearest f h) r d ts l i j =
        let b = both (low g r f) _ l in
        then_agree _ _ _ _ (form_agree P Q m p same f r d ts b.0 i j) (λ v mid e.
        let k = ranked (null g f) (length mid) (length ts) r (form_short P p f d ts v mid e) i in
        ap (with_value (Two v)) (form_agree P Q m p same h _ d mid b.1 k.1 (omega (arith, k.0))))
    form_agree P Q m p same (Or f h) r d ts l i j =
        let b = both (low g r f) _ l in
        let x = form_agree P Q m p same f r d ts b.0 i j in
        let y = form_agree P Q m p same h r d ts b.1 i j in cc
    form_agree P Q m p same (Opened cs f) r d ts l i j =
        then_agree _ _ _ _ refl (λ v mid e.
        let t = token_read cs ts v mid e in
        let x = form_agree P Q m p same f 1000 (d + 1) mid l (le_refl 1000) (omega (arith, ap length t.1)) in cc)
    form_agree P Q m p same (Body f) r d ts l i j = let x = form_agree P Q m p same f r (d + 1) ts l i j in cc
    form_agree P Q m p same (Extended f h) r d ts l i j =
        let b = both (low g r f) _ l in
        then_agree _ _ _ _ (form_agree P Q m p same f r d ts b.0 i j) (λ v mid e.
        let k = ranked (null g f) (length mid) (length ts) r (form_short P p f d ts v mid e) i in
        let x = form_agree P Q m p same h _ d mid b.1 k.1 (omega (arith, k.0)) in cc)

    agree : (k l : ℕ) (s : S) (d : ℕ) (ts : List T) → 1000 * length ts + g.rank s < k → 1000 * length ts + g.rank s < l → fueled g k s d ts ≡ fueled g l s d ts
    unfolding fueled
    agree zero l s d ts h i = absurd (omega arith)
    agree (suc k) zero s d ts h i = absurd (omega arith)
    agree (suc k) (suc l) s d ts h i =
        let t = tested s in
        ap (finish g s) (form_agree (fueled g k) (fueled g l) (1000 * length ts + g.rank s) (short k)
        (λ r e us q. agree k l r e us (omega arith) (omega arith)) (g.rule s) (g.rank s) d ts t.low (omega (arith, t.rank)) (le_refl _))

    -- a production is read by what it asks for
    pub read_rule-is : (s : S) (d : ℕ) (ts : List T) → read_rule g s d ts ≡ finish g s (read_form g (read_rule g) d (g.rule s) ts)
    unfolding fueled read_rule
    read_rule-is s d ts =
        let t = tested s in
        let m = 1000 * length ts + g.rank s in
        ap (finish g s) (form_agree (fueled g m) (read_rule g) m (short m)
        (λ r e us q. agree m (suc (1000 * length us + g.rank r)) r e us q (omega arith)) (g.rule s) (g.rank s) d ts t.low (omega (arith, t.rank)) (le_refl _))

    -- Whole trees.

    pub bare_same : (f : Form C S) (t : Tree T) (d : ℕ) (ts rest : List T) → Derives g d f t ts rest → is_bare t ≡ true → ts ≡ rest
    bare_same Empty Bare d ts rest h b = h
    bare_same (Rule s) (Node a) d ts rest h b = bare_same (g.rule s) a d ts rest h b
    bare_same (Then f k) (Both a c) d ts rest h b =
        let p = both (is_bare a) (is_bare c) b in
        bare_same f a d ts h.0 h.1 p.0 ∙ bare_same k c d h.0 rest h.2 p.1
    bare_same (Nearest f k) (Both a c) d ts rest h b =
        let p = both (is_bare a) (is_bare c) b in
        bare_same f a d ts h.0 h.1 p.0 ∙ bare_same k c d h.0 rest h.2 p.1
    bare_same (Or f k) (OnLeft a) d ts rest h b = bare_same f a d ts rest h b
    bare_same (Or f k) (OnRight a) d ts rest h b = bare_same k a d ts rest h b
    bare_same (Body f) (Node a) d ts rest h b = bare_same f a (d + 1) ts rest h.1 b
    bare_same (Extended f k) (Both a c) d ts rest h b =
        let p = both (is_bare a) (is_bare c) b in
        bare_same f a d ts h.0 h.1 p.0 ∙ bare_same k c d h.0 rest h.3 p.1
    bare_same (Extended f k) (OnRight a) d ts rest h b = bare_same f a d ts rest h b
    bare_same (OneOf cs) (Leaf t) d ts rest h b = absurd (cc)
    bare_same (Opened cs f) (Nested t a) d ts rest h b = absurd (cc)
    bare_same _ _ d ts rest h b = absurd h

    abbrev Derived : ℕ → Form C S → List T → Parts T A → List T → Type 0
    Derived d f ts v rest = (t : Tree T) × Derives g d f t ts rest × (value g f t ≡ v) × (is_open_to g f t (g.class_at rest) ≡ false)

    two_closed : (f h : Form C S) (a b : Tree T) (d : ℕ) (mid rest : List T) → Derives g d h b mid rest → is_open_to g f a (g.class_at mid) ≡ false
        → is_open_to g h b (g.class_at rest) ≡ false → (is_open_to g h b (g.class_at rest) || (is_bare b && is_open_to g f a (g.class_at rest))) ≡ false
    two_closed f h a b d mid rest e x y =
        no_or _ _ y (not_both (is_bare b) _ (λ n. subst (λ ts. is_open_to g f a (g.class_at ts) ≡ false) (bare_same h b d mid rest e n) x))

    form_derives : (P : S → ℕ → List T → Reading T A) → ((s : S) (d : ℕ) (ts : List T) (v : Parts T A) (rest : List T) → P s d ts ≡ Read v rest → Derived d (Rule s) ts v rest)
        → (f : Form C S) (d : ℕ) (ts : List T) (v : Parts T A) (rest : List T) → read_form g P d f ts ≡ Read v rest → Derived d f ts v rest
    form_derives P p Empty d ts v rest e =
        let q : ts ≡ rest = cc in
        let b : NoPart ≡ v = cc in (Bare, q, b, refl)
    form_derives P p (OneOf cs) d ts v rest e = let t = token_read cs ts v rest e in (Leaf t.0, (t.1, t.2), t.3, refl)
    form_derives P p (Rule s) d ts v rest e = p s d ts v rest e
    form_derives P p (Then f h) d ts v rest e =
        let a = then_read (read_form g P d f ts) _ v rest e in
        let b = value_read (Two a.0) (read_form g P d h a.1) v rest a.3 in
        let x = form_derives P p f d ts a.0 a.1 a.2 in
        let y = form_derives P p h d a.1 b.0 rest b.1 in
        let q : Two (value g f x.0) (value g h y.0) ≡ v = rw (x.2, y.2) b.2 in
        (Both x.0 y.0, (a.1, x.1, y.1), q, two_closed f h x.0 y.0 d a.1 rest y.1 x.3 y.3)
    form_derives P p (Nearest f h) d ts v rest e =
        let a = then_read (read_form g P d f ts) _ v rest e in
        let b = value_read (Two a.0) (read_form g P d h a.1) v rest a.3 in
        let x = form_derives P p f d ts a.0 a.1 a.2 in
        let y = form_derives P p h d a.1 b.0 rest b.1 in
        let q : Two (value g f x.0) (value g h y.0) ≡ v = rw (x.2, y.2) b.2 in
        (Both x.0 y.0, (a.1, x.1, y.1, inr x.3), q, two_closed f h x.0 y.0 d a.1 rest y.1 x.3 y.3)
    form_derives P p (Or f h) d ts v rest e =
        elim (if_either (begins g f ts) (with_value First (read_form g P d f ts)) (with_value Second (read_form g P d h ts)) (Read v rest) e) [
          | inl i ↦ (let b = value_read First (read_form g P d f ts) v rest i.1 in
              let x = form_derives P p f d ts b.0 rest b.1 in
              let q : First (value g f x.0) ≡ v = rw x.2 b.2 in (OnLeft x.0, x.1, q, x.3))
          | inr i ↦ (let b = value_read Second (read_form g P d h ts) v rest i.1 in
              let x = form_derives P p h d ts b.0 rest b.1 in
              let q : Second (value g h x.0) ≡ v = rw x.2 b.2 in
              (OnRight x.0, x.1, q, no_or _ _ x.3 (not_both (is_bare x.0) _ (λ n. subst (λ us. begins g f us ≡ false) (bare_same h x.0 d ts rest x.1 n) i.0))))
        ]
    form_derives P p (Opened cs f) d ts v rest e =
        let a = then_read (token g cs ts) _ v rest e in
        let t = token_read cs ts a.0 a.1 a.2 in
        elim (if_either (nat_lt d most_nested) (with_value (Two a.0) (read_form g P (d + 1) f a.1)) (Stop TooDeep (length ts)) (Read v rest) a.3) [
          | inl i ↦ (let b = value_read (Two a.0) (read_form g P (d + 1) f a.1) v rest i.1 in
              let x = form_derives P p f (d + 1) a.1 b.0 rest b.1 in
              let q : Two (One t.0) (value g f x.0) ≡ v = rw (t.3, x.2) b.2 in (Nested t.0 x.0, (a.1, t.1, t.2, i.0, x.1), q, x.3))
          | inr i ↦ (let c = i.1 in absurd (cc))
        ]
    form_derives P p (Body f) d ts v rest e =
        elim (if_either (begins g f ts) (deep_body P d f ts) (Stop Unexpected (length ts)) (Read v rest) e) [
          | inl i ↦ (elim (if_either (nat_lt d most_nested) (read_form g P (d + 1) f ts) (Stop TooDeep (length ts)) (Read v rest) i.1) [
            | inl j ↦ (let x = form_derives P p f (d + 1) ts v rest j.1 in (Node x.0, (j.0, x.1), x.2, x.3))
            | inr j ↦ (let c = j.1 in absurd (cc))
          ])
          | inr i ↦ (let c = i.1 in absurd (cc))
        ]
    form_derives P p (Extended f h) d ts v rest e =
        let a = then_read (read_form g P d f ts) _ v rest e in
        let x = form_derives P p f d ts a.0 a.1 a.2 in
        elim (if_either (g.may_extend a.0 && begins g h a.1) (with_value (λ w. First (Two a.0 w)) (read_form g P d h a.1)) (Read (Second a.0) a.1) (Read v rest) a.3) [
          | inl i ↦ (let b = value_read (λ w. First (Two a.0 w)) (read_form g P d h a.1) v rest i.1 in
              let y = form_derives P p h d a.1 b.0 rest b.1 in
              let n = both (g.may_extend a.0) _ i.0 in
              let q : First (Two (value g f x.0) (value g h y.0)) ≡ v = rw (x.2, y.2) b.2 in
              (Both x.0 y.0, (a.1, x.1, ap g.may_extend x.2 ∙ n.0, y.1), q, y.3))
          | inr i ↦ (let c = i.1 in
              let r : a.1 ≡ rest = cc in
              let q : Second a.0 ≡ v = cc in
              subst (λ us. Derived d (Extended f h) ts v us) r (OnRight x.0, x.1, ap Second x.2 ∙ q, no_or _ _ x.3 (ap (λ u. g.may_extend u && begins g h a.1) x.2 ∙ i.0)))
        ]

    derives : (k : ℕ) (s : S) (d : ℕ) (ts : List T) (v : Parts T A) (rest : List T) → fueled g k s d ts ≡ Read v rest → Derived d (Rule s) ts v rest
    unfolding fueled
    derives zero s d ts v rest e = absurd (cc)
    derives (suc k) s d ts v rest e =
        let b = value_read _ (read_form g (fueled g k) d (g.rule s) ts) v rest e in
        let x = form_derives (fueled g k) (derives k) (g.rule s) d ts b.0 rest b.1 in
        let q : Made (g.make s (value g (g.rule s) x.0)) ≡ v = rw x.2 b.2 in (Node x.0, x.1, q, x.3)

    -- Stops.

    abbrev Stopped : ℕ → Form C S → List T → Cause → ℕ → Type 0
    Stopped d f ts w n = (h : Partial T) × Stops g d f h ts w n

    form_stops : (P : S → ℕ → List T → Reading T A) → ((s : S) (d : ℕ) (ts : List T) (v : Parts T A) (rest : List T) → P s d ts ≡ Read v rest → Derived d (Rule s) ts v rest)
        → ((s : S) (d : ℕ) (ts : List T) (w : Cause) (n : ℕ) → P s d ts ≡ Stop w n → Stopped d (Rule s) ts w n)
        → (f : Form C S) (d : ℕ) (ts : List T) (w : Cause) (n : ℕ) → read_form g P d f ts ≡ Stop w n → Stopped d f ts w n
    form_stops P p q Empty d ts w n e = absurd (cc)
    form_stops P p q (OneOf cs) d ts w n e = (Here, token_stop cs ts w n e)
    form_stops P p q (Rule s) d ts w n e = q s d ts w n e
    form_stops P p q (Then f h) d ts w n e =
        elim (then_stop (read_form g P d f ts) _ w n e) [
          | inl i ↦ (let x = form_stops P p q f d ts w n i in (InFirst x.0, x.1))
          | inr i ↦ (let t = form_derives P p f d ts i.0 i.1 i.2 in
              let x = form_stops P p q h d i.1 w n (value_stop _ _ w n i.3) in (InSecond t.0 x.0, (i.1, t.1, t.3, x.1)))
        ]
    form_stops P p q (Nearest f h) d ts w n e =
        elim (then_stop (read_form g P d f ts) _ w n e) [
          | inl i ↦ (let x = form_stops P p q f d ts w n i in (InFirst x.0, x.1))
          | inr i ↦ (let t = form_derives P p f d ts i.0 i.1 i.2 in
              let x = form_stops P p q h d i.1 w n (value_stop _ _ w n i.3) in (InSecond t.0 x.0, (i.1, t.1, t.3, x.1)))
        ]
    form_stops P p q (Or f h) d ts w n e =
        elim (if_either (begins g f ts) (with_value First (read_form g P d f ts)) (with_value Second (read_form g P d h ts)) (Stop w n) e) [
          | inl i ↦ (let x = form_stops P p q f d ts w n (value_stop _ _ w n i.1) in (InLeft x.0, (i.0, x.1)))
          | inr i ↦ (let x = form_stops P p q h d ts w n (value_stop _ _ w n i.1) in (InRight x.0, (i.0, x.1)))
        ]
    form_stops P p q (Opened cs f) d ts w n e =
        elim (then_stop (token g cs ts) _ w n e) [
          | inl i ↦ (Here, token_stop cs ts w n i)
          | inr i ↦ (let t = token_read cs ts i.0 i.1 i.2 in
              elim (if_either (nat_lt d most_nested) (with_value (Two i.0) (read_form g P (d + 1) f i.1)) (Stop TooDeep (length ts)) (Stop w n) i.3) [
                | inl j ↦ (let x = form_stops P p q f (d + 1) i.1 w n (value_stop _ _ w n j.1) in (Under t.0 x.0, (i.1, t.1, t.2, j.0, x.1)))
                | inr j ↦ (let c = j.1 in
                    let a : w ≡ TooDeep = cc in
                    let b : n ≡ length ts = cc in (OpensTooDeep t.0, (i.1, t.1, t.2, j.0, a, b)))
              ])
        ]
    form_stops P p q (Body f) d ts w n e =
        elim (if_either (begins g f ts) (deep_body P d f ts) (Stop Unexpected (length ts)) (Stop w n) e) [
          | inl i ↦ (elim (if_either (nat_lt d most_nested) (read_form g P (d + 1) f ts) (Stop TooDeep (length ts)) (Stop w n) i.1) [
            | inl j ↦ (let x = form_stops P p q f (d + 1) ts w n j.1 in (Inside x.0, (i.0, j.0, x.1)))
            | inr j ↦ (let c = j.1 in
                let a : w ≡ TooDeep = cc in
                let b : n ≡ length ts = cc in (BodyTooDeep, (a, i.0, j.0, b)))
          ])
          | inr i ↦ (let c = i.1 in
              let a : w ≡ Unexpected = cc in
              let b : n ≡ length ts = cc in (Here, (a, i.0, b)))
        ]
    form_stops P p q (Extended f h) d ts w n e =
        elim (then_stop (read_form g P d f ts) _ w n e) [
          | inl i ↦ (let x = form_stops P p q f d ts w n i in (InFirst x.0, x.1))
          | inr i ↦ (let t = form_derives P p f d ts i.0 i.1 i.2 in
              elim (if_either (g.may_extend i.0 && begins g h i.1) (with_value (λ u. First (Two i.0 u)) (read_form g P d h i.1)) (Read (Second i.0) i.1) (Stop w n) i.3) [
                | inl j ↦ (let x = form_stops P p q h d i.1 w n (value_stop _ _ w n j.1) in (InSecond t.0 x.0, (i.1, t.1, t.3, ap (λ u. g.may_extend u && begins g h i.1) t.2 ∙ j.0, x.1)))
                | inr j ↦ (let c = j.1 in absurd (cc))
              ])
        ]

    stops : (k : ℕ) (s : S) (d : ℕ) (ts : List T) (w : Cause) (n : ℕ) → fueled g k s d ts ≡ Stop w n → Stopped d (Rule s) ts w n
    unfolding fueled
    stops zero s d ts w n e = absurd (cc)
    stops (suc k) s d ts w n e =
        let x = form_stops (fueled g k) (derives k) (stops k) (g.rule s) d ts w n (value_stop _ _ w n e) in (Inside x.0, x.1)

    pub read_rule-derives : (s : S) (d : ℕ) (ts : List T) (v : Parts T A) (rest : List T) → read_rule g s d ts ≡ Read v rest → Derived d (Rule s) ts v rest
    unfolding read_rule
    read_rule-derives s d ts v rest e = derives _ s d ts v rest e

    pub read_rule-stops : (s : S) (d : ℕ) (ts : List T) (w : Cause) (n : ℕ) → read_rule g s d ts ≡ Stop w n → Stopped d (Rule s) ts w n
    unfolding read_rule
    read_rule-stops s d ts w n e = stops _ s d ts w n e
