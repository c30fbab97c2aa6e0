-- The order of rows in a fetch.
use Rattle.std.proofs.Common.{◌≡◌, ℕ, ◌<◌, Bool, true, false, List, [], ◌∷◌, ◌++◌, refl, sym, ap, ◌∙◌, ◌⊎◌, inl, inr, eqb, arith}
use Rattle.std.specs.Prelude.{nat_lt, ◌&&◌, ◌||◌}
use Rattle.std.specs.List.{list_any}
use Rattle.std.proofs.lemmas.Bool.{and_parts, and_from, or_cases, or_left, or_right, eqb-true, eq-eqb, lt-ltb, ltb-true, cases_lt}
use Rattle.status_rules.specs.Fetch.{Has, IsRising, Row, cursor_at, is_after, last_cursor}
use Rattle.status_rules.specs.declared.questions.Cursor.{Cursor}
use Rattle.status_rules.specs.declared.questions.Cursor.TheVariants.{Start, After}

-- a pair of numbers that comes before another: the first is less, or the same and the second is less
abbrev pub Less : ℕ → ℕ → ℕ → ℕ → Type 0
Less k p l q = (k < l) ⊎ ((k ≡ l) × (p < q))

less_from : (k p : ℕ) (r : Row) → is_after (After k p) r ≡ true → Less k p r.changed r.status.prop.0
less_from k p r h =
    elim (or_cases (nat_lt k r.changed) (eqb k r.changed && nat_lt p r.status.prop.0) h) [
      | inl first ↦ inl (ltb-true k r.changed first)
      | inr rest ↦
          let parts = and_parts (eqb k r.changed) (nat_lt p r.status.prop.0) rest in
          inr (eqb-true k r.changed parts.0, ltb-true p r.status.prop.0 parts.1)
    ]

less_to : (k p : ℕ) (r : Row) → Less k p r.changed r.status.prop.0 → is_after (After k p) r ≡ true
less_to k p r h =
    elim h [
      | inl first ↦ or_left (nat_lt k r.changed) (eqb k r.changed && nat_lt p r.status.prop.0) (lt-ltb k r.changed first)
      | inr rest ↦ or_right (nat_lt k r.changed) (eqb k r.changed && nat_lt p r.status.prop.0) (and_from (eqb k r.changed) (nat_lt p r.status.prop.0) (eq-eqb k r.changed rest.0) (lt-ltb p r.status.prop.0 rest.1))
    ]

less_trans : (k p l q m r : ℕ) → Less k p l q → Less l q m r → Less k p m r
less_trans k p l q m r first second =
    elim first [
      | inl a ↦ elim second [ inl b ↦ inl (omega (arith, a, b)) | inr b ↦ inl (omega (arith, a, b.0)) ]
      | inr a ↦ elim second [ inl b ↦ inl (omega (arith, a.0, b)) | inr b ↦ inr (a.0 ∙ b.0, omega (arith, a.1, b.1)) ]
    ]

-- a row after one that comes after a cursor does too
pub after_more : (c : Cursor) (x y : Row) → is_after c x ≡ true → is_after (cursor_at x) y ≡ true
    → is_after c y ≡ true
after_more Start x y first second = refl
after_more (After k p) x y first second =
    less_to k p y (less_trans k p x.changed x.status.prop.0 y.changed y.status.prop.0 (less_from k p x first) (less_from x.changed x.status.prop.0 y second))

pub not_itself : (x : Row) → is_after (cursor_at x) x ≡ true → ⊥
not_itself x h =
    elim (less_from x.changed x.status.prop.0 x h) [
      | inl a ↦ absurd (omega (arith, a))
      | inr a ↦ let below = a.1 in absurd (omega (arith, below))
    ]

pub not_both : (x y : Row) → is_after (cursor_at x) y ≡ true → is_after (cursor_at y) x ≡ true → ⊥
not_both x y first second = not_itself x (after_more (cursor_at x) y x first second)

same_place : (x y : Row) → x.changed ≡ y.changed
    → (is_after (cursor_at x) y ≡ true) ⊎ ((is_after (cursor_at y) x ≡ true) ⊎ (x.status.prop.0 ≡ y.status.prop.0))
same_place x y same =
    elim (cases_lt x.status.prop.0 y.status.prop.0) [
      | inl below ↦ inl (less_to x.changed x.status.prop.0 y (inr (same, below)))
      | inr above ↦ elim (cases_lt y.status.prop.0 x.status.prop.0) [
        | inl below ↦ inr (inl (less_to y.changed y.status.prop.0 x (inr (sym same, below))))
        | inr under ↦ inr (inr (omega (arith, above, under)))
      ]
    ]

-- of two rows one comes after the other, or they are of one property
pub one_first : (x y : Row)
    → (is_after (cursor_at x) y ≡ true) ⊎ ((is_after (cursor_at y) x ≡ true) ⊎ (x.status.prop.0 ≡ y.status.prop.0))
one_first x y =
    elim (cases_lt x.changed y.changed) [
      | inl below ↦ inl (less_to x.changed x.status.prop.0 y (inl below))
      | inr above ↦ elim (cases_lt y.changed x.changed) [
        | inl below ↦ inr (inl (less_to y.changed y.status.prop.0 x (inl below)))
        | inr under ↦ same_place x y (omega (arith, above, under))
      ]
    ]

-- members
pub any_has : (f : Row → Bool) (rs : List Row) (r : Row) → Has rs r → f r ≡ true → list_any f rs ≡ true
any_has f [] r h is = absurd h
any_has f (x ∷ rs) r h is =
    elim h [
      | inl same ↦ or_left (f x) (list_any f rs) (ap f same ∙ is)
      | inr later ↦ or_right (f x) (list_any f rs) (any_has f rs r later is)
    ]

pub none_has : (f : Row → Bool) (rs : List Row) → ((r : Row) → Has rs r → f r ≡ false) → list_any f rs ≡ false
none_has f [] none = refl
none_has f (x ∷ rs) none =
    ap (λ b. b || list_any f rs) (none x (inl refl)) ∙ none_has f rs (λ r h. none r (inr h))

pub has_first : (rs : List Row) (x r : Row) → Has rs r → Has (rs ++ x ∷ []) r
has_first [] x r h = absurd h
has_first (y ∷ rs) x r h = elim h [ inl same ↦ inl same | inr later ↦ inr (has_first rs x r later) ]

pub has_last : (rs : List Row) (x : Row) → Has (rs ++ x ∷ []) x
has_last [] x = inl refl
has_last (y ∷ rs) x = inr (has_last rs x)

pub has_parts : (rs : List Row) (x r : Row) → Has (rs ++ x ∷ []) r → Has rs r ⊎ (x ≡ r)
has_parts [] x r h = elim h [ inl same ↦ inr same | inr later ↦ absurd later ]
has_parts (y ∷ rs) x r h = elim h [
  | inl same ↦ inl (inl same)
  | inr later ↦ elim (has_parts rs x r later) [ inl here ↦ inl (inr here) | inr last ↦ inr last ]
]

pub rising_more : (c : Cursor) (rs : List Row) (x : Row) → IsRising c rs
    → is_after (last_cursor c rs) x ≡ true → IsRising c (rs ++ x ∷ [])
rising_more c [] x rising after = (after, tt)
rising_more c (r ∷ rs) x rising after = (rising.0, rising_more (cursor_at r) rs x rising.1 after)

pub last_cursor_more : (c : Cursor) (rs : List Row) (x : Row) → last_cursor c (rs ++ x ∷ []) ≡ cursor_at x
last_cursor_more c [] x = refl
last_cursor_more c (r ∷ rs) x = last_cursor_more (cursor_at r) rs x

-- rising rows come after the cursor, and after each of them stands the last
pub rising_after : (c : Cursor) (rs : List Row) (r : Row) → IsRising c rs → Has rs r → is_after c r ≡ true
rising_after c [] r rising h = absurd h
rising_after c (x ∷ rs) r rising h =
    elim h [
      | inl same ↦ ap (is_after c) (sym same) ∙ rising.0
      | inr later ↦ after_more c x r rising.0 (rising_after (cursor_at x) rs r rising.1 later)
    ]

pub after_last : (c : Cursor) (rs : List Row) (r : Row) → IsRising c rs → is_after (last_cursor c rs) r ≡ true
    → is_after c r ≡ true
after_last c [] r rising h = h
after_last c (x ∷ rs) r rising h = after_more c x r rising.0 (after_last (cursor_at x) rs r rising.1 h)
