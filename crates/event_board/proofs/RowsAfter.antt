-- The first rows after a cursor.
use Rattle.std.proofs.Common.{◌≡◌, ℕ, ◌+◌, Bool, true, false, cond, List, [], ◌∷◌, ◌++◌, length, length-append, Option, Some, None, refl, sym, ap, subst, ◌∙◌, ◌⊎◌, inl, inr, arith}
use Rattle.std.specs.Prelude.{◌&&◌}
use Rattle.std.proofs.lemmas.Bool.{false≢true}
use Rattle.status_rules.specs.Fetch.{Has, IsGiven, Row, cursor_at, is_after, is_left, last_cursor}
use Rattle.status_rules.specs.declared.questions.Cursor.{Cursor}
use Rattle.event_board.specs.inner.Rows.{IsOnce, is_before, nearer, nearest, with_next, with_row}
use Rattle.event_board.proofs.Order.{any_has, after_more, has_first, has_last, has_parts, last_cursor_more, none_has, one_first, rising_more}

clash : (b : Bool) → b ≡ true → b ≡ false → ⊥
clash b is isnt = false≢true (sym isnt ∙ is)

-- the first row after a cursor of those that a predicate has
pub record IsBest (P : Row → Type 0) (c : Cursor) (r : Row) : Type 0 where
  pub has : P r
  pub after : is_after c r ≡ true
  pub first : (x : Row) → P x → is_after c x ≡ true → (r ≡ x) ⊎ (is_after (cursor_at r) x ≡ true)

abbrev pub BestOf : (Row → Type 0) → Cursor → Option Row → Type 0
BestOf P c None = (x : Row) → P x → is_after c x ≡ false
BestOf P c (Some r) = IsBest P c r

abbrev pub With : (Row → Type 0) → Row → Row → Type 0
With P r x = P x ⊎ (r ≡ x)

-- a row that doesn't come after the cursor
passed : (P : Row → Type 0) (c : Cursor) (r : Row) (best : Option Row) → is_after c r ≡ false
    → BestOf P c best → BestOf (With P r) c best
passed P c r None isnt best =
    λ x h. elim h [ inl old ↦ best x old | inr same ↦ ap (is_after c) (sym same) ∙ isnt ]
passed P c r (Some b) isnt best = record {
  has = inl best.has;
  after = best.after;
  first = λ x h is. elim h [ inl old ↦ best.first x old is | inr same ↦ absurd (clash (is_after c r) (ap (is_after c) same ∙ is) isnt) ];
}

-- one that does and stands before the best one
taken : (P : Row → Type 0) (c : Cursor) (r : Row) (best : Option Row) → is_after c r ≡ true
    → is_before r best ≡ true → BestOf P c best → IsBest (With P r) c r
taken P c r None is before best = record {
  has = inr refl;
  after = is;
  first = λ x h at. elim h [ inl old ↦ absurd (clash (is_after c x) at (best x old)) | inr same ↦ inl same ];
}
taken P c r (Some b) is before best = record {
  has = inr refl;
  after = is;
  first = λ x h at. elim h [
    | inl old ↦ elim (best.first x old at) [
      | inl same ↦ inr (ap (is_after (cursor_at r)) (sym same) ∙ before)
      | inr later ↦ inr (after_more (cursor_at r) b x before later)
    ]
    | inr same ↦ inl same
  ];
}

-- one that does and doesn't
left : (P : Row → Type 0) (c : Cursor) (r : Row) (best : Option Row)
    → ((x : Row) → P x → x.status.prop.0 ≡ r.status.prop.0 → x ≡ r) → is_before r best ≡ false
    → BestOf P c best → BestOf (With P r) c best
left P c r None once isnt best = absurd (clash true refl isnt)
left P c r (Some b) once isnt best = record {
  has = inl best.has;
  after = best.after;
  first = λ x h at. elim h [
    | inl old ↦ best.first x old at
    | inr same ↦ elim (one_first b r) [
      | inl later ↦ inr (ap (is_after (cursor_at b)) (sym same) ∙ later)
      | inr rest ↦ elim rest [
        | inl before ↦ absurd (clash (is_after (cursor_at r) b) before isnt)
        | inr prop ↦ inl (once b best.has prop ∙ same)
      ]
    ]
  ];
}

nearer_by : (P : Row → Type 0) (c : Cursor) (r : Row) (best : Option Row)
    → ((x : Row) → P x → x.status.prop.0 ≡ r.status.prop.0 → x ≡ r) → (a b : Bool) → is_after c r ≡ a
    → is_before r best ≡ b → BestOf P c best → BestOf (With P r) c (cond (a && b) (Some r) best)
nearer_by P c r best once false b after before is = passed P c r best after is
nearer_by P c r best once true true after before is = taken P c r best after before is
nearer_by P c r best once true false after before is = left P c r best once before is

-- the same of a predicate that says the same
moved : (P Q : Row → Type 0) (c : Cursor) (best : Option Row) → ((x : Row) → P x → Q x)
    → ((x : Row) → Q x → P x) → BestOf P c best → BestOf Q c best
moved P Q c None to from best = λ x h. best x (from x h)
moved P Q c (Some b) to from best =
    record { has = to b best.has; after = best.after; first = λ x h at. best.first x (from x h) at }

nearest_is : (Q : Row → Type 0) → ((x y : Row) → Q x → Q y → x.status.prop.0 ≡ y.status.prop.0 → x ≡ y)
    → (P : Row → Type 0) → ((x : Row) → P x → Q x) → (c : Cursor) (best : Option Row) (rs : List Row)
    → ((x : Row) → Has rs x → Q x) → BestOf P c best → BestOf (λ x. P x ⊎ Has rs x) c (nearest c best rs)
nearest_is Q once P sub c best [] within is =
    moved P (λ x. P x ⊎ Has [] x) c best (λ x h. inl h) (λ x h. elim h [ inl old ↦ old | inr none ↦ absurd none ]) is
nearest_is Q once P sub c best (r ∷ rs) within is =
    let here = within r (inl refl) in
    let next = nearer_by P c r best (λ x h same. once x r (sub x h) here same) (is_after c r) (is_before r best) refl refl is in
    let rest = nearest_is Q once (With P r) (λ x h. elim h [ inl old ↦ sub x old | inr same ↦ subst Q same here ]) c (nearer c best r) rs (λ x h. within x (inr h)) next in
    moved (λ x. With P r x ⊎ Has rs x) (λ x. P x ⊎ Has (r ∷ rs) x) c (nearest c (nearer c best r) rs)
    (λ x h. elim h [ inl a ↦ elim a [ inl old ↦ inl old | inr same ↦ inr (inl same) ] | inr later ↦ inr (inr later) ])
    (λ x h. elim h [ inl old ↦ inl (inl old) | inr b ↦ elim b [ inl same ↦ inl (inr same) | inr later ↦ inr later ] ])
    rest

pub nearest_best : (rs : List Row) (c : Cursor) → IsOnce rs → BestOf (Has rs) c (nearest c None rs)
nearest_best rs c once =
    moved (λ x. ⊥ ⊎ Has rs x) (Has rs) c (nearest c None rs)
    (λ x h. elim h [ inl none ↦ absurd none | inr here ↦ here ]) (λ x h. inr h)
    (nearest_is (Has rs) once (λ x. ⊥) (λ x h. absurd h) c None rs (λ x h. h) (λ x h. absurd h))

-- the first k rows after a cursor, or all
pub record AreFirst (rs : List Row) (c : Cursor) (k : ℕ) (given : List Row) : Type 0 where
  pub is_given : IsGiven rs c k given
  pub all : (length given ≡ k) ⊎ (is_left rs (last_cursor c given) ≡ false)

pub none_first : (rs : List Row) (c : Cursor) → AreFirst rs c 0 []
none_first rs c = record {
  is_given = record {
    rising = tt;
    of_rows = λ r h. absurd h;
    first = λ r h is. inr is;
    within = omega arith;
  };
  all = inl refl;
}

next_by : (rs : List Row) (c : Cursor) (k : ℕ) (given : List Row) (best : Option Row) → AreFirst rs c k given
    → BestOf (Has rs) (last_cursor c given) best → AreFirst rs c (k + 1) (with_row given best)
next_by rs c k given None old best = record {
  is_given = record {
    rising = old.is_given.rising;
    of_rows = old.is_given.of_rows;
    first = old.is_given.first;
    within = omega (arith, old.is_given.within);
  };
  all = inr (none_has (is_after (last_cursor c given)) rs best);
}
next_by rs c k given (Some r) old best =
    let count : length (given ++ r ∷ []) ≡ length given + 1 = length-append given (r ∷ []) in
    record {
      is_given = record {
        rising = rising_more c given r old.is_given.rising best.after;
        of_rows = λ x h. elim (has_parts given r x h) [ inl here ↦ old.is_given.of_rows x here | inr same ↦ subst (Has rs) same best.has ];
        first = λ x h is. elim (old.is_given.first x h is) [
          | inl here ↦ inl (has_first given r x here)
          | inr later ↦ elim (best.first x h later) [
            | inl same ↦ inl (subst (Has (given ++ r ∷ [])) same (has_last given r))
            | inr after ↦ inr (ap (λ d. is_after d x) (last_cursor_more c given r) ∙ after)
          ]
        ];
        within = omega (arith, count, old.is_given.within);
      };
      all = elim old.all [
        | inl whole ↦ inl (omega (arith, count, whole))
        | inr none ↦ absurd (clash (is_left rs (last_cursor c given)) (any_has (is_after (last_cursor c given)) rs r best.has best.after) none)
      ];
    }

pub next_first : (rs : List Row) (c : Cursor) (k : ℕ) (given new : List Row) → IsOnce rs
    → AreFirst rs c k given → new ≡ with_next rs c given → AreFirst rs c (k + 1) new
next_first rs c k given new once old is =
    subst (AreFirst rs c (k + 1)) (sym is)
    (next_by rs c k given (nearest (last_cursor c given) None rs) old (nearest_best rs (last_cursor c given) once))

pub all_taken : (rs : List Row) (c : Cursor) (k : ℕ) (given : List Row) → AreFirst rs c k given
    → is_left rs (last_cursor c given) ≡ true → length given ≡ k
all_taken rs c k given are some =
    elim are.all [ inl whole ↦ whole | inr none ↦ absurd (clash (is_left rs (last_cursor c given)) some none) ]
