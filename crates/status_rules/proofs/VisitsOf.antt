-- Visits in one run.
use Rattle.std.proofs.Common.{◌≡◌, ℕ, Bool, true, false, List, [], ◌∷◌, refl, inl, inr}
use Rattle.std.specs.Prelude.{◌&&◌, ◌||◌, not, ◌==◌}
use Rattle.std.proofs.lemmas.Bool.{cases_Bool, both_ways}
use Rattle.status_history.specs.Claims.{Visit, has_visit, has_false, has_true}

neither : (on h a b c : Bool) → ((on && not h) || a) ≡ false → ((on && h) || b) ≡ false → (a ≡ false → b ≡ false → c ≡ false) → (on || c) ≡ false
neither true true a b c x y rest = y
neither true false a b c x y rest = x
neither false h a b c x y rest = rest x y

-- a property with no false visit and no true one isn't visited
pub no_visit : (p : ℕ) (run : List Visit) → has_false p run ≡ false → has_true p run ≡ false → has_visit p run ≡ false
no_visit p [] x y = refl
no_visit p (v ∷ run) x y = neither (v.prop == p) v.holds (has_false p run) (has_true p run) (has_visit p run) x y (no_visit p run)

part : (on x a c : Bool) → (on || c) ≡ false → (c ≡ false → a ≡ false) → ((on && x) || a) ≡ false
part true x a c h rest = cc
part false x a c h rest = rest h

-- a property that isn't visited has no false visit
pub no_false : (p : ℕ) (run : List Visit) → has_visit p run ≡ false → has_false p run ≡ false
no_false p [] h = refl
no_false p (v ∷ run) h = part (v.prop == p) (not v.holds) (has_false p run) (has_visit p run) h (no_false p run)

-- a property that has a false visit is visited
pub is_visited : (p : ℕ) (run : List Visit) → has_false p run ≡ true → has_visit p run ≡ true
is_visited p run h = elim (cases_Bool (has_visit p run)) [ inl met ↦ met | inr unmet ↦ absurd (both_ways (has_false p run) (no_false p run unmet) h) ]

-- a property that is visited, and not with a true visit, has a false one
pub false_visit : (p : ℕ) (run : List Visit) → has_visit p run ≡ true → has_true p run ≡ false → has_false p run ≡ true
false_visit p run h none = elim (cases_Bool (has_false p run)) [ inl met ↦ met | inr unmet ↦ absurd (both_ways (has_visit p run) (no_visit p run unmet none) h) ]
