-- The value of digits is read where it is below 2 ^ 127.
use Rattle.std.proofs.Common.{◌≡◌, ◌<◌, ◌≤◌, ◌^◌, ◌∷◌, [], ℕ, List, Bool, true, false, Option, Some, None, refl, ap, arith}
use Rattle.std.specs.Prelude.{nat_lt, if◌then◌else◌}
use Rattle.std.proofs.lemmas.Bool.Decides.{nat_tests}
use Rattle.fc_base.specs.declared.syntax.LiteralForm.{LiteralForm}
use Rattle.fc_base.specs.declared.syntax.LiteralForm.TheVariants as L
use Rattle.c_lex.specs.Spellings.{with_digit, value_of}
use Rattle.c_lex.specs.inner.Reading.{either, fitting}

with_digit-le : (f : LiteralForm) (n b : ℕ) → n ≤ with_digit f n b
with_digit-le L.Hexadecimal n b = omega arith
with_digit-le L.Octal n b = omega arith
with_digit-le L.Decimal n b = omega arith
with_digit-le L.Character n b = omega arith

value_of-le : (f : LiteralForm) (n : ℕ) (ds : List ℕ) → n ≤ value_of f n ds
value_of-le f n [] = omega arith
value_of-le f n (b ∷ bs) = omega (arith, with_digit-le f n b, value_of-le f (with_digit f n b) bs)

-- what is read is the value, where it fits
abbrev pub Fitting : ℕ → Option ℕ → Type 0
Fitting n None = 2 ^ 127 ≤ n
Fitting n (Some m) = (m ≡ n) × (n < 2 ^ 127)

pub fitting-takes : (f : LiteralForm) (n : ℕ) (ds : List ℕ) → n < 2 ^ 127 → Fitting (value_of f n ds) (fitting f n ds)
fitting-takes f n [] l = (refl, l)
fitting-takes f n (b ∷ bs) l = step (fitting-takes f (with_digit f n b) bs) (nat_lt (with_digit f n b) (2 ^ 127)) refl
  where
    step : (with_digit f n b < 2 ^ 127 → Fitting (value_of f (with_digit f n b) bs) (fitting f (with_digit f n b) bs))
        → (c : Bool) → nat_lt (with_digit f n b) (2 ^ 127) ≡ c
        → Fitting (value_of f (with_digit f n b) bs) (either (if◌then◌else◌ {A = Option ℕ} c (Some (with_digit f n b)) None) (λ m. fitting f m bs) None)
    step ih true e = ih (grind (arith, nat_tests))
    step ih false e = let m : 2 ^ 127 ≤ with_digit f n b = grind (arith, nat_tests) in omega (arith, value_of-le f (with_digit f n b) bs)

pub fitting-again : (f : LiteralForm) (ds : List ℕ) → value_of f 0 ds < 2 ^ 127 → fitting f 0 ds ≡ Some (value_of f 0 ds)
fitting-again f ds l = step (fitting f 0 ds) (fitting-takes f 0 ds (omega arith))
  where
    step : (r : Option ℕ) → Fitting (value_of f 0 ds) r → r ≡ Some (value_of f 0 ds)
    step None h = absurd (omega (arith, h))
    step (Some m) h = ap Some h.0

pub wide-again : (f : LiteralForm) (ds : List ℕ) → 2 ^ 127 ≤ value_of f 0 ds → fitting f 0 ds ≡ None
wide-again f ds l = step (fitting f 0 ds) (fitting-takes f 0 ds (omega arith))
  where
    step : (r : Option ℕ) → Fitting (value_of f 0 ds) r → r ≡ None
    step None h = refl
    step (Some m) h = absurd (omega (arith, h.1))
