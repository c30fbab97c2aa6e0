-- What the reading of an integer constant gives, and that it gives it of each.
use Rattle.std.proofs.Common.{◌≡◌, ◌+◌, ◌<◌, ◌≤◌, ◌^◌, ◌++◌, ◌∷◌, [], ℕ, List, Bool, true, false, Option, Some, None, refl, ap, sym, ◌∙◌, subst, take, drop, length, append_assoc, length-append, arith}
use Rattle.std.specs.Prelude.{◌==◌, if◌then◌else◌}
use Rattle.std.specs.List.{prefix_len}
use Rattle.std.specs.Char.{is_ascii_digit}
use Rattle.std.proofs.lemmas.Bool.Decides.{nat_tests}
use Rattle.std.proofs.Math.Seq.{drop-append_seam, take-append_seam, drop-append-add}
use Rattle.fc_base.specs.declared.syntax.LiteralForm.{LiteralForm}
use Rattle.fc_base.specs.declared.syntax.LiteralForm.TheVariants as L
use Rattle.c_lex.specs.declared.piece.Piece.{Piece}
use Rattle.c_lex.specs.declared.piece.Piece.TheVariants as Q
use Rattle.c_lex.specs.declared.piece.Shape.{Shape}
use Rattle.c_lex.specs.declared.token.Number.{Number}
use Rattle.c_lex.specs.declared.token.TokenKind.{TokenKind}
use Rattle.c_lex.specs.declared.token.TokenKind.TheVariants as K
use Rattle.c_lex.specs.Bytes.{begins_with}
use Rattle.c_lex.specs.Spellings.{suffixes, is_hexadecimal, form_of, prefix_of, is_digit, value_of, IsNumber, spoils}
use Rattle.c_lex.specs.inner.Reading.{either, digits_len, shape_of, fitting, number_with, number_of, number_at}
use Rattle.c_lex.proofs.Runs.{run_len}
use Rattle.c_lex.proofs.LongestRow.{first_row-again}
use Rattle.c_lex.proofs.Values.{Fitting, fitting-takes, fitting-again, wide-again}
use Rattle.c_lex.proofs.Numbers.{ordered, IsSplit, HasShape, shape_of-takes, shape_of-some}

-- what a piece says of a number that stands first
abbrev pub Counted : Bool → List ℕ → Piece → Type 0
Counted note bytes (Q.Token kind n) =
    (v : Number) × (text : List ℕ) × (rest : List ℕ) × IsSplit bytes n text rest × (kind ≡ K.Number v) × IsNumber v text rest × (spoils note rest ≡ false) × (v.value < 2 ^ 127)
Counted note bytes (Q.Bad n) =
    (v : Number) × (text : List ℕ) × (rest : List ℕ) × IsSplit bytes n text rest × IsNumber v text rest × (spoils note rest ≡ true)
Counted note bytes Q.Wide =
    (v : Number) × (text : List ℕ) × (rest : List ℕ) × (bytes ≡ text ++ rest) × IsNumber v text rest × (spoils note rest ≡ false) × (2 ^ 127 ≤ v.value)
Counted note bytes p = ⊥

rest_is : (bytes text rest : List ℕ) (n : ℕ) → IsSplit bytes n text rest → drop n bytes ≡ rest
rest_is bytes text rest n s = rw (s.len, s.whole) (drop-append_seam text rest)

number_of-takes : (note : Bool) (bytes : List ℕ) (s : Shape) (text rest : List ℕ) → HasShape bytes s text rest → Counted note bytes (number_of note bytes s)
unfolding number_of
number_of-takes note bytes s text rest h = spoiled (spoils note (drop s.len bytes)) refl
  where
    digits : List ℕ
    digits = take s.digits (drop (prefix_of s.form) bytes)

    same : drop s.len bytes ≡ rest
    same = rest_is bytes text rest s.len h.split

    fits : spoils note (drop s.len bytes) ≡ false → (o : Option ℕ) → Fitting (value_of s.form 0 digits) o
        → Counted note bytes (either o (λ v. Q.Token (K.Number (number_with s v)) s.len) Q.Wide)
    fits e None f = (number_with s (value_of s.form 0 digits), text, rest, h.split.whole, h.number, subst (λ (x : List ℕ). spoils note x ≡ false) same e, f)
    fits e (Some v) f =
        let kind : ℕ → TokenKind = λ v. K.Number (number_with s v) in
        (number_with s (value_of s.form 0 digits), text, rest, h.split, ap kind f.0, h.number, subst (λ (x : List ℕ). spoils note x ≡ false) same e, f.1)

    spoiled : (b : Bool) → spoils note (drop s.len bytes) ≡ b
        → Counted note bytes (if b then Q.Bad s.len else either (fitting s.form 0 digits) (λ v. Q.Token (K.Number (number_with s v)) s.len) Q.Wide)
    spoiled true e = (number_with s (value_of s.form 0 digits), text, rest, h.split, h.number, subst (λ (x : List ℕ). spoils note x ≡ true) same e)
    spoiled false e = fits e (fitting s.form 0 digits) (fitting-takes s.form 0 digits (omega arith))

pub number_at-takes : (note : Bool) (bytes : List ℕ) → begins_with is_ascii_digit bytes ≡ true → Counted note bytes (number_at note bytes)
unfolding number_at
number_at-takes note bytes d = step (shape_of bytes) refl
  where
    step : (o : Option Shape) → shape_of bytes ≡ o → Counted note bytes (either o (number_of note bytes) (Q.Bad 0))
    step None e = absurd (shape_of-some bytes e)
    step (Some s) e = let t = shape_of-takes bytes s d e in number_of-takes note bytes s t.0 t.1 t.2

-- And again.

pub shape_for : (v : Number) (text rest : List ℕ) → IsNumber v text rest → Shape
shape_for v text rest h = record { form = v.form; digits = length h.digits; unsigned = v.unsigned; longs = v.longs; len = length text }

-- the places of the parts
record Parts (v : Number) (bytes digits suffix rest : List ℕ) (len : ℕ) : Type 0 where
  after : drop (prefix_of v.form) bytes ≡ digits ++ (suffix ++ rest)
  end : drop (prefix_of v.form + length digits) bytes ≡ suffix ++ rest
  len_is : prefix_of v.form + length digits + length suffix ≡ len

parts : (v : Number) (text rest : List ℕ) (h : IsNumber v text rest) → Parts v (text ++ rest) h.digits h.suffix rest (length text)
parts v text rest h =
    let whole : text ++ rest ≡ h.prefix ++ (h.digits ++ (h.suffix ++ rest)) =
    ap (λ (x : List ℕ). x ++ rest) h.spelled ∙ append_assoc h.prefix (h.digits ++ h.suffix) rest ∙ ap (λ (x : List ℕ). h.prefix ++ x) (append_assoc h.digits h.suffix rest) in
    let after : drop (prefix_of v.form) (text ++ rest) ≡ h.digits ++ (h.suffix ++ rest) = rw (← h.prefix_len, whole) (drop-append_seam h.prefix (h.digits ++ (h.suffix ++ rest))) in
    record {
      after = after;
      end = rw (← h.prefix_len, whole, drop-append-add h.prefix (h.digits ++ (h.suffix ++ rest)) (length h.digits)) (drop-append_seam h.digits (h.suffix ++ rest));
      len_is = omega (arith, h.prefix_len, ap length h.spelled, length-append h.prefix (h.digits ++ h.suffix), length-append h.digits h.suffix);
    }

pub shape_of-again : (v : Number) (text rest : List ℕ) (h : IsNumber v text rest) → shape_of (text ++ rest) ≡ Some (shape_for v text rest h)
unfolding shape_of digits_len shape_for
shape_of-again v text rest h =
    let p = parts v text rest h in
    let f : form_of (text ++ rest) ≡ v.form = sym h.form in
    let d : prefix_len (is_digit v.form) (h.digits ++ (h.suffix ++ rest)) ≡ length h.digits = run_len (is_digit v.form) h.digits (h.suffix ++ rest) h.are_digits h.all_digits in
    let r = first_row-again false suffixes (h.suffix ++ rest) h.suffix (v.unsigned, v.longs) ordered h.suffix_is in
    rw (f, p.after, d, p.end, r, p.len_is) refl

number_of-shape : (note : Bool) (v : Number) (text rest : List ℕ) (h : IsNumber v text rest) → number_at note (text ++ rest) ≡ number_of note (text ++ rest) (shape_for v text rest h)
unfolding number_at
number_of-shape note v text rest h = rw (shape_of-again v text rest h) refl

digits_are : (v : Number) (text rest : List ℕ) (h : IsNumber v text rest) → take (length h.digits) (drop (prefix_of v.form) (text ++ rest)) ≡ h.digits
digits_are v text rest h = rw ((parts v text rest h).after) (take-append_seam h.digits (h.suffix ++ rest))

pub spoiled-again : (note : Bool) (v : Number) (text rest : List ℕ) → IsNumber v text rest → spoils note rest ≡ true → number_at note (text ++ rest) ≡ Q.Bad (length text)
unfolding number_of shape_for
spoiled-again note v text rest h e = number_of-shape note v text rest h ∙ rw (drop-append_seam text rest, e) refl

pub number-again : (note : Bool) (v : Number) (text rest : List ℕ) → IsNumber v text rest → spoils note rest ≡ false → v.value < 2 ^ 127
    → number_at note (text ++ rest) ≡ Q.Token (K.Number v) (length text)
unfolding number_of shape_for
number-again note v text rest h e l =
    let f = fitting-again v.form h.digits (omega (arith, h.value)) in
    number_of-shape note v text rest h ∙ rw (drop-append_seam text rest, e, digits_are v text rest h, f, ← h.value) refl

pub too_wide-again : (note : Bool) (v : Number) (text rest : List ℕ) → IsNumber v text rest → spoils note rest ≡ false → 2 ^ 127 ≤ v.value → number_at note (text ++ rest) ≡ Q.Wide
unfolding number_of shape_for
too_wide-again note v text rest h e l =
    let f = wide-again v.form h.digits (omega (arith, h.value)) in
    number_of-shape note v text rest h ∙ rw (drop-append_seam text rest, e, digits_are v text rest h, f) refl

-- Constants have a digit.

digit_there : (rest : List ℕ) → begins_with is_ascii_digit rest ≡ true → prefix_of (form_of rest) ≡ 0 → begins_with (is_digit (form_of rest)) rest ≡ true
unfolding form_of
digit_there [] d p = absurd (cc)
digit_there (r ∷ rs) d p = step (is_hexadecimal (r ∷ rs)) (r == 48) refl d p
  where
    step : (h z : Bool) → (r == 48) ≡ z → is_ascii_digit r ≡ true
        → prefix_of (if h then L.Hexadecimal else (if z then L.Octal else L.Decimal)) ≡ 0
        → is_digit (if h then L.Hexadecimal else (if z then L.Octal else L.Decimal)) r ≡ true
    step true z e d p = absurd (omega (arith, p))
    step false true e d p = grind (arith, nat_tests)
    step false false e d p = d

pub empty : (xs : List ℕ) → length xs ≡ 0 → xs ≡ []
empty [] e = refl
empty (x ∷ xs) e = absurd (omega (arith, e))

pub number_some : (v : Number) (text rest : List ℕ) → IsNumber v text rest → 1 ≤ length text
number_some v (b ∷ bs) rest h = omega arith
number_some v [] rest h =
    let none : length h.prefix + (length h.digits + length h.suffix) ≡ 0 =
    omega (arith, ap length h.spelled, length-append h.prefix (h.digits ++ h.suffix), length-append h.digits h.suffix) in
    let suffix : h.suffix ≡ [] = empty h.suffix (omega arith) in
    let prefix : prefix_of (form_of rest) ≡ 0 = ap prefix_of (sym h.form) ∙ sym h.prefix_len ∙ omega arith in
    let d = digit_there rest h.begins_so prefix in
    let a : begins_with (is_digit v.form) rest ≡ false = subst (λ (x : List ℕ). begins_with (is_digit v.form) (x ++ rest) ≡ false) suffix h.all_digits in
    let b : begins_with (is_digit v.form) rest ≡ true = subst (λ (f : LiteralForm). begins_with (is_digit f) rest ≡ true) (sym h.form) d in
    absurd (cc)
