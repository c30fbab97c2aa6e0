-- An integer constant is read where the bytes begin with one, and no other is.
use Rattle.std.proofs.Common.{◌≡◌, inl, inr, ◌+◌, ◌≤◌, ◌++◌, ◌∷◌, [], ℕ, List, Bool, true, false, Option, Some, None, refl, ap, sym, ◌∙◌, subst, take, drop, length, append_assoc, length-append, arith}
use Rattle.std.specs.Prelude.{◌==◌, if◌then◌else◌}
use Rattle.std.specs.List.{prefix_len}
use Rattle.std.specs.Char.{is_ascii_digit}
use Rattle.std.proofs.lemmas.List.{take-append-drop, drop-drop, length-take-le}
use Rattle.std.proofs.lemmas.List.Folds.{length-prefix_len}
use Rattle.fc_base.specs.declared.syntax.LiteralForm.{LiteralForm}
use Rattle.fc_base.specs.declared.syntax.LiteralForm.TheVariants as L
use Rattle.c_lex.specs.declared.piece.Shape.{Shape}
use Rattle.c_lex.specs.Bytes.{begins_with}
use Rattle.c_lex.specs.Spellings.{Has, IsLongest, suffixes, form_of, prefix_of, is_digit, value_of, IsNumber}
use Rattle.c_lex.specs.inner.Reading.{◌>>=◌, first_row, digits_len, shape_of, number_with}
use Rattle.c_lex.proofs.Runs.{some_one, run_all, run_ends, begins-split}
use Rattle.c_lex.proofs.LongestRow.{is_ordered, first_row-takes, first_row-none}

pub bind_some : {A B : Type 0} (o : Option A) (f : A → Option B) (r : B) → ◌>>=◌ o f ≡ Some r → (a : A) × (o ≡ Some a) × (f a ≡ Some r)
bind_some None f r e = absurd (cc)
bind_some (Some a) f r e = (a, refl, e)

pub ordered : is_ordered suffixes ≡ true
unfolding suffixes
ordered = refl

has_empty : Has false suffixes [] (false, 0)
unfolding suffixes
has_empty = inr (inr (inr (inr (inr (inr (inr (inr (inr (inr (inr (inr (inr (inr (inr (inr (inr (inr (inr (inr (inr (inr (inl (refl, refl, refl)))))))))))))))))))))))

prefix-few : (f : LiteralForm) → prefix_of f ≤ 2
prefix-few L.Hexadecimal = omega arith
prefix-few L.Octal = omega arith
prefix-few L.Decimal = omega arith
prefix-few L.Character = omega arith

prefix-within : (bytes : List ℕ) → prefix_of (form_of bytes) ≤ length bytes
unfolding form_of
prefix-within [] = omega arith
prefix-within (b ∷ []) = step (b == 48)
  where
    step : (z : Bool) → prefix_of (if◌then◌else◌ {A = LiteralForm} z L.Octal L.Decimal) ≤ 1
    step true = omega arith
    step false = omega arith
prefix-within (b ∷ x ∷ rest) = omega (arith, prefix-few (form_of (b ∷ x ∷ rest)))

-- the bytes are a text and a rest, and this is the text's length
pub record IsSplit (bytes : List ℕ) (n : ℕ) (text rest : List ℕ) : Type 0 where
  pub whole : bytes ≡ text ++ rest
  pub len : n ≡ length text

-- a constant of this shape stands first
pub record HasShape (bytes : List ℕ) (s : Shape) (text rest : List ℕ) : Type 0 where
  pub split : IsSplit bytes s.len text rest
  pub number : IsNumber (number_with s (value_of s.form 0 (take s.digits (drop (prefix_of s.form) bytes)))) text rest

-- a prefix, digits and a suffix, one after the other
parts : (bytes after end prefix digits suffix rest : List ℕ) → bytes ≡ prefix ++ after → after ≡ digits ++ end → end ≡ suffix ++ rest
    → bytes ≡ (prefix ++ (digits ++ suffix)) ++ rest
parts bytes after end prefix digits suffix rest p q r =
    p ∙ ap (λ (x : List ℕ). prefix ++ x) (q ∙ ap (λ (x : List ℕ). digits ++ x) r ∙ sym (append_assoc digits suffix rest))
    ∙ sym (append_assoc prefix (digits ++ suffix) rest)

pub shape_of-takes : (bytes : List ℕ) (s : Shape) → begins_with is_ascii_digit bytes ≡ true → shape_of bytes ≡ Some s → (text : List ℕ) × (rest : List ℕ) × HasShape bytes s text rest
unfolding shape_of digits_len
shape_of-takes bytes s d e =
    let form = form_of bytes in
    let p : ℕ = prefix_of form in
    let after : List ℕ = drop p bytes in
    let n : ℕ = prefix_len (is_digit form) after in
    let end : List ℕ = drop (p + n) bytes in
    let b = bind_some (first_row false suffixes end) _ _ e in
    let made : Shape = record { form = form; digits = n; unsigned = b.0.0.0; longs = b.0.0.1; len = p + n + b.0.1 } in
    let is : made ≡ s = some_one made s b.2 in
    let t = first_row-takes false suffixes end b.0.0 b.0.1 ordered b.1 in
    let suffix : List ℕ = t.0 in
    let rest : List ℕ = drop (length suffix) end in
    let text : List ℕ = take p bytes ++ (take n after ++ suffix) in
    let whole : bytes ≡ text ++ rest = parts bytes after end (take p bytes) (take n after) suffix rest
    (sym (take-append-drop p bytes)) (sym (take-append-drop n after) ∙ ap (λ (x : List ℕ). take n after ++ x) (drop-drop n p bytes)) (begins-split suffix end t.1.first) in
    let prefix_len : length (take p bytes) ≡ p = length-take-le p bytes (prefix-within bytes) in
    let digits_count : length (take n after) ≡ n = length-prefix_len (is_digit form) after in
    let len : p + n + b.0.1 ≡ length text = omega (arith, length-append (take p bytes) (take n after ++ suffix), length-append (take n after) suffix, t.2) in
    let back : suffix ++ rest ≡ end = sym (begins-split suffix end t.1.first) in
    subst (λ (x : Shape). (text : List ℕ) × (rest : List ℕ) × HasShape bytes x text rest) is (
      text,
      rest,
      record {
        split = record { whole = whole; len = len };
        number = record {
          prefix = take p bytes;
          digits = take n after;
          suffix = suffix;
          begins_so = subst (λ (x : List ℕ). begins_with is_ascii_digit x ≡ true) whole d;
          spelled = refl;
          form = ap form_of whole;
          prefix_len = prefix_len;
          are_digits = run_all (is_digit form) after;
          all_digits = subst (λ (x : List ℕ). begins_with (is_digit form) x ≡ false) (drop-drop n p bytes ∙ sym back) (run_ends (is_digit form) after);
          value = refl;
          suffix_is = subst (λ (x : List ℕ). IsLongest false suffixes suffix b.0.0 x) (sym back) t.1;
        };
      },
    )

pub shape_of-some : (bytes : List ℕ) → shape_of bytes ≡ None → ⊥
unfolding shape_of
shape_of-some bytes e = step (first_row false suffixes end) refl e
  where
    digits : ℕ
    digits = digits_len (form_of bytes) (drop (prefix_of (form_of bytes)) bytes)

    end : List ℕ
    end = drop (prefix_of (form_of bytes) + digits) bytes

    shape : (Bool × ℕ) × ℕ → Shape
    shape row =
        record { form = form_of bytes; digits = digits; unsigned = row.0.0; longs = row.0.1; len = prefix_of (form_of bytes) + digits + row.1 }

    step : (o : Option ((Bool × ℕ) × ℕ)) → first_row false suffixes end ≡ o → ◌≡◌ {A = Option Shape} (◌>>=◌ o (λ row. Some (shape row))) None → ⊥
    step None o h = first_row-none false suffixes _ [] (false, 0) o has_empty refl
    step (Some r) o h = cc
