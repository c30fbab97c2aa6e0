-- What is looked for is found: the end of a comment, of a string literal and of a line.
use Rattle.std.proofs.Common.{◌≡◌, ◌⊎◌, inl, inr, ◌+◌, ◌++◌, ◌∷◌, [], ℕ, List, Bool, true, false, Option, Some, None, refl, ap, sym, ◌∙◌, drop, length, arith}
use Rattle.std.specs.Prelude.{◌==◌, ◌&&◌, not, if◌then◌else◌}
use Rattle.std.specs.Option.{option_map}
use Rattle.std.proofs.lemmas.Bool.Decides.{Decides-eqb}
use Rattle.c_lex.specs.Bytes.{begins_with, is_in_line}
use Rattle.c_lex.specs.Spellings.{is_quotable}
use Rattle.c_lex.specs.Tokens.{has_no_close}
use Rattle.c_lex.specs.inner.Reading.{text_len, inside_len}
use Rattle.c_lex.proofs.Runs.{both, both_are, not_true, not_false, some_one, if_either}

pub first_is : (b : ℕ) (xs : List ℕ) → begins_with (λ c. c == b) xs ≡ true → xs ≡ b ∷ drop 1 xs
first_is b [] e = absurd (cc)
first_is b (x ∷ xs) e = ap (λ (y : ℕ). y ∷ xs) ((Decides-eqb x b).0 e)

pub byte_is : (b c : ℕ) → (b == c) ≡ true → b ≡ c
byte_is b c = (Decides-eqb b c).0

map_some : {A B : Type 0} (f : A → B) (o : Option A) (r : B) → option_map f o ≡ Some r → (a : A) × (o ≡ Some a) × (f a ≡ r)
map_some f None r e = absurd (cc)
map_some f (Some a) r e = (a, refl, some_one (f a) r e)

map_none : {A B : Type 0} (f : A → B) (o : Option A) → option_map f o ≡ None → o ≡ None
map_none f None e = refl
map_none f (Some a) e = absurd (cc)

if_none : {A : Type 0} (b : Bool) (x : A) (o : Option A) → if◌then◌else◌ {A = Option A} b (Some x) o ≡ None → (b ≡ false) × (o ≡ None)
if_none true x o e = absurd (cc)
if_none false x o e = (refl, e)

-- Comments.

-- what follows a `*` plays no part in the first byte
first_same : (p : ℕ → Bool) (body x y : List ℕ) → begins_with p (body ++ 42 ∷ x) ≡ begins_with p (body ++ 42 ∷ y)
first_same p [] x y = refl
first_same p (b ∷ body) x y = refl

pub record IsInside (bytes : List ℕ) (n : ℕ) (body rest : List ℕ) : Type 0 where
  pub whole : bytes ≡ body ++ 42 ∷ 47 ∷ rest
  pub len : n ≡ length body
  pub first : has_no_close (body ++ 42 ∷ []) ≡ true

pub inside_len-takes : (bytes : List ℕ) (n : ℕ) → inside_len bytes ≡ Some n → (body : List ℕ) × (rest : List ℕ) × IsInside bytes n body rest
inside_len-takes [] n e = absurd (cc)
inside_len-takes (b ∷ bs) n e =
    step (inside_len-takes bs) (if_either (b == 42 && begins_with (λ c. c == 47) bs) (Some 0) (option_map (λ n. 1 + n) (inside_len bs)) (Some n) e)
  where
    step : ((n : ℕ) → inside_len bs ≡ Some n → (body : List ℕ) × (rest : List ℕ) × IsInside bs n body rest)
        → (((b == 42 && begins_with (λ c. c == 47) bs) ≡ true) × ◌≡◌ {A = Option ℕ} (Some 0) (Some n))
        ⊎ (((b == 42 && begins_with (λ c. c == 47) bs) ≡ false) × (option_map (λ n. 1 + n) (inside_len bs) ≡ Some n))
        → (body : List ℕ) × (rest : List ℕ) × IsInside (b ∷ bs) n body rest
    step ih (inl h) =
        let s = both (b == 42) (begins_with (λ c. c == 47) bs) h.0 in
        ([], drop 1 bs, record { whole = ap (λ (x : ℕ). x ∷ bs) (byte_is b 42 s.0) ∙ ap (λ (x : List ℕ). 42 ∷ x) (first_is 47 bs s.1); len = sym (some_one 0 n h.1); first = refl })
    step ih (inr h) =
        let m = map_some (λ n. 1 + n) (inside_len bs) n h.1 in
        let i = ih m.0 m.1 in
        let r = i.2 in
        let same : begins_with (λ c. c == 47) (i.0 ++ 42 ∷ []) ≡ begins_with (λ c. c == 47) bs =
        first_same (λ c. c == 47) i.0 [] (47 ∷ i.1) ∙ ap (λ (x : List ℕ). begins_with (λ c. c == 47) x) (sym r.whole) in
        let not_here : not (b == 42 && begins_with (λ c. c == 47) (i.0 ++ 42 ∷ [])) ≡ true = rw same (not_true (b == 42 && begins_with (λ c. c == 47) bs) h.0) in (
          b ∷ i.0,
          i.1,
          record {
            whole = ap (λ (x : List ℕ). b ∷ x) r.whole;
            len = omega (arith, m.2, r.len);
            first = both_are (not (b == 42 && begins_with (λ c. c == 47) (i.0 ++ 42 ∷ []))) (has_no_close (i.0 ++ 42 ∷ [])) not_here r.first;
          },
        )

pub inside_len-none : (bytes : List ℕ) → inside_len bytes ≡ None → has_no_close bytes ≡ true
inside_len-none [] e = refl
inside_len-none (b ∷ bs) e =
    let s = if_none (b == 42 && begins_with (λ c. c == 47) bs) 0 (option_map (λ n. 1 + n) (inside_len bs)) e in
    both_are (not (b == 42 && begins_with (λ c. c == 47) bs)) (has_no_close bs)
    (not_true (b == 42 && begins_with (λ c. c == 47) bs) s.0)
    (inside_len-none bs (map_none (λ n. 1 + n) (inside_len bs) s.1))

pub inside_len-again : (body rest : List ℕ) → has_no_close (body ++ 42 ∷ []) ≡ true → inside_len (body ++ 42 ∷ 47 ∷ rest) ≡ Some (length body)
inside_len-again [] rest h = refl
inside_len-again (b ∷ body) rest h =
    let s = both (not (b == 42 && begins_with (λ c. c == 47) (body ++ 42 ∷ []))) (has_no_close (body ++ 42 ∷ [])) h in
    let f : (b == 42 && begins_with (λ c. c == 47) (body ++ 42 ∷ 47 ∷ rest)) ≡ false =
    rw (first_same (λ c. c == 47) body (47 ∷ rest) []) (not_false (b == 42 && begins_with (λ c. c == 47) (body ++ 42 ∷ [])) s.0) in
    rw (f, inside_len-again body rest s.1) (ap Some (omega arith))

pub inside_len-open : (bytes : List ℕ) → has_no_close bytes ≡ true → inside_len bytes ≡ None
inside_len-open [] h = refl
inside_len-open (b ∷ bs) h =
    let s = both (not (b == 42 && begins_with (λ c. c == 47) bs)) (has_no_close bs) h in
    rw (not_false (b == 42 && begins_with (λ c. c == 47) bs) s.0, inside_len-open bs s.1) refl

-- String literals.

pub record IsQuoted (escaped : Bool) (bytes : List ℕ) (n : ℕ) (body rest : List ℕ) : Type 0 where
  pub whole : bytes ≡ body ++ 34 ∷ rest
  pub len : n ≡ length body
  pub inner : is_quotable escaped body ≡ true

pub text_len-takes : (escaped : Bool) (bytes : List ℕ) (n : ℕ) → text_len escaped bytes ≡ Some n → (body : List ℕ) × (rest : List ℕ) × IsQuoted escaped bytes n body rest
text_len-takes escaped [] n e = absurd (cc)
text_len-takes true (b ∷ bs) n e = step (text_len-takes false bs) (if_either (b == 10) None (option_map (λ n. 1 + n) (text_len false bs)) (Some n) e)
  where
    step : ((n : ℕ) → text_len false bs ≡ Some n → (body : List ℕ) × (rest : List ℕ) × IsQuoted false bs n body rest)
        → (((b == 10) ≡ true) × ◌≡◌ {A = Option ℕ} None (Some n)) ⊎ (((b == 10) ≡ false) × (option_map (λ n. 1 + n) (text_len false bs) ≡ Some n))
        → (body : List ℕ) × (rest : List ℕ) × IsQuoted true (b ∷ bs) n body rest
    step ih (inl h) = let f = h.1 in absurd (cc)
    step ih (inr h) =
        let m = map_some (λ n. 1 + n) (text_len false bs) n h.1 in
        let i = ih m.0 m.1 in
        let r = i.2 in (
          b ∷ i.0,
          i.1,
          record {
            whole = ap (λ (x : List ℕ). b ∷ x) r.whole;
            len = omega (arith, m.2, r.len);
            inner = both_are (is_in_line b) (is_quotable false i.0) (not_true (b == 10) h.0) r.inner;
          },
        )
text_len-takes false (b ∷ bs) n e =
    step (text_len-takes (b == 92) bs) (if_either (b == 10) None (if b == 34 then Some 0 else option_map (λ n. 1 + n) (text_len (b == 92) bs)) (Some n) e)
  where
    quote : ((n : ℕ) → text_len (b == 92) bs ≡ Some n → (body : List ℕ) × (rest : List ℕ) × IsQuoted (b == 92) bs n body rest) → (b == 10) ≡ false
        → (((b == 34) ≡ true) × ◌≡◌ {A = Option ℕ} (Some 0) (Some n)) ⊎ (((b == 34) ≡ false) × (option_map (λ n. 1 + n) (text_len (b == 92) bs) ≡ Some n))
        → (body : List ℕ) × (rest : List ℕ) × IsQuoted false (b ∷ bs) n body rest
    quote ih l (inl h) = ([], bs, record { whole = ap (λ (x : ℕ). x ∷ bs) (byte_is b 34 h.0); len = sym (some_one 0 n h.1); inner = refl })
    quote ih l (inr h) =
        let m = map_some (λ n. 1 + n) (text_len (b == 92) bs) n h.1 in
        let i = ih m.0 m.1 in
        let r = i.2 in (
          b ∷ i.0,
          i.1,
          record {
            whole = ap (λ (x : List ℕ). b ∷ x) r.whole;
            len = omega (arith, m.2, r.len);
            inner = both_are (is_in_line b) (not (b == 34) && is_quotable (b == 92) i.0) (not_true (b == 10) l) (both_are (not (b == 34)) (is_quotable (b == 92) i.0) (not_true (b == 34) h.0) r.inner);
          },
        )

    step : ((n : ℕ) → text_len (b == 92) bs ≡ Some n → (body : List ℕ) × (rest : List ℕ) × IsQuoted (b == 92) bs n body rest)
        → (((b == 10) ≡ true) × ◌≡◌ {A = Option ℕ} None (Some n))
        ⊎ (((b == 10) ≡ false) × ((if b == 34 then Some 0 else option_map (λ n. 1 + n) (text_len (b == 92) bs)) ≡ Some n))
        → (body : List ℕ) × (rest : List ℕ) × IsQuoted false (b ∷ bs) n body rest
    step ih (inl h) = let f = h.1 in absurd (cc)
    step ih (inr h) = quote ih h.0 (if_either (b == 34) (Some 0) (option_map (λ n. 1 + n) (text_len (b == 92) bs)) (Some n) h.1)

pub text_len-again : (escaped : Bool) (body rest : List ℕ) → is_quotable escaped body ≡ true → text_len escaped (body ++ 34 ∷ rest) ≡ Some (length body)
text_len-again true [] rest h = absurd (cc)
text_len-again false [] rest h = refl
text_len-again true (b ∷ body) rest h =
    let s = both (is_in_line b) (is_quotable false body) h in
    rw (not_false (b == 10) s.0, text_len-again false body rest s.1) (ap Some (omega arith))
text_len-again false (b ∷ body) rest h =
    let s = both (is_in_line b) (not (b == 34) && is_quotable (b == 92) body) h in
    let q = both (not (b == 34)) (is_quotable (b == 92) body) s.1 in
    rw (not_false (b == 10) s.0, not_false (b == 34) q.0, text_len-again (b == 92) body rest q.1) (ap Some (omega arith))
