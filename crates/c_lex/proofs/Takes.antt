-- The piece that is read is one that stands first.
use Rattle.std.proofs.Common.{◌≡◌, ◌⊎◌, inl, inr, ◌+◌, ◌<◌, ◌≤◌, ◌^◌, ◌++◌, ◌∷◌, [], ℕ, List, Bool, true, false, Option, Some, None, refl, ap, sym, ◌∙◌, subst, take, drop, length, append_assoc, length-append, add-one, arith}
use Rattle.std.specs.Prelude.{◌==◌, ◌||◌, ◌&&◌, not, nat_le, if◌then◌else◌}
use Rattle.std.specs.List.{prefix_len, list_all}
use Rattle.std.specs.Char.{is_ascii_digit}
use Rattle.std.proofs.lemmas.Bool.Decides.{nat_tests}
use Rattle.std.proofs.lemmas.List.{take-append-drop}
use Rattle.std.proofs.lemmas.List.Folds.{length-prefix_len}
use Rattle.c_lex.specs.declared.piece.Piece.{Piece}
use Rattle.c_lex.specs.declared.piece.Piece.TheVariants as Q
use Rattle.c_lex.specs.declared.token.Number.{Number}
use Rattle.c_lex.specs.declared.token.Punct.{Punct}
use Rattle.c_lex.specs.declared.token.TokenKind.{TokenKind}
use Rattle.c_lex.specs.declared.token.TokenKind.TheVariants as K
use Rattle.c_lex.specs.Bytes.{begins_with, is_blank, is_in_line}
use Rattle.c_lex.specs.Spellings.{IsLongest, puncts, begins_word, goes_on, is_word, word_of, IsNumber, spoils, escape, is_plain}
use Rattle.c_lex.specs.Tokens.{has_no_close, is_line_end, is_marker, IsGap, begins_other, Spells, IsNote}
use Rattle.c_lex.specs.Tokens as T
use Rattle.c_lex.specs.inner.Reading.{◌>>=◌, either, first_row, punct_at, word_at, number_at, escaped_at, char_value, char_at, text_len, text_at, inside_len, line_len, block_at, line_at, slash_at, marker_at, symbol_at, piece_at}
use Rattle.c_lex.proofs.Runs.{both, both_are, not_true, not_false, run_all, run_ends, begins-split}
use Rattle.c_lex.proofs.LongestRow.{is_ordered, first_row-takes}
use Rattle.c_lex.proofs.Numbers.{IsSplit}
use Rattle.c_lex.proofs.Counted.{Counted, number_at-takes}
use Rattle.c_lex.proofs.Scans.{first_is, byte_is, inside_len-takes, inside_len-none, text_len-takes}

-- what a piece says of the bytes
abbrev pub Reads : Bool → Bool → List ℕ → Piece → Type 0
Reads note fresh bytes (Q.Gap n) = (text : List ℕ) × (rest : List ℕ) × IsSplit bytes n text rest × IsGap note fresh text rest
Reads note fresh bytes (Q.Token kind n) = (text : List ℕ) × (rest : List ℕ) × IsSplit bytes n text rest × Spells note fresh kind text rest
Reads note fresh bytes (Q.Note n) = (inside : List ℕ) × (after : List ℕ) × (note ≡ false) × IsNote bytes inside after × (n ≡ length inside)
Reads note fresh bytes (Q.Bad n) =
    (n ≡ 0) ⊎ ((v : Number) × (text : List ℕ) × (rest : List ℕ) × IsSplit bytes n text rest × IsNumber v text rest × (spoils note rest ≡ true))
Reads note fresh bytes Q.Open = (body : List ℕ) × (note ≡ false) × (bytes ≡ 47 ∷ 42 ∷ body) × (has_no_close body ≡ true)
Reads note fresh bytes Q.Wide =
    (v : Number) × (text : List ℕ) × (rest : List ℕ) × (bytes ≡ text ++ rest) × IsNumber v text rest × (spoils note rest ≡ false) × (2 ^ 127 ≤ v.value)
Reads note fresh bytes Q.Directive = (body : List ℕ) × (fresh ≡ true) × (bytes ≡ 35 ∷ body) × (is_marker note body ≡ false)
Reads note fresh bytes Q.Long = (text : List ℕ) × (rest : List ℕ) × (bytes ≡ text ++ rest) × (is_word note text rest ≡ true) × (256 < length text)

-- Numbers.

of_number : (note fresh : Bool) (bytes : List ℕ) (p : Piece) → Counted note bytes p → Reads note fresh bytes p
of_number note fresh bytes (Q.Token kind n) h =
    (h.1, h.2, h.3, subst (λ (k : TokenKind). Spells note fresh k h.1 h.2) (sym h.4) (h.5, h.6, h.7))
of_number note fresh bytes (Q.Bad n) h = inr h
of_number note fresh bytes Q.Wide h = h
of_number note fresh bytes (Q.Gap n) h = absurd h
of_number note fresh bytes (Q.Note n) h = absurd h
of_number note fresh bytes Q.Open h = absurd h
of_number note fresh bytes Q.Directive h = absurd h
of_number note fresh bytes Q.Long h = absurd h

-- Words.

-- a word that isn't `\` alone
word_is : (note : Bool) (b : ℕ) (more : List ℕ) → begins_word note b ≡ true → (b == 92 && prefix_len (goes_on b) more == 0) ≡ false
    → is_word note (b ∷ take (prefix_len (goes_on b) more) more) (drop (prefix_len (goes_on b) more) more) ≡ true
word_is note b more w l =
    let run : List ℕ = take (prefix_len (goes_on b) more) more in
    let rest : List ℕ = drop (prefix_len (goes_on b) more) more in
    let len : length run ≡ prefix_len (goes_on b) more = length-prefix_len (goes_on b) more in
    both_are (begins_word note b && list_all (goes_on b) run && not (begins_with (goes_on b) rest)) (not (b == 92) || nat_le 1 (length run))
    (both_are (begins_word note b && list_all (goes_on b) run) (not (begins_with (goes_on b) rest))
    (both_are (begins_word note b) (list_all (goes_on b) run) w (run_all (goes_on b) more))
    (not_true (begins_with (goes_on b) rest) (run_ends (goes_on b) more)))
    (rw len (some (b == 92) l))
  where
    some : (c : Bool) → (c && prefix_len (goes_on b) more == 0) ≡ false → (not c || nat_le 1 (prefix_len (goes_on b) more)) ≡ true
    some true e = grind (arith, nat_tests)
    some false e = refl

word_at-takes : (note fresh : Bool) (b : ℕ) (more : List ℕ) → begins_word note b ≡ true → Reads note fresh (b ∷ more) (word_at b more)
unfolding word_at
word_at-takes note fresh b more w = lone (b == 92 && n == 0) refl
  where
    n : ℕ
    n = prefix_len (goes_on b) more

    whole : b ∷ more ≡ (b ∷ take n more) ++ drop n more
    whole = ap (λ (x : List ℕ). b ∷ x) (sym (take-append-drop n more))

    len : length (take n more) ≡ n
    len = length-prefix_len (goes_on b) more

    long : (b == 92 && n == 0) ≡ false → (c : Bool) → nat_le 256 n ≡ c
        → Reads note fresh (b ∷ more) (if c then Q.Long else Q.Token (K.Word (word_of (take (n + 1) (b ∷ more)))) (n + 1))
    long l true e = let many : 256 ≤ n = grind (arith, nat_tests) in (b ∷ take n more, drop n more, whole, word_is note b more w l, omega (arith, len))
    long l false e =
        let few : n < 256 = grind (arith, nat_tests) in (
          b ∷ take n more,
          drop n more,
          record { whole = whole; len = omega (arith, len) },
          (word_is note b more w l, omega (arith, len), ap word_of (rw (add-one n) refl)),
        )

    lone : (c : Bool) → (b == 92 && n == 0) ≡ c
        → Reads note fresh (b ∷ more) (if c then Q.Bad 0 else (if nat_le 256 n then Q.Long else Q.Token (K.Word (word_of (take (n + 1) (b ∷ more)))) (n + 1)))
    lone true e = inl refl
    lone false e = long e (nat_le 256 n) refl

-- Punctuators.

pub ordered : is_ordered puncts ≡ true
unfolding puncts
ordered = refl

punct_at-takes : (note fresh : Bool) (bytes : List ℕ) → begins_other note fresh bytes ≡ false → Reads note fresh bytes (punct_at note bytes)
unfolding punct_at
punct_at-takes note fresh bytes o = step (first_row note puncts bytes) refl
  where
    step : (r : Option (Punct × ℕ)) → first_row note puncts bytes ≡ r → Reads note fresh bytes (either r (λ r. Q.Token (K.Punct r.0) r.1) (Q.Bad 0))
    step None e = inl refl
    step (Some r) e =
        let t = first_row-takes note puncts bytes r.0 r.1 ordered e in
        let whole : bytes ≡ t.0 ++ drop (length t.0) bytes = begins-split t.0 bytes t.1.first in (
          t.0,
          drop (length t.0) bytes,
          record { whole = whole; len = t.2 },
          (subst (λ (x : List ℕ). IsLongest note puncts t.0 r.0 x) whole t.1, subst (λ (x : List ℕ). begins_other note fresh x ≡ false) whole o),
        )

-- Character constants and string literals.

char_of : (note fresh : Bool) (c n : ℕ) (text rest more : List ℕ) → 39 ∷ more ≡ text ++ rest → n ≡ length text → T.Spells note fresh (K.Char c) text rest
    → Reads note fresh (39 ∷ more) (Q.Token (K.Char c) n)
char_of note fresh c n text rest more w l h = (text, rest, record { whole = w; len = l }, h)

char_at-takes : (note fresh : Bool) (more : List ℕ) → Reads note fresh (39 ∷ more) (char_at more)
unfolding char_at char_value escaped_at
char_at-takes note fresh [] = inl refl
char_at-takes note fresh (c ∷ more) = escaped (c == 92) refl
  where
    Result : Option (ℕ × ℕ) → Type 0
    Result o = Reads note fresh (39 ∷ c ∷ more) (either o (λ c. Q.Token (K.Char c.0) c.1) (Q.Bad 0))

    plain : (t : Bool) → (is_plain c && begins_with (λ b. b == 39) more) ≡ t
        → Reads note fresh (39 ∷ c ∷ more) (either (if◌then◌else◌ {A = Option (ℕ × ℕ)} t (Some (c, 3)) None) (λ c. Q.Token (K.Char c.0) c.1) (Q.Bad 0))
    plain false e = inl refl
    plain true e =
        let s = both (is_plain c) (begins_with (λ b. b == 39) more) e in
        char_of note fresh c 3 (39 ∷ c ∷ 39 ∷ []) (drop 1 more) (c ∷ more) (ap (λ (x : List ℕ). 39 ∷ c ∷ x) (first_is 39 more s.1)) refl (inl (refl, s.0))

    closed : (b v : ℕ) (rest : List ℕ) → c ≡ 92 → more ≡ b ∷ rest → escape b ≡ Some v → (t : Bool) → begins_with (λ b. b == 39) rest ≡ t
        → Reads note fresh (39 ∷ c ∷ more) (either (if◌then◌else◌ {A = Option (ℕ × ℕ)} t (Some (v, 4)) None) (λ c. Q.Token (K.Char c.0) c.1) (Q.Bad 0))
    closed b v rest p q e false t = inl refl
    closed b v rest p q e true t =
        char_of note fresh v 4 (39 ∷ 92 ∷ b ∷ 39 ∷ []) (drop 1 rest) (c ∷ more)
        (ap (λ (x : ℕ). 39 ∷ x ∷ more) p ∙ ap (λ (x : List ℕ). 39 ∷ 92 ∷ x) q ∙ ap (λ (x : List ℕ). 39 ∷ 92 ∷ b ∷ x) (first_is 39 rest t)) refl (inr (b, refl, e))

    value : (b : ℕ) (rest : List ℕ) → c ≡ 92 → more ≡ b ∷ rest → (o : Option ℕ) → escape b ≡ o
        → Reads note fresh (39 ∷ c ∷ more) (either (◌>>=◌ o (λ v. if◌then◌else◌ {A = Option (ℕ × ℕ)} (begins_with (λ b. b == 39) rest) (Some (v, 4)) None)) (λ c. Q.Token (K.Char c.0) c.1) (Q.Bad 0))
    value b rest p q None e = inl refl
    value b rest p q (Some v) e = closed b v rest p q e (begins_with (λ b. b == 39) rest) refl

    second : c ≡ 92 → (l : List ℕ) → more ≡ l → Reads note fresh (39 ∷ c ∷ more) (either (escaped_at l) (λ c. Q.Token (K.Char c.0) c.1) (Q.Bad 0))
    second p [] q = inl refl
    second p (b ∷ rest) q = value b rest p q (escape b) refl

    escaped : (t : Bool) → (c == 92) ≡ t
        → Reads note fresh (39 ∷ c ∷ more)
        (either (if t then escaped_at more else (if is_plain c && begins_with (λ b. b == 39) more then Some (c, 3) else None)) (λ c. Q.Token (K.Char c.0) c.1) (Q.Bad 0))
    escaped true e = second (byte_is c 92 e) more refl
    escaped false e = plain (is_plain c && begins_with (λ b. b == 39) more) refl

text_at-takes : (note fresh : Bool) (more : List ℕ) → Reads note fresh (34 ∷ more) (text_at more)
unfolding text_at
text_at-takes note fresh more = step (text_len false more) refl
  where
    step : (o : Option ℕ) → text_len false more ≡ o → Reads note fresh (34 ∷ more) (either o (λ n. Q.Token K.Text (n + 2)) (Q.Bad 0))
    step None e = inl refl
    step (Some n) e =
        let t = text_len-takes false more n e in
        let q = t.2 in (
          34 ∷ (t.0 ++ 34 ∷ []),
          t.1,
          record {
            whole = ap (λ (x : List ℕ). 34 ∷ x) (q.whole ∙ sym (append_assoc t.0 (34 ∷ []) t.1));
            len = omega (arith, q.len, length-append t.0 (34 ∷ []));
          },
          (t.0, refl, q.inner),
        )

-- Comments, notes and line markers.

block_at-takes : (fresh : Bool) (rest : List ℕ) → Reads false fresh (47 ∷ 42 ∷ rest) (block_at rest)
unfolding block_at
block_at-takes fresh rest = step (begins_with (λ b. b == 64) rest) refl
  where
    note : rest ≡ 64 ∷ drop 1 rest → (o : Option ℕ) → inside_len (drop 1 rest) ≡ o → Reads false fresh (47 ∷ 42 ∷ rest) (either o Q.Note Q.Open)
    note w None e = (rest, refl, refl, subst (λ (x : List ℕ). has_no_close x ≡ true) (sym w) (inside_len-none (drop 1 rest) e))
    note w (Some n) e =
        let t = inside_len-takes (drop 1 rest) n e in
        let i = t.2 in
        (t.0, 42 ∷ 47 ∷ t.1, refl, inl (t.1, ap (λ (x : List ℕ). 47 ∷ 42 ∷ x) (w ∙ ap (λ (x : List ℕ). 64 ∷ x) i.whole), refl, i.first), i.len)

    not_at : (body : List ℕ) (more : List ℕ) → rest ≡ body ++ 42 ∷ more → begins_with (λ b. b == 64) rest ≡ false → begins_with (λ b. b == 64) body ≡ false
    not_at [] more w e = refl
    not_at (b ∷ body) more w e = subst (λ (x : List ℕ). begins_with (λ b. b == 64) x ≡ false) w e

    comment : begins_with (λ b. b == 64) rest ≡ false → (o : Option ℕ) → inside_len rest ≡ o → Reads false fresh (47 ∷ 42 ∷ rest) (either o (λ n. Q.Gap (n + 4)) Q.Open)
    comment a None e = (rest, refl, refl, inside_len-none rest e)
    comment a (Some n) e =
        let t = inside_len-takes rest n e in
        let i = t.2 in (
          47 ∷ 42 ∷ (t.0 ++ 42 ∷ 47 ∷ []),
          t.1,
          record {
            whole = ap (λ (x : List ℕ). 47 ∷ 42 ∷ x) (i.whole ∙ sym (append_assoc t.0 (42 ∷ 47 ∷ []) t.1));
            len = omega (arith, i.len, length-append t.0 (42 ∷ 47 ∷ []));
          },
          T.Block t.0 refl refl (not_at t.0 (47 ∷ t.1) i.whole a) i.first,
        )

    step : (c : Bool) → begins_with (λ b. b == 64) rest ≡ c
        → Reads false fresh (47 ∷ 42 ∷ rest) (if c then either (inside_len (drop 1 rest)) Q.Note Q.Open else either (inside_len rest) (λ n. Q.Gap (n + 4)) Q.Open)
    step true e = note (first_is 64 rest e) (inside_len (drop 1 rest)) refl
    step false e = comment e (inside_len rest) refl

line_all : (bytes : List ℕ) → list_all is_in_line (take (line_len bytes) bytes) ≡ true
line_all bytes = run_all is_in_line bytes

line_ends_there : (bytes : List ℕ) → is_line_end (drop (line_len bytes) bytes) ≡ true
line_ends_there bytes = not_true (begins_with is_in_line (drop (line_len bytes) bytes)) (run_ends is_in_line bytes)

line_at-takes : (fresh : Bool) (rest : List ℕ) → Reads false fresh (47 ∷ 47 ∷ rest) (line_at rest)
unfolding line_at
line_at-takes fresh rest = step (begins_with (λ b. b == 64) rest) refl
  where
    step : (c : Bool) → begins_with (λ b. b == 64) rest ≡ c → Reads false fresh (47 ∷ 47 ∷ rest) (if c then Q.Note (line_len (drop 1 rest)) else Q.Gap (line_len rest + 2))
    step true e =
        let inside : List ℕ = drop 1 rest in
        let n : ℕ = line_len inside in (
          take n inside,
          drop n inside,
          refl,
          inr (
            ap (λ (x : List ℕ). 47 ∷ 47 ∷ x) (first_is 64 rest e ∙ ap (λ (x : List ℕ). 64 ∷ x) (sym (take-append-drop n inside))),
            line_all inside,
            line_ends_there inside,
          ),
          sym (length-prefix_len is_in_line inside),
        )
    step false e =
        let n : ℕ = line_len rest in
        let back : rest ≡ take n rest ++ drop n rest = sym (take-append-drop n rest) in (
          47 ∷ 47 ∷ take n rest,
          drop n rest,
          record {
            whole = ap (λ (x : List ℕ). 47 ∷ 47 ∷ x) back;
            len = omega (arith, length-prefix_len is_in_line rest);
          },
          T.Line (take n rest) refl refl (subst (λ (x : List ℕ). begins_with (λ b. b == 64) x ≡ false) back e) (line_all rest) (line_ends_there rest),
        )

marker_at-takes : (note : Bool) (more : List ℕ) → Reads note true (35 ∷ more) (marker_at note more)
unfolding marker_at
marker_at-takes note more = step (is_marker note more) refl
  where
    step : (c : Bool) → is_marker note more ≡ c → Reads note true (35 ∷ more) (if c then Q.Gap (line_len more + 1) else Q.Directive)
    step true e =
        let n : ℕ = line_len more in
        let back : more ≡ take n more ++ drop n more = sym (take-append-drop n more) in (
          35 ∷ take n more,
          drop n more,
          record {
            whole = ap (λ (x : List ℕ). 35 ∷ x) back;
            len = omega (arith, length-prefix_len is_in_line more);
          },
          T.Marker (take n more) refl refl (subst (λ (x : List ℕ). is_marker note x ≡ true) back e) (line_all more) (line_ends_there more),
        )
    step false e = (more, refl, refl, e)

-- Symbols.

-- no comment or note, and no `#` that stands first
no_other : (n f x s c d : Bool) → (x && not n) ≡ false → (s && f) ≡ false
    → (not n && (x && (c && true) || x && (d && true)) || f && (s && true)) ≡ false
no_other n f true true c d e g = both_no n f e g
  where
    both_no : (n f : Bool) → not n ≡ false → f ≡ false → (not n && ((c && true) || (d && true)) || f && true) ≡ false
    both_no n f e g = rw (e, g) refl
no_other n f false true c d e g = no_first n f g
  where
    no_first : (n f : Bool) → f ≡ false → (not n && false || f && true) ≡ false
    no_first true f g = rw g refl
    no_first false f g = rw g refl
no_other n f true false c d e g = no_slash n f e
  where
    no_slash : (n f : Bool) → not n ≡ false → (not n && ((c && true) || (d && true)) || f && false) ≡ false
    no_slash n true e = rw e refl
    no_slash n false e = rw e refl
no_other n f false false c d e g = none n f
  where
    none : (n f : Bool) → (not n && false || f && false) ≡ false
    none true true = refl
    none true false = refl
    none false true = refl
    none false false = refl

slash_at-takes : (fresh : Bool) (more : List ℕ) → Reads false fresh (47 ∷ more) (slash_at (47 ∷ more) more)
unfolding slash_at
slash_at-takes fresh more = star (begins_with (λ b. b == 42) more) refl
  where
    slash : begins_with (λ b. b == 42) more ≡ false → (c : Bool) → begins_with (λ b. b == 47) more ≡ c
        → Reads false fresh (47 ∷ more) (if c then line_at (drop 1 more) else punct_at false (47 ∷ more))
    slash s true e = subst (λ (x : List ℕ). Reads false fresh (47 ∷ x) (line_at (drop 1 more))) (sym (first_is 47 more e)) (line_at-takes fresh (drop 1 more))
    slash s false e = punct_at-takes false fresh (47 ∷ more) (none fresh)
      where
        none : (f : Bool) → begins_other false f (47 ∷ more) ≡ false
        none true = rw (s, e) refl
        none false = rw (s, e) refl

    star : (c : Bool) → begins_with (λ b. b == 42) more ≡ c
        → Reads false fresh (47 ∷ more) (if c then block_at (drop 1 more) else (if begins_with (λ b. b == 47) more then line_at (drop 1 more) else punct_at false (47 ∷ more)))
    star true e = subst (λ (x : List ℕ). Reads false fresh (47 ∷ x) (block_at (drop 1 more))) (sym (first_is 42 more e)) (block_at-takes fresh (drop 1 more))
    star false e = slash e (begins_with (λ b. b == 47) more) refl

symbol_at-takes : (note fresh : Bool) (b : ℕ) (more : List ℕ) → Reads note fresh (b ∷ more) (symbol_at note fresh b more)
unfolding symbol_at
symbol_at-takes note fresh b more = quote (b == 39) refl
  where
    hash : Piece
    hash = if b == 35 && fresh then marker_at note more else punct_at note (b ∷ more)

    slashed : Piece
    slashed = if b == 47 && not note then slash_at (b ∷ more) more else hash

    other : (b == 47 && not note) ≡ false → (c : Bool) → (b == 35 && fresh) ≡ c → Reads note fresh (b ∷ more) (if c then marker_at note more else punct_at note (b ∷ more))
    other s true e =
        let t = both (b == 35) fresh e in
        subst (λ (x : ℕ). Reads note fresh (x ∷ more) (marker_at note more)) (sym (byte_is b 35 t.0))
        (subst (λ (x : Bool). Reads note x (35 ∷ more) (marker_at note more)) (sym t.1) (marker_at-takes note more))
    other s false e =
        punct_at-takes note fresh (b ∷ more) (no_other note fresh (b == 47) (b == 35) (begins_with (λ c. c == 42) more) (begins_with (λ c. c == 47) more) s e)

    slash : (c : Bool) → (b == 47 && not note) ≡ c
        → Reads note fresh (b ∷ more) (if c then slash_at (b ∷ more) more else hash)
    slash true e =
        let t = both (b == 47) (not note) e in
        subst (λ (x : ℕ). Reads note fresh (x ∷ more) (slash_at (x ∷ more) more)) (sym (byte_is b 47 t.0))
        (subst (λ (x : Bool). Reads x fresh (47 ∷ more) (slash_at (47 ∷ more) more)) (sym (not_false note t.1)) (slash_at-takes fresh more))
    slash false e = other e (b == 35 && fresh) refl

    double : (c : Bool) → (b == 34) ≡ c
        → Reads note fresh (b ∷ more) (if c then text_at more else slashed)
    double true e = subst (λ (x : ℕ). Reads note fresh (x ∷ more) (text_at more)) (sym (byte_is b 34 e)) (text_at-takes note fresh more)
    double false e = slash (b == 47 && not note) refl

    quote : (c : Bool) → (b == 39) ≡ c
        → Reads note fresh (b ∷ more) (if c then char_at more else (if b == 34 then text_at more else slashed))
    quote true e = subst (λ (x : ℕ). Reads note fresh (x ∷ more) (char_at more)) (sym (byte_is b 39 e)) (char_at-takes note fresh more)
    quote false e = double (b == 34) refl

pub piece_at-takes : (note fresh : Bool) (b : ℕ) (more : List ℕ) → Reads note fresh (b ∷ more) (piece_at note fresh b more)
unfolding piece_at
piece_at-takes note fresh b more = blank (is_blank note b) refl
  where
    number : (c : Bool) → is_ascii_digit b ≡ c → Reads note fresh (b ∷ more) (if c then number_at note (b ∷ more) else symbol_at note fresh b more)
    number true e = of_number note fresh (b ∷ more) (number_at note (b ∷ more)) (number_at-takes note (b ∷ more) e)
    number false e = symbol_at-takes note fresh b more

    word : (c : Bool) → begins_word note b ≡ c
        → Reads note fresh (b ∷ more) (if c then word_at b more else (if is_ascii_digit b then number_at note (b ∷ more) else symbol_at note fresh b more))
    word true e = word_at-takes note fresh b more e
    word false e = number (is_ascii_digit b) refl

    blank : (c : Bool) → is_blank note b ≡ c
        → Reads note fresh (b ∷ more) (if c then Q.Gap 1 else (if begins_word note b then word_at b more else (if is_ascii_digit b then number_at note (b ∷ more) else symbol_at note fresh b more)))
    blank true e = (b ∷ [], more, record { whole = refl; len = refl }, T.Byte b refl e)
    blank false e = word (begins_word note b) refl
