-- The piece that stands first is the one that is read.
use Rattle.std.proofs.Common.{◌≡◌, inl, inr, ◌+◌, ◌<◌, ◌≤◌, ◌^◌, ◌++◌, ◌∷◌, [], ℕ, List, Bool, true, false, Option, Some, None, refl, ap, sym, ◌∙◌, subst, drop, length, append_assoc, length-append, add-one, arith}
use Rattle.std.specs.Prelude.{◌==◌, ◌||◌, ◌&&◌, not, nat_le, if◌then◌else◌}
use Rattle.std.specs.List.{prefix_len, list_all}
use Rattle.std.specs.Char.{is_ascii_digit}
use Rattle.std.proofs.lemmas.Bool.Decides.{nat_tests}
use Rattle.std.proofs.Math.Seq.{take-append_seam}
use Rattle.c_lex.specs.declared.piece.Piece.{Piece}
use Rattle.c_lex.specs.declared.piece.Piece.TheVariants as Q
use Rattle.c_lex.specs.declared.token.Number.{Number}
use Rattle.c_lex.specs.declared.token.Punct.{Punct}
use Rattle.c_lex.specs.declared.token.Word.{Word}
use Rattle.c_lex.specs.declared.token.TokenKind.{TokenKind}
use Rattle.c_lex.specs.declared.token.TokenKind.TheVariants as K
use Rattle.c_lex.specs.Bytes.{begins_with, is_blank, is_in_line}
use Rattle.c_lex.specs.Spellings.{Row, Has, IsLongest, puncts, begins_word, goes_on, is_word, word_of, IsNumber, spoils, escape, is_plain, IsChar, IsText}
use Rattle.c_lex.specs.Tokens.{has_no_close, is_line_end, is_marker, IsGap, begins_other, Spells, IsNote}
use Rattle.c_lex.specs.Tokens as T
use Rattle.c_lex.specs.inner.Reading.{either, punct_at, word_at, number_at, escaped_at, char_value, char_at, text_len, text_at, inside_len, line_len, block_at, line_at, slash_at, marker_at, symbol_at, piece_at}
use Rattle.c_lex.proofs.Runs.{both, not_false, run_len}
use Rattle.c_lex.proofs.LongestRow.{first_row-again}
use Rattle.c_lex.proofs.Counted.{spoiled-again, number-again, too_wide-again}
use Rattle.c_lex.proofs.Scans.{inside_len-again, inside_len-open, text_len-again}
use Rattle.c_lex.proofs.Takes.{ordered}

-- the piece that stands first in some bytes
abbrev pub read : Bool → Bool → List ℕ → Piece
read note fresh [] = Q.Bad 0
read note fresh (b ∷ more) = piece_at note fresh b more

-- Comments, notes and line markers.

pub read_block : (fresh : Bool) (rest : List ℕ) → read false fresh (47 ∷ 42 ∷ rest) ≡ block_at rest
unfolding piece_at symbol_at slash_at
read_block fresh rest = refl

pub read_line : (fresh : Bool) (rest : List ℕ) → read false fresh (47 ∷ 47 ∷ rest) ≡ line_at rest
unfolding piece_at symbol_at slash_at
read_line fresh rest = refl

pub read_marker : (note : Bool) (rest : List ℕ) → read note true (35 ∷ rest) ≡ marker_at note rest
unfolding piece_at symbol_at
read_marker true rest = refl
read_marker false rest = refl

no_at : (body more : List ℕ) → begins_with (λ b. b == 64) body ≡ false → begins_with (λ b. b == 64) (body ++ 42 ∷ more) ≡ false
no_at [] more e = refl
no_at (b ∷ body) more e = e

block-gap : (body rest : List ℕ) → begins_with (λ b. b == 64) body ≡ false → has_no_close (body ++ 42 ∷ []) ≡ true → block_at (body ++ 42 ∷ 47 ∷ rest) ≡ Q.Gap (length body + 4)
unfolding block_at
block-gap body rest a h = rw (no_at body (47 ∷ rest) a, inside_len-again body rest h) refl

block-note : (inside rest : List ℕ) → has_no_close (inside ++ 42 ∷ []) ≡ true → block_at (64 ∷ (inside ++ 42 ∷ 47 ∷ rest)) ≡ Q.Note (length inside)
unfolding block_at
block-note inside rest h = rw (inside_len-again inside rest h) refl

block-open : (body : List ℕ) → has_no_close body ≡ true → block_at body ≡ Q.Open
unfolding block_at
block-open [] h = refl
block-open (b ∷ body) h = step (b == 64)
  where
    tail : inside_len body ≡ None
    tail = inside_len-open body (both (not (b == 42 && begins_with (λ c. c == 47) body)) (has_no_close body) h).1

    step : (c : Bool) → (if c then either (inside_len body) Q.Note Q.Open else either (inside_len (b ∷ body)) (λ n. Q.Gap (n + 4)) Q.Open) ≡ Q.Open
    step true = rw tail refl
    step false = ap (λ (o : Option ℕ). either o (λ n. Q.Gap (n + 4)) Q.Open) (inside_len-open (b ∷ body) h)

line_is : (body rest : List ℕ) → list_all is_in_line body ≡ true → is_line_end rest ≡ true → line_len (body ++ rest) ≡ length body
line_is body rest a e = run_len is_in_line body rest a (not_false (begins_with is_in_line rest) e)

line-gap : (body rest : List ℕ) → begins_with (λ b. b == 64) (body ++ rest) ≡ false → list_all is_in_line body ≡ true → is_line_end rest ≡ true
    → line_at (body ++ rest) ≡ Q.Gap (length body + 2)
unfolding line_at
line-gap body rest h a e = rw (h, line_is body rest a e) refl

line-note : (inside after : List ℕ) → list_all is_in_line inside ≡ true → is_line_end after ≡ true → line_at (64 ∷ (inside ++ after)) ≡ Q.Note (length inside)
unfolding line_at
line-note inside after a e = rw (line_is inside after a e) refl

marker-gap : (note : Bool) (body rest : List ℕ) → is_marker note (body ++ rest) ≡ true → list_all is_in_line body ≡ true → is_line_end rest ≡ true
    → marker_at note (body ++ rest) ≡ Q.Gap (length body + 1)
unfolding marker_at
marker-gap note body rest m a e = rw (m, line_is body rest a e) refl

marker-directive : (note : Bool) (body : List ℕ) → is_marker note body ≡ false → marker_at note body ≡ Q.Directive
unfolding marker_at
marker-directive note body m = rw m refl

read_blank : (note fresh : Bool) (b : ℕ) (more : List ℕ) → is_blank note b ≡ true → read note fresh (b ∷ more) ≡ Q.Gap 1
unfolding piece_at
read_blank note fresh b more e = rw e refl

pub gap-again : (note fresh : Bool) (text rest : List ℕ) → IsGap note fresh text rest → read note fresh (text ++ rest) ≡ Q.Gap (length text)
gap-again note fresh text rest (T.Byte b e k) =
    subst (λ (t : List ℕ). read note fresh (t ++ rest) ≡ Q.Gap (length t)) (sym e) (read_blank note fresh b rest k)
gap-again note fresh text rest (T.Block body n e a h) =
    let len : length body + 4 ≡ length (47 ∷ 42 ∷ (body ++ 42 ∷ 47 ∷ [])) = omega (arith, length-append body (42 ∷ 47 ∷ [])) in
    subst (λ (m : Bool). read m fresh (text ++ rest) ≡ Q.Gap (length text)) (sym n)
    (subst (λ (t : List ℕ). read false fresh (t ++ rest) ≡ Q.Gap (length t)) (sym e)
    (read_block fresh ((body ++ 42 ∷ 47 ∷ []) ++ rest) ∙ ap block_at (append_assoc body (42 ∷ 47 ∷ []) rest) ∙ block-gap body rest a h ∙ ap Q.Gap len))
gap-again note fresh text rest (T.Line body n e a l r) =
    let len : length body + 2 ≡ length (47 ∷ 47 ∷ body) = omega arith in
    subst (λ (m : Bool). read m fresh (text ++ rest) ≡ Q.Gap (length text)) (sym n)
    (subst (λ (t : List ℕ). read false fresh (t ++ rest) ≡ Q.Gap (length t)) (sym e)
    (read_line fresh (body ++ rest) ∙ line-gap body rest a l r ∙ ap Q.Gap len))
gap-again note fresh text rest (T.Marker body f e m l r) =
    let len : length body + 1 ≡ length (35 ∷ body) = omega arith in
    subst (λ (x : Bool). read note x (text ++ rest) ≡ Q.Gap (length text)) (sym f)
    (subst (λ (t : List ℕ). read note true (t ++ rest) ≡ Q.Gap (length t)) (sym e)
    (read_marker note (body ++ rest) ∙ marker-gap note body rest m l r ∙ ap Q.Gap len))

pub note-again : (fresh : Bool) (bytes inside after : List ℕ) → IsNote bytes inside after → read false fresh bytes ≡ Q.Note (length inside)
note-again fresh bytes inside after (inl h) =
    ap (λ (x : List ℕ). read false fresh x) (h.1 ∙ ap (λ (x : List ℕ). 47 ∷ 42 ∷ 64 ∷ (inside ++ x)) h.2)
    ∙ read_block fresh (64 ∷ (inside ++ 42 ∷ 47 ∷ h.0)) ∙ block-note inside h.0 h.3
note-again fresh bytes inside after (inr h) =
    ap (λ (x : List ℕ). read false fresh x) h.0 ∙ read_line fresh (64 ∷ (inside ++ after)) ∙ line-note inside after h.1 h.2

pub open-again : (fresh : Bool) (body : List ℕ) → has_no_close body ≡ true → read false fresh (47 ∷ 42 ∷ body) ≡ Q.Open
open-again fresh body h = read_block fresh body ∙ block-open body h

pub directive-again : (note : Bool) (body : List ℕ) → is_marker note body ≡ false → read note true (35 ∷ body) ≡ Q.Directive
directive-again note body h = read_marker note body ∙ marker-directive note body h

-- Words and numbers.

word_not_blank : (note : Bool) (b : ℕ) → begins_word note b ≡ true → is_blank note b ≡ false
word_not_blank true b e = grind (arith, nat_tests)
word_not_blank false b e = grind (arith, nat_tests)

digit_not_blank : (note : Bool) (b : ℕ) → is_ascii_digit b ≡ true → is_blank note b ≡ false
digit_not_blank true b e = grind (arith, nat_tests)
digit_not_blank false b e = grind (arith, nat_tests)

digit_not_word : (note : Bool) (b : ℕ) → is_ascii_digit b ≡ true → begins_word note b ≡ false
digit_not_word true b e = grind (arith, nat_tests)
digit_not_word false b e = grind (arith, nat_tests)

read_word : (note fresh : Bool) (b : ℕ) (more : List ℕ) → begins_word note b ≡ true → read note fresh (b ∷ more) ≡ word_at b more
unfolding piece_at
read_word note fresh b more w = rw (word_not_blank note b w, w) refl

read_number : (note fresh : Bool) (bytes : List ℕ) → begins_with is_ascii_digit bytes ≡ true → read note fresh bytes ≡ number_at note bytes
unfolding piece_at
read_number note fresh [] d = absurd (cc)
read_number note fresh (b ∷ more) d = rw (digit_not_blank note b d, digit_not_word note b d, d) refl

record WordParts (note : Bool) (b : ℕ) (bs rest : List ℕ) : Type 0 where
  first : begins_word note b ≡ true
  len : prefix_len (goes_on b) (bs ++ rest) ≡ length bs
  not_lone : (b == 92 && length bs == 0) ≡ false

word_parts : (note : Bool) (b : ℕ) (bs rest : List ℕ) → is_word note (b ∷ bs) rest ≡ true → WordParts note b bs rest
word_parts note b bs rest h =
    let s = both (begins_word note b && list_all (goes_on b) bs && not (begins_with (goes_on b) rest)) (not (b == 92) || nat_le 1 (length bs)) h in
    let t = both (begins_word note b && list_all (goes_on b) bs) (not (begins_with (goes_on b) rest)) s.0 in
    let u = both (begins_word note b) (list_all (goes_on b) bs) t.0 in
    record { first = u.0; len = run_len (goes_on b) bs rest u.1 (not_false (begins_with (goes_on b) rest) t.1); not_lone = some (b == 92) s.1 }
  where
    some : (c : Bool) → (not c || nat_le 1 (length bs)) ≡ true → (c && length bs == 0) ≡ false
    some true e = grind (arith, nat_tests)
    some false e = refl

word_at-again : (note : Bool) (b : ℕ) (bs rest : List ℕ) → is_word note (b ∷ bs) rest ≡ true → length (b ∷ bs) ≤ 256
    → word_at b (bs ++ rest) ≡ Q.Token (K.Word (word_of (b ∷ bs))) (length (b ∷ bs))
unfolding word_at
word_at-again note b bs rest h l =
    let p = word_parts note b bs rest h in
    let few : nat_le 256 (length bs) ≡ false = grind (arith, nat_tests) in
    rw (p.len, p.not_lone, few, add-one (length bs), take-append_seam bs rest) refl

long_at-again : (note : Bool) (b : ℕ) (bs rest : List ℕ) → is_word note (b ∷ bs) rest ≡ true → 256 < length (b ∷ bs) → word_at b (bs ++ rest) ≡ Q.Long
unfolding word_at
long_at-again note b bs rest h l =
    let p = word_parts note b bs rest h in
    let many : nat_le 256 (length bs) ≡ true = grind (arith, nat_tests) in
    rw (p.len, p.not_lone, many) refl

pub word-again : (note fresh : Bool) (text rest : List ℕ) → is_word note text rest ≡ true → length text ≤ 256 → read note fresh (text ++ rest) ≡ Q.Token (K.Word (word_of text)) (length text)
word-again note fresh [] rest h l = absurd (cc)
word-again note fresh (b ∷ bs) rest h l =
    read_word note fresh b (bs ++ rest) ((word_parts note b bs rest h).first) ∙ word_at-again note b bs rest h l

pub long-again : (note fresh : Bool) (text rest : List ℕ) → is_word note text rest ≡ true → 256 < length text → read note fresh (text ++ rest) ≡ Q.Long
long-again note fresh [] rest h l = absurd (cc)
long-again note fresh (b ∷ bs) rest h l =
    read_word note fresh b (bs ++ rest) ((word_parts note b bs rest h).first) ∙ long_at-again note b bs rest h l

-- Character constants and string literals.

read_char : (note fresh : Bool) (more : List ℕ) → read note fresh (39 ∷ more) ≡ char_at more
unfolding piece_at symbol_at
read_char true fresh more = refl
read_char false fresh more = refl

read_text : (note fresh : Bool) (more : List ℕ) → read note fresh (34 ∷ more) ≡ text_at more
unfolding piece_at symbol_at
read_text true fresh more = refl
read_text false fresh more = refl

char_plain : (c : ℕ) (rest : List ℕ) → is_plain c ≡ true → char_at (c ∷ 39 ∷ rest) ≡ Q.Token (K.Char c) 3
unfolding char_at char_value
char_plain c rest p =
    let s = both (nat_le 32 c && nat_le c 126 && not (c == 39)) (not (c == 92)) p in
    rw (p, not_false (c == 92) s.1) refl

char_escaped : (b c : ℕ) (rest : List ℕ) → escape b ≡ Some c → char_at (92 ∷ b ∷ 39 ∷ rest) ≡ Q.Token (K.Char c) 4
unfolding char_at char_value escaped_at
char_escaped b c rest e = rw e refl

char-again : (note fresh : Bool) (c : ℕ) (text rest : List ℕ) → IsChar c text → read note fresh (text ++ rest) ≡ Q.Token (K.Char c) (length text)
char-again note fresh c text rest (inl h) =
    subst (λ (t : List ℕ). read note fresh (t ++ rest) ≡ Q.Token (K.Char c) (length t)) (sym h.0) (read_char note fresh (c ∷ 39 ∷ rest) ∙ char_plain c rest h.1)
char-again note fresh c text rest (inr h) =
    subst (λ (t : List ℕ). read note fresh (t ++ rest) ≡ Q.Token (K.Char c) (length t)) (sym h.1) (read_char note fresh (92 ∷ h.0 ∷ 39 ∷ rest) ∙ char_escaped h.0 c rest h.2)

text_quoted : (more : List ℕ) (n : ℕ) → text_len false more ≡ Some n → text_at more ≡ Q.Token K.Text (n + 2)
unfolding text_at
text_quoted more n e = rw e refl

text-again : (note fresh : Bool) (text rest : List ℕ) → IsText text → read note fresh (text ++ rest) ≡ Q.Token K.Text (length text)
text-again note fresh text rest h =
    let body = h.0 in
    let len : length body + 2 ≡ length (34 ∷ (body ++ 34 ∷ [])) = omega (arith, length-append body (34 ∷ [])) in
    let e : text_len false ((body ++ 34 ∷ []) ++ rest) ≡ Some (length body) = rw (append_assoc body (34 ∷ []) rest) (text_len-again false body rest h.2) in
    subst (λ (t : List ℕ). read note fresh (t ++ rest) ≡ Q.Token K.Text (length t)) (sym h.1)
    (read_text note fresh ((body ++ 34 ∷ []) ++ rest) ∙ text_quoted ((body ++ 34 ∷ []) ++ rest) (length body) e ∙ ap (λ (n : ℕ). Q.Token K.Text n) len)

-- Punctuators.

-- a byte that begins nothing but a punctuator, a comment, a note or a line marker
abbrev pub is_symbol : ℕ → Bool
is_symbol b = not (is_blank true b) && not (begins_word true b) && not (is_ascii_digit b) && not (b == 39) && not (b == 34)

symbol_rows : List (Row Punct) → Bool
symbol_rows rows = list_all (λ r. begins_with is_symbol r.0) rows

all_symbols : symbol_rows puncts ≡ true
unfolding symbol_rows puncts
all_symbols = refl

row_symbol : (note : Bool) (rows : List (Row Punct)) (text : List ℕ) (p : Punct) → symbol_rows rows ≡ true → Has note rows text p → begins_with is_symbol text ≡ true
unfolding symbol_rows
row_symbol note [] text p a h = absurd h
row_symbol note (r ∷ rows) text p a (inl h) =
    subst (λ (t : List ℕ). begins_with is_symbol t ≡ true) h.1 (both (begins_with is_symbol r.0) (list_all (λ r. begins_with is_symbol r.0) rows) a).0
row_symbol note (r ∷ rows) text p a (inr h) = row_symbol note rows text p (both (begins_with is_symbol r.0) (list_all (λ r. begins_with is_symbol r.0) rows) a).1 h

pub punct_some : (note : Bool) (text : List ℕ) (p : Punct) → Has note puncts text p → begins_with is_symbol text ≡ true
punct_some note text p h = row_symbol note puncts text p all_symbols h

in_any : (note : Bool) (x y : Bool) → (x || true && y) ≡ false → (x || note && y) ≡ false
in_any true x y e = e
in_any false true y e = absurd (cc)
in_any false false y e = refl

read_symbol : (note fresh : Bool) (b : ℕ) (more : List ℕ) → is_symbol b ≡ true
    → read note fresh (b ∷ more) ≡ (if b == 47 && not note then slash_at (b ∷ more) more else (if b == 35 && fresh then marker_at note more else punct_at note (b ∷ more)))
unfolding piece_at symbol_at
read_symbol note fresh b more h =
    let s = both (not (is_blank true b) && not (begins_word true b) && not (is_ascii_digit b) && not (b == 39)) (not (b == 34)) h in
    let t = both (not (is_blank true b) && not (begins_word true b) && not (is_ascii_digit b)) (not (b == 39)) s.0 in
    let u = both (not (is_blank true b) && not (begins_word true b)) (not (is_ascii_digit b)) t.0 in
    let v = both (not (is_blank true b)) (not (begins_word true b)) u.0 in
    let blank : is_blank note b ≡ false = in_any note (b == 32 || nat_le 9 b && nat_le b 13) (b == 64) (not_false (is_blank true b) v.0) in
    let word : begins_word note b ≡ false = in_any note _ (b == 92) (not_false (begins_word true b) v.1) in
    rw (blank, word, not_false (is_ascii_digit b) u.1, not_false (b == 39) t.1, not_false (b == 34) s.1) refl

second : (n f s : Bool) → (not n && false || f && (s && true)) ≡ false → (s && f) ≡ false
second n f false e = refl
second n false true e = refl
second true true true e = e
second false true true e = e

third : (n f x s c d : Bool) (block line marker : Piece) (punct : Bool → Piece) → (not n && (x && (c && true) || x && (d && true)) || f && (s && true)) ≡ false
    → (if x && not n then (if c then block else (if d then line else punct false)) else (if s && f then marker else punct n)) ≡ punct n
third n f false s c d block line marker punct e = rw (second n f s e) refl
third true f true s c d block line marker punct e = rw (second true f s e) refl
third false f true s true d block line marker punct e = absurd (cc)
third false f true s false true block line marker punct e = absurd (cc)
third false f true s false false block line marker punct e = refl

-- where no comment, note or line marker stands first, only a punctuator can
read_punct : (note fresh : Bool) (b : ℕ) (more : List ℕ) → is_symbol b ≡ true → begins_other note fresh (b ∷ more) ≡ false → read note fresh (b ∷ more) ≡ punct_at note (b ∷ more)
unfolding slash_at
read_punct note fresh b more h o =
    read_symbol note fresh b more h
    ∙ third note fresh (b == 47) (b == 35) (begins_with (λ c. c == 42) more) (begins_with (λ c. c == 47) more)
    (block_at (drop 1 more)) (line_at (drop 1 more)) (marker_at note more) (λ n. punct_at n (b ∷ more)) o

punct_at-again : (note : Bool) (text bytes : List ℕ) (p : Punct) → IsLongest note puncts text p bytes → punct_at note bytes ≡ Q.Token (K.Punct p) (length text)
unfolding punct_at
punct_at-again note text bytes p h = rw (first_row-again note puncts bytes text p ordered h) refl

punct-again : (note fresh : Bool) (text rest : List ℕ) (p : Punct) → IsLongest note puncts text p (text ++ rest) → begins_other note fresh (text ++ rest) ≡ false
    → read note fresh (text ++ rest) ≡ Q.Token (K.Punct p) (length text)
punct-again note fresh [] rest p h o = let f = punct_some note [] p h.row in absurd (cc)
punct-again note fresh (b ∷ text) rest p h o =
    read_punct note fresh b (text ++ rest) (punct_some note (b ∷ text) p h.row) o ∙ punct_at-again note (b ∷ text) (b ∷ (text ++ rest)) p h

-- Tokens and numbers.

pub token-again : (note fresh : Bool) (kind : TokenKind) (text rest : List ℕ) → Spells note fresh kind text rest → read note fresh (text ++ rest) ≡ Q.Token kind (length text)
token-again note fresh (K.Word w) text rest h =
    word-again note fresh text rest h.0 h.1 ∙ ap (λ (x : Word). Q.Token (K.Word x) (length text)) (sym h.2)
token-again note fresh (K.Number n) text rest h = read_number note fresh (text ++ rest) h.0.begins_so ∙ number-again note n text rest h.0 h.1 h.2
token-again note fresh (K.Char c) text rest h = char-again note fresh c text rest h
token-again note fresh K.Text text rest h = text-again note fresh text rest h
token-again note fresh (K.Punct p) text rest h = punct-again note fresh text rest p h.0 h.1
token-again note fresh K.NoteFrom text rest h = absurd h
token-again note fresh K.NoteTo text rest h = absurd h

pub spoiled_read : (note fresh : Bool) (n : Number) (text rest : List ℕ) → IsNumber n text rest → spoils note rest ≡ true → read note fresh (text ++ rest) ≡ Q.Bad (length text)
spoiled_read note fresh n text rest h e = read_number note fresh (text ++ rest) h.begins_so ∙ spoiled-again note n text rest h e

pub wide_read : (note fresh : Bool) (n : Number) (text rest : List ℕ) → IsNumber n text rest → spoils note rest ≡ false → 2 ^ 127 ≤ n.value → read note fresh (text ++ rest) ≡ Q.Wide
wide_read note fresh n text rest h e l = read_number note fresh (text ++ rest) h.begins_so ∙ too_wide-again note n text rest h e l
