-- The tokens that pieces give stand in the text one after the other.
use Rattle.std.proofs.Common.{◌≡◌, ◌⊎◌, inl, inr, ℕ, ◌+◌, ◌-◌, ◌≤◌, ◌<◌, ◌++◌, ◌∷◌, [], List, Bool, true, false, Option, Some, None, refl, ap, sym, ◌∙◌, subst, length, take, drop, append_assoc, append-nil, length-append, arith}
use Rattle.std.specs.Prelude.{◌==◌, ◌&&◌, ◌||◌, not, nat_le, nat_lt, if◌then◌else◌, slice_range, codes}
use Rattle.std.specs.List.{list_all}
use Rattle.std.proofs.lemmas.Bool.Decides.{nat_tests}
use Rattle.std.proofs.lemmas.List.{length-take}
use Rattle.std.proofs.Math.Seq.{drop-append_seam, take-append_seam}
use Rattle.c_lex.specs.declared.token.Punct.{Punct}
use Rattle.c_lex.specs.declared.token.Token.{Token}
use Rattle.c_lex.specs.declared.token.TokenKind.{TokenKind}
use Rattle.c_lex.specs.declared.token.TokenKind.TheVariants as K
use Rattle.c_lex.specs.Bytes.{begins_with, begins, line_ends}
use Rattle.c_lex.specs.Spellings.{Row, Has, puncts, begins_word, goes_on, is_word}
use Rattle.c_lex.specs.Facts.{text_of, IsTextOf, IsTokenOf, AreTokensOf, are_noted_after, are_noted}
use Rattle.c_lex.specs.Tokens.{Spot, start, Spells, IsNote, Goes, IsEnd, Reaches, tokens_of, Lexes, past, in_note, past_note, token_at, close_len}
use Rattle.c_lex.specs.Tokens as T
use Rattle.c_lex.proofs.Runs.{both, both_are, some_one, begins-split}
use Rattle.c_lex.proofs.Left.{token_some}

line_ends-append : (xs ys : List ℕ) → line_ends (xs ++ ys) ≡ line_ends xs + line_ends ys
line_ends-append [] ys = omega arith
line_ends-append (b ∷ xs) ys = omega (arith, line_ends-append xs ys)

-- the spot stands in the text, with these bytes before it
record Stands (all : List ℕ) (s : Spot) : Type 0 where
  front : List ℕ
  whole : all ≡ front ++ (s.bytes ++ s.after)
  at : s.at ≡ length front
  line : s.line ≡ 1 + line_ends front
  outside : s.note ≡ false → s.after ≡ []

at_start : (all : List ℕ) → Stands all (start all)
at_start all = record { front = []; whole = sym (append-nil all); at = refl; line = refl; outside = λ n. refl }

-- a text that stands first there
next_whole : (all front bytes after text rest : List ℕ) → all ≡ front ++ (bytes ++ after) → bytes ≡ text ++ rest → all ≡ (front ++ text) ++ (rest ++ after)
next_whole all front bytes after text rest w b =
    w ∙ ap (λ (x : List ℕ). front ++ (x ++ after)) b ∙ ap (λ (x : List ℕ). front ++ x) (append_assoc text rest after) ∙ sym (append_assoc front text (rest ++ after))

past_stands : (all : List ℕ) (s : Spot) (text rest : List ℕ) (fresh : Bool) → s.bytes ≡ text ++ rest → Stands all s → Stands all (past s text rest fresh)
past_stands all s text rest fresh b h = record {
  front = h.front ++ text;
  whole = next_whole all h.front s.bytes s.after text rest h.whole b;
  at = omega (arith, h.at, length-append h.front text);
  line = omega (arith, h.line, line_ends-append h.front text);
  outside = h.outside;
}

-- the bytes from one offset to another
slice_is : (all front text end : List ℕ) (from to : ℕ) → all ≡ front ++ (text ++ end) → from ≡ length front → to ≡ from + length text → slice_range all from to ≡ text
slice_is all front text end from to w f t =
    let n : to - from ≡ length text = omega (arith, t) in
    rw (n, f, w, drop-append_seam front (text ++ end)) (take-append_seam text end)

line_is : (all front end : List ℕ) (from : ℕ) → all ≡ front ++ end → from ≡ length front → line_ends (take from all) ≡ line_ends front
line_is all front end from w f = rw (f, w, take-append_seam front end) refl

-- Texts of tokens.

note_word : (note : Bool) (b : ℕ) → begins_word note b ≡ true → begins_word true b ≡ true
note_word true b e = e
note_word false b e = grind (arith, nat_tests)

word_in_note : (note : Bool) (text rest : List ℕ) → is_word note text rest ≡ true → is_word true text rest ≡ true
word_in_note note [] rest h = absurd (cc)
word_in_note note (b ∷ bs) rest h =
    let s = both (begins_word note b && list_all (goes_on b) bs && not (begins_with (goes_on b) rest)) (not (b == 92) || nat_le 1 (length bs)) h in
    let t = both (begins_word note b && list_all (goes_on b) bs) (not (begins_with (goes_on b) rest)) s.0 in
    let u = both (begins_word note b) (list_all (goes_on b) bs) t.0 in
    both_are (begins_word true b && list_all (goes_on b) bs && not (begins_with (goes_on b) rest)) (not (b == 92) || nat_le 1 (length bs))
    (both_are (begins_word true b && list_all (goes_on b) bs) (not (begins_with (goes_on b) rest)) (both_are (begins_word true b) (list_all (goes_on b) bs) (note_word note b u.0) u.1) t.1) s.1

row_in_note : (note : Bool) (rows : List (Row Punct)) (text : List ℕ) (p : Punct) → Has note rows text p → Has true rows text p
row_in_note note [] text p h = h
row_in_note note (r ∷ rows) text p (inl h) = inl (refl, h.1, h.2)
row_in_note note (r ∷ rows) text p (inr h) = inr (row_in_note note rows text p h)

text_is : (note fresh : Bool) (kind : TokenKind) (text rest : List ℕ) → Spells note fresh kind text rest → IsTextOf kind text
text_is note fresh (K.Word w) text rest h = (rest, word_in_note note text rest h.0, h.1, h.2)
text_is note fresh (K.Number n) text rest h = (rest, h.0, h.2)
text_is note fresh (K.Char c) text rest h = h
text_is note fresh K.Text text rest h = h
text_is note fresh (K.Punct p) text rest h = row_in_note note puncts text p h.0.row
text_is note fresh K.NoteFrom text rest h = absurd h
text_is note fresh K.NoteTo text rest h = absurd h

-- a token of this text at a spot
token_is : (all : List ℕ) (s : Spot) (h : Stands all s) (kind : TokenKind) (text end : List ℕ) → s.bytes ++ s.after ≡ text ++ end → IsTextOf kind text → (1 ≤ length text) ⊎ (kind ≡ K.NoteTo)
    → IsTokenOf all (token_at s kind (length text))
token_is all s h kind text end w k some =
    let whole : all ≡ h.front ++ (text ++ end) = h.whole ∙ ap (λ (x : List ℕ). h.front ++ x) w in
    record {
      in_order = omega arith;
      within = omega (arith, h.at, ap length whole, length-append h.front (text ++ end), length-append text end);
      some = elim some [ inl l ↦ inl (omega arith) | inr i ↦ inr i ];
      line = h.line ∙ ap (λ (n : ℕ). 1 + n) (sym (line_is all h.front (text ++ end) s.at whole h.at));
      text = subst (λ (x : List ℕ). IsTextOf kind x) (sym (slice_is all h.front text end s.at (s.at + length text) whole h.at refl)) k;
    }

-- Pieces.

-- what a piece comes to in a text: the spot after it stands there too, and a token is one of the text
record Follows (all : List ℕ) (s : Spot) (p : Option Token) (e : Spot) : Type 0 where
  stands : Stands all e
  later : s.at ≤ e.at
  token : (t : Token) → p ≡ Some t → IsTokenOf all t × (t.span.from ≡ s.at) × (t.span.to ≡ e.at)

no_token : {P : Type 0} (p : Option Token) (t : Token) → p ≡ None → p ≡ Some t → P
no_token p t e i = absurd (cc)

a_token : (all : List ℕ) (p : Option Token) (at to : ℕ) (u : Token) → p ≡ Some u → IsTokenOf all u → u.span.from ≡ at → u.span.to ≡ to
    → (t : Token) → p ≡ Some t → IsTokenOf all t × (t.span.from ≡ at) × (t.span.to ≡ to)
a_token all p at to u e h f g t i = subst (λ (x : Token). IsTokenOf all x × (x.span.from ≡ at) × (x.span.to ≡ to)) (some_one u t (sym e ∙ i)) (h, f, g)

opener : (bytes inside after : List ℕ) → IsNote bytes inside after
    → (text : List ℕ) × (bytes ≡ text ++ (inside ++ after)) × (length text ≡ 3) × IsTextOf K.NoteFrom text × (line_ends text ≡ 0)
opener bytes inside after (inl h) = (47 ∷ 42 ∷ 64 ∷ [], h.1, refl, inl refl, refl)
opener bytes inside after (inr h) = (47 ∷ 47 ∷ 64 ∷ [], h.0, refl, inr refl, refl)

closer : (after : List ℕ) → (text : List ℕ) × (after ≡ text ++ drop (close_len after) after) × (close_len after ≡ length text) × IsTextOf K.NoteTo text × (line_ends text ≡ 0)
closer after = step (begins (codes "*/") after) refl
  where
    step : (c : Bool) → begins (codes "*/") after ≡ c
        → (text : List ℕ) × (after ≡ text ++ drop (if c then 2 else 0) after) × ((if c then 2 else 0) ≡ length text) × IsTextOf K.NoteTo text × (line_ends text ≡ 0)
    step true e = (42 ∷ 47 ∷ [], begins-split (codes "*/") after e, refl, inl refl, refl)
    step false e = ([], refl, refl, inr refl, refl)

follows : (all : List ℕ) (s : Spot) (p : Option Token) (e : Spot) → Goes s p e → Stands all s → Follows all s p e
follows all s p e (T.OfGap text rest b g k i) h =
    let fresh : Bool = s.fresh || nat_lt 0 (line_ends text) in
    subst (λ (x : Spot). Follows all s p x) (sym i) (record { stands = past_stands all s text rest fresh b h; later = omega arith; token = λ t j. no_token p t k j })
follows all s p e (T.OfToken kind text rest b spells k i) h =
    let some = token_some s.note s.fresh kind text rest spells in
    let is = token_is all s h kind text (rest ++ s.after) (ap (λ (x : List ℕ). x ++ s.after) b ∙ append_assoc text rest s.after) (text_is s.note s.fresh kind text rest spells) (inl some) in
    subst (λ (x : Spot). Follows all s p x) (sym i)
    (record { stands = past_stands all s text rest false b h; later = omega arith; token = a_token all p s.at (s.at + length text) (token_at s kind (length text)) k is refl refl })
follows all s p e (T.Opens inside after n note k i) h =
    let o = opener s.bytes inside after note in
    let none : s.after ≡ [] = h.outside n in
    let bytes : s.bytes ++ s.after ≡ o.0 ++ (inside ++ after) = ap (λ (x : List ℕ). s.bytes ++ x) none ∙ append-nil s.bytes ∙ o.1 in
    let is = subst (λ (m : ℕ). IsTokenOf all (token_at s K.NoteFrom m)) o.2 (token_is all s h K.NoteFrom o.0 (inside ++ after) bytes o.3 (inl (omega (arith, o.2)))) in
    let stands : Stands all (in_note s inside after) = record {
      front = h.front ++ o.0;
      whole = h.whole ∙ ap (λ (x : List ℕ). h.front ++ x) bytes ∙ sym (append_assoc h.front o.0 (inside ++ after));
      at = omega (arith, h.at, o.2, length-append h.front o.0);
      line = omega (arith, h.line, o.4, line_ends-append h.front o.0);
      outside = λ q. absurd (cc);
    } in
    subst (λ (x : Spot). Follows all s p x) (sym i)
    (record { stands = stands; later = omega arith; token = a_token all p s.at (s.at + 3) (token_at s K.NoteFrom 3) k is refl refl })
follows all s p e (T.Closes n b k i) h =
    let o = closer s.after in
    let rest : List ℕ = drop (close_len s.after) s.after in
    let bytes : s.bytes ++ s.after ≡ o.0 ++ rest = ap (λ (x : List ℕ). x ++ s.after) b ∙ o.1 in
    let is = subst (λ (m : ℕ). IsTokenOf all (token_at s K.NoteTo m)) (sym o.2) (token_is all s h K.NoteTo o.0 rest bytes o.3 (inr refl)) in
    let stands : Stands all (past_note s) = record {
      front = h.front ++ o.0;
      whole = h.whole ∙ ap (λ (x : List ℕ). h.front ++ x) (bytes ∙ ap (λ (x : List ℕ). o.0 ++ x) (sym (append-nil rest))) ∙ sym (append_assoc h.front o.0 (rest ++ []));
      at = omega (arith, h.at, o.2, length-append h.front o.0);
      line = omega (arith, h.line, o.4, line_ends-append h.front o.0);
      outside = λ q. refl;
    } in
    subst (λ (x : Spot). Follows all s p x) (sym i)
    (record { stands = stands; later = omega arith; token = a_token all p s.at (s.at + close_len s.after) (token_at s K.NoteTo (close_len s.after)) k is refl refl })

earlier : (all : List ℕ) (a b : ℕ) (ts : List Token) → a ≤ b → AreTokensOf all b ts → AreTokensOf all a ts
earlier all a b [] l h = tt
earlier all a b (t ∷ ts) l h = (h.0, omega (arith, h.1), h.2)

are_tokens : (all : List ℕ) (s : Spot) (ps : List (Option Token)) (e : Spot) → Reaches s ps e → Stands all s → AreTokensOf all s.at (tokens_of ps)
are_tokens all s [] e r h = tt
are_tokens all s (None ∷ ps) e r h =
    let f = follows all s None r.0 r.1 h in
    earlier all s.at r.0.at (tokens_of ps) f.later (are_tokens all r.0 ps e r.2 f.stands)
are_tokens all s (Some t ∷ ps) e r h =
    let f = follows all s (Some t) r.0 r.1 h in
    let k = f.token t refl in
    let more = are_tokens all r.0 ps e r.2 f.stands in
    (k.0, omega (arith, k.1), subst (λ (n : ℕ). AreTokensOf all n (tokens_of ps)) (sym k.2) more)

pub in_place : (bytes : List ℕ) (ts : List Token) → Lexes bytes ts → AreTokensOf bytes 0 ts
unfolding Lexes
in_place bytes ts (ps, e, r, h, i) = subst (λ (x : List Token). AreTokensOf bytes 0 x) i (are_tokens bytes (start bytes) ps e r (at_start bytes))

-- Notes.

noted_more : (s : Spot) (t : Token) (e : Spot) (ts : List Token) → Goes s (Some t) e → are_noted e.note ts ≡ true → are_noted s.note (t ∷ ts) ≡ true
noted_more s t e ts (T.OfGap text rest b g k i) h = absurd (cc)
noted_more s t e ts (T.OfToken kind text rest b spells k i) h =
    let u = some_one t (token_at s kind (length text)) k in
    subst (λ (x : Token). are_noted s.note (x ∷ ts) ≡ true) (sym u) (same kind spells (subst (λ (x : Spot). are_noted x.note ts ≡ true) i h))
  where
    same : (k : TokenKind) → Spells s.note s.fresh k text rest → are_noted s.note ts ≡ true → are_noted_after s.note k (λ n. are_noted n ts) ≡ true
    same K.NoteFrom spells h = absurd spells
    same K.NoteTo spells h = absurd spells
    same (K.Word w) spells h = h
    same (K.Number n) spells h = h
    same (K.Char c) spells h = h
    same K.Text spells h = h
    same (K.Punct p) spells h = h
noted_more s t e ts (T.Opens inside after n note k i) h =
    let u = some_one t (token_at s K.NoteFrom 3) k in
    subst (λ (x : Token). are_noted s.note (x ∷ ts) ≡ true) (sym u) (rw n (subst (λ (x : Spot). are_noted x.note ts ≡ true) i h))
noted_more s t e ts (T.Closes n b k i) h =
    let u = some_one t (token_at s K.NoteTo (close_len s.after)) k in
    subst (λ (x : Token). are_noted s.note (x ∷ ts) ≡ true) (sym u) (rw n (subst (λ (x : Spot). are_noted x.note ts ≡ true) i h))

gap_note : (s : Spot) (e : Spot) → Goes s None e → e.note ≡ s.note
gap_note s e (T.OfGap text rest b g k i) = ap (λ (x : Spot). x.note) i
gap_note s e (T.OfToken kind text rest b spells k i) = absurd (cc)
gap_note s e (T.Opens inside after n note k i) = absurd (cc)
gap_note s e (T.Closes n b k i) = absurd (cc)

noted_from : (s : Spot) (ps : List (Option Token)) (e : Spot) → Reaches s ps e → IsEnd e → are_noted s.note (tokens_of ps) ≡ true
noted_from s [] e r h = rw (ap (λ (x : Spot). x.note) r, h.0) refl
noted_from s (None ∷ ps) e r h = subst (λ (n : Bool). are_noted n (tokens_of ps) ≡ true) (gap_note s r.0 r.1) (noted_from r.0 ps e r.2 h)
noted_from s (Some t ∷ ps) e r h = noted_more s t r.0 (tokens_of ps) r.1 (noted_from r.0 ps e r.2 h)

pub noted : (bytes : List ℕ) (ts : List Token) → Lexes bytes ts → are_noted false ts ≡ true
unfolding Lexes
noted bytes ts (ps, e, r, h, i) = subst (λ (x : List Token). are_noted false x ≡ true) i (noted_from (start bytes) ps e r h)

-- How many tokens there are.

-- A note's end may have no bytes, while its opening has three. So inside a note the bound is one more.
abbrev owed : Bool → ℕ
owed true = 1
owed false = 0

has_bytes : (k : TokenKind) (from to : ℕ) → (k ≡ K.NoteTo → ⊥) → (from < to) ⊎ (k ≡ K.NoteTo) → from < to
has_bytes k from to other (inl l) = l
has_bytes k from to other (inr i) = absurd (other i)

opening_bytes : (bytes : List ℕ) (t : Token) → IsTextOf K.NoteFrom (text_of bytes t) → t.span.from + 3 ≤ t.span.to
opening_bytes bytes t x = omega (arith, three x, length-take (t.span.to - t.span.from) (drop t.span.from bytes))
  where
    three : IsTextOf K.NoteFrom (text_of bytes t) → length (text_of bytes t) ≡ 3
    three (inl e) = ap length e
    three (inr e) = ap length e

-- a token, before others that stand after it
one_more : (bytes : List ℕ) (note : Bool) (t : Token) (k : TokenKind) (n : ℕ) (f : Bool → Bool)
    → (t.span.from < t.span.to) ⊎ (k ≡ K.NoteTo) → IsTextOf k (text_of bytes t) → t.span.from ≤ t.span.to → are_noted_after note k f ≡ true
    → ((m : Bool) → f m ≡ true → t.span.to + n ≤ length bytes + owed m) → t.span.from + (1 + n) ≤ length bytes + owed note
one_more bytes true t K.NoteFrom n f s x o e r = absurd (cc)
one_more bytes false t K.NoteFrom n f s x o e r = omega (arith, r true e, opening_bytes bytes t x)
one_more bytes true t K.NoteTo n f s x o e r = omega (arith, r false e, o)
one_more bytes false t K.NoteTo n f s x o e r = absurd (cc)
one_more bytes note t (K.Word w) n f s x o e r = omega (arith, r note e, has_bytes (K.Word w) t.span.from t.span.to (λ i. absurd (cc)) s)
one_more bytes note t (K.Number w) n f s x o e r = omega (arith, r note e, has_bytes (K.Number w) t.span.from t.span.to (λ i. absurd (cc)) s)
one_more bytes note t (K.Char c) n f s x o e r = omega (arith, r note e, has_bytes (K.Char c) t.span.from t.span.to (λ i. absurd (cc)) s)
one_more bytes note t K.Text n f s x o e r = omega (arith, r note e, has_bytes K.Text t.span.from t.span.to (λ i. absurd (cc)) s)
one_more bytes note t (K.Punct p) n f s x o e r = omega (arith, r note e, has_bytes (K.Punct p) t.span.from t.span.to (λ i. absurd (cc)) s)

few_from : (bytes : List ℕ) (note : Bool) (from : ℕ) (ts : List Token) → AreTokensOf bytes from ts → are_noted note ts ≡ true → from ≤ length bytes
    → from + length ts ≤ length bytes + owed note
few_from bytes note from [] h e l = omega (arith, l)
few_from bytes note from (t ∷ ts) h e l =
    let more = one_more bytes note t t.kind (length ts) (λ m. are_noted m ts) h.0.some h.0.text h.0.in_order e
    (λ m i. few_from bytes m t.span.to ts h.2 i h.0.within) in
    omega (arith, h.1, more)

pub few : (bytes : List ℕ) (ts : List Token) → AreTokensOf bytes 0 ts → are_noted false ts ≡ true → length ts ≤ length bytes
few bytes ts h e = omega (arith, few_from bytes false 0 ts h e (omega arith))
