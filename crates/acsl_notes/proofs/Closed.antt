-- The first token that closes a note.
use Rattle.std.proofs.Common.{◌≡◌, ◌∙◌, ◌<◌, ◌+◌, ◌++◌, ◌∷◌, [], ℕ, List, Some, None, true, false, take, drop, length, refl, sym, ap, append_assoc, append-nil}
use Rattle.std.proofs.lemmas.List.{take_more, drop_more}
use Rattle.std.specs.Prelude.{Option, slice_index_or}
use Rattle.std.specs.Option.{option_map}
use Rattle.c_lex.specs.declared.token.Token.{Token}
use Rattle.acsl_notes.specs.Notes.{Between, with_token, closes, closed}

-- a note that begins with these tokens
abbrev pub after : List Token → Between → Between
after front n = record { tokens = front ++ n.tokens; end = n.end }

-- none of the first tokens closes a note
abbrev pub Goes : List Token → ℕ → Type 0
Goes ts i = closed ts ≡ option_map (after (take i ts)) (closed (drop i ts))

with_more : (front : List Token) (t : Token) (n : Option Between) → option_map (after front) (option_map (with_token t) n) ≡ option_map (after (front ++ t ∷ [])) n
with_more front t None = refl
with_more front t (Some n) = ap (λ (ts : List Token). Some (record { tokens = ts; end = n.end })) (sym (append_assoc front (t ∷ []) n.tokens))

past : (front : List Token) (t : Token) (ts : List Token) → closes t.kind ≡ false → option_map (after front) (closed (t ∷ ts)) ≡ option_map (after (front ++ t ∷ [])) (closed ts)
past front t ts open_still = rw open_still (with_more front t (closed ts))

at_end : (front : List Token) (t : Token) (ts : List Token) → closes t.kind ≡ true → option_map (after front) (closed (t ∷ ts)) ≡ Some (record { tokens = front; end = t.span.from })
at_end front t ts closing = rw (closing, append-nil front) refl

-- this one doesn't either
pub goes_on : (ts : List Token) (i : ℕ) (d : Token) → i < length ts → closes (slice_index_or ts i d).kind ≡ false → Goes ts i → Goes ts (i + 1)
goes_on ts i d within open_still goes =
    goes
    ∙ ap (λ (us : List Token). option_map (after (take i ts)) (closed us)) (drop_more ts i d within)
    ∙ past (take i ts) (slice_index_or ts i d) (drop (i + 1) ts) open_still
    ∙ ap (λ (us : List Token). option_map (after us) (closed (drop (i + 1) ts))) (sym (take_more ts i d within))

-- this one does
pub ends_at : (ts : List Token) (i : ℕ) (d : Token) → i < length ts → closes (slice_index_or ts i d).kind ≡ true → Goes ts i → closed ts ≡ Some (record { tokens = take i ts; end = (slice_index_or ts i d).span.from })
ends_at ts i d within closing goes =
    goes
    ∙ ap (λ (us : List Token). option_map (after (take i ts)) (closed us)) (drop_more ts i d within)
    ∙ at_end (take i ts) (slice_index_or ts i d) (drop (i + 1) ts) closing

-- none does
pub no_end : (ts : List Token) (i : ℕ) → drop i ts ≡ [] → Goes ts i → closed ts ≡ None
no_end ts i none goes = goes ∙ ap (λ (us : List Token). option_map (after (take i ts)) (closed us)) none
