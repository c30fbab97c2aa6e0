-- How much is left to be read falls with each piece.
use Rattle.std.proofs.Common.{◌≡◌, inl, inr, ℕ, ◌+◌, ◌<◌, ◌≤◌, ◌++◌, ◌∷◌, [], List, Bool, true, false, Option, ap, sym, subst, length, length-append, length-drop, arith}
use Rattle.std.specs.Prelude.{◌||◌, nat_lt, if◌then◌else◌}
use Rattle.c_lex.specs.declared.token.Token.{Token}
use Rattle.c_lex.specs.declared.token.TokenKind.{TokenKind}
use Rattle.c_lex.specs.declared.token.TokenKind.TheVariants as K
use Rattle.c_lex.specs.Bytes.{line_ends}
use Rattle.c_lex.specs.Spellings.{IsChar}
use Rattle.c_lex.specs.Tokens.{Spot, IsGap, Spells, IsNote, Goes, past, in_note, past_note, close_len}
use Rattle.c_lex.specs.Tokens as T
use Rattle.c_lex.proofs.Counted.{number_some}
use Rattle.c_lex.proofs.PieceAgain.{punct_some}

-- bytes, and a note to be closed
abbrev pub left : Spot → ℕ
left s = length s.bytes + length s.after + (if s.note then 1 else 0)

pub gap_some : (note fresh : Bool) (text rest : List ℕ) → IsGap note fresh text rest → 1 ≤ length text
gap_some note fresh text rest (T.Byte b e k) = omega (arith, ap length e)
gap_some note fresh text rest (T.Block body n e a h) = omega (arith, ap length e)
gap_some note fresh text rest (T.Line body n e a l r) = omega (arith, ap length e)
gap_some note fresh text rest (T.Marker body f e m l r) = omega (arith, ap length e)

char_some : (c : ℕ) (text : List ℕ) → IsChar c text → 1 ≤ length text
char_some c text (inl h) = omega (arith, ap length h.0)
char_some c text (inr h) = omega (arith, ap length h.1)

pub token_some : (note fresh : Bool) (kind : TokenKind) (text rest : List ℕ) → Spells note fresh kind text rest → 1 ≤ length text
token_some note fresh (K.Word w) [] rest h = let f = h.0 in absurd (cc)
token_some note fresh (K.Word w) (b ∷ bs) rest h = omega arith
token_some note fresh (K.Number n) text rest h = number_some n text rest h.0
token_some note fresh (K.Char c) text rest h = char_some c text h
token_some note fresh K.Text text rest h = omega (arith, ap length h.1)
token_some note fresh (K.Punct p) [] rest h = let f = punct_some note [] p h.0.row in absurd (cc)
token_some note fresh (K.Punct p) (b ∷ bs) rest h = omega arith
token_some note fresh K.NoteFrom text rest h = absurd h
token_some note fresh K.NoteTo text rest h = absurd h

note_len : (bytes inside after : List ℕ) → IsNote bytes inside after → length bytes ≡ 3 + length inside + length after
note_len bytes inside after (inl h) = omega (arith, ap length h.1, length-append inside after)
note_len bytes inside after (inr h) = omega (arith, ap length h.0, length-append inside after)

past-left : (s : Spot) (text rest : List ℕ) (fresh : Bool) → s.bytes ≡ text ++ rest → 1 ≤ length text → left (past s text rest fresh) < left s
past-left s text rest fresh w l = omega (arith, ap length w, length-append text rest)

note_is : (s : Spot) → s.note ≡ false → left s ≡ length s.bytes + length s.after
note_is s n = rw n (omega arith)

in_is : (s : Spot) → s.note ≡ true → left s ≡ length s.bytes + length s.after + 1
in_is s n = rw n (omega arith)

pub goes-left : (s : Spot) (p : Option Token) (e : Spot) → Goes s p e → left e < left s
goes-left s p e (T.OfGap text rest w g k i) =
    subst (λ (x : Spot). left x < left s) (sym i) (past-left s text rest (s.fresh || nat_lt 0 (line_ends text)) w (gap_some s.note s.fresh text rest g))
goes-left s p e (T.OfToken kind text rest w h k i) =
    subst (λ (x : Spot). left x < left s) (sym i) (past-left s text rest false w (token_some s.note s.fresh kind text rest h))
goes-left s p e (T.Opens inside after n h k i) =
    subst (λ (x : Spot). left x < left s) (sym i) (omega (arith, note_len s.bytes inside after h, note_is s n))
goes-left s p e (T.Closes n b k i) =
    subst (λ (x : Spot). left x < left s) (sym i) (omega (arith, length-drop (close_len s.after) s.after, in_is s n))
