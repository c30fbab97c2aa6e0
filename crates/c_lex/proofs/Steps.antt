-- The step that is read is the one that there is, and no other.
use Rattle.std.proofs.Common.{◌≡◌, ◌⊎◌, inl, inr, ℕ, ◌+◌, ◌≤◌, ◌^◌, ◌++◌, ◌∷◌, [], List, Bool, true, false, Option, Some, None, refl, ap, sym, ◌∙◌, subst, length, take, drop, length-append, arith}
use Rattle.std.specs.Prelude.{◌==◌, ◌||◌, ◌&&◌, not, nat_le, nat_lt, if◌then◌else◌}
use Rattle.std.proofs.lemmas.Bool.Decides.{nat_tests}
use Rattle.std.proofs.Math.Seq.{drop-append_seam, take-append_seam}
use Rattle.c_lex.specs.declared.fault.LexFault.{LexFault}
use Rattle.c_lex.specs.declared.fault.LexFault.TheVariants as F
use Rattle.c_lex.specs.declared.piece.Piece.{Piece}
use Rattle.c_lex.specs.declared.piece.Piece.TheVariants as Q
use Rattle.c_lex.specs.declared.token.Number.{Number}
use Rattle.c_lex.specs.declared.token.Token.{Token}
use Rattle.c_lex.specs.declared.token.TokenKind.{TokenKind}
use Rattle.c_lex.specs.declared.token.TokenKind.TheVariants as K
use Rattle.c_lex.specs.Bytes.{begins_with, line_ends}
use Rattle.c_lex.specs.Spellings.{is_word, IsNumber, spoils}
use Rattle.c_lex.specs.Tokens.{Spot, has_no_close, is_marker, IsNote, begins_other, Goes, Stops, BeginsLonger, BeginsNothing, IsEnd, past, past_note, in_note, token_at, close_len}
use Rattle.c_lex.specs.Tokens as T
use Rattle.c_lex.specs.inner.Reading.{Move, AtEnd, To, Fault, either, inside_len, line_len, block_at, line_at, marker_at, piece_at, move_of, end_of, next_of, step_of}
use Rattle.c_lex.proofs.Counted.{number_some}
use Rattle.c_lex.proofs.Scans.{first_is, byte_is}
use Rattle.c_lex.proofs.Takes.{Reads, piece_at-takes}
use Rattle.c_lex.proofs.PieceAgain.{read, gap-again, token-again, note-again, open-again, directive-again, word-again, long-again, spoiled_read, wide_read, read_block, read_line, read_marker}
use Rattle.c_lex.proofs.Left.{gap_some, token_some}

-- Where there are bytes, the step is by the piece that stands first.

next_read : (s : Spot) (bytes : List ℕ) → 1 ≤ length bytes → next_of s bytes ≡ move_of s (read s.note s.fresh bytes)
next_read s [] l = absurd (omega (arith, l))
next_read s (b ∷ more) l = refl

step_read : (s : Spot) (text rest : List ℕ) → s.bytes ≡ text ++ rest → 1 ≤ length text → step_of s ≡ move_of s (read s.note s.fresh (text ++ rest))
unfolding step_of
step_read s text rest w l =
    next_read s s.bytes (omega (arith, ap length w, length-append text rest)) ∙ ap (λ (x : List ℕ). move_of s (read s.note s.fresh x)) w

front : (text rest bytes : List ℕ) → bytes ≡ text ++ rest → take (length text) bytes ≡ text
front text rest bytes w = ap (λ (x : List ℕ). take (length text) x) w ∙ take-append_seam text rest

back : (text rest bytes : List ℕ) → bytes ≡ text ++ rest → drop (length text) bytes ≡ rest
back text rest bytes w = ap (λ (x : List ℕ). drop (length text) x) w ∙ drop-append_seam text rest

gap_move : (s : Spot) (text rest : List ℕ) → s.bytes ≡ text ++ rest → move_of s (Q.Gap (length text)) ≡ To None (past s text rest (s.fresh || nat_lt 0 (line_ends text)))
gap_move s text rest w = rw (front text rest s.bytes w, back text rest s.bytes w) refl

token_move : (s : Spot) (kind : TokenKind) (text rest : List ℕ) → s.bytes ≡ text ++ rest
    → move_of s (Q.Token kind (length text)) ≡ To (Some (token_at s kind (length text))) (past s text rest false)
token_move s kind text rest w = rw (front text rest s.bytes w, back text rest s.bytes w) refl

note_after : (bytes inside after : List ℕ) → IsNote bytes inside after → drop 3 bytes ≡ inside ++ after
note_after bytes inside after (inl h) = ap (λ (x : List ℕ). drop 3 x) h.1
note_after bytes inside after (inr h) = ap (λ (x : List ℕ). drop 3 x) h.0

note_some : (bytes inside after : List ℕ) → IsNote bytes inside after → 1 ≤ length bytes
note_some bytes inside after (inl h) = omega (arith, ap length h.1)
note_some bytes inside after (inr h) = omega (arith, ap length h.0)

note_move : (s : Spot) (inside after : List ℕ) → IsNote s.bytes inside after → move_of s (Q.Note (length inside)) ≡ To (Some (token_at s K.NoteFrom 3)) (in_note s inside after)
note_move s inside after h =
    let w = note_after s.bytes inside after h in
    rw (front inside after (drop 3 s.bytes) w, back inside after (drop 3 s.bytes) w) refl

to_is : (p q : Option Token) (e f : Spot) → p ≡ q → e ≡ f → To q f ≡ To p e
to_is p q e f u v = ap (λ (x : Option Token). To x f) (sym u) ∙ ap (λ (x : Spot). To p x) (sym v)

pub goes-again : (s : Spot) (p : Option Token) (e : Spot) → Goes s p e → step_of s ≡ To p e
unfolding step_of end_of
goes-again s p e (T.OfGap text rest w g k i) =
    step_read s text rest w (gap_some s.note s.fresh text rest g) ∙ ap (move_of s) (gap-again s.note s.fresh text rest g) ∙ gap_move s text rest w ∙ to_is p _ e _ k i
goes-again s p e (T.OfToken kind text rest w h k i) =
    step_read s text rest w (token_some s.note s.fresh kind text rest h) ∙ ap (move_of s) (token-again s.note s.fresh kind text rest h) ∙ token_move s kind text rest w ∙ to_is p _ e _ k i
goes-again s p e (T.Opens inside after n h k i) =
    next_read s s.bytes (note_some s.bytes inside after h)
    ∙ ap (λ (m : Bool). move_of s (read m s.fresh s.bytes)) n
    ∙ ap (move_of s) (note-again s.fresh s.bytes inside after h) ∙ note_move s inside after h ∙ to_is p _ e _ k i
goes-again s p e (T.Closes n b k i) =
    ap (next_of s) b ∙ rw n refl ∙ to_is p _ e _ k i

pub end-again : (s : Spot) → IsEnd s → step_of s ≡ AtEnd
unfolding step_of end_of
end-again s h = ap (next_of s) h.1 ∙ rw h.0 refl

-- A bad byte.

block_bad : (rest : List ℕ) → block_at rest ≡ Q.Bad 0 → ⊥
unfolding block_at
block_bad rest = step (begins_with (λ b. b == 64) rest) (inside_len (drop 1 rest)) (inside_len rest)
  where
    step : (c : Bool) (o q : Option ℕ) → (if c then either o Q.Note Q.Open else either q (λ n. Q.Gap (n + 4)) Q.Open) ≡ Q.Bad 0 → ⊥
    step true None q e = cc
    step true (Some n) q e = cc
    step false o None e = cc
    step false o (Some n) e = cc

line_bad : (rest : List ℕ) → line_at rest ≡ Q.Bad 0 → ⊥
unfolding line_at
line_bad rest = step (begins_with (λ b. b == 64) rest)
  where
    step : (c : Bool) → (if c then Q.Note (line_len (drop 1 rest)) else Q.Gap (line_len rest + 2)) ≡ Q.Bad 0 → ⊥
    step true e = cc
    step false e = cc

marker_bad : (note : Bool) (rest : List ℕ) → marker_at note rest ≡ Q.Bad 0 → ⊥
unfolding marker_at
marker_bad note rest = step (is_marker note rest)
  where
    step : (c : Bool) → (if c then Q.Gap (line_len rest + 1) else Q.Directive) ≡ Q.Bad 0 → ⊥
    step true e = cc
    step false e = cc

-- which of the others it is
which : (n f x s c d : Bool) → (not n && (x && (c && true) || x && (d && true)) || f && (s && true)) ≡ true
    → ((n ≡ false) × (x ≡ true) × (c ≡ true)) ⊎ (((n ≡ false) × (x ≡ true) × (d ≡ true)) ⊎ ((f ≡ true) × (s ≡ true)))
which false f true s true d e = inl (refl, refl, refl)
which false f true s false true e = inr (inl (refl, refl, refl))
which n true x true c d e = inr (inr (refl, refl))
which true false x s c d e = absurd (cc)
which true true x false c d e = absurd (cc)
which false false false s c d e = absurd (cc)
which false true false false c d e = absurd (cc)
which false false true s false false e = absurd (cc)
which false true true false false false e = absurd (cc)

other_bad : (note fresh : Bool) (bytes : List ℕ) → begins_other note fresh bytes ≡ true → read note fresh bytes ≡ Q.Bad 0 → ⊥
other_bad note fresh [] o e = none note fresh o
  where
    none : (n f : Bool) → (not n && false || f && false) ≡ true → ⊥
    none true true o = cc
    none true false o = cc
    none false true o = cc
    none false false o = cc
other_bad note fresh (b ∷ more) o e =
    step (which note fresh (b == 47) (b == 35) (begins_with (λ c. c == 42) more) (begins_with (λ c. c == 47) more) o)
  where
    is : (n f : Bool) (c : ℕ) (rest : List ℕ) → note ≡ n → fresh ≡ f → b ≡ c → more ≡ rest → read n f (c ∷ rest) ≡ Q.Bad 0
    is n f c rest p q r t =
        subst (λ (x : Bool). read x f (c ∷ rest) ≡ Q.Bad 0) p (subst (λ (x : Bool). read note x (c ∷ rest) ≡ Q.Bad 0) q
        (subst (λ (x : ℕ). read note fresh (x ∷ rest) ≡ Q.Bad 0) r (subst (λ (x : List ℕ). read note fresh (b ∷ x) ≡ Q.Bad 0) t e)))

    step : ((note ≡ false) × ((b == 47) ≡ true) × (begins_with (λ c. c == 42) more ≡ true))
        ⊎ (((note ≡ false) × ((b == 47) ≡ true) × (begins_with (λ c. c == 47) more ≡ true)) ⊎ ((fresh ≡ true) × ((b == 35) ≡ true))) → ⊥
    step (inl h) = block_bad (drop 1 more) (sym (read_block fresh (drop 1 more)) ∙ is false fresh 47 (42 ∷ drop 1 more) h.0 refl (byte_is b 47 h.1) (first_is 42 more h.2))
    step (inr (inl h)) = line_bad (drop 1 more) (sym (read_line fresh (drop 1 more)) ∙ is false fresh 47 (47 ∷ drop 1 more) h.0 refl (byte_is b 47 h.1) (first_is 47 more h.2))
    step (inr (inr h)) = marker_bad note more (sym (read_marker note more) ∙ is note true 35 more refl h.0 (byte_is b 35 h.1) refl)

-- nothing stands first where the byte is bad
begins_nothing : (s : Spot) (b : ℕ) (more : List ℕ) → s.bytes ≡ b ∷ more → read s.note s.fresh (b ∷ more) ≡ Q.Bad 0 → BeginsNothing s
begins_nothing s b more w e = record {
  some = λ q. let r = w in cc;
  no_piece = λ p f g. let a = goes-again s p f g in let t = step in cc;
  no_longer = λ l. longer l.0 l.1 l.2 l.3;
  no_other = other (begins_other s.note s.fresh s.bytes) refl;
}
  where
    step : step_of s ≡ Fault (F.BadByte (s.at + 0))
    step = step_read s (b ∷ []) more w (omega arith) ∙ ap (move_of s) e

    at : (text rest : List ℕ) → s.bytes ≡ text ++ rest → read s.note s.fresh (text ++ rest) ≡ Q.Bad 0
    at text rest v = subst (λ (x : List ℕ). read s.note s.fresh x ≡ Q.Bad 0) (sym w ∙ v) e

    word : (text rest : List ℕ) → s.bytes ≡ text ++ rest → is_word s.note text rest ≡ true → (c : Bool) → nat_le (length text) 256 ≡ c → ⊥
    word text rest v h true l = let r = word-again s.note s.fresh text rest h (grind (arith, nat_tests)) in let q = at text rest v in cc
    word text rest v h false l = let r = long-again s.note s.fresh text rest h (grind (arith, nat_tests)) in let q = at text rest v in cc

    fits : (n : Number) (text rest : List ℕ) → s.bytes ≡ text ++ rest → IsNumber n text rest → spoils s.note rest ≡ false → (c : Bool) → nat_lt n.value (2 ^ 127) ≡ c → ⊥
    fits n text rest v h p true l =
        let r = token-again s.note s.fresh (K.Number n) text rest (h, p, grind (arith, nat_tests)) in let q = at text rest v in cc
    fits n text rest v h p false l = let r = wide_read s.note s.fresh n text rest h p (grind (arith, nat_tests)) in let q = at text rest v in cc

    number : (n : Number) (text rest : List ℕ) → s.bytes ≡ text ++ rest → IsNumber n text rest → (c : Bool) → spoils s.note rest ≡ c → ⊥
    number n text rest v h true p =
        let r = spoiled_read s.note s.fresh n text rest h p in let q = at text rest v in
        let z : length text ≡ 0 = cc in omega (arith, number_some n text rest h)
    number n text rest v h false p = fits n text rest v h p (nat_lt n.value (2 ^ 127)) refl

    longer : (text rest : List ℕ) → s.bytes ≡ text ++ rest → (is_word s.note text rest ≡ true) ⊎ ((n : Number) × IsNumber n text rest) → ⊥
    longer text rest v (inl h) = word text rest v h (nat_le (length text) 256) refl
    longer text rest v (inr h) = number h.0 text rest v h.1 (spoils s.note rest) refl

    other : (c : Bool) → begins_other s.note s.fresh s.bytes ≡ c → begins_other s.note s.fresh s.bytes ≡ false
    other false o = o
    other true o = absurd (other_bad s.note s.fresh (b ∷ more) (subst (λ (x : List ℕ). begins_other s.note s.fresh x ≡ true) w o) e)

-- what a step says of its spot
abbrev pub Says : Spot → Move → Type 0
Says s AtEnd = IsEnd s
Says s (To p e) = Goes s p e
Says s (Fault f) = Stops s f

piece_says : (s : Spot) (b : ℕ) (more : List ℕ) → s.bytes ≡ b ∷ more → (p : Piece) → read s.note s.fresh (b ∷ more) ≡ p → Reads s.note s.fresh (b ∷ more) p → Says s (move_of s p)
piece_says s b more w (Q.Gap n) e (text, rest, split, g) =
    let v : s.bytes ≡ text ++ rest = w ∙ split.whole in
    let f : take n s.bytes ≡ text = ap (λ (m : ℕ). take m s.bytes) split.len ∙ front text rest s.bytes v in
    let r : drop n s.bytes ≡ rest = ap (λ (m : ℕ). drop m s.bytes) split.len ∙ back text rest s.bytes v in
    T.OfGap text rest v g refl (rw (f, r) refl)
piece_says s b more w (Q.Token kind n) e (text, rest, split, h) =
    let v : s.bytes ≡ text ++ rest = w ∙ split.whole in
    let f : take n s.bytes ≡ text = ap (λ (m : ℕ). take m s.bytes) split.len ∙ front text rest s.bytes v in
    let r : drop n s.bytes ≡ rest = ap (λ (m : ℕ). drop m s.bytes) split.len ∙ back text rest s.bytes v in
    T.OfToken kind text rest v h (ap (λ (m : ℕ). Some (token_at s kind m)) split.len) (rw (f, r) refl)
piece_says s b more w (Q.Note n) e (inside, after, note, h, len) =
    let is : IsNote s.bytes inside after = subst (λ (x : List ℕ). IsNote x inside after) (sym w) h in
    let v = note_after s.bytes inside after is in
    let f : take n (drop 3 s.bytes) ≡ inside = ap (λ (m : ℕ). take m (drop 3 s.bytes)) len ∙ front inside after (drop 3 s.bytes) v in
    let r : drop n (drop 3 s.bytes) ≡ after = ap (λ (m : ℕ). drop m (drop 3 s.bytes)) len ∙ back inside after (drop 3 s.bytes) v in
    T.Opens inside after note is refl (rw (f, r) refl)
piece_says s b more w (Q.Bad n) e (inl z) =
    T.Nothing (begins_nothing s b more w (e ∙ ap Q.Bad z)) (ap (λ (m : ℕ). F.BadByte m) (omega (arith, z)))
piece_says s b more w (Q.Bad n) e (inr (v, text, rest, split, h, sp)) =
    T.Spoiled v text rest (w ∙ split.whole) h sp (ap (λ (m : ℕ). F.BadByte (s.at + m)) split.len)
piece_says s b more w Q.Open e (body, note, v, h) = T.Open body note (w ∙ v) h refl
piece_says s b more w Q.Wide e (v, text, rest, x, h, sp, l) = T.Wide v text rest (w ∙ x) h sp l refl
piece_says s b more w Q.Directive e (body, fresh, v, h) = T.Directive body fresh (w ∙ v) h refl
piece_says s b more w Q.Long e (text, rest, v, h, l) = T.Long text rest (w ∙ v) h l refl

pub step_of-takes : (s : Spot) → Says s (step_of s)
unfolding step_of end_of
step_of-takes s = at s.bytes refl
  where
    end : s.bytes ≡ [] → (c : Bool) → s.note ≡ c → Says s (if c then To (Some (token_at s K.NoteTo (close_len s.after))) (past_note s) else AtEnd)
    end w true n = T.Closes n w refl refl
    end w false n = (n, w)

    at : (bytes : List ℕ) → s.bytes ≡ bytes → Says s (next_of s bytes)
    at [] w = end w s.note refl
    at (b ∷ more) w = piece_says s b more w (piece_at s.note s.fresh b more) refl (piece_at-takes s.note s.fresh b more)

-- The cause of a stop is the one that is found.

open_other : (fresh : Bool) (note : Bool) (bytes body : List ℕ) → note ≡ false → bytes ≡ 47 ∷ 42 ∷ body → begins_other note fresh bytes ≡ true
open_other fresh note bytes body n w = rw (n, w) refl

first_other : (fresh : Bool) (note : Bool) (bytes body : List ℕ) → fresh ≡ true → bytes ≡ 35 ∷ body → begins_other note fresh bytes ≡ true
first_other fresh note bytes body f w = rw (f, w) (is note)
  where
    is : (n : Bool) → (not n && false || true && true) ≡ true
    is true = refl
    is false = refl

nothing_step : (s : Spot) (m : Move) → BeginsNothing s → Says s m → m ≡ Fault (F.BadByte s.at)
nothing_step s AtEnd h says = absurd (h.some says.1)
nothing_step s (To p e) h says = absurd (h.no_piece p e says)
nothing_step s (Fault f) h (T.Nothing k i) = ap Fault i
nothing_step s (Fault f) h (T.Spoiled n text rest w k sp i) = absurd (h.no_longer (text, rest, w, inr (n, k)))
nothing_step s (Fault f) h (T.Wide n text rest w k sp l i) = absurd (h.no_longer (text, rest, w, inr (n, k)))
nothing_step s (Fault f) h (T.Long text rest w k l i) = absurd (h.no_longer (text, rest, w, inl k))
nothing_step s (Fault f) h (T.Open body n w k i) = let o = open_other s.fresh s.note s.bytes body n w in let q = h.no_other in absurd (cc)
nothing_step s (Fault f) h (T.Directive body fr w k i) = let o = first_other s.fresh s.note s.bytes body fr w in let q = h.no_other in absurd (cc)

pub stops-again : (s : Spot) (f : LexFault) → Stops s f → step_of s ≡ Fault f
stops-again s f (T.Nothing h i) = nothing_step s (step_of s) h (step_of-takes s) ∙ ap Fault (sym i)
stops-again s f (T.Spoiled n text rest w h sp i) =
    step_read s text rest w (number_some n text rest h) ∙ ap (move_of s) (spoiled_read s.note s.fresh n text rest h sp) ∙ ap Fault (sym i)
stops-again s f (T.Wide n text rest w h sp l i) =
    step_read s text rest w (number_some n text rest h) ∙ ap (move_of s) (wide_read s.note s.fresh n text rest h sp l) ∙ ap Fault (sym i)
stops-again s f (T.Long text rest w h l i) =
    step_read s text rest w (omega arith) ∙ ap (move_of s) (long-again s.note s.fresh text rest h l) ∙ ap Fault (sym i)
stops-again s f (T.Open body n w h i) =
    step_read s (47 ∷ []) (42 ∷ body) w (omega arith)
    ∙ ap (λ (m : Bool). move_of s (read m s.fresh (47 ∷ 42 ∷ body))) n ∙ ap (move_of s) (open-again s.fresh body h) ∙ ap Fault (sym i)
stops-again s f (T.Directive body fr w h i) =
    step_read s (35 ∷ []) body w (omega arith)
    ∙ ap (λ (x : Bool). move_of s (read s.note x (35 ∷ body))) fr ∙ ap (move_of s) (directive-again s.note body h) ∙ ap Fault (sym i)
