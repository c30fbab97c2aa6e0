-- Pieces lead from a spot in one way, to one end or one fault.
use Rattle.std.proofs.Common.{◌≡◌, ℕ, ◌++◌, ◌∷◌, [], List, Option, Some, None, refl, ap, sym, ◌∙◌, subst}
use Rattle.c_lex.specs.declared.fault.LexFault.{LexFault}
use Rattle.c_lex.specs.declared.fault.LexFault.TheVariants as F
use Rattle.c_lex.specs.declared.token.Token.{Token}
use Rattle.c_lex.specs.Tokens.{Spot, start, Goes, Reaches, tokens_of, Lexes, Stuck, AreOnly, IsOnlyFault, UnlessMemory}
use Rattle.c_lex.specs.inner.Reading.{Move, AtEnd, To, Fault, step_of}
use Rattle.c_lex.proofs.Steps.{goes-again, end-again, stops-again, Says, step_of-takes}

-- no piece goes on from here
abbrev pub IsFinal : Move → Type 0
IsFinal AtEnd = Unit {0}
IsFinal (To p e) = ⊥
IsFinal (Fault f) = Unit {0}

not_final : (m : Move) (p : Option Token) (e : Spot) → m ≡ To p e → IsFinal m → ⊥
not_final m p e i f = subst IsFinal i f

same_piece : (p q : Option Token) (e f : Spot) → To p e ≡ To q f → p ≡ q
same_piece p q e f i = cc

same_spot : (p q : Option Token) (e f : Spot) → To p e ≡ To q f → e ≡ f
same_spot p q e f i = cc

same_fault : (f g : LexFault) → Fault f ≡ Fault g → f ≡ g
same_fault f g i = cc

one_end : (s : Spot) (ps qs : List (Option Token)) (e f : Spot) (m n : Move) → Reaches s ps e → step_of e ≡ m → IsFinal m → Reaches s qs f → step_of f ≡ n → IsFinal n → (ps ≡ qs) × (m ≡ n)
one_end s [] [] e f m n r i k t j l = (refl, sym i ∙ ap step_of (sym r ∙ t) ∙ j)
one_end s [] (q ∷ qs) e f m n r i k (x, g, t) j l =
    absurd (not_final m q x (sym i ∙ ap step_of (sym r) ∙ goes-again s q x g) k)
one_end s (p ∷ ps) [] e f m n (x, g, r) i k t j l =
    absurd (not_final n p x (sym j ∙ ap step_of (sym t) ∙ goes-again s p x g) l)
one_end s (p ∷ ps) (q ∷ qs) e f m n (x, g, r) i k (y, h, t) j l =
    let same : To p x ≡ To q y = sym (goes-again s p x g) ∙ goes-again s q y h in
    let piece = same_piece p q x y same in
    let spot = same_spot p q x y same in
    let ih = one_end y ps qs e f m n (subst (λ (z : Spot). Reaches z ps e) spot r) i k t j l in
    (ap (λ (z : Option Token). z ∷ ps) piece ∙ ap (λ (z : List (Option Token)). q ∷ z) ih.0, ih.1)

pub are_only : (bytes : List ℕ) (ts : List Token) → Lexes bytes ts → AreOnly bytes ts
unfolding Lexes Stuck
are_only bytes ts (ps, e, r, h, i) = (
  λ us (qs, f, t, k, j). let o = one_end (start bytes) qs ps f e AtEnd AtEnd t (end-again f k) tt r (end-again e h) tt in sym j ∙ ap tokens_of o.0 ∙ i,
  λ g (qs, f, t, k). let o = one_end (start bytes) ps qs e f AtEnd (Fault g) r (end-again e h) tt t (stops-again f g k) tt in let w = o.1 in cc,
)

pub is_only_fault : (bytes : List ℕ) (f : LexFault) → Stuck bytes f → IsOnlyFault bytes f
unfolding Lexes Stuck
is_only_fault bytes f (ps, e, r, h) = (
  λ g (qs, x, t, k). let o = one_end (start bytes) qs ps x e (Fault g) (Fault f) t (stops-again x g k) tt r (stops-again e f h) tt in same_fault g f o.1,
  λ ts (qs, x, t, k, j). let o = one_end (start bytes) ps qs e x (Fault f) AtEnd r (stops-again e f h) tt t (end-again x k) tt in let w = o.1 in cc,
)

pub unless : (P : LexFault → Type 0) (f : LexFault) → P f → UnlessMemory P f
unless P F.Memory h = tt
unless P f h = h

-- What the loop has found.

abbrev pub Found : List ℕ → Spot → List Token → Type 0
Found bytes s ts = (ps : List (Option Token)) × Reaches (start bytes) ps s × (tokens_of ps ≡ ts)

one_more : (s : Spot) (ps : List (Option Token)) (m : Spot) (p : Option Token) (e : Spot) → Reaches s ps m → Goes m p e → Reaches s (ps ++ p ∷ []) e
one_more s [] m p e r g = (e, subst (λ (x : Spot). Goes x p e) (sym r) g, refl)
one_more s (q ∷ ps) m p e (x, h, r) g = (x, h, one_more x ps m p e r g)

tokens_of-none : (ps : List (Option Token)) → tokens_of (ps ++ None ∷ []) ≡ tokens_of ps
tokens_of-none [] = refl
tokens_of-none (None ∷ ps) = tokens_of-none ps
tokens_of-none (Some t ∷ ps) = ap (λ (x : List Token). t ∷ x) (tokens_of-none ps)

tokens_of-some : (ps : List (Option Token)) (t : Token) → tokens_of (ps ++ Some t ∷ []) ≡ tokens_of ps ++ t ∷ []
tokens_of-some [] t = refl
tokens_of-some (None ∷ ps) t = tokens_of-some ps t
tokens_of-some (Some u ∷ ps) t = ap (λ (x : List Token). u ∷ x) (tokens_of-some ps t)

pub goes : (s : Spot) (p : Option Token) (e : Spot) → To p e ≡ step_of s → Goes s p e
goes s p e i = subst (Says s) (sym i) (step_of-takes s)

pub found-gap : (bytes : List ℕ) (s e : Spot) (ts : List Token) → To None e ≡ step_of s → Found bytes s ts → Found bytes e ts
found-gap bytes s e ts i (ps, r, j) = (ps ++ None ∷ [], one_more (start bytes) ps s None e r (goes s None e i), tokens_of-none ps ∙ j)

pub found-token : (bytes : List ℕ) (s e : Spot) (t : Token) (ts : List Token) → To (Some t) e ≡ step_of s → Found bytes s ts → Found bytes e (ts ++ t ∷ [])
found-token bytes s e t ts i (ps, r, j) =
    (ps ++ Some t ∷ [], one_more (start bytes) ps s (Some t) e r (goes s (Some t) e i), tokens_of-some ps t ∙ ap (λ (x : List Token). x ++ t ∷ []) j)

pub found-end : (bytes : List ℕ) (s : Spot) (ts : List Token) → AtEnd ≡ step_of s → Found bytes s ts → Lexes bytes ts
unfolding Lexes
found-end bytes s ts i (ps, r, j) = (ps, s, r, subst (Says s) (sym i) (step_of-takes s), j)

pub found-fault : (bytes : List ℕ) (s : Spot) (f : LexFault) (ts : List Token) → Fault f ≡ step_of s → Found bytes s ts → Stuck bytes f
unfolding Stuck
found-fault bytes s f ts i (ps, r, j) = (ps, s, r, subst (Says s) (sym i) (step_of-takes s))
