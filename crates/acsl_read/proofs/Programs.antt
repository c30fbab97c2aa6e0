-- Notes, by their reading.
use Rattle.std.proofs.Common.{◌≡◌, inl, inr, ◌<◌, ◌==◌, ◌-◌, ◌∷◌, [], List, ℕ, true, false, Err, refl, ap, sym, ◌∙◌, subst, length, take, drop, arith, rules, eqb-true}
use denote.Enum.Bare.{same_true}
use Rattle.acsl_read.specs.contracts.class.Class.{the_type}
use Rattle.acsl_read.specs.declared.class.Class.{Class}
use Rattle.c_lex.specs.declared.token.Token.{Token}
use Rattle.c_ast.specs.declared.annot.Annot.{Annot}
use Rattle.acsl_read.specs.declared.text.AcslFault.{AcslFault}
use Rattle.acsl_read.specs.declared.text.AcslFault.TheVariants as F
use Rattle.grammar_forms.specs.Forms.{Made}
use Rattle.grammar_forms.specs.Derives.{Cause, Unexpected, TooDeep, IsText, StopsAt}
use Rattle.grammar_forms.specs.inner.Reading.{Read, Stop}
use Rattle.grammar_forms.proofs.Law.{read_rule-derives, read_rule-stops}
use Rattle.grammar_forms.proofs.Unique.{text_read}
use Rattle.acsl_read.specs.Classes.{same_class}
use Rattle.acsl_read.specs.Table.{Note}
use Rattle.acsl_read.specs.Trees.{Found, OfAnnot}
use Rattle.acsl_read.specs.Grammar.{grammar}
use Rattle.acsl_read.specs.Program.{IsAnnot, IsOnly, IsFault, Refuses, StopsBefore, OpensTooMany, before, place_at}
use Rattle.acsl_read.specs.inner.Outcome.{read}
use Rattle.acsl_read.proofs.Rows.{sound}
use Rattle.acsl_read.proofs.Words.{dropped}

exact : (a b : Class) → same_class a b ≡ true → a ≡ b
unfolding same_class
exact a b e = same_true the_type (search rules) a b e

nothing_left : (rest : List Token) → (length rest == 0) ≡ true → rest ≡ []
nothing_left [] e = refl
nothing_left (t ∷ ts) e = absurd (omega (arith, eqb-true _ _ e))

something_left : (rest : List Token) → (length rest == 0) ≡ false → 0 < length rest
something_left [] e = absurd (cc)
something_left (t ∷ ts) e = omega arith

is_text : (bs : List ℕ) (ts rest : List Token) (v : Found) → read bs Note 0 ts ≡ Read v rest → IsText (grammar bs) 0 Note ts v rest
unfolding read
is_text bs ts rest v e = read_rule-derives (grammar bs) (sound bs) Note 0 ts v rest e

stops_at : (bs : List ℕ) (ts : List Token) (w : Cause) (n : ℕ) → read bs Note 0 ts ≡ Stop w n → StopsAt (grammar bs) 0 Note ts w n
unfolding read
stops_at bs ts w n e = read_rule-stops (grammar bs) (sound bs) Note 0 ts w n e

reads_whole : (bs : List ℕ) (ts : List Token) (a : Annot) → IsAnnot bs a ts → read bs Note 0 ts ≡ Read (Made (OfAnnot a)) []
unfolding read
reads_whole bs ts a h = text_read (grammar bs) (sound bs) exact Note 0 ts (Made (OfAnnot a)) [] h

pub is_annot : (bs : List ℕ) (ts rest : List Token) (a : Annot) → read bs Note 0 ts ≡ Read (Made (OfAnnot a)) rest → (length rest == 0) ≡ true → IsAnnot bs a ts
is_annot bs ts rest a e h =
    subst (λ r. IsText (grammar bs) 0 Note ts (Made (OfAnnot a)) r) (nothing_left rest h) (is_text bs ts rest (Made (OfAnnot a)) e)

pub is_only : (bs : List ℕ) (ts rest : List Token) (a found : Annot) → read bs Note 0 ts ≡ Read (Made (OfAnnot found)) rest → IsAnnot bs a ts → a ≡ found
is_only bs ts rest a found e p = let q = reads_whole bs ts a p in cc

pub no_rest : (bs : List ℕ) (ts rest : List Token) (a found : Annot) → read bs Note 0 ts ≡ Read (Made (OfAnnot found)) rest → (length rest == 0) ≡ false → IsAnnot bs a ts → ⊥
no_rest bs ts rest a found e h p =
    let q = reads_whole bs ts a p in
    let r : rest ≡ [] = cc in
    let l : 0 < length rest = something_left rest h in omega (arith, l, ap length r)

pub no_annot : (bs : List ℕ) (ts : List Token) (a : Annot) (w : Cause) (n : ℕ) → read bs Note 0 ts ≡ Stop w n → IsAnnot bs a ts → ⊥
no_annot bs ts a w n e p = let q = reads_whole bs ts a p in cc

pub ends_early : (bs : List ℕ) (ts rest : List Token) (a : Annot) → read bs Note 0 ts ≡ Read (Made (OfAnnot a)) rest → (length rest == 0) ≡ false → StopsBefore bs ts rest
ends_early bs ts rest a e h = inr (Made (OfAnnot a), is_text bs ts rest (Made (OfAnnot a)) e, something_left rest h)

pub stops_before : (bs : List ℕ) (ts left : List Token) (n : ℕ) → read bs Note 0 ts ≡ Stop Unexpected n → left ≡ drop (length ts - n) ts → StopsBefore bs ts left
stops_before bs ts left n e p = inl (n, stops_at bs ts Unexpected n e, p)

pub too_many : (bs : List ℕ) (ts left : List Token) (n end at : ℕ) → read bs Note 0 ts ≡ Stop TooDeep n → left ≡ drop (length ts - n) ts → at ≡ place_at end left → OpensTooMany bs end ts at
too_many bs ts left n end at e p q = (n, stops_at bs ts TooDeep n e, q ∙ ap (place_at end) p)

-- the tokens before those that are left
pub front_is : (ts front left : List Token) (n : ℕ) → left ≡ drop (length ts - n) ts → front ≡ take (length ts - n) ts → front ≡ before ts left
front_is ts front left n p q = q ∙ ap (λ k. take k ts) (sym (dropped n ts left p))

-- what is answered for a token that isn't needed is a fault of the whole
refusal : (bs : List ℕ) (ts left : List Token) (end : ℕ) (f : AcslFault) → StopsBefore bs ts left → Refuses bs end (before ts left) left f → IsFault bs ts end f
refusal bs ts left end (F.NotAcsl at) s r = (left, s, r)
refusal bs ts left end (F.Unsupported word at) s r = (left, s, r)
refusal bs ts left end (F.TooDeep at) s r = absurd r
refusal bs ts left end F.Memory s r = tt

pub refusal_is : (bs : List ℕ) (ts front left : List Token) (end : ℕ) (f : AcslFault) → StopsBefore bs ts left → front ≡ before ts left → Refuses bs end front left f → IsFault bs ts end f
refusal_is bs ts front left end f s p r = refusal bs ts left end f s (subst (λ x. Refuses bs end x left f) p r)

pub no_only : (a : Annot) (f : AcslFault) → ⊥ → IsOnly a (Err f)
no_only a f h = absurd h
