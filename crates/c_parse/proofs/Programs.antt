-- Texts, by their reading.
use Rattle.std.proofs.Common.{◌≡◌, inl, inr, ◌<◌, ◌==◌, ◌-◌, ◌∷◌, [], List, ℕ, true, false, Err, refl, ap, ◌∙◌, subst, length, drop, arith, rules, eqb-true}
use denote.Enum.Bare.{same_true}
use Rattle.c_parse.specs.contracts.class.Class.{the_type}
use Rattle.c_parse.specs.declared.class.Class.{Class}
use Rattle.c_lex.specs.declared.token.Token.{Token}
use Rattle.c_ast.specs.declared.unit.Item.{Item}
use Rattle.c_parse.specs.declared.text.ParseFault.{ParseFault}
use Rattle.c_parse.specs.declared.text.ParseFault.TheVariants as F
use Rattle.grammar_forms.specs.Forms.{Made}
use Rattle.grammar_forms.specs.Derives.{Cause, Unexpected, TooDeep, IsText, StopsAt}
use Rattle.grammar_forms.specs.inner.Reading.{Read, Stop}
use Rattle.grammar_forms.proofs.Law.{read_rule-derives, read_rule-stops}
use Rattle.grammar_forms.proofs.Unique.{text_read}
use Rattle.c_parse.specs.Classes.{same_class}
use Rattle.c_parse.specs.Table.{UnitItems}
use Rattle.c_parse.specs.Trees.{Found, OfItems}
use Rattle.c_parse.specs.Grammar.{grammar}
use Rattle.c_parse.specs.Program.{IsUnit, IsOnly, IsFault, Refuses, StopsBefore, OpensTooMany, place_at}
use Rattle.c_parse.specs.inner.Outcome.{read}
use Rattle.c_parse.proofs.Rows.{sound}

exact : (a b : Class) → same_class a b ≡ true → a ≡ b
unfolding same_class
exact a b e = same_true the_type (search rules) a b e

nothing_left : (rest : List Token) → (length rest == 0) ≡ true → rest ≡ []
nothing_left [] e = refl
nothing_left (t ∷ ts) e = absurd (omega (arith, eqb-true _ _ e))

something_left : (rest : List Token) → (length rest == 0) ≡ false → 0 < length rest
something_left [] e = absurd (cc)
something_left (t ∷ ts) e = omega arith

is_text : (bs : List ℕ) (ts rest : List Token) (v : Found) → read bs UnitItems 0 ts ≡ Read v rest → IsText (grammar bs) 0 UnitItems ts v rest
unfolding read
is_text bs ts rest v e = read_rule-derives (grammar bs) (sound bs) UnitItems 0 ts v rest e

stops_at : (bs : List ℕ) (ts : List Token) (w : Cause) (n : ℕ) → read bs UnitItems 0 ts ≡ Stop w n → StopsAt (grammar bs) 0 UnitItems ts w n
unfolding read
stops_at bs ts w n e = read_rule-stops (grammar bs) (sound bs) UnitItems 0 ts w n e

reads_whole : (bs : List ℕ) (ts : List Token) (is : List Item) → IsUnit bs is ts → read bs UnitItems 0 ts ≡ Read (Made (OfItems is)) []
unfolding read
reads_whole bs ts is h = text_read (grammar bs) (sound bs) exact UnitItems 0 ts (Made (OfItems is)) [] h

pub is_unit : (bs : List ℕ) (ts rest : List Token) (is : List Item) → read bs UnitItems 0 ts ≡ Read (Made (OfItems is)) rest → (length rest == 0) ≡ true → IsUnit bs is ts
is_unit bs ts rest is e h =
    subst (λ r. IsText (grammar bs) 0 UnitItems ts (Made (OfItems is)) r) (nothing_left rest h) (is_text bs ts rest (Made (OfItems is)) e)

pub is_only : (bs : List ℕ) (ts rest : List Token) (is found : List Item) → read bs UnitItems 0 ts ≡ Read (Made (OfItems found)) rest → IsUnit bs is ts → is ≡ found
is_only bs ts rest is found e p = let q = reads_whole bs ts is p in cc

pub no_rest : (bs : List ℕ) (ts rest : List Token) (is found : List Item) → read bs UnitItems 0 ts ≡ Read (Made (OfItems found)) rest → (length rest == 0) ≡ false → IsUnit bs is ts → ⊥
no_rest bs ts rest is found e h p =
    let q = reads_whole bs ts is p in
    let r : rest ≡ [] = cc in
    let l : 0 < length rest = something_left rest h in omega (arith, l, ap length r)

pub no_unit : (bs : List ℕ) (ts : List Token) (is : List Item) (w : Cause) (n : ℕ) → read bs UnitItems 0 ts ≡ Stop w n → IsUnit bs is ts → ⊥
no_unit bs ts is w n e p = let q = reads_whole bs ts is p in cc

pub ends_early : (bs : List ℕ) (ts rest : List Token) (is : List Item) → read bs UnitItems 0 ts ≡ Read (Made (OfItems is)) rest → (length rest == 0) ≡ false → StopsBefore bs ts rest
ends_early bs ts rest is e h = inr (Made (OfItems is), is_text bs ts rest (Made (OfItems is)) e, something_left rest h)

pub stops_before : (bs : List ℕ) (ts left : List Token) (n : ℕ) → read bs UnitItems 0 ts ≡ Stop Unexpected n → left ≡ drop (length ts - n) ts → StopsBefore bs ts left
stops_before bs ts left n e p = inl (n, stops_at bs ts Unexpected n e, p)

pub too_many : (bs : List ℕ) (ts left : List Token) (n at : ℕ) → read bs UnitItems 0 ts ≡ Stop TooDeep n → left ≡ drop (length ts - n) ts → at ≡ place_at bs left → OpensTooMany bs ts at
too_many bs ts left n at e p q = (n, stops_at bs ts TooDeep n e, q ∙ ap (place_at bs) p)

-- what is answered for a token that isn't needed is a fault of the whole
pub refusal_is : (bs : List ℕ) (ts left : List Token) (f : ParseFault) → StopsBefore bs ts left → Refuses bs left f → IsFault bs ts f
refusal_is bs ts left (F.NotC at) s r = (left, s, r)
refusal_is bs ts left (F.Unsupported word at) s r = (left, s, r)
refusal_is bs ts left (F.TooDeep at) s r = absurd r
refusal_is bs ts left F.Memory s r = tt

pub no_only : (is : List Item) (f : ParseFault) → ⊥ → IsOnly is (Err f)
no_only is f h = absurd h
