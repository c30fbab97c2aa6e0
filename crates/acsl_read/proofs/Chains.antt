-- One relation more of a chain.
use Rattle.std.proofs.Common.{◌≡◌, ◌∷◌, [], List, ℕ, Option, Some, None, Bool, true, false, refl, ap, sym, subst, ◌∙◌}
use Rattle.c_lex.specs.declared.token.Token.{Token}
use Rattle.acsl_read.specs.declared.class.Class.{Class}
use Rattle.acsl_read.specs.declared.class.Class.TheVariants as C
use Rattle.acsl_read.specs.declared.level.Level.TheVariants as L
use Rattle.acsl_read.specs.declared.level.Side.TheVariants as S
use Rattle.acsl_read.specs.declared.level.Direction.{Direction}
use Rattle.acsl_read.specs.declared.level.Direction.TheVariants as D
use Rattle.acsl_read.specs.declared.part.Part.{Part}
use Rattle.c_parse.specs.declared.fault.Fault.{Fault}
use Rattle.c_parse.specs.declared.fault.Fault.TheVariants as F
use Rattle.grammar_forms.specs.Forms.{Made, One, First as Left}
use Rattle.grammar_forms.specs.Derives.{Cause}
use Rattle.grammar_forms.specs.inner.Reading.{Reading, Read, Stop, with_value, token, read_form}
use Rattle.grammar_forms.proofs.Readings.{value_value}
use Rattle.acsl_read.specs.Classes.{same_class, class_at}
use Rattle.acsl_read.specs.Grammar.{grammar}
use Rattle.acsl_read.specs.Table as R
use Rattle.acsl_read.specs.Trees.{Value, OfPart, OfJoins, joins_in, links_of}
use Rattle.acsl_read.specs.inner.Outcome.{Fails, read, turn}
use Rattle.acsl_read.proofs.Rows.{links_row}

some_is : (x y : Direction) → Some x ≡ Some y → x ≡ y
some_is x y e = cc e

no_turn : (x : Direction) → Some x ≡ None → ⊥
no_turn x e = cc e

none_turn : (x : Direction) → None ≡ Some x → ⊥
none_turn x e = cc e

-- Where a relation may follow, its alternative is taken.

abbrev Taken : Direction → Direction → List ℕ → ℕ → List Token → Class → Type 0
Taken a b bs d ts c =
    read bs (R.Links a) d ts ≡ with_value (λ v. Made (OfJoins (links_of (Left v)))) (read_form (grammar bs) (read bs) d (R.link c b) ts)

links_form : (a b : Direction) (bs : List ℕ) (d : ℕ) (ts : List Token) (c : Class) → class_at bs ts ≡ c → turn a c ≡ Some b → Taken a b bs d ts c
unfolding same_class
links_form D.Open b bs d ts C.Equal q e =
    subst (λ x. Taken D.Open x bs d ts C.Equal) (some_is _ _ e) (rw (links_row D.Open bs d ts, q) (value_value _ _ _))
links_form D.Open b bs d ts C.Rising q e =
    subst (λ x. Taken D.Open x bs d ts C.Rising) (some_is _ _ e) (rw (links_row D.Open bs d ts, q) (value_value _ _ _ ∙ value_value _ _ _))
links_form D.Open b bs d ts C.Falling q e =
    subst (λ x. Taken D.Open x bs d ts C.Falling) (some_is _ _ e) (rw (links_row D.Open bs d ts, q) (value_value _ _ _ ∙ value_value _ _ _ ∙ value_value _ _ _))
links_form D.Open b bs d ts C.Distinct q e =
    subst (λ x. Taken D.Open x bs d ts C.Distinct) (some_is _ _ e)
    (rw (links_row D.Open bs d ts, q) (value_value _ _ _ ∙ value_value _ _ _ ∙ value_value _ _ _ ∙ value_value _ _ _))
links_form D.Level b bs d ts C.Equal q e =
    subst (λ x. Taken D.Level x bs d ts C.Equal) (some_is _ _ e) (rw (links_row D.Level bs d ts, q) (value_value _ _ _))
links_form D.Level b bs d ts C.Rising q e =
    subst (λ x. Taken D.Level x bs d ts C.Rising) (some_is _ _ e) (rw (links_row D.Level bs d ts, q) (value_value _ _ _ ∙ value_value _ _ _))
links_form D.Level b bs d ts C.Falling q e =
    subst (λ x. Taken D.Level x bs d ts C.Falling) (some_is _ _ e) (rw (links_row D.Level bs d ts, q) (value_value _ _ _ ∙ value_value _ _ _ ∙ value_value _ _ _))
links_form D.Rising b bs d ts C.Equal q e =
    subst (λ x. Taken D.Rising x bs d ts C.Equal) (some_is _ _ e) (rw (links_row D.Rising bs d ts, q) (value_value _ _ _))
links_form D.Rising b bs d ts C.Rising q e =
    subst (λ x. Taken D.Rising x bs d ts C.Rising) (some_is _ _ e) (rw (links_row D.Rising bs d ts, q) (value_value _ _ _ ∙ value_value _ _ _))
links_form D.Falling b bs d ts C.Equal q e =
    subst (λ x. Taken D.Falling x bs d ts C.Equal) (some_is _ _ e) (rw (links_row D.Falling bs d ts, q) (value_value _ _ _))
links_form D.Falling b bs d ts C.Falling q e =
    subst (λ x. Taken D.Falling x bs d ts C.Falling) (some_is _ _ e) (rw (links_row D.Falling bs d ts, q) (value_value _ _ _ ∙ value_value _ _ _))
links_form _ b bs d ts _ q e = absurd (none_turn b e)

taken : (a b : Direction) (bs : List ℕ) (d : ℕ) (ts : List Token) → turn a (class_at bs ts) ≡ Some b → Taken a b bs d ts (class_at bs ts)
taken a b bs d ts e = links_form a b bs d ts (class_at bs ts) refl e

pub link_step : (a b : Direction) (bs : List ℕ) (d : ℕ) (ts mid rest : List Token) (t : Token) (p : Part) → turn a (class_at bs ts) ≡ Some b
    → token (grammar bs) (class_at bs ts ∷ []) ts ≡ Read (One t) mid → read bs (R.Binary (L.Sum S.Inner)) d mid ≡ Read (Made (OfPart p)) rest
    → read bs (R.Links a) d ts ≡ with_value (λ v. Made (OfJoins ((t, p) ∷ joins_in v))) (read bs (R.Links b) d rest)
link_step a b bs d ts mid rest t p e f h = rw (taken a b bs d ts e, f, h) (value_value _ _ _ ∙ value_value _ _ _)

pub link_stops : (a b : Direction) (bs : List ℕ) (d : ℕ) (ts mid : List Token) (t : Token) (e : Fault) → turn a (class_at bs ts) ≡ Some b
    → token (grammar bs) (class_at bs ts ∷ []) ts ≡ Read (One t) mid → Fails e (read bs (R.Binary (L.Sum S.Inner)) d mid) → Fails e (read bs (R.Links a) d ts)
link_stops a b bs d ts mid t F.Memory q f h = tt
link_stops a b bs d ts mid t (F.Unexpected n) q f h = rw (taken a b bs d ts q, f, h) refl
link_stops a b bs d ts mid t (F.TooDeep n) q f h = rw (taken a b bs d ts q, f, h) refl

pub link_missing : (a b : Direction) (bs : List ℕ) (d : ℕ) (ts : List Token) (e : Fault) → turn a (class_at bs ts) ≡ Some b
    → Fails e (token (grammar bs) (class_at bs ts ∷ []) ts) → Fails e (read bs (R.Links a) d ts)
link_missing a b bs d ts F.Memory q h = tt
link_missing a b bs d ts (F.Unexpected n) q h = rw (taken a b bs d ts q, h) refl
link_missing a b bs d ts (F.TooDeep n) q h = rw (taken a b bs d ts q, h) refl

-- Where none may follow, the chain ends.

open_apart : (c : Class) → turn D.Open c ≡ None
    → (same_class c C.Equal ≡ false) × (same_class c C.Rising ≡ false) × (same_class c C.Falling ≡ false) × (same_class c C.Distinct ≡ false)
unfolding same_class
open_apart C.Equal e = absurd (no_turn _ e)
open_apart C.Rising e = absurd (no_turn _ e)
open_apart C.Falling e = absurd (no_turn _ e)
open_apart C.Distinct e = absurd (no_turn _ e)
open_apart _ e = (refl, refl, refl, refl)

level_apart : (c : Class) → turn D.Level c ≡ None
    → (same_class c C.Equal ≡ false) × (same_class c C.Rising ≡ false) × (same_class c C.Falling ≡ false)
unfolding same_class
level_apart C.Equal e = absurd (no_turn _ e)
level_apart C.Rising e = absurd (no_turn _ e)
level_apart C.Falling e = absurd (no_turn _ e)
level_apart _ e = (refl, refl, refl)

rising_apart : (c : Class) → turn D.Rising c ≡ None → (same_class c C.Equal ≡ false) × (same_class c C.Rising ≡ false)
unfolding same_class
rising_apart C.Equal e = absurd (no_turn _ e)
rising_apart C.Rising e = absurd (no_turn _ e)
rising_apart _ e = (refl, refl)

falling_apart : (c : Class) → turn D.Falling c ≡ None → (same_class c C.Equal ≡ false) × (same_class c C.Falling ≡ false)
unfolding same_class
falling_apart C.Equal e = absurd (no_turn _ e)
falling_apart C.Falling e = absurd (no_turn _ e)
falling_apart _ e = (refl, refl)

pub no_link : (a : Direction) (bs : List ℕ) (d : ℕ) (ts : List Token) → turn a (class_at bs ts) ≡ None → read bs (R.Links a) d ts ≡ Read (Made (OfJoins [])) ts
no_link D.Open bs d ts e =
    let h = open_apart (class_at bs ts) e in rw (links_row D.Open bs d ts, h.0, h.1, h.2, h.3) refl
no_link D.Level bs d ts e =
    let h = level_apart (class_at bs ts) e in rw (links_row D.Level bs d ts, h.0, h.1, h.2) refl
no_link D.Rising bs d ts e =
    let h = rising_apart (class_at bs ts) e in rw (links_row D.Rising bs d ts, h.0, h.1) refl
no_link D.Falling bs d ts e =
    let h = falling_apart (class_at bs ts) e in rw (links_row D.Falling bs d ts, h.0, h.1) refl
no_link D.Closed bs d ts e = links_row D.Closed bs d ts
