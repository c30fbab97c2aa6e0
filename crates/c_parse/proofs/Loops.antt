-- Loops over lists: one more of what is to be read joins what has been read.
use Rattle.std.proofs.Common.{◌≡◌, ◌∷◌, ◌++◌, [], List, ℕ, true, refl, ap, sym, ◌∙◌, append_assoc}
use Rattle.fc_base.specs.declared.syntax.Spot.{Spot}
use Rattle.c_lex.specs.declared.token.Token.{Token}
use Rattle.c_ast.specs.declared.expr.Expr.{Expr}
use Rattle.c_ast.specs.declared.expr.SpecWord.{SpecWord}
use Rattle.c_parse.specs.declared.level.Level.{Level}
use Rattle.c_parse.specs.declared.part.Part.{Part}
use Rattle.c_parse.specs.declared.part.Ending.{Ending}
use Rattle.c_parse.specs.declared.fault.Fault.{Fault}
use Rattle.c_parse.specs.declared.fault.Fault.TheVariants as F
use Rattle.grammar_forms.specs.Forms.{Made, One, one_of}
use Rattle.grammar_forms.specs.inner.Reading.{Reading, Read, Stop, Spent, with_value, token}
use Rattle.grammar_forms.proofs.Readings.{value_value}
use Rattle.c_parse.specs.Classes.{same_class, class_at}
use Rattle.c_parse.specs.Grammar.{grammar}
use Rattle.c_parse.specs.Places.{reach, spot_of}
use Rattle.c_parse.specs.Words.{spec_word}
use Rattle.c_parse.specs.Table.{ops, operand, Binary, More, Postfix, Suffixes, Primary}
use Rattle.c_parse.specs.Trees.{Value, Found, OfPart, OfJoins, OfEnds, OfExprs, OfWords, join, with_end, joins_in, ends_in, words_in, exprs_in}
use Rattle.c_parse.specs.inner.Outcome.{Fails, read}
use Rattle.c_parse.specs.inner.Lists.{joins_after, ends_after, spec_after, exprs_after}
use Rattle.c_parse.proofs.Rows.{binary_row, more_row, postfix_row}

-- what is made of what was made
pub fuse : (f h : Found → Found) (a : Reading Token Value) → with_value f (with_value h a) ≡ with_value (λ v. f (h v)) a
fuse f h a = value_value f h a

-- a fault of the rest is one of the whole
pub fails_whole : (e : Fault) (f : Found → Found) (a b : Reading Token Value) → b ≡ with_value f a → Fails e a → Fails e b
fails_whole F.Memory f a b p h = tt
fails_whole (F.Unexpected n) f a b p h = p ∙ ap (with_value f) h
fails_whole (F.TooDeep n) f a b p h = p ∙ ap (with_value f) h

pub binary_begins : (l : Level) (bs : List ℕ) (d : ℕ) (ts rest : List Token) (p : Part) → read bs (operand l) d ts ≡ Read (Made (OfPart p)) rest
    → read bs (Binary l) d ts ≡ joins_after p (read bs (More l) d rest)
binary_begins l bs d ts rest p e = rw (binary_row l bs d ts, e) (value_value _ _ _)

pub binary_fails : (l : Level) (bs : List ℕ) (d : ℕ) (ts : List Token) (e : Fault) → Fails e (read bs (operand l) d ts) → Fails e (read bs (Binary l) d ts)
binary_fails l bs d ts F.Memory h = tt
binary_fails l bs d ts (F.Unexpected n) h = rw (binary_row l bs d ts, h) refl
binary_fails l bs d ts (F.TooDeep n) h = rw (binary_row l bs d ts, h) refl

pub joins_more : (a b : Reading Token Value) (p q : Part) (op : Token) → a ≡ with_value (λ v. Made (OfJoins ((op, q) ∷ joins_in v))) b
    → joins_after p a ≡ joins_after (join p op q) b
joins_more a b p q op e = rw e (value_value _ _ _)

pub postfix_begins : (bs : List ℕ) (d : ℕ) (ts rest : List Token) (p : Part) → read bs Primary d ts ≡ Read (Made (OfPart p)) rest
    → read bs Postfix d ts ≡ ends_after p (read bs Suffixes d rest)
postfix_begins bs d ts rest p e = rw (postfix_row bs d ts, e) (value_value _ _ _)

pub postfix_fails : (bs : List ℕ) (d : ℕ) (ts : List Token) (e : Fault) → Fails e (read bs Primary d ts) → Fails e (read bs Postfix d ts)
postfix_fails bs d ts F.Memory h = tt
postfix_fails bs d ts (F.Unexpected n) h = rw (postfix_row bs d ts, h) refl
postfix_fails bs d ts (F.TooDeep n) h = rw (postfix_row bs d ts, h) refl

pub ends_more : (a b : Reading Token Value) (p : Part) (x : Ending) (close : Token) → a ≡ with_value (λ v. Made (OfEnds ((x, close) ∷ ends_in v))) b
    → ends_after p a ≡ ends_after (with_end p x close) b
ends_more a b p x close e = rw e (value_value _ _ _)

pub spec_more : (a b : Reading Token Value) (at : Spot) (ws : List SpecWord) (t : Token) → a ≡ with_value (λ v. Made (OfWords (t ∷ words_in v))) b
    → spec_after at ws a ≡ spec_after (reach at (spot_of t)) (ws ++ spec_word t.kind ∷ []) b
spec_more a b at ws t e = rw e (value_value _ _ _)

pub args_more : (a b : Reading Token Value) (es : List Expr) (e : Expr) → a ≡ with_value (λ v. Made (OfExprs (e ∷ exprs_in v))) b
    → exprs_after es a ≡ exprs_after (es ++ e ∷ []) b
args_more a b es e p = rw p (fuse b)
  where
    fuse : (b : Reading Token Value) → exprs_after es (with_value (λ v. Made (OfExprs (e ∷ exprs_in v))) b) ≡ exprs_after (es ++ e ∷ []) b
    fuse (Read v ts) = ap (λ xs. Read (Made (OfExprs xs)) ts) (sym (append_assoc es (e ∷ []) (exprs_in v)))
    fuse (Stop w n) = refl
    fuse Spent = refl

-- one operator of a level more
pub more_step : (l : Level) (bs : List ℕ) (d : ℕ) (ts mid rest : List Token) (t : Token) (p : Part) → one_of same_class (ops l) (class_at ts) ≡ true
    → token (grammar []) (ops l) ts ≡ Read (One t) mid → read bs (operand l) d mid ≡ Read (Made (OfPart p)) rest
    → read bs (More l) d ts ≡ with_value (λ v. Made (OfJoins ((t, p) ∷ joins_in v))) (read bs (More l) d rest)
more_step l bs d ts mid rest t p e f h =
    rw (more_row l bs d ts, e, f, h) (value_value _ _ _ ∙ value_value _ _ _ ∙ value_value _ _ _)
