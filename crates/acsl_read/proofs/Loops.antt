-- Loops over lists: one more of what is to be read joins what has been read.
use Rattle.std.proofs.Common.{◌≡◌, ◌∷◌, ◌++◌, [], List, ℕ, true, refl, ap, sym, subst, ◌∙◌, ◌+◌, append_assoc}
use Rattle.std.specs.Prelude.{nat_lt}
use Rattle.fc_base.specs.declared.syntax.Spot.{Spot}
use Rattle.c_lex.specs.declared.token.Token.{Token}
use Rattle.c_ast.specs.declared.annot.AnnotKind.{AnnotKind}
use Rattle.c_ast.specs.declared.annot.AnnotKind.TheVariants as A
use Rattle.c_ast.specs.declared.annot.Clause.{Clause}
use Rattle.c_ast.specs.declared.annot.Link.{Link}
use Rattle.c_ast.specs.declared.annot.Loc.{Loc}
use Rattle.acsl_read.specs.declared.level.Level.{Level}
use Rattle.acsl_read.specs.declared.level.Level.TheVariants as L
use Rattle.acsl_read.specs.declared.level.Side.{Side}
use Rattle.acsl_read.specs.declared.level.Side.TheVariants as S
use Rattle.acsl_read.specs.declared.level.Direction.TheVariants as D
use Rattle.acsl_read.specs.declared.part.Part.{Part}
use Rattle.acsl_read.specs.declared.part.Stated.{Stated}
use Rattle.c_parse.specs.declared.fault.Fault.{Fault}
use Rattle.c_parse.specs.declared.fault.Fault.TheVariants as F
use Rattle.grammar_forms.specs.Forms.{Made, One, one_of, most_nested}
use Rattle.grammar_forms.specs.inner.Reading.{Reading, Read, Stop, Spent, with_value, token}
use Rattle.grammar_forms.proofs.Readings.{value_value}
use Rattle.c_parse.specs.Places.{reach}
use Rattle.acsl_read.specs.Classes.{same_class, class_at}
use Rattle.acsl_read.specs.Grammar.{grammar}
use Rattle.acsl_read.specs.Table as R
use Rattle.acsl_read.specs.Table.{ops, operand, inner, prefixes}
use Rattle.acsl_read.specs.Trees.{Value, Found, OfPart, OfJoins, OfLocs, OfStated, OfStateds, OfAnnot, join, joins_in, link_of, locs_in, prefix_part, stateds_in}
use Rattle.acsl_read.specs.inner.Outcome.{Fails, read}
use Rattle.acsl_read.specs.inner.Lists.{joins_after, links_after, locs_after, clauses_after}
use Rattle.acsl_read.proofs.Rows.{binary_row, more_row, relations_row, factor_row, contract_row, loop_note_row}

-- what is made of what was made
pub fuse : (f h : Found → Found) (a : Reading Token Value) → with_value f (with_value h a) ≡ with_value (λ v. f (h v)) a
fuse f h a = value_value f h a

-- a fault of the rest is one of the whole
pub fails_whole : (e : Fault) (f : Found → Found) (a b : Reading Token Value) → b ≡ with_value f a → Fails e a → Fails e b
fails_whole F.Memory f a b p h = tt
fails_whole (F.Unexpected n) f a b p h = p ∙ ap (with_value f) h
fails_whole (F.TooDeep n) f a b p h = p ∙ ap (with_value f) h

-- Operands of a level.

pub binary_begins : (l : Level) (bs : List ℕ) (d : ℕ) (ts rest : List Token) (p : Part) → read bs (operand l) d ts ≡ Read (Made (OfPart p)) rest
    → read bs (R.Binary l) d ts ≡ joins_after p (read bs (R.More (inner l)) d rest)
binary_begins l bs d ts rest p e = rw (binary_row l bs d ts, e) (value_value _ _ _)

pub binary_fails : (l : Level) (bs : List ℕ) (d : ℕ) (ts : List Token) (e : Fault) → Fails e (read bs (operand l) d ts) → Fails e (read bs (R.Binary l) d ts)
binary_fails l bs d ts F.Memory h = tt
binary_fails l bs d ts (F.Unexpected n) h = rw (binary_row l bs d ts, h) refl
binary_fails l bs d ts (F.TooDeep n) h = rw (binary_row l bs d ts, h) refl

pub joins_more : (a b : Reading Token Value) (p q : Part) (op : Token) → a ≡ with_value (λ v. Made (OfJoins ((op, q) ∷ joins_in v))) b
    → joins_after p a ≡ joins_after (join p op q) b
joins_more a b p q op e = rw e (value_value _ _ _)

-- one operator of a level more
pub more_step : (l : Level) (bs : List ℕ) (d : ℕ) (ts mid rest : List Token) (t : Token) (p : Part) → one_of same_class (ops l) (class_at bs ts) ≡ true
    → token (grammar bs) (ops l) ts ≡ Read (One t) mid → read bs (operand l) d mid ≡ Read (Made (OfPart p)) rest
    → read bs (R.More l) d ts ≡ with_value (λ v. Made (OfJoins ((t, p) ∷ joins_in v))) (read bs (R.More l) d rest)
more_step l bs d ts mid rest t p e f h =
    rw (more_row l bs d ts, e, f, h) (value_value _ _ _ ∙ value_value _ _ _ ∙ value_value _ _ _)

-- Chains of relations.

pub relations_begin : (bs : List ℕ) (d : ℕ) (ts rest : List Token) (p : Part) → read bs (R.Binary (L.Sum S.Lead)) d ts ≡ Read (Made (OfPart p)) rest
    → read bs R.Relations d ts ≡ links_after p p.place [] (read bs (R.Links D.Open) d rest)
relations_begin bs d ts rest p e = rw (relations_row bs d ts, e) (value_value _ _ _)

pub relations_fail : (bs : List ℕ) (d : ℕ) (ts : List Token) (e : Fault) → Fails e (read bs (R.Binary (L.Sum S.Lead)) d ts) → Fails e (read bs R.Relations d ts)
relations_fail bs d ts F.Memory h = tt
relations_fail bs d ts (F.Unexpected n) h = rw (relations_row bs d ts, h) refl
relations_fail bs d ts (F.TooDeep n) h = rw (relations_row bs d ts, h) refl

pub links_more : (a b : Reading Token Value) (p q : Part) (end : Spot) (ls : List Link) (op : Token) → a ≡ with_value (λ v. Made (OfJoins ((op, q) ∷ joins_in v))) b
    → links_after p end ls a ≡ links_after p q.place (ls ++ link_of op q ∷ []) b
links_more a b p q end ls op e = rw e (value_value _ _ _)

-- Places.

pub locs_more : (a b : Reading Token Value) (xs : List Loc) (x : Loc) → a ≡ with_value (λ v. Made (OfLocs (x ∷ locs_in v))) b
    → locs_after xs a ≡ locs_after (xs ++ x ∷ []) b
locs_more a b xs x p = rw p (fused b)
  where
    fused : (b : Reading Token Value) → locs_after xs (with_value (λ v. Made (OfLocs (x ∷ locs_in v))) b) ≡ locs_after (xs ++ x ∷ []) b
    fused (Read v ts) = ap (λ ys. Read (Made (OfLocs ys)) ts) (sym (append_assoc xs (x ∷ []) (locs_in v)))
    fused (Stop w n) = refl
    fused Spent = refl

-- Clauses.

pub contract_begins : (bs : List ℕ) (d : ℕ) (ts rest : List Token) (s : Stated) → read bs R.ContractClause d ts ≡ Read (Made (OfStated s)) rest
    → read bs R.Contract d ts ≡ clauses_after A.Contract s.at (s.clause ∷ []) (read bs R.ContractClauses d rest)
contract_begins bs d ts rest s e = rw (contract_row bs d ts, e) (value_value _ _ _)

pub contract_fails : (bs : List ℕ) (d : ℕ) (ts : List Token) (e : Fault) → Fails e (read bs R.ContractClause d ts) → Fails e (read bs R.Contract d ts)
contract_fails bs d ts F.Memory h = tt
contract_fails bs d ts (F.Unexpected n) h = rw (contract_row bs d ts, h) refl
contract_fails bs d ts (F.TooDeep n) h = rw (contract_row bs d ts, h) refl

pub loop_note_begins : (bs : List ℕ) (d : ℕ) (ts rest : List Token) (s : Stated) → read bs R.LoopClause d ts ≡ Read (Made (OfStated s)) rest
    → read bs R.LoopNote d ts ≡ clauses_after A.LoopNote s.at (s.clause ∷ []) (read bs R.LoopClauses d rest)
loop_note_begins bs d ts rest s e = rw (loop_note_row bs d ts, e) (value_value _ _ _)

pub loop_note_fails : (bs : List ℕ) (d : ℕ) (ts : List Token) (e : Fault) → Fails e (read bs R.LoopClause d ts) → Fails e (read bs R.LoopNote d ts)
loop_note_fails bs d ts F.Memory h = tt
loop_note_fails bs d ts (F.Unexpected n) h = rw (loop_note_row bs d ts, h) refl
loop_note_fails bs d ts (F.TooDeep n) h = rw (loop_note_row bs d ts, h) refl

pub clauses_more : (a b : Reading Token Value) (kind : AnnotKind) (at : Spot) (cs : List Clause) (s : Stated) → a ≡ with_value (λ v. Made (OfStateds (s ∷ stateds_in v))) b
    → clauses_after kind at cs a ≡ clauses_after kind (reach at s.at) (cs ++ s.clause ∷ []) b
clauses_more a b kind at cs s e = rw e (value_value _ _ _)

-- One prefix operator more of an operand.

pub factor_step : (s : Side) (bs : List ℕ) (d e : ℕ) (ts mid rest : List Token) (t : Token) (p : Part) → one_of same_class (prefixes s) (class_at bs ts) ≡ true
    → token (grammar bs) (prefixes s) ts ≡ Read (One t) mid → nat_lt d most_nested ≡ true → e ≡ d + 1
    → read bs (R.Factor S.Inner) e mid ≡ Read (Made (OfPart p)) rest
    → read bs (R.Factor s) d ts ≡ Read (Made (OfPart (prefix_part t p))) rest
factor_step s bs d e ts mid rest t p h f n q r =
    rw (factor_row s bs d ts, h, f, n) (rw (subst (λ k. read bs (R.Factor S.Inner) k mid ≡ Read (Made (OfPart p)) rest) q r) refl)
