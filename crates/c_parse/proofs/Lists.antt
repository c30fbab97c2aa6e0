-- Lists that begin empty: what has been read joins what is still to be read.
use Rattle.std.proofs.Common.{◌≡◌, ◌∷◌, ◌++◌, [], List, ℕ, refl, ap, sym, append_assoc}
use Rattle.fc_base.specs.declared.syntax.Spot.{Spot}
use Rattle.c_lex.specs.declared.token.Token.{Token}
use Rattle.c_ast.specs.declared.stmt.Declr.{Declr}
use Rattle.c_ast.specs.declared.stmt.Stmt.{Stmt}
use Rattle.c_ast.specs.declared.unit.Formal.{Formal}
use Rattle.c_ast.specs.declared.unit.Item.{Item}
use Rattle.grammar_forms.specs.Forms.{Made}
use Rattle.grammar_forms.specs.inner.Reading.{Reading, Read, Stop, Spent, with_value, finish}
use Rattle.c_parse.specs.Table.{MoreValues, MoreDeclrs, Notes, BlockItems, MoreFormals, Storages, UnitItems}
use Rattle.c_parse.specs.Trees.{Value, OfDeclrs, OfSpots, OfStmts, OfFormals, OfItems, OfWords}
use Rattle.c_parse.specs.Trees.{declrs_in, spots_in, stmts_in, formals_in, items_in, words_in}
use Rattle.c_parse.specs.Grammar.{grammar}
use Rattle.c_parse.specs.inner.Outcome.{read}
use Rattle.c_parse.specs.inner.Lists.{exprs_after, declrs_after, spots_after, stmts_after, formals_after, items_after, words_after}
use Rattle.c_parse.proofs.Rows.{more_values_row, more_declrs_row, notes_row, block_items_row, more_formals_row, storages_row, unit_items_row}

pub more_values_begin : (bs : List ℕ) (d : ℕ) (ts : List Token) → exprs_after [] (read bs MoreValues d ts) ≡ read bs MoreValues d ts
more_values_begin bs d ts = rw (more_values_row bs d ts) (fused _)
  where
    fused : (a : Reading Token Value) → exprs_after [] (finish (grammar bs) MoreValues a) ≡ finish (grammar bs) MoreValues a
    fused (Read v us) = refl
    fused (Stop w n) = refl
    fused Spent = refl

pub declrs_more : (a b : Reading Token Value) (xs : List Declr) (x : Declr) → a ≡ with_value (λ v. Made (OfDeclrs (x ∷ declrs_in v))) b
    → declrs_after xs a ≡ declrs_after (xs ++ x ∷ []) b
declrs_more a b xs x p = rw p (fused b)
  where
    fused : (b : Reading Token Value) → declrs_after xs (with_value (λ v. Made (OfDeclrs (x ∷ declrs_in v))) b) ≡ declrs_after (xs ++ x ∷ []) b
    fused (Read v ts) = ap (λ ys. Read (Made (OfDeclrs ys)) ts) (sym (append_assoc xs (x ∷ []) (declrs_in v)))
    fused (Stop w n) = refl
    fused Spent = refl

pub more_declrs_begin : (bs : List ℕ) (d : ℕ) (ts : List Token) → declrs_after [] (read bs MoreDeclrs d ts) ≡ read bs MoreDeclrs d ts
more_declrs_begin bs d ts = rw (more_declrs_row bs d ts) (fused _)
  where
    fused : (a : Reading Token Value) → declrs_after [] (finish (grammar bs) MoreDeclrs a) ≡ finish (grammar bs) MoreDeclrs a
    fused (Read v us) = refl
    fused (Stop w n) = refl
    fused Spent = refl

pub spots_more : (a b : Reading Token Value) (xs : List Spot) (x : Spot) → a ≡ with_value (λ v. Made (OfSpots (x ∷ spots_in v))) b
    → spots_after xs a ≡ spots_after (xs ++ x ∷ []) b
spots_more a b xs x p = rw p (fused b)
  where
    fused : (b : Reading Token Value) → spots_after xs (with_value (λ v. Made (OfSpots (x ∷ spots_in v))) b) ≡ spots_after (xs ++ x ∷ []) b
    fused (Read v ts) = ap (λ ys. Read (Made (OfSpots ys)) ts) (sym (append_assoc xs (x ∷ []) (spots_in v)))
    fused (Stop w n) = refl
    fused Spent = refl

pub notes_begin : (bs : List ℕ) (d : ℕ) (ts : List Token) → spots_after [] (read bs Notes d ts) ≡ read bs Notes d ts
notes_begin bs d ts = rw (notes_row bs d ts) (fused _)
  where
    fused : (a : Reading Token Value) → spots_after [] (finish (grammar bs) Notes a) ≡ finish (grammar bs) Notes a
    fused (Read v us) = refl
    fused (Stop w n) = refl
    fused Spent = refl

pub stmts_more : (a b : Reading Token Value) (xs : List Stmt) (x : Stmt) → a ≡ with_value (λ v. Made (OfStmts (x ∷ stmts_in v))) b
    → stmts_after xs a ≡ stmts_after (xs ++ x ∷ []) b
stmts_more a b xs x p = rw p (fused b)
  where
    fused : (b : Reading Token Value) → stmts_after xs (with_value (λ v. Made (OfStmts (x ∷ stmts_in v))) b) ≡ stmts_after (xs ++ x ∷ []) b
    fused (Read v ts) = ap (λ ys. Read (Made (OfStmts ys)) ts) (sym (append_assoc xs (x ∷ []) (stmts_in v)))
    fused (Stop w n) = refl
    fused Spent = refl

pub block_items_begin : (bs : List ℕ) (d : ℕ) (ts : List Token) → stmts_after [] (read bs BlockItems d ts) ≡ read bs BlockItems d ts
block_items_begin bs d ts = rw (block_items_row bs d ts) (fused _)
  where
    fused : (a : Reading Token Value) → stmts_after [] (finish (grammar bs) BlockItems a) ≡ finish (grammar bs) BlockItems a
    fused (Read v us) = refl
    fused (Stop w n) = refl
    fused Spent = refl

pub formals_more : (a b : Reading Token Value) (xs : List Formal) (x : Formal) → a ≡ with_value (λ v. Made (OfFormals (x ∷ formals_in v))) b
    → formals_after xs a ≡ formals_after (xs ++ x ∷ []) b
formals_more a b xs x p = rw p (fused b)
  where
    fused : (b : Reading Token Value) → formals_after xs (with_value (λ v. Made (OfFormals (x ∷ formals_in v))) b) ≡ formals_after (xs ++ x ∷ []) b
    fused (Read v ts) = ap (λ ys. Read (Made (OfFormals ys)) ts) (sym (append_assoc xs (x ∷ []) (formals_in v)))
    fused (Stop w n) = refl
    fused Spent = refl

pub more_formals_begin : (bs : List ℕ) (d : ℕ) (ts : List Token) → formals_after [] (read bs MoreFormals d ts) ≡ read bs MoreFormals d ts
more_formals_begin bs d ts = rw (more_formals_row bs d ts) (fused _)
  where
    fused : (a : Reading Token Value) → formals_after [] (finish (grammar bs) MoreFormals a) ≡ finish (grammar bs) MoreFormals a
    fused (Read v us) = refl
    fused (Stop w n) = refl
    fused Spent = refl

pub items_more : (a b : Reading Token Value) (xs : List Item) (x : Item) → a ≡ with_value (λ v. Made (OfItems (x ∷ items_in v))) b
    → items_after xs a ≡ items_after (xs ++ x ∷ []) b
items_more a b xs x p = rw p (fused b)
  where
    fused : (b : Reading Token Value) → items_after xs (with_value (λ v. Made (OfItems (x ∷ items_in v))) b) ≡ items_after (xs ++ x ∷ []) b
    fused (Read v ts) = ap (λ ys. Read (Made (OfItems ys)) ts) (sym (append_assoc xs (x ∷ []) (items_in v)))
    fused (Stop w n) = refl
    fused Spent = refl

pub unit_items_begin : (bs : List ℕ) (d : ℕ) (ts : List Token) → items_after [] (read bs UnitItems d ts) ≡ read bs UnitItems d ts
unit_items_begin bs d ts = rw (unit_items_row bs d ts) (fused _)
  where
    fused : (a : Reading Token Value) → items_after [] (finish (grammar bs) UnitItems a) ≡ finish (grammar bs) UnitItems a
    fused (Read v us) = refl
    fused (Stop w n) = refl
    fused Spent = refl

pub words_more : (a b : Reading Token Value) (xs : List Token) (x : Token) → a ≡ with_value (λ v. Made (OfWords (x ∷ words_in v))) b
    → words_after xs a ≡ words_after (xs ++ x ∷ []) b
words_more a b xs x p = rw p (fused b)
  where
    fused : (b : Reading Token Value) → words_after xs (with_value (λ v. Made (OfWords (x ∷ words_in v))) b) ≡ words_after (xs ++ x ∷ []) b
    fused (Read v ts) = ap (λ ys. Read (Made (OfWords ys)) ts) (sym (append_assoc xs (x ∷ []) (words_in v)))
    fused (Stop w n) = refl
    fused Spent = refl

pub storages_begin : (bs : List ℕ) (d : ℕ) (ts : List Token) → words_after [] (read bs Storages d ts) ≡ read bs Storages d ts
storages_begin bs d ts = rw (storages_row bs d ts) (fused _)
  where
    fused : (a : Reading Token Value) → words_after [] (finish (grammar bs) Storages a) ≡ finish (grammar bs) Storages a
    fused (Read v us) = refl
    fused (Stop w n) = refl
    fused Spent = refl
