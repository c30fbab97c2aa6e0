-- What is read of a note is nothing but its end.
use Rattle.std.proofs.Common.{◌≡◌, ◌∷◌, [], List, ℕ, true, false, refl, sym, subst, ◌∙◌, length, arith}
use Rattle.c_lex.specs.declared.token.Token.{Token}
use Rattle.grammar_forms.specs.Forms.{Made, one_of}
use Rattle.grammar_forms.specs.inner.Reading.{Reading, Read, Stop, Spent, with_value, finish}
use Rattle.grammar_forms.proofs.Readings.{value_value}
use Rattle.c_parse.specs.Classes.{same_class, class_at}
use Rattle.c_parse.specs.Table.{InNote, in_note}
use Rattle.c_parse.specs.Trees.{Value, OfNothing}
use Rattle.c_parse.specs.Grammar.{grammar}
use Rattle.c_parse.specs.inner.Outcome.{read}
use Rattle.c_parse.proofs.Rows.{in_note_row}

end_apart : one_of same_class in_note (class_at []) ≡ false
unfolding same_class class_at
end_apart = refl

pub note_ends : (bs : List ℕ) (d : ℕ) (ts : List Token) → one_of same_class in_note (class_at ts) ≡ false → read bs InNote d ts ≡ Read (Made OfNothing) ts
note_ends bs d ts e = rw (in_note_row bs d ts, e) refl

nothing_again : (bs : List ℕ) (d : ℕ) (ts : List Token) → with_value (λ v. Made OfNothing) (read bs InNote d ts) ≡ read bs InNote d ts
nothing_again bs d ts = rw (in_note_row bs d ts) (fused _)
  where
    fused : (a : Reading Token Value) → with_value (λ v. Made OfNothing) (finish (grammar bs) InNote a) ≡ finish (grammar bs) InNote a
    fused (Read v us) = refl
    fused (Stop w n) = refl
    fused Spent = refl

goes_on : (bs : List ℕ) (d : ℕ) (t : Token) (rest : List Token) → one_of same_class in_note (class_at (t ∷ rest)) ≡ true
    → read bs InNote d (t ∷ rest) ≡ read bs InNote d rest
goes_on bs d t rest e =
    rw (in_note_row bs d (t ∷ rest), e) (value_value _ _ _ ∙ value_value _ _ _ ∙ nothing_again bs d rest)

pub note_goes_on : (bs : List ℕ) (d : ℕ) (ts rest : List Token) (t : Token) → ts ≡ t ∷ rest → one_of same_class in_note (class_at ts) ≡ true
    → read bs InNote d ts ≡ read bs InNote d rest
note_goes_on bs d ts rest t p e =
    subst (λ us. read bs InNote d us ≡ read bs InNote d rest) (sym p)
    (goes_on bs d t rest (subst (λ us. one_of same_class in_note (class_at us) ≡ true) p e))

pub note_at_end : (bs : List ℕ) (d : ℕ) (ts : List Token) → length ts ≡ 0 → read bs InNote d ts ≡ Read (Made OfNothing) ts
note_at_end bs d [] p = note_ends bs d [] end_apart
note_at_end bs d (t ∷ ts) p = absurd (omega arith)
