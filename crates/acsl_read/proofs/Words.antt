-- The last of some tokens, and how many there are.
use Rattle.std.proofs.Common.{◌≡◌, ◌∷◌, ◌++◌, ◌-◌, [], List, ℕ, false, refl, length, drop, length-drop, arith}
use Rattle.c_lex.specs.declared.token.Token.{Token}
use Rattle.acsl_read.specs.declared.class.Class.TheVariants as C
use Rattle.acsl_read.specs.Classes.{same_class, class_of}
use Rattle.acsl_read.specs.Program.{ends_with_forall}

pub ends_last : (bs : List ℕ) (xs : List Token) (t : Token) → ends_with_forall bs (xs ++ t ∷ []) ≡ same_class (class_of bs t) C.Forall
ends_last bs [] t = refl
ends_last bs (x ∷ []) t = refl
ends_last bs (x ∷ y ∷ xs) t = ends_last bs (y ∷ xs) t

pub ends_never : (bs : List ℕ) (ts : List Token) → length ts ≡ 0 → ends_with_forall bs ts ≡ false
ends_never bs [] e = refl
ends_never bs (t ∷ ts) e = absurd (omega arith)

pub dropped : (n : ℕ) (ts left : List Token) → left ≡ drop (length ts - n) ts → length ts - length left ≡ length ts - n
dropped n ts left e = rw (e, length-drop (length ts - n) ts) (omega arith)
