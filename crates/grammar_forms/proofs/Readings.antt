-- What is made of what a reading made, for the loops of parsers.
use Rattle.std.proofs.Common.{◌≡◌, refl}
use Rattle.grammar_forms.specs.Forms.{Parts}
use Rattle.grammar_forms.specs.inner.Reading.{Reading, Read, Stop, Spent, with_value}

pub value_value : {T A : Type 0} (f h : Parts T A → Parts T A) (a : Reading T A) → with_value f (with_value h a) ≡ with_value (λ v. f (h v)) a
value_value f h (Read v ts) = refl
value_value f h (Stop w n) = refl
value_value f h Spent = refl
