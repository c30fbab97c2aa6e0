-- One text and one stop, since there is one reading.
use Rattle.std.proofs.Common.{◌≡◌, List, ℕ, sym, subst, ◌∙◌}
use Rattle.grammar_forms.specs.Forms.{Grammar, Parts}
use Rattle.grammar_forms.specs.Derives.{Cause, IsText, StopsAt}
use Rattle.grammar_forms.specs.Sound.{IsSound, IsExact}
use Rattle.grammar_forms.specs.inner.Reading.{Reading, Read, Stop, read_rule}
use Rattle.grammar_forms.proofs.Again.{derived-is_read, stop-is_read}

same_read : {T A : Type 0} (v u : Parts T A) (rest end : List T) → Read v rest ≡ Read u end → (v ≡ u) × (rest ≡ end)
same_read v u rest end e =
    let p : v ≡ u = cc in
    let q : rest ≡ end = cc in (p, q)

same_stop : {T A : Type 0} (w u : Cause) (n m : ℕ) → ◌≡◌ {A = Reading T A} (Stop w n) (Stop u m) → (w ≡ u) × (n ≡ m)
same_stop w u n m e =
    let p : w ≡ u = cc in
    let q : n ≡ m = cc in (p, q)

module _ {C S T A : Type 0} (g : Grammar C S T A) (sound : IsSound g) (exact : IsExact g) where
  pub text_read : (s : S) (d : ℕ) (ts : List T) (v : Parts T A) (rest : List T) → IsText g d s ts v rest → read_rule g s d ts ≡ Read v rest
  text_read s d ts v rest h = subst (λ (u : Parts T A). read_rule g s d ts ≡ Read u rest) h.2 (derived-is_read g exact sound s h.0 d ts rest h.1 h.3)

  pub stop_read : (s : S) (d : ℕ) (ts : List T) (w : Cause) (n : ℕ) → StopsAt g d s ts w n → read_rule g s d ts ≡ Stop w n
  stop_read s d ts w n h = stop-is_read g exact sound s h.0 d ts w n h.1

  pub one_text : (s : S) (d : ℕ) (ts : List T) (v u : Parts T A) (rest end : List T) → IsText g d s ts v rest → IsText g d s ts u end → (v ≡ u) × (rest ≡ end)
  one_text s d ts v u rest end h k = same_read v u rest end (sym (text_read s d ts v rest h) ∙ text_read s d ts u end k)

  pub one_stop : (s : S) (d : ℕ) (ts : List T) (w u : Cause) (n m : ℕ) → StopsAt g d s ts w n → StopsAt g d s ts u m → (w ≡ u) × (n ≡ m)
  one_stop s d ts w u n m h k = same_stop w u n m (sym (stop_read s d ts w n h) ∙ stop_read s d ts u m k)

  pub never_both : (s : S) (d : ℕ) (ts : List T) (v : Parts T A) (rest : List T) (w : Cause) (n : ℕ) → IsText g d s ts v rest → StopsAt g d s ts w n → ⊥
  never_both s d ts v rest w n h k =
      let e = sym (text_read s d ts v rest h) ∙ stop_read s d ts w n k in absurd (cc)
