-- A choice by a test.
use Rattle.std.proofs.Common.{◌≡◌, Bool, true, false, cond, refl}

pub choose : {A : Type 0} (P : A → Type 0) (b : Bool) (s t : A) → (b ≡ true → P s) → (b ≡ false → P t) → P (cond b s t)
choose P true s t f g = f refl
choose P false s t f g = g refl
