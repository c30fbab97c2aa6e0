-- A case on a test, with what it is.
use Rattle.std.proofs.Common.{◌≡◌, Bool, true, false, refl}

pub by_test : {P : Type 0} (b : Bool) → (b ≡ true → P) → (b ≡ false → P) → P
by_test true on off = on refl
by_test false on off = off refl
