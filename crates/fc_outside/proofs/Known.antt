-- Bytes that are told, with bytes behind them.
use Rattle.std.proofs.Common.{◌≡◌, ◌+◌, ◌<◌, ℕ, zero, suc, false, List, ◌++◌, Option, None, Some, take, drop, refl, sym, ◌∙◌, ap, arith, append_assoc}
use Rattle.std.proofs.lemmas.List.{drop-drop, take-append-drop}
use Rattle.std.proofs.Math.Seq.{take-add}
use Rattle.std.specs.Io.KnownBytes.{append_known}
use Rattle.fc_outside.specs.declared.outside.Got.TheVariants as got
use Rattle.fc_outside.specs.Memory.{got_of}

-- behind the first w bytes the next n
pub append_known_next : (known : Option (List ℕ)) (w n : ℕ) (bytes : List ℕ) → append_known known (take (w + n) bytes) ≡ append_known (append_known known (take w bytes)) (take n (drop w bytes))
append_known_next None w n bytes = refl
append_known_next (Some xs) w n bytes =
    ap (λ (ys : List ℕ). Some ys) (ap (λ (ys : List ℕ). xs ++ ys) (take-add w n bytes) ∙ sym (append_assoc xs (take w bytes) (take n (drop w bytes))))

-- the bytes behind a place are the next n and the bytes behind these
pub next_and_rest : (given n : ℕ) (bytes : List ℕ) → take n (drop given bytes) ++ drop (given + n) bytes ≡ drop given bytes
next_and_rest given n bytes = rw (← drop-drop n given bytes) (take-append-drop n (drop given bytes))

-- a read that gives bytes says how many
pub got_of_some : (n : ℕ) → 0 < n → got_of false n ≡ got.Bytes n
got_of_some zero some = absurd (omega arith)
got_of_some (suc n) some = refl
