-- Cells that are put one after the other, and starts that are set past the last of them.
use Rattle.std.proofs.Common.{◌≡◌, ◌∙◌, ◌≤◌, ◌<◌, ◌+◌, ◌-◌, ◌++◌, ℕ, suc, ℤ, List, [], ◌∷◌, length, append_assoc, replicate, Option, refl, ap, sym, arith}
use Rattle.std.proofs.lemmas.Option.{slice_get_past}
use Rattle.c_ir.specs.declared.tree.CellInfo.{CellInfo}
use Rattle.c_types.specs.Programs.{changed, changed_by, starts_at, with_values}

pub past : (n : ℕ) (vs : List ℤ) (cells : List CellInfo) → length cells ≤ n → with_values n vs cells ≡ cells
unfolding changed
past n [] cells h = refl
past n (v ∷ vs) cells h =
    ap (λ (o : Option CellInfo). with_values (n + 1) vs (changed_by (starts_at v) n cells o)) (slice_get_past cells n h)
    ∙ past (n + 1) vs cells (omega (arith, h))

less : (n i : ℕ) → i < n → n - i ≡ suc (n - (i + 1))
less n i h = omega (arith, h)

-- one element of several equal ones
pub one_of_equal : {X : Type 0} (xs new whole : List X) (x : X) (n i : ℕ) → i < n → new ≡ xs ++ x ∷ [] → xs ++ replicate (n - i) x ≡ whole → new ++ replicate (n - (i + 1)) x ≡ whole
one_of_equal xs new whole x n i h is goes =
    ap (λ ys. ys ++ replicate (n - (i + 1)) x) is
    ∙ append_assoc xs (x ∷ []) (replicate (n - (i + 1)) x)
    ∙ sym (ap (λ m. xs ++ replicate m x) (less n i h))
    ∙ goes
