-- Lists in which elements are put.
use Rattle.std.proofs.Common.{◌≡◌, ◌∙◌, ◌≤◌, ◌<◌, ◌+◌, ◌++◌, ℕ, suc, List, [], ◌∷◌, length, append_assoc, drop, drop-cons, add-one, get_or, Option, ap, sym}
use Rattle.std.specs.Prelude.{slice_set}
use Rattle.std.proofs.lemmas.List.{set_past}
use Rattle.c_ir.specs.declared.ty.IntType.{IntType}
use Rattle.c_ir.specs.declared.ty.IntType.TheVariants as T
use Rattle.c_typing.specs.Functions.{cells_from}
use Rattle.c_typing.specs.declared.file.Definition.{Definition}

pub no_place : (ds : List (Option Definition)) (n : ℕ) (d : Option Definition) → length ds ≤ n → slice_set ds n d ≡ ds
no_place ds n d h = set_past ds n d h

from_here : (tys : List IntType) (i : ℕ) → i < length tys → drop i tys ≡ get_or tys i T.Int ∷ drop (i + 1) tys
from_here tys i h = rw (add-one i) (drop-cons tys i T.Int h)

pub one_fewer : (tys : List IntType) (i : ℕ) → i < length tys → length (drop i tys) ≡ suc (length (drop (i + 1) tys))
one_fewer tys i h = ap length (from_here tys i h)

-- one cell of several
pub one_cell : (tys : List IntType) (i cell : ℕ) (done new whole : List ℕ) → i < length tys → new ≡ done ++ cell ∷ [] → done ++ cells_from cell (drop i tys) ≡ whole → new ++ cells_from (cell + 1) (drop (i + 1) tys) ≡ whole
one_cell tys i cell done new whole h is goes =
    ap (λ (xs : List ℕ). xs ++ cells_from (cell + 1) (drop (i + 1) tys)) is
    ∙ append_assoc done (cell ∷ []) (cells_from (cell + 1) (drop (i + 1) tys))
    ∙ sym (ap (λ (xs : List IntType). done ++ cells_from cell xs) (from_here tys i h))
    ∙ goes
