-- The sites of one argument more.
use Rattle.std.proofs.Common.{◌≡◌, ◌∙◌, ◌+◌, ◌≤◌, zero, suc, take, drop, arith, ℕ, List, [], ◌∷◌, ◌++◌, Option, Some, None, map, refl, ap}
use Rattle.std.specs.Option.{option_and_then}
use Rattle.c_ir.specs.declared.tree.Expr.{Expr}
use Rattle.c_ast.specs.declared.expr.Expr.{Expr as Ast}
use Rattle.c_typing.specs.Room.{total_of}
use Rattle.c_ir.specs.Numbers.{Numbers, count, all, sites}

and_some : (o : Option ℕ) → option_and_then (λ m. Some m) o ≡ o
and_some None = refl
and_some (Some m) = refl

row_push : (xs : List Numbers) (x : Numbers) (from : ℕ) → count from (all (xs ++ x ∷ [])) ≡ option_and_then (λ m. count m x) (count from (all xs))
row_push [] x from = and_some (count from x)
row_push (y ∷ xs) x from =
    elim (count from y) as (λ (o : Option ℕ). option_and_then (λ m. count m (all (xs ++ x ∷ []))) o ≡ option_and_then (λ m. count m x) (option_and_then (λ m. count m (all xs)) o)) [ None ↦ refl | Some k ↦ row_push xs x k ]

map_push : (done : List Expr) (e : Expr) → map sites (done ++ e ∷ []) ≡ map sites done ++ sites e ∷ []
map_push [] e = refl
map_push (d ∷ ds) e = ap (λ (xs : List Numbers). sites d ∷ xs) (map_push ds e)

pub sites_push : (done : List Expr) (e : Expr) (from m : ℕ) → count from (all (map sites done)) ≡ Some m → count from (all (map sites (done ++ e ∷ []))) ≡ count m (sites e)
sites_push done e from m is =
    ap (λ (xs : List Numbers). count from (all xs)) (map_push done e) ∙ row_push (map sites done) (sites e) from ∙ ap (option_and_then (λ k. count k (sites e))) is

-- the room of the first values and of the rest
pub total_split : (n : ℕ) (es : List Ast) → total_of (take n es) + total_of (drop n es) ≡ total_of es
total_split zero es = omega arith
total_split (suc n) [] = refl
total_split (suc n) (e ∷ es) = let h = total_split n es in omega (arith, h)

pub total_rest : (n : ℕ) (es : List Ast) → total_of (drop n es) ≤ total_of es
total_rest n es = let h = total_split n es in omega (arith, h)
