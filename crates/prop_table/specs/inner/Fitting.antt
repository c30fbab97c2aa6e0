-- The highest number of an operator.
use Rattle.std.specs.Prelude.{◌+◌, ℕ, List, [], ◌∷◌, Option, Some, None, max}
use Rattle.c_ir.specs.Numbers.{Numbers, none, just, both, stmt_sites_of_all}
use Rattle.c_ir.specs.declared.tree.Fun.{Fun}
use Rattle.c_ir.specs.declared.tree.Stmt.{Stmt}

-- the number behind the highest of these, 0 where there is none
abbrev pub top : Numbers → ℕ
top none = 0
top (just n) = n + 1
top (both x y) = max (top x) (top y)

abbrev pub body_top : Option (List Stmt) → ℕ
body_top None = 0
body_top (Some ss) = top (stmt_sites_of_all ss)

abbrev pub fns_top : List Fun → ℕ
fns_top [] = 0
fns_top (f ∷ fs) = max (body_top f.body) (fns_top fs)
