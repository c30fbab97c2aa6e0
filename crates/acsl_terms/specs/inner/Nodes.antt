-- The number of nodes of a formula, by which walks over it end: the code's side.
use Rattle.std.specs.Prelude.{ℕ, ◌+◌, List, [], ◌∷◌}
use Rattle.c_ast.specs.declared.annot.Formula.{Formula, fold-Formula}
use Rattle.c_ast.specs.declared.annot.Formula.TheOpen.{Formula-F}
use Rattle.c_ast.specs.declared.annot.Link.{Link, Link-F, fold-Link}

abbrev pub total : List ℕ → ℕ
total [] = 0
total (n ∷ ns) = n + total ns

abbrev pub link_step : Link-F ℕ ℕ → ℕ
link_step l = l.right

abbrev pub step : Formula-F ℕ ℕ → ℕ
step (Formula-F.Number at value) = 1
step (Formula-F.Name n) = 1
step (Formula-F.Index at of index) = 1 + index
step (Formula-F.Result at) = 1
step (Formula-F.Old at of) = 1 + of
step (Formula-F.True at) = 1
step (Formula-F.False at) = 1
step (Formula-F.Neg at of) = 1 + of
step (Formula-F.Not at of) = 1 + of
step (Formula-F.Binary at op left right) = 1 + (left + right)
step (Formula-F.Chain at first rest) = 1 + (first + total rest)
step (Formula-F.Forall at n body) = 1 + body

abbrev pub nodes : Formula → ℕ
nodes = fold-Formula ℕ ℕ step link_step

abbrev pub link_nodes : Link → ℕ
link_nodes = fold-Link ℕ ℕ step link_step
