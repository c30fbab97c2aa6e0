-- How many statements a statement is, with those that it governs.
use Rattle.std.specs.Prelude.{◌+◌, ℕ, List, [], ◌∷◌, map}
use Rattle.c_ir.specs.declared.tree.Stmt.{Stmt, fold-Stmt}
use Rattle.c_ir.specs.declared.tree.Stmt.TheOpen.{Stmt-F}

abbrev pub total : List ℕ → ℕ
total [] = 0
total (n ∷ ns) = n + total ns

abbrev pub size_step : Stmt-F ℕ → ℕ
size_step (Stmt-F.Declare p f n value) = 1
size_step (Stmt-F.Expression p e) = 1
size_step (Stmt-F.If p c ys ns) = 1 + (total ys + total ns)
size_step (Stmt-F.While p c bs) = 1 + total bs
size_step (Stmt-F.DoWhile p bs c) = 1 + total bs
size_step (Stmt-F.For hs p c bs us) = 1 + (total hs + (total bs + total us))
size_step (Stmt-F.Break p) = 1
size_step (Stmt-F.Continue p) = 1
size_step (Stmt-F.Return p value) = 1
size_step (Stmt-F.Empty p) = 1
size_step (Stmt-F.Block ss) = 1 + total ss
size_step (Stmt-F.Note at) = 1
size_step (Stmt-F.Clause p) = 1

abbrev pub size_of : Stmt → ℕ
size_of = fold-Stmt ℕ size_step

abbrev pub size_of_all : List Stmt → ℕ
size_of_all ss = total (map size_of ss)
