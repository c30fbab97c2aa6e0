-- The open checks of what statements evaluate, part by part.
use Rattle.std.proofs.Common.{◌≡◌, ◌∙◌, ◌≤◌, ℕ, List, [], ◌∷◌, ◌++◌, drop, length, map, Option, Some, None, refl, ap, ap₂, sym, subst, append_assoc}
use Rattle.std.proofs.lemmas.List.{append-nil, drop_all}
use Rattle.by_key.specs.declared.lists.Keyed.{Keyed}
use Rattle.fc_base.specs.declared.ids.PointId.{PointId}
use Rattle.c_ir.specs.Programs.{Program}
use Rattle.c_ir.specs.declared.tree.Expr.{Expr}
use Rattle.c_ir.specs.declared.tree.Fun.{Fun}
use Rattle.c_ir.specs.declared.tree.Init.{Init}
use Rattle.c_ir.specs.declared.tree.Init.TheVariants as I
use Rattle.c_ir.specs.declared.tree.Stmt.{Stmt, map-Stmt}
use Rattle.c_ir.specs.declared.tree.Stmt.TheFolds.{fold-roll-Stmt, ind-Stmt}
use Rattle.c_ir.specs.declared.tree.Stmt.TheOpen.{Stmt-F}
use Rattle.c_runs.specs.Parts.{Placed, at_point, exprs_if, exprs_of_init, placed_step, placed_in, placed_in_all, placed_in_body, placed_in_fns}
use Rattle.rte_alarms.specs.Ranges.{open_in, open_checks}
use Rattle.rte_alarms.specs.inner.Opened.{open_of, open_of_all, open_of_any, open_of_init, open_step, open_stmt, open_stmts, open_body, open_fns}

-- ---- lists

open_append : (xs ys : List Placed) → open_in (xs ++ ys) ≡ open_in xs ++ open_in ys
open_append [] ys = refl
open_append (x ∷ xs) ys =
    ap (λ (ms : List Keyed). open_of x.expr ++ ms) (open_append xs ys)
    ∙ sym (append_assoc (open_of x.expr) (open_in xs) (open_in ys))

-- those of two parts
two : (xs ys : List Placed) (a b : List Keyed) → open_in xs ≡ a → open_in ys ≡ b → open_in (xs ++ ys) ≡ a ++ b
two xs ys a b p q = open_append xs ys ∙ ap₂ (λ (m n : List Keyed). m ++ n) p q

-- ---- expressions

at_point_open : (p : PointId) (es : List Expr) → open_in (at_point p es) ≡ open_of_all es
at_point_open p [] = refl
at_point_open p (e ∷ es) = ap (λ (ms : List Keyed). open_of e ++ ms) (at_point_open p es)

one_open : (p : PointId) (e : Expr) → open_in (at_point p (e ∷ [])) ≡ open_of e
one_open p e = append-nil (open_of e)

any_open : (p : PointId) (o : Option Expr) → open_in (at_point p (exprs_if o)) ≡ open_of_any o
any_open p None = refl
any_open p (Some e) = one_open p e

init_open : (p : PointId) (value : Init) → open_in (at_point p (exprs_of_init value)) ≡ open_of_init value
init_open p I.Nothing = refl
init_open p (I.One e) = one_open p e
init_open p (I.Many es) = at_point_open p es

-- ---- statements

abbrev Opens : Stmt → Type 0
Opens s = open_in (placed_in s) ≡ open_stmt s

abbrev Known : Type 0
Known = (s : Stmt) × Opens s

abbrev stmts : List Known → List Stmt
stmts ks = map (λ (k : Known). k.0) ks

list_open : (ks : List Known) → open_in (placed_in_all (stmts ks)) ≡ open_stmts (stmts ks)
list_open [] = refl
list_open (k ∷ ks) = two (placed_in k.0) (placed_in_all (stmts ks)) (open_stmt k.0)
    (open_stmts (stmts ks)) k.1 (list_open ks)

abbrev TopOpens : Stmt-F Stmt → Type 0
TopOpens x = open_in (placed_step (map-Stmt Stmt (List Placed) placed_in x))
    ≡ open_step (map-Stmt Stmt (List Keyed) open_stmt x)

stmt_layer : (y : Stmt-F Known) → TopOpens (map-Stmt Known Stmt (λ k. k.0) y)
stmt_layer (Stmt-F.Declare p first n value) = init_open p value
stmt_layer (Stmt-F.Expression p e) = one_open p e
stmt_layer (Stmt-F.If p c ys ns) = two (at_point p (c ∷ [])) _ _ _ (one_open p c)
    (two _ _ _ _ (list_open ys) (list_open ns))
stmt_layer (Stmt-F.While p c bs) = two (at_point p (c ∷ [])) _ _ _ (one_open p c) (list_open bs)
stmt_layer (Stmt-F.DoWhile p bs c) = two (at_point p (c ∷ [])) _ _ _ (one_open p c) (list_open bs)
stmt_layer (Stmt-F.For hs p c bs us) =
    two (at_point p (exprs_if c)) _ _ _ (any_open p c)
    (two _ _ _ _ (list_open hs) (two _ _ _ _ (list_open bs) (list_open us)))
stmt_layer (Stmt-F.Break p) = refl
stmt_layer (Stmt-F.Continue p) = refl
stmt_layer (Stmt-F.Return p value) = any_open p value
stmt_layer (Stmt-F.Empty p) = refl
stmt_layer (Stmt-F.Block ss) = list_open ss
stmt_layer (Stmt-F.Note note) = refl
stmt_layer (Stmt-F.Clause p) = refl

stmt_open : (s : Stmt) → Opens s
stmt_open =
    ind-Stmt Opens (λ x y is.
    ap open_in (fold-roll-Stmt (List Placed) placed_step x)
    ∙ subst TopOpens is (stmt_layer y)
    ∙ sym (fold-roll-Stmt (List Keyed) open_step x))

all_open : (ss : List Stmt) → open_in (placed_in_all ss) ≡ open_stmts ss
all_open [] = refl
all_open (s ∷ ss) = two (placed_in s) (placed_in_all ss) (open_stmt s) (open_stmts ss) (stmt_open s)
    (all_open ss)

-- ---- functions

body_open : (o : Option (List Stmt)) → open_in (placed_in_body o) ≡ open_body o
body_open None = refl
body_open (Some ss) = all_open ss

fns_open : (fs : List Fun) → open_in (placed_in_fns fs) ≡ open_fns fs
fns_open [] = refl
fns_open (f ∷ fs) = two (placed_in_body f.body) (placed_in_fns fs) (open_body f.body) (open_fns fs)
    (body_open f.body) (fns_open fs)

-- the loop over the functions is at its end
pub open_done : (found : List Keyed) (fs : List Fun) (i : ℕ) → length fs ≤ i → found ++ open_fns (drop i fs)
    ≡ open_fns fs → found ≡ open_fns fs
open_done found fs i h e =
    sym (append-nil found) ∙ ap (λ (gs : List Fun). found ++ open_fns gs) (sym (drop_all i fs h)) ∙ e

pub checks_open : (p : Program) → open_checks p ≡ open_fns p.fns
unfolding open_checks
checks_open p = fns_open p.fns
