-- One step and the end of loops over cells.
use Rattle.std.proofs.Common.{◌≡◌, ◌<◌, ◌≤◌, ◌+◌, ◌-◌, ◌++◌, ℕ, zero, suc, min, Bool, true, false, cond, List, [], ◌∷◌, drop, length, map, slice_index_or, Option, Some, None, refl, ap, sym, ◌∙◌, arith}
use Rattle.std.specs.Prelude.{pos, ◌||◌, if◌then◌else◌, is_some, slice_get, slice_set}
use Rattle.int_value.specs.Rows.{contains_row}
use Rattle.int_value.specs.declared.value.Value.{Value}
use Rattle.c_ir.specs.Programs.{Program}
use Rattle.c_ir.specs.Table.{is_defined}
use Rattle.c_ir.specs.declared.tree.CellInfo.{CellInfo}
use Rattle.c_ir.specs.declared.tree.Fun.{Fun}
use Rattle.c_runs.specs.Programs.{free_cells, is_free}
use Rattle.c_runs.specs.Statements.{clauses_at, functions_of, is_owned_by}
use Rattle.abs_cells.specs.Cells.{Env, value_at}
use Rattle.eva_rules.specs.Passing.{either_flag}
use Rattle.eva_rules.specs.Thresholds.{constants_at, constants_of_clauses}
use Rattle.eva_rules.specs.Writing.{each_freed, each_joined, each_set, joined_if, receive, receive_all, set_cell, unset, written}

one_more : (i : ℕ) → suc i ≡ i + 1
one_more i = omega arith

left_one : (i n : ℕ) → i < n → n - i ≡ suc (n - (i + 1))
left_one i n h = omega arith

left_none : (i n : ℕ) → n ≤ i → n - i ≡ 0
left_none i n h = omega arith

-- ---- counts

pub set_step : (first i n : ℕ) (v : Value) (cells : List Value) → i < n
    → each_set (first + i) (n - i) v cells ≡ each_set (first + (i + 1)) (n - (i + 1)) v (slice_set cells (first + i) v)
set_step first i n v cells h =
    ap (λ (k : ℕ). each_set (first + i) k v cells) (left_one i n h)
    ∙ ap (λ (x : ℕ). each_set x (n - (i + 1)) v (slice_set cells (first + i) v)) next
  where
    next : first + i + 1 ≡ first + (i + 1)
    next = omega arith

pub set_end : (first i n : ℕ) (v : Value) (cells : List Value) → n ≤ i → each_set (first + i) (n - i) v cells ≡ cells
set_end first i n v cells h = ap (λ (k : ℕ). each_set (first + i) k v cells) (left_none i n h)

pub joined_step : (first : ℕ) (index v : Value) (k end : ℕ) (cells : List Value) → k < end
    → each_joined first index v k (end - k) cells
    ≡ each_joined first index v (k + 1) (end - (k + 1)) (joined_if (contains_row index (pos k)) (first + k) v cells)
joined_step first index v k end cells h = ap (λ (n : ℕ). each_joined first index v k n cells) (left_one k end h)

pub joined_end : (first : ℕ) (index v : Value) (k end : ℕ) (cells : List Value) → end ≤ k
    → each_joined first index v k (end - k) cells ≡ cells
joined_end first index v k end cells h = ap (λ (n : ℕ). each_joined first index v k n cells) (left_none k end h)

pub at_step : (p : Program) (q end : ℕ) → q < end
    → constants_at p q (end - q) ≡ constants_of_clauses (clauses_at p q) ++ constants_at p (q + 1) (end - (q + 1))
at_step p q end h = ap (constants_at p q) (left_one q end h)

pub at_end : (p : Program) (q end : ℕ) → end ≤ q → constants_at p q (end - q) ≡ []
at_end p q end h = ap (constants_at p q) (left_none q end h)

-- ---- lists in step

written_next : (xs : List ℕ) (vs : List Value) (i : ℕ) (d : ℕ) (v : Value) (e : Env) → i < length xs → i < length vs
    → written (drop i xs) (drop i vs) e
    ≡ written (drop (suc i) xs) (drop (suc i) vs) (set_cell (slice_index_or xs i d) (slice_index_or vs i v) e)
written_next [] vs i d v e h k = absurd (omega arith)
written_next (x ∷ xs) [] i d v e h k = absurd (omega arith)
written_next (x ∷ xs) (w ∷ vs) zero d v e h k = refl
written_next (x ∷ xs) (w ∷ vs) (suc i) d v e h k = written_next xs vs i d v e (omega arith) (omega arith)

pub written_step : (xs : List ℕ) (vs : List Value) (i : ℕ) (d : ℕ) (v : Value) (e : Env) → i < length xs
    → i < length vs → written (drop i xs) (drop i vs) e
    ≡ written (drop (i + 1) xs) (drop (i + 1) vs) (set_cell (slice_index_or xs i d) (slice_index_or vs i v) e)
written_step xs vs i d v e h k =
    written_next xs vs i d v e h k
    ∙ ap (λ (n : ℕ). written (drop n xs) (drop n vs) (set_cell (slice_index_or xs i d) (slice_index_or vs i v) e))
    (one_more i)

no_values : (xs : List ℕ) (e : Env) → written xs [] e ≡ e
no_values [] e = refl
no_values (x ∷ xs) e = refl

pub written_end : (xs : List ℕ) (vs : List Value) (i : ℕ) (e : Env) → min (length xs) (length vs) ≤ i
    → written (drop i xs) (drop i vs) e ≡ e
written_end [] vs zero e h = refl
written_end [] vs (suc i) e h = refl
written_end (x ∷ xs) [] zero e h = refl
written_end (x ∷ xs) [] (suc i) e h = no_values (drop i xs) e
written_end (x ∷ xs) (v ∷ vs) zero e h = absurd (omega arith)
written_end (x ∷ xs) (v ∷ vs) (suc i) e h = written_end xs vs i e (omega arith)

flag_next : (fs : List Bool) (vs : List Value) (i : ℕ) (d : Bool) → i < length fs → i < length vs
    → either_flag (drop i fs) (drop i vs)
    ≡ (slice_index_or fs i d || (value_at vs i).unset) ∷ either_flag (drop (suc i) fs) (drop (suc i) vs)
flag_next [] vs i d h k = absurd (omega arith)
flag_next (f ∷ fs) [] i d h k = absurd (omega arith)
flag_next (f ∷ fs) (v ∷ vs) zero d h k = refl
flag_next (f ∷ fs) (v ∷ vs) (suc i) d h k = flag_next fs vs i d (omega arith) (omega arith)

pub flag_step : (fs : List Bool) (vs : List Value) (i : ℕ) (d : Bool) → i < length fs → i < length vs
    → either_flag (drop i fs) (drop i vs)
    ≡ (slice_index_or fs i d || (value_at vs i).unset) ∷ either_flag (drop (i + 1) fs) (drop (i + 1) vs)
flag_step fs vs i d h k =
    flag_next fs vs i d h k
    ∙ ap (λ (n : ℕ). (slice_index_or fs i d || (value_at vs i).unset) ∷ either_flag (drop n fs) (drop n vs)) (one_more i)

no_cells : (fs : List Bool) → either_flag fs [] ≡ []
no_cells [] = refl
no_cells (f ∷ fs) = refl

pub flag_end : (fs : List Bool) (vs : List Value) (i : ℕ) → min (length fs) (length vs) ≤ i
    → either_flag (drop i fs) (drop i vs) ≡ []
flag_end [] vs zero h = refl
flag_end [] vs (suc i) h = refl
flag_end (f ∷ fs) [] zero h = refl
flag_end (f ∷ fs) [] (suc i) h = no_cells (drop i fs)
flag_end (f ∷ fs) (v ∷ vs) zero h = absurd (omega arith)
flag_end (f ∷ fs) (v ∷ vs) (suc i) h = flag_end fs vs i (omega arith)

-- ---- cells of a function

all_kept : (g : ℕ) (vs : List Value) (i : ℕ) → i < length vs
    → each_freed g [] (drop i vs)
    ≡ (if is_owned_by g None then unset else value_at vs i) ∷ each_freed g [] (drop (suc i) vs)
all_kept g [] i h = absurd (omega arith)
all_kept g (v ∷ vs) zero h = refl
all_kept g (v ∷ vs) (suc i) h = all_kept g vs i (omega arith)

freed_next : (g : ℕ) (is : List CellInfo) (vs : List Value) (i : ℕ) → i < length vs
    → each_freed g (drop i is) (drop i vs)
    ≡ (if is_owned_by g (slice_get is i) then unset else value_at vs i) ∷ each_freed g (drop (suc i) is) (drop (suc i) vs)
freed_next g [] vs zero h = all_kept g vs zero h
freed_next g [] vs (suc i) h = all_kept g vs (suc i) h
freed_next g (x ∷ is) [] i h = absurd (omega arith)
freed_next g (x ∷ is) (v ∷ vs) zero h = refl
freed_next g (x ∷ is) (v ∷ vs) (suc i) h = freed_next g is vs i (omega arith)

pub freed_step : (g : ℕ) (is : List CellInfo) (vs : List Value) (i : ℕ) → i < length vs
    → each_freed g (drop i is) (drop i vs)
    ≡ (if is_owned_by g (slice_get is i) then unset else value_at vs i) ∷ each_freed g (drop (i + 1) is) (drop (i + 1) vs)
freed_step g is vs i h =
    freed_next g is vs i h
    ∙ ap (λ (n : ℕ). (if is_owned_by g (slice_get is i) then unset else value_at vs i)
    ∷ each_freed g (drop n is) (drop n vs)) (one_more i)

none_freed : (g : ℕ) (is : List CellInfo) → each_freed g is [] ≡ []
none_freed g [] = refl
none_freed g (x ∷ is) = refl

kept_end : (g : ℕ) (vs : List Value) (i : ℕ) → length vs ≤ i → each_freed g [] (drop i vs) ≡ []
kept_end g [] zero h = refl
kept_end g [] (suc i) h = refl
kept_end g (v ∷ vs) zero h = absurd (omega arith)
kept_end g (v ∷ vs) (suc i) h = kept_end g vs i (omega arith)

pub freed_end : (g : ℕ) (is : List CellInfo) (vs : List Value) (i : ℕ) → length vs ≤ i
    → each_freed g (drop i is) (drop i vs) ≡ []
freed_end g is [] zero h = none_freed g is
freed_end g is [] (suc i) h = none_freed g (drop (suc i) is)
freed_end g is (v ∷ vs) zero h = absurd (omega arith)
freed_end g [] (v ∷ vs) (suc i) h = kept_end g vs i (omega arith)
freed_end g (x ∷ is) (v ∷ vs) (suc i) h = freed_end g is vs i (omega arith)

-- ---- cells with any number

free_by : (p : Program) (b : Bool) (x : ℕ) (rest : List ℕ) (e : Env)
    → receive_all p (if b then x ∷ rest else rest) e ≡ receive_all p rest (if b then receive p x e else e)
free_by p true x rest e = refl
free_by p false x rest e = refl

free_next : (p : Program) (is : List CellInfo) (x i : ℕ) (d : CellInfo) (e : Env) → i < length is
    → receive_all p (free_cells x (drop i is)) e
    ≡ receive_all p (free_cells (x + 1) (drop (suc i) is))
    (if is_free (slice_index_or is i d) then receive p x e else e)
free_next p [] x i d e h = absurd (omega arith)
free_next p (c ∷ is) x zero d e h = by_flag (is_free c)
  where
    by_flag : (b : Bool) → receive_all p (if b then x ∷ free_cells (x + 1) is else free_cells (x + 1) is) e
        ≡ receive_all p (free_cells (x + 1) is) (if b then receive p x e else e)
    by_flag true = refl
    by_flag false = refl
free_next p (c ∷ is) x (suc i) d e h = free_next p is x i d e (omega arith)

pub free_step : (p : Program) (is : List CellInfo) (x i : ℕ) (d : CellInfo) (e : Env) → i < length is
    → receive_all p (free_cells x (drop i is)) e
    ≡ receive_all p (free_cells (x + 1) (drop (i + 1) is))
    (if is_free (slice_index_or is i d) then receive p x e else e)
free_step p is x i d e h =
    free_next p is x i d e h
    ∙ ap (λ (n : ℕ). receive_all p (free_cells (x + 1) (drop n is))
    (if is_free (slice_index_or is i d) then receive p x e else e)) (one_more i)

pub free_end : (p : Program) (is : List CellInfo) (x i : ℕ) (e : Env) → length is ≤ i
    → receive_all p (free_cells x (drop i is)) e ≡ e
free_end p [] x zero e h = refl
free_end p [] x (suc i) e h = refl
free_end p (c ∷ is) x zero e h = absurd (omega arith)
free_end p (c ∷ is) x (suc i) e h = free_end p is x i e (omega arith)

-- ---- functions

defined_in : (fs : List Fun) (g : ℕ) → slice_get fs g ≡ None
    → slice_index_or (map (λ (f : Fun). is_some f.body) fs) g false ≡ false
defined_in [] g h = refl
defined_in (f ∷ fs) zero h = absurd (some_none h)
  where
    some_none : {x : Fun} → Some x ≡ None → ⊥
    some_none e = cc
defined_in (f ∷ fs) (suc g) h = defined_in fs g h

pub defined_none : (p : Program) (g : ℕ) → slice_get p.fns g ≡ None → is_defined (functions_of p) g ≡ false
defined_none p g h = defined_in p.fns g h

defined_at : (fs : List Fun) (g : ℕ) (f : Fun) → slice_get fs g ≡ Some f
    → slice_index_or (map (λ (f : Fun). is_some f.body) fs) g false ≡ is_some f.body
defined_at [] g f h = absurd (none_some h)
  where
    none_some : {x : Fun} → None ≡ Some x → ⊥
    none_some e = cc
defined_at (f ∷ fs) zero x h = ap (λ (o : Option Fun). body_of o) h
  where
    body_of : Option Fun → Bool
    body_of None = false
    body_of (Some f) = is_some f.body
defined_at (f ∷ fs) (suc g) x h = defined_at fs g x h

pub defined_some : (p : Program) (g : ℕ) (f : Fun) → slice_get p.fns g ≡ Some f
    → is_defined (functions_of p) g ≡ is_some f.body
defined_some p g f h = defined_at p.fns g f h
