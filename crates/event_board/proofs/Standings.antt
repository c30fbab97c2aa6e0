-- What the numbers of a history answer is what the history does.
use Rattle.std.proofs.Common.{◌≡◌, ◌+◌, ℕ, List, Option, length, Result, refl, ap, sym, ◌∙◌, arith}
use Rattle.c_ir.specs.Props.{Props}
use Rattle.status_history.specs.Values.{version_of}
use Rattle.status_history.specs.declared.history.Change.{Change}
use Rattle.status_history.specs.declared.history.Change.TheVariants.{Register, Param, Emit}
use Rattle.status_history.specs.declared.history.Entry.{Entry}
use Rattle.status_history.specs.declared.history.History.{History}
use Rattle.status_rules.specs.Judge.{emitters_of, first_of, judge, judge_own, own_rows, placed_of, refused_or, rows_for}
use Rattle.status_rules.specs.declared.refusals.Placed.{Placed}
use Rattle.status_rules.specs.declared.refusals.Refusal.{Refusal}
use Rattle.event_board.specs.Standings.{standing_of}
use Rattle.event_board.specs.declared.standing.Standing.{Standing}
use Rattle.event_board.specs.inner.Table.{judge_by, own_by, placed_by, rows_by, the_placed}
use Rattle.event_board.proofs.Versions.{version_after}

rows_are : (t : Props) (h : History) (c : Change) → rows_for t h c ≡ rows_by t (standing_of h c) c
rows_are t h (Register name set) = refl
rows_are t h (Param n x) = refl
rows_are t h (Emit e) = refl

none_more : (n m : ℕ) → n ≡ m + 0 → n ≡ m
none_more n m h = omega (arith, h)

placed_is : (h : History) (c : Change) → placed_of h c ≡ placed_by (standing_of h c) c
placed_is h (Register name set) =
    ap (λ (v : ℕ). the_placed (length h.changes) v (emitters_of h)) (none_more _ _ (version_after h (Register name set)))
placed_is h (Param n x) =
    ap (λ (v : ℕ). the_placed (length h.changes) v (version_of h + 1)) (version_after h (Param n x))
placed_is h (Emit e) =
    ap (λ (v : ℕ). the_placed (length h.changes) v (length h.changes + 1)) (none_more _ _ (version_after h (Emit e)))

judge_is : (t : Props) (h : History) (c : Change) → judge t h c ≡ judge_by t (standing_of h c) c
unfolding judge
judge_is t h c =
    ap (λ (rs : List (Option Refusal)). refused_or (first_of rs) (placed_of h c)) (rows_are t h c)
    ∙ ap (refused_or (first_of (rows_by t (standing_of h c) c))) (placed_is h c)

own_is : (t : Props) (h : History) (e : Entry) → judge_own t h e ≡ own_by t (standing_of h (Emit e)) e
unfolding judge_own
own_is t h e = ap (refused_or (first_of (own_rows t h e))) (placed_is h (Emit e))

-- an answer by a standing is that of each history that has it
pub by_standing : (t : Props) (c : Change) (s : Standing) (r : Result Placed Refusal) → r ≡ judge_by t s c
    → (h : History) → s ≡ standing_of h c → r ≡ judge t h c
by_standing t c s r is h at = is ∙ (ap (λ x. judge_by t x c) at ∙ sym (judge_is t h c))

pub own_standing : (t : Props) (e : Entry) (s : Standing) (r : Result Placed Refusal) → r ≡ own_by t s e
    → (h : History) → s ≡ standing_of h (Emit e) → r ≡ judge_own t h e
own_standing t e s r is h at = is ∙ (ap (λ x. own_by t x e) at ∙ sym (own_is t h e))
