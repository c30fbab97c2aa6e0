-- The visits of a run with fewer arrivals are a prefix of those of one with more.
use Rattle.std.proofs.Common.{◌≡◌, ◌∙◌, List, [], ◌∷◌, ◌++◌, map, append_assoc, refl, sym, ap}
use Rattle.c_runs.specs.Visits.{Piece, Visit, visits_of, all_visits}
use Rattle.c_runs.specs.Programs.{run_of}
use Rattle.c_runs.proofs.Fewer.{fewer}
use Rattle.prop_runs.specs.Laws.{FewerArePrefix}
use Rattle.prop_runs.specs.Numbers.{numbered, runs_of}
use Rattle.prop_table.specs.Rows.{rows_of}

visits_append : (xs ys : List Piece) → all_visits (xs ++ ys) ≡ all_visits xs ++ all_visits ys
visits_append [] ys = refl
visits_append (x ∷ xs) ys =
    ap (λ (vs : List Visit). visits_of x ++ vs) (visits_append xs ys) ∙ sym
    (append_assoc (visits_of x) (all_visits xs) (all_visits ys))

map_append : {A B : Type 0} (f : A → B) (xs ys : List A) → map f (xs ++ ys) ≡ map f xs ++ map f ys
map_append f [] ys = refl
map_append {A} {B} f (x ∷ xs) ys = ap (λ (zs : List B). f x ∷ zs) (map_append f xs ys)

pub fewer_pass : FewerArePrefix
unfolding runs_of
fewer_pass p values input m n less =
    let h = fewer p values input m n less in
    let number = numbered (rows_of p) in
    let short = all_visits (run_of p values input m) in
    let more = all_visits h.0 in (
      map number more,
      sym (map_append number short more)
          ∙ ap (map number) (sym (visits_append (run_of p values input m) h.0) ∙ ap all_visits h.1),
    )
