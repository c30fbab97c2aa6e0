-- Entries of the program's own emitters stay right, and so verdicts are true.
use Rattle.std.proofs.Common.{◌≡◌, ℕ, ◌+◌, Bool, true, false, cond, List, [], ◌∷◌, ◌++◌, length, length-append, refl, sym, ap, subst, arith}
use Rattle.std.specs.Prelude.{not, filter}
use Rattle.std.specs.List.{list_any}
use Rattle.std.proofs.lemmas.Bool.{both_ways}
use Rattle.fc_base.specs.declared.params.ParamValues.{ParamValues}
use Rattle.param_book.specs.Emitters.{is_external}
use Rattle.param_book.specs.Table.{under}
use Rattle.status_history.specs.Claims.{IsRight}
use Rattle.status_history.specs.Values.{extended, params_set}
use Rattle.status_history.specs.declared.history.Change.{Change}
use Rattle.status_history.specs.declared.history.Change.TheVariants.{Register, Param, Emit}
use Rattle.status_history.specs.declared.history.Entry.{Entry}
use Rattle.status_history.specs.declared.history.History.{History}
use Rattle.status_history.proofs.Stay.{values_stay}
use Rattle.status_rules.specs.Counting.{PlacedEntry, counted_of, current_of, entries_of, entries_from, is_current, is_rival, last_of_each}
use Rattle.status_rules.specs.Truth.{Runs, AllRight, OwnRight}
use Rattle.status_rows.proofs.Histories.{entries_more, params_more}
use Rattle.status_core.specs.inner.Kept.{emits}
use Rattle.status_core.specs.inner.Own.{OwnStay, StaysRight}

-- an entry that stays right
stays : (runs : Runs) (h : History) (more : List Change) (e : Entry) → StaysRight runs h e → StaysRight runs (extended h more) e
stays runs h more e own = record {
  version = let len = ap length (params_more h.changes more) in let both = length-append (params_set h.changes) (params_set more) in omega (arith, own.version, len, both);
  right = subst (λ (v : ParamValues). IsRight (under runs v) e) (sym (values_stay h more e.version own.version)) own.right;
}

all_stay : (runs : Runs) (h : History) (more : List Change) (es : List PlacedEntry) → OwnStay runs h es → OwnStay runs (extended h more) es
all_stay runs h more [] own = tt
all_stay runs h more (e ∷ es) own = (λ is. stays runs h more e.entry (own.0 is), all_stay runs h more es own.1)

both_stay : (runs : Runs) (h : History) (es fs : List PlacedEntry) → OwnStay runs h es → OwnStay runs h fs → OwnStay runs h (es ++ fs)
both_stay runs h [] fs own also = also
both_stay runs h (e ∷ es) fs own also = (own.0, both_stay runs h es fs own.1 also)

-- the entries of a history, after a change that emits none, and after an emission
pub none_emitted : (n : ℕ) (c : Change) → emits c ≡ false → entries_from n (c ∷ []) ≡ []
none_emitted n (Register name set) h = refl
none_emitted n (Param m x) h = refl
none_emitted n (Emit e) h = absurd (both_ways true h refl)

pub quiet_stays : (runs : Runs) (h : History) (c : Change) → emits c ≡ false → OwnStay runs h (entries_of h) → OwnStay runs (extended h (c ∷ [])) (entries_of (extended h (c ∷ [])))
quiet_stays runs h c quiet own =
    let g = extended h (c ∷ []) in
    subst (λ (es : List PlacedEntry). OwnStay runs g es) (sym (entries_more 1 h.changes (c ∷ [])))
    (both_stay runs g (entries_of h) (entries_from (1 + length h.changes) (c ∷ [])) (all_stay runs h (c ∷ []) (entries_of h) own)
    (subst (λ (es : List PlacedEntry). OwnStay runs g es) (sym (none_emitted (1 + length h.changes) c quiet)) tt))

pub emission_stays : (runs : Runs) (h : History) (e : Entry) → (is_external e.emitter ≡ false → StaysRight runs h e) → OwnStay runs h (entries_of h) → OwnStay runs (extended h (Emit e ∷ [])) (entries_of (extended h (Emit e ∷ [])))
emission_stays runs h e right own =
    let g = extended h (Emit e ∷ []) in
    subst (λ (es : List PlacedEntry). OwnStay runs g es) (sym (entries_more 1 h.changes (Emit e ∷ [])))
    (both_stay runs g (entries_of h) (entries_from (1 + length h.changes) (Emit e ∷ [])) (all_stay runs h (Emit e ∷ []) (entries_of h) own)
    (λ is. stays runs h (Emit e ∷ []) e (right is), tt))

-- of such entries those that count
filter_one : (runs : Runs) (h : History) (e : PlacedEntry) (es : List PlacedEntry) (b : Bool) → (is_external e.entry.emitter ≡ false → StaysRight runs h e.entry) → OwnStay runs h es → OwnStay runs h (cond b (e ∷ es) es)
filter_one runs h e es true is rest = (is, rest)
filter_one runs h e es false is rest = rest

filter_stay : (runs : Runs) (h : History) (test : PlacedEntry → Bool) (es : List PlacedEntry) → OwnStay runs h es → OwnStay runs h (filter test es)
filter_stay runs h test [] own = tt
filter_stay runs h test (e ∷ es) own = filter_one runs h e (filter test es) (test e) own.0 (filter_stay runs h test es own.1)

last_one : (runs : Runs) (h : History) (e : PlacedEntry) (es : List PlacedEntry) (b : Bool) → (is_external e.entry.emitter ≡ false → StaysRight runs h e.entry) → OwnStay runs h es → OwnStay runs h (cond b es (e ∷ es))
last_one runs h e es true is rest = rest
last_one runs h e es false is rest = (is, rest)

last_stay : (runs : Runs) (h : History) (es : List PlacedEntry) → OwnStay runs h es → OwnStay runs h (last_of_each es)
last_stay runs h [] own = tt
last_stay runs h (e ∷ es) own = last_one runs h e (last_of_each es) (list_any (is_rival e) es) own.0 (last_stay runs h es own.1)

counted_stay : (runs : Runs) (h : History) → OwnStay runs h (entries_of h) → OwnStay runs h (counted_of h)
unfolding counted_of
counted_stay runs h own = last_stay runs h (current_of h) (filter_stay runs h (is_current h) (entries_of h) own)

right_one : (runs : Runs) (h : History) (e : PlacedEntry) (es : List PlacedEntry) (b : Bool) → (b ≡ false → StaysRight runs h e.entry) → AllRight runs h es → AllRight runs h (cond (not b) (e ∷ es) es)
right_one runs h e es true is rest = rest
right_one runs h e es false is rest = ((is refl).right, rest)

all_right : (runs : Runs) (h : History) (es : List PlacedEntry) → OwnStay runs h es → OwnRight runs h es
all_right runs h [] own = tt
all_right runs h (e ∷ es) own = right_one runs h e (filter (λ x. not (is_external x.entry.emitter)) es) (is_external e.entry.emitter) own.0 (all_right runs h es own.1)

-- the counted entries of the program's own emitters are right
pub own_right : (runs : Runs) (h : History) → OwnStay runs h (entries_of h) → OwnRight runs h (counted_of h)
own_right runs h own = all_right runs h (counted_of h) (counted_stay runs h own)
