-- What is summed up of a property is what its records say; the entries by that are those of the definition.
use Rattle.std.proofs.Common.{◌≡◌, ◌∙◌, ◌<◌, ◌+◌, ℕ, zero, suc, ℤ, Bool, true, false, List, [], ◌∷◌, ◌++◌, length, replicate, Option, Some, None, refl, sym, ap, subst, arith}
use Rattle.std.specs.Prelude.{◌&&◌, ◌==◌, if◌then◌else◌, slice_get, slice_set}
use Rattle.std.proofs.lemmas.Bool.{eqb-true, eq-eqb, false≢true}
use Rattle.std.proofs.lemmas.Option.{none-some, same_Some}
use Rattle.prop_set.specs.Sets.{union}
use Rattle.c_ir.specs.Programs.{Program}
use Rattle.c_ir.specs.Table.{row_admitted}
use Rattle.c_ir.specs.declared.prop.Prop.{Prop}
use Rattle.c_runs.specs.Visits.{Named}
use Rattle.param_book.specs.Table.{entry_function}
use Rattle.prop_runs.specs.Numbers.{props_of}
use Rattle.status_history.specs.declared.history.Entry.{Entry}
use Rattle.eva_rules.specs.Entries.{each_said, entries_from, entry_by, entry_of, may_fail, may_hold, records_at, used_with}
use Rattle.eva_rules.specs.Passing.{Record}
use Rattle.eva_run.specs.Code.{put, put_in, tallied, tally_with}
use Rattle.eva_run.specs.Entered.{entries_by, entry_unless, status_by}
use Rattle.eva_run.specs.declared.tallies.Tally.{Tally}

-- ---- one property

-- with all these records
abbrev pub summed : Tally → List Record → Tally
summed y rs = record {
  may_hold = y.may_hold && each_said may_hold rs;
  may_fail = y.may_fail && each_said may_fail rs;
  used = used_with y.used rs;
}

and_true : (b : Bool) → b ≡ (b && true)
and_true true = refl
and_true false = refl

and_three : (a b c : Bool) → ((a && b) && c) ≡ (a && (b && c))
and_three true b c = refl
and_three false b c = refl

abbrev one_more : Bool → Tally → Record → Tally
one_more true y r = tally_with y r
one_more false y r = y

abbrev one_if : Bool → Record → List Record
one_if b r = if b then r ∷ [] else []

summed_more : (b : Bool) (y : Tally) (r : Record) (rs : List Record)
    → summed (one_more b y r) rs ≡ summed y (one_if b r ++ rs)
summed_more true y r rs = λ i. record {
  may_hold = and_three y.may_hold (may_hold r.said) (each_said may_hold rs) i;
  may_fail = and_three y.may_fail (may_fail r.said) (each_said may_fail rs) i;
  used = used_with (union y.used r.used) rs;
}
summed_more false y r rs = refl

get_same : (t : List Tally) (q : ℕ) (v y : Tally) → slice_get t q ≡ Some y
    → slice_get (slice_set t q v) q ≡ Some v
get_same [] q v y h = absurd (none-some y h)
get_same (x ∷ t) zero v y h = refl
get_same (x ∷ t) (suc q) v y h = get_same t q v y h

get_other : (t : List Tally) (q p : ℕ) (v : Tally) → (q ≡ p → ⊥)
    → slice_get (slice_set t q v) p ≡ slice_get t p
get_other [] q p v h = refl
get_other (x ∷ t) zero zero v h = absurd (h refl)
get_other (x ∷ t) zero (suc p) v h = refl
get_other (x ∷ t) (suc q) zero v h = refl
get_other (x ∷ t) (suc q) (suc p) v h = get_other t q p v (λ e. h (ap suc e))

put_other : (t : List Tally) (r : Record) (q p : ℕ) (o : Option Tally) → (q == p) ≡ false
    → slice_get (put_in t q r o) p ≡ slice_get t p
put_other t r q p None h = refl
put_other t r q p (Some y) h =
    get_other t q p (tally_with y r) (λ e. absurd (false≢true (sym h ∙ eq-eqb q p e)))

put_same : (t : List Tally) (r : Record) (q : ℕ) (y : Tally) (o : Option Tally) → slice_get t q ≡ o
    → o ≡ Some y
    → slice_get (put_in t q r o) q ≡ Some (tally_with y r)
put_same t r q y None h e = absurd (none-some y e)
put_same t r q y (Some x) h e =
    get_same t q (tally_with x r) x h ∙ ap (λ (z : Tally). Some (tally_with z r)) (same_Some x y e)

put_get : (t : List Tally) (r : Record) (q p : ℕ) (y : Tally) (b : Bool) → (q == p) ≡ b
    → slice_get t p ≡ Some y
    → slice_get (put_in t q r (slice_get t q)) p ≡ Some (one_more b y r)
put_get t r q p y true h e =
    let at : q ≡ p = eqb-true q p h in
    subst (λ (n : ℕ). slice_get (put_in t q r (slice_get t q)) n ≡ Some (tally_with y r)) at
    (put_same t r q y (slice_get t q) refl (ap (slice_get t) at ∙ e))
put_get t r q p y false h e = put_other t r q p (slice_get t q) h ∙ e

put_at : (f : Named → ℕ) (t : List Tally) (r : Record) (p : ℕ) (y : Tally) → slice_get t p ≡ Some y
    → slice_get (put f t r) p ≡ Some (one_more (f r.named == p) y r)
unfolding put
put_at f t r p y h = put_get t r (f r.named) p y (f r.named == p) refl h

pub tallied_at : (f : Named → ℕ) (rs : List Record) (t : List Tally) (p : ℕ) (y : Tally)
    → slice_get t p ≡ Some y
    → slice_get (tallied f true t rs) p ≡ Some (summed y (records_at f p rs))
tallied_at f [] t p y h = h ∙ ap Some (λ i. record {
  may_hold = and_true y.may_hold i;
  may_fail = and_true y.may_fail i;
  used = y.used;
})
tallied_at f (r ∷ rs) t p y h =
    tallied_at f rs (put f t r) p (one_more (f r.named == p) y r) (put_at f t r p y h)
    ∙ ap Some (summed_more (f r.named == p) y r (records_at f p rs))

-- ---- how many there are

set_length : (t : List Tally) (q : ℕ) (v : Tally) → length (slice_set t q v) ≡ length t
set_length [] q v = refl
set_length (x ∷ t) zero v = refl
set_length (x ∷ t) (suc q) v = ap suc (set_length t q v)

put_in_length : (t : List Tally) (q : ℕ) (r : Record) (o : Option Tally) → length (put_in t q r o) ≡ length t
put_in_length t q r None = refl
put_in_length t q r (Some y) = set_length t q (tally_with y r)

put_length : (f : Named → ℕ) (t : List Tally) (r : Record) → length (put f t r) ≡ length t
unfolding put
put_length f t r = put_in_length t (f r.named) r (slice_get t (f r.named))

pub tallied_length : (f : Named → ℕ) (rs : List Record) (t : List Tally)
    → length (tallied f true t rs) ≡ length t
tallied_length f [] t = refl
tallied_length f (r ∷ rs) t = tallied_length f rs (put f t r) ∙ put_length f t r

replicate_get : {X : Type 0} (n j : ℕ) (x : X) → j < n → slice_get (replicate n x) j ≡ Some x
replicate_get zero j x h = absurd (omega (arith, h))
replicate_get (suc n) zero x h = refl
replicate_get (suc n) (suc j) x h = replicate_get n j x (omega (arith, h))

-- ---- entries

abbrev pub nothing_said : Tally
nothing_said = record { may_hold = true; may_fail = true; used = [] }

unless_is : (b : Bool) (version n : ℕ) (t : Tally) (e : Entry) → entry_by version n (status_by t) t.used ≡ e
    → entry_unless b version n t ≡ (if b then [] else e ∷ [])
unless_is true version n t e h = refl
unless_is false version n t e h = ap (λ (x : Entry). x ∷ []) h

-- the tallies from number n on
abbrev Sums : (Named → ℕ) → List Record → ℕ → List Prop → List Tally → Type 0
Sums f rs n rows ts =
    (j : ℕ) → j < length rows → slice_get ts j ≡ Some (summed nothing_said (records_at f (n + j) rs))

entered_from : (p : Program) (values : List ℤ) (f : Named → ℕ) (rs : List Record) (version n : ℕ)
    (rows : List Prop)
    (ts : List Tally) → Sums f rs n rows ts
    → entries_by (props_of p) (entry_function values) version n rows ts
    ≡ entries_from p values f rs version n rows
entered_from p values f rs version n [] ts h = refl
entered_from p values f rs version n (r ∷ rows) [] h =
    absurd (none-some (summed nothing_said (records_at f (n + 0) rs)) (h 0 (omega arith)))
entered_from p values f rs version n (r ∷ rows) (t ∷ ts) h =
    let here : t ≡ summed nothing_said (records_at f n rs) =
    same_Some t (summed nothing_said (records_at f n rs))
    (h 0 (omega arith)
    ∙ ap (λ (m : ℕ). Some (summed nothing_said (records_at f m rs))) (omega arith)) in
    let said = ap (λ (u : Tally). entry_by version n (status_by u) u.used) here in
    let first = unless_is (row_admitted (props_of p) (entry_function values) r) version n t
    (entry_of version n (records_at f n rs)) said in
    let rest = entered_from p values f rs version (n + 1) rows ts
    (λ j below. h (suc j) (omega (arith, below))
    ∙ ap (λ (m : ℕ). Some (summed nothing_said (records_at f m rs))) (omega arith)) in
    ap (λ (es : List Entry). es ++ entries_by (props_of p) (entry_function values) version (n + 1) rows ts)
    first
    ∙ ap (λ (es : List Entry).
    (if row_admitted (props_of p) (entry_function values) r then [] else entry_of version n
    (records_at f n rs) ∷ [])
    ++ es) rest

pub entered : (p : Program) (values : List ℤ) (f : Named → ℕ) (rs : List Record) (version : ℕ)
    (rows : List Prop)
    → entries_by (props_of p) (entry_function values) version 0 rows
    (tallied f true (replicate (length rows) nothing_said) rs)
    ≡ entries_from p values f rs version 0 rows
entered p values f rs version rows =
    entered_from p values f rs version 0 rows (tallied f true (replicate (length rows) nothing_said) rs)
    (λ j below. tallied_at f rs (replicate (length rows) nothing_said) j nothing_said
    (replicate_get (length rows) j nothing_said below)
    ∙ ap (λ (m : ℕ). Some (summed nothing_said (records_at f m rs))) (omega arith))
