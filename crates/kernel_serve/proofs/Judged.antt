-- What an answer that isn't a refusal says of a change of a script.
use Rattle.std.proofs.Common.{◌≡◌, List, [], ◌∷◌, Bool, true, false, not, Option, Some, None, Ok, length, refl, sym, arith}
use Rattle.std.proofs.lemmas.Bool.{false≢true, leb-false}
use Rattle.std.specs.Prelude.{nat_le}
use Rattle.param_book.specs.Emitters.{is_external}
use Rattle.c_ir.specs.Props.{Props}
use Rattle.status_history.specs.declared.history.Change.{Change}
use Rattle.status_history.specs.declared.history.Change.TheVariants.{Register, Param, Emit}
use Rattle.status_history.specs.declared.history.Entry.{Entry}
use Rattle.status_history.specs.declared.history.History.{History}
use Rattle.status_rules.specs.Judge.{emitters_of, entry_rows, first_of, history_full, if_so, is_taken, judge, name_taken, placed_of, refused_or, reserved_emitter, set_out_of_range, too_many_emitters, unknown_emitter, value_out_of_range}
use Rattle.status_rules.specs.declared.refusals.Placed.{Placed}
use Rattle.status_rules.specs.declared.refusals.Refusal.{Refusal}
use Rattle.status_rules.specs.declared.refusals.Refusal.TheVariants as R
use Rattle.kernel_serve.specs.inner.Keeping.{MayJoin}
use Rattle.kernel_serve.proofs.Emitters.{emitters_are}

-- where nothing is refused, no row stands
first_none : (row : Option Refusal) (rows : List (Option Refusal)) (p q : Placed)
    → refused_or (first_of (row ∷ rows)) p ≡ Ok q → row ≡ None
first_none None rows p q h = refl
first_none (Some why) rows p q h = absurd cc

rest_none : (row : Option Refusal) (rows : List (Option Refusal)) (p q : Placed)
    → refused_or (first_of (row ∷ rows)) p ≡ Ok q → refused_or (first_of rows) p ≡ Ok q
rest_none None rows p q h = h
rest_none (Some why) rows p q h = absurd cc

-- a row that doesn't stand
stands_not : (b : Bool) (why : Refusal) → if_so b why ≡ None → b ≡ false
stands_not true why h = absurd cc
stands_not false why h = refl

not_not : (b : Bool) → not b ≡ false → b ≡ true
not_not true h = refl
not_not false h = absurd (false≢true (sym h))

-- an entry that isn't refused is of a registered emitter
pub placed_is_external : (t : Props) (h : History) (e : Entry) (placed : Placed)
    → judge t h (Emit e) ≡ Ok placed → is_external e.emitter ≡ true
unfolding judge
placed_is_external t h e placed is =
    let rest = rest_none (unknown_emitter h e) (reserved_emitter e ∷ entry_rows t h e) (placed_of h (Emit e)) placed is in
    not_not (is_external e.emitter) (stands_not (not (is_external e.emitter)) R.ReservedEmitter
    (first_none (reserved_emitter e) (entry_rows t h e) (placed_of h (Emit e)) placed rest))

-- a change that isn't refused may join
pub may_join : (t : Props) (h : History) (c : Change) (placed : Placed) → judge t h c ≡ Ok placed
    → MayJoin h c
unfolding judge
may_join t h (Register name set) placed is =
    let p = placed_of h (Register name set) in
    let second = rest_none (set_out_of_range set) (name_taken h name ∷ too_many_emitters h ∷ history_full h ∷ []) p placed is in
    let third = rest_none (name_taken h name) (too_many_emitters h ∷ history_full h ∷ []) p placed second in
    let few = leb-false 256 (emitters_of h) (stands_not (nat_le 256 (emitters_of h)) (R.TooManyEmitters 256)
    (first_none (too_many_emitters h) (history_full h ∷ []) p placed third)) in (
      stands_not (is_taken h name) R.NameTaken (first_none (name_taken h name) (too_many_emitters h ∷ history_full h ∷ []) p placed second),
      omega (arith, few, emitters_are h),
    )
may_join t h (Param n x) placed is =
    let p = placed_of h (Param n x) in
    let second = rest_none (value_out_of_range t n x) (history_full h ∷ []) p placed is in
    leb-false 200000 (length h.changes) (stands_not (nat_le 200000 (length h.changes)) (R.HistoryFull 200000)
    (first_none (history_full h) [] p placed second))
may_join t h (Emit e) placed is = tt
