use Rattle.std.proofs.Common.{◌≡◌, ℕ, sym, subst, ◌∙◌, arith}
use Rattle.std.proofs.lemmas.List.{length-map}
use Rattle.event_board.specs.inner.Rows.{row, rows}
use Rattle.event_board.proofs.RowsAfter.{AreFirst, all_taken, next_first, none_first}
use Rattle.event_board.proofs.page.first_after.Goals as goal

pub loop-taken-init : goal.loop-taken-init
loop-taken-init c =
    record { first = rw c.new-given.ensures.items (none_first (rows c.args.table.now) c.args.cursor) }

pub loop-taken-preserved : goal.loop-taken-preserved
loop-taken-preserved c = record {
  first = next_first (rows c.args.table.now) c.args.cursor c.loop-taken._taken (rows c.loop-taken.given.items) (rows c.add_next.new.given.items) c.requires.once c.loop-taken.invariant.first c.in_ok-add_next.ensures;
}

pub returns-clause-given : goal.returns-clause-given
returns-clause-given c =
    let below = c.loop-taken.auto._taken-end in
    let all : c.loop-taken._taken ≡ c.args.limit = omega (arith, c.loop-taken-test.false, below) in
    let first = subst (λ (k : ℕ). AreFirst (rows c.args.table.now) c.args.cursor k (rows c.loop-taken.given.items)) all c.loop-taken.invariant.first in
    first.is_given

pub returns-clause-all : goal.returns-clause-all
returns-clause-all c = λ some.
    let below = c.loop-taken.auto._taken-end in
    let all : c.loop-taken._taken ≡ c.args.limit = omega (arith, c.loop-taken-test.false, below) in
    sym (length-map c.loop-taken.given.items row)
    ∙ (all_taken (rows c.args.table.now) c.args.cursor c.loop-taken._taken (rows c.loop-taken.given.items) c.loop-taken.invariant.first some ∙ all)
