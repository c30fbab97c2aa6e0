use Rattle.std.proofs.Common.{rules, ◌≡◌, ◌∙◌, Some, length, refl, ap, sym}
use Rattle.std.specs.Option.{option_map}
use Rattle.std.specs.Prelude.{slice_get}
use Rattle.std.proofs.lemmas.Option.{slice_get_read}
use Rattle.c_types.proofs.Graphs.{graph_count, in_range, none_recursive, on_cycle_bound, some_recursive}
use Rattle.c_types.specs.Programs.{graph}
use Rattle.c_types.proofs.cycles.first_recursive.Goals as goal

pub first_on_cycle-requires-clause-range : goal.first_on_cycle-requires-clause-range
first_on_cycle-requires-clause-range c = rw c.as_slice.ensures (rw c.in_ok-calls.ensures (in_range c.args.all.now))

pub first_on_cycle-requires-clause-few : goal.first_on_cycle-requires-clause-few
first_on_cycle-requires-clause-few c =
    rw c.as_slice.ensures (rw c.in_ok-calls.ensures (rw (graph_count c.args.all.now) c.requires))

pub returns-in-None : goal.returns-in-None
returns-in-None c =
    let is : c.as_slice.result.now ≡ graph c.args.all.now = first_of (search rules, cc) in
    none_recursive c.args.all.now c.as_slice.result.now c.in_ok-first_on_cycle.field-0 is (first_of (search rules, cc)) c.in_ok-first_on_cycle.ensures.first

pub bounds-all-function : goal.bounds-all-function
bounds-all-function c =
    let is : c.as_slice.result.now ≡ graph c.args.all.now = first_of (search rules, cc) in
    on_cycle_bound c.args.all.now c.as_slice.result.now c.in_ok-first_on_cycle.field-0 c.in-Some.function is (first_of (search rules, cc)) c.in_ok-first_on_cycle.ensures.first

pub returns : goal.returns
returns c =
    let fs = c.args.all.now in
    let f = c.in-Some.function in
    let k = c.index-all-function.result in
    let is : c.as_slice.result.now ≡ graph fs = first_of (search rules, cc) in
    let some : c.in_ok-first_on_cycle.field-0 ≡ Some f = first_of (search rules, cc) in
    let cycle = c.in_ok-first_on_cycle.ensures.first in
    let read : slice_get fs f ≡ Some k = slice_get_read fs (length fs) f k refl (on_cycle_bound fs c.as_slice.result.now c.in_ok-first_on_cycle.field-0 f is some cycle) c.index-all-function.is in
    let name : c.in_ok-copy-in-Some.field-0 ≡ k.name = first_of (search rules, cc) in
    some_recursive fs c.as_slice.result.now c.in_ok-first_on_cycle.field-0 f c.in_ok-copy-in-Some.field-0 is some cycle (ap (option_map (λ x. x.name)) read ∙ ap Some (sym name))
