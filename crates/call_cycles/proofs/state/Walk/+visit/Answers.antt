use Rattle.std.proofs.Common.{◌<◌, ◌∙◌, ℕ, List, length, get_or, ap, sym, subst, arith}
use Rattle.std.proofs.lemmas.List.{get_or_read}
use Rattle.call_cycles.specs.declared.state.Colour.TheVariants.{Unvisited}
use Rattle.call_cycles.specs.Calls.{callees, Calls}
use Rattle.call_cycles.specs.inner.Walk.{EachLeadsOrIs, OnCycle}
use Rattle.call_cycles.proofs.Paths.{is_leads, call_leads}
use Rattle.call_cycles.proofs.Walk.{read-new, good_by, to-entered, entered_by, fewer_by, grows-entered, walked_by, walked-open, so_far-more}
use Rattle.call_cycles.proofs.Firsts.{firsts-more, firsts_by}
use Rattle.call_cycles.proofs.state.Walk.+visit.Goals as goal

pub visit-visit_callees-requires : goal.visit-visit_callees-requires
visit-visit_callees-requires t c =
    let w = c.args.self.now in
    let inside : c.args.function < length w.colours.items = omega (arith, c.requires.good.long) in
    let new = read-new w.colours.items c.args.function c.index.result.now inside c.index.ensures c.in-Unvisited.is in
    let made = c.in_ok-place-in-Unvisited in (
      omega (arith, fewer_by w.colours.items c.args.function made.place c.enter.new.self.colours.items inside new made.ensures.colours, c.decreases),
      (
        c.requires.range,
        (
          c.requires.few,
          (
            c.requires.function,
            (
              good_by c.args.calls.now w.stack.items w.colours.items c.args.function made.place c.enter.new.self.stack.items c.enter.new.self.colours.items c.requires.good inside new made.ensures.place made.ensures.stack made.ensures.colours,
              (
                subst (λ (o : List ℕ). EachLeadsOrIs c.args.calls.now o c.args.function) (sym made.ensures.stack) (to-entered c.args.calls.now w.stack.items c.args.function c.requires.leads),
                subst (λ (a : _). OnCycle c.args.calls.now a) (sym made.ensures.first) c.requires.first,
              ),
            ),
          ),
        ),
      ),
    )

pub visit-leave-requires-clause-place : goal.visit-leave-requires-clause-place
visit-leave-requires-clause-place t c =
    let w = c.args.self.now in
    let inside : c.args.function < length w.colours.items = omega (arith, c.requires.good.long) in
    let new = read-new w.colours.items c.args.function c.index.result.now inside c.index.ensures c.in-Unvisited.is in
    let made = c.in_ok-place-in-Unvisited in
    let entered = entered_by c.args.calls.now w.stack.items w.colours.items c.args.function made.place c.enter.new.self.stack.items c.enter.new.self.colours.items _ _ _ c.requires.good inside new c.requires.leads made.ensures.place made.ensures.stack made.ensures.colours c.in_ok-low-in-Unvisited.ensures.walked in
    let grows = grows-entered _ _ _ _ _ _ _ entered in
    omega (arith, made.ensures.place, ap length c.count.ensures.stack)

pub visit-returns-in_ok-low-in-Unvisited-clause-walked : goal.visit-returns-in_ok-low-in-Unvisited-clause-walked
visit-returns-in_ok-low-in-Unvisited-clause-walked t c =
    let w = c.args.self.now in
    let inside : c.args.function < length w.colours.items = omega (arith, c.requires.good.long) in
    let new = read-new w.colours.items c.args.function c.index.result.now inside c.index.ensures c.in-Unvisited.is in
    let made = c.in_ok-place-in-Unvisited in
    let entered = entered_by c.args.calls.now w.stack.items w.colours.items c.args.function made.place c.enter.new.self.stack.items c.enter.new.self.colours.items _ _ _ c.requires.good inside new c.requires.leads made.ensures.place made.ensures.stack made.ensures.colours c.in_ok-low-in-Unvisited.ensures.walked in
    walked_by _ _ _ _ made.place _ _ _ _ _ _ _ entered made.ensures.place c.count.ensures.stack c.count.ensures.colours c.leave.ensures.stack c.leave.ensures.colours

pub visit-returns-in_ok-low-in-Unvisited-clause-first : goal.visit-returns-in_ok-low-in-Unvisited-clause-first
visit-returns-in_ok-low-in-Unvisited-clause-first t c =
    let w = c.args.self.now in
    let inside : c.args.function < length w.colours.items = omega (arith, c.requires.good.long) in
    let new = read-new w.colours.items c.args.function c.index.result.now inside c.index.ensures c.in-Unvisited.is in
    let made = c.in_ok-place-in-Unvisited in
    let entered = entered_by c.args.calls.now w.stack.items w.colours.items c.args.function made.place c.enter.new.self.stack.items c.enter.new.self.colours.items _ _ _ c.requires.good inside new c.requires.leads made.ensures.place made.ensures.stack made.ensures.colours c.in_ok-low-in-Unvisited.ensures.walked in
    firsts_by _ _ _ _ made.place _ _ _ _ _ _ _ _ _ _ _ entered made.ensures.place made.ensures.colours made.ensures.first c.in_ok-low-in-Unvisited.ensures.first c.count.ensures.stack c.count.ensures.colours c.leave.ensures.colours (c.leave.ensures.first ∙ c.count.ensures.first)

pub visit-returns-in-Open-clause-walked : goal.visit-returns-in-Open-clause-walked
visit-returns-in-Open-clause-walked t c =
    let w = c.args.self.now in
    let inside : c.args.function < length w.colours.items = omega (arith, c.requires.good.long) in
    walked-open _ _ _ _ _ c.requires.good c.requires.leads (sym (get_or_read w.colours.items c.args.function c.index.result.now inside c.index.ensures Unvisited) ∙ c.in-Open.is)

pub visit_callees-visit-requires : goal.visit_callees-visit-requires
visit_callees-visit-requires t c =
    let w = c.loop-callee.self in
    let s = c.loop-callee.invariant.walked in
    let h : c.loop-callee.callee-index < length c.callees_of-callee-items.result.now = omega arith in
    let inside : c.loop-callee.callee-index < length (callees c.args.calls.now c.args.function) = subst (λ (xs : List ℕ). c.loop-callee.callee-index < length xs) c.callees_of-callee-items.ensures h in
    let call : Calls c.args.calls.now c.args.function (get_or c.callees_of-callee-items.result.now c.loop-callee.callee-index 0) = (c.loop-callee.callee-index, inside, ap (λ (xs : List ℕ). get_or xs c.loop-callee.callee-index 0) (sym c.callees_of-callee-items.ensures)) in (
      omega (arith, s.fewer, c.decreases),
      (
        c.requires.range,
        (
          c.requires.few,
          (
            c.requires.range c.args.function _ call,
            (
              s.good,
              (
                λ j l. is_leads c.args.calls.now (get_or w.stack.items j 0) c.args.function _ (s.to j l) (call_leads c.args.calls.now c.args.function _ call),
                c.loop-callee.invariant.first.sound,
              ),
            ),
          ),
        ),
      ),
    )

pub visit_callees-loop-callee-preserved : goal.visit_callees-loop-callee-preserved
visit_callees-loop-callee-preserved t c =
    let h : c.loop-callee.callee-index < length c.callees_of-callee-items.result.now = omega arith in
    let inside : c.loop-callee.callee-index < length (callees c.args.calls.now c.args.function) = subst (λ (xs : List ℕ). c.loop-callee.callee-index < length xs) c.callees_of-callee-items.ensures h in
    let more = so_far-more _ _ _ _ _ _ _ _ _ _ _ _ c.requires.good c.loop-callee.invariant.walked inside (ap (λ (xs : List ℕ). get_or xs c.loop-callee.callee-index 0) c.callees_of-callee-items.ensures) c.in_ok-visit.ensures.walked in record {
      walked = rw c.min-low.ensures more;
      first = firsts-more _ _ _ _ _ _ _ c.loop-callee.invariant.first c.in_ok-visit.ensures.first;
    }
