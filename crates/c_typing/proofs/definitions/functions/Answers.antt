use Rattle.std.proofs.Common.{rules, ◌≡◌, ◌∙◌, [], ◌∷◌, Some, ap, length, length-append, arith}
use Rattle.std.specs.Prelude.{slice_get}
use Rattle.std.proofs.lemmas.Option.{slice_get_within}
use Rattle.c_typing.proofs.Ending.{one_fun, one_less, past_definitions, past_known}
use Rattle.c_typing.proofs.definitions.functions.Goals as goal

pub returns-in_default-clause-value : goal.returns-in_default-clause-value
returns-in_default-clause-value c =
    let l = c.loop-definition in
    past_known l.number c.args.known _ l.done _ l.walk _ _ (first_of (search rules, cc)) l.invariant.goes

pub returns-clause-value : goal.returns-clause-value
returns-clause-value c =
    let l = c.loop-definition in
    past_definitions l.number _ _ _ l.done _ l.walk _ _ l.invariant.left c.in-None.ensures.steps.0 l.invariant.goes

pub loop-definition-preserved : goal.loop-definition-preserved
loop-definition-preserved c =
    let l = c.loop-definition in
    let k = c.in-Some-get.known.now in
    let got : slice_get c.args.known l.number ≡ Some k = first_of (search rules, cc) in
    let steps = c.in-Some.ensures.steps in
    let fewer = ap length steps.0 in
    let count = steps.1 in
    let left = l.invariant.left in
    let shorter = one_less c.args.known l.number k got in
    let room = c.in_ok-fun.ensures.room in
    let points = l.invariant.points in
    let counted = l.invariant.count in
    let within = l.invariant.within in
    let inside = slice_get_within c.args.known l.number k got in
    let longer = ap length c.in_ok-push.ensures.ok ∙ length-append l.done (c.in_ok-fun.field-0 ∷ []) in
    record {
      goes = one_fun l.number c.args.known k _ _ c.in-Some.definition c.in_ok-fun.field-0 l.done _ _ l.walk _ _ _ got steps.0 (first_of (search rules, cc)) c.in_ok-push.ensures.ok l.invariant.goes;
      left = omega (arith, fewer, count, left);
      points = omega (arith, shorter, room, points);
      count = omega (arith, longer, shorter, counted);
      within = omega (arith, inside, within);
    }
