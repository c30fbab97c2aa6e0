-- The laws of expressions and of predicates, over states.
use Rattle.abs_state.specs.declared.state.State.{State}
use Rattle.eva_terms.proofs.Right as terms
use Rattle.eva_values.proofs.Sound.{expressions_cover}
use Rattle.eva_expr.specs.Conditions.{checks_overflow, narrowed_by_expr, narrowed_by_pred, truth_in, value_seen}
use Rattle.eva_expr.specs.Laws.{ConditionsKeep, PredicatesKeep, TruthIsRight, ValueIsRight}

pub value_is_right : ValueIsRight
unfolding value_seen
value_is_right p values e c s formed typed all =
    let covers = expressions_cover p (checks_overflow values) e c s.env formed typed all in
    (covers.marked, covers.value)

pub truth_is_right : TruthIsRight
unfolding truth_in
truth_is_right p s entry c before all first = terms.truths_right p s.env entry.env c before all first

pub conditions_keep : ConditionsKeep
unfolding narrowed_by_expr
conditions_keep p values e c s z formed typed all is =
    (expressions_cover p (checks_overflow values) e c s.env formed typed all).left z is

pub predicates_keep : PredicatesKeep
unfolding narrowed_by_pred
predicates_keep p taken s entry c before all first is =
    terms.predicates_keep p taken s.env entry.env c before all first is
