use Rattle.std.proofs.Common.{sym, ◌∙◌}
use Rattle.c_parse.proofs.Programs.{is_unit, is_only, no_rest, no_unit, no_only, ends_early, stops_before, too_many, refusal_is}
use Rattle.c_parse.proofs.Weights.{unit_weighs}
use Rattle.c_parse.proofs.text.parse.Goals as goal

pub returns-then-is_empty-clause-found : goal.returns-then-is_empty-clause-found
returns-then-is_empty-clause-found c =
    is_unit _ _ _ _ c.in-Ok.ensures.value (sym c.is_empty.ensures ∙ c.if-is_empty.true)

pub returns-then-is_empty-clause-size : goal.returns-then-is_empty-clause-size
returns-then-is_empty-clause-size c =
    unit_weighs _ _ _ (is_unit _ _ _ _ c.in-Ok.ensures.value (sym c.is_empty.ensures ∙ c.if-is_empty.true))

pub returns-then-is_empty-clause-only : goal.returns-then-is_empty-clause-only
returns-then-is_empty-clause-only c = λ is p. is_only _ _ _ _ _ c.in-Ok.ensures.value p

pub returns-else-is_empty-clause-only : goal.returns-else-is_empty-clause-only
returns-else-is_empty-clause-only c =
    λ is p. no_only is c.refused.result
    (no_rest _ _ _ is _ c.in-Ok.ensures.value (sym c.is_empty.ensures ∙ c.if-is_empty.false) p)

pub returns-else-is_empty-clause-fault : goal.returns-else-is_empty-clause-fault
returns-else-is_empty-clause-fault c =
    refusal_is _ _ _ _ (ends_early _ _ _ _ c.in-Ok.ensures.value (sym c.is_empty.ensures ∙ c.if-is_empty.false))
    c.refused.ensures

pub returns-in-Err-Unexpected-clause-only : goal.returns-in-Err-Unexpected-clause-only
returns-in-Err-Unexpected-clause-only c =
    λ is p. no_only is c.refused-in-Err-Unexpected.result (no_unit _ _ is _ _ (rw c.in-Err-Unexpected.field-0-is at c.in-Err-Unexpected.ensures.value) p)

pub returns-in-Err-Unexpected-clause-fault : goal.returns-in-Err-Unexpected-clause-fault
returns-in-Err-Unexpected-clause-fault c =
    refusal_is _ _ _ _ (stops_before _ _ _ _ (rw c.in-Err-Unexpected.field-0-is at c.in-Err-Unexpected.ensures.value) c.last.ensures)
    c.refused-in-Err-Unexpected.ensures

pub returns-in-Err-TooDeep-clause-only : goal.returns-in-Err-TooDeep-clause-only
returns-in-Err-TooDeep-clause-only c = λ is p. no_unit _ _ is _ _ (rw c.in-Err-TooDeep.field-0-is at c.in-Err-TooDeep.ensures.value) p

pub returns-in-Err-TooDeep-clause-fault : goal.returns-in-Err-TooDeep-clause-fault
returns-in-Err-TooDeep-clause-fault c =
    too_many _ _ _ _ _ (rw c.in-Err-TooDeep.field-0-is at c.in-Err-TooDeep.ensures.value) c.last-in-Err-TooDeep.ensures c.place_at.ensures
