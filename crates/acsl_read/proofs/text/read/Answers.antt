use Rattle.std.proofs.Common.{sym, ◌∙◌}
use Rattle.acsl_read.proofs.Programs.{is_annot, is_only, no_rest, no_annot, no_only, ends_early, stops_before, too_many, front_is, refusal_is}
use Rattle.acsl_read.proofs.text.read.Goals as goal

pub returns-then-is_empty-clause-found : goal.returns-then-is_empty-clause-found
returns-then-is_empty-clause-found c =
    is_annot _ _ _ _ c.in-Ok.ensures.value (sym c.is_empty.ensures ∙ c.if-is_empty.true)

pub returns-then-is_empty-clause-only : goal.returns-then-is_empty-clause-only
returns-then-is_empty-clause-only c = λ a p. is_only _ _ _ _ _ c.in-Ok.ensures.value p

pub returns-else-is_empty-clause-only : goal.returns-else-is_empty-clause-only
returns-else-is_empty-clause-only c =
    λ a p. no_only a c.refused.result
    (no_rest _ _ _ a _ c.in-Ok.ensures.value (sym c.is_empty.ensures ∙ c.if-is_empty.false) p)

pub returns-else-is_empty-clause-fault : goal.returns-else-is_empty-clause-fault
returns-else-is_empty-clause-fault c =
    refusal_is _ _ _ _ _ _ (ends_early _ _ _ _ c.in-Ok.ensures.value (sym c.is_empty.ensures ∙ c.if-is_empty.false))
    c.parted.ensures.front c.refused.ensures

pub returns-in-Err-Unexpected-clause-only : goal.returns-in-Err-Unexpected-clause-only
returns-in-Err-Unexpected-clause-only c =
    λ a p. no_only a c.refused-in-Err-Unexpected.result (no_annot _ _ a _ _ (rw c.in-Err-Unexpected.field-0-is at c.in-Err-Unexpected.ensures.value) p)

pub returns-in-Err-Unexpected-clause-fault : goal.returns-in-Err-Unexpected-clause-fault
returns-in-Err-Unexpected-clause-fault c =
    refusal_is _ _ _ _ _ _
    (stops_before _ _ _ _ (rw c.in-Err-Unexpected.field-0-is at c.in-Err-Unexpected.ensures.value) c.parted-in-Err-Unexpected.ensures.back)
    (front_is _ _ _ _ c.parted-in-Err-Unexpected.ensures.back c.parted-in-Err-Unexpected.ensures.front)
    c.refused-in-Err-Unexpected.ensures

pub returns-in-Err-TooDeep-clause-only : goal.returns-in-Err-TooDeep-clause-only
returns-in-Err-TooDeep-clause-only c = λ a p. no_annot _ _ a _ _ (rw c.in-Err-TooDeep.field-0-is at c.in-Err-TooDeep.ensures.value) p

pub returns-in-Err-TooDeep-clause-fault : goal.returns-in-Err-TooDeep-clause-fault
returns-in-Err-TooDeep-clause-fault c =
    too_many _ _ _ _ _ _ (rw c.in-Err-TooDeep.field-0-is at c.in-Err-TooDeep.ensures.value) c.parted-in-Err-TooDeep.ensures.back c.place_at.ensures
