use Rattle.std.specs.Option.{option_copied}
use Rattle.eva_values.proofs.Outcomes as lemma
use Rattle.eva_values.proofs.walk.+walk.Goals as goal

pub returns-in-Literal-clause-outcome : goal.returns-in-Literal-clause-outcome
returns-in-Literal-clause-outcome t c =
    lemma.literal_at c.args.overflow c.args.e.now (option_copied c.args.cells) c.args.wanted c.constant.result c.in-Literal.value
    c.in-Literal.is c.constant.ensures

pub returns-in-Cell-clause-outcome : goal.returns-in-Cell-clause-outcome
returns-in-Cell-clause-outcome t c =
    lemma.object_at c.args.overflow c.args.e.now (option_copied c.args.cells) c.args.wanted c.object.result c.in-Cell.cell
    c.in-Cell.checked c.in-Cell.is c.object.ensures.outcome

pub returns-in_ok-index-in-Element-clause-outcome : goal.returns-in_ok-index-in-Element-clause-outcome
returns-in_ok-index-in-Element-clause-outcome t c =
    lemma.element_at c.args.overflow c.args.e.now (option_copied c.args.cells) c.args.wanted c.element.result c.in-Element.first
    c.in-Element.length c.in-Element.index c.get.result.now c.in-Element.checked c.in_ok-index-in-Element.index c.in-Element.is
    c.get.ensures c.in_ok-index-in-Element.ensures.outcome c.element.ensures.outcome

pub returns-in_ok-index-in-Element-clause-marks : goal.returns-in_ok-index-in-Element-clause-marks
returns-in_ok-index-in-Element-clause-marks t c =
    lemma.element_marked_at c.args.overflow c.args.e.now (option_copied c.args.cells) c.element.result c.args.marks.now c.element.new.marks
    c.in-Element.first c.in-Element.length c.in-Element.index c.get.result.now c.in-Element.checked c.in_ok-index-in-Element.index
    c.walk.new.marks c.in-Element.is c.get.ensures c.in_ok-index-in-Element.ensures.outcome
    c.in_ok-index-in-Element.ensures.marks c.element.ensures.marks

pub returns-in_ok-operand-in-Unary-clause-outcome : goal.returns-in_ok-operand-in-Unary-clause-outcome
returns-in_ok-operand-in-Unary-clause-outcome t c =
    lemma.unary_at c.args.overflow c.args.e.now (option_copied c.args.cells) c.args.wanted c.unary.result c.in-Unary.op c.in-Unary.of
    c.get-in-Unary.result.now c.in_ok-operand-in-Unary.operand c.in-Unary.is c.get-in-Unary.ensures
    c.in_ok-operand-in-Unary.ensures.outcome c.unary.ensures.outcome

pub returns-in_ok-operand-in-Unary-clause-marks : goal.returns-in_ok-operand-in-Unary-clause-marks
returns-in_ok-operand-in-Unary-clause-marks t c =
    lemma.unary_marked_at c.args.overflow c.args.e.now (option_copied c.args.cells) c.unary.result c.args.marks.now c.unary.new.marks
    c.in-Unary.op c.in-Unary.of c.get-in-Unary.result.now c.in_ok-operand-in-Unary.operand c.args.wanted c.walk-in-Unary.new.marks
    c.in-Unary.is c.get-in-Unary.ensures c.in_ok-operand-in-Unary.ensures.outcome c.in_ok-operand-in-Unary.ensures.marks
    c.unary.ensures.marks

pub returns-in_ok-right-in-Binary-clause-outcome : goal.returns-in_ok-right-in-Binary-clause-outcome
returns-in_ok-right-in-Binary-clause-outcome t c =
    lemma.binary_at c.args.overflow c.args.e.now (option_copied c.args.cells) c.args.wanted c.binary.result c.in-Binary.op c.in-Binary.left
    c.in-Binary.right c.get-in-Binary.result.now c.get-in-Binary-2.result.now c.in_ok-left-in-Binary.left
    c.in_ok-right-in-Binary.right (option_copied c.after-after.result) c.is_logic.result c.goes_by.result c.in-Binary.is
    c.get-in-Binary.ensures c.get-in-Binary-2.ensures c.is_logic.ensures c.in_ok-left-in-Binary.ensures.outcome
    c.after-after.ensures c.goes_by.ensures c.in_ok-right-in-Binary.ensures.outcome c.binary.ensures.outcome

pub returns-in_ok-right-in-Binary-clause-marks : goal.returns-in_ok-right-in-Binary-clause-marks
returns-in_ok-right-in-Binary-clause-marks t c =
    lemma.binary_marked_at c.args.overflow c.args.e.now (option_copied c.args.cells) c.binary.result c.args.marks.now c.binary.new.marks
    c.in-Binary.op c.in-Binary.left c.in-Binary.right c.get-in-Binary.result.now c.get-in-Binary-2.result.now
    c.in_ok-left-in-Binary.left c.in_ok-right-in-Binary.right (option_copied c.after-after.result) c.is_logic.result
    c.goes_by.result c.walk-in-Binary.new.marks c.walk-in-Binary-2.new.marks c.in-Binary.is c.get-in-Binary.ensures
    c.get-in-Binary-2.ensures c.is_logic.ensures c.in_ok-left-in-Binary.ensures.outcome c.after-after.ensures
    c.in_ok-right-in-Binary.ensures.outcome c.in_ok-left-in-Binary.ensures.marks c.in_ok-right-in-Binary.ensures.marks
    c.binary.ensures.marks

pub returns-in_ok-no-in-Cond-clause-outcome : goal.returns-in_ok-no-in-Cond-clause-outcome
returns-in_ok-no-in-Cond-clause-outcome t c =
    lemma.choice_at c.args.overflow c.args.e.now (option_copied c.args.cells) c.args.wanted c.choice.result c.in-Cond.cond c.in-Cond.yes
    c.in-Cond.no c.get-in-Cond.result.now c.get-in-Cond-2.result.now c.get-in-Cond-3.result.now c.in_ok-cond-in-Cond.cond
    c.in_ok-yes-in-Cond.yes c.in_ok-no-in-Cond.no (option_copied c.as_ref.result) (option_copied c.as_ref-in-Cond.result)
    c.in-Cond.is c.get-in-Cond.ensures c.get-in-Cond-2.ensures c.get-in-Cond-3.ensures c.in_ok-cond-in-Cond.ensures.outcome
    c.as_ref.ensures.value c.as_ref-in-Cond.ensures.value c.in_ok-yes-in-Cond.ensures.outcome
    c.in_ok-no-in-Cond.ensures.outcome c.choice.ensures

pub returns-in_ok-no-in-Cond-clause-marks : goal.returns-in_ok-no-in-Cond-clause-marks
returns-in_ok-no-in-Cond-clause-marks t c =
    lemma.choice_marked_at c.args.overflow c.args.e.now (option_copied c.args.cells) c.choice.result c.args.marks.now c.walk-in-Cond-3.new.marks
    c.in-Cond.cond c.in-Cond.yes c.in-Cond.no c.get-in-Cond.result.now c.get-in-Cond-2.result.now c.get-in-Cond-3.result.now
    c.in_ok-cond-in-Cond.cond (option_copied c.as_ref.result) (option_copied c.as_ref-in-Cond.result)
    c.walk-in-Cond.new.marks c.walk-in-Cond-2.new.marks c.in-Cond.is c.get-in-Cond.ensures c.get-in-Cond-2.ensures
    c.get-in-Cond-3.ensures c.in_ok-cond-in-Cond.ensures.outcome c.as_ref.ensures.value c.as_ref-in-Cond.ensures.value
    c.in_ok-cond-in-Cond.ensures.marks c.in_ok-yes-in-Cond.ensures.marks c.in_ok-no-in-Cond.ensures.marks

pub returns-in_ok-of-in-Cast-clause-outcome : goal.returns-in_ok-of-in-Cast-clause-outcome
returns-in_ok-of-in-Cast-clause-outcome t c =
    lemma.cast_at c.args.overflow c.args.e.now (option_copied c.args.cells) c.args.wanted c.cast.result c.in-Cast.of c.get-in-Cast.result.now
    c.in_ok-of-in-Cast.of c.in-Cast.is c.get-in-Cast.ensures c.in_ok-of-in-Cast.ensures.outcome c.cast.ensures

pub returns-in-Call-clause-outcome : goal.returns-in-Call-clause-outcome
returns-in-Call-clause-outcome t c =
    lemma.call_at c.args.overflow c.args.e.now (option_copied c.args.cells) c.args.wanted c.nothing.result c.in-Call._function c.in-Call._args
    c.in-Call.is c.nothing.ensures

pub returns-in-Assign-clause-outcome : goal.returns-in-Assign-clause-outcome
returns-in-Assign-clause-outcome t c =
    lemma.assign_at c.args.overflow c.args.e.now (option_copied c.args.cells) c.args.wanted c.nothing-in-Assign.result c.in-Assign._to
    c.in-Assign._value c.in-Assign.is c.nothing-in-Assign.ensures
