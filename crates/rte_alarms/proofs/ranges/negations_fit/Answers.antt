use Rattle.c_rules.proofs.Evaluations.{is_type}
use Rattle.machine_ints.specs.declared.operators.UnaryOperator.TheVariants.{Negate}
use Rattle.rte_alarms.proofs.Tests.{unary_passes_is}
use Rattle.rte_alarms.proofs.ranges.negations_fit.Goals as goal

pub unary_always_passes-requires : goal.unary_always_passes-requires
unary_always_passes-requires c = record {
  is_type = rw (c.type_ends.ensures.value, c.width.ensures.value) (is_type c.args.ty);
  operand = c.requires;
}

pub returns : goal.returns
returns c =
    unary_passes_is Negate c.args.ty c.args.range.now _ c.requires
    (rw c.type_ends.ensures.value at c.unary_always_passes.ensures)
