use Rattle.int_value.proofs.Reduction.{reduced_flag}
use Rattle.int_value.proofs.value.reduced_parts.Goals as goal

pub returns : goal.returns
returns c = reduced_flag _ c.args.range _ c.args.congr c.args.unset c.reduced_pair-range.ensures
