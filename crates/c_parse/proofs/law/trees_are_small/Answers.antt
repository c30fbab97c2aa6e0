use Rattle.c_parse.proofs.Weights.{unit_weighs}
use Rattle.c_parse.proofs.law.trees_are_small.Goals as goal

pub returns : goal.returns
returns c = unit_weighs _ _ _ c.requires
