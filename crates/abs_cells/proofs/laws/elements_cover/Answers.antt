use Rattle.abs_cells.proofs.Keeping.{element_stands}
use Rattle.abs_cells.proofs.laws.elements_cover.Goals as goal

pub returns : goal.returns
returns c = element_stands
