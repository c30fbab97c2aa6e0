-- The parts of what gives a `\forall` its bounds: the code's side.
use Rattle.c_ast.specs.declared.annot.Formula.{Formula}
use Rattle.acsl_terms.specs.declared.look.Range.{Range}
use Rattle.acsl_terms.specs.Meaning.{Between, Guarded, part_of}

abbrev pub between : Range → Between
between r = record {
  low = part_of r.low.now;
  left = r.left;
  middle = part_of r.middle.now;
  right = r.right;
  high = part_of r.high.now;
}

abbrev pub guarded : Range → Formula → Guarded
guarded r body = record { between = between r; body = part_of body }
