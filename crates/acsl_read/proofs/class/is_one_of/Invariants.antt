use Rattle.std.proofs.Common.{◌≡◌, drop}
use Rattle.grammar_forms.specs.Forms.{one_of}
use Rattle.acsl_read.specs.Classes.{same_class}
use Rattle.acsl_read.proofs.class.is_one_of.Given as goal

abbrev pub invariant-loop-own : goal.invariant-loop-own
invariant-loop-own l = one_of same_class (drop l.own-index l.classes) l.class ≡ one_of same_class l.classes l.class
