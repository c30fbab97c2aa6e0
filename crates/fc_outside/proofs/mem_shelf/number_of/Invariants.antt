use Rattle.std.proofs.Common.{◌≡◌, drop}
use Rattle.fc_outside.specs.Contents.{contents_of}
use Rattle.fc_outside.proofs.mem_shelf.number_of.Given as goal

abbrev pub invariant-loop-number : goal.invariant-loop-number
invariant-loop-number l = contents_of l.name (drop l.number l.files) ≡ contents_of l.name l.files
