use Rattle.prop_set.proofs.Bits.{added}
use Rattle.prop_set.proofs.words.add.Goals as goal

pub returns-clause-members : goal.returns-clause-members
returns-clause-members c =
    let here = added c.args.words.now c.args.number c.requires in
    rw (c.set.ensures, c.word-word.ensures, c.as_slice.ensures) here
