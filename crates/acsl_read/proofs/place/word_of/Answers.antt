use Rattle.std.proofs.Common.{sym, ◌∙◌}
use Rattle.c_parse.proofs.Names.{named, unnamed}
use Rattle.acsl_read.proofs.place.word_of.Goals as goal

pub returns-in-Ok-clause-value : goal.returns-in-Ok-clause-value
returns-in-Ok-clause-value c =
    c.in-Ok.ensures.cases.0 ∙ sym (named c.args.text.now c.if-text-gt256.false c.in-Ok.ensures.cases.1)

pub returns-in-Err-clause-value : goal.returns-in-Err-clause-value
returns-in-Err-clause-value c = sym (unnamed c.args.text.now c.if-text-gt256.false c.in-Err.ensures.cases.0)
