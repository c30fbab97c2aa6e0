use Rattle.std.proofs.Common.{◌∙◌, sym}
use Rattle.c_types.proofs.Programs.{text_keeps, notes_fit}
use Rattle.c_types.proofs.program.check.Goals as goal

-- src/program.rt
pub finish-requires-clause-keeps : goal.finish-requires-clause-keeps
finish-requires-clause-keeps c =
    text_keeps c.args.unit.now _ c.in_ok-file.ensures.declared (sym c.in_ok-file.ensures.first ∙ sym c.take.ensures.value ∙ c.in-None.is)

-- src/program.rt
pub returns-in-None-clause-notes : goal.returns-in-None-clause-notes
returns-in-None-clause-notes c =
    notes_fit c.args.unit.now _ c.finish.result c.in_ok-file.ensures.declared c.finish.ensures
