use Rattle.std.proofs.Common.{◌≡◌, true, arith}
use Rattle.grammar_forms.specs.Forms.{one_of}
use Rattle.c_parse.specs.Classes.{same_class, class_at}
use Rattle.c_parse.specs.Table.{in_note}
use Rattle.c_parse.proofs.Notes.{note_goes_on, note_at_end}
use Rattle.c_parse.proofs.note.pass.Goals as goal

pub returns-in_default : goal.returns-in_default
returns-in_default c = note_at_end _ _ _ c.in_default.ensures.cases

pub returns-then-is_one_of : goal.returns-then-is_one_of
returns-then-is_one_of c =
    let h : one_of same_class in_note (class_at c.args.tokens.now) ≡ true = cc in
    (note_goes_on _ _ _ _ _ c.in-Some.ensures.cases.0 h, omega (arith, c.in-Some.ensures.cases.1))
