use Rattle.std.proofs.Common.{sym, ◌∙◌, ap}
use Rattle.acsl_read.specs.declared.class.Class.TheVariants as C
use Rattle.acsl_read.specs.Classes.{same_class}
use Rattle.acsl_read.proofs.Words.{ends_last, ends_never}
use Rattle.acsl_read.proofs.text.ends_with_forall.Goals as goal

pub returns-in-Some : goal.returns-in-Some
returns-in-Some c =
    c.same_class.ensures ∙ ap (λ k. same_class k C.Forall) c.class_of.ensures
    ∙ sym (rw (c.in-Some.ensures.cases.0) (ends_last c.args.bytes.now c.in-Some.field-0-1.now c.in-Some.last.now))

pub returns-in-None : goal.returns-in-None
returns-in-None c = sym (ends_never _ _ c.in-None.ensures.cases)
