use Rattle.std.proofs.Common.{List, ℕ, Ok, Err, subst}
use Rattle.kernel_serve.specs.inner.Steps.{IsScriptAnswer}
use Rattle.kernel_serve.proofs.Whole.{script_of_all}
use Rattle.kernel_serve.proofs.inputs.history_in.Goals as goal

pub returns-in-Ok-scripted-clause-told : goal.returns-in-Ok-scripted-clause-told
returns-in-Ok-scripted-clause-told g c =
    script_of_all _ _ _ _ (Ok c.in-Ok-scripted.history) c.in-Ok.ensures.bytes
    (rw c.as_slice.ensures.value at c.in-Ok-scripted.ensures)

pub returns-clause-told : goal.returns-clause-told
returns-clause-told g c =
    let answer = subst (λ (bs : List ℕ). IsScriptAnswer c.args.entered.now.program c.args.before bs
    (Err c.in-Err.status)) c.as_slice.ensures.value c.in-Err.ensures in
    script_of_all _ _ _ _ (Err c.in-Err.status) c.in-Ok.ensures.bytes answer
