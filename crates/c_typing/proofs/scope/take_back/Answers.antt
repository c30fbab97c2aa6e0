use Rattle.std.proofs.Common.{◌∙◌, List, ap, sym}
use Rattle.std.specs.BTreeMap.{get_by_text}
use Rattle.c_typing.specs.declared.scope.Undo.{Undo}
use Rattle.c_typing.specs.Walking.{undone}
use Rattle.c_typing.proofs.Undoing.{undone_push}
use Rattle.c_typing.proofs.scope.take_back.Goals as goal

pub loop-last-preserved : goal.loop-last-preserved
loop-last-preserved c =
    ap (undone c.pop.new.self) c.in_ok-set.ensures.after ∙ sym (undone_push c.pop.new.self c.in-Some.last (get_by_text c.loop-last.names))
    ∙ ap (λ (log : List Undo). undone log (get_by_text c.loop-last.names)) (sym c.in-Some.ensures) ∙ c.loop-last.invariant
