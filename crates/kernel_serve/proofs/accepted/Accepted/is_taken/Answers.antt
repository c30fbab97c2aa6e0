use Rattle.std.proofs.Common.{◌≡◌, false, is_some, ap, sym, ◌∙◌}
use Rattle.param_book.specs.Emitters.{own_named}
use Rattle.status_history.specs.declared.history.History.{History}
use Rattle.status_rules.specs.Judge.{is_taken}
use Rattle.kernel_serve.proofs.Emitters.{taken_else}
use Rattle.kernel_serve.proofs.accepted.Accepted.is_taken.Goals as goal

pub returns-else-is_some : goal.returns-else-is_some
returns-else-is_some c =
    let name = c.args.name.now in
    let none : is_some (own_named name) ≡ false = sym (ap is_some c.own_named.ensures) ∙ (sym c.is_some.ensures ∙ c.if-is_some.false) in
    let told = taken_else c.self.inside.history c.self.inside.script name c.self.invariant.names none in
    c.is_some-else-is_some.ensures ∙ (ap is_some c.number_told.ensures ∙ (told
    ∙ ap (λ (h : History). is_taken h name) c.self.view_is))
