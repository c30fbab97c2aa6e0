use Rattle.std.proofs.Common.{map, string_bytes, ap, ◌∙◌}
use Rattle.event_script.specs.Names.{with_told}
use Rattle.event_script.proofs.Told.{with_told_texts}
use Rattle.event_script.proofs.script.Script.told.Goals as goal

pub returns-clause-ok : goal.returns-clause-ok
returns-clause-ok c =
    let noted = with_told_texts c.in_ok-from_str.field-0 c.args.id c.self.inside.told.entries in
    ap (map (λ p. (string_bytes p.0, p.1))) c.in_ok-insert.ensures.entries
    ∙ (noted ∙ (ap (λ name. with_told name c.args.id (map (λ p. (string_bytes p.0, p.1)) c.self.inside.told.entries)) c.in_ok-from_str.ensures.ok
    ∙ ap (with_told c.args.name.now c.args.id) c.self.view_is))
