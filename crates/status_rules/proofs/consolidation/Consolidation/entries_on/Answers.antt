use Rattle.std.proofs.Common.{map, ap, ◌∙◌, arith}
use Rattle.status_rules.specs.inner.ByProp.{placed}
use Rattle.status_rules.proofs.Known.{list_at}
use Rattle.status_rules.proofs.consolidation.Consolidation.entries_on.Goals as goal

pub returns : goal.returns
returns c =
    let s = c.args.self.now in
    ap (map placed) c.as_slice.ensures.value
    ∙ list_at s.entries.now.items c.args.prop.0 c.index.result.now (omega (arith, c.requires, s.rows)) c.index.ensures
