use Rattle.std.proofs.Common.{◌∙◌}
use Rattle.std.proofs.lemmas.Result.{on_ok_weaker}
use Rattle.prop_table.proofs.Numbering.{info_rows, info_room}
use Rattle.prop_table.specs.inner.Numbered.{spot_of}
use Rattle.prop_table.proofs.state.Rows.push_info.Goals as goal

pub push_calls-requires-clause-room : goal.push_calls-requires-clause-room
push_calls-requires-clause-room c =
    info_room c.args.self.now c.begin.new.self c.push.new.self c.push_clauses.new.self c.push_sites.new.self c.args.program.now c.args.at.now.point.0 c.args.info.now (spot_of c.args.at.now) c.args.at.now.line _
    c.as_slice.result.now c.at.result.now c.at-2.result.now c.requires.room c.begin.ensures.rows c.as_slice.ensures
    (c.at.ensures ∙ c.requires.index.sites c.args.at.now.point.0 c.requires.point) (c.at-2.ensures ∙ c.requires.index.calls c.args.at.now.point.0 c.requires.point)
    c.in_ok-push.ensures c.in_ok-push_clauses.ensures c.in_ok-push_sites.ensures

pub returns : goal.returns
returns c =
    on_ok_weaker _ (λ h. info_rows c.args.self.now c.begin.new.self c.push.new.self c.push_clauses.new.self c.push_sites.new.self c.push_calls.new.self c.args.program.now c.args.at.now.point.0 c.args.info.now (spot_of c.args.at.now) c.args.at.now.line
    c.as_slice.result.now c.at.result.now c.at-2.result.now c.begin.ensures.rows c.begin.ensures.counts c.requires.line c.as_slice.ensures
    (c.at.ensures ∙ c.requires.index.sites c.args.at.now.point.0 c.requires.point) (c.at-2.ensures ∙ c.requires.index.calls c.args.at.now.point.0 c.requires.point)
    c.in_ok-push.ensures c.in_ok-push_clauses.ensures c.in_ok-push_sites.ensures h) c.push_calls.ensures
