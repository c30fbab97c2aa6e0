use Rattle.std.proofs.Common.{◌≡◌, ◌-◌, length, ap, ◌∙◌, arith}
use Rattle.event_board.proofs.Versions.{version_within}
use Rattle.status_history.specs.Values.{params_set, version_of}
use Rattle.status_rules.specs.Judge.{emitters_of}
use Rattle.status_core.specs.Held.{Held}
use Rattle.status_core.proofs.Answered.{few_sets, length_values, standing_is}
use Rattle.status_core.proofs.table.Table.standing.Goals as goal

pub returns-clause-value : goal.returns-clause-value
returns-clause-value c =
    let s = c.self.inside in
    let h = s.history in
    let g = c.args.self.now.history in
    let n : c.len.result ≡ length g.changes = c.len.ensures ∙ ap (λ (b : Held). length b.history.changes) c.self.view_is in
    let len = ap length c.self.invariant.past.versions_are in
    let more = length_values h.opening (params_set h.changes) in
    let v : c.len-2.result - 1 ≡ version_of g = omega (arith, c.len-2.ensures, s.past.versions.ok.0, len, more, ap (λ (b : Held). version_of b.history) c.self.view_is) in
    let m : c.len-3.result ≡ emitters_of g = omega (arith, c.len-3.ensures, s.past.sets.ok.0, ap length c.self.invariant.past.sets_are, ap (λ (b : Held). emitters_of b.history) c.self.view_is) in
    standing_is g c.len.result (c.len-2.result - 1) c.len-3.result c.args.is_taken n v m

pub returns-clause-within : goal.returns-clause-within
returns-clause-within c =
    let s = c.self.inside in
    let h = s.history in
    let len = ap length c.self.invariant.past.versions_are in
    let more = length_values h.opening (params_set h.changes) in
    omega (arith, c.len.ensures, c.len-2.ensures, s.past.versions.ok.0, len, more, version_within h)

pub returns-clause-known : goal.returns-clause-known
returns-clause-known c =
    let s = c.self.inside in
    omega (arith, c.len.ensures, c.len-3.ensures, s.past.sets.ok.0, ap length c.self.invariant.past.sets_are, few_sets s.history)
