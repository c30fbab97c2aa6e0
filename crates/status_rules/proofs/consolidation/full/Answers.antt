use Rattle.std.proofs.Common.{◌≡◌, ◌<◌, ◌++◌, ◌∷◌, [], length, map, ap, ◌∙◌, sym, arith}
use Rattle.status_rules.specs.Counting.{counted_of, last_of_each}
use Rattle.status_rules.specs.Holds.{at_each, basis_of, by_prop}
use Rattle.status_rules.specs.Verdicts.{full_of, verdict_of}
use Rattle.status_rules.specs.inner.ByProp.{entries_in, placed}
use Rattle.status_rules.specs.inner.Consolidated.{basis}
use Rattle.status_rules.proofs.Each.{each_done, each_more, length-at_each}
use Rattle.status_rules.proofs.Known.{basis_is, length-lists}
use Rattle.status_rules.proofs.consolidation.full.Goals as goal

pub new-requires : goal.new-requires
new-requires c =
    length-lists c.in_ok-entries.entries.items _ c.rows.result.now c.in_ok-entries.ensures ∙ ap length c.rows.ensures.value

pub loop-place-preserved : goal.loop-place-preserved
loop-place-preserved c =
    let found = c.in_ok-consolidation.consolidation in
    let t = c.args.props.now in
    let i = c.loop-place.place in
    let old = c.loop-place.verdicts in
    let within : i < length t.rows = omega arith in
    each_more (verdict_of (basis found.props.now found.values.now found.entries.now)) i t.rows old _ within (c.in_ok-push.ensures.ok ∙ ap (λ v. old ++ v ∷ []) c.verdict.ensures)
    ∙ c.loop-place.invariant

pub returns-clause-verdicts : goal.returns-clause-verdicts
unfolding full_of counted_of
returns-clause-verdicts c =
    let h = c.args.history.now in
    let t = c.args.props.now in
    let found = c.in_ok-consolidation.consolidation in
    let are = c.in_ok-consolidation.ensures in
    let entries = ap (λ xs. by_prop (last_of_each xs) c.rows.result.now) (ap (map placed) c.deref.ensures.value ∙ c.in_ok-current.ensures) in
    let made : entries_in c.in_ok-entries.entries ≡ by_prop (counted_of h) t.rows = c.in_ok-entries.ensures ∙ (entries ∙ ap (by_prop (counted_of h)) c.rows.ensures.value) in
    let same = basis_is h t found.values.now found.entries.now (are.values ∙ c.values-values.ensures) (ap entries_in are.entries ∙ made) in
    let basis_same = ap (λ r. basis r found.values.now found.entries.now) are.props ∙ same in
    each_done (verdict_of (basis found.props.now found.values.now found.entries.now)) c.loop-place.place t.rows c.loop-place.verdicts _ (omega arith) c.loop-place.invariant
    ∙ ap (λ b. at_each (verdict_of b) 0 t.rows) basis_same

pub returns-clause-length : goal.returns-clause-length
returns-clause-length c =
    let found = c.in_ok-consolidation.consolidation in
    let t = c.args.props.now in
    let f = verdict_of (basis found.props.now found.values.now found.entries.now) in
    ap length (each_done f c.loop-place.place t.rows c.loop-place.verdicts _ (omega arith) c.loop-place.invariant)
    ∙ length-at_each f 0 t.rows
