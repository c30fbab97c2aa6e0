use Rattle.std.proofs.Common.{◌<◌, ◌≤◌, ◌∙◌, sym, arith, ⊎_elim}
use Rattle.std.specs.Int.Bits.{or_zero_r}
use Rattle.std.proofs.lemmas.Bool.{cases_lt}
use Rattle.std.proofs.lemmas.List.{get_or_past}
use Rattle.prop_set.specs.inner.Words.{word_at}
use Rattle.prop_set.proofs.Bits.{joined}
use Rattle.prop_set.proofs.words.add_all.Goals as goal

pub returns-clause-members : goal.returns-clause-members
returns-clause-members c =
    let at = c.loop-at.at in
    let old = c.args.words.now in
    let more = c.args.more.now in
    joined old more c.loop-at.words (λ i. ⊎_elim
    (λ (h : i < at). c.loop-at.invariant.joined i h)
    (λ (h : at ≤ i). c.loop-at.invariant.rest i h
    ∙ sym (rw (get_or_past more i 0 (omega arith)) (or_zero_r (word_at old i))))
    (cases_lt i at))
