use Rattle.std.proofs.Common.{◌<◌, ◌≤◌, refl, sym, arith, ⊎_elim}
use Rattle.std.proofs.Math.Facts.{Fits-lt-pow}
use Rattle.std.proofs.lemmas.Bool.{false_from_ne_true, cases_lt}
use Rattle.std.proofs.lemmas.List.{get_or_past}
use Rattle.prop_set.proofs.Bits.{within_by_words, words_by_within}
use Rattle.prop_set.proofs.words.are_within.Goals as goal

pub returns-then-left-at : goal.returns-then-left-at
returns-then-left-at c =
    let at = c.loop-at.at in
    let left = Fits-lt-pow (c.type_inv.left at) in
    let right = Fits-lt-pow (c.type_inv.right at) in
    sym (false_from_ne_true _ (λ e. c.if-left-at.true
    (rw c.word-beyond.ensures (words_by_within c.args.left.now c.args.right.now e at left right))))

pub returns : goal.returns
returns c =
    let at = c.loop-at.at in
    let left = c.args.left.now in
    sym (within_by_words left c.args.right.now (λ i. ⊎_elim
    (λ (h : i < at). c.loop-at.invariant i h)
    (λ (h : at ≤ i). rw (get_or_past left i 0 (omega arith)) refl)
    (cases_lt i at)))
