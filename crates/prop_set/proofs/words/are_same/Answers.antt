use Rattle.std.proofs.Common.{◌<◌, ◌≤◌, refl, sym, ◌∙◌, arith, ⊎_elim}
use Rattle.std.proofs.Math.Facts.{Fits-lt-pow}
use Rattle.std.proofs.lemmas.Bool.{false≢true, cases_lt}
use Rattle.std.proofs.lemmas.List.{get_or_past}
use Rattle.prop_set.proofs.Bits.{words_by_members}
use Rattle.prop_set.proofs.Members.{same_by_words}
use Rattle.prop_set.proofs.words.are_same.Goals as goal

pub returns-then-word : goal.returns-then-word
returns-then-word c =
    let at = c.loop-at.at in
    let left = Fits-lt-pow (c.type_inv.left at) in
    let right = Fits-lt-pow (c.type_inv.right at) in (
      λ h. absurd (false≢true h),
      λ e.
          let same = words_by_members c.args.left.now c.args.right.now e at left right in
          absurd (c.if-word.true (c.word.ensures ∙ same ∙ sym c.word-in-loop-at.ensures)),
    )

pub returns : goal.returns
returns c =
    let at = c.loop-at.at in
    let left = c.args.left.now in
    let right = c.args.right.now in (
      λ h. same_by_words left right (λ i. ⊎_elim
          (λ (h : i < at). c.loop-at.invariant i h)
          (λ (h : at ≤ i). get_or_past left i 0 (omega arith) ∙ sym (get_or_past right i 0 (omega arith)))
          (cases_lt i at)),
      λ e. refl,
    )
