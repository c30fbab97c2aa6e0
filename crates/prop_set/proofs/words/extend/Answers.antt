use Rattle.std.proofs.Common.{[], ◌∷◌, length, ap, ◌∙◌, arith, length-append}
use Rattle.prop_set.specs.inner.Words.{members_of}
use Rattle.prop_set.proofs.Members.{padded}
use Rattle.prop_set.proofs.words.extend.Goals as goal

pub loop-at-preserved : goal.loop-at-preserved
loop-at-preserved c = record {
  members = ap members_of c.in_ok-push.ensures.ok ∙ padded c.loop-at.words ∙ c.loop-at.invariant.members;
  reached = ap length c.in_ok-push.ensures.ok ∙ length-append c.loop-at.words (0 ∷ []) ∙ omega arith;
  bound = omega arith;
}
