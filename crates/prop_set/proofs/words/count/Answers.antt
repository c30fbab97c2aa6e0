use Rattle.std.proofs.Common.{◌≡◌, ◌+◌, ◌*◌, length, ℕ, refl, sym, ap, ◌∙◌, arith}
use Rattle.std.specs.Int.Count.{ones}
use Rattle.std.proofs.Math.Facts.{Fits-lt-pow}
use Rattle.std.proofs.lemmas.Nat.{ones-le}
use Rattle.prop_set.specs.inner.Words.{word_at, has_bit, passing, members_of}
use Rattle.prop_set.proofs.Counts.{counted}
use Rattle.prop_set.proofs.words.count.Goals as goal

pub loop-word-init : goal.loop-word-init
unfolding passing
loop-word-init c = record { count = refl; bound = omega arith }

pub loop-word-preserved : goal.loop-word-preserved
loop-word-preserved c =
    let words = c.args.words.now in
    let at = c.loop-word.word-index in
    let fits = Fits-lt-pow (c.type_inv.words at) in
    let here = ones (word_at words at) in
    record {
      count = ap (λ (n : ℕ). n + here) c.loop-word.invariant.count ∙ sym (counted words at fits);
      bound = omega (arith, ones-le 64 (word_at words at) fits);
    }

pub returns : goal.returns
unfolding members_of
returns c =
    let words = c.args.words.now in
    let end : c.loop-word.word-index ≡ length words = omega arith in
    c.loop-word.invariant.count ∙ ap (λ (n : ℕ). length (passing (has_bit words) (64 * n) 0)) end
