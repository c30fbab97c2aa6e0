use Rattle.std.proofs.Common.{sym, ap, ◌∙◌, ◌+◌, ℕ}
use Rattle.std.proofs.lemmas.List.{drop_all}
use Rattle.acsl_notes.proofs.Closed.{goes_on, ends_at, no_end}
use Rattle.acsl_notes.proofs.note.closed.Goals as goal

pub returns-then-closes : goal.returns-then-closes
returns-then-closes c =
    rw (c.split_at.ensures.front, c.loop-token.invariant.count)
    (sym (ends_at _ _ _ c.loop-token-test.true (sym c.closes.ensures ∙ c.if-closes.true) c.loop-token.invariant.goes))

pub loop-token-preserved : goal.loop-token-preserved
loop-token-preserved c = record {
  count = ap (λ (n : ℕ). n + 1) c.loop-token.invariant.count;
  goes = goes_on _ _ _ c.loop-token-test.true (sym c.closes.ensures ∙ c.if-closes.false) c.loop-token.invariant.goes;
}

pub returns : goal.returns
returns c = sym (no_end c.args.tokens.now c.loop-token.token-index (drop_all _ _ c.loop-token-test.false) c.loop-token.invariant.goes)
