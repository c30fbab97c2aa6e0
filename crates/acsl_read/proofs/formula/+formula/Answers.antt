use Rattle.std.proofs.Common.{◌≡◌, ◌∷◌, [], Some, true, arith}
use Rattle.grammar_forms.specs.Forms.{One, one_of}
use Rattle.grammar_forms.specs.inner.Reading.{Read, token}
use Rattle.acsl_read.specs.Classes.{same_class, class_at}
use Rattle.acsl_read.specs.Grammar.{grammar}
use Rattle.acsl_read.specs.Table.{ops, prefixes}
use Rattle.acsl_read.specs.inner.Outcome.{turn}
use Rattle.acsl_read.proofs.Chains.{link_step, link_stops}
use Rattle.acsl_read.proofs.Loops.{more_step, factor_step}
use Rattle.acsl_read.proofs.formula.+formula.Goals as goal

pub join_at-returns : goal.join_at-returns
join_at-returns t c =
    let h : one_of same_class (ops c.args.level) (class_at c.args.bytes.now c.args.tokens.now) ≡ true = cc in
    let k : token (grammar c.args.bytes.now) (ops c.args.level) c.args.tokens.now ≡ Read (One c.in_ok-op.op) c.in_ok-op.rest.now = cc (c.in_ok-op.ensures.value) in (
      more_step c.args.level c.args.bytes.now c.args.depth c.args.tokens.now c.in_ok-op.rest.now c.in_ok-right.end.now c.in_ok-op.op c.in_ok-right.right h k c.in_ok-right.ensures.value,
      omega (arith, c.in_ok-op.ensures.shorter, c.in_ok-right.ensures.shorter),
    )

pub factor_at-returns-then-is_one_of-clause-value : goal.factor_at-returns-then-is_one_of-clause-value
factor_at-returns-then-is_one_of-clause-value t c =
    let h : one_of same_class (prefixes c.args.side) (class_at c.args.bytes.now c.args.tokens.now) ≡ true = cc in
    let k : token (grammar c.args.bytes.now) (prefixes c.args.side) c.args.tokens.now ≡ Read (One c.in_ok-op.op) c.in_ok-op.rest.now = cc (c.in_ok-op.ensures.value) in
    rw (c.in_ok-prefix_part.ensures)
    (factor_step c.args.side c.args.bytes.now c.args.depth c.in_ok-inner.inner c.args.tokens.now c.in_ok-op.rest.now c.in_ok-of.end.now c.in_ok-op.op c.in_ok-of.of
    h k c.in_ok-inner.ensures.0 c.in_ok-inner.ensures.1 c.in_ok-of.ensures.value)

pub link_at-returns-in-Ok : goal.link_at-returns-in-Ok
link_at-returns-in-Ok t c =
    let q : turn c.args.direction (class_at c.args.bytes.now c.args.tokens.now) ≡ Some c.in-Some.next = cc in
    let k : token (grammar c.args.bytes.now) (class_at c.args.bytes.now c.args.tokens.now ∷ []) c.args.tokens.now ≡ Read (One c.in_ok-op.op) c.in_ok-op.rest.now = cc (c.in_ok-op.ensures.value) in (
      link_step c.args.direction c.in-Some.next c.args.bytes.now c.args.depth c.args.tokens.now c.in_ok-op.rest.now _ c.in_ok-op.op _ q k c.in-Ok.ensures.value,
      omega (arith, c.in_ok-op.ensures.shorter, c.in-Ok.ensures.shorter),
    )

pub link_at-returns-in-Err : goal.link_at-returns-in-Err
link_at-returns-in-Err t c =
    let q : turn c.args.direction (class_at c.args.bytes.now c.args.tokens.now) ≡ Some c.in-Some.next = cc in
    let k : token (grammar c.args.bytes.now) (class_at c.args.bytes.now c.args.tokens.now ∷ []) c.args.tokens.now ≡ Read (One c.in_ok-op.op) c.in_ok-op.rest.now = cc (c.in_ok-op.ensures.value) in
    link_stops c.args.direction c.in-Some.next c.args.bytes.now c.args.depth c.args.tokens.now c.in_ok-op.rest.now c.in_ok-op.op c.in-Err.fault q k c.in-Err.ensures.value
