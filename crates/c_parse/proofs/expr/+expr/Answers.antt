use Rattle.std.proofs.Common.{◌≡◌, [], true, arith}
use Rattle.grammar_forms.specs.Forms.{One, one_of}
use Rattle.grammar_forms.specs.inner.Reading.{Read, token}
use Rattle.c_parse.specs.Classes.{same_class, class_at}
use Rattle.c_parse.specs.Grammar.{grammar}
use Rattle.c_parse.specs.Table.{ops}
use Rattle.c_parse.proofs.Loops.{more_step}
use Rattle.c_parse.proofs.expr.+expr.Goals as goal

pub join_at-returns : goal.join_at-returns
join_at-returns t c =
    let h : one_of same_class (ops c.args.level) (class_at c.args.tokens.now) ≡ true = cc in
    let k : token (grammar []) (ops c.args.level) c.args.tokens.now ≡ Read (One c.in_ok-op.op) c.in_ok-op.rest.now = cc (c.in_ok-op.ensures.value) in (
      more_step c.args.level c.args.bytes.now c.args.depth c.args.tokens.now c.in_ok-op.rest.now c.in_ok-right.end.now c.in_ok-op.op c.in_ok-right.right h k c.in_ok-right.ensures.value,
      omega (arith, c.in_ok-op.ensures.shorter, c.in_ok-right.ensures.shorter),
    )
