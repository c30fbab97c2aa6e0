use Rattle.std.proofs.Common.{take}
use Rattle.status_rows.specs.Index.{AreNoted, Grown}
use Rattle.status_rows.proofs.index.note_users.Given as goal

abbrev pub invariant-loop-hyp : goal.invariant-loop-hyp
invariant-loop-hyp l = Grown l.fn.users.items l.users.items × AreNoted l.fn.prop.0 (take l.hyp-index l.fn.hyps) l.fn.users.items l.users.items
