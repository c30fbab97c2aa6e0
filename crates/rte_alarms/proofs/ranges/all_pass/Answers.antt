use Rattle.c_rules.proofs.Evaluations.{is_type}
use Rattle.rte_alarms.proofs.Tests.{passes_is}
use Rattle.rte_alarms.proofs.ranges.all_pass.Goals as goal

pub always_passes-requires : goal.always_passes-requires
always_passes-requires c =
    record {
      is_type = rw (c.type_ends.ensures.value, c.width.ensures.value) (is_type c.args.on.now.ty);
      left = c.requires.left;
      right = c.requires.right;
    }

pub returns : goal.returns
returns c =
    let on = c.args.on.now in
    passes_is c.args.test c.args.operator on.ty on.left on.right _ c.requires.left c.requires.right
    (rw (c.type_ends.ensures.value, c.width.ensures.value) at c.always_passes.ensures)
