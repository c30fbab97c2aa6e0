use Rattle.std.proofs.Common.{rules}
use Rattle.acsl_bind.proofs.Answers.{kept_by}
use Rattle.acsl_bind.proofs.program.bind.Goals as goal

pub invariant_of-result : goal.invariant_of-result
invariant_of-result c =
    kept_by c.args.skeleton c.args.annots.now c.in_ok-source.source c.as_slice.result.now c.as_slice-3.result.now c.as_slice-4.result.now c.as_slice-5.result.now
    c.note_strays.new.first c.in_ok-fns.fns c.in_ok-fns.moves c.as_slice-6.result.now (record { points = c.new-walk.result.points; moved = c.new-walk.result.moved; first = c.note_strays.new.first }) c.functions.new.walk c.program.inside.cells c.as_slice-7.result.now c.in_ok-sites.sites
    (search rules) c.requires (search rules) (search rules) (search rules) (search rules) (search rules) (search rules) (search rules) (search rules) c.in_ok-fns.ensures (search rules) (search rules) (search rules) (search rules)
