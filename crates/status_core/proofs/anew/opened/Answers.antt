use Rattle.status_core.proofs.Keeping.{opened_kept}
use Rattle.status_core.proofs.anew.opened.Goals as goal

pub invariant_of-result : goal.invariant_of-result
invariant_of-result c =
    let f = c.in_ok-found.found in
    opened_kept c.args.program.now c.args.props.now c.args.opening c.new.result f.rows f.places.items c.in_ok-members.field-0.items c.in_ok-users.field-0.items f.past.versions.items f.past.now f.past.sets.items f.past.taken
    c.new.ensures c.requires.props c.requires.fit c.in_ok-members.ensures c.in_ok-users.ensures
    c.in_ok-found.ensures.rows c.in_ok-found.ensures.places c.in_ok-found.ensures.past
