use Rattle.std.proofs.Common.{◌≡◌, ◌++◌, drop, map}
use Rattle.acsl_bind.specs.Programs.{moved_site}
use Rattle.acsl_bind.specs.inner.Texts.{of_points}
use Rattle.acsl_bind.proofs.operators.moved_sites.Given as goal

abbrev pub invariant-loop-site : goal.invariant-loop-site
invariant-loop-site l =
    l.moved ++ map (moved_site (of_points l.fns l.points) l.moves) (drop l.site-index l.sites) ≡ map (moved_site (of_points l.fns l.points) l.moves) l.sites
