use Rattle.std.proofs.Common.{◌≡◌, drop, map}
use Rattle.acsl_terms.specs.Meaning.{links_have, linked}
use Rattle.acsl_terms.proofs.look.+has.Given as goal

abbrev pub invariant-links_have-loop-link : goal.invariant-links_have-loop-link
invariant-links_have-loop-link l =
    links_have (map linked (drop l.link-index l.links)) l.name ≡ links_have (map linked l.links) l.name
