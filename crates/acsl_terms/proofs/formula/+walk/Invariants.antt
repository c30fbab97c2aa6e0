use Rattle.std.proofs.Common.{◌≡◌, ◌+◌, ◌*◌, ◌≤◌, drop, map}
use Rattle.acsl_terms.specs.Breaches.{least, both}
use Rattle.acsl_terms.specs.Meaning.{part_of, linked, term_value, term_faults, relations, conjunction, links_faults}
use Rattle.acsl_terms.specs.inner.Nodes.{nodes, link_nodes, total}
use Rattle.acsl_terms.specs.inner.Sights.{context_of}
use Rattle.acsl_terms.specs.inner.Sums.{all_after}
use Rattle.acsl_terms.proofs.formula.+walk.Given as goal

abbrev pub invariant-chain-loop-link : goal.invariant-chain-loop-link
invariant-chain-loop-link l = record {
  value : all_after l.so_far (relations (context_of l.sight) l.left (map linked (drop l.link-index l.links)))
      ≡ conjunction (relations (context_of l.sight) (term_value (part_of l.from) (context_of l.sight)) (map linked l.links));
  first : least l.first (links_faults (context_of l.sight) (map linked (drop l.link-index l.links)))
      ≡ least l.fn.first (both (term_faults (part_of l.from) (context_of l.sight)) (links_faults (context_of l.sight) (map linked l.links)));
  nodes : total (map link_nodes (drop l.link-index l.links)) ≤ total (map link_nodes l.links);
}

abbrev pub decreases-value : goal.decreases-value
decreases-value l = 4 * nodes l.f.now

abbrev pub decreases-term : goal.decreases-term
decreases-term l = 4 * nodes l.f.now + 1

abbrev pub decreases-operand : goal.decreases-operand
decreases-operand l = 4 * nodes l.f.now + 2

abbrev pub decreases-old : goal.decreases-old
decreases-old l = 4 * nodes l.of.now + 2

abbrev pub decreases-index_value : goal.decreases-index_value
decreases-index_value l = 4 * nodes l.index.now + 2

abbrev pub decreases-chain : goal.decreases-chain
decreases-chain l = 4 * (nodes l.from.now + total (map link_nodes l.links.now)) + 2

abbrev pub decreases-forall : goal.decreases-forall
decreases-forall l = 4 * nodes l.body.now + 2
