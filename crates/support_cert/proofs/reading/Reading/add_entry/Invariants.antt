use Rattle.std.proofs.Common.{◌≡◌, drop, []}
use Rattle.status_rules.specs.inner.Consolidated.{basis}
use Rattle.support_cert.specs.inner.Found.{with_all}
use Rattle.support_cert.proofs.reading.Reading.add_entry.Given as goal

abbrev pub invariant-loop-hyp : goal.invariant-loop-hyp
invariant-loop-hyp l =
    let b = basis l.self.props.now l.self.values l.self.entries in record {
      rest : with_all 4294967295 b l.steps (drop l.hyp-index l.hyp-items) ≡ with_all 4294967295 b [] l.hyp-items;
      items : l.hyp-items ≡ l.found.entry.now.hyps;
    }
