use Rattle.std.proofs.Common.{◌≡◌, rules}
use Rattle.std.specs.Prelude.{slice_get, unwrap_or}
use Rattle.status_history.specs.Values.{params_set}
use Rattle.status_history.proofs.Versions.{stands_at}
use Rattle.status_rules.proofs.counting.Past.values_at.Goals as goal

pub returns : goal.returns
returns c =
    let s = c.args.self.now in
    let h = s.history.now in
    let read : c.item_or.result ≡ unwrap_or (slice_get s.versions.items c.args.version) s.now = search rules in
    rw (read, s.versions_are, s.now_is) (stands_at h.opening (params_set h.changes) c.args.version)
