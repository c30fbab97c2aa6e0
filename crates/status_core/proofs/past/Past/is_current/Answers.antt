use Rattle.std.proofs.Common.{◌≡◌, ◌∙◌, rules}
use Rattle.std.specs.Prelude.{slice_get, unwrap_or}
use Rattle.status_core.proofs.Recalled.{current_by}
use Rattle.status_core.proofs.past.Past.is_current.Goals as goal

pub returns : goal.returns
returns c h place past =
    let s = c.args.self.now in
    let e = c.args.entry.now in
    let set : c.item_or-set.result ≡ unwrap_or (slice_get s.sets.items e.emitter.0) (record { 0 = 0 }) = search rules in
    let at : c.item_or-then.result ≡ unwrap_or (slice_get s.versions.items e.version) s.now = search rules in
    c.agree.ensures ∙ current_by h place e s.versions.items s.now s.sets.items s.taken c.item_or-set.result c.item_or-then.result past set at
