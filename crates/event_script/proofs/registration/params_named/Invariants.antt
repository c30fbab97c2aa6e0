use Rattle.std.proofs.Common.{◌≡◌, drop}
use Rattle.serde_json.specs.View.{items_view}
use Rattle.event_script.specs.Lines.{with_params}
use Rattle.event_script.specs.Names.{no_params}
use Rattle.event_script.proofs.registration.params_named.Given as goal

abbrev pub invariant-loop-name : goal.invariant-loop-name
invariant-loop-name l = with_params l.set (items_view (drop l.name-index l.names)) ≡ with_params no_params (items_view l.names)
