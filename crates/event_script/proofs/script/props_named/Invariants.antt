use Rattle.std.proofs.Common.{◌≡◌, ◌++◌, drop}
use Rattle.std.specs.Option.{option_map}
use Rattle.serde_json.specs.View.{items_view}
use Rattle.event_script.specs.Lines.{props_named}
use Rattle.event_script.proofs.script.props_named.Given as goal

abbrev pub invariant-loop-name : goal.invariant-loop-name
invariant-loop-name l = option_map (λ ps. l.numbers ++ ps) (props_named l.props.rows (items_view (drop l.name-index l.names))) ≡ props_named l.props.rows (items_view l.names)
