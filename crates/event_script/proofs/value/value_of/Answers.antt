use Rattle.std.proofs.lemmas.Bool.{false≢true}
use Rattle.serde_json.specs.View.{view}
use Rattle.event_script.proofs.Texts.{value_of-some, value_of-none}
use Rattle.event_script.proofs.value.value_of.Goals as goal

pub returns-in-Ok : goal.returns-in-Ok
returns-in-Ok c =
    let read = c.in-Ok.ensures.ok in
    value_of-some c.args.text.now (view c.in-Ok.value) read.0 read.1

pub returns-else-is_memory : goal.returns-else-is_memory
returns-else-is_memory c =
    value_of-none c.args.text.now (c.in-Err.ensures.err (λ m. false≢true (c.if-is_memory.ensures.1 m)))
