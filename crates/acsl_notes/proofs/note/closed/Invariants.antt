use Rattle.std.proofs.Common.{◌≡◌, take, drop}
use Rattle.std.specs.Option.{option_map}
use Rattle.acsl_notes.specs.Notes.{closed}
use Rattle.acsl_notes.proofs.Closed.{after}
use Rattle.acsl_notes.proofs.note.closed.Given as goal

abbrev pub invariant-loop-token : goal.invariant-loop-token
invariant-loop-token l = record {
  count : l.count ≡ l.token-index;
  goes : closed l.tokens ≡ option_map (after (take l.token-index l.tokens)) (closed (drop l.token-index l.tokens));
}
