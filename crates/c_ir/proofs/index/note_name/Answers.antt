use Rattle.std.proofs.lemmas.Map.Text.{btree_map_updates_text}
use Rattle.std.specs.Prelude.{Some, string_bytes}
use Rattle.c_ir.proofs.index.note_name.Goals as goal

pub returns : goal.returns
returns c = λ asked.
    rw c.in_ok-from_str.ensures.ok at (btree_map_updates_text (string_bytes c.in_ok-from_str.field-0) c.args.names.now c.insert.new.self (Some c.args.number) c.in_ok-insert.ensures.updates asked)
