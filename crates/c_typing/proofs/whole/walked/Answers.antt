use Rattle.std.proofs.Common.{◌<◌, ◌^◌}
use Rattle.c_typing.specs.Texts.{room_of_items}
use Rattle.c_typing.proofs.Rooms.{text_room}
use Rattle.c_typing.proofs.whole.walked.Goals as goal

pub items-requires-clause-room : goal.items-requires-clause-room
items-requires-clause-room c =
    let fits : room_of_items c.as_slice.result.now < 2 ^ 32 = rw c.as_slice.ensures (text_room c.args.unit.now c.requires) in
    c.begin-file.ensures.room _ fits
