use Rattle.std.proofs.Common.{◌≡◌, ◌+◌, ◌-◌, ◌≤◌, true, length}
use Rattle.std.specs.Io.KnownBytes.{prepend_known}
use Rattle.fc_outside.specs.Contents.{told_contents}
use Rattle.fc_outside.specs.Requests.{AskedOnce}
use Rattle.fc_outside.proofs.whole.read_all.Given as goal

abbrev pub invariant-reading : goal.invariant-reading
invariant-reading g l =
    let shelf = g.F.Shelf in
    record {
      in_range : length l.bytes.items ≤ l.limit + 1;
      room : length l.buffer ≡ 4096;
      read : told_contents l.name (shelf.files l.fn.shelf) ≡ prepend_known l.bytes.items (shelf.left l.shelf);
      asked : AskedOnce l.name (length l.bytes.items) (shelf.asked l.fn.shelf) (shelf.asked l.shelf);
      is_begun : shelf.is_begun l.shelf ≡ true;
      files : shelf.files l.shelf ≡ shelf.files l.fn.shelf;
      never_fails : shelf.never_fails l.shelf ≡ shelf.never_fails l.fn.shelf;
      later : shelf.faults l.fn.shelf ≤ shelf.faults l.shelf;
    }

abbrev pub decreases-reading : goal.decreases-reading
decreases-reading g l = l.limit + 1 - length l.bytes.items
