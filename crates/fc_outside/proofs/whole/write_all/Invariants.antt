use Rattle.std.proofs.Common.{◌≡◌, ◌+◌, ◌-◌, ◌≤◌, length, take}
use Rattle.std.specs.Io.KnownBytes.{append_known}
use Rattle.fc_outside.proofs.whole.write_all.Given as goal

abbrev pub invariant-writing : goal.invariant-writing
invariant-writing g l =
    let sink = g.S.Sink in
    record {
      in_range : l.written ≤ length l.bytes;
      held : sink.held l.sink ≡ append_known (sink.held l.fn.sink) (take l.written l.bytes);
      spare : sink.spare l.fn.sink ≤ sink.spare l.sink + l.written;
      later : sink.faults l.fn.sink ≤ sink.faults l.sink;
    }

abbrev pub decreases-writing : goal.decreases-writing
decreases-writing g l = length l.bytes - l.written
