-- Files and a sink in memory, as contracts see them, and what their calls answer and leave.
use Rattle.std.specs.Prelude.{◌+◌, ◌-◌, ℕ, zero, suc, Bool, true, false, List, [], ◌++◌, Option, Some, length, take, drop, min, unwrap_or, nat_eq, not, ◌&&◌, if◌then◌else◌}
use Rattle.fc_outside.specs.declared.outside.Begun.{Begun}
use Rattle.fc_outside.specs.declared.outside.Begun.TheVariants as begun
use Rattle.fc_outside.specs.declared.outside.Got.{Got}
use Rattle.fc_outside.specs.declared.outside.Got.TheVariants as got
use Rattle.fc_outside.specs.declared.outside.Put.{Put}
use Rattle.fc_outside.specs.declared.outside.Put.TheVariants as put
use Rattle.fc_outside.specs.Calls.{fails_next, counted, failed_calls, is_nothing}
use Rattle.fc_outside.specs.Contents.{contents_of}
use Rattle.fc_outside.specs.Requests.{Requests}

-- files in memory: the names with their bytes; what the begun file still gives, or none if there is none; the
-- greatest number of bytes of one read; the numbers of the calls that fail; how many calls were made; what was
-- asked for, which is no longer told once there was no memory to keep a name
pub record Shelved : Type 0 where
  pub files : List (List ℕ × List ℕ)
  pub left : Option (List ℕ)
  pub most : ℕ
  pub fails : List ℕ
  pub calls : ℕ
  pub asked : Option Requests

-- what a beginning answers and leaves
abbrev pub begin_answer : Shelved → Begun
begin_answer s = if fails_next s.fails s.calls then begun.Failed else begun.Ready

abbrev pub after_begin : Shelved → List ℕ → Option Requests → Shelved
after_begin s name asked = record s {
  left = if fails_next s.fails s.calls then s.left else Some (contents_of name s.files);
  calls = counted s.calls;
  asked = asked;
}

-- the bytes that the begun file still gives; none where there is no such file
abbrev pub bytes_left : Shelved → List ℕ
bytes_left s = unwrap_or s.left []

-- how many bytes a read into so much room gives, where it doesn't fail
abbrev pub read_count : Shelved → ℕ → ℕ
read_count s room = min (min (length (bytes_left s)) s.most) room

-- what a read answers, by whether it fails and by how many bytes it gives
abbrev pub got_of : Bool → ℕ → Got
got_of true n = got.Failed
got_of false zero = got.End
got_of false (suc n) = got.Bytes (suc n)

-- what a read answers and leaves
abbrev pub read_answer : Shelved → ℕ → Got
read_answer s room = got_of (fails_next s.fails s.calls) (read_count s room)

abbrev pub after_read : Shelved → ℕ → Option Requests → Shelved
after_read s room asked = record s {
  left = if fails_next s.fails s.calls then s.left else Some (drop (read_count s room) (bytes_left s));
  calls = counted s.calls;
  asked = asked;
}

-- a sink in memory: the bytes it holds; how many it can hold; the greatest number of bytes of one write; the
-- numbers of the calls that fail; how many calls were made; how many of them found no room
pub record Held : Type 0 where
  pub held : List ℕ
  pub room : ℕ
  pub most : ℕ
  pub fails : List ℕ
  pub calls : ℕ
  pub refused : ℕ

-- how often a write failed
abbrev pub sink_faults : Held → ℕ
sink_faults s = failed_calls s.fails s.calls + s.refused

-- what it is sure to take: what it has room for, if no call is to fail
abbrev pub sink_spare : Held → ℕ
sink_spare s = if is_nothing s.fails then s.room - length s.held else 0

-- how many bytes of a piece a write takes, where it doesn't fail
abbrev pub write_count : Held → List ℕ → ℕ
write_count s piece = min (min (length piece) s.most) (s.room - length s.held)

-- what a write answers, by whether it is to fail and by how many bytes it takes
abbrev pub put_of : Bool → ℕ → Put
put_of true n = put.Failed
put_of false zero = put.Failed
put_of false (suc n) = put.Wrote (suc n)

-- what a write answers and leaves
abbrev pub write_answer : Held → List ℕ → Put
write_answer s piece = put_of (fails_next s.fails s.calls) (write_count s piece)

abbrev pub after_write : Held → List ℕ → Held
after_write s piece = record s {
  held = if fails_next s.fails s.calls then s.held else s.held ++ take (write_count s piece) piece;
  calls = counted s.calls;
  refused = if not (fails_next s.fails s.calls) && nat_eq (write_count s piece) 0 then counted s.refused else s.refused;
}
