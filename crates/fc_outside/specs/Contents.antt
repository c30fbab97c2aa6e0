-- What files, a file that is being read and a sink hold, where an object tells it (this project's own).
use Rattle.std.specs.Prelude.{◌≡◌, ◌+◌, ◌<◌, ◌≤◌, ℕ, Bool, true, List, [], ◌∷◌, Option, take, bytes_eq, if◌then◌else◌}
use Rattle.std.specs.Option.{option_map}
use Rattle.std.specs.Io.KnownBytes.{prepend_known, append_known, IsAtEnd}
use Rattle.fc_outside.specs.declared.outside.Begun.{Begun}
use Rattle.fc_outside.specs.declared.outside.Begun.TheVariants as begun
use Rattle.fc_outside.specs.declared.outside.Got.{Got}
use Rattle.fc_outside.specs.declared.outside.Got.TheVariants as got
use Rattle.fc_outside.specs.declared.outside.Put.{Put}
use Rattle.fc_outside.specs.declared.outside.Put.TheVariants as put

-- the bytes of the file with this name: of a repeated name the first counts, and a missing file is empty
abbrev pub contents_of : List ℕ → List (List ℕ × List ℕ) → List ℕ
contents_of name [] = []
contents_of name (file ∷ files) = if bytes_eq file.0 name then file.1 else contents_of name files

-- the bytes of the file with this name, where the files are told
abbrev pub told_contents : List ℕ → Option (List (List ℕ × List ℕ)) → Option (List ℕ)
told_contents name files = option_map (contents_of name) files

-- whether a file is begun, after such an answer, if it was or wasn't before
abbrev pub begun_after : Bool → Begun → Bool
begun_after before begun.Ready = true
begun_after before begun.Failed = before

-- at Ready all bytes of the named file are left; else what was left before
abbrev pub Begins : Option (List ℕ) → Option (List ℕ) → Option (List ℕ) → Begun → Type 0
Begins contents old new begun.Ready = new ≡ contents
Begins contents old new begun.Failed = new ≡ old

-- a count of bytes is at least 1 and at most this number
abbrev pub GotAtMost : ℕ → Got → Type 0
GotAtMost most (got.Bytes n) = (1 ≤ n) × (n ≤ most)
GotAtMost most got.End = Unit {0}
GotAtMost most got.Failed = Unit {0}

-- what a read did to the bytes that are left: the first n went into the buffer; none were left; as before
abbrev pub Reads : Option (List ℕ) → Option (List ℕ) → List ℕ → Got → Type 0
Reads old new buffer (got.Bytes n) = old ≡ prepend_known (take n buffer) new
Reads old new buffer got.End = (new ≡ old) × IsAtEnd old
Reads old new buffer got.Failed = new ≡ old

-- a count of bytes is at least 1 and at most this number
abbrev pub PutAtMost : ℕ → Put → Type 0
PutAtMost most (put.Wrote n) = (1 ≤ n) × (n ≤ most)
PutAtMost most put.Failed = Unit {0}

-- what a write did to the bytes that are held: the first n of the piece were appended; as before
abbrev pub Writes : Option (List ℕ) → Option (List ℕ) → List ℕ → Put → Type 0
Writes old new piece (put.Wrote n) = new ≡ append_known old (take n piece)
Writes old new piece put.Failed = new ≡ old

-- a write fails only where the piece is longer than what the sink is sure to take, of which what it took goes
abbrev pub Spares : ℕ → ℕ → ℕ → Put → Type 0
Spares old new piece (put.Wrote n) = old ≤ new + n
Spares old new piece put.Failed = old < piece
