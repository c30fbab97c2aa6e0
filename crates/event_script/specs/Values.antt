-- Parts of a JSON value (RFC 8259).
use Rattle.std.specs.Prelude.{List, ℕ, ◌^◌, ℤ, Bool, false, ◌==◌, nat_lt, Option, Some, None, option_map, option_and_then, unwrap_or, if◌then◌else◌}
use Rattle.std.specs.Str.{is_utf8}
use Rattle.serde_json.specs.Data.{Data, Items}
use Rattle.serde_json.specs.Events.{members_len}
use Rattle.serde_json.specs.Find.{get, as_str, as_number, as_i64, as_u64, as_array, as_object}
use Rattle.serde_json.specs.Read.{read}

-- the value that bytes are, where they are UTF-8 and JSON
abbrev pub value_of : List ℕ → Option Data
value_of bytes = if is_utf8 bytes then read bytes else None

-- the text of a member
abbrev pub text_at : List ℕ → Data → Option (List ℕ)
text_at key d = option_and_then as_str (get key d)

-- the items of a member
abbrev pub items_at : List ℕ → Data → Option Items
items_at key d = option_and_then as_array (get key d)

-- the whole number of a member, from -2^63 to 2^63 - 1; `-0` is none
abbrev pub i64_at : List ℕ → Data → Option ℤ
i64_at key d = option_and_then as_i64 (option_and_then as_number (get key d))

-- a number that is below 2^32
abbrev pub below_u32 : ℕ → Option ℕ
below_u32 n = if nat_lt n (2 ^ 32) then Some n else None

-- the whole number that a value is, from 0 to 2^32 - 1; `-0` is none
abbrev pub u32_of : Data → Option ℕ
u32_of d = option_and_then below_u32 (option_and_then as_u64 (as_number d))

-- whether a value is an object of this many members
abbrev pub has_members : ℕ → Data → Bool
has_members count d = unwrap_or (option_map (λ ms. members_len ms == count) (as_object d)) false
