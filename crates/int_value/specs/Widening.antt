-- Widening by thresholds (after the Eva manual; the turns are this project's own).
use Rattle.std.specs.Prelude.{ℕ, ℤ, int_lt, int_le, nat_le, ◌||◌, if◌then◌else◌, List, fold, filter}
use Rattle.std.specs.Int.{int_min, int_max}
use Rattle.int_interval.specs.declared.shape.Shape.{Shape}
use Rattle.int_interval.specs.declared.interval.Interval.{Interval}
use Rattle.int_interval.specs.declared.interval.Interval.TheVariants.{Empty, Within, All}
use Rattle.int_interval.specs.Rows as intervals
use Rattle.int_value.specs.declared.value.Value.{Value}
use Rattle.int_value.specs.Rows.{answer_of, joined_congr}

-- the least threshold from hi on, among the list and the type's greatest number
abbrev pub next_above : ℤ → ℤ → List ℤ → ℤ
next_above hi top thresholds = fold int_min top (filter (λ t. int_le hi t) thresholds)

-- the greatest threshold down from lo
abbrev pub next_below : ℤ → ℤ → List ℤ → ℤ
next_below lo bottom thresholds = fold int_max bottom (filter (λ t. int_le t lo) thresholds)

-- where a bound that grew goes: in turns up to 8 to the next threshold, then to the type's end
unfoldable pub new_high : ℕ → List ℤ → Shape → ℤ → ℤ
new_high turn thresholds shape hi = if nat_le turn 8 then next_above hi shape.hi thresholds else shape.hi

unfoldable pub new_low : ℕ → List ℤ → Shape → ℤ → ℤ
new_low turn thresholds shape lo = if nat_le turn 8 then next_below lo shape.lo thresholds else shape.lo

abbrev pub grown_high : ℕ → List ℤ → Shape → ℤ → ℤ → ℤ
grown_high turn thresholds shape old hi = if int_lt old hi then new_high turn thresholds shape hi else old

abbrev pub grown_low : ℕ → List ℤ → Shape → ℤ → ℤ → ℤ
grown_low turn thresholds shape old lo = if int_lt lo old then new_low turn thresholds shape lo else old

-- where there was no number both bounds grew
abbrev pub widen_range : ℕ → List ℤ → Shape → Interval → Interval → Interval
widen_range turn thresholds shape Empty Empty = Empty
widen_range turn thresholds shape Empty (Within c d) = intervals.cut (new_low turn thresholds shape c) (new_high turn thresholds shape d)
widen_range turn thresholds shape Empty All = All
widen_range turn thresholds shape (Within a b) Empty = Within a b
widen_range turn thresholds shape (Within a b) (Within c d) = intervals.cut (grown_low turn thresholds shape a c) (grown_high turn thresholds shape b d)
widen_range turn thresholds shape (Within a b) All = All
widen_range turn thresholds shape All next = All

unfoldable pub widen_row : ℕ → List ℤ → Shape → Value → Value → Value
widen_row turn thresholds shape old next = answer_of (widen_range turn thresholds shape old.range next.range) (joined_congr old next) (old.unset || next.unset)
