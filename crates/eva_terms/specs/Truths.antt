-- What is said of a predicate: it holds, it doesn't, or neither is known (Kleene's three-valued tables;
-- ACSL manual, 2.2 for the connectives and quantifiers; this project's own for terms that may be
-- undefined).
use Rattle.std.specs.Prelude.{ℤ, pos, ◌-ℤ◌, int_lt, Bool, false, not, ◌&&◌, ◌||◌, if◌then◌else◌}
use Rattle.fc_base.specs.declared.relation.Relation.{Relation}
use Rattle.int_interval.specs.Rows.{by_ends, is_empty}
use Rattle.int_interval.specs.declared.interval.Interval.{Interval}
use Rattle.int_interval.specs.declared.interval.Interval.TheVariants.{Empty, Within, All}
use Rattle.int_interval.specs.declared.said.Said.{Said}
use Rattle.int_interval.specs.declared.said.Said.TheVariants as S
use Rattle.int_value.specs.Rows.{all_of, meet_row}
use Rattle.int_value.specs.declared.value.Value.{Value}
use Rattle.c_runs.specs.Truth.{from_low, to_high}
use Rattle.abs_cells.specs.Relations.{relation_said}
use Rattle.eva_terms.specs.declared.answer.Truth.{Truth}
use Rattle.eva_terms.specs.declared.answer.Truth.TheVariants.{Yes, No, Maybe}

-- ---- connectives

abbrev pub not_truth : Truth → Truth
not_truth Yes = No
not_truth No = Yes
not_truth Maybe = Maybe

abbrev pub and_truth : Truth → Truth → Truth
and_truth Yes b = b
and_truth No b = No
and_truth Maybe Yes = Maybe
and_truth Maybe No = No
and_truth Maybe Maybe = Maybe

abbrev pub or_truth : Truth → Truth → Truth
or_truth Yes b = Yes
or_truth No b = b
or_truth Maybe Yes = Yes
or_truth Maybe No = Maybe
or_truth Maybe Maybe = Maybe

abbrev pub implies_truth : Truth → Truth → Truth
implies_truth a b = or_truth (not_truth a) b

abbrev pub same_truth : Truth → Truth → Truth
same_truth Yes b = b
same_truth No b = not_truth b
same_truth Maybe b = Maybe

-- ---- relations

-- a relation of a term without a number doesn't hold
abbrev pub truth_of : Said → Truth
truth_of S.Yes = Yes
truth_of S.No = No
truth_of S.Maybe = Maybe
truth_of S.Unreached = No

-- nor does one of a term that turns out undefined
abbrev pub unless_unset : Bool → Truth → Truth
unless_unset unset Yes = if unset then Maybe else Yes
unless_unset unset No = No
unless_unset unset Maybe = Maybe

unfoldable pub related_truth : Relation → Value → Value → Truth
related_truth r a b = unless_unset (a.unset || b.unset) (truth_of (relation_said r a b))

-- ---- quantifiers

abbrev pub last_of : Bool → ℤ → ℤ
last_of strict hi = if strict then hi -ℤ pos 1 else hi

-- what the bound name may have: the numbers from the least one of the lower bound on (which a strict bound
-- doesn't leave out) up to the last one that the upper bound leaves
unfoldable pub range_value : Value → Value → Bool → Value
range_value low high strict =
    meet_row (all_of false) (by_ends (λ a b c d. Within a (last_of strict d)) low.range high.range)

-- whatever numbers the bounds have, there is a number between them
abbrev pub has_some : Interval → Bool → Interval → Bool → Bool
has_some Empty low_strict high high_strict = false
has_some (Within a b) low_strict Empty high_strict = false
has_some (Within a b) low_strict (Within c d) high_strict =
    int_lt (from_low low_strict b) (to_high high_strict c)
has_some (Within a b) low_strict All high_strict = false
has_some All low_strict high high_strict = false

abbrev pub is_never_empty : Value → Bool → Value → Bool → Bool
is_never_empty low low_strict high high_strict =
    not (low.unset || high.unset) && has_some low.range low_strict high.range high_strict

abbrev pub by_body : Bool → Truth → Truth
by_body never_empty Yes = Yes
by_body never_empty No = if never_empty then No else Maybe
by_body never_empty Maybe = Maybe

-- by the truth of the body, in which the bound name has `range_value`
unfoldable pub forall_truth : Value → Bool → Value → Bool → (Value → Truth) → Truth
forall_truth low low_strict high high_strict body =
    if is_empty (range_value low high high_strict).range then Yes
    else by_body (is_never_empty low low_strict high high_strict) (body (range_value low high high_strict))
