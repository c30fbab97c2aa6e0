-- What one pass over a predicate gives: its truth, and what is left of the cells either way.
use Rattle.std.specs.Prelude.{true, false, List, []}
use Rattle.fc_base.specs.declared.relation.Relation.{Relation}
use Rattle.fc_base.specs.declared.syntax.NoteOp.{NoteOp}
use Rattle.fc_base.specs.declared.syntax.NoteOp.TheVariants as O
use Rattle.int_value.specs.declared.value.Value.{Value}
use Rattle.abs_cells.specs.Cells.{Env, join_env}
use Rattle.abs_cells.specs.declared.narrowing.Side.{Side}
use Rattle.eva_terms.specs.Shown.{Shown, narrow_related, sight_of, unless_refuted}
use Rattle.eva_terms.specs.Truths.{and_truth, implies_truth, or_truth, related_truth, same_truth}
use Rattle.eva_terms.specs.declared.answer.Truth.{Truth}
use Rattle.eva_terms.specs.declared.answer.Truth.TheVariants.{Maybe}
use Rattle.eva_terms.specs.declared.passed.Passed.{Passed}

abbrev pub passed : Truth → Env → Env → Passed
passed truth e f = record { truth = truth; yes = e; no = f }

abbrev pub passed_by : Shown → List Value → Env → Passed
passed_by p now entry =
    passed (p.truth (sight_of now entry [])) (p.narrow true entry [] now) (p.narrow false entry [] now)

-- of these cells where the truth isn't the other one
abbrev pub guarded_by : Truth → Env → Env → Passed
guarded_by truth e f = passed truth (unless_refuted true truth e) (unless_refuted false truth f)

unfoldable pub related_passed : Relation → Side → Side → List Value → Passed
related_passed r a b now =
    guarded_by (related_truth r a.value b.value) (narrow_related true r a b now)
    (narrow_related false r a b now)

-- ---- connectives

abbrev pub connected : NoteOp → Truth → Truth → Truth
connected O.Iff a b = same_truth a b
connected O.Implies a b = implies_truth a b
connected O.Or a b = or_truth a b
connected O.And a b = and_truth a b
connected _ a b = Maybe

-- the cells in which the right operand is seen, and those that the left one alone decides
abbrev pub open_by : NoteOp → Passed → Env
open_by O.Or p = p.no
open_by _ p = p.yes

abbrev pub decided_by : NoteOp → Passed → Env
decided_by O.Or p = p.yes
decided_by _ p = p.no

-- by what the left operand decides and by what the right one leaves
abbrev pub connected_by : NoteOp → Truth → Env → Env → Env → Passed
connected_by O.And truth decided e f = guarded_by truth e (join_env decided f)
connected_by _ truth decided e f = guarded_by truth (join_env decided e) f
