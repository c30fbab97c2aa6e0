use Rattle.std.proofs.Common.{◌≡◌, ◌≤◌, ℕ, drop, length}
use Rattle.std.specs.List.{position_from}
use Rattle.std.specs.BTreeMap.{get}
use Rattle.std.specs.Ordering.{nat_cmp}
use Rattle.acsl_bind.specs.Programs.{is_contract_of, noted_all}
use Rattle.acsl_bind.proofs.contracts.first_contracts.Given as goal

abbrev pub invariant-loop-left : goal.invariant-loop-left
invariant-loop-left l = record {
  in_spots : l.left ≤ length l.spots;
  in_annots : l.left ≤ length l.annots;
  firsts : (f : ℕ) → get nat_cmp l.numbers f ≡ position_from (is_contract_of f) l.left (noted_all (drop l.left l.spots) (drop l.left l.annots));
}

abbrev pub decreases-loop-left : goal.decreases-loop-left
decreases-loop-left l = l.left
