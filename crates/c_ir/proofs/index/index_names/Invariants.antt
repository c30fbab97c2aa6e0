use Rattle.std.proofs.Common.{◌≡◌, ◌≤◌, ℕ, List, drop, length}
use Rattle.std.specs.List.{position_from}
use Rattle.std.specs.BTreeMap.{get_by_text}
use Rattle.c_ir.specs.Table.{has_name}
use Rattle.c_ir.proofs.index.index_names.Given as goal

abbrev pub invariant-loop-left : goal.invariant-loop-left
invariant-loop-left l = record {
  within : l.left ≤ length l.rows;
  firsts : (name : List ℕ) → get_by_text l.names name ≡ position_from (has_name name) l.left (drop l.left l.rows);
}

abbrev pub decreases-loop-left : goal.decreases-loop-left
decreases-loop-left l = l.left
