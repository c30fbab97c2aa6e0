use Rattle.std.proofs.Common.{◌≡◌, true, List, ◌+◌, ◌*◌, ◌≤◌, [], Some, length, map, drop}
use Rattle.std.specs.BTreeMap.{get_by_text}
use Rattle.c_ir.specs.Formed.{Layout}
use Rattle.c_ir.specs.Sited.{Extends, all_at_sites}
use Rattle.c_ir.specs.declared.tree.SiteInfo.{SiteInfo}
use Rattle.c_ir.specs.Numbers.{count, all, sites}
use Rattle.c_rules.specs.Breaches.{least}
use Rattle.c_rules.specs.Fits.{EnvFits, are_args}
use Rattle.c_typing.specs.Meaning.{meaning, args_from, args_faults}
use Rattle.c_typing.specs.Room.{size_of, total, total_nodes}
use Rattle.c_typing.proofs.expression.+walk.Given as goal

abbrev pub invariant-args-loop-arg : goal.invariant-args-loop-arg
invariant-args-loop-arg l = record {
  value : args_from (get_by_text l.names) l.point l.left (map meaning (drop l.arg-index l.all)) l.done l.found.sites
      ≡ args_from (get_by_text l.names) l.point l.fn.formals (map meaning l.all) [] l.fn.found.sites;
  first : least l.found.first (args_faults (get_by_text l.names) (map meaning (drop l.arg-index l.all)))
      ≡ least l.fn.found.first (args_faults (get_by_text l.names) (map meaning l.all));
  room : length l.found.sites + total (map size_of (drop l.arg-index l.all)) ≤ length l.fn.found.sites + total (map size_of l.all);
  nodes : total_nodes (map size_of (drop l.arg-index l.all)) ≤ total_nodes (map size_of l.all);
  numbered : count (length l.fn.found.sites) (all (map sites l.done)) ≡ Some (length l.found.sites);
  formed : (layout : Layout) → EnvFits layout (get_by_text l.names) → are_args layout l.fn.formals l.done ≡ true;
  formals : l.left ≡ drop (length l.done) l.fn.formals;
  counted : length l.done + length (drop l.arg-index l.all) ≡ length l.all;
  grows : (infos : List SiteInfo) → Extends infos l.found.sites → Extends infos l.fn.found.sites;
  sited : (infos : List SiteInfo) → Extends infos l.found.sites → all_at_sites infos l.point l.done ≡ true;
}

abbrev pub decreases-value : goal.decreases-value
decreases-value l = 8 * (size_of l.e.now).nodes + 1

abbrev pub decreases-again : goal.decreases-again
decreases-again l = 8 * (size_of l.e.now).nodes + 2

abbrev pub decreases-aside : goal.decreases-aside
decreases-aside l = 8 * (size_of l.e.now).nodes + 3

abbrev pub decreases-aside_unless_name : goal.decreases-aside_unless_name
decreases-aside_unless_name l = 8 * (size_of l.e.now).nodes + 4

abbrev pub decreases-target : goal.decreases-target
decreases-target l = 8 * (size_of l.e.now).nodes + 4

abbrev pub decreases-args : goal.decreases-args
decreases-args l = 8 * total_nodes (map size_of l.all.now) + 4

abbrev pub decreases-call_of : goal.decreases-call_of
decreases-call_of l = 8 * total_nodes (map size_of l.all.now) + 5

abbrev pub decreases-index_value : goal.decreases-index_value
decreases-index_value l = 8 * ((size_of l.of.now).nodes + (size_of l.index.now).nodes) + 5

abbrev pub decreases-index_target : goal.decreases-index_target
decreases-index_target l = 8 * ((size_of l.of.now).nodes + (size_of l.index.now).nodes) + 5

abbrev pub decreases-assignment : goal.decreases-assignment
decreases-assignment l = 8 * ((size_of l.to.now).nodes + (size_of l.from.now).nodes) + 5

abbrev pub decreases-stepped : goal.decreases-stepped
decreases-stepped l = 8 * (size_of l.to.now).nodes + 5

abbrev pub decreases-cast_value : goal.decreases-cast_value
decreases-cast_value l = 8 * (size_of l.of.now).nodes + 5

abbrev pub decreases-assign_value : goal.decreases-assign_value
decreases-assign_value l = 8 * ((size_of l.to.now).nodes + (size_of l.from.now).nodes) + 6

abbrev pub decreases-step_value : goal.decreases-step_value
decreases-step_value l = 8 * (size_of l.to.now).nodes + 6
