use Rattle.std.proofs.Common.{◌∙◌, ℕ, List, Option, Some, None, ap, sym}
use Rattle.std.proofs.lemmas.Map.Text.{btree_map_updates_text}
use Rattle.std.specs.BTreeMap.{get_by_text}
use Rattle.c_rules.specs.declared.scope.Entry.{Entry}
use Rattle.c_typing.specs.Walking.{put}
use Rattle.c_typing.proofs.scope.set.Goals as goal

pub returns-in-None-clause-after : goal.returns-in-None-clause-after
returns-in-None-clause-after c =
    λ j y. (btree_map_updates_text _ c.args.names.now c.remove.new.self None c.remove.ensures.updates y ∙ ap (λ (w : List ℕ). put w None (get_by_text c.args.names.now) y) c.as_str.ensures.value
    ∙ ap (λ (o : Option Entry). put c.args.name.now o (get_by_text c.args.names.now) y) (sym c.in-None.is)) j

pub returns-in_ok-insert-in-Some-clause-after : goal.returns-in_ok-insert-in-Some-clause-after
returns-in_ok-insert-in-Some-clause-after c =
    λ j y. (btree_map_updates_text _ c.args.names.now c.insert.new.self (Some c.in-Some.entry) c.in_ok-insert-in-Some.ensures.updates y
    ∙ ap (λ (w : List ℕ). put w (Some c.in-Some.entry) (get_by_text c.args.names.now) y) (c.in_ok-from_str-in-Some.ensures.ok ∙ c.as_str-in-Some.ensures.value)
    ∙ ap (λ (o : Option Entry). put c.args.name.now o (get_by_text c.args.names.now) y) (sym c.in-Some.is)) j
