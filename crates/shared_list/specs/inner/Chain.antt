-- The items of a list in memory.
use Rattle.std.specs.Prelude.{List, [], ◌∷◌, Option, None, Some}
use Rattle.std.specs.declared.rc.Rc.{Rc}
use Rattle.std.specs.declared.alloc.Global.{Global}
use Rattle.shared_list.specs.declared.Link.{Link}

-- the items from a link on, the newest first
abbrev pub items : {T : Type 0} → Option (Rc (Link T) Global) → List T
items None = []
items (Some link) = link.value.item ∷ link.value.older
