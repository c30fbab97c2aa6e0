use Rattle.std.proofs.Common.{◌≡◌, bytes_eq}
use Rattle.std.specs.List.{list_any}
use Rattle.shared_list.proofs.tests.is_declared.Given as goal

abbrev pub invariant-loop-object : goal.invariant-loop-object
invariant-loop-object l =
    list_any (λ o. bytes_eq o.name l.name) l.rest ≡ list_any (λ o. bytes_eq o.name l.name) l.scope
