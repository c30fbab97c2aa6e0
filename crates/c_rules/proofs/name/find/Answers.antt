use Rattle.std.proofs.Common.{rules, ◌≡◌, true, subst, sym, Option}
use Rattle.std.specs.BTreeMap.{get_by_text}
use Rattle.std.specs.Option.{option_copied}
use Rattle.c_rules.specs.Fits.{entry_fits}
use Rattle.c_rules.specs.declared.scope.Entry.{Entry}
use Rattle.c_rules.proofs.name.find.Goals as goal

pub returns-clause-fits : goal.returns-clause-fits
returns-clause-fits c =
    let is : option_copied c.get.result ≡ get_by_text c.args.names.now c.args.name.now = search rules in
    λ l fits. subst (λ (o : Option Entry). entry_fits l o ≡ true) (sym is) (fits c.args.name.now)
