use Rattle.std.proofs.Common.{◌∙◌, ap, sym}
use Rattle.std.specs.Option.{option_copied}
use Rattle.prop_table.proofs.Counting.{or_zero, requires_found}
use Rattle.prop_table.proofs.index.Index.requires_of.Goals as goal

pub returns-in-None : goal.returns-in-None
returns-in-None c =
    ap (λ o. or_zero (option_copied o)) (sym c.in-None.is) ∙ ap or_zero c.get.ensures.value ∙ requires_found c.args.program.now c.args.self.now c.args.function c.requires

pub returns-in-Some : goal.returns-in-Some
returns-in-Some c =
    ap (λ o. or_zero (option_copied o)) (sym c.in-Some.is) ∙ ap or_zero c.get.ensures.value ∙ requires_found c.args.program.now c.args.self.now c.args.function c.requires
