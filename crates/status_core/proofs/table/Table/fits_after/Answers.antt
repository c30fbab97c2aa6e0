use Rattle.std.proofs.Common.{ap, ◌∙◌, sym}
use Rattle.event_board.specs.Asked.{all_fit}
use Rattle.param_book.specs.Table.{fits_param}
use Rattle.std.specs.Prelude.{[], ◌∷◌}
use Rattle.status_history.specs.Values.{extended, values_now}
use Rattle.status_history.specs.declared.history.Change.TheVariants.{Param}
use Rattle.status_core.specs.Held.{Held}
use Rattle.status_core.proofs.Answered.{fit_after}
use Rattle.status_core.proofs.table.Table.fits_after.Goals as goal

pub returns : goal.returns
returns c =
    let s = c.self.inside in
    let n = c.args.no in
    let x = c.args.value in
    sym (ap (λ (b : Held). all_fit b.props (values_now (extended b.history (Param n x ∷ [])))) c.self.view_is)
    ∙ fit_after s.props.now s.history n x (ap (λ (b : Held). fits_param b.props.defined n x) c.self.view_is ∙ c.requires) c.self.invariant.of_program.fit
