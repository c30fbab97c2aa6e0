use Rattle.std.proofs.Common.{ap, ◌∙◌, sym}
use Rattle.event_board.specs.Asked.{all_fit}
use Rattle.std.specs.Prelude.{[], ◌∷◌}
use Rattle.status_history.specs.Values.{extended, values_now}
use Rattle.status_history.specs.declared.history.Change.TheVariants.{Register}
use Rattle.status_core.specs.Held.{Held}
use Rattle.status_core.proofs.Answered.{fit_still}
use Rattle.status_core.proofs.table.Table.fits_still.Goals as goal

pub returns : goal.returns
returns c =
    let s = c.self.inside in
    let n = c.args.name.now in
    let set = c.args.correctness in
    sym (ap (λ (b : Held). all_fit b.props (values_now (extended b.history (Register n set ∷ [])))) c.self.view_is)
    ∙ fit_still s.props.now s.history n set c.self.invariant.of_program.fit
