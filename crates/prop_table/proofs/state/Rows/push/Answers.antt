use Rattle.std.proofs.Common.{arith, ◌∙◌, refl}
use Rattle.prop_table.proofs.Numbering.{pushed}
use Rattle.prop_table.specs.inner.Numbered.{spot_of, labelled}
use Rattle.prop_table.proofs.state.Rows.push.Goals as goal

pub returns : goal.returns
returns c = pushed _ _ (spot_of c.args.at.now) (labelled c.args.claim c.args.label.now)
    (c.in_ok-push.ensures.ok ∙ rw (c.len.ensures, c.is_firm.ensures, c.in_ok-name_of.ensures, c.in_ok-new.ensures, c.saturating_sub-point.ensures, c.number_of-number.ensures.value) refl)
    (rw c.number_of-number.ensures.value refl)
    (omega (arith, c.args.self.now.wide, c.number_of-number.ensures.value, c.number_of-number.ensures.bound))
    (omega (arith, c.number_of-number.ensures.value, c.number_of-number.ensures.bound))
