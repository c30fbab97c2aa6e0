use Rattle.std.proofs.Common.{◌^◌, ◌<◌, bit_or, subst, sym, ap, ◌∙◌}
use Rattle.std.proofs.lemmas.Nat.{one_shl}
use Rattle.param_book.specs.Emitters.{set}
use Rattle.event_script.proofs.Params.{number_below}
use Rattle.event_script.proofs.names.with_param.Goals as goal

pub returns : goal.returns
returns c =
    let small = subst (λ n. n < 16) (sym c.number.ensures) (number_below c.args.name.now) in
    ap (λ k. set (bit_or c.args.set.0 k)) (one_shl c.number.result 16 small)
    ∙ ap (λ n. set (bit_or c.args.set.0 (2 ^ n))) c.number.ensures
