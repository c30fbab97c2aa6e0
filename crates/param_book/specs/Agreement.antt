-- When values of parameters agree for an emitter.
use Rattle.std.specs.Prelude.{ℕ, Bool, not, ◌==◌, ◌||◌}
use Rattle.std.specs.List.{list_all, list_any}
use Rattle.std.specs.Ordering.{int_eq}
use Rattle.fc_base.specs.Params.{value_at}
use Rattle.fc_base.specs.declared.params.ParamSet.{ParamSet}
use Rattle.fc_base.specs.declared.params.ParamValues.{ParamValues}
use Rattle.param_book.specs.Table.{numbers, run_params}
use Rattle.param_book.specs.Emitters.{is_member}

-- whether entries rest on parameter n, where their emitter has this correctness set: all rest on what runs
-- depend on
abbrev pub rests_on : ParamSet → ℕ → Bool
rests_on set n = list_any (λ m. m == n) run_params || is_member n set

-- whether two values of parameter n are equal, or needn't be
abbrev pub agrees_at : ParamSet → ParamValues → ParamValues → ℕ → Bool
agrees_at set a b n = not (rests_on set n) || int_eq (value_at a.values n) (value_at b.values n)

-- whether values agree on what an emitter with this correctness set rests on
abbrev pub agree_on : ParamSet → ParamValues → ParamValues → Bool
agree_on set a b = list_all (agrees_at set a b) numbers
