-- The tokens that are looked at.
use Rattle.std.proofs.Common.{◌≡◌, ◌<◌, List, length, take, sym, arith}
use Rattle.std.proofs.lemmas.List.{take_all}
use Rattle.c_lex.specs.declared.token.Token.{Token}

-- of fewer than 200 tokens all
pub all_of_few : (ts : List Token) → length ts < 200 → ts ≡ take 200 ts
all_of_few ts few = sym (take_all 200 ts (omega (arith, few)))
