use Rattle.c_lex.proofs.TokenFacts.{in_place, noted, few}
use Rattle.c_lex.proofs.token.tokens_are_in_place.Goals as goal

pub returns-clause-in_place : goal.returns-clause-in_place
returns-clause-in_place c = in_place _ _ c.requires

pub returns-clause-noted : goal.returns-clause-noted
returns-clause-noted c = noted _ _ c.requires

pub returns-clause-few : goal.returns-clause-few
returns-clause-few c = few _ _ (in_place _ _ c.requires) (noted _ _ c.requires)
