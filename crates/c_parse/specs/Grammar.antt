-- The grammar of C, over a text's bytes, from which names are taken.
use Rattle.std.specs.Prelude.{Bool, ℕ, List}
use Rattle.c_lex.specs.declared.token.Token.{Token}
use Rattle.c_parse.specs.declared.class.Class.{Class}
use Rattle.grammar_forms.specs.Forms.{Grammar}
use Rattle.c_parse.specs.Classes.{same_class, class_at}
use Rattle.c_parse.specs.Table.{Production, rule, first, more, nullable, rank}
use Rattle.c_parse.specs.Trees.{Value, Found, make, part_in}

-- An assignment may follow what is a unary expression alone (C11 6.5.16).
abbrev pub may_assign : Found → Bool
may_assign v = (part_in v).is_unary

abbrev pub grammar : List ℕ → Grammar Class Production Token Value
grammar bytes =
    record {
      class_at = class_at;
      same = same_class;
      rule = rule;
      first = first;
      more = more;
      nullable = nullable;
      rank = rank;
      make = make bytes;
      may_extend = may_assign;
    }
