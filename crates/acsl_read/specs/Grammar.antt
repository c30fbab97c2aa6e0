-- The grammar of annotations, over a text's bytes, from which words and names are taken.
use Rattle.std.specs.Prelude.{Bool, ℕ, List}
use Rattle.c_lex.specs.declared.token.Token.{Token}
use Rattle.acsl_read.specs.declared.class.Class.{Class}
use Rattle.grammar_forms.specs.Forms.{Grammar}
use Rattle.acsl_read.specs.Classes.{same_class, class_at}
use Rattle.acsl_read.specs.Table.{Production, rule, first, more, nullable, rank}
use Rattle.acsl_read.specs.Trees.{Value, Found, make, part_in}

-- What is a name alone, without parentheses, may be a label.
abbrev pub may_label : Found → Bool
may_label v = (part_in v).is_name

abbrev pub grammar : List ℕ → Grammar Class Production Token Value
grammar bytes =
    record {
      class_at = class_at bytes;
      same = same_class;
      rule = rule;
      first = first;
      more = more;
      nullable = nullable;
      rank = rank;
      make = make bytes;
      may_extend = may_label;
    }
