-- The productions of the table, as they are read.
use Rattle.std.proofs.Common.{◌≡◌, List, ℕ, true, refl}
use Rattle.c_lex.specs.declared.token.Token.{Token}
use Rattle.c_parse.specs.declared.level.Level.{Level}
use Rattle.c_parse.specs.declared.level.Level.TheVariants as L
use Rattle.c_parse.specs.Classes.{same_class}
use Rattle.grammar_forms.specs.Sound.{is_sound_rule}
use Rattle.grammar_forms.specs.inner.Reading.{finish, read_form}
use Rattle.c_parse.specs.Table as R
use Rattle.c_parse.specs.Grammar.{grammar}
use Rattle.c_parse.specs.inner.Outcome.{read}
use Rattle.grammar_forms.proofs.Law.{read_rule-is}

-- the table passes the test
pub sound : (bytes : List ℕ) (s : R.Production) → is_sound_rule (grammar bytes) s ≡ true
unfolding same_class
sound bytes (R.Binary L.LogicOr) = refl
sound bytes (R.Binary _) = refl
sound bytes (R.More L.LogicOr) = refl
sound bytes (R.More _) = refl
sound bytes _ = refl

abbrev pub IsRow : List ℕ → R.Production → ℕ → List Token → Type 0
IsRow bytes s d ts =
    read bytes s d ts ≡ finish (grammar bytes) s (read_form (grammar bytes) (read bytes) d (R.rule s) ts)

row : (s : R.Production) (bytes : List ℕ) (d : ℕ) (ts : List Token) → IsRow bytes s d ts
unfolding read
row s bytes d ts = read_rule-is (grammar bytes) (sound bytes) s d ts

pub assign_row : (bytes : List ℕ) (d : ℕ) (ts : List Token) → IsRow bytes R.Assign d ts
assign_row bytes d ts = row R.Assign bytes d ts

pub cond_row : (bytes : List ℕ) (d : ℕ) (ts : List Token) → IsRow bytes R.Cond d ts
cond_row bytes d ts = row R.Cond bytes d ts

pub unary_row : (bytes : List ℕ) (d : ℕ) (ts : List Token) → IsRow bytes R.Unary d ts
unary_row bytes d ts = row R.Unary bytes d ts

pub cast_row : (bytes : List ℕ) (d : ℕ) (ts : List Token) → IsRow bytes R.Cast d ts
cast_row bytes d ts = row R.Cast bytes d ts

pub postfix_row : (bytes : List ℕ) (d : ℕ) (ts : List Token) → IsRow bytes R.Postfix d ts
postfix_row bytes d ts = row R.Postfix bytes d ts

pub suffixes_row : (bytes : List ℕ) (d : ℕ) (ts : List Token) → IsRow bytes R.Suffixes d ts
suffixes_row bytes d ts = row R.Suffixes bytes d ts

pub primary_row : (bytes : List ℕ) (d : ℕ) (ts : List Token) → IsRow bytes R.Primary d ts
primary_row bytes d ts = row R.Primary bytes d ts

pub args_row : (bytes : List ℕ) (d : ℕ) (ts : List Token) → IsRow bytes R.Args d ts
args_row bytes d ts = row R.Args bytes d ts

pub more_args_row : (bytes : List ℕ) (d : ℕ) (ts : List Token) → IsRow bytes R.MoreArgs d ts
more_args_row bytes d ts = row R.MoreArgs bytes d ts

pub parens_row : (bytes : List ℕ) (d : ℕ) (ts : List Token) → IsRow bytes R.Parens d ts
parens_row bytes d ts = row R.Parens bytes d ts

pub maybe_expr_row : (bytes : List ℕ) (d : ℕ) (ts : List Token) → IsRow bytes R.MaybeExpr d ts
maybe_expr_row bytes d ts = row R.MaybeExpr bytes d ts

pub specs_row : (bytes : List ℕ) (d : ℕ) (ts : List Token) → IsRow bytes R.Specs d ts
specs_row bytes d ts = row R.Specs bytes d ts

pub first_specs_row : (bytes : List ℕ) (d : ℕ) (ts : List Token) → IsRow bytes R.FirstSpecs d ts
first_specs_row bytes d ts = row R.FirstSpecs bytes d ts

pub more_words_row : (bytes : List ℕ) (d : ℕ) (ts : List Token) → IsRow bytes R.MoreWords d ts
more_words_row bytes d ts = row R.MoreWords bytes d ts

pub maybe_name_row : (bytes : List ℕ) (d : ℕ) (ts : List Token) → IsRow bytes R.MaybeName d ts
maybe_name_row bytes d ts = row R.MaybeName bytes d ts

pub array_length_row : (bytes : List ℕ) (d : ℕ) (ts : List Token) → IsRow bytes R.ArrayLength d ts
array_length_row bytes d ts = row R.ArrayLength bytes d ts

pub initialiser_row : (bytes : List ℕ) (d : ℕ) (ts : List Token) → IsRow bytes R.Initialiser d ts
initialiser_row bytes d ts = row R.Initialiser bytes d ts

pub braces_row : (bytes : List ℕ) (d : ℕ) (ts : List Token) → IsRow bytes R.Braces d ts
braces_row bytes d ts = row R.Braces bytes d ts

pub more_values_row : (bytes : List ℕ) (d : ℕ) (ts : List Token) → IsRow bytes R.MoreValues d ts
more_values_row bytes d ts = row R.MoreValues bytes d ts

pub declr_tail_row : (bytes : List ℕ) (d : ℕ) (ts : List Token) → IsRow bytes R.DeclrTail d ts
declr_tail_row bytes d ts = row R.DeclrTail bytes d ts

pub declr_row : (bytes : List ℕ) (d : ℕ) (ts : List Token) → IsRow bytes R.Declr d ts
declr_row bytes d ts = row R.Declr bytes d ts

pub more_declrs_row : (bytes : List ℕ) (d : ℕ) (ts : List Token) → IsRow bytes R.MoreDeclrs d ts
more_declrs_row bytes d ts = row R.MoreDeclrs bytes d ts

pub declrs_row : (bytes : List ℕ) (d : ℕ) (ts : List Token) → IsRow bytes R.Declrs d ts
declrs_row bytes d ts = row R.Declrs bytes d ts

pub note_row : (bytes : List ℕ) (d : ℕ) (ts : List Token) → IsRow bytes R.Note d ts
note_row bytes d ts = row R.Note bytes d ts

pub in_note_row : (bytes : List ℕ) (d : ℕ) (ts : List Token) → IsRow bytes R.InNote d ts
in_note_row bytes d ts = row R.InNote bytes d ts

pub notes_row : (bytes : List ℕ) (d : ℕ) (ts : List Token) → IsRow bytes R.Notes d ts
notes_row bytes d ts = row R.Notes bytes d ts

pub declaration_row : (bytes : List ℕ) (d : ℕ) (ts : List Token) → IsRow bytes R.Declaration d ts
declaration_row bytes d ts = row R.Declaration bytes d ts

pub expr_statement_row : (bytes : List ℕ) (d : ℕ) (ts : List Token) → IsRow bytes R.ExprStatement d ts
expr_statement_row bytes d ts = row R.ExprStatement bytes d ts

pub jump_row : (bytes : List ℕ) (d : ℕ) (ts : List Token) → IsRow bytes R.Jump d ts
jump_row bytes d ts = row R.Jump bytes d ts

pub if_statement_row : (bytes : List ℕ) (d : ℕ) (ts : List Token) → IsRow bytes R.IfStatement d ts
if_statement_row bytes d ts = row R.IfStatement bytes d ts

pub else_part_row : (bytes : List ℕ) (d : ℕ) (ts : List Token) → IsRow bytes R.ElsePart d ts
else_part_row bytes d ts = row R.ElsePart bytes d ts

pub while_statement_row : (bytes : List ℕ) (d : ℕ) (ts : List Token) → IsRow bytes R.WhileStatement d ts
while_statement_row bytes d ts = row R.WhileStatement bytes d ts

pub do_statement_row : (bytes : List ℕ) (d : ℕ) (ts : List Token) → IsRow bytes R.DoStatement d ts
do_statement_row bytes d ts = row R.DoStatement bytes d ts

pub for_statement_row : (bytes : List ℕ) (d : ℕ) (ts : List Token) → IsRow bytes R.ForStatement d ts
for_statement_row bytes d ts = row R.ForStatement bytes d ts

pub for_head_row : (bytes : List ℕ) (d : ℕ) (ts : List Token) → IsRow bytes R.ForHead d ts
for_head_row bytes d ts = row R.ForHead bytes d ts

pub for_first_row : (bytes : List ℕ) (d : ℕ) (ts : List Token) → IsRow bytes R.ForFirst d ts
for_first_row bytes d ts = row R.ForFirst bytes d ts

pub block_row : (bytes : List ℕ) (d : ℕ) (ts : List Token) → IsRow bytes R.Block d ts
block_row bytes d ts = row R.Block bytes d ts

pub statement_row : (bytes : List ℕ) (d : ℕ) (ts : List Token) → IsRow bytes R.Statement d ts
statement_row bytes d ts = row R.Statement bytes d ts

pub block_item_row : (bytes : List ℕ) (d : ℕ) (ts : List Token) → IsRow bytes R.BlockItem d ts
block_item_row bytes d ts = row R.BlockItem bytes d ts

pub block_items_row : (bytes : List ℕ) (d : ℕ) (ts : List Token) → IsRow bytes R.BlockItems d ts
block_items_row bytes d ts = row R.BlockItems bytes d ts

pub sub_row : (bytes : List ℕ) (d : ℕ) (ts : List Token) → IsRow bytes R.Sub d ts
sub_row bytes d ts = row R.Sub bytes d ts

pub formal_row : (bytes : List ℕ) (d : ℕ) (ts : List Token) → IsRow bytes R.Formal d ts
formal_row bytes d ts = row R.Formal bytes d ts

pub first_formal_row : (bytes : List ℕ) (d : ℕ) (ts : List Token) → IsRow bytes R.FirstFormal d ts
first_formal_row bytes d ts = row R.FirstFormal bytes d ts

pub more_formals_row : (bytes : List ℕ) (d : ℕ) (ts : List Token) → IsRow bytes R.MoreFormals d ts
more_formals_row bytes d ts = row R.MoreFormals bytes d ts

pub formals_row : (bytes : List ℕ) (d : ℕ) (ts : List Token) → IsRow bytes R.Formals d ts
formals_row bytes d ts = row R.Formals bytes d ts

pub formal_parens_row : (bytes : List ℕ) (d : ℕ) (ts : List Token) → IsRow bytes R.FormalParens d ts
formal_parens_row bytes d ts = row R.FormalParens bytes d ts

pub function_end_row : (bytes : List ℕ) (d : ℕ) (ts : List Token) → IsRow bytes R.FunctionEnd d ts
function_end_row bytes d ts = row R.FunctionEnd bytes d ts

pub function_tail_row : (bytes : List ℕ) (d : ℕ) (ts : List Token) → IsRow bytes R.FunctionTail d ts
function_tail_row bytes d ts = row R.FunctionTail bytes d ts

pub global_tail_row : (bytes : List ℕ) (d : ℕ) (ts : List Token) → IsRow bytes R.GlobalTail d ts
global_tail_row bytes d ts = row R.GlobalTail bytes d ts

pub external_tail_row : (bytes : List ℕ) (d : ℕ) (ts : List Token) → IsRow bytes R.ExternalTail d ts
external_tail_row bytes d ts = row R.ExternalTail bytes d ts

pub storages_row : (bytes : List ℕ) (d : ℕ) (ts : List Token) → IsRow bytes R.Storages d ts
storages_row bytes d ts = row R.Storages bytes d ts

pub external_row : (bytes : List ℕ) (d : ℕ) (ts : List Token) → IsRow bytes R.External d ts
external_row bytes d ts = row R.External bytes d ts

pub unit_item_row : (bytes : List ℕ) (d : ℕ) (ts : List Token) → IsRow bytes R.UnitItem d ts
unit_item_row bytes d ts = row R.UnitItem bytes d ts

pub unit_items_row : (bytes : List ℕ) (d : ℕ) (ts : List Token) → IsRow bytes R.UnitItems d ts
unit_items_row bytes d ts = row R.UnitItems bytes d ts

pub binary_row : (l : Level) (bytes : List ℕ) (d : ℕ) (ts : List Token) → IsRow bytes (R.Binary l) d ts
binary_row l bytes d ts = row (R.Binary l) bytes d ts

pub more_row : (l : Level) (bytes : List ℕ) (d : ℕ) (ts : List Token) → IsRow bytes (R.More l) d ts
more_row l bytes d ts = row (R.More l) bytes d ts

pub values_row : (bytes : List ℕ) (d : ℕ) (ts : List Token) → IsRow bytes R.Values d ts
values_row bytes d ts = row R.Values bytes d ts

pub brace_end_row : (bytes : List ℕ) (d : ℕ) (ts : List Token) → IsRow bytes R.BraceEnd d ts
brace_end_row bytes d ts = row R.BraceEnd bytes d ts
