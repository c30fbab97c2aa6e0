-- What has been read of a list, before what is still to be read of it.
use Rattle.std.specs.Prelude.{◌++◌, List}
use Rattle.fc_base.specs.declared.syntax.Spot.{Spot}
use Rattle.c_lex.specs.declared.token.Token.{Token}
use Rattle.c_ast.specs.declared.expr.Expr.{Expr}
use Rattle.c_ast.specs.declared.expr.SpecWord.{SpecWord}
use Rattle.c_ast.specs.declared.stmt.Declr.{Declr}
use Rattle.c_ast.specs.declared.stmt.Stmt.{Stmt}
use Rattle.c_ast.specs.declared.unit.Formal.{Formal}
use Rattle.c_ast.specs.declared.unit.Item.{Item}
use Rattle.c_parse.specs.declared.part.Part.{Part}
use Rattle.grammar_forms.specs.Forms.{Made}
use Rattle.grammar_forms.specs.inner.Reading.{Reading, with_value}
use Rattle.c_parse.specs.Trees.{Value, OfPart, OfSpec, OfExprs, OfWords, joined, joins_in, with_ends, ends_in, spec_from, words_in, exprs_in}
use Rattle.c_parse.specs.Trees.{OfDeclrs, declrs_in, OfSpots, spots_in, OfStmts, stmts_in, OfFormals, formals_in, OfItems, items_in}

abbrev pub joins_after : Part → Reading Token Value → Reading Token Value
joins_after left a = with_value (λ v. Made (OfPart (joined left (joins_in v)))) a

abbrev pub ends_after : Part → Reading Token Value → Reading Token Value
ends_after of a = with_value (λ v. Made (OfPart (with_ends of (ends_in v)))) a

abbrev pub spec_after : Spot → List SpecWord → Reading Token Value → Reading Token Value
spec_after at ws a = with_value (λ v. Made (OfSpec (spec_from at ws (words_in v)))) a

abbrev pub exprs_after : List Expr → Reading Token Value → Reading Token Value
exprs_after es a = with_value (λ v. Made (OfExprs (es ++ exprs_in v))) a

abbrev pub declrs_after : List Declr → Reading Token Value → Reading Token Value
declrs_after xs a = with_value (λ v. Made (OfDeclrs (xs ++ declrs_in v))) a

abbrev pub spots_after : List Spot → Reading Token Value → Reading Token Value
spots_after xs a = with_value (λ v. Made (OfSpots (xs ++ spots_in v))) a

abbrev pub stmts_after : List Stmt → Reading Token Value → Reading Token Value
stmts_after xs a = with_value (λ v. Made (OfStmts (xs ++ stmts_in v))) a

abbrev pub formals_after : List Formal → Reading Token Value → Reading Token Value
formals_after xs a = with_value (λ v. Made (OfFormals (xs ++ formals_in v))) a

abbrev pub items_after : List Item → Reading Token Value → Reading Token Value
items_after xs a = with_value (λ v. Made (OfItems (xs ++ items_in v))) a

abbrev pub words_after : List Token → Reading Token Value → Reading Token Value
words_after xs a = with_value (λ v. Made (OfWords (xs ++ words_in v))) a
