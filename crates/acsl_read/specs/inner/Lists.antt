-- What has been read of a list, before what is still to be read of it.
use Rattle.std.specs.Prelude.{◌++◌, List}
use Rattle.fc_base.specs.declared.syntax.Spot.{Spot}
use Rattle.c_lex.specs.declared.token.Token.{Token}
use Rattle.c_ast.specs.declared.annot.AnnotKind.{AnnotKind}
use Rattle.c_ast.specs.declared.annot.Clause.{Clause}
use Rattle.c_ast.specs.declared.annot.Link.{Link}
use Rattle.c_ast.specs.declared.annot.Loc.{Loc}
use Rattle.acsl_read.specs.declared.part.Part.{Part}
use Rattle.grammar_forms.specs.Forms.{Made}
use Rattle.grammar_forms.specs.inner.Reading.{Reading, with_value}
use Rattle.acsl_read.specs.Trees.{Value, OfPart, OfLocs, OfAnnot, joined, joins_in, chain_from, locs_in, annot_from, stateds_in}

abbrev pub joins_after : Part → Reading Token Value → Reading Token Value
joins_after left a = with_value (λ v. Made (OfPart (joined left (joins_in v)))) a

abbrev pub links_after : Part → Spot → List Link → Reading Token Value → Reading Token Value
links_after left end ls a = with_value (λ v. Made (OfPart (chain_from left end ls (joins_in v)))) a

abbrev pub locs_after : List Loc → Reading Token Value → Reading Token Value
locs_after xs a = with_value (λ v. Made (OfLocs (xs ++ locs_in v))) a

abbrev pub clauses_after : AnnotKind → Spot → List Clause → Reading Token Value → Reading Token Value
clauses_after kind at cs a = with_value (λ v. Made (OfAnnot (annot_from kind at cs (stateds_in v)))) a
