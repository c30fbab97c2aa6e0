-- The productions of the table, as they are read.
use Rattle.std.proofs.Common.{◌≡◌, List, ℕ, true, refl}
use Rattle.c_lex.specs.declared.token.Token.{Token}
use Rattle.acsl_read.specs.declared.level.Side.{Side}
use Rattle.acsl_read.specs.declared.level.Side.TheVariants as S
use Rattle.acsl_read.specs.declared.level.Level.{Level}
use Rattle.acsl_read.specs.declared.level.Level.TheVariants as L
use Rattle.acsl_read.specs.declared.level.Direction.{Direction}
use Rattle.acsl_read.specs.declared.level.Direction.TheVariants as D
use Rattle.acsl_read.specs.Classes.{same_class}
use Rattle.grammar_forms.specs.Sound.{is_sound_rule}
use Rattle.grammar_forms.specs.inner.Reading.{finish, read_form}
use Rattle.acsl_read.specs.Table as R
use Rattle.acsl_read.specs.Grammar.{grammar}
use Rattle.acsl_read.specs.inner.Outcome.{read}
use Rattle.grammar_forms.proofs.Law.{read_rule-is}

-- the table passes the test
pub sound : (bytes : List ℕ) (s : R.Production) → is_sound_rule (grammar bytes) s ≡ true
unfolding same_class
sound bytes (R.Binary L.Iff) = refl
sound bytes (R.Binary L.Or) = refl
sound bytes (R.Binary L.And) = refl
sound bytes (R.Binary (L.Sum S.Lead)) = refl
sound bytes (R.Binary (L.Sum S.Inner)) = refl
sound bytes (R.Binary (L.Product S.Lead)) = refl
sound bytes (R.Binary (L.Product S.Inner)) = refl
sound bytes (R.More L.Iff) = refl
sound bytes (R.More L.Or) = refl
sound bytes (R.More L.And) = refl
sound bytes (R.More (L.Sum S.Lead)) = refl
sound bytes (R.More (L.Sum S.Inner)) = refl
sound bytes (R.More (L.Product S.Lead)) = refl
sound bytes (R.More (L.Product S.Inner)) = refl
sound bytes (R.Links D.Open) = refl
sound bytes (R.Links D.Level) = refl
sound bytes (R.Links D.Rising) = refl
sound bytes (R.Links D.Falling) = refl
sound bytes (R.Links D.Closed) = refl
sound bytes (R.Factor S.Lead) = refl
sound bytes (R.Factor S.Inner) = refl
sound bytes _ = refl

abbrev pub IsRow : List ℕ → R.Production → ℕ → List Token → Type 0
IsRow bytes s d ts =
    read bytes s d ts ≡ finish (grammar bytes) s (read_form (grammar bytes) (read bytes) d (R.rule s) ts)

row : (s : R.Production) (bytes : List ℕ) (d : ℕ) (ts : List Token) → IsRow bytes s d ts
unfolding read
row s bytes d ts = read_rule-is (grammar bytes) (sound bytes) s d ts

pub binary_row : (l : Level) (bytes : List ℕ) (d : ℕ) (ts : List Token) → IsRow bytes (R.Binary l) d ts
binary_row l bytes d ts = row (R.Binary l) bytes d ts

pub more_row : (l : Level) (bytes : List ℕ) (d : ℕ) (ts : List Token) → IsRow bytes (R.More l) d ts
more_row l bytes d ts = row (R.More l) bytes d ts

pub links_row : (a : Direction) (bytes : List ℕ) (d : ℕ) (ts : List Token) → IsRow bytes (R.Links a) d ts
links_row a bytes d ts = row (R.Links a) bytes d ts

pub factor_row : (s : Side) (bytes : List ℕ) (d : ℕ) (ts : List Token) → IsRow bytes (R.Factor s) d ts
factor_row s bytes d ts = row (R.Factor s) bytes d ts

pub implication_row : (bytes : List ℕ) (d : ℕ) (ts : List Token) → IsRow bytes R.Implication d ts
implication_row bytes d ts = row R.Implication bytes d ts

pub conjunct_row : (bytes : List ℕ) (d : ℕ) (ts : List Token) → IsRow bytes R.Conjunct d ts
conjunct_row bytes d ts = row R.Conjunct bytes d ts

pub quantified_row : (bytes : List ℕ) (d : ℕ) (ts : List Token) → IsRow bytes R.Quantified d ts
quantified_row bytes d ts = row R.Quantified bytes d ts

pub bound_row : (bytes : List ℕ) (d : ℕ) (ts : List Token) → IsRow bytes R.Bound d ts
bound_row bytes d ts = row R.Bound bytes d ts

pub relations_row : (bytes : List ℕ) (d : ℕ) (ts : List Token) → IsRow bytes R.Relations d ts
relations_row bytes d ts = row R.Relations bytes d ts

pub primary_row : (bytes : List ℕ) (d : ℕ) (ts : List Token) → IsRow bytes R.Primary d ts
primary_row bytes d ts = row R.Primary bytes d ts

pub variable_row : (bytes : List ℕ) (d : ℕ) (ts : List Token) → IsRow bytes R.Variable d ts
variable_row bytes d ts = row R.Variable bytes d ts

pub atom_row : (bytes : List ℕ) (d : ℕ) (ts : List Token) → IsRow bytes R.Atom d ts
atom_row bytes d ts = row R.Atom bytes d ts

pub old_row : (bytes : List ℕ) (d : ℕ) (ts : List Token) → IsRow bytes R.Old d ts
old_row bytes d ts = row R.Old bytes d ts

pub parens_row : (bytes : List ℕ) (d : ℕ) (ts : List Token) → IsRow bytes R.Parens d ts
parens_row bytes d ts = row R.Parens bytes d ts

pub labelled_row : (bytes : List ℕ) (d : ℕ) (ts : List Token) → IsRow bytes R.Labelled d ts
labelled_row bytes d ts = row R.Labelled bytes d ts

pub within_row : (bytes : List ℕ) (d : ℕ) (ts : List Token) → IsRow bytes R.Within d ts
within_row bytes d ts = row R.Within bytes d ts

pub place_index_row : (bytes : List ℕ) (d : ℕ) (ts : List Token) → IsRow bytes R.PlaceIndex d ts
place_index_row bytes d ts = row R.PlaceIndex bytes d ts

pub place_row : (bytes : List ℕ) (d : ℕ) (ts : List Token) → IsRow bytes R.Place d ts
place_row bytes d ts = row R.Place bytes d ts

pub more_places_row : (bytes : List ℕ) (d : ℕ) (ts : List Token) → IsRow bytes R.MorePlaces d ts
more_places_row bytes d ts = row R.MorePlaces bytes d ts

pub places_row : (bytes : List ℕ) (d : ℕ) (ts : List Token) → IsRow bytes R.Places d ts
places_row bytes d ts = row R.Places bytes d ts

pub said_row : (bytes : List ℕ) (d : ℕ) (ts : List Token) → IsRow bytes R.Said d ts
said_row bytes d ts = row R.Said bytes d ts

pub assigned_row : (bytes : List ℕ) (d : ℕ) (ts : List Token) → IsRow bytes R.Assigned d ts
assigned_row bytes d ts = row R.Assigned bytes d ts

pub contract_clause_row : (bytes : List ℕ) (d : ℕ) (ts : List Token) → IsRow bytes R.ContractClause d ts
contract_clause_row bytes d ts = row R.ContractClause bytes d ts

pub contract_clauses_row : (bytes : List ℕ) (d : ℕ) (ts : List Token) → IsRow bytes R.ContractClauses d ts
contract_clauses_row bytes d ts = row R.ContractClauses bytes d ts

pub contract_row : (bytes : List ℕ) (d : ℕ) (ts : List Token) → IsRow bytes R.Contract d ts
contract_row bytes d ts = row R.Contract bytes d ts

pub loop_clause_row : (bytes : List ℕ) (d : ℕ) (ts : List Token) → IsRow bytes R.LoopClause d ts
loop_clause_row bytes d ts = row R.LoopClause bytes d ts

pub loop_clauses_row : (bytes : List ℕ) (d : ℕ) (ts : List Token) → IsRow bytes R.LoopClauses d ts
loop_clauses_row bytes d ts = row R.LoopClauses bytes d ts

pub loop_note_row : (bytes : List ℕ) (d : ℕ) (ts : List Token) → IsRow bytes R.LoopNote d ts
loop_note_row bytes d ts = row R.LoopNote bytes d ts

pub code_note_row : (bytes : List ℕ) (d : ℕ) (ts : List Token) → IsRow bytes R.CodeNote d ts
code_note_row bytes d ts = row R.CodeNote bytes d ts

pub note_row : (bytes : List ℕ) (d : ℕ) (ts : List Token) → IsRow bytes R.Note d ts
note_row bytes d ts = row R.Note bytes d ts
