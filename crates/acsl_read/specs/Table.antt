-- The grammar of annotations as a table: each production's form, with the classes of tokens that begin it and
-- that can go on after it (ACSL manual: function contracts, loop annotations, assertions, terms and predicates).
use Rattle.std.specs.Prelude.{◌++◌, ◌∷◌, [], ℕ, List, Bool, true, false}
use Rattle.acsl_read.specs.declared.class.Class.{Class}
use Rattle.acsl_read.specs.declared.class.Class.TheVariants as C
use Rattle.acsl_read.specs.declared.level.Side.{Side}
use Rattle.acsl_read.specs.declared.level.Side.TheVariants as S
use Rattle.acsl_read.specs.declared.level.Level.{Level}
use Rattle.acsl_read.specs.declared.level.Level.TheVariants as L
use Rattle.acsl_read.specs.declared.level.Direction.{Direction}
use Rattle.acsl_read.specs.declared.level.Direction.TheVariants as D
use Rattle.grammar_forms.specs.Forms.{Form, Empty, OneOf, Rule, Then, Nearest, Or, Opened, Body, Extended}

pub data Production : Type 0 where
  -- terms and predicates
  Binary : Level → Production
  More : Level → Production
  Implication : Production
  Conjunct : Production
  Quantified : Production
  Bound : Production
  Relations : Production
  Links : Direction → Production
  Factor : Side → Production
  Primary : Production
  Variable : Production
  Atom : Production
  Old : Production
  Parens : Production
  -- clauses
  Labelled : Production
  Within : Production
  PlaceIndex : Production
  Place : Production
  MorePlaces : Production
  Places : Production
  Said : Production
  Assigned : Production
  -- notes
  ContractClause : Production
  ContractClauses : Production
  Contract : Production
  LoopClause : Production
  LoopClauses : Production
  LoopNote : Production
  CodeNote : Production
  Note : Production

abbrev pub one : Class → Form Class Production
one c = OneOf (c ∷ [])

-- The words of annotations are names where a name is needed.
abbrev pub names : List Class
names =
    C.Name ∷ C.Requires ∷ C.Ensures ∷ C.Assigns ∷ C.Loop ∷ C.Invariant ∷ C.Assert ∷ C.Check ∷ C.Admit ∷ C.Integer ∷ []

abbrev pub ops : Level → List Class
ops L.Iff = C.Iff ∷ []
ops L.Or = C.Or ∷ []
ops L.And = C.And ∷ []
ops (L.Sum s) = C.Plus ∷ C.Minus ∷ []
ops (L.Product s) = C.Multiplicative ∷ []

-- the operands of a level
abbrev pub operand : Level → Production
operand L.Iff = Implication
operand L.Or = Binary L.And
operand L.And = Conjunct
operand (L.Sum s) = Binary (L.Product s)
operand (L.Product s) = Factor s

-- the level of the operands after the first
abbrev pub inner : Level → Level
inner (L.Sum s) = L.Sum S.Inner
inner (L.Product s) = L.Product S.Inner
inner l = l

-- A run of `!` before `\forall` is no operand of a relation where the relation begins; it belongs to the
-- quantifier. Elsewhere `!` is an operator, and `\forall` can't stand after it.
abbrev pub prefixes : Side → List Class
prefixes S.Lead = C.Minus ∷ C.Bang ∷ []
prefixes S.Inner = C.Minus ∷ C.Bang ∷ C.BangForall ∷ []

abbrev pub quantified_first : List Class
quantified_first = C.BangForall ∷ C.Forall ∷ []

abbrev pub atom_words : List Class
atom_words = C.Result ∷ C.True ∷ C.False ∷ []

abbrev pub primary_first : List Class
primary_first = names ++ (C.Constant ∷ (atom_words ++ (C.Old ∷ C.ParenOpen ∷ [])))

abbrev pub factor_first : Side → List Class
factor_first s = prefixes s ++ primary_first

abbrev pub formula_first : List Class
formula_first = quantified_first ++ factor_first S.Lead

abbrev pub conditions : List Class
conditions = C.Requires ∷ C.Ensures ∷ []

abbrev pub contract_first : List Class
contract_first = conditions ++ (C.Assigns ∷ [])

abbrev pub code_words : List Class
code_words = C.Assert ∷ C.Check ∷ C.Admit ∷ []

-- one relation more of a chain
abbrev pub link : Class → Direction → Form Class Production
link c d = Then (one c) (Then (Rule (Binary (L.Sum S.Inner))) (Rule (Links d)))

abbrev pub rule : Production → Form Class Production
rule (Binary l) = Nearest (Rule (operand l)) (Rule (More (inner l)))
rule (More l) = Or (Then (OneOf (ops l)) (Nearest (Rule (operand l)) (Rule (More l)))) Empty
rule Implication = Nearest (Rule (Binary L.Or)) (Or (Then (one C.Implies) (Rule Implication)) Empty)
rule Conjunct = Or (Rule Quantified) (Rule Relations)
rule Quantified =
    Or (Opened (C.BangForall ∷ []) (Rule Quantified))
    (Then (one C.Forall) (Then (Rule Bound) (Body (Rule (Binary L.Iff)))))
rule Bound = Then (one C.Integer) (Then (OneOf names) (one C.Semicolon))
rule Relations = Then (Rule (Binary (L.Sum S.Lead))) (Rule (Links D.Open))
rule (Links D.Open) =
    Or (link C.Equal D.Level) (Or (link C.Rising D.Rising) (Or (link C.Falling D.Falling) (Or (link C.Distinct D.Closed) Empty)))
rule (Links D.Level) = Or (link C.Equal D.Level) (Or (link C.Rising D.Rising) (Or (link C.Falling D.Falling) Empty))
rule (Links D.Rising) = Or (link C.Equal D.Rising) (Or (link C.Rising D.Rising) Empty)
rule (Links D.Falling) = Or (link C.Equal D.Falling) (Or (link C.Falling D.Falling) Empty)
rule (Links D.Closed) = Empty
rule (Factor s) = Or (Opened (prefixes s) (Rule (Factor S.Inner))) (Rule Primary)
rule Primary = Or (Rule Variable) (Or (Rule Atom) (Or (Rule Old) (Rule Parens)))
rule Variable =
    Then (OneOf names) (Or (Opened (C.BracketOpen ∷ []) (Then (Rule (Binary L.Iff)) (one C.BracketClose))) Empty)
rule Atom = Or (one C.Constant) (OneOf atom_words)
rule Old = Then (one C.Old) (Rule Parens)
rule Parens = Opened (C.ParenOpen ∷ []) (Then (Rule (Binary L.Iff)) (one C.ParenClose))
rule Labelled = Extended (Rule (Binary L.Iff)) (Then (one C.Colon) (Rule (Binary L.Iff)))
rule Within =
    Or (one C.DotDot) (Then (Rule (Binary L.Iff)) (Or (Then (one C.DotDot) (Rule (Binary L.Iff))) Empty))
rule PlaceIndex = Or (Opened (C.BracketOpen ∷ []) (Then (Rule Within) (one C.BracketClose))) Empty
rule Place = Then (OneOf names) (Rule PlaceIndex)
rule MorePlaces = Or (Then (one C.Comma) (Then (Rule Place) (Rule MorePlaces))) Empty
rule Places = Or (one C.Nothing) (Then (Rule Place) (Rule MorePlaces))
rule Said = Then (Rule Labelled) (one C.Semicolon)
rule Assigned = Then (Rule Places) (one C.Semicolon)
rule ContractClause = Or (Then (OneOf conditions) (Rule Said)) (Then (one C.Assigns) (Rule Assigned))
rule ContractClauses = Or (Then (Rule ContractClause) (Rule ContractClauses)) Empty
rule Contract = Then (Rule ContractClause) (Rule ContractClauses)
rule LoopClause =
    Then (one C.Loop) (Or (Then (one C.Invariant) (Rule Said)) (Then (one C.Assigns) (Rule Assigned)))
rule LoopClauses = Or (Then (Rule LoopClause) (Rule LoopClauses)) Empty
rule LoopNote = Then (Rule LoopClause) (Rule LoopClauses)
rule CodeNote = Then (OneOf code_words) (Rule Said)
rule Note = Or (Rule Contract) (Or (Rule LoopNote) (Rule CodeNote))

-- what begins a production

abbrev pub level_first : Level → List Class
level_first (L.Sum s) = factor_first s
level_first (L.Product s) = factor_first s
level_first l = formula_first

abbrev pub links_first : Direction → List Class
links_first D.Open = C.Equal ∷ C.Rising ∷ C.Falling ∷ C.Distinct ∷ []
links_first D.Level = C.Equal ∷ C.Rising ∷ C.Falling ∷ []
links_first D.Rising = C.Equal ∷ C.Rising ∷ []
links_first D.Falling = C.Equal ∷ C.Falling ∷ []
links_first D.Closed = []

abbrev pub first : Production → List Class
first (Binary l) = level_first l
first (More l) = ops l
first Implication = formula_first
first Conjunct = formula_first
first Quantified = quantified_first
first Bound = C.Integer ∷ []
first Relations = factor_first S.Lead
first (Links d) = links_first d
first (Factor s) = factor_first s
first Primary = primary_first
first Variable = names
first Atom = C.Constant ∷ atom_words
first Old = C.Old ∷ []
first Parens = C.ParenOpen ∷ []
first Labelled = formula_first
first Within = C.DotDot ∷ formula_first
first PlaceIndex = C.BracketOpen ∷ []
first Place = names
first MorePlaces = C.Comma ∷ []
first Places = C.Nothing ∷ names
first Said = formula_first
first Assigned = C.Nothing ∷ names
first ContractClause = contract_first
first ContractClauses = contract_first
first Contract = contract_first
first LoopClause = C.Loop ∷ []
first LoopClauses = C.Loop ∷ []
first LoopNote = C.Loop ∷ []
first CodeNote = code_words
first Note = contract_first ++ (C.Loop ∷ code_words)

-- what can go on after a production

abbrev pub tail : List Class
tail = C.BracketOpen ∷ []

abbrev pub after_product : List Class
after_product = C.Multiplicative ∷ tail

abbrev pub after_sum : List Class
after_sum = C.Plus ∷ C.Minus ∷ after_product

abbrev pub after_relations : List Class
after_relations = C.Equal ∷ C.Rising ∷ C.Falling ∷ C.Distinct ∷ after_sum

abbrev pub after_formula : List Class
after_formula = C.Iff ∷ C.Implies ∷ C.Or ∷ C.And ∷ after_relations

abbrev pub after : Level → List Class
after (L.Sum s) = after_sum
after (L.Product s) = after_product
after l = after_formula

abbrev pub more : Production → List Class
more (Binary l) = after l
more (More l) = after l
more Implication = after_formula
more Conjunct = after_formula
more Quantified = after_formula
more Relations = after_relations
more (Links d) = after_relations
more (Factor s) = tail
more Primary = tail
more Variable = tail
more Labelled = C.Colon ∷ after_formula
more Within = C.DotDot ∷ after_formula
more PlaceIndex = tail
more Place = tail
more MorePlaces = C.Comma ∷ tail
more Places = C.Comma ∷ tail
more ContractClauses = contract_first
more Contract = contract_first
more LoopClauses = C.Loop ∷ []
more LoopNote = C.Loop ∷ []
more Note = contract_first ++ (C.Loop ∷ [])
more s = []

-- which productions may be empty
abbrev pub nullable : Production → Bool
nullable (More l) = true
nullable (Links d) = true
nullable PlaceIndex = true
nullable MorePlaces = true
nullable ContractClauses = true
nullable LoopClauses = true
nullable s = false

-- above the rank of each production that may stand at the beginning
abbrev pub rank : Production → ℕ
rank Primary = 1
rank (Factor s) = 2
rank (Binary (L.Product s)) = 3
rank (Binary (L.Sum s)) = 4
rank Relations = 5
rank Conjunct = 6
rank (Binary L.And) = 7
rank (Binary L.Or) = 8
rank Implication = 9
rank (Binary L.Iff) = 10
rank Labelled = 11
rank Within = 11
rank Said = 12
rank Places = 1
rank Assigned = 2
rank ContractClauses = 1
rank Contract = 1
rank LoopClauses = 1
rank LoopNote = 1
rank Note = 2
rank s = 0
