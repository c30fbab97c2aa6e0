-- The grammar of C as a table: each production's form, with the classes of tokens that begin it and that
-- can go on after it (C11 6.5 to 6.9, cut down to integers, arrays of one dimension and functions).
use Rattle.std.specs.Prelude.{◌≡◌, ◌++◌, ◌∷◌, [], ℕ, List, Bool, true, false, Option, Some, None}
use Rattle.c_parse.specs.declared.class.Class.{Class}
use Rattle.c_parse.specs.declared.class.Class.TheVariants as C
use Rattle.c_parse.specs.declared.level.Level.{Level}
use Rattle.c_parse.specs.declared.level.Level.TheVariants as L
use Rattle.grammar_forms.specs.Forms.{Form, Empty, OneOf, Rule, Then, Nearest, Or, Opened, Body, Extended}

pub data Production : Type 0 where
  -- expressions (C11 6.5)
  Assign : Production
  Cond : Production
  Binary : Level → Production
  More : Level → Production
  Unary : Production
  Cast : Production
  Postfix : Production
  Suffixes : Production
  Primary : Production
  Args : Production
  MoreArgs : Production
  Parens : Production
  MaybeExpr : Production
  -- declarations (C11 6.7)
  Specs : Production
  FirstSpecs : Production
  MoreWords : Production
  MaybeName : Production
  ArrayLength : Production
  Initialiser : Production
  Braces : Production
  Values : Production
  MoreValues : Production
  BraceEnd : Production
  DeclrTail : Production
  Declr : Production
  MoreDeclrs : Production
  Declrs : Production
  -- statements (C11 6.8) and notes
  Note : Production
  InNote : Production
  Notes : Production
  Declaration : Production
  ExprStatement : Production
  Jump : Production
  IfStatement : Production
  ElsePart : Production
  WhileStatement : Production
  DoStatement : Production
  ForStatement : Production
  ForHead : Production
  ForFirst : Production
  Block : Production
  Statement : Production
  BlockItem : Production
  BlockItems : Production
  Sub : Production
  -- external declarations (C11 6.9)
  Formal : Production
  FirstFormal : Production
  MoreFormals : Production
  Formals : Production
  FormalParens : Production
  FunctionEnd : Production
  FunctionTail : Production
  GlobalTail : Production
  ExternalTail : Production
  Storages : Production
  External : Production
  UnitItem : Production
  UnitItems : Production

abbrev pub ops : Level → List Class
ops L.LogicOr = C.LogicOr ∷ []
ops L.LogicAnd = C.LogicAnd ∷ []
ops L.Or = C.Or ∷ []
ops L.Xor = C.Xor ∷ []
ops L.And = C.And ∷ []
ops L.Equality = C.Equality ∷ []
ops L.Relation = C.Relation ∷ []
ops L.Shift = C.Shift ∷ []
ops L.Additive = C.Additive ∷ []
ops L.Multiplicative = C.Multiplicative ∷ []

-- the operands of a level
abbrev pub operand : Level → Production
operand L.LogicOr = Binary L.LogicAnd
operand L.LogicAnd = Binary L.Or
operand L.Or = Binary L.Xor
operand L.Xor = Binary L.And
operand L.And = Binary L.Equality
operand L.Equality = Binary L.Relation
operand L.Relation = Binary L.Shift
operand L.Shift = Binary L.Additive
operand L.Additive = Binary L.Multiplicative
operand L.Multiplicative = Unary

abbrev pub IsTighter : Level → Option Level → Type 0
IsTighter l (Some m) = operand l ≡ Binary m
IsTighter l None = operand l ≡ Unary

abbrev pub one : Class → Form Class Production
one c = OneOf (c ∷ [])

abbrev pub prefixes : List Class
prefixes = C.Additive ∷ C.Complement ∷ C.Step ∷ []

abbrev pub parens : List Class
parens = C.ParenOpen ∷ C.ParenType ∷ []

abbrev pub commas : List Class
commas = C.Comma ∷ C.CommaLast ∷ []

abbrev pub assigns : List Class
assigns = C.Equals ∷ C.AssignOp ∷ []

abbrev pub type_words : List Class
type_words = C.TypeWord ∷ C.Void ∷ C.VoidLast ∷ []

-- a specifier that isn't `void` before `)`
abbrev pub first_words : List Class
first_words = C.TypeWord ∷ C.Void ∷ []

abbrev pub primary_first : List Class
primary_first = C.Name ∷ C.Constant ∷ C.ParenOpen ∷ []

abbrev pub expr_first : List Class
expr_first = prefixes ++ (C.ParenType ∷ primary_first)

abbrev pub jump_first : List Class
jump_first = C.Semicolon ∷ C.Break ∷ C.Continue ∷ C.Return ∷ []

abbrev pub statement_first : List Class
statement_first = C.BraceOpen ∷ C.If ∷ C.While ∷ C.Do ∷ C.For ∷ (jump_first ++ expr_first)

abbrev pub block_first : List Class
block_first = type_words ++ (C.NoteFrom ∷ statement_first)

abbrev pub external_first : List Class
external_first = C.Storage ∷ type_words

-- what a note may hold
abbrev pub in_note : List Class
in_note =
    C.Name ∷ C.Constant ∷ C.Storage ∷ C.TypeWord ∷ C.Void ∷ C.VoidLast ∷ C.ParenOpen ∷ C.ParenType ∷ C.ParenClose
    ∷ C.BracketOpen ∷ C.BracketClose ∷ C.BraceOpen ∷ C.BraceClose ∷ C.Semicolon ∷ C.Comma ∷ C.CommaLast
    ∷ C.Question ∷ C.Colon ∷ C.If ∷ C.Else ∷ C.While ∷ C.Do ∷ C.For ∷ C.Break ∷ C.Continue ∷ C.Return
    ∷ C.LogicOr ∷ C.LogicAnd ∷ C.Or ∷ C.Xor ∷ C.And ∷ C.Equality ∷ C.Relation ∷ C.Shift ∷ C.Additive
    ∷ C.Multiplicative ∷ C.Complement ∷ C.Step ∷ C.Equals ∷ C.AssignOp ∷ C.Other ∷ []

abbrev pub rule : Production → Form Class Production
rule Assign = Extended (Rule Cond) (Then (OneOf assigns) (Rule Assign))
rule Cond =
    Then (Rule (Binary L.LogicOr))
    (Or (Then (one C.Question) (Then (Rule Assign) (Then (one C.Colon) (Rule Cond)))) Empty)
rule (Binary l) = Then (Rule (operand l)) (Rule (More l))
rule (More l) = Or (Then (OneOf (ops l)) (Then (Rule (operand l)) (Rule (More l)))) Empty
rule Unary = Or (Opened prefixes (Rule Unary)) (Or (Rule Cast) (Rule Postfix))
rule Cast = Opened (C.ParenType ∷ []) (Then (Rule Specs) (Then (one C.ParenClose) (Rule Unary)))
rule Postfix = Then (Rule Primary) (Rule Suffixes)
rule Suffixes =
    Or (Then (Opened (C.BracketOpen ∷ []) (Then (Rule Assign) (one C.BracketClose))) (Rule Suffixes))
    (Or (Then (Opened parens (Then (Rule Args) (one C.ParenClose))) (Rule Suffixes))
    (Or (Then (one C.Step) (Rule Suffixes)) Empty))
rule Primary =
    Or (one C.Name) (Or (one C.Constant) (Opened (C.ParenOpen ∷ []) (Then (Rule Assign) (one C.ParenClose))))
rule Args = Or (Then (Rule Assign) (Rule MoreArgs)) Empty
rule MoreArgs = Or (Then (OneOf commas) (Then (Rule Assign) (Rule MoreArgs))) Empty
rule Parens = Opened parens (Then (Rule Assign) (one C.ParenClose))
rule MaybeExpr = Or (Rule Assign) Empty
rule Specs = Then (OneOf type_words) (Rule MoreWords)
rule FirstSpecs = Then (OneOf first_words) (Rule MoreWords)
rule MoreWords = Or (Then (OneOf type_words) (Rule MoreWords)) Empty
rule MaybeName = Or (one C.Name) Empty
rule ArrayLength =
    Or (Opened (C.BracketOpen ∷ []) (Then (Or (Rule Cond) Empty) (one C.BracketClose))) Empty
rule Initialiser = Or (Then (one C.Equals) (Or (Rule Braces) (Rule Assign))) Empty
rule Braces = Then (one C.BraceOpen) (Then (Rule Values) (Rule BraceEnd))
rule Values = Then (Rule Assign) (Rule MoreValues)
rule BraceEnd = Then (Or (one C.CommaLast) Empty) (one C.BraceClose)
rule MoreValues = Or (Then (one C.Comma) (Then (Rule Assign) (Rule MoreValues))) Empty
rule DeclrTail = Then (Rule ArrayLength) (Rule Initialiser)
rule Declr = Then (one C.Name) (Rule DeclrTail)
rule MoreDeclrs = Or (Then (OneOf commas) (Then (Rule Declr) (Rule MoreDeclrs))) Empty
rule Declrs = Then (Rule Declr) (Rule MoreDeclrs)
rule Note = Then (one C.NoteFrom) (Then (Rule InNote) (one C.NoteTo))
rule InNote = Or (Then (OneOf in_note) (Rule InNote)) Empty
rule Notes = Or (Then (Rule Note) (Rule Notes)) Empty
rule Declaration = Then (Rule Specs) (Then (Rule Declrs) (one C.Semicolon))
rule ExprStatement = Then (Rule Assign) (one C.Semicolon)
rule Jump =
    Or (one C.Semicolon) (Or (Then (one C.Break) (one C.Semicolon)) (Or (Then (one C.Continue) (one C.Semicolon))
    (Then (one C.Return) (Then (Rule MaybeExpr) (one C.Semicolon)))))
rule IfStatement = Then (one C.If) (Then (Rule Parens) (Nearest (Rule Sub) (Rule ElsePart)))
rule ElsePart = Or (Then (one C.Else) (Rule Sub)) Empty
rule WhileStatement = Then (one C.While) (Then (Rule Parens) (Rule Sub))
rule DoStatement =
    Then (one C.Do) (Then (Rule Sub) (Then (one C.While) (Then (Rule Parens) (one C.Semicolon))))
rule ForStatement = Then (one C.For) (Then (Rule ForHead) (Rule Sub))
rule ForHead =
    Opened parens (Then (Rule ForFirst) (Then (Rule MaybeExpr)
    (Then (one C.Semicolon) (Then (Rule MaybeExpr) (one C.ParenClose)))))
rule ForFirst =
    Or (Then (Rule Specs) (Then (Rule Declrs) (one C.Semicolon))) (Then (Rule MaybeExpr) (one C.Semicolon))
rule Block = Opened (C.BraceOpen ∷ []) (Then (Rule BlockItems) (one C.BraceClose))
rule Statement =
    Or (Rule Block) (Or (Rule IfStatement) (Or (Rule WhileStatement) (Or (Rule DoStatement)
    (Or (Rule ForStatement) (Or (Rule Jump) (Rule ExprStatement))))))
rule BlockItem = Or (Rule Declaration) (Or (Rule Note) (Rule Statement))
rule BlockItems = Or (Then (Rule BlockItem) (Rule BlockItems)) Empty
rule Sub = Body (Then (Rule Notes) (Rule Statement))
rule Formal = Then (Rule Specs) (Rule MaybeName)
rule FirstFormal = Then (Rule FirstSpecs) (Rule MaybeName)
rule MoreFormals = Or (Then (OneOf commas) (Then (Rule Formal) (Rule MoreFormals))) Empty
rule Formals = Or (one C.VoidLast) (Or (Then (Rule FirstFormal) (Rule MoreFormals)) Empty)
rule FormalParens = Opened parens (Then (Rule Formals) (one C.ParenClose))
rule FunctionEnd = Or (one C.Semicolon) (Rule Block)
rule FunctionTail = Then (Rule FormalParens) (Rule FunctionEnd)
rule GlobalTail = Then (Rule DeclrTail) (Then (Rule MoreDeclrs) (one C.Semicolon))
rule ExternalTail = Or (Rule FunctionTail) (Rule GlobalTail)
rule Storages = Or (Then (one C.Storage) (Rule Storages)) Empty
rule External = Then (Rule Storages) (Then (Rule Specs) (Then (one C.Name) (Rule ExternalTail)))
rule UnitItem = Or (Rule Note) (Rule External)
rule UnitItems = Or (Then (Rule UnitItem) (Rule UnitItems)) Empty

-- what begins a production

abbrev pub global_first : List Class
global_first = C.BracketOpen ∷ C.Equals ∷ C.Comma ∷ C.CommaLast ∷ C.Semicolon ∷ []

abbrev pub first : Production → List Class
first Assign = expr_first
first Cond = expr_first
first (Binary l) = expr_first
first (More l) = ops l
first Unary = expr_first
first Cast = C.ParenType ∷ []
first Postfix = primary_first
first Suffixes = C.BracketOpen ∷ (parens ++ C.Step ∷ [])
first Primary = primary_first
first Args = expr_first
first MoreArgs = commas
first Parens = parens
first MaybeExpr = expr_first
first Specs = type_words
first FirstSpecs = first_words
first MoreWords = type_words
first MaybeName = C.Name ∷ []
first ArrayLength = C.BracketOpen ∷ []
first Initialiser = C.Equals ∷ []
first Braces = C.BraceOpen ∷ []
first Values = expr_first
first BraceEnd = C.CommaLast ∷ C.BraceClose ∷ []
first MoreValues = C.Comma ∷ []
first DeclrTail = C.BracketOpen ∷ C.Equals ∷ []
first Declr = C.Name ∷ []
first MoreDeclrs = commas
first Declrs = C.Name ∷ []
first Note = C.NoteFrom ∷ []
first InNote = in_note
first Notes = C.NoteFrom ∷ []
first Declaration = type_words
first ExprStatement = expr_first
first Jump = jump_first
first IfStatement = C.If ∷ []
first ElsePart = C.Else ∷ []
first WhileStatement = C.While ∷ []
first DoStatement = C.Do ∷ []
first ForStatement = C.For ∷ []
first ForHead = parens
first ForFirst = type_words ++ (expr_first ++ C.Semicolon ∷ [])
first Block = C.BraceOpen ∷ []
first Statement = statement_first
first BlockItem = block_first
first BlockItems = block_first
first Sub = C.NoteFrom ∷ statement_first
first Formal = type_words
first FirstFormal = first_words
first MoreFormals = commas
first Formals = C.VoidLast ∷ first_words
first FormalParens = parens
first FunctionEnd = C.Semicolon ∷ C.BraceOpen ∷ []
first FunctionTail = parens
first GlobalTail = global_first
first ExternalTail = parens ++ global_first
first Storages = C.Storage ∷ []
first External = external_first
first UnitItem = C.NoteFrom ∷ external_first
first UnitItems = C.NoteFrom ∷ external_first

-- what can go on after a production

abbrev pub tail : List Class
tail = C.BracketOpen ∷ (parens ++ C.Step ∷ [])

abbrev pub after_multiplicative : List Class
after_multiplicative = ops L.Multiplicative ++ tail

abbrev pub after_additive : List Class
after_additive = ops L.Additive ++ after_multiplicative

abbrev pub after_shift : List Class
after_shift = ops L.Shift ++ after_additive

abbrev pub after_relation : List Class
after_relation = ops L.Relation ++ after_shift

abbrev pub after_equality : List Class
after_equality = ops L.Equality ++ after_relation

abbrev pub after_and : List Class
after_and = ops L.And ++ after_equality

abbrev pub after_xor : List Class
after_xor = ops L.Xor ++ after_and

abbrev pub after_or : List Class
after_or = ops L.Or ++ after_xor

abbrev pub after_logic_and : List Class
after_logic_and = ops L.LogicAnd ++ after_or

abbrev pub after_logic_or : List Class
after_logic_or = ops L.LogicOr ++ after_logic_and

abbrev pub after : Level → List Class
after L.LogicOr = after_logic_or
after L.LogicAnd = after_logic_and
after L.Or = after_or
after L.Xor = after_xor
after L.And = after_and
after L.Equality = after_equality
after L.Relation = after_relation
after L.Shift = after_shift
after L.Additive = after_additive
after L.Multiplicative = after_multiplicative

abbrev pub cond_more : List Class
cond_more = C.Question ∷ after_logic_or

abbrev pub assign_more : List Class
assign_more = assigns ++ cond_more

abbrev pub declr_more : List Class
declr_more = C.BracketOpen ∷ C.Equals ∷ assign_more

abbrev pub more : Production → List Class
more Assign = assign_more
more Cond = cond_more
more (Binary l) = after l
more (More l) = after l
more Unary = tail
more Cast = tail
more Postfix = tail
more Suffixes = tail
more Args = expr_first ++ (commas ++ assign_more)
more MoreArgs = commas ++ assign_more
more MaybeExpr = expr_first ++ assign_more
more Specs = type_words
more FirstSpecs = type_words
more MoreWords = type_words
more MaybeName = C.Name ∷ []
more ArrayLength = C.BracketOpen ∷ []
more Initialiser = C.Equals ∷ assign_more
more Values = C.Comma ∷ assign_more
more MoreValues = C.Comma ∷ assign_more
more DeclrTail = declr_more
more Declr = declr_more
more MoreDeclrs = commas ++ declr_more
more Declrs = commas ++ declr_more
more InNote = in_note
more Notes = C.NoteFrom ∷ []
more IfStatement = C.Else ∷ []
more ElsePart = C.Else ∷ []
more WhileStatement = C.Else ∷ []
more ForStatement = C.Else ∷ []
more Statement = C.Else ∷ []
more BlockItem = C.Else ∷ []
more Sub = C.Else ∷ []
more BlockItems = C.Else ∷ block_first
more Formal = C.Name ∷ type_words
more FirstFormal = C.Name ∷ type_words
more MoreFormals = C.Name ∷ (type_words ++ commas)
more Formals = C.Name ∷ (type_words ++ commas)
more Storages = C.Storage ∷ []
more UnitItems = C.NoteFrom ∷ external_first
more s = []

-- which productions may be empty
abbrev pub nullable : Production → Bool
nullable (More l) = true
nullable Suffixes = true
nullable Args = true
nullable MoreArgs = true
nullable MaybeExpr = true
nullable MoreWords = true
nullable MaybeName = true
nullable ArrayLength = true
nullable Initialiser = true
nullable MoreValues = true
nullable DeclrTail = true
nullable MoreDeclrs = true
nullable InNote = true
nullable Notes = true
nullable ElsePart = true
nullable BlockItems = true
nullable MoreFormals = true
nullable Formals = true
nullable Storages = true
nullable UnitItems = true
nullable s = false

-- above the rank of each production that may stand at the beginning
abbrev pub rank : Production → ℕ
rank Postfix = 1
rank Unary = 2
rank (Binary L.Multiplicative) = 3
rank (Binary L.Additive) = 4
rank (Binary L.Shift) = 5
rank (Binary L.Relation) = 6
rank (Binary L.Equality) = 7
rank (Binary L.And) = 8
rank (Binary L.Xor) = 9
rank (Binary L.Or) = 10
rank (Binary L.LogicAnd) = 11
rank (Binary L.LogicOr) = 12
rank Cond = 13
rank Assign = 14
rank Args = 15
rank Values = 15
rank MaybeExpr = 15
rank ExprStatement = 15
rank ForFirst = 16
rank Statement = 16
rank BlockItem = 17
rank Sub = 17
rank BlockItems = 18
rank DeclrTail = 1
rank Declrs = 1
rank Notes = 1
rank Declaration = 1
rank Formal = 1
rank FirstFormal = 1
rank Formals = 2
rank FunctionEnd = 1
rank FunctionTail = 1
rank GlobalTail = 2
rank ExternalTail = 3
rank External = 1
rank UnitItem = 2
rank UnitItems = 3
rank s = 0
