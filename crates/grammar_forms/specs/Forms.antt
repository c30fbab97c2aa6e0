-- Grammars as data.
--
-- Form      what a production asks for, over classes of tokens C and names of productions S
-- Parts     what a text is made of, before its production makes a value of it
-- Grammar   a table: for each production its form, and what it makes of the parts
-- firsts    the classes with which a text of a form can begin (a FIRST set)
-- mores     the classes with which a text of a form, whole already, could go on
use Rattle.std.specs.Prelude.{◌&&◌, ◌||◌, ◌++◌, ◌∷◌, [], ℕ, List, Bool, true, false, if◌then◌else◌}

pub data Form (C S : Type 0) : Type 0 where
  -- no token
  Empty : Form C S
  -- one token of these classes
  OneOf : List C → Form C S
  -- a production
  Rule : S → Form C S
  -- one form after another
  Then : Form C S → Form C S → Form C S
  -- the same, where what comes second belongs to the nearest: it is none with which the first could go on
  Nearest : Form C S → Form C S → Form C S
  -- either form, by the next token
  Or : Form C S → Form C S → Form C S
  -- a token of these classes, which opens a nesting, and a form inside it
  Opened : List C → Form C S → Form C S
  -- a nesting that its own first token opens
  Body : Form C S → Form C S
  -- a form, and a second one after it where the first's parts allow one and the next token begins one
  Extended : Form C S → Form C S → Form C S

-- T are the tokens, A the values that productions make.
pub data Parts (T A : Type 0) : Type 0 where
  NoPart : Parts T A
  One : T → Parts T A
  Two : Parts T A → Parts T A → Parts T A
  First : Parts T A → Parts T A
  Second : Parts T A → Parts T A
  Made : A → Parts T A

pub record Grammar (C S T A : Type 0) : Type 0 where
  -- the class of the first of these tokens, which may depend on those after it, or of the end
  pub class_at : List T → C
  pub same : C → C → Bool
  pub rule : S → Form C S
  -- of each production: the classes that begin it, those that can go on after it, whether it may be
  -- empty, and a rank above that of each production that may stand at its beginning
  pub first : S → List C
  pub more : S → List C
  pub nullable : S → Bool
  pub rank : S → ℕ
  pub make : S → Parts T A → A
  -- whether an `Extended` form may go on after these parts
  pub may_extend : Parts T A → Bool

abbrev pub one_of : {C : Type 0} → (C → C → Bool) → List C → C → Bool
one_of same [] c = false
one_of same (k ∷ []) c = same c k
one_of same (k ∷ l ∷ ks) c = same c k || one_of same (l ∷ ks) c

-- the nestings that may stand in one another
abbrev pub most_nested : ℕ
most_nested = 200

module _ {C S T A : Type 0} (g : Grammar C S T A) where
  -- whether a form may be empty, what begins it, and what can go on after it
  abbrev pub null : Form C S → Bool
  null Empty = true
  null (OneOf cs) = false
  null (Rule s) = g.nullable s
  null (Then f h) = null f && null h
  null (Nearest f h) = null f && null h
  null (Or f h) = null f || null h
  null (Opened cs f) = false
  null (Body f) = null f
  null (Extended f h) = null f

  abbrev pub firsts : Form C S → List C
  firsts Empty = []
  firsts (OneOf cs) = cs
  firsts (Rule s) = g.first s
  firsts (Then f h) = if null f then firsts f ++ firsts h else firsts f
  firsts (Nearest f h) = if null f then firsts f ++ firsts h else firsts f
  firsts (Or f h) = firsts f ++ firsts h
  firsts (Opened cs f) = cs
  firsts (Body f) = firsts f
  firsts (Extended f h) = if null f then firsts f ++ firsts h else firsts f

  abbrev pub mores : Form C S → List C
  mores Empty = []
  mores (OneOf cs) = []
  mores (Rule s) = g.more s
  mores (Then f h) = if null h then mores h ++ mores f else mores h
  mores (Nearest f h) = if null h then mores h ++ mores f else mores h
  mores (Or f h) = if null h then firsts f ++ (mores f ++ mores h) else mores f ++ mores h
  mores (Opened cs f) = mores f
  mores (Body f) = mores f
  mores (Extended f h) = firsts h ++ (mores f ++ mores h)

  abbrev pub begins : Form C S → List T → Bool
  begins f ts = one_of g.same (firsts f) (g.class_at ts)

  -- one token of these classes
  abbrev pub is_here : List C → List T → Bool
  is_here cs [] = false
  is_here cs (t ∷ ts) = one_of g.same cs (g.class_at (t ∷ ts))
