-- What the stages of a file come to.
use Rattle.std.proofs.Common.{◌≡◌, ◌∙◌, inl, inr, ◌<◌, ◌≤◌, ℕ, List, Option, Some, None, refl, ap, sym, subst, length, arith}
use Rattle.std.specs.Prelude.{Result, Ok, Err}
use Rattle.std.proofs.lemmas.Option.{none-some, same_Some}
use Rattle.acsl_bind.specs.Programs.{Binds, Judges, faults_of}
use Rattle.acsl_bind.specs.declared.fault.BindFault.{BindFault}
use Rattle.acsl_bind.specs.declared.fault.BindFault.TheVariants as B
use Rattle.acsl_notes.specs.Notes.{AreAnnots, IsFirstFault, notes_of}
use Rattle.acsl_notes.specs.Notes as annot
use Rattle.acsl_read.specs.declared.text.AcslFault.{AcslFault}
use Rattle.acsl_read.specs.declared.text.AcslFault.TheVariants as A
use Rattle.acsl_terms.specs.Breaches.{least}
use Rattle.acsl_terms.specs.declared.breach.NoteBreach.{NoteBreach}
use Rattle.c_ast.specs.declared.annot.Annot.{Annot}
use Rattle.c_ast.specs.declared.unit.Item.{Item}
use Rattle.c_ast.specs.declared.unit.Unit.{Unit as Tree}
use Rattle.c_ir.specs.Programs.{Program}
use Rattle.c_ir.specs.Props.{Props}
use Rattle.c_ir.specs.declared.program.Skeleton.{Skeleton}
use Rattle.c_lex.specs.Tokens.{AreOnly, IsOnlyFault, Lexes, Stuck, UnlessMemory}
use Rattle.c_lex.specs.declared.fault.LexFault.{LexFault}
use Rattle.c_lex.specs.declared.fault.LexFault.TheVariants as L
use Rattle.c_lex.specs.declared.token.Token.{Token}
use Rattle.c_parse.specs.Program.{IsFault, IsOnly, IsUnit}
use Rattle.c_parse.specs.declared.text.ParseFault.{ParseFault}
use Rattle.c_parse.specs.declared.text.ParseFault.TheVariants as P
use Rattle.c_types.specs.Programs.{Checks, OneProgram, Repeats}
use Rattle.c_types.specs.declared.fault.TypeFault.{TypeFault}
use Rattle.c_types.specs.declared.fault.TypeFault.TheVariants as T
use Rattle.prop_table.specs.Tables.{Tables}
use Rattle.prop_table.specs.declared.fault.TableFault.TheVariants as Many
use Rattle.kernel_serve.specs.Limits.{most_file}
use Rattle.kernel_serve.specs.Stages.{Enters, IsBound, IsRead, IsTypedText, entry_from, text_of}
use Rattle.kernel_serve.specs.declared.front.Entered.{Entered}
use Rattle.prop_runs.specs.Numbers.{props_of}
use Rattle.kernel_serve.specs.declared.status.FrontFault.TheVariants as Fault
use Rattle.kernel_serve.specs.declared.status.LimitFault.TheVariants as Limit
use Rattle.kernel_serve.specs.declared.status.Status.{Status}
use Rattle.kernel_serve.specs.declared.status.Status.TheVariants as S
use Rattle.kernel_serve.specs.inner.Steps.{IsBoundAnswer, IsEntryAnswer, IsFileAnswer, IsTypesAnswer, OnlyBound, OnlyEntered, StopsInEntry, StopsInFile, StopsInTypes, acsl_status, bind_status, lex_status, parse_status, type_status}

-- too long
pub too_long : (name file : List ℕ) (status : Status) → most_file < length file → StopsInFile name file status
    → IsFileAnswer name file (Err status)
too_long name file status long stops =
    record {
      table = tt;
      found = tt;
      stops = stops;
      only = λ p g read. absurd
          (omega (arith, long, read.within));
    }

-- no memory
pub no_memory : (name file : List ℕ) → IsFileAnswer name file (Err S.Memory)
no_memory name file = record { table = tt; found = tt; stops = tt; only = λ p g read. tt }

-- no tokens
lex_stops : (name file : List ℕ) (f : LexFault) → length file ≤ most_file → UnlessMemory (Stuck file) f
    → StopsInFile name file (lex_status f)
lex_stops name file L.Memory within h = tt
lex_stops name file (L.BadByte at) within h = inr (within, inl (L.BadByte at, h, (refl, refl)))
lex_stops name file (L.OpenComment at) within h = inr (within, inl (L.OpenComment at, h, (refl, refl)))
lex_stops name file (L.LiteralTooWide at) within h = inr (within, inl (L.LiteralTooWide at, h, (refl, refl)))
lex_stops name file (L.Directive line) within h = inr (within, inl (L.Directive line, h, (refl, refl)))
lex_stops name file (L.NameTooLong at) within h = inr (within, inl (L.NameTooLong at, h, (refl, refl)))

lex_only : (name file : List ℕ) (f : LexFault) (p : Program) (g : ℕ) → UnlessMemory (IsOnlyFault file) f
    → IsRead name file p g → OnlyEntered p g (Err (lex_status f))
lex_only name file L.Memory p g h read = tt
lex_only name file (L.BadByte at) p g h read = h.1 read.tokens read.lexes
lex_only name file (L.OpenComment at) p g h read = h.1 read.tokens read.lexes
lex_only name file (L.LiteralTooWide at) p g h read = h.1 read.tokens read.lexes
lex_only name file (L.Directive line) p g h read = h.1 read.tokens read.lexes
lex_only name file (L.NameTooLong at) p g h read = h.1 read.tokens read.lexes

pub no_tokens : (name file : List ℕ) (f : LexFault) → length file ≤ most_file → UnlessMemory (Stuck file) f
    → UnlessMemory (IsOnlyFault file) f → IsFileAnswer name file (Err (lex_status f))
no_tokens name file f within stuck one =
    record {
      table = tt;
      found = tt;
      stops = lex_stops name file f within stuck;
      only = λ p g read.
          lex_only name file f p g one read;
    }

-- no text of C
parse_stops : (name file : List ℕ) (ts : List Token) (f : ParseFault) → length file ≤ most_file
    → Lexes file ts → IsFault file ts f → StopsInFile name file (parse_status f)
parse_stops name file ts P.Memory within lexes h = tt
parse_stops name file ts (P.NotC at) within lexes h = inr
    (within, inr (ts, lexes, inl (P.NotC at, h, (λ e. absurd cc), (refl, refl))))
parse_stops name file ts (P.Unsupported word at) within lexes h = inr
    (within, inr (ts, lexes, inl (P.Unsupported word at, h, (λ e. absurd cc), (refl, refl))))
parse_stops name file ts (P.TooDeep at) within lexes h = inr
    (within, inr (ts, lexes, inl (P.TooDeep at, h, (λ e. absurd cc), (refl, refl))))

same_items : (name file : List ℕ) (ts : List Token) (p : Program) (g : ℕ) → AreOnly file ts
    → (read : IsRead name file p g) → IsUnit file read.items ts
same_items name file ts p g one read = subst (λ (t : List Token). IsUnit file read.items t)
    (one.0 read.tokens read.lexes) read.parses

parse_only : (name file : List ℕ) (ts : List Token) (f : ParseFault) (p : Program) (g : ℕ) → AreOnly file ts
    → ((is : List Item) → IsUnit file is ts → IsOnly is (Err f)) → IsRead name file p g
    → OnlyEntered p g (Err (parse_status f))
parse_only name file ts P.Memory p g one only read = tt
parse_only name file ts (P.NotC at) p g one only read = only read.items (same_items name file ts p g one read)
parse_only name file ts (P.Unsupported word at) p g one only read = only read.items
    (same_items name file ts p g one read)
parse_only name file ts (P.TooDeep at) p g one only read = only read.items
    (same_items name file ts p g one read)

pub no_text : (name file : List ℕ) (ts : List Token) (f : ParseFault) → length file ≤ most_file
    → Lexes file ts → AreOnly file ts → IsFault file ts f
    → ((is : List Item) → IsUnit file is ts → IsOnly is (Err f))
    → IsFileAnswer name file (Err (parse_status f))
no_text name file ts f within lexes one fault only =
    record {
      table = tt;
      found = tt;
      stops = parse_stops name file ts f within lexes fault;
      only = λ p g read.
          parse_only name file ts f p g one only read;
    }

-- a note that is no annotation
acsl_stops : (name file : List ℕ) (ts : List Token) (is : List Item) (f : AcslFault) → length file ≤ most_file
    → Lexes file ts → IsUnit file is ts → IsFirstFault file (notes_of ts) f
    → StopsInFile name file (acsl_status f)
acsl_stops name file ts is A.Memory within lexes parses h = tt
acsl_stops name file ts is (A.NotAcsl at) within lexes parses h = inr
    (within, inr (ts, lexes, inr (is, parses, inl (A.NotAcsl at, h, (λ e. absurd cc), (refl, refl)))))
acsl_stops name file ts is (A.Unsupported word at) within lexes parses h = inr (
  within,
  inr (
    ts,
    lexes,
    inr
        (is, parses, inl (A.Unsupported word at, h, (λ e. absurd cc), (refl, refl))),
  ),
)
acsl_stops name file ts is (A.TooDeep at) within lexes parses h = inr
    (within, inr (ts, lexes, inr (is, parses, inl (A.TooDeep at, h, (λ e. absurd cc), (refl, refl)))))

same_annots : (name file : List ℕ) (ts : List Token) (p : Program) (g : ℕ) → AreOnly file ts
    → (read : IsRead name file p g) → AreAnnots file read.annots (notes_of ts)
same_annots name file ts p g one read = subst (λ (t : List Token). AreAnnots file read.annots (notes_of t))
    (one.0 read.tokens read.lexes) read.noted

acsl_only : (name file : List ℕ) (ts : List Token) (f : AcslFault) (p : Program) (g : ℕ) → AreOnly file ts
    → ((xs : List Annot) → AreAnnots file xs (notes_of ts) → annot.IsOnly xs (Err f)) → IsRead name file p g
    → OnlyEntered p g (Err (acsl_status f))
acsl_only name file ts A.Memory p g one only read = tt
acsl_only name file ts (A.NotAcsl at) p g one only read = only read.annots
    (same_annots name file ts p g one read)
acsl_only name file ts (A.Unsupported word at) p g one only read = only read.annots
    (same_annots name file ts p g one read)
acsl_only name file ts (A.TooDeep at) p g one only read = only read.annots
    (same_annots name file ts p g one read)

pub no_notes : (name file : List ℕ) (ts : List Token) (is : List Item) (f : AcslFault)
    → length file ≤ most_file → Lexes file ts → AreOnly file ts → IsUnit file is ts
    → IsFirstFault file (notes_of ts) f
    → ((xs : List Annot) → AreAnnots file xs (notes_of ts) → annot.IsOnly xs (Err f))
    → IsFileAnswer name file (Err (acsl_status f))
no_notes name file ts is f within lexes one parses fault only =
    record {
      table = tt;
      found = tt;
      stops = acsl_stops name file ts is f within lexes parses fault;
      only =
          λ p g read. acsl_only name file ts f p g one only read;
    }

-- no program
types_stops : (name : List ℕ) (is : List Item) (annots : List Annot) (f : TypeFault)
    → Checks (text_of is) (Err f) → StopsInTypes name is annots (type_status f)
types_stops name is annots T.Memory h = tt
types_stops name is annots (T.Unknown x) h = inl (T.Unknown x, h, (λ e. absurd cc), (refl, refl))
types_stops name is annots (T.Twice x) h = inl (T.Twice x, h, (λ e. absurd cc), (refl, refl))
types_stops name is annots (T.BadType at) h = inl (T.BadType at, h, (λ e. absurd cc), (refl, refl))
types_stops name is annots (T.Arity at) h = inl (T.Arity at, h, (λ e. absurd cc), (refl, refl))
types_stops name is annots (T.SideEffect at) h = inl (T.SideEffect at, h, (λ e. absurd cc), (refl, refl))
types_stops name is annots (T.Recursive x) h = inl (T.Recursive x, h, (λ e. absurd cc), (refl, refl))
types_stops name is annots (T.ConstWrite at) h = inl (T.ConstWrite at, h, (λ e. absurd cc), (refl, refl))
types_stops name is annots (T.TooManyCells n) h = inl (T.TooManyCells n, h, (λ e. absurd cc), (refl, refl))

types_only : (f : TypeFault) (s : Skeleton) (p : Program) → Repeats s (Err f)
    → OnlyBound p (Err (type_status f))
types_only T.Memory s p h = tt
types_only (T.Unknown x) s p h = h
types_only (T.Twice x) s p h = h
types_only (T.BadType at) s p h = h
types_only (T.Arity at) s p h = h
types_only (T.SideEffect at) s p h = h
types_only (T.Recursive x) s p h = h
types_only (T.ConstWrite at) s p h = h
types_only (T.TooManyCells n) s p h = h

pub no_types : OneProgram → (is : List Item) (annots : List Annot) (f : TypeFault)
    → Checks (text_of is) (Err f) → IsBoundAnswer is annots (Err (type_status f))
no_types law is annots f h = record {
  found = tt;
  stops = λ name. types_stops name is annots f h;
  only = λ p b. types_only f b.skeleton p (law (text_of is) b.skeleton (Err f) b.checks h);
}

-- an annotation in breach
bind_stops : (name : List ℕ) (is : List Item) (annots : List Annot) (s : Skeleton) (f : BindFault)
    → Checks (text_of is) (Ok s) → Binds s annots (Err f) → StopsInTypes name is annots (bind_status f)
bind_stops name is annots s B.Memory checks h = tt
bind_stops name is annots s (B.Unknown x) checks h = inr
    (s, checks, inl (B.Unknown x, h, (λ e. absurd cc), (refl, refl)))
bind_stops name is annots s (B.NotHere at) checks h = inr
    (s, checks, inl (B.NotHere at, h, (λ e. absurd cc), (refl, refl)))
bind_stops name is annots s (B.BadType at) checks h = inr
    (s, checks, inl (B.BadType at, h, (λ e. absurd cc), (refl, refl)))

-- a skeleton and annotations have no program where they have a fault
judged : (s : Skeleton) (annots : List Annot) (first : Option NoteBreach) (p : Program) (f : BindFault)
    → Judges s annots first (Ok p) → Judges s annots first (Err f) → OnlyBound p (Err (bind_status f))
judged s annots first p B.Memory made h = tt
judged s annots None p (B.Unknown x) made h = h
judged s annots None p (B.NotHere at) made h = h
judged s annots None p (B.BadType at) made h = h
judged s annots (Some b) p (B.Unknown x) made h = made
judged s annots (Some b) p (B.NotHere at) made h = made
judged s annots (Some b) p (B.BadType at) made h = made

-- and else one
one_judged : (s : Skeleton) (annots : List Annot) (first : Option NoteBreach) (p q : Program)
    → Judges s annots first (Ok p) → Judges s annots first (Ok q) → p ≡ q
one_judged s annots None p q made again = made ∙ sym again
one_judged s annots (Some b) p q made again = absurd made

same_skeleton : OneProgram → (is : List Item) (annots : List Annot) (s : Skeleton) (p : Program)
    → Checks (text_of is) (Ok s) → (b : IsBound is annots p) → Binds s annots (Ok p)
same_skeleton law is annots s p checks b = subst (λ (k : Skeleton). Binds k annots (Ok p))
    (sym (law (text_of is) b.skeleton (Ok s) b.checks checks)) b.binds

pub no_binding : OneProgram → (is : List Item) (annots : List Annot) (s : Skeleton) (f : BindFault)
    → Checks (text_of is) (Ok s) → Binds s annots (Err f) → IsBoundAnswer is annots (Err (bind_status f))
no_binding law is annots s f checks h = record {
  found = tt;
  stops = λ name. bind_stops name is annots s f checks h;
  only = λ p b. judged s annots (least None (faults_of s annots)) p f
      (same_skeleton law is annots s p checks b) h;
}

pub is_bound : OneProgram → (is : List Item) (annots : List Annot) (s : Skeleton) (p : Program)
    → Checks (text_of is) (Ok s) → Binds s annots (Ok p) → IsBoundAnswer is annots (Ok p)
is_bound law is annots s p checks h = record {
  found = record { skeleton = s; checks = checks; binds = h };
  stops = λ name. tt;
  only = λ q b. one_judged s annots (least None (faults_of s annots)) p q h
      (same_skeleton law is annots s q checks b);
}

-- no entry function
pub no_entry : (name shown : List ℕ) (p : Program) → shown ≡ name → entry_from name 0 p.fns ≡ None
    → IsEntryAnswer name p (Err (S.Refused (Fault.Types (T.Unknown shown))))
no_entry name shown p same none = record {
  same = tt;
  found = tt;
  stops = inl (none, (ap (λ (x : List ℕ). S.Refused (Fault.Types (T.Unknown x))) same, refl));
  only = λ g e. absurd (none-some g (sym none ∙ e.entry));
}

pub no_room : (name : List ℕ) (p : Program) → IsEntryAnswer name p (Err S.Memory)
no_room name p = record { same = tt; found = tt; stops = tt; only = λ g e. tt }

-- too many properties
pub too_many : (name : List ℕ) (p : Program) (g n : ℕ) → entry_from name 0 p.fns ≡ Some g
    → Tables p (Err (Many.TooManyProps n)) → IsEntryAnswer name p (Err (S.Limit (Limit.TooManyProps n)))
unfolding Tables
too_many name p g n is h = record {
  same = tt;
  found = tt;
  stops = inr (g, is, inl (n, h, (refl, refl)));
  only = λ k e. absurd (omega (arith, h.0, e.tables.0));
}

table_of : (p : Program) (t : Props) → Tables p (Ok t) → t ≡ props_of p
unfolding Tables
table_of p t h = h.1

-- few enough
pub few : (name : List ℕ) (p : Program) (e : Entered) → entry_from name 0 p.fns ≡ Some e.entry
    → Tables p (Ok e.props) → e.program ≡ p → IsEntryAnswer name p (Ok e)
few name p e is h same = record {
  same = (same, table_of p e.props h ∙ ap props_of (sym same));
  found = record { entry = is; table = e.props; tables = h };
  stops = tt;
  only = λ g k. (same, same_Some e.entry g (sym is ∙ k.entry));
}

-- no program, or one that isn't entered
entry_stops : (name : List ℕ) (is : List Item) (annots : List Annot) (p : Program) (status : Status)
    → IsBound is annots p → StopsInEntry name p status → StopsInTypes name is annots status
entry_stops name is annots p S.Memory b h = tt
entry_stops name is annots p (S.Refused fault) b h = inr (b.skeleton, b.checks, inr (p, b.binds, h))
entry_stops name is annots p (S.Limit fault) b h = inr (b.skeleton, b.checks, inr (p, b.binds, h))
entry_stops name is annots p (S.ScriptLine line why) b h = h
entry_stops name is annots p S.Done b h = h
entry_stops name is annots p S.Usage b h = h
entry_stops name is annots p S.ReadFault b h = h
entry_stops name is annots p S.WriteFault b h = h

unbound : (status : Status) (p : Program) (g : ℕ) → OnlyBound p (Err status) → OnlyEntered p g (Err status)
unbound S.Memory p g h = tt
unbound (S.Refused fault) p g h = h
unbound (S.Limit fault) p g h = h
unbound (S.ScriptLine line why) p g h = h
unbound S.Done p g h = h
unbound S.Usage p g h = h
unbound S.ReadFault p g h = h
unbound S.WriteFault p g h = h

pub not_bound : (name : List ℕ) (is : List Item) (annots : List Annot) (status : Status)
    → IsBoundAnswer is annots (Err status) → IsTypesAnswer name is annots (Err status)
not_bound name is annots status h =
    record {
      table = tt;
      found = tt;
      stops = h.stops name;
      only = λ p g t. unbound status p g
          (h.only p t.bound);
    }

pub entry_found : (name : List ℕ) (is : List Item) (annots : List Annot) (p : Program)
    (answer : Result Entered Status) → IsBoundAnswer is annots (Ok p) → IsEntryAnswer name p answer
    → IsTypesAnswer name is annots answer
entry_found name is annots p (Ok e) b h = record {
  table = h.same.1;
  found = record {
    bound = subst (λ (q : Program). IsBound is annots q) (sym h.same.0) b.found;
    enters = subst
        (λ (q : Program). Enters name q e.entry) (sym h.same.0) h.found;
  };
  stops = tt;
  only = λ q g t. let same : p
      ≡ q = b.only q t.bound in subst (λ (r : Program). OnlyEntered r g (Ok e)) same
      (h.only g (subst (λ (r : Program). Enters name r g) (sym same) t.enters));
}
entry_found name is annots p (Err status) b h = record {
  table = tt;
  found = tt;
  stops = entry_stops name is annots p status b.found h.stops;
  only = λ q g t. let same : p
      ≡ q = b.only q t.bound in subst (λ (r : Program). OnlyEntered r g (Err status)) same
      (h.only g (subst (λ (r : Program). Enters name r g) (sym same) t.enters));
}

typed_stops : (name file : List ℕ) (ts : List Token) (is : List Item) (annots : List Annot) (status : Status)
    → length file ≤ most_file → Lexes file ts → IsUnit file is ts → AreAnnots file annots (notes_of ts)
    → StopsInTypes name is annots status → StopsInFile name file status
typed_stops name file ts is annots S.Memory within lexes parses noted h = tt
typed_stops name file ts is annots (S.Refused fault) within lexes parses noted h = inr
    (within, inr (ts, lexes, inr (is, parses, inr (annots, noted, h))))
typed_stops name file ts is annots (S.Limit fault) within lexes parses noted h = inr
    (within, inr (ts, lexes, inr (is, parses, inr (annots, noted, h))))
typed_stops name file ts is annots (S.ScriptLine line why) within lexes parses noted h = h
typed_stops name file ts is annots S.Done within lexes parses noted h = h
typed_stops name file ts is annots S.Usage within lexes parses noted h = h
typed_stops name file ts is annots S.ReadFault within lexes parses noted h = h
typed_stops name file ts is annots S.WriteFault within lexes parses noted h = h

-- what was read of a file so far
pub record Parts (file : List ℕ) (ts : List Token) (tree : Tree) (annots : List Annot) : Type 0 where
  pub within : length file ≤ most_file
  pub lexes : Lexes file ts
  pub one : AreOnly file ts
  pub parses : IsUnit file tree.items ts
  pub only : (is : List Item) → IsUnit file is ts → IsOnly is (Ok tree)
  pub noted : AreAnnots file annots (notes_of ts)
  pub only_noted : (xs : List Annot) → AreAnnots file xs (notes_of ts) → annot.IsOnly xs (Ok annots)

-- by what the code has
pub parts_of : (file : List ℕ) (all ts again : List Token) (tree : Tree) (made annots : List Annot)
    → length file ≤ most_file → ts ≡ all → again ≡ all → annots ≡ made → Lexes file all → AreOnly file all
    → IsUnit file tree.items ts → ((is : List Item) → IsUnit file is ts → IsOnly is (Ok tree))
    → AreAnnots file made (notes_of again)
    → ((xs : List Annot) → AreAnnots file xs (notes_of again) → annot.IsOnly xs (Ok made))
    → Parts file all tree annots
parts_of file all ts again tree made annots within is_ts is_again is_annots lexes one parses only noted
    only_noted = record {
      within = within;
      lexes = lexes;
      one = one;
      parses = subst (λ (t : List Token). IsUnit file tree.items t) is_ts parses;
      only = subst (λ (t : List Token). (is : List Item) → IsUnit file is t → IsOnly is (Ok tree)) is_ts only;
      noted = subst (λ (xs : List Annot). AreAnnots file xs (notes_of all)) (sym is_annots)
          (subst (λ (t : List Token). AreAnnots file made (notes_of t)) is_again noted);
      only_noted = subst (λ (ys : List Annot). (xs : List Annot) → AreAnnots file xs (notes_of all)
          → annot.IsOnly xs (Ok ys)) (sym is_annots)
          (subst (λ (t : List Token). (xs : List Annot) → AreAnnots file xs (notes_of t)
          → annot.IsOnly xs (Ok made)) is_again only_noted);
    }

typed_of : (name file : List ℕ) (ts : List Token) (tree : Tree) (annots : List Annot) (p : Program) (g : ℕ)
    → Parts file ts tree annots → (read : IsRead name file p g) → IsTypedText name tree.items annots p g
typed_of name file ts tree annots p g h read =
    subst (λ (xs : List Annot). IsTypedText name tree.items xs p g)
    (h.only_noted read.annots (same_annots name file ts p g h.one read))
    (subst (λ (is : List Item). IsTypedText name is read.annots p g)
    (h.only read.items (same_items name file ts p g h.one read)) read.typed)

pub types_answer : (name file : List ℕ) (ts : List Token) (tree : Tree) (annots : List Annot)
    (answer : Result Entered Status) → Parts file ts tree annots → IsTypesAnswer name tree.items annots answer
    → IsFileAnswer name file answer
types_answer name file ts tree annots (Err status) h answer = record {
  table = tt;
  found = tt;
  stops = typed_stops name file ts tree.items annots status h.within h.lexes h.parses h.noted answer.stops;
  only = λ p g read. answer.only p g (typed_of name file ts tree annots p g h read);
}
types_answer name file ts tree annots (Ok e) h answer = record {
  table = answer.table;
  found = record {
    within = h.within;
    tokens = ts;
    lexes = h.lexes;
    items = tree.items;
    parses = h.parses;
    annots = annots;
    noted = h.noted;
    typed = answer.found;
  };
  stops = tt;
  only = λ p g read. answer.only p g (typed_of name file ts tree annots p g h read);
}
