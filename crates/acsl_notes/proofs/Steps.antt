-- One token more of a text.
use Rattle.std.proofs.Common.{◌≡◌, ◌∙◌, ◌++◌, ◌∷◌, [], ℕ, List, Some, None, Ok, Err, inl, inr, refl, sym, ap, subst, append_assoc, append-nil}
use Rattle.std.specs.Prelude.{Option}
use Rattle.c_ast.specs.declared.annot.Annot.{Annot}
use Rattle.acsl_read.specs.declared.text.AcslFault.{AcslFault}
use Rattle.acsl_read.specs.declared.text.AcslFault.TheVariants as F
use Rattle.acsl_read.specs.Program.{IsAnnot, IsOnly as IsOnlyNote}
use Rattle.acsl_notes.specs.Notes.{Between, with_note, AreAnnots, IsOnly, IsFirstFault}
use Rattle.acsl_notes.specs.inner.Reading.{Adds}

-- where a note has an annotation, the one fault is want of memory
pub memory_alone : (a : Annot) (f : AcslFault) → IsOnlyNote a (Err f) → f ≡ F.Memory
memory_alone a (F.NotAcsl at) is = absurd is
memory_alone a (F.Unsupported word at) is = absurd is
memory_alone a (F.TooDeep at) is = absurd is
memory_alone a F.Memory is = refl

-- what is found for the notes that are left is found for all
abbrev pub Found : List ℕ → List Annot → List Between → List Between → Type 0
Found bytes done left all = (xs : List Annot) → AreAnnots bytes xs left → AreAnnots bytes (done ++ xs) all

-- annotations of all notes begin with those that were found
abbrev pub Only : List ℕ → List Annot → List Between → List Between → Type 0
Only bytes done left all =
    (xs : List Annot) → AreAnnots bytes xs all → (more : List Annot) × (xs ≡ done ++ more) × AreAnnots bytes more left

-- the first fault of the notes that are left is that of all
abbrev pub Fault : List ℕ → List Between → List Between → Type 0
Fault bytes left all = (f : AcslFault) → IsFirstFault bytes left f → IsFirstFault bytes all f

pub found : (bytes : List ℕ) (n : Option Between) (ns all : List Between) (old new : List Annot) (u : Unit {0}) → Adds bytes n old new (Ok u) → Found bytes old (with_note n ns) all → Found bytes new ns all
found bytes None ns all old new u adds goes = λ xs p. rw adds (goes xs p)
found bytes (Some n) ns all old new u (a, is, one, only) goes = λ xs p. rw (is, append_assoc old (a ∷ []) xs) (goes (a ∷ xs) (one, p))

-- annotations of a note and of others begin with that of the note
head_is : (bytes : List ℕ) (n : Between) (ns : List Between) (old new : List Annot) (a : Annot) (xs more : List Annot) → new ≡ old ++ a ∷ [] → ((b : Annot) → IsAnnot bytes b n.tokens → b ≡ a) → xs ≡ old ++ more → AreAnnots bytes more (n ∷ ns) → (rest : List Annot) × (xs ≡ new ++ rest) × AreAnnots bytes rest ns
head_is bytes n ns old new a xs [] is only begins p = absurd p
head_is bytes n ns old new a xs (b ∷ rest) is only begins (one, others) =
    (rest, begins ∙ ap (λ (c : Annot). old ++ c ∷ rest) (only b one) ∙ sym (append_assoc old (a ∷ []) rest) ∙ ap (λ (ys : List Annot). ys ++ rest) (sym is), others)

pub only : (bytes : List ℕ) (n : Option Between) (ns all : List Between) (old new : List Annot) (u : Unit {0}) → Adds bytes n old new (Ok u) → Only bytes old (with_note n ns) all → Only bytes new ns all
only bytes None ns all old new u adds goes = λ xs p. rw adds (goes xs p)
only bytes (Some n) ns all old new u (a, is, one, sole) goes = λ xs p. let (more, begins, q) = goes xs p in head_is bytes n ns old new a xs more is sole begins q

pub fault : (bytes : List ℕ) (n : Option Between) (ns all : List Between) (old new : List Annot) (u : Unit {0}) → Adds bytes n old new (Ok u) → Fault bytes (with_note n ns) all → Fault bytes ns all
fault bytes None ns all old new u adds goes = goes
fault bytes (Some n) ns all old new u (a, is, one, sole) goes = λ f p. goes f (inr (a, one, p))

-- a note has this fault
pub is_fault : (bytes : List ℕ) (n : Option Between) (ns all : List Between) (old new : List Annot) (f : AcslFault) → Adds bytes n old new (Err f) → Fault bytes (with_note n ns) all → IsFirstFault bytes all f
is_fault bytes None ns all old new f adds goes = absurd adds
is_fault bytes (Some n) ns all old new f (is, sole) goes = goes f (inl is)

memory : (bytes : List ℕ) (n : Between) (ns : List Between) (more : List Annot) (f : AcslFault) → ((b : Annot) → IsAnnot bytes b n.tokens → f ≡ F.Memory) → AreAnnots bytes more (n ∷ ns) → f ≡ F.Memory
memory bytes n ns [] f sole p = absurd p
memory bytes n ns (b ∷ more) f sole (one, others) = sole b one

pub is_only : (bytes : List ℕ) (n : Option Between) (ns all : List Between) (old new : List Annot) (f : AcslFault) → Adds bytes n old new (Err f) → Only bytes old (with_note n ns) all → (xs : List Annot) → AreAnnots bytes xs all → IsOnly xs (Err f)
is_only bytes None ns all old new f adds goes = absurd adds
is_only bytes (Some n) ns all old new f (is, sole) goes = λ xs p. let (more, begins, q) = goes xs p in rw (memory bytes n ns more f sole q) tt

-- with no note left, all annotations are those that were found
pub all_found : (bytes : List ℕ) (done : List Annot) (all : List Between) → Found bytes done [] all → AreAnnots bytes done all
all_found bytes done all goes = subst (λ (xs : List Annot). AreAnnots bytes xs all) (append-nil done) (goes [] tt)

all_only-with : (bytes : List ℕ) (done xs more : List Annot) → xs ≡ done ++ more → AreAnnots bytes more [] → xs ≡ done
all_only-with bytes done xs [] begins p = begins ∙ append-nil done
all_only-with bytes done xs (b ∷ more) begins p = absurd p

pub all_only : (bytes : List ℕ) (done : List Annot) (all : List Between) → Only bytes done [] all → (xs : List Annot) → AreAnnots bytes xs all → xs ≡ done
all_only bytes done all goes = λ xs p. let (more, begins, q) = goes xs p in all_only-with bytes done xs more begins q
