-- The first note at which a test passes.
use Rattle.std.proofs.Common.{◌≡◌, ◌∙◌, ℕ, zero, suc, ◌+◌, ◌≤◌, Bool, true, false, List, [], ◌∷◌, Option, Some, None, length, min, drop, if◌then◌else◌, refl, ap, sym, arith}
use Rattle.std.specs.List.{position, position_from}
use Rattle.std.specs.Option.{option_and_then}
use Rattle.std.proofs.lemmas.Iterator.Adapters.{position_from-zero}
use Rattle.c_ast.specs.declared.annot.Annot.{Annot}
use Rattle.c_ir.specs.declared.note.NoteSpot.{NoteSpot}
use Rattle.acsl_bind.specs.Notes.{Noted, note_number}
use Rattle.acsl_bind.specs.Programs.{noted_all, first_such}

pub first_from_start : {X : Type 0} (test : X → Bool) (i : ℕ) (xs : List X) → i ≤ 0 → position_from test i (drop i xs) ≡ position test xs
first_from_start test i xs h = let e : i ≡ 0 = omega arith in rw e (sym (position_from-zero test xs))

-- ---- notes with their annotations, from a number on

no_more : (spots : List NoteSpot) → noted_all spots [] ≡ []
no_more [] = refl
no_more (s ∷ ss) = refl

-- behind the last of both there is none
pub none_left : (spots : List NoteSpot) (annots : List Annot) (left : ℕ) → min (length spots) (length annots) ≤ left → noted_all (drop left spots) (drop left annots) ≡ []
none_left [] annots zero h = refl
none_left [] annots (suc n) h = refl
none_left (s ∷ ss) [] zero h = refl
none_left (s ∷ ss) [] (suc n) h = no_more (drop n ss)
none_left (s ∷ ss) (a ∷ rest) zero h = absurd (omega (arith, h))
none_left (s ∷ ss) (a ∷ rest) (suc n) h = none_left ss rest n (omega (arith, h))

pub all_left : (test : Noted → Bool) (spots : List NoteSpot) (annots : List Annot) (left : ℕ) → left ≤ 0 → position_from test left (noted_all (drop left spots) (drop left annots)) ≡ position test (noted_all spots annots)
all_left test spots annots left h = let e : left ≡ 0 = omega arith in rw e (sym (position_from-zero test (noted_all spots annots)))

-- ---- the first note of a kind

choose : {X : Type 0} (N : ℕ → Option X) (b : Bool) (i : ℕ) (p : Option ℕ) (x : X) (q : Option X) → N i ≡ Some x → option_and_then N p ≡ q → option_and_then N (if b then Some i else p) ≡ (if b then Some x else q)
choose N true i p x q here later = here
choose N false i p x q here later = later

first_by : (test : Noted → Bool) (N : ℕ → Option Noted) (i : ℕ) (spots : List NoteSpot) (annots : List Annot) → ((j : ℕ) → N (j + i) ≡ note_number spots annots j) → option_and_then N (position_from test i (noted_all spots annots)) ≡ first_such test (noted_all spots annots)
first_by test N i [] annots same = refl
first_by test N i (s ∷ ss) [] same = refl
first_by test N i (s ∷ ss) (a ∷ rest) same =
    choose N (test (record { spot = s; annot = a })) i (position_from test (i + 1) (noted_all ss rest)) (record { spot = s; annot = a }) (first_such test (noted_all ss rest)) (ap N (omega arith) ∙ same 0)
    (first_by test N (i + 1) ss rest (λ j. ap N (omega arith) ∙ same (suc j)))

pub first_at : (test : Noted → Bool) (spots : List NoteSpot) (annots : List Annot) → option_and_then (note_number spots annots) (position test (noted_all spots annots)) ≡ first_such test (noted_all spots annots)
first_at test spots annots =
    ap (option_and_then (note_number spots annots)) (position_from-zero test (noted_all spots annots))
    ∙ first_by test (note_number spots annots) 0 spots annots (λ j. ap (note_number spots annots) (omega arith))
