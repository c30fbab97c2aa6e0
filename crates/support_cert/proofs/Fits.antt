-- Steps that fit one after the other are a support.
use Rattle.std.proofs.Common.{◌≡◌, ℕ, Bool, true, false, List, [], ◌∷◌, ◌++◌, append_assoc, append-nil, length, refl, sym, ap, ◌∙◌, arith}
use Rattle.std.specs.Prelude.{not, ◌&&◌}
use Rattle.std.proofs.lemmas.Bool.{and_parts, and_from, not_from_false, false≢true}
use Rattle.status_rules.specs.declared.steps.Step.{Step}
use Rattle.status_rules.specs.Holds.{Basis}
use Rattle.status_rules.specs.Support.{IsSupport, has_step, rests}
use Rattle.support_cert.specs.inner.Checked.{all_fit, fits, is_certificate}

and_assoc : (a b c : Bool) → (a && (b && c)) ≡ ((a && b) && c)
and_assoc true b c = refl
and_assoc false b c = refl

pub all_fit-append : (b : Basis) (pre xs ys : List Step)
    → all_fit b pre (xs ++ ys) ≡ (all_fit b pre xs && all_fit b (pre ++ xs) ys)
all_fit-append b pre [] ys = ap (λ zs. all_fit b zs ys) (sym (append-nil pre))
all_fit-append b pre (x ∷ xs) ys =
    ap (λ c. fits b pre x && c) (all_fit-append b (pre ++ x ∷ []) xs ys ∙ ap (λ zs. all_fit b (pre ++ x ∷ []) xs && all_fit b zs ys) (append_assoc pre (x ∷ []) xs))
    ∙ and_assoc (fits b pre x) (all_fit b (pre ++ x ∷ []) xs) (all_fit b (pre ++ x ∷ xs) ys)

not_false : (c : Bool) → not c ≡ true → c ≡ false
not_false true h = absurd (false≢true h)
not_false false h = refl

-- from steps that fit
pub fits_at : (b : Basis) (steps before after : List Step) (s : Step) → all_fit b [] steps ≡ true
    → steps ≡ before ++ s ∷ after → fits b before s ≡ true
fits_at b steps before after s h is =
    let whole = sym (all_fit-append b [] before (s ∷ after)) ∙ (ap (all_fit b []) (sym is) ∙ h) in
    let rest = (and_parts (all_fit b [] before) (all_fit b before (s ∷ after)) whole).1 in
    (and_parts (fits b before s) (all_fit b (before ++ s ∷ []) after) rest).0

pub support_from : (b : Basis) (p : ℕ) (steps front : List Step) (s : Step) → all_fit b [] steps ≡ true
    → steps ≡ front ++ s ∷ [] → s.prop.0 ≡ p → IsSupport b p steps
support_from b p steps front s h is last = record {
  each_rests = λ before after x at. (and_parts (rests b before x.prop.0 x.reason) (not (has_step before x.prop.0)) (fits_at b steps before after x h at)).0;
  no_two = λ before after x at. not_false (has_step before x.prop.0) (and_parts (rests b before x.prop.0 x.reason) (not (has_step before x.prop.0)) (fits_at b steps before after x h at)).1;
  ends = (front, s, is, last);
}

-- and back
fit_rest : (b : Basis) (p : ℕ) (steps pre ss : List Step) → IsSupport b p steps → steps ≡ pre ++ ss
    → all_fit b pre ss ≡ true
fit_rest b p steps pre [] sound is = refl
fit_rest b p steps pre (s ∷ ss) sound is =
    and_from (fits b pre s) (all_fit b (pre ++ s ∷ []) ss)
    (and_from (rests b pre s.prop.0 s.reason) (not (has_step pre s.prop.0)) (sound.each_rests pre ss s is) (not_from_false (has_step pre s.prop.0) (sound.no_two pre ss s is)))
    (fit_rest b p steps (pre ++ s ∷ []) ss sound (is ∙ sym (append_assoc pre (s ∷ []) ss)))

pub support_fits : (b : Basis) (p : ℕ) (steps : List Step) → IsSupport b p steps → all_fit b [] steps ≡ true
support_fits b p steps sound = fit_rest b p steps [] steps sound refl

-- the last of some steps
record Last (s : Step) (ss : List Step) : Type 0 where
  front : List Step
  last : Step
  is : s ∷ ss ≡ front ++ last ∷ []

last_of : (s : Step) (ss : List Step) → Last s ss
last_of s [] = record { front = []; last = s; is = refl }
last_of s (x ∷ ss) =
    let found = last_of x ss in record { front = s ∷ found.front; last = found.last; is = ap (λ ys. s ∷ ys) found.is }

pub certified : (b : Basis) (steps : List Step) → is_certificate b steps ≡ true
    → (p : ℕ) × IsSupport b p steps
certified b [] h = absurd (false≢true h)
certified b (s ∷ ss) h =
    let found = last_of s ss in (found.last.prop.0, support_from b found.last.prop.0 (s ∷ ss) found.front found.last h found.is refl)

-- no list is empty and isn't
empty_cons : (x : Step) (xs : List Step) → [] ≡ x ∷ xs → ⊥
empty_cons x xs is = let e : 0 ≡ length (x ∷ xs) = ap length is in absurd (omega (arith, e))

fits_both : (front : List Step) (s : Step) → [] ≡ front ++ s ∷ [] → ⊥
fits_both [] s is = empty_cons s [] is
fits_both (x ∷ front) s is = empty_cons x (front ++ s ∷ []) is

pub certificate_from : (b : Basis) (p : ℕ) (steps : List Step) → IsSupport b p steps
    → is_certificate b steps ≡ true
certificate_from b p [] sound = absurd (fits_both sound.ends.0 sound.ends.1 sound.ends.2)
certificate_from b p (s ∷ ss) sound = support_fits b p (s ∷ ss) sound
