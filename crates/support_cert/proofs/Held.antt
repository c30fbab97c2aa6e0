-- What has a support holds.
use Rattle.std.proofs.Common.{◌≡◌, ℕ, zero, suc, ℤ, Bool, true, false, List, [], ◌∷◌, ◌++◌, length, append_assoc, append-nil, Option, Some, None, refl, sym, ap, subst, ◌∙◌, inl, inr, eqb, arith}
use Rattle.std.specs.Prelude.{not, nat_lt, ◌&&◌, ◌||◌, slice_get}
use Rattle.std.specs.List.{list_any, list_all}
use Rattle.std.proofs.lemmas.Bool.{and_parts, and_from, or_cases, or_left, or_right, eqb-true, false≢true, lt-ltb, ltb-true}
use Rattle.fc_base.specs.declared.ids.PropId.{PropId}
use Rattle.fc_base.specs.declared.status.LocalStatus.TheVariants as Status
use Rattle.c_ir.specs.Kinds.{is_dead}
use Rattle.c_ir.specs.Props.{Props}
use Rattle.c_ir.specs.Table.{dead_of, is_dead_row, is_live, is_row, kind_admitted, row_admitted, row_passes, some_row}
use Rattle.c_ir.specs.declared.kind.Kind.{Kind}
use Rattle.c_ir.specs.declared.kind.Kind.TheVariants as K
use Rattle.c_ir.specs.declared.prop.Prop.{Prop}
use Rattle.status_rules.specs.declared.steps.Reason.{Reason}
use Rattle.status_rules.specs.declared.steps.Reason.TheVariants.{Admitted, ByEntry, ByDead}
use Rattle.status_rules.specs.declared.steps.Step.{Step}
use Rattle.status_rules.specs.Counting.{PlacedEntry}
use Rattle.status_rules.specs.Holds.{Basis, dead_passes, entries_on, is_admitted, is_claimed, is_held, is_supported, is_sure, nothing, same_status, some_prop, supports}
use Rattle.status_rules.specs.Support.{IsSupport, has_bare, has_plain, has_step, is_bare, is_by_entry, is_of, is_plain, rests}
use Rattle.status_rules.proofs.Sound.{dead_is_dead}
use Rattle.support_cert.specs.inner.Checked.{all_fit, fits}
use Rattle.support_cert.proofs.Fits.{all_fit-append, support_fits}
use Rattle.support_cert.proofs.Tests.{any_mono, all_mono}

-- entries are on properties of the table alone
pub record OfTable (b : Basis) : Type 0 where
  pub rows : (p : ℕ) (test : PlacedEntry → Bool) → list_any test (entries_on b p) ≡ true
      → is_row b.table p ≡ true

-- a row that passes a test is one
passes_at : (test : Prop → Bool) (rows : List Prop) (p : ℕ) → some_row test (slice_get rows p) ≡ true
    → nat_lt p (length rows) ≡ true
passes_at test [] p h = absurd (false≢true h)
passes_at test (r ∷ rows) zero h = lt-ltb 0 (length (r ∷ rows)) (omega arith)
passes_at test (r ∷ rows) (suc p) h =
    let below = ltb-true p (length rows) (passes_at test rows p h) in
    lt-ltb (suc p) (length (r ∷ rows)) (omega (arith, below))

pub row_from : (t : Props) (test : Prop → Bool) (p : ℕ) → row_passes t test p ≡ true → is_row t p ≡ true
row_from t test p h = passes_at test t.rows p h

-- live properties and admitted ones aren't of kind Dead
live_or_dead : (o : Option Prop) → some_row (λ row. not (is_dead row.kind)) o ≡ true
    → some_row (λ row. is_dead row.kind) o ≡ true → ⊥
live_or_dead None live dead = absurd (false≢true live)
live_or_dead (Some r) live dead = absurd (false≢true (sym (ap not dead) ∙ live))

admitted_kind : (t : Props) (entry : ℤ) (f : ℕ) (k : Kind) → kind_admitted t entry f k ≡ true
    → is_dead k ≡ true → ⊥
admitted_kind t entry f K.Requires h dead = absurd (false≢true dead)
admitted_kind t entry f K.CallRequires h dead = absurd (false≢true dead)
admitted_kind t entry f K.Ensures h dead = absurd (false≢true dead)
admitted_kind t entry f K.Assert h dead = absurd (false≢true dead)
admitted_kind t entry f K.Check h dead = absurd (false≢true dead)
admitted_kind t entry f K.Admit h dead = absurd (false≢true dead)
admitted_kind t entry f K.LoopInvariant h dead = absurd (false≢true dead)
admitted_kind t entry f (K.Alarm a) h dead = absurd (false≢true dead)
admitted_kind t entry f K.Dead h dead = absurd (false≢true h)

admitted_or_dead : (t : Props) (entry : ℤ) (o : Option Prop) → some_row (row_admitted t entry) o ≡ true
    → some_row (λ row. is_dead row.kind) o ≡ true → ⊥
admitted_or_dead t entry None h dead = absurd (false≢true h)
admitted_or_dead t entry (Some r) h dead = admitted_kind t entry r.function.0 r.kind h dead

-- ways to be sure and to hold
pub sure_admitted : (b : Basis) (p : ℕ) → is_admitted b p ≡ true → is_sure b p ≡ true
sure_admitted b p h =
    let claimed = is_claimed Status.True nothing b in
    and_from (is_row b.table p) (is_admitted b p || (claimed p || dead_passes b.table claimed p))
    (row_from b.table (row_admitted b.table b.entry_function) p h)
    (or_left (is_admitted b p) (claimed p || dead_passes b.table claimed p) h)

pub sure_claimed : (b : Basis) → OfTable b → (p : ℕ) → is_claimed Status.True nothing b p ≡ true
    → is_sure b p ≡ true
sure_claimed b good p h =
    let claimed = is_claimed Status.True nothing b in
    and_from (is_row b.table p) (is_admitted b p || (claimed p || dead_passes b.table claimed p))
    (good.rows p (supports Status.True nothing) h)
    (or_right (is_admitted b p) (claimed p || dead_passes b.table claimed p) (or_left (claimed p) (dead_passes b.table claimed p) h))

pub sure_dead : (b : Basis) (p : ℕ) → dead_passes b.table (is_claimed Status.True nothing b) p ≡ true
    → is_sure b p ≡ true
sure_dead b p h =
    let claimed = is_claimed Status.True nothing b in
    let parts = and_parts (is_live b.table p) (some_prop claimed (dead_of b.table.rows p)) h in
    and_from (is_row b.table p) (is_admitted b p || (claimed p || dead_passes b.table claimed p))
    (row_from b.table (λ row. not (is_dead row.kind)) p parts.0)
    (or_right (is_admitted b p) (claimed p || dead_passes b.table claimed p) (or_right (claimed p) (dead_passes b.table claimed p) h))

held_sure : (b : Basis) (p : ℕ) → is_sure b p ≡ true → is_held b p ≡ true
held_sure b p h =
    let claimed = is_supported Status.True b in
    let plain = is_claimed Status.True nothing b in
    and_from (is_row b.table p) (is_sure b p || (claimed p || dead_passes b.table claimed p))
    (and_parts (is_row b.table p) (is_admitted b p || (plain p || dead_passes b.table plain p)) h).0
    (or_left (is_sure b p) (claimed p || dead_passes b.table claimed p) h)

held_supported : (b : Basis) → OfTable b → (p : ℕ) → is_supported Status.True b p ≡ true → is_held b p ≡ true
held_supported b good p h =
    let claimed = is_supported Status.True b in
    and_from (is_row b.table p) (is_sure b p || (claimed p || dead_passes b.table claimed p))
    (good.rows p (supports Status.True (is_sure b)) h)
    (or_right (is_sure b p) (claimed p || dead_passes b.table claimed p) (or_left (claimed p) (dead_passes b.table claimed p) h))

held_dead : (b : Basis) (p : ℕ) → dead_passes b.table (is_supported Status.True b) p ≡ true
    → is_held b p ≡ true
held_dead b p h =
    let claimed = is_supported Status.True b in
    let parts = and_parts (is_live b.table p) (some_prop claimed (dead_of b.table.rows p)) h in
    and_from (is_row b.table p) (is_sure b p || (claimed p || dead_passes b.table claimed p))
    (row_from b.table (λ row. not (is_dead row.kind)) p parts.0)
    (or_right (is_sure b p) (claimed p || dead_passes b.table claimed p) (or_right (claimed p) (dead_passes b.table claimed p) h))

-- a claim by an entry, and with a weaker test of hypotheses
pub by_entry_claims : (known : ℕ → Bool) (b : Basis) (p k : ℕ) → is_by_entry known b p k ≡ true
    → is_claimed Status.True known b p ≡ true
by_entry_claims known b p k h =
    any_mono (λ (e : PlacedEntry). eqb e.place k && supports Status.True known e) (supports Status.True known) (entries_on b p)
    (λ e is. (and_parts (eqb e.place k) (supports Status.True known e) is).1) h

supports_mono : (f g : ℕ → Bool) → ((q : ℕ) → f q ≡ true → g q ≡ true) → (e : PlacedEntry)
    → supports Status.True f e ≡ true → supports Status.True g e ≡ true
supports_mono f g more e h =
    let same = λ (e : PlacedEntry). same_status e.entry.status Status.True in
    let parts = and_parts (same e) (list_all (λ (q : PropId). f q.0) e.entry.hyps) h in
    and_from (same e) (list_all (λ (q : PropId). g q.0) e.entry.hyps) parts.0
    (all_mono (λ (q : PropId). f q.0) (λ (q : PropId). g q.0) e.entry.hyps (λ q is. more q.0 is) parts.1)

claimed_mono : (f g : ℕ → Bool) → ((q : ℕ) → f q ≡ true → g q ≡ true) → (b : Basis) (p : ℕ)
    → is_claimed Status.True f b p ≡ true → is_claimed Status.True g b p ≡ true
claimed_mono f g more b p h =
    any_mono (supports Status.True f) (supports Status.True g) (entries_on b p) (supports_mono f g more) h

some_mono : (f g : ℕ → Bool) → ((q : ℕ) → f q ≡ true → g q ≡ true) → (o : Option PropId)
    → some_prop f o ≡ true → some_prop g o ≡ true
some_mono f g more None h = absurd (false≢true h)
some_mono f g more (Some d) h = more d.0 h

pub dead_mono : (t : Props) (f g : ℕ → Bool) → ((q : ℕ) → f q ≡ true → g q ≡ true) → (p : ℕ)
    → dead_passes t f p ≡ true → dead_passes t g p ≡ true
dead_mono t f g more p h =
    let parts = and_parts (is_live t p) (some_prop f (dead_of t.rows p)) h in
    and_from (is_live t p) (some_prop g (dead_of t.rows p)) parts.0 (some_mono f g more (dead_of t.rows p) parts.1)

-- what follows from a step on a property among good ones
any_step : (good f : Step → Bool) (P : ℕ → Type 0) (q : ℕ) (steps : List Step) → list_all good steps ≡ true
    → ((s : Step) → good s ≡ true → f s ≡ true → P s.prop.0) → list_any (λ s. is_of q s && f s) steps ≡ true
    → P q
any_step good f P q [] all each h = absurd (false≢true h)
any_step good f P q (s ∷ steps) all each h =
    let both = and_parts (good s) (list_all good steps) all in
    elim (or_cases (is_of q s && f s) (list_any (λ x. is_of q x && f x) steps) h) [
      | inl first ↦ let parts = and_parts (is_of q s) (f s) first in subst P (eqb-true s.prop.0 q parts.0) (each s both.0 parts.1)
      | inr rest ↦ any_step good f P q steps both.1 each rest
    ]

all_pass : (steps : List Step) → list_all (λ s. true) steps ≡ true
all_pass [] = refl
all_pass (s ∷ steps) = all_pass steps

bare_is_claimed : (b : Basis) (p : ℕ) (why : Reason) → is_bare b p why ≡ true
    → is_claimed Status.True nothing b p ≡ true
bare_is_claimed b p Admitted h = absurd (false≢true h)
bare_is_claimed b p (ByEntry k) h = by_entry_claims nothing b p k h
bare_is_claimed b p ByDead h = absurd (false≢true h)

pub bare_claims : (b : Basis) (steps : List Step) (q : ℕ) → has_bare b steps q ≡ true
    → is_claimed Status.True nothing b q ≡ true
bare_claims b steps q h =
    any_step (λ s. true) (λ s. is_bare b s.prop.0 s.reason) (λ p. is_claimed Status.True nothing b p ≡ true) q steps (all_pass steps)
    (λ s any is. bare_is_claimed b s.prop.0 s.reason is) h

-- good steps: what they say is admitted is, and what they say of a property of kind Dead has a counted True entry
-- with sure hypotheses
abbrev pub is_right : Basis → ℕ → Reason → Bool
is_right b p Admitted = is_admitted b p
is_right b p (ByEntry k) = true
is_right b p ByDead = true

abbrev pub is_good : Basis → Step → Bool
is_good b s =
    is_right b s.prop.0 s.reason && (not (is_dead_row b.table s.prop.0) || is_supported Status.True b s.prop.0)

plain_sure : (b : Basis) → OfTable b → (steps : List Step) (p : ℕ) (why : Reason) → is_right b p why ≡ true
    → is_plain b steps p why ≡ true → is_sure b p ≡ true
plain_sure b good steps p Admitted right h = sure_admitted b p right
plain_sure b good steps p (ByEntry k) right h = sure_claimed b good p (by_entry_claims nothing b p k h)
plain_sure b good steps p ByDead right h =
    sure_dead b p (dead_mono b.table (has_bare b steps) (is_claimed Status.True nothing b) (bare_claims b steps) p h)

has_plain_sure : (b : Basis) → OfTable b → (steps : List Step) → list_all (is_good b) steps ≡ true → (q : ℕ)
    → has_plain b steps q ≡ true → is_sure b q ≡ true
has_plain_sure b good steps all q h =
    any_step (is_good b) (λ s. is_plain b steps s.prop.0 s.reason) (λ p. is_sure b p ≡ true) q steps all
    (λ s is plain. plain_sure b good steps s.prop.0 s.reason (and_parts (is_right b s.prop.0 s.reason) (not (is_dead_row b.table s.prop.0) || is_supported Status.True b s.prop.0) is).0 plain) h

dead_or : (d s : Bool) → (not d || s) ≡ true → d ≡ true → s ≡ true
dead_or true s h dead = h
dead_or false s h dead = absurd (false≢true dead)

or_not : (d s : Bool) → (d ≡ true → ⊥) → (not d || s) ≡ true
or_not true s none = absurd (none refl)
or_not false s none = refl

step_is : (b : Basis) (before : List Step) (d : ℕ) → list_all (is_good b) before ≡ true
    → has_step before d ≡ true → is_dead_row b.table d ≡ true → is_supported Status.True b d ≡ true
step_is b before d all h =
    any_step (is_good b) (λ s. true) (λ p. is_dead_row b.table p ≡ true → is_supported Status.True b p ≡ true) d before all
    (λ s is any dead. dead_or (is_dead_row b.table s.prop.0) (is_supported Status.True b s.prop.0) (and_parts (is_right b s.prop.0 s.reason) (not (is_dead_row b.table s.prop.0) || is_supported Status.True b s.prop.0) is).1 dead)
    (any_mono (is_of d) (λ s. is_of d s && true) before (λ s is. and_from (is_of d s) true is refl) h)

some_supported : (b : Basis) (before : List Step) (p : ℕ) (o : Option PropId)
    → list_all (is_good b) before ≡ true → dead_of b.table.rows p ≡ o → some_prop (has_step before) o ≡ true
    → some_prop (is_supported Status.True b) o ≡ true
some_supported b before p None all is h = absurd (false≢true h)
some_supported b before p (Some d) all is h = step_is b before d.0 all h (dead_is_dead b.table p d is)

-- what follows from a step that rests on good ones
record Follows (b : Basis) (p : ℕ) (why : Reason) : Type 0 where
  good : is_good b (record { prop = record { 0 = p }; reason = why }) ≡ true
  held : is_held b p ≡ true

follows : (b : Basis) → OfTable b → (before : List Step) (p : ℕ) (why : Reason)
    → list_all (is_good b) before ≡ true → rests b before p why ≡ true → Follows b p why
follows b table before p Admitted all h = record {
  good = and_from (is_admitted b p) (not (is_dead_row b.table p) || is_supported Status.True b p) h (or_not (is_dead_row b.table p) (is_supported Status.True b p) (admitted_or_dead b.table b.entry_function (slice_get b.table.rows p) h));
  held = held_sure b p (sure_admitted b p h);
}
follows b table before p (ByEntry k) all h =
    let supported = claimed_mono (has_plain b before) (is_sure b) (has_plain_sure b table before all) b p (by_entry_claims (has_plain b before) b p k h) in
    record {
      good = or_right (not (is_dead_row b.table p)) (is_supported Status.True b p) supported;
      held = held_supported b table p supported;
    }
follows b table before p ByDead all h =
    let parts = and_parts (is_live b.table p) (some_prop (has_step before) (dead_of b.table.rows p)) h in
    record {
      good = or_not (is_dead_row b.table p) (is_supported Status.True b p) (live_or_dead (slice_get b.table.rows p) parts.0);
      held = held_dead b p (and_from (is_live b.table p) (some_prop (is_supported Status.True b) (dead_of b.table.rows p)) parts.0 (some_supported b before p (dead_of b.table.rows p) all refl parts.1));
    }

all-append : (f : Step → Bool) (xs : List Step) (s : Step) → list_all f xs ≡ true → f s ≡ true
    → list_all f (xs ++ s ∷ []) ≡ true
all-append f [] s h is = and_from (f s) true is refl
all-append f (x ∷ xs) s h is =
    let parts = and_parts (f x) (list_all f xs) h in and_from (f x) (list_all f (xs ++ s ∷ [])) parts.0 (all-append f xs s parts.1 is)

all_good : (b : Basis) → OfTable b → (before ss : List Step) → list_all (is_good b) before ≡ true
    → all_fit b before ss ≡ true → list_all (is_good b) (before ++ ss) ≡ true
all_good b table before [] all h = ap (list_all (is_good b)) (append-nil before) ∙ all
all_good b table before (s ∷ ss) all h =
    let parts = and_parts (fits b before s) (all_fit b (before ++ s ∷ []) ss) h in
    let step = (and_parts (rests b before s.prop.0 s.reason) (not (has_step before s.prop.0)) parts.0).0 in
    let next = all-append (is_good b) before s all (follows b table before s.prop.0 s.reason all step).good in
    ap (list_all (is_good b)) (sym (append_assoc before (s ∷ []) ss)) ∙ all_good b table (before ++ s ∷ []) ss next parts.1

pub support_held : (b : Basis) → OfTable b → (p : ℕ) (steps : List Step) → IsSupport b p steps
    → is_held b p ≡ true
support_held b table p steps sound =
    let front = sound.ends.0 in
    let s = sound.ends.1 in
    let whole = sym (all_fit-append b [] front (s ∷ [])) ∙ (ap (all_fit b []) (sym sound.ends.2) ∙ support_fits b p steps sound) in
    let fit = (and_parts (all_fit b [] front) (all_fit b front (s ∷ [])) whole).0 in
    let good = all_good b table [] front refl fit in
    ap (is_held b) (sym sound.ends.3) ∙ (follows b table front s.prop.0 s.reason good (sound.each_rests front [] s sound.ends.2)).held
