-- The steps that are computed are a support.
use Rattle.std.proofs.Common.{◌≡◌, ℕ, Bool, true, false, cond, List, [], ◌∷◌, ◌++◌, Option, Some, None, refl, sym, ap, subst, ◌∙◌, inl, inr, eqb}
use Rattle.std.specs.Prelude.{not, nat_le, ◌&&◌, ◌||◌}
use Rattle.std.specs.List.{list_all}
use Rattle.std.proofs.lemmas.Option.{none-some}
use Rattle.std.proofs.lemmas.Bool.{and_parts, and_from, or_cases, and_right, or_from, eqb-true, eq-eqb, ne_eqb, false≢true, not_from_false, false_from_ne_true}
use Rattle.fc_base.specs.declared.ids.PropId.{PropId}
use Rattle.fc_base.specs.declared.status.LocalStatus.TheVariants as Status
use Rattle.c_ir.specs.Props.{Props}
use Rattle.c_ir.specs.Table.{dead_of, is_live, is_row}
use Rattle.status_rules.specs.declared.steps.Reason.{Reason}
use Rattle.status_rules.specs.declared.steps.Reason.TheVariants.{Admitted, ByEntry, ByDead}
use Rattle.status_rules.specs.declared.steps.Step.{Step}
use Rattle.status_rules.specs.Counting.{PlacedEntry}
use Rattle.status_rules.specs.Holds.{Basis, dead_passes, entries_on, is_admitted, is_claimed, is_held, is_supported, is_sure, nothing, same_status, some_prop, supports}
use Rattle.status_rules.specs.Support.{IsSupport, IsSupportIfHeld, has_bare, has_plain, has_step, is_bare, is_by_entry, is_of, is_plain, rests}
use Rattle.support_cert.specs.inner.Checked.{all_fit, fits}
use Rattle.support_cert.specs.inner.Found.{bare_entry, by_entry, dead_entry_steps, dead_steps, entry_by, entry_steps, other_steps, step_of, support_of, sure_entry, sure_steps, sure_steps_by, usable, with_all, with_dead, with_dead_of, with_step, with_sure}
use Rattle.support_cert.specs.inner.Scanned.{live_dead}
use Rattle.support_cert.proofs.Fits.{all_fit-append, support_from}
use Rattle.support_cert.proofs.Held.{OfTable, dead_mono, sure_claimed, sure_dead}
use Rattle.support_cert.proofs.Tests.{clash, any_both, any_first, any_last, all_mono, any_mono, any_parts, find_found, find_none}

-- places of entries are at most m, and entries are on properties of the table
pub record Usual (m : ℕ) (b : Basis) : Type 0 where
  pub table : OfTable b
  pub places : (p : ℕ) → list_all (λ (e : PlacedEntry). nat_le e.place m) (entries_on b p) ≡ true

-- what is claimed has an entry that is found, and what is found is claimed
none_claimed : (m : ℕ) (b : Basis) → Usual m b → (known : ℕ → Bool) (p : ℕ) → entry_by m known b p ≡ None
    → is_claimed Status.True known b p ≡ false
none_claimed m b usual known p is =
    sym (any_both (λ (e : PlacedEntry). nat_le e.place m) (supports Status.True known) (entries_on b p) (usual.places p))
    ∙ find_none (usable m known) (entries_on b p) is

entry_supports : (m : ℕ) (known : ℕ → Bool) (b : Basis) (p : ℕ) (e : PlacedEntry)
    → entry_by m known b p ≡ Some e → supports Status.True known e ≡ true
entry_supports m known b p e is =
    (and_parts (nat_le e.place m) (supports Status.True known e) (find_found (usable m known) (entries_on b p) e is).passes).1

entry_claims : (m : ℕ) (known : ℕ → Bool) (b : Basis) (p : ℕ) (e : PlacedEntry)
    → entry_by m known b p ≡ Some e → is_claimed Status.True known b p ≡ true
entry_claims m known b p e is =
    (find_found (usable m known) (entries_on b p) e is).among (supports Status.True known) (entry_supports m known b p e is)

-- a step by an entry, whose hypotheses pass a test
entry_rests : (m : ℕ) (known also : ℕ → Bool) (b : Basis) (p : ℕ) (e : PlacedEntry)
    → entry_by m known b p ≡ Some e → supports Status.True also e ≡ true → is_by_entry also b p e.place ≡ true
entry_rests m known also b p e is h =
    (find_found (usable m known) (entries_on b p) e is).among (λ x. eqb x.place e.place && supports Status.True also x)
    (and_from (eqb e.place e.place) (supports Status.True also e) (eq-eqb e.place e.place refl) h)

all_of_none : (known : ℕ → Bool) (qs : List PropId) → list_all (λ (q : PropId). nothing q.0) qs ≡ true
    → list_all (λ (q : PropId). known q.0) qs ≡ true
all_of_none known [] h = refl
all_of_none known (q ∷ qs) h = absurd (false≢true h)

bare_supports : (known : ℕ → Bool) (e : PlacedEntry) → supports Status.True nothing e ≡ true
    → supports Status.True known e ≡ true
bare_supports known e h =
    let parts = and_parts (same_status e.entry.status Status.True) (list_all (λ (q : PropId). nothing q.0) e.entry.hyps) h in
    and_from (same_status e.entry.status Status.True) (list_all (λ (q : PropId). known q.0) e.entry.hyps) parts.0 (all_of_none known e.entry.hyps parts.1)

-- plain and bare steps stay so among more
plain_more : (b : Basis) (xs ys : List Step) (p : ℕ) (why : Reason) → is_plain b xs p why ≡ true
    → is_plain b (xs ++ ys) p why ≡ true
plain_more b xs ys p Admitted h = refl
plain_more b xs ys p (ByEntry k) h = h
plain_more b xs ys p ByDead h =
    dead_mono b.table (has_bare b xs) (has_bare b (xs ++ ys)) (λ q is. any_first (λ (s : Step). is_of q s && is_bare b s.prop.0 s.reason) xs ys is) p h

has_plain_more : (b : Basis) (xs ys : List Step) (q : ℕ) → has_plain b xs q ≡ true
    → has_plain b (xs ++ ys) q ≡ true
has_plain_more b xs ys q h =
    let old = λ (s : Step). is_of q s && is_plain b xs s.prop.0 s.reason in
    let new = λ (s : Step). is_of q s && is_plain b (xs ++ ys) s.prop.0 s.reason in
    any_first new xs ys (any_mono old new xs (λ s is. let parts = and_parts (is_of q s) (is_plain b xs s.prop.0 s.reason) is in and_from (is_of q s) (is_plain b (xs ++ ys) s.prop.0 s.reason) parts.0 (plain_more b xs ys s.prop.0 s.reason parts.1)) h)

-- Steps that fit, are plain and on sure properties; and a property that has an entry without hypotheses has a step by
-- such an entry.
pub record Plain (b : Basis) (steps : List Step) : Type 0 where
  pub fit : all_fit b [] steps ≡ true
  pub plain : (q : ℕ) → has_step steps q ≡ true → has_plain b steps q ≡ true
  pub bare : (q : ℕ) → has_step steps q ≡ true → is_claimed Status.True nothing b q ≡ true
      → has_bare b steps q ≡ true
  pub sure : (q : ℕ) → has_step steps q ≡ true → is_sure b q ≡ true

no_steps : (b : Basis) → Plain b []
no_steps b = record {
  fit = refl;
  plain = λ q h. absurd (false≢true h);
  bare = λ q h c. absurd (false≢true h);
  sure = λ q h. absurd (false≢true h);
}

-- one more step, on a property that had none
pub fit_more : (b : Basis) (steps : List Step) (p : ℕ) (why : Reason) → all_fit b [] steps ≡ true
    → has_step steps p ≡ false → rests b steps p why ≡ true
    → all_fit b [] (steps ++ step_of p why ∷ []) ≡ true
fit_more b steps p why fit none h =
    all_fit-append b [] steps (step_of p why ∷ [])
    ∙ and_from (all_fit b [] steps) (all_fit b steps (step_of p why ∷ [])) fit
    (and_from (fits b steps (step_of p why)) true (and_from (rests b steps p why) (not (has_step steps p)) h (not_from_false (has_step steps p) none)) refl)

pub record IsPlainStep (b : Basis) (steps : List Step) (p : ℕ) (why : Reason) : Type 0 where
  new : has_step steps p ≡ false
  fit : rests b steps p why ≡ true
  plain : is_plain b steps p why ≡ true
  bare : is_claimed Status.True nothing b p ≡ true → is_bare b p why ≡ true
  sure : is_sure b p ≡ true

old_or_new : (steps : List Step) (p : ℕ) (why : Reason) (P : ℕ → Type 0)
    → ((q : ℕ) → has_step steps q ≡ true → P q) → P p → (q : ℕ)
    → has_step (steps ++ step_of p why ∷ []) q ≡ true → P q
old_or_new steps p why P old new q h =
    elim (or_cases (has_step steps q) (is_of q (step_of p why)) (sym (any_parts (is_of q) steps (step_of p why)) ∙ h)) [
      | inl first ↦ old q first
      | inr last ↦ subst P (eqb-true p q last) new
    ]

plain_next : (b : Basis) (steps : List Step) (p : ℕ) (why : Reason) → Plain b steps
    → IsPlainStep b steps p why → Plain b (steps ++ step_of p why ∷ [])
plain_next b steps p why all one =
    let s = step_of p why in
    let more = steps ++ s ∷ [] in
    record {
      fit = fit_more b steps p why all.fit one.new one.fit;
      plain = old_or_new steps p why (λ q. has_plain b more q ≡ true) (λ q h. has_plain_more b steps (s ∷ []) q (all.plain q h))
          (any_last (λ (x : Step). is_of p x && is_plain b more x.prop.0 x.reason) steps s (and_from (is_of p s) (is_plain b more p why) (eq-eqb p p refl) (plain_more b steps (s ∷ []) p why one.plain)));
      bare = old_or_new steps p why (λ q. is_claimed Status.True nothing b q ≡ true → has_bare b more q ≡ true) (λ q h c. any_first (λ (x : Step). is_of q x && is_bare b x.prop.0 x.reason) steps (s ∷ []) (all.bare q h c))
          (λ c. any_last (λ (x : Step). is_of p x && is_bare b x.prop.0 x.reason) steps s (and_from (is_of p s) (is_bare b p why) (eq-eqb p p refl) (one.bare c)));
      sure = old_or_new steps p why (λ q. is_sure b q ≡ true) all.sure one.sure;
    }

-- steps to which those on a property were added: they are plain, those from before stay, and the last is on it
pub record Grown (b : Basis) (old new : List Step) (p : ℕ) : Type 0 where
  plain : Plain b new
  kept : (q : ℕ) → has_step old q ≡ true → has_step new q ≡ true
  has : has_step new p ≡ true

pub record Ends (p : ℕ) (steps : List Step) : Type 0 where
  front : List Step
  why : Reason
  is : steps ≡ front ++ step_of p why ∷ []

pub record Added (b : Basis) (old new : List Step) (p : ℕ) : Type 0 where
  grown : Grown b old new p
  ends : Ends p new

added_one : (b : Basis) (steps : List Step) (p : ℕ) (why : Reason) → Plain b steps → IsPlainStep b steps p why
    → Added b steps (steps ++ step_of p why ∷ []) p
added_one b steps p why all one = record {
  grown = record {
    plain = plain_next b steps p why all one;
    kept = λ q h. any_first (is_of q) steps (step_of p why ∷ []) h;
    has = any_last (is_of p) steps (step_of p why) (eq-eqb p p refl);
  };
  ends = record { front = steps; why = why; is = refl };
}

-- a step by an entry without hypotheses
bare_step : (m : ℕ) (b : Basis) → Usual m b → (steps : List Step) (p : ℕ) (e : PlacedEntry)
    → bare_entry m b p ≡ Some e → has_step steps p ≡ false → IsPlainStep b steps p (ByEntry e.place)
bare_step m b usual steps p e is new =
    let none = entry_supports m nothing b p e is in
    record {
      new = new;
      fit = entry_rests m nothing (has_plain b steps) b p e is (bare_supports (has_plain b steps) e none);
      plain = entry_rests m nothing nothing b p e is none;
      bare = λ c. entry_rests m nothing nothing b p e is none;
      sure = sure_claimed b usual.table p (entry_claims m nothing b p e is);
    }

-- steps that have one by an entry without hypotheses on the property of kind Dead
with_step_grown : (m : ℕ) (b : Basis) → Usual m b → (steps : List Step) (d : ℕ) (e : PlacedEntry)
    → Plain b steps → bare_entry m b d ≡ Some e → (c : Bool) → has_step steps d ≡ c
    → Grown b steps (cond c steps (steps ++ by_entry d e ∷ [])) d
with_step_grown m b usual steps d e all is true has = record { plain = all; kept = λ q h. h; has = has }
with_step_grown m b usual steps d e all is false new =
    (added_one b steps d (ByEntry e.place) all (bare_step m b usual steps d e is new)).grown

of_or : (steps : List Step) (d : ℕ) (s : Step) (q : ℕ) (c : Bool) → has_step steps q ≡ false
    → is_of q s ≡ false → has_step (cond c steps (steps ++ s ∷ [])) q ≡ false
of_or steps d s q true none other = none
of_or steps d s q false none other =
    any_parts (is_of q) steps s ∙ or_from (has_step steps q) (is_of q s) none other

live_parts_by : (t : Props) (p : ℕ) (d : PropId) (c : Bool) → is_live t p ≡ c
    → cond c (dead_of t.rows p) None ≡ Some d → (is_live t p ≡ true) × (dead_of t.rows p ≡ Some d)
live_parts_by t p d true live h = (live, h)
live_parts_by t p d false live h = absurd (none-some d h)

live_parts : (t : Props) (p : ℕ) (d : PropId) → live_dead t p ≡ Some d
    → (is_live t p ≡ true) × (dead_of t.rows p ≡ Some d)
live_parts t p d h = live_parts_by t p d (is_live t p) refl h

dead_step : (m : ℕ) (b : Basis) → Usual m b → (steps : List Step) (p : ℕ) (q : PropId) (e : PlacedEntry)
    → Plain b steps → has_step steps p ≡ false → is_claimed Status.True nothing b p ≡ false
    → live_dead b.table p ≡ Some q → bare_entry m b q.0 ≡ Some e
    → Added b steps (with_dead steps p q.0 (Some e)) p
dead_step m b usual steps p q e all new unclaimed live is =
    let d = q.0 in
    let middle = with_step steps (by_entry d e) in
    let first = with_step_grown m b usual steps d e all is (has_step steps d) refl in
    let claimed = entry_claims m nothing b d e is in
    let apart : eqb d p ≡ false = ne_eqb d p (λ same. clash (is_claimed Status.True nothing b p) (ap (is_claimed Status.True nothing b) (sym same) ∙ claimed) unclaimed) in
    let parts = live_parts b.table p q live in
    let passes = λ (test : ℕ → Bool) (h : test d ≡ true). and_from (is_live b.table p) (some_prop test (dead_of b.table.rows p)) parts.0 (ap (some_prop test) parts.1 ∙ h) in
    let last = added_one b middle p ByDead first.plain (record {
      new = of_or steps d (by_entry d e) p (has_step steps d) new apart;
      fit = passes (has_step middle) first.has;
      plain = passes (has_bare b middle) (first.plain.bare d first.has claimed);
      bare = λ c. absurd (clash (is_claimed Status.True nothing b p) c unclaimed);
      sure = sure_dead b p (passes (is_claimed Status.True nothing b) claimed);
    }) in
    record {
      grown = record { plain = last.grown.plain; kept = λ q h. last.grown.kept q (first.kept q h); has = last.grown.has };
      ends = last.ends;
    }

-- the steps of a sure property that has none
by_found : (m : ℕ) (b : Basis) → Usual m b → (steps : List Step) (p : ℕ) (d : PropId) (o : Option PlacedEntry)
    → Plain b steps → has_step steps p ≡ false → is_claimed Status.True nothing b p ≡ false
    → live_dead b.table p ≡ Some d → is_claimed Status.True nothing b d.0 ≡ true → bare_entry m b d.0 ≡ o
    → Added b steps (with_dead steps p d.0 o) p
by_found m b usual steps p d None all new unclaimed live h is =
    absurd (clash (is_claimed Status.True nothing b d.0) h (none_claimed m b usual nothing d.0 is))
by_found m b usual steps p d (Some e) all new unclaimed live h is =
    dead_step m b usual steps p d e all new unclaimed live is

sure_by_dead : (m : ℕ) (b : Basis) → Usual m b → (steps : List Step) (p : ℕ) (o : Option PropId)
    → Plain b steps → has_step steps p ≡ false → is_claimed Status.True nothing b p ≡ false
    → live_dead b.table p ≡ o → some_prop (is_claimed Status.True nothing b) o ≡ true
    → Added b steps (with_dead_of m b steps p o) p
sure_by_dead m b usual steps p None all new unclaimed live h = absurd (false≢true h)
sure_by_dead m b usual steps p (Some d) all new unclaimed live h =
    by_found m b usual steps p d (bare_entry m b d.0) all new unclaimed live h refl

live_some_by : (t : Props) (test : ℕ → Bool) (p : ℕ) (c : Bool) → is_live t p ≡ c
    → (c && some_prop test (dead_of t.rows p)) ≡ true → some_prop test (cond c (dead_of t.rows p) None) ≡ true
live_some_by t test p true live h = h
live_some_by t test p false live h = absurd (false≢true h)

live_some : (t : Props) (test : ℕ → Bool) (p : ℕ) → dead_passes t test p ≡ true
    → some_prop test (live_dead t p) ≡ true
live_some t test p h = live_some_by t test p (is_live t p) refl h

sure_admitted_or : (m : ℕ) (b : Basis) → Usual m b → (steps : List Step) (p : ℕ) (c : Bool) → Plain b steps
    → has_step steps p ≡ false → is_sure b p ≡ true → is_claimed Status.True nothing b p ≡ false
    → is_admitted b p ≡ c
    → Added b steps (cond c (steps ++ step_of p Admitted ∷ []) (with_dead_of m b steps p (live_dead b.table p))) p
sure_admitted_or m b usual steps p true all new sure unclaimed is = added_one b steps p Admitted all (record {
  new = new;
  fit = is;
  plain = refl;
  bare = λ c. absurd (clash (is_claimed Status.True nothing b p) c unclaimed);
  sure = sure;
})
sure_admitted_or m b usual steps p false all new sure unclaimed is =
    let claimed = is_claimed Status.True nothing b in
    let inside = (and_parts (is_row b.table p) (is_admitted b p || (claimed p || dead_passes b.table claimed p)) sure).1 in
    let by_dead = ap (λ c. c || dead_passes b.table claimed p) (sym unclaimed) ∙ (ap (λ c. c || (claimed p || dead_passes b.table claimed p)) (sym is) ∙ inside) in
    sure_by_dead m b usual steps p (live_dead b.table p) all new unclaimed refl (live_some b.table claimed p by_dead)

sure_added_by : (m : ℕ) (b : Basis) → Usual m b → (steps : List Step) (p : ℕ) (o : Option PlacedEntry)
    → Plain b steps → has_step steps p ≡ false → is_sure b p ≡ true → bare_entry m b p ≡ o
    → Added b steps (sure_steps_by m b steps p o) p
sure_added_by m b usual steps p (Some e) all new sure is =
    added_one b steps p (ByEntry e.place) all (bare_step m b usual steps p e is new)
sure_added_by m b usual steps p None all new sure is =
    let unclaimed = none_claimed m b usual nothing p is in
    sure_admitted_or m b usual steps p (is_admitted b p) all new sure unclaimed refl

pub sure_added : (m : ℕ) (b : Basis) → Usual m b → (steps : List Step) (p : ℕ) → Plain b steps
    → has_step steps p ≡ false → is_sure b p ≡ true → Added b steps (sure_steps m b steps p) p
sure_added m b usual steps p all new sure =
    sure_added_by m b usual steps p (bare_entry m b p) all new sure refl

-- the steps of sure properties
with_sure_grown : (m : ℕ) (b : Basis) → Usual m b → (steps : List Step) (p : ℕ) (c : Bool) → Plain b steps
    → is_sure b p ≡ true → has_step steps p ≡ c → Grown b steps (cond c steps (sure_steps m b steps p)) p
with_sure_grown m b usual steps p true all sure has = record { plain = all; kept = λ q h. h; has = has }
with_sure_grown m b usual steps p false all sure new = (sure_added m b usual steps p all new sure).grown

pub record All (b : Basis) (old new : List Step) (qs : List PropId) : Type 0 where
  plain : Plain b new
  kept : (q : ℕ) → has_step old q ≡ true → has_step new q ≡ true
  each : list_all (λ (q : PropId). has_step new q.0) qs ≡ true

with_all_grown : (m : ℕ) (b : Basis) → Usual m b → (steps : List Step) (qs : List PropId) → Plain b steps
    → list_all (λ (q : PropId). is_sure b q.0) qs ≡ true → All b steps (with_all m b steps qs) qs
with_all_grown m b usual steps [] all sure = record { plain = all; kept = λ q h. h; each = refl }
with_all_grown m b usual steps (q ∷ qs) all sure =
    let parts = and_parts (is_sure b q.0) (list_all (λ (r : PropId). is_sure b r.0) qs) sure in
    let first = with_sure_grown m b usual steps q.0 (has_step steps q.0) all parts.0 refl in
    let rest = with_all_grown m b usual (with_sure m b steps q.0) qs first.plain parts.1 in
    record {
      plain = rest.plain;
      kept = λ r h. rest.kept r (first.kept r h);
      each = and_from (has_step (with_all m b steps (q ∷ qs)) q.0) (list_all (λ (r : PropId). has_step (with_all m b steps (q ∷ qs)) r.0) qs) (rest.kept q.0 first.has) rest.each;
    }

-- the steps of an entry whose hypotheses are all sure: they fit, and have one on its property
pub record Proved (b : Basis) (p : ℕ) (new : List Step) : Type 0 where
  fit : all_fit b [] new ≡ true
  has : has_step new p ≡ true
  others : (q : ℕ) → is_sure b q ≡ false → eqb p q ≡ false → has_step new q ≡ false

proved_by : (m : ℕ) (b : Basis) (p : ℕ) (e : PlacedEntry) (steps : List Step) (c : Bool) → Plain b steps
    → sure_entry m b p ≡ Some e → list_all (λ (q : PropId). has_step steps q.0) e.entry.hyps ≡ true
    → has_step steps p ≡ c → Proved b p (cond c steps (steps ++ by_entry p e ∷ []))
proved_by m b p e steps true all is each has = record {
  fit = all.fit;
  has = has;
  others = λ q unsure apart. false_from_ne_true (has_step steps q) (λ h. clash (is_sure b q) (all.sure q h) unsure);
}
proved_by m b p e steps false all is each new =
    let same = (and_parts (same_status e.entry.status Status.True) (list_all (λ (q : PropId). is_sure b q.0) e.entry.hyps) (entry_supports m (is_sure b) b p e is)).0 in
    let plain = and_from (same_status e.entry.status Status.True) (list_all (λ (q : PropId). has_plain b steps q.0) e.entry.hyps) same
    (all_mono (λ (q : PropId). has_step steps q.0) (λ (q : PropId). has_plain b steps q.0) e.entry.hyps (λ q h. all.plain q.0 h) each) in
    record {
      fit = fit_more b steps p (ByEntry e.place) all.fit new (entry_rests m (is_sure b) (has_plain b steps) b p e is plain);
      has = any_last (is_of p) steps (by_entry p e) (eq-eqb p p refl);
      others = λ q unsure apart. any_parts (is_of q) steps (by_entry p e) ∙ or_from (has_step steps q) (eqb p q) (false_from_ne_true (has_step steps q) (λ h. clash (is_sure b q) (all.sure q h) unsure)) apart;
    }

entry_proved : (m : ℕ) (b : Basis) → Usual m b → (p : ℕ) (e : PlacedEntry) → sure_entry m b p ≡ Some e
    → Proved b p (entry_steps m b p e)
entry_proved m b usual p e is =
    let sure = (and_parts (same_status e.entry.status Status.True) (list_all (λ (q : PropId). is_sure b q.0) e.entry.hyps) (entry_supports m (is_sure b) b p e is)).1 in
    let all = with_all_grown m b usual [] e.entry.hyps (no_steps b) sure in
    let steps = with_all m b [] e.entry.hyps in
    proved_by m b p e steps (has_step steps p) all.plain is all.each refl

-- a property that isn't sure has its own step last
ends_own : (m : ℕ) (b : Basis) → Usual m b → (p : ℕ) (e : PlacedEntry) → is_sure b p ≡ false
    → sure_entry m b p ≡ Some e → IsSupport b p (entry_steps m b p e)
ends_own m b usual p e unsure is =
    let sure = (and_parts (same_status e.entry.status Status.True) (list_all (λ (q : PropId). is_sure b q.0) e.entry.hyps) (entry_supports m (is_sure b) b p e is)).1 in
    let all = with_all_grown m b usual [] e.entry.hyps (no_steps b) sure in
    let steps = with_all m b [] e.entry.hyps in
    let new = false_from_ne_true (has_step steps p) (λ h. clash (is_sure b p) (all.plain.sure p h) unsure) in
    let form : entry_steps m b p e ≡ steps ++ by_entry p e ∷ [] = ap (λ c. cond c steps (steps ++ by_entry p e ∷ [])) new in
    support_from b p (entry_steps m b p e) steps (by_entry p e) (entry_proved m b usual p e is).fit form refl

dead_own : (m : ℕ) (b : Basis) → Usual m b → (p : ℕ) (d : PropId) (e : PlacedEntry) → is_sure b p ≡ false
    → sure_entry m b p ≡ None → live_dead b.table p ≡ Some d → sure_entry m b d.0 ≡ Some e
    → IsSupport b p (entry_steps m b d.0 e ++ step_of p ByDead ∷ [])
dead_own m b usual p d e unsure none live is =
    let first = entry_proved m b usual d.0 e is in
    let steps = entry_steps m b d.0 e in
    let parts = live_parts b.table p d live in
    let apart : eqb d.0 p ≡ false = ne_eqb d.0 p (λ same. clash (is_supported Status.True b p) (ap (is_supported Status.True b) (sym same) ∙ entry_claims m (is_sure b) b d.0 e is) (none_claimed m b usual (is_sure b) p none)) in
    let fit = and_from (is_live b.table p) (some_prop (has_step steps) (dead_of b.table.rows p)) parts.0 (ap (some_prop (has_step steps)) parts.1 ∙ first.has) in
    support_from b p (steps ++ step_of p ByDead ∷ []) steps (step_of p ByDead) (fit_more b steps p ByDead first.fit (first.others p unsure apart) fit) refl refl

-- a property that isn't sure and has no such entry, nor has the one of kind Dead at its point, doesn't hold
unheld : (b : Basis) (p : ℕ) → is_sure b p ≡ false → is_supported Status.True b p ≡ false
    → dead_passes b.table (is_supported Status.True b) p ≡ false → is_held b p ≡ false
unheld b p unsure unsupported dead =
    and_right (is_row b.table p) (is_sure b p || (is_supported Status.True b p || dead_passes b.table (is_supported Status.True b) p))
    (or_from (is_sure b p) (is_supported Status.True b p || dead_passes b.table (is_supported Status.True b) p) unsure (or_from (is_supported Status.True b p) (dead_passes b.table (is_supported Status.True b) p) unsupported dead))

no_live_by : (t : Props) (test : ℕ → Bool) (p : ℕ) (c : Bool) → is_live t p ≡ c
    → some_prop test (cond c (dead_of t.rows p) None) ≡ false
    → (c && some_prop test (dead_of t.rows p)) ≡ false
no_live_by t test p true live h = h
no_live_by t test p false live h = refl

no_live : (t : Props) (test : ℕ → Bool) (p : ℕ) → some_prop test (live_dead t p) ≡ false
    → dead_passes t test p ≡ false
no_live t test p h = no_live_by t test p (is_live t p) refl h

dead_found : (m : ℕ) (b : Basis) → Usual m b → (p : ℕ) (d : PropId) (o : Option PlacedEntry)
    → is_sure b p ≡ false → sure_entry m b p ≡ None → live_dead b.table p ≡ Some d → sure_entry m b d.0 ≡ o
    → IsSupportIfHeld b p (dead_entry_steps m b p d.0 o)
dead_found m b usual p d (Some e) unsure none live is = dead_own m b usual p d e unsure none live is
dead_found m b usual p d None unsure none live is =
    unheld b p unsure (none_claimed m b usual (is_sure b) p none)
    (no_live b.table (is_supported Status.True b) p (ap (some_prop (is_supported Status.True b)) live ∙ none_claimed m b usual (is_sure b) d.0 is))

dead_of_found : (m : ℕ) (b : Basis) → Usual m b → (p : ℕ) (o : Option PropId) → is_sure b p ≡ false
    → sure_entry m b p ≡ None → live_dead b.table p ≡ o → IsSupportIfHeld b p (dead_steps m b p o)
dead_of_found m b usual p (Some d) unsure none live =
    dead_found m b usual p d (sure_entry m b d.0) unsure none live refl
dead_of_found m b usual p None unsure none live =
    unheld b p unsure (none_claimed m b usual (is_sure b) p none)
    (no_live b.table (is_supported Status.True b) p (ap (some_prop (is_supported Status.True b)) live))

other_found : (m : ℕ) (b : Basis) → Usual m b → (p : ℕ) (o : Option PlacedEntry) → is_sure b p ≡ false
    → sure_entry m b p ≡ o → IsSupportIfHeld b p (other_steps m b p o)
other_found m b usual p (Some e) unsure is = ends_own m b usual p e unsure is
other_found m b usual p None unsure is = dead_of_found m b usual p (live_dead b.table p) unsure is refl

sure_found : (m : ℕ) (b : Basis) → Usual m b → (p : ℕ) → is_sure b p ≡ true
    → IsSupport b p (sure_steps m b [] p)
sure_found m b usual p sure =
    let added = sure_added m b usual [] p (no_steps b) refl sure in
    support_from b p (sure_steps m b [] p) added.ends.front (step_of p added.ends.why) added.grown.plain.fit added.ends.is refl

by_sure : (m : ℕ) (b : Basis) → Usual m b → (p : ℕ) (c : Bool) → is_sure b p ≡ c
    → IsSupportIfHeld b p (cond c (Some (sure_steps m b [] p)) (other_steps m b p (sure_entry m b p)))
by_sure m b usual p true sure = sure_found m b usual p sure
by_sure m b usual p false unsure = other_found m b usual p (sure_entry m b p) unsure refl

pub support_is : (m : ℕ) (b : Basis) → Usual m b → (p : ℕ) → IsSupportIfHeld b p (support_of m b p)
unfolding support_of
support_is m b usual p = by_sure m b usual p (is_sure b p) refl
