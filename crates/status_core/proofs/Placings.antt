-- What changes of any kind come to.
use Rattle.std.proofs.Common.{◌≡◌, ℕ, length, refl, sym, ap, subst, ◌∙◌}
use Rattle.std.specs.Prelude.{Err, None, Ok, Option, Result, Some}
use Rattle.c_ir.specs.Props.{Props}
use Rattle.status_history.specs.Values.{version_of}
use Rattle.status_history.specs.declared.history.Change.{Change}
use Rattle.status_history.specs.declared.history.Change.TheVariants.{Emit}
use Rattle.status_history.specs.declared.history.Entry.{Entry}
use Rattle.status_history.specs.declared.history.History.{History}
use Rattle.status_rules.specs.Judge.{first_of, judge, judge_own, own_rows, placed_of, refused_or, rows_for}
use Rattle.status_rules.specs.declared.refusals.Placed.{Placed}
use Rattle.status_rules.specs.declared.refusals.Refusal.{Refusal}
use Rattle.status_rules.specs.declared.refusals.Refusal.TheVariants.{Memory}
use Rattle.status_core.specs.Held.{Held}
use Rattle.status_core.specs.Taken.{Made, Taken}

abbrev ok_or : {A : Type 0} → A → Result A Refusal → A
ok_or d (Ok x) = x
ok_or d (Err why) = d

abbrev err_or : {A : Type 0} → Result A Refusal → Refusal
err_or (Ok x) = Memory
err_or (Err why) = why

abbrev is_done : {A : Type 0} → Result A Refusal → Type 0
is_done (Ok x) = Unit {0}
is_done (Err why) = ⊥

taken_place : (o : Option Refusal) (p q : Placed) → refused_or o p ≡ Ok q → q ≡ p
taken_place None p q is = sym (ap (λ (r : Result Placed Refusal). ok_or p r) is)
taken_place (Some why) p q is = absurd (subst (λ (r : Result Placed Refusal). is_done r) (sym is) tt)

pub judged_place : (t : Props) (h : History) (c : Change) (p : Placed) → judge t h c ≡ Ok p → p ≡ placed_of h c
unfolding judge
judged_place t h c p is = taken_place (first_of (rows_for t h c)) (placed_of h c) p is

pub owned_place : (t : Props) (h : History) (e : Entry) (p : Placed) → judge_own t h e ≡ Ok p → p ≡ placed_of h (Emit e)
unfolding judge_own
owned_place t h e p is = taken_place (first_of (own_rows t h e)) (placed_of h (Emit e)) p is

same_parts : (a b c d e f : ℕ) → a ≡ d → b ≡ e → c ≡ f → ◌≡◌ {A = Placed} (record { at = a; version = b; value = c }) (record { at = d; version = e; value = f })
same_parts a b c d e f x y z = cc

same_placed : (p : Placed) (at v n : ℕ) → at ≡ p.at → v ≡ p.version → n ≡ p.value → ◌≡◌ {A = Placed} (record { at = at; version = v; value = n }) p
same_placed p at v n a b c = same_parts at v n p.at p.version p.value a b c

made_by : (j : Result Placed Refusal) (c : Change) (old new : Held) (n at v : ℕ) → ((p : Placed) → j ≡ Ok p → p ≡ placed_of old.history c) → Taken (λ (k : ℕ). k) j c old new (Ok n) → at ≡ length old.history.changes → v ≡ version_of new.history → Made j c old new (Ok (record { at = at; version = v; value = n }))
made_by (Err why) c old new n at v placed taken is_at is_v = absurd (subst (λ (r : Result ℕ Refusal). is_done r) taken.0 tt)
made_by (Ok p) c old new n at v placed taken is_at is_v =
    let it = placed p refl in (
      same_placed p at v n
          (is_at ∙ sym (ap (λ (q : Placed). q.at) it))
          (is_v ∙ (ap (λ (b : Held). version_of b.history) taken.1 ∙ sym (ap (λ (q : Placed). q.version) it)))
          taken.0,
      taken.1,
    )

pub made_ok : (t : Props) (c : Change) (old new : Held) (n at v : ℕ) → Taken (λ (k : ℕ). k) (judge t old.history c) c old new (Ok n) → at ≡ length old.history.changes → v ≡ version_of new.history → Made (judge t old.history c) c old new (Ok (record { at = at; version = v; value = n }))
made_ok t c old new n at v = made_by (judge t old.history c) c old new n at v (judged_place t old.history c)

pub own_ok : (t : Props) (e : Entry) (old new : Held) (n at v : ℕ) → Taken (λ (k : ℕ). k) (judge_own t old.history e) (Emit e) old new (Ok n) → at ≡ length old.history.changes → v ≡ version_of new.history → Made (judge_own t old.history e) (Emit e) old new (Ok (record { at = at; version = v; value = n }))
own_ok t e old new n at v = made_by (judge_own t old.history e) (Emit e) old new n at v (owned_place t old.history e)

pub made_err : {A : Type 0} (f : A → ℕ) (j : Result Placed Refusal) (c : Change) (old new : Held) (why : Refusal) → Taken f j c old new (Err why) → Made j c old new (Err why)
made_err f (Err w) c old new why taken = (ap (λ (x : Refusal). let r : Result Placed Refusal = Err x in r) (ap err_or taken.0), taken.1)
made_err f (Ok p) c old new why taken = taken

pub taken_err : {A B : Type 0} (f : A → ℕ) (g : B → ℕ) (j : Result Placed Refusal) (c : Change) (old new : Held) (why : Refusal) → Taken f j c old new (Err why) → Taken g j c old new (Err why)
taken_err {A} {B} f g (Err w) c old new why taken = (ap (λ (x : Refusal). let r : Result B Refusal = Err x in r) (ap err_or taken.0), taken.1)
taken_err f g (Ok p) c old new why taken = taken

pub taken_ok : {A : Type 0} (f : A → ℕ) (j : Result Placed Refusal) (c : Change) (old new : Held) (x : A) → Taken f j c old new (Ok x) → Taken (λ (k : ℕ). k) j c old new (Ok (f x))
taken_ok f (Err w) c old new x taken = absurd (subst (λ r. is_done r) taken.0 tt)
taken_ok f (Ok p) c old new x taken = taken
