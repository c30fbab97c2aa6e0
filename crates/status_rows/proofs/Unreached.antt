-- Verdicts that stay where the counted entries on one property alter.
use Rattle.std.proofs.Common.{◌≡◌, ◌≢◌, ℕ, ℤ, Bool, true, false, List, [], ◌∷◌, Option, Some, None, refl, sym, ap, ◌∙◌, eqb}
use Rattle.std.specs.Prelude.{◌&&◌, ◌||◌, not, slice_get, slice_index_or}
use Rattle.std.specs.List.{list_any, list_all}
use Rattle.std.proofs.lemmas.Bool.{or_parts, eqb-false}
use Rattle.fc_base.specs.declared.ids.PropId.{PropId}
use Rattle.fc_base.specs.declared.status.LocalStatus.{LocalStatus}
use Rattle.fc_base.specs.declared.status.LocalStatus.TheVariants.{FalseIfReachable, FalseAndReachable}
use Rattle.fc_base.specs.declared.status.LocalStatus.TheVariants as Status
use Rattle.c_ir.specs.Props.{Props}
use Rattle.c_ir.specs.Table.{dead_of, is_firm_row, is_live, is_row, some_row}
use Rattle.c_ir.specs.Kinds.{is_dead}
use Rattle.c_ir.specs.declared.prop.Prop.{Prop}
use Rattle.status_rules.specs.Counting.{PlacedEntry}
use Rattle.status_rules.specs.Holds.{Basis, dead_passes, entries_on, extends, is_admitted, is_claimed, is_held, is_supported, is_sure, nothing, same_status, some_prop, supports}
use Rattle.status_rules.specs.Verdicts.{has_entry, has_said, has_said_false, verdict_by, verdict_of}
use Rattle.status_rules.proofs.Known.{inputs_same}
use Rattle.status_rules.proofs.Sound.{dead_is_dead}
use Rattle.status_rows.specs.Reached.{is_near, rests_near, leans_on, is_reached, UnreachedKeep}

prop_same : (f g test : ℕ → Bool) (o : Option PropId) → ((q : PropId) → o ≡ Some q → test q.0 ≡ false → f q.0 ≡ g q.0) → some_prop test o ≡ false → some_prop f o ≡ some_prop g o
prop_same f g test None same h = refl
prop_same f g test (Some d) same h = same d refl h

known_same : (k j test : ℕ → Bool) → ((q : ℕ) → test q ≡ false → k q ≡ j q) → (hs : List PropId) → list_any (λ (h : PropId). test h.0) hs ≡ false → list_all (λ (q : PropId). k q.0) hs ≡ list_all (λ (q : PropId). j q.0) hs
known_same k j test same [] h = refl
known_same k j test same (q ∷ hs) h =
    let parts = or_parts (test q.0) (list_any (λ (r : PropId). test r.0) hs) h in
    ap (λ b. b && list_all (λ (r : PropId). k r.0) hs) (same q.0 parts.0)
    ∙ ap (λ b. j q.0 && b) (known_same k j test same hs parts.1)

any_same : (s : LocalStatus) (k j test : ℕ → Bool) → ((q : ℕ) → test q ≡ false → k q ≡ j q) → (es : List PlacedEntry) → list_any (λ (e : PlacedEntry). list_any (λ (h : PropId). test h.0) e.entry.hyps) es ≡ false → list_any (supports s k) es ≡ list_any (supports s j) es
any_same s k j test same [] h = refl
any_same s k j test same (e ∷ es) h =
    let parts = or_parts (list_any (λ (r : PropId). test r.0) e.entry.hyps) (list_any (λ (x : PlacedEntry). list_any (λ (r : PropId). test r.0) x.entry.hyps) es) h in
    ap (λ b. (same_status e.entry.status s && b) || list_any (supports s k) es) (known_same k j test same e.entry.hyps parts.0)
    ∙ ap (λ b. supports s j e || b) (any_same s k j test same es parts.1)

extends_at : (t : Props) (k j c d : ℕ → Bool) (q : ℕ) → k q ≡ j q → c q ≡ d q → some_prop c (dead_of t.rows q) ≡ some_prop d (dead_of t.rows q) → extends t k c q ≡ extends t j d q
extends_at t k j c d q known claimed behind =
    ap (λ b. is_row t q && (b || (c q || dead_passes t c q))) known
    ∙ (ap (λ b. is_row t q && (j q || (b || dead_passes t c q))) claimed
    ∙ ap (λ b. is_row t q && (j q || (d q || (is_live t q && b)))) behind)

-- the same of a property of kind Dead
dead_extends_at : (t : Props) (k j c d : ℕ → Bool) (q : ℕ) → is_live t q ≡ false → k q ≡ j q → c q ≡ d q → extends t k c q ≡ extends t j d q
dead_extends_at t k j c d q dead known claimed =
    ap (λ b. is_row t q && (b || (c q || dead_passes t c q))) known
    ∙ (ap (λ b. is_row t q && (j q || (b || dead_passes t c q))) claimed
    ∙ (ap (λ b. is_row t q && (j q || (d q || (b && some_prop c (dead_of t.rows q))))) dead
    ∙ ap (λ b. is_row t q && (j q || (d q || (b && some_prop d (dead_of t.rows q))))) (sym dead)))

not_live : (o : Option Prop) → some_row (λ (row : Prop). is_dead row.kind) o ≡ true → some_row (λ (row : Prop). not (is_dead row.kind)) o ≡ false
not_live None h = refl
not_live (Some row) h = ap not h

abbrev basis : Props → ℤ → List (List PlacedEntry) → Basis
basis t m es = record { table = t; entry_function = m; entries = es }

abbrev Elsewhere : ℕ → List (List PlacedEntry) → List (List PlacedEntry) → Type 0
Elsewhere p es fs = (q : ℕ) → q ≢ p → slice_index_or fs q [] ≡ slice_index_or es q []

plain_same : (s : LocalStatus) (known : ℕ → Bool) (t : Props) (m : ℤ) (es fs : List (List PlacedEntry)) (p q : ℕ) → Elsewhere p es fs → q ≢ p → is_claimed s known (basis t m fs) q ≡ is_claimed s known (basis t m es) q
plain_same s known t m es fs p q apart ne = ap (list_any (supports s known)) (apart q ne)

sure_same : (t : Props) (m : ℤ) (es fs : List (List PlacedEntry)) (p : ℕ) → Elsewhere p es fs → (q : ℕ) → is_near t p q ≡ false → is_sure (basis t m fs) q ≡ is_sure (basis t m es) q
sure_same t m es fs p apart q h =
    let a = basis t m es in
    let b = basis t m fs in
    let parts = or_parts (eqb q p) (some_prop (λ d. eqb d p) (dead_of t.rows q)) h in
    let plain = λ (r : ℕ) (off : eqb r p ≡ false). plain_same Status.True nothing t m es fs p r apart (eqb-false r p off) in
    extends_at t (is_admitted b) (is_admitted a) (is_claimed Status.True nothing b) (is_claimed Status.True nothing a) q refl (plain q parts.0)
    (prop_same (is_claimed Status.True nothing b) (is_claimed Status.True nothing a) (λ d. eqb d p) (dead_of t.rows q) (λ d e off. plain d.0 off) parts.1)

supported_same : (s : LocalStatus) (t : Props) (m : ℤ) (es fs : List (List PlacedEntry)) (p : ℕ) → Elsewhere p es fs → (q : ℕ) → leans_on (basis t m es) p q ≡ false → is_supported s (basis t m fs) q ≡ is_supported s (basis t m es) q
supported_same s t m es fs p apart q h =
    let a = basis t m es in
    let b = basis t m fs in
    let parts = or_parts (eqb q p) (list_any (rests_near t p) (entries_on a q)) h in
    plain_same s (is_sure b) t m es fs p q apart (eqb-false q p parts.0)
    ∙ any_same s (is_sure b) (is_sure a) (is_near t p) (sure_same t m es fs p apart) (entries_on a q) parts.1

-- a property of kind Dead that doesn't lean on p
dead_held_same : (t : Props) (m : ℤ) (es fs : List (List PlacedEntry)) (p : ℕ) → Elsewhere p es fs → (q : ℕ) → is_live t q ≡ false → leans_on (basis t m es) p q ≡ false → is_held (basis t m fs) q ≡ is_held (basis t m es) q
dead_held_same t m es fs p apart q dead h =
    let a = basis t m es in
    let b = basis t m fs in
    let parts = or_parts (eqb q p) (list_any (rests_near t p) (entries_on a q)) h in
    let sure = dead_extends_at t (is_admitted b) (is_admitted a) (is_claimed Status.True nothing b) (is_claimed Status.True nothing a) q dead refl (plain_same Status.True nothing t m es fs p q apart (eqb-false q p parts.0)) in
    dead_extends_at t (is_sure b) (is_sure a) (is_supported Status.True b) (is_supported Status.True a) q dead sure (supported_same Status.True t m es fs p apart q h)

verdict_same : (t : Props) (m : ℤ) (es fs : List (List PlacedEntry)) (p q : ℕ) → Elsewhere p es fs → is_reached (basis t m es) p q ≡ false → verdict_of (basis t m fs) q ≡ verdict_of (basis t m es) q
verdict_same t m es fs p q apart h =
    let a = basis t m es in
    let b = basis t m fs in
    let o = dead_of t.rows q in
    let leans = leans_on a p in
    let parts = or_parts (is_near t p q) (leans q || some_prop leans o) h in
    let rest = or_parts (leans q) (some_prop leans o) parts.1 in
    let ne = eqb-false q p (or_parts (eqb q p) (list_any (rests_near t p) (entries_on a q)) rest.0).0 in
    let here = λ (s : LocalStatus). supported_same s t m es fs p apart q rest.0 in
    let there = λ (s : LocalStatus). prop_same (is_supported s b) (is_supported s a) leans o (λ d e off. supported_same s t m es fs p apart d.0 off) rest.1 in
    let held = extends_at t (is_sure b) (is_sure a) (is_supported Status.True b) (is_supported Status.True a) q (sure_same t m es fs p apart q parts.0) (here Status.True) (there Status.True) in
    let dead = λ (d : PropId) (e : o ≡ Some d). not_live (slice_get t.rows d.0) (dead_is_dead t q d e) in
    let held_there = prop_same (is_held b) (is_held a) leans o (λ d e off. dead_held_same t m es fs p apart d.0 (dead d e) off) rest.1 in
    let t0 = is_supported Status.True in
    let f1 = is_supported FalseIfReachable in
    let f2 = is_supported FalseAndReachable in
    ap verdict_by (inputs_same _ _ _ _ _ _ _ _ _ _ _ _ _ _ _ _ _ _
    refl
    held
    (ap (λ x. x || (is_firm_row t q && f1 b q && some_prop (f2 b) o)) (here FalseAndReachable)
    ∙ (ap (λ x. f2 a q || (is_firm_row t q && x && some_prop (f2 b) o)) (here FalseIfReachable)
    ∙ ap (λ x. f2 a q || (is_firm_row t q && f1 a q && x)) (there FalseAndReachable)))
    (ap (λ x. is_live t q && (x || (t0 b q && f1 b q))) held_there
    ∙ (ap (λ x. is_live t q && (some_prop (is_held a) o || (x && f1 b q))) (here Status.True)
    ∙ ap (λ x. is_live t q && (some_prop (is_held a) o || (t0 a q && x))) (here FalseIfReachable)))
    (here Status.True)
    (here FalseIfReachable)
    (ap has_entry (apart q ne))
    (ap (has_said Status.True) (apart q ne))
    (ap has_said_false (apart q ne)))

at_basis : (t u : Props) (m n : ℤ) (es fs : List (List PlacedEntry)) (p q : ℕ) → u ≡ t → n ≡ m → Elsewhere p es fs → is_reached (basis t m es) p q ≡ false → verdict_of (basis u n fs) q ≡ verdict_of (basis t m es) q
at_basis t u m n es fs p q et en apart h =
    ap (λ (x : Props). verdict_of (basis x n fs) q) et ∙ (ap (λ (x : ℤ). verdict_of (basis t x fs) q) en ∙ verdict_same t m es fs p q apart h)

pub unreached : UnreachedKeep
unreached a b p q differs h = at_basis a.table b.table a.entry_function b.entry_function a.entries b.entries p q differs.same_table differs.same_entry differs.elsewhere h
