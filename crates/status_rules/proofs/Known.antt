-- What flags of all properties say.
use Rattle.std.proofs.Common.{◌≡◌, ℕ, zero, suc, ◌+◌, ◌<◌, get_or, ℤ, Bool, true, false, List, [], ◌∷◌, length, map, refl, sym, ap, ◌∙◌, inl, inr, arith}
use mathlib.Core.Path.{fun_ext}
use Rattle.std.specs.Prelude.{nat_lt, ◌&&◌, ◌||◌, slice_get, slice_index_or, filter}
use Rattle.std.specs.List.{list_any}
use Rattle.std.specs.Global.{Vec}
use Rattle.std.proofs.lemmas.Bool.{lt-ltb, le-ltb, cases_lt}
use Rattle.std.proofs.lemmas.List.{get_or-map}
use Rattle.fc_base.specs.declared.status.LocalStatus.{LocalStatus}
use Rattle.c_ir.specs.Props.{Props}
use Rattle.c_ir.specs.Table.{is_row, row_admitted, some_row}
use Rattle.c_ir.specs.declared.prop.Prop.{Prop}
use Rattle.fc_base.specs.declared.params.ParamValues.{ParamValues}
use Rattle.param_book.specs.Table.{entry_function, run_values}
use Rattle.status_history.specs.Values.{values_now}
use Rattle.status_history.specs.declared.history.History.{History}
use Rattle.status_rules.specs.Counting.{PlacedEntry, counted_of}
use Rattle.status_rules.specs.Holds.{Basis, basis_of, at_each, by_prop, dead_passes, entries_on, extends, is_admitted, is_claimed, is_on, supports}
use Rattle.status_rules.specs.declared.counting.CountedEntry.{CountedEntry}
use Rattle.status_rules.specs.declared.inputs.VerdictInputs.{VerdictInputs}
use Rattle.status_rules.specs.inner.ByProp.{all_entries, entries_in, placed}
use Rattle.status_rules.specs.inner.Consolidated.{basis}
use Rattle.status_rules.specs.inner.Flags.{flag}
use Rattle.status_rules.proofs.Each.{length-at_each}

flag-map_at : (test : Prop → Bool) (rows : List Prop) (p : ℕ) → flag (map test rows) p ≡ some_row test (slice_get rows p)
flag-map_at test [] p = refl
flag-map_at test (r ∷ rows) zero = refl
flag-map_at test (r ∷ rows) (suc p) = flag-map_at test rows p

-- flags of the rows of a table
pub flag-map : (test : Prop → Bool) (rows : List Prop) → flag (map test rows) ≡ (λ p. some_row test (slice_get rows p))
flag-map test rows = fun_ext (flag-map_at test rows)

less_suc : (p n : ℕ) → nat_lt p n ≡ nat_lt (suc p) (suc n)
less_suc p n = elim (cases_lt p n) [
  | inl below ↦ lt-ltb p n below ∙ sym (lt-ltb (suc p) (suc n) (omega arith))
  | inr above ↦ le-ltb p n above ∙ sym (le-ltb (suc p) (suc n) (omega arith))
]

flag-at_each_from : {A : Type 0} (f : ℕ → Bool) (n : ℕ) (xs : List A) (p : ℕ) → flag (at_each f n xs) p ≡ (nat_lt p (length xs) && f (n + p))
flag-at_each_from f n [] p = sym (ap (λ b. b && f (n + p)) (le-ltb p 0 (omega arith)))
flag-at_each_from f n (x ∷ xs) zero =
    let e : n ≡ n + 0 = omega arith in
    ap f e ∙ sym (ap (λ b. b && f (n + 0)) (lt-ltb 0 (length (x ∷ xs)) (omega arith)))
flag-at_each_from f n (x ∷ xs) (suc p) =
    let e : n + 1 + p ≡ n + suc p = omega arith in
    flag-at_each_from f (n + 1) xs p ∙ (ap (λ q. nat_lt p (length xs) && f q) e ∙ ap (λ b. b && f (n + suc p)) (less_suc p (length xs)))

-- flags at the numbers of a list's elements
pub flag-at_each : {A : Type 0} (f : ℕ → Bool) (xs : List A) → flag (at_each f 0 xs) ≡ (λ p. nat_lt p (length xs) && f p)
flag-at_each f xs = fun_ext (λ p. let e : 0 + p ≡ p = omega arith in flag-at_each_from f 0 xs p ∙ ap (λ q. nat_lt p (length xs) && f q) e)

and_twice : (a b : Bool) → (a && (a && b)) ≡ (a && b)
and_twice true b = refl
and_twice false b = refl

-- flags of lists of entries, by a test that no empty list passes
flag-any_at : (test : PlacedEntry → Bool) (ls : List (List PlacedEntry)) (p : ℕ) → flag (map (list_any test) ls) p ≡ list_any test (slice_index_or ls p [])
flag-any_at test [] p = refl
flag-any_at test (l ∷ ls) zero = refl
flag-any_at test (l ∷ ls) (suc p) = flag-any_at test ls p

pub admitted_are : (b : Basis) (xs : List Bool) → xs ≡ map (row_admitted b.table b.entry_function) b.table.rows → flag xs ≡ is_admitted b
admitted_are b xs is = ap flag is ∙ flag-map (row_admitted b.table b.entry_function) b.table.rows

pub claimed_are : (s : LocalStatus) (known k : ℕ → Bool) (b : Basis) (xs : List Bool) → known ≡ k → xs ≡ map (list_any (supports s known)) b.entries → flag xs ≡ is_claimed s k b
claimed_are s known k b xs ek is =
    ap flag is ∙ (fun_ext (flag-any_at (supports s known) b.entries) ∙ ap (λ f. is_claimed s f b) ek)

pub extended_are : (t : Props) (known claimed k c : ℕ → Bool) (xs : List Bool) → known ≡ k → claimed ≡ c → xs ≡ at_each (extends t known claimed) 0 t.rows → flag xs ≡ extends t k c
extended_are t known claimed k c xs ek ec is =
    ap flag is ∙ (flag-at_each (extends t known claimed) t.rows
    ∙ (fun_ext (λ p. and_twice (is_row t p) (known p || (claimed p || dead_passes t claimed p)))
    ∙ (ap (λ f. extends t f claimed) ek ∙ ap (λ f. extends t k f) ec)))

length-all_entries : (lists : List (Vec CountedEntry)) → length (all_entries lists) ≡ length lists
length-all_entries [] = refl
length-all_entries (b ∷ lists) = ap suc (length-all_entries lists)

-- there are as many lists as rows
pub length-lists : (lists : List (Vec CountedEntry)) (es : List PlacedEntry) (rows : List Prop) → all_entries lists ≡ by_prop es rows → length lists ≡ length rows
length-lists lists es rows is =
    sym (length-all_entries lists) ∙ (ap length is ∙ length-at_each (λ p. filter (is_on p) es) 0 rows)

-- what stands in the list of a property
pub list_at : (lists : List (Vec CountedEntry)) (p : ℕ) (v : Vec CountedEntry) → p < length lists → v ≡ get_or lists p v → map placed v.items ≡ slice_index_or (all_entries lists) p []
list_at lists p v within at =
    let view = λ (b : Vec CountedEntry). map placed b.items in
    ap view at ∙ sym (get_or-map view lists p v [] within)

-- what verdicts rest on, as the code finds it
pub basis_is : (h : History) (t : Props) (values : ParamValues) (lists : Vec (Vec CountedEntry)) → values ≡ values_now h → entries_in lists ≡ by_prop (counted_of h) t.rows → basis t values lists ≡ basis_of h t
basis_is h t values lists same are =
    ap (λ v. basis t v lists) same ∙ ap (λ (ls : List (List PlacedEntry)). let b : Basis = record { table = t; entry_function = entry_function (run_values (values_now h)); entries = ls } in b) are

-- two inputs with the same parts
pub inputs_same : (a h r u p d t st sf a' h' r' u' p' d' t' st' sf' : Bool) → a ≡ a' → h ≡ h' → r ≡ r' → u ≡ u' → p ≡ p' → d ≡ d' → t ≡ t' → st ≡ st' → sf ≡ sf' → ◌≡◌ {A = VerdictInputs} (record { admitted = a; held = h; refuted = r; unvisited = u; proven = p; disproven = d; tried = t; said_true = st; said_false = sf }) (record { admitted = a'; held = h'; refuted = r'; unvisited = u'; proven = p'; disproven = d'; tried = t'; said_true = st'; said_false = sf' })
inputs_same a h r u p d t st sf a' h' r' u' p' d' t' st' sf' ea eh er eu ep ed et est esf = cc
