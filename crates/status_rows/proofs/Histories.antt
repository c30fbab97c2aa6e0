-- Histories after one more change.
use Rattle.std.proofs.Common.{◌≡◌, ℕ, suc, ◌+◌, ◌<◌, ℤ, List, [], ◌∷◌, ◌++◌, length, take, refl, sym, ap, ◌∙◌, arith}
use Rattle.std.proofs.lemmas.List.{append-nil}
use Rattle.fc_base.specs.declared.params.ParamSet.{ParamSet}
use Rattle.param_book.specs.Emitters.{own_sets}
use Rattle.status_history.specs.declared.history.Change.{Change}
use Rattle.status_history.specs.declared.history.Change.TheVariants.{Register, Param, Emit}
use Rattle.status_history.specs.declared.history.Entry.{Entry}
use Rattle.status_history.specs.declared.history.History.{History}
use Rattle.status_history.specs.Values.{changed_by, params_set, sets_registered, values_now}
use Rattle.status_rules.specs.Counting.{PlacedEntry, entries_from, sets_of}
use Rattle.status_rules.specs.Holds.{at_each}
use Rattle.status_rows.specs.Emission.{emitted}

pub params_more : (cs ds : List Change) → params_set (cs ++ ds) ≡ params_set cs ++ params_set ds
params_more [] ds = refl
params_more (Register n s ∷ cs) ds = params_more cs ds
params_more (Param n x ∷ cs) ds = ap (λ (ps : List (ℕ × ℤ)). (n, x) ∷ ps) (params_more cs ds)
params_more (Emit e ∷ cs) ds = params_more cs ds

pub sets_more : (cs ds : List Change) → sets_registered (cs ++ ds) ≡ sets_registered cs ++ sets_registered ds
sets_more [] ds = refl
sets_more (Register n s ∷ cs) ds = ap (λ (ss : List ParamSet). s ∷ ss) (sets_more cs ds)
sets_more (Param n x ∷ cs) ds = sets_more cs ds
sets_more (Emit e ∷ cs) ds = sets_more cs ds

pub entries_more : (n : ℕ) (cs ds : List Change) → entries_from n (cs ++ ds) ≡ entries_from n cs ++ entries_from (n + length cs) ds
entries_more n [] ds = let e : n ≡ n + 0 = omega arith in ap (λ k. entries_from k ds) e
entries_more n (Register m s ∷ cs) ds =
    let e : n + 1 + length cs ≡ n + suc (length cs) = omega arith in
    entries_more (n + 1) cs ds ∙ ap (λ k. entries_from (n + 1) cs ++ entries_from k ds) e
entries_more n (Param m x ∷ cs) ds =
    let e : n + 1 + length cs ≡ n + suc (length cs) = omega arith in
    entries_more (n + 1) cs ds ∙ ap (λ k. entries_from (n + 1) cs ++ entries_from k ds) e
entries_more n (Emit x ∷ cs) ds =
    let e : n + 1 + length cs ≡ n + suc (length cs) = omega arith in
    let first : PlacedEntry = record { place = n; entry = x } in
    ap (λ (es : List PlacedEntry). first ∷ es) (entries_more (n + 1) cs ds ∙ ap (λ k. entries_from (n + 1) cs ++ entries_from k ds) e)

-- an emission changes no parameter and registers no emitter
pub params_same : (cs : List Change) (e : Entry) → params_set (cs ++ Emit e ∷ []) ≡ params_set cs
params_same cs e = params_more cs (Emit e ∷ []) ∙ append-nil (params_set cs)

pub sets_same : (cs : List Change) (e : Entry) → sets_of (cs ++ Emit e ∷ []) ≡ sets_of cs
sets_same cs e = ap (λ (xs : List ParamSet). own_sets ++ xs) (sets_more cs (Emit e ∷ []) ∙ append-nil (sets_registered cs))

pub values_same : (h : History) (e : Entry) → values_now (emitted h e) ≡ values_now h
values_same h e = ap (λ (ps : List (ℕ × ℤ)). changed_by h.opening (take (length ps) ps)) (params_same h.changes e)

pub length_more : {A : Type 0} (xs : List A) (y : A) → length (xs ++ y ∷ []) ≡ suc (length xs)
length_more [] y = refl
length_more (x ∷ xs) y = ap suc (length_more xs y)

pub each_same : {A B : Type 0} (f g : ℕ → B) (n : ℕ) (xs : List A) → ((i : ℕ) → i < length xs → f (n + i) ≡ g (n + i)) → at_each f n xs ≡ at_each g n xs
each_same f g n [] same = refl
each_same f g n (x ∷ xs) same =
    let e : n + 0 ≡ n = omega arith in
    let first : f n ≡ g n = ap f (sym e) ∙ (same 0 (omega arith) ∙ ap g e) in
    let rest = each_same f g (n + 1) xs (λ i h. let d : n + suc i ≡ n + 1 + i = omega arith in ap f (sym d) ∙ (same (suc i) (omega arith) ∙ ap g d)) in
    cc
