-- The entries of a history that pass a test, change by change.
use Rattle.std.proofs.Common.{◌≡◌, ℕ, ◌+◌, ◌<◌, Bool, true, false, cond, List, [], ◌∷◌, ◌++◌, length, get_or, drop, refl, sym, ap, ◌∙◌}
use Rattle.std.proofs.lemmas.List.{at_drop_more}
use Rattle.std.specs.Prelude.{filter}
use Rattle.status_history.specs.declared.history.Change.{Change}
use Rattle.status_history.specs.declared.history.Change.TheVariants.{Register, Param, Emit}
use Rattle.status_rules.specs.Counting.{PlacedEntry, entries_from}

one_more : (b : Bool) (e : PlacedEntry) (es : List PlacedEntry) → cond b (e ∷ es) es ≡ cond b (e ∷ []) [] ++ es
one_more true e es = refl
one_more false e es = refl

kept_cons : (test : PlacedEntry → Bool) (n : ℕ) (c : Change) (cs : List Change) → filter test (entries_from n (c ∷ cs)) ≡ filter test (entries_from n (c ∷ [])) ++ filter test (entries_from (n + 1) cs)
kept_cons test n (Register name set) cs = refl
kept_cons test n (Param m x) cs = refl
kept_cons test n (Emit e) cs = one_more (test (record { place = n; entry = e })) (record { place = n; entry = e }) (filter test (entries_from (n + 1) cs))

pub kept_more : (test : PlacedEntry → Bool) (cs : List Change) (i : ℕ) (c : Change) → i < length cs → c ≡ get_or cs i c → filter test (entries_from (i + 1) (drop i cs)) ≡ filter test (entries_from (i + 1) (c ∷ [])) ++ filter test (entries_from (i + 1 + 1) (drop (i + 1) cs))
kept_more test cs i c h is =
    at_drop_more (λ ds. filter test (entries_from (i + 1) ds)) cs i c h
    ∙ (ap (λ d. filter test (entries_from (i + 1) (d ∷ drop (i + 1) cs))) (sym is) ∙ kept_cons test (i + 1) c (drop (i + 1) cs))
