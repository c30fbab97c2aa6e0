-- One function of several, and the end of the functions.
use Rattle.std.proofs.Common.{inl, inr, ◌≡◌, ◌∙◌, ◌+◌, ◌≤◌, ◌++◌, ℕ, suc, List, [], ◌∷◌, Option, None, Some, length, drop, drop-cons, add-one, refl, ap, sym, subst}
use Rattle.std.specs.Prelude.{slice_get}
use Rattle.std.proofs.lemmas.List.{drop_all}
use Rattle.std.proofs.lemmas.Option.{get_or_from_slice_get, slice_get_cases, slice_get_within}
use Rattle.c_ir.specs.declared.tree.Fun.{Fun}
use Rattle.c_rules.specs.Breaches.{least}
use Rattle.c_typing.specs.Texts.{fun, funs_from}
use Rattle.c_typing.specs.Walking.{Names, Made, Went, Is, made_of, pure}
use Rattle.c_typing.specs.declared.file.Definition.{Definition}
use Rattle.c_typing.specs.declared.file.Known.{Known}
use Rattle.c_typing.specs.declared.walk.Walk.{Walk}
use Rattle.c_typing.specs.inner.Goes.{Goes}

abbrev pub FunsGo : ℕ → List Known → List (Option Definition) → List Fun → Names → Walk → Walk → Went (List Fun) → Type 0
FunsGo n ks ds done s now start whole = Goes (funs_from n ks ds done s (made_of now)) whole now start

from_here : (ks : List Known) (n : ℕ) (k : Known) → slice_get ks n ≡ Some k → drop n ks ≡ k ∷ drop (n + 1) ks
from_here ks n k got =
    subst (λ (x : Known). drop n ks ≡ x ∷ drop (n + 1) ks) (get_or_from_slice_get ks n k k got)
    (rw (add-one n) (drop-cons ks n k (slice_get_within ks n k got)))

some_none : {X : Type 0} {x : X} → Some x ≡ None → ⊥
some_none e = absurd cc

pub one_less : (ks : List Known) (n : ℕ) (k : Known) → slice_get ks n ≡ Some k → length (drop n ks) ≡ suc (length (drop (n + 1) ks))
one_less ks n k got = ap length (from_here ks n k got)

pub one_fun : (n : ℕ) (ks : List Known) (k : Known) (ds ds' : List (Option Definition)) (d : Option Definition) (f : Fun) (done new : List Fun) (s : Names) (now next start : Walk) (whole : Went (List Fun)) → slice_get ks n ≡ Some k → ds ≡ d ∷ ds' → Is (fun (record { 0 = n }) k d s (made_of now)) f s now next → new ≡ done ++ f ∷ [] → FunsGo n (drop n ks) ds done s now start whole → FunsGo (n + 1) (drop (n + 1) ks) ds' new s next start whole
one_fun n ks k ds ds' d f done new s now next start whole got ds-is is has goes =
    let more : List Known = drop (n + 1) ks in
    let F : Went Fun = fun (record { 0 = n }) k d s (made_of now) in
    let was : FunsGo n (k ∷ more) (d ∷ ds') done s now start whole =
    subst (λ (xs : List Known). FunsGo n xs (d ∷ ds') done s now start whole) (from_here ks n k got) (subst (λ (xs : List (Option Definition)). FunsGo n (drop n ks) xs done s now start whole) ds-is goes) in
    let e : funs_from (n + 1) more ds' new s (made_of next) ≡ funs_from (n + 1) more ds' (done ++ F.value ∷ []) F.names F.made =
    ap (λ (x : List Fun). funs_from (n + 1) more ds' x s (made_of next)) (has ∙ ap (λ (x : Fun). done ++ x ∷ []) (sym is.value))
    ∙ ap (λ (q : Names). funs_from (n + 1) more ds' (done ++ F.value ∷ []) q (made_of next)) (sym is.names_is)
    ∙ ap (λ (m : Made). funs_from (n + 1) more ds' (done ++ F.value ∷ []) F.names m) (sym is.made) in
    record {
      value = ap (λ (w : Went (List Fun)). w.value) e ∙ was.value;
      names = ap (λ (w : Went (List Fun)). w.names) e ∙ was.names;
      made = ap (λ (w : Went (List Fun)). w.made) e ∙ was.made;
      first = ap (λ (w : Went (List Fun)). least next.found.first w.breaches) e
          ∙ ap (λ b. least b (funs_from (n + 1) more ds' (done ++ F.value ∷ []) F.names F.made).breaches) is.first
          ∙ was.first;
    }

-- nothing is left
at_end : (left whole : Went (List Fun)) (done : List Fun) (s : Names) (now start : Walk) → left ≡ pure done s (made_of now) → Goes left whole now start → Is whole done s start now
at_end left whole done s now start is goes = record {
  value = sym goes.value ∙ ap (λ (w : Went (List Fun)). w.value) is;
  names_is = sym goes.names ∙ ap (λ (w : Went (List Fun)). w.names) is;
  made = sym goes.made ∙ ap (λ (w : Went (List Fun)). w.made) is;
  first = sym (ap (λ (w : Went (List Fun)). least now.found.first w.breaches) is) ∙ goes.first;
}

none_left : (n : ℕ) (ks : List Known) (done : List Fun) (s : Names) (m : Made) → funs_from n ks [] done s m ≡ pure done s m
none_left n [] done s m = refl
none_left n (k ∷ ks) done s m = refl

no_items : {X : Type 0} (xs : List X) (n : ℕ) → n ≡ length xs → n ≡ 0 → xs ≡ []
no_items [] n is zero = refl
no_items (x ∷ xs) n is zero = absurd cc

long : (ks : List Known) (n : ℕ) → slice_get ks n ≡ None → length ks ≤ n
long ks n gone = elim (slice_get_cases ks n).1 [
  | inl h ↦ absurd (some_none (sym h.2 ∙ gone))
  | inr h ↦ h.0
]

pub past_known : (n : ℕ) (ks : List Known) (ds : List (Option Definition)) (done : List Fun) (s : Names) (now start : Walk) (whole : Went (List Fun)) → slice_get ks n ≡ None → FunsGo n (drop n ks) ds done s now start whole → Is whole done s start now
past_known n ks ds done s now start whole gone goes =
    at_end (funs_from n (drop n ks) ds done s (made_of now)) whole done s now start (ap (λ (xs : List Known). funs_from n xs ds done s (made_of now)) (drop_all n ks (long ks n gone))) goes

pub past_definitions : (n : ℕ) (ks : List Known) (ds : List (Option Definition)) (left : ℕ) (done : List Fun) (s : Names) (now start : Walk) (whole : Went (List Fun)) → left ≡ length ds → left ≡ 0 → FunsGo n ks ds done s now start whole → Is whole done s start now
past_definitions n ks ds left done s now start whole is zero goes =
    at_end (funs_from n ks ds done s (made_of now)) whole done s now start (ap (λ (xs : List (Option Definition)). funs_from n ks xs done s (made_of now)) (no_items ds left is zero) ∙ none_left n ks done s (made_of now)) goes
