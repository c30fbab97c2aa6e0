-- Chains of calls end where no function leads to itself: the functions on a chain are distinct, so that it has at
-- most as many as there are.
use Rattle.std.proofs.Common.{◌≡◌, ◌<◌, ◌+◌, ℕ, zero, suc, List, [], ◌∷◌, Bool, true, false, ◌||◌, Option, Some, None, length, get_or, refl, sym, ◌∙◌, ap, subst, eqb, arith}
use Rattle.std.specs.Prelude.{Result, Ok, Err, IfOk}
use Rattle.std.specs.List.{list_any, IsDistinct, AllByRecursion}
use Rattle.std.proofs.lemmas.Bool.Decides.{Decides-eqb}
use Rattle.std.proofs.lemmas.Map.Steps.{length-le_from_distinct_below}
use Rattle.call_cycles.specs.Calls.{Graph, callees, Calls, Leads, InRange, FirstOnCycle, EndIfNone, ends}
use Rattle.call_cycles.specs.Laws.{ChainsEnd}
use Rattle.call_cycles.proofs.Cases.{by_test}
use Rattle.call_cycles.proofs.Chains.{each_passes}

-- each of ps leads to f
abbrev AllLead : Graph → List ℕ → ℕ → Type 0
AllLead g [] f = Unit {0}
AllLead g (p ∷ ps) f = Leads g p f × AllLead g ps f

abbrev AllBelow : ℕ → List ℕ → Type 0
AllBelow n [] = Unit {0}
AllBelow n (p ∷ ps) = (p < n) × AllBelow n ps

further : (g : Graph) (ps : List ℕ) (f c : ℕ) → Calls g f c → AllLead g ps f → AllLead g ps c
further g [] f c call leads = tt
further g (p ∷ ps) f c call leads = ((suc leads.0.0, (f, leads.0.1, call)), further g ps f c call leads.1)

apart : (g : Graph) (ps : List ℕ) (f : ℕ) → (Leads g f f → ⊥) → AllLead g ps f → AllByRecursion (λ y. eqb f y ≡ false) ps
apart g [] f alone leads = tt
apart g (p ∷ ps) f alone leads =
    (by_test (eqb f p) (λ e. absurd (alone (subst (λ (x : ℕ). Leads g x f) (sym ((Decides-eqb f p).0 e)) leads.0))) (λ e. e), apart g ps f alone leads.1)

below : (n : ℕ) (ps : List ℕ) → AllBelow n ps → (q : ℕ) → list_any (eqb q) ps ≡ true → q < n
below n [] all q h = absurd (cc)
below n (p ∷ ps) all q h =
    by_test (eqb q p) (λ e. subst (λ (x : ℕ). x < n) (sym ((Decides-eqb q p).0 e)) all.0) (λ e. below n ps all.1 q (ap (λ (b : Bool). b || list_any (eqb q) ps) (sym e) ∙ h))

distinct : (f : ℕ) (ps : List ℕ) → AllByRecursion (λ y. eqb f y ≡ false) ps → IsDistinct eqb ps → IsDistinct eqb (f ∷ ps)
unfolding IsDistinct
distinct f ps a d = (a, d)

none_distinct : IsDistinct eqb []
unfolding IsDistinct
none_distinct = tt

-- the chains from f end within k, where ps are the functions before it on a chain
ends_after : (g : Graph) → InRange g → FirstOnCycle g None → (k f : ℕ) (ps : List ℕ) → f < length g → AllLead g ps f → IsDistinct eqb ps → AllBelow (length g) ps → length ps + k ≡ length g → ends k g f ≡ true
ends_after g range free zero f ps h leads once low e =
    let most = length-le_from_distinct_below (f ∷ ps) (length g) (distinct f ps (apart g ps f (free f h) leads) once) (below (length g) (f ∷ ps) (h, low)) in
    absurd (omega arith)
ends_after g range free (suc k) f ps h leads once low e =
    each_passes (ends k g) (callees g f) (λ i inside.
    let call : Calls g f (get_or (callees g f) i 0) = (i, inside, refl) in
    ends_after g range free k (get_or (callees g f) i 0) (f ∷ ps) (range f _ call) ((0, call), further g ps f _ call leads)
    (distinct f ps (apart g ps f (free f h) leads) once) (h, low) (omega arith))

pub chains_end : ChainsEnd
chains_end g range free f h = ends_after g range free (length g) f [] h tt none_distinct tt (omega arith)

end_if_none : (g : Graph) → InRange g → (r : Option ℕ) → FirstOnCycle g r → EndIfNone g r
end_if_none g range None free = chains_end g range free
end_if_none g range (Some f) first = tt

pub ends_if_first : {E : Type 0} (g : Graph) → InRange g → (r : Result (Option ℕ) E) → IfOk r (λ f. FirstOnCycle g f) → IfOk r (λ f. EndIfNone g f)
ends_if_first g range (Ok r) first = end_if_none g range r first
ends_if_first g range (Err e) first = tt
