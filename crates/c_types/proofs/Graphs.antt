-- Each callee in a graph is a function of the program.
use Rattle.std.proofs.Common.{◌≡◌, ◌<◌, ℕ, zero, suc, List, [], ◌∷◌, Bool, true, false, length, get_or, Option, None, Some, refl, ap, sym, subst, arith}
use Rattle.std.specs.Prelude.{nat_lt, slice_get, if◌then◌else◌}
use Rattle.std.specs.Option.{option_map}
use Rattle.std.proofs.lemmas.Bool.{ltb-true}
use Rattle.c_ir.specs.declared.tree.Fun.{Fun}
use Rattle.c_types.specs.Programs.{FirstRecursive, below, graph, graph_to}
use Rattle.c_ir.specs.Keeps.{calls_in}
use Rattle.call_cycles.specs.Calls.{FirstOnCycle, Graph, InRange}

step : (n f : ℕ) (rest : List ℕ) (i : ℕ) (b : Bool) → nat_lt f n ≡ b → ((j : ℕ) → j < length rest → get_or rest j 0 < n) → i < length (if b then f ∷ rest else rest) → get_or (if b then f ∷ rest else rest) i 0 < n
step n f rest zero true e h within = ltb-true f n e
step n f rest (suc i) true e h within = h i (omega (arith, within))
step n f rest i false e h within = h i within

below_bound : (n : ℕ) (fs : List ℕ) (i : ℕ) → i < length (below n fs) → get_or (below n fs) i 0 < n
below_bound n [] i within = omega (arith, within)
below_bound n (f ∷ fs) i within = step n f (below n fs) i (nat_lt f n) refl (below_bound n fs) within

row : (n : ℕ) (fs : List Fun) (f i : ℕ) → i < length (get_or (graph_to n fs) f []) → get_or (get_or (graph_to n fs) f []) i 0 < n
row n [] f i within = omega (arith, within)
row n (x ∷ fs) zero i within = below_bound n (calls_in x.body) i within
row n (x ∷ fs) (suc f) i within = row n fs f i within

count : (n : ℕ) (fs : List Fun) → length (graph_to n fs) ≡ length fs
count n [] = refl
count n (f ∷ fs) = ap suc (count n fs)

pub in_range : (fs : List Fun) → InRange (graph fs)
in_range fs f c calls =
    subst (λ (d : ℕ). d < length (graph fs)) calls.2
    (subst (λ (m : ℕ). get_or (get_or (graph fs) f []) calls.0 0 < m) (sym (count (length fs) fs)) (row (length fs) fs f calls.0 calls.1))

pub graph_count : (fs : List Fun) → length (graph fs) ≡ length fs
graph_count fs = count (length fs) fs

pub none_recursive : (fs : List Fun) (g : Graph) (o : Option ℕ) → g ≡ graph fs → o ≡ None → FirstOnCycle g o → FirstRecursive fs None
unfolding FirstRecursive
none_recursive fs g o is none h =
    subst (λ (a : Graph). FirstOnCycle a None) is (subst (λ (p : Option ℕ). FirstOnCycle g p) none h)

some_cycle : (fs : List Fun) (g : Graph) (o : Option ℕ) (f : ℕ) → g ≡ graph fs → o ≡ Some f → FirstOnCycle g o → FirstOnCycle (graph fs) (Some f)
some_cycle fs g o f is some h =
    subst (λ (a : Graph). FirstOnCycle a (Some f)) is (subst (λ (p : Option ℕ). FirstOnCycle g p) some h)

pub some_recursive : (fs : List Fun) (g : Graph) (o : Option ℕ) (f : ℕ) (x : List ℕ) → g ≡ graph fs → o ≡ Some f → FirstOnCycle g o → option_map (λ k. k.name) (slice_get fs f) ≡ Some x → FirstRecursive fs (Some x)
unfolding FirstRecursive
some_recursive fs g o f x is some h name = record { function = f; cycles = some_cycle fs g o f is some h; name = name }

pub on_cycle_bound : (fs : List Fun) (g : Graph) (o : Option ℕ) (f : ℕ) → g ≡ graph fs → o ≡ Some f → FirstOnCycle g o → f < length fs
on_cycle_bound fs g o f is some h = subst (λ (n : ℕ). f < n) (graph_count fs) (some_cycle fs g o f is some h).0
