use Rattle.std.proofs.Common.{◌≡◌, ◌∙◌, ◌<◌, ℕ, List, [], ltb, length, get_or, ap, sym, subst, below_more, arith}
use Rattle.std.proofs.Math.ListN.{get_or-eq_default}
use Rattle.std.proofs.lemmas.Bool.Decides.{Decides-ltb, not_from_Decides}
use Rattle.call_cycles.specs.Calls.{Graph, callees, Calls}
use Rattle.call_cycles.proofs.Cases.{by_test}
use Rattle.call_cycles.proofs.tests.is_in_range.Goals as goal

calls_below : (g : Graph) (f n : ℕ) (xs : List ℕ) → xs ≡ callees g f → ((i : ℕ) → i < length xs → get_or xs i 0 < n) → (c : ℕ) → Calls g f c → c < n
calls_below g f n xs e each c call =
    subst (λ (x : ℕ). x < n) (ap (λ (ys : List ℕ). get_or ys call.0 0) e ∙ call.2) (each call.0 (subst (λ (ys : List ℕ). call.0 < length ys) (sym e) call.1))

-- only functions call
caller_below : (g : Graph) (f c : ℕ) → Calls g f c → f < length g
caller_below g f c call =
    by_test (ltb f (length g)) (λ e. (Decides-ltb f (length g)).0 e)
    (λ e. let out : f < length g → ⊥ = not_from_Decides (ltb f (length g)) (Decides-ltb f (length g)) e in
    let none : length (callees g f) ≡ 0 = ap length (get_or-eq_default g [] (omega (arith, out))) in
    let some = call.1 in
    absurd (omega (arith, none, some)))

pub loop-function-preserved : goal.loop-function-preserved
loop-function-preserved c =
    below_more _ _ c.loop-function.invariant (λ x call. calls_below c.args.calls.now c.loop-function.function (length c.args.calls.now) c.callees_of.result.now c.callees_of.ensures (c.are_below.ensures c.if-not-are_below.false) x call)

pub returns : goal.returns
returns c = λ e f x call. c.loop-function.invariant f (let h = caller_below c.args.calls.now f x call in omega arith) x call
