-- Chains of calls put together.
use Rattle.std.proofs.Common.{ℕ, zero, suc, sym, subst, inl, inr}
use Rattle.call_cycles.specs.Calls.{Graph, Calls, LeadsBy, Leads}
use Rattle.call_cycles.specs.inner.Walk.{LeadsOrIs}

pub call_leads : (g : Graph) (a b : ℕ) → Calls g a b → Leads g a b
call_leads g a b call = (0, call)

pub leads_call : (g : Graph) (a b c : ℕ) → Leads g a b → Calls g b c → Leads g a c
leads_call g a b c p call = (suc p.0, (b, p.1, call))

after : (g : Graph) (a b : ℕ) → Leads g a b → (k c : ℕ) → LeadsBy g k b c → Leads g a c
after g a b p zero c q = leads_call g a b c p q
after g a b p (suc k) c q = leads_call g a q.0 c (after g a b p k q.0 q.1) q.2

pub leads_leads : (g : Graph) (a b c : ℕ) → Leads g a b → Leads g b c → Leads g a c
leads_leads g a b c p q = after g a b p q.0 c q.1

pub is_leads : (g : Graph) (a b c : ℕ) → LeadsOrIs g a b → Leads g b c → Leads g a c
is_leads g a b c (inl e) q = subst (λ (x : ℕ). Leads g x c) (sym e) q
is_leads g a b c (inr p) q = leads_leads g a b c p q

pub leads_is : (g : Graph) (a b c : ℕ) → Leads g a b → LeadsOrIs g b c → Leads g a c
leads_is g a b c p (inl e) = subst (λ (x : ℕ). Leads g a x) e p
leads_is g a b c p (inr q) = leads_leads g a b c p q
