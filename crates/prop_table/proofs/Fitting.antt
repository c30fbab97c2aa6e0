-- Numbers that count on reach no further than the highest of them.
use Rattle.std.proofs.Common.{◌≡◌, ◌+◌, ◌<◌, ◌≤◌, ◌^◌, [], ◌∷◌, ℕ, zero, suc, List, refl, subst, length, arith}
use Rattle.std.specs.Prelude.{Some, None, Option, ◌==◌, max, if◌then◌else◌, slice_get}
use Rattle.std.specs.Option.{option_and_then}
use Rattle.c_ir.specs.Keeps.{Keeps, HasSite}
use Rattle.c_ir.specs.Numbers.{Numbers, count, none, just, both, stmt_sites_of_all}
use Rattle.c_ir.specs.Programs.{Program}
use Rattle.c_ir.specs.declared.tree.Fun.{Fun}
use Rattle.c_ir.specs.declared.tree.Stmt.{Stmt}
use Rattle.prop_table.specs.inner.Fitting.{top, body_top, fns_top}

-- from one number up to another: none, or below a bound
abbrev Short : ℕ → ℕ → Option ℕ → Type 0
Short t from None = Unit {0}
Short t from (Some to) = (from ≤ to) × (to ≤ max from t)

just_short : (n a : ℕ) → Short (n + 1) a (if n == a then Some (a + 1) else None)
just_short n a = grind arith

more_short : (t u a m : ℕ) (o : Option ℕ) → a ≤ m → m ≤ max a t → Short u m o → Short (max t u) a o
more_short t u a m None h k s = s
more_short t u a m (Some b) h k s = (omega (arith, h, s.0), omega (arith, h, k, s.1))

then_short : (t u a : ℕ) (y : Numbers) (o : Option ℕ) → ((m : ℕ) → Short u m (count m y)) → Short t a o → Short (max t u) a (option_and_then (λ m. count m y) o)
then_short t u a y None f s = s
then_short t u a y (Some m) f s = more_short t u a m (count m y) s.0 s.1 (f m)

short : (ns : Numbers) (a : ℕ) → Short (top ns) a (count a ns)
short none a = (omega arith, omega arith)
short (just n) a = just_short n a
short (both x y) a = then_short (top x) (top y) a y (count a x) (short y) (short x a)

short_at : (ns : Numbers) (a b : ℕ) → count a ns ≡ Some b → (a ≤ b) × (b ≤ max a (top ns))
short_at ns a b h = subst (λ (o : Option ℕ). Short (top ns) a o) h (short ns a)

fns_top_at : (fs : List Fun) (n : ℕ) (f : Fun) → slice_get fs n ≡ Some f → body_top f.body ≤ fns_top fs
fns_top_at [] n f h = grind arith
fns_top_at (g ∷ fs) zero f h = let e : g ≡ f = grind arith in rw e (omega arith)
fns_top_at (g ∷ fs) (suc n) f h = omega (arith, fns_top_at fs n f h)

site_below : (p : Program) (n : ℕ) → HasSite p n → n < fns_top p.fns
site_below p n h =
    let s = short_at (stmt_sites_of_all h.body) h.first_site h.end_site h.sites in
    let t = subst (λ (o : Option (List Stmt)). body_top o ≤ fns_top p.fns) h.is_body (fns_top_at p.fns h.number h.function h.is_function) in
    omega (arith, s.0, s.1, t, h.from, h.to)

few_from : (p : Program) (n : ℕ) → n ≡ length p.sites → Keeps p → n ≤ fns_top p.fns
few_from p zero e k = omega arith
few_from p (suc n) e k = omega (arith, site_below p n (k.sites n (omega (arith, e))))

-- the operators' numbers are below the highest in the trees
pub sites_few : (p : Program) → Keeps p → fns_top p.fns ≤ 2 ^ 32 → length p.sites ≤ 2 ^ 32
sites_few p k h = omega (arith, few_from p (length p.sites) refl k, h)
