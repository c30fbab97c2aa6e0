-- The operators by point, and how many points there are.
use Rattle.std.proofs.Common.{◌≡◌, ◌∙◌, ◌+◌, ◌-◌, ◌<◌, ◌≤◌, ◌^◌, ℕ, zero, suc, List, [], ◌∷◌, ◌++◌, map, length, refl, ap, ap₂, sym, subst, append_assoc, arith}
use Rattle.std.specs.Prelude.{Some, get_or, slice_get}
use Rattle.by_key.specs.Keys.{Groups}
use Rattle.by_key.specs.declared.lists.Keyed.{Keyed}
use Rattle.fc_base.specs.declared.ids.SiteId.{SiteId}
use Rattle.c_ir.specs.Keeps.{Keeps}
use Rattle.c_ir.specs.Programs.{Program}
use Rattle.c_ir.specs.declared.tree.Fun.{Fun}
use Rattle.prop_table.specs.Points.{noted_sites, sites_at}
use Rattle.rte_alarms.specs.Entries.{site_id, sites_from, sites_of}
use Rattle.rte_alarms.specs.inner.Sites.{exits_top, sites_by}

-- ---- the loop

pub sites_next : (lists : List (List ℕ)) (q n : ℕ) → q < n → sites_by lists q (n - q)
    ≡ map site_id (get_or lists q []) ++ sites_by lists (q + 1) (n - (q + 1))
sites_next lists q n h = let e : n - q ≡ suc (n - (q + 1)) = omega (arith, h) in rw e refl

pub sites_end : (lists : List (List ℕ)) (q n : ℕ) → n ≤ q → sites_by lists q (n - q) ≡ []
sites_end lists q n h = let e : n - q ≡ 0 = omega (arith, h) in rw e refl

pub sites_step : (lists : List (List ℕ)) (q n : ℕ) (a b all : List SiteId) (ns : List ℕ) → q < n → ns
    ≡ get_or lists q [] → b ≡ a ++ map site_id ns → a ++ sites_by lists q (n - q) ≡ all → b
    ++ sites_by lists (q + 1) (n - (q + 1)) ≡ all
sites_step lists q n a b all ns h at added is =
    let rest = sites_by lists (q + 1) (n - (q + 1)) in
    ap (λ (ss : List SiteId). ss ++ rest) added
    ∙ append_assoc a (map site_id ns) rest
    ∙ ap (λ (ms : List ℕ). a ++ (map site_id ms ++ rest)) at
    ∙ ap (λ (ss : List SiteId). a ++ ss) (sym (sites_next lists q n h))
    ∙ is

-- ---- operators

by_point : (p : Program) (lists : List (List ℕ)) (n q k : ℕ) → Groups lists n (noted_sites 0 p.sites)
    → q + k ≤ n → sites_by lists q k ≡ sites_from p q k
unfolding sites_at
by_point p lists n q zero g h = refl
by_point p lists n q (suc k) g h =
    ap₂ (λ (ns : List ℕ) (ss : List SiteId). map site_id ns ++ ss) (g.at q (omega (arith, h)))
    (by_point p lists n (q + 1) k g (omega (arith, h)))

pub all_sites : (p : Program) (lists : List (List ℕ)) (n : ℕ) (ms : List Keyed) → n ≡ length p.points → ms
    ≡ noted_sites 0 p.sites → Groups lists n ms → sites_by lists 0 n ≡ sites_of p
unfolding sites_of
all_sites p lists n ms e m g =
    by_point p lists n 0 n (subst (λ (zs : List Keyed). Groups lists n zs) m g) (omega arith)
    ∙ ap (sites_from p 0) e

-- ---- points

exit_at : (fs : List Fun) (n : ℕ) (f : Fun) → slice_get fs n ≡ Some f → f.exit.0 + 1 ≤ exits_top fs
exit_at [] n f h = grind arith
exit_at (g ∷ fs) zero f h = let e : g ≡ f = grind arith in rw e (omega arith)
exit_at (g ∷ fs) (suc n) f h = omega (arith, exit_at fs n f h)

few_from : (p : Program) (n : ℕ) → n ≡ length p.points → Keeps p → n ≤ exits_top p.fns
few_from p zero e k = omega arith
few_from p (suc n) e k =
    let h = k.points n (omega (arith, e)) in omega
    (arith, exit_at p.fns h.number h.function h.is_function, h.to)

-- each point is one of a function, so none is behind all exits
pub points_few : (p : Program) (n : ℕ) → n ≡ length p.points → Keeps p → exits_top p.fns ≤ 2 ^ 32 → n ≤ 2 ^ 32
points_few p n e k h = omega (arith, few_from p n e k, h)
