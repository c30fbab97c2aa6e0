-- How many properties there are.
use Rattle.std.specs.Prelude.{◌+◌, ◌-◌, ◌^◌, ℕ, zero, suc, List, [], ◌∷◌, Option, Some, None, length, slice_get, min}
use Rattle.c_ir.specs.Programs.{Program}
use Rattle.c_ir.specs.declared.kind.AlarmKind.{AlarmKind}
use Rattle.c_ir.specs.declared.tree.Fun.{Fun}
use Rattle.c_ir.specs.declared.tree.PointInfo.{PointInfo}
use Rattle.c_ir.specs.declared.tree.SiteInfo.{SiteInfo}
use Rattle.prop_table.specs.Points.{sites_at, calls_at, requires_of, requires_at}

-- a count as it is kept: 2^64 - 1 stands for that many and more
abbrev pub capped : ℕ → ℕ
capped n = min n (2 ^ 64 - 1)

-- for each function how many preconditions it has
abbrev pub requires_counts : Program → List Fun → List ℕ
requires_counts p [] = []
requires_counts p (f ∷ fs) = length (requires_of p f) ∷ requires_counts p fs

abbrev pub calls_count : Program → List ℕ → ℕ
calls_count p [] = 0
calls_count p (g ∷ gs) = length (requires_at p g) + calls_count p gs

abbrev pub check_count : Option AlarmKind → ℕ
check_count None = 0
check_count (Some a) = 1

abbrev pub site_count : Option SiteInfo → ℕ
site_count None = 0
site_count (Some s) = check_count s.checks.first + check_count s.checks.second

abbrev pub alarms_count : Program → List ℕ → ℕ
alarms_count p [] = 0
alarms_count p (n ∷ ns) = site_count (slice_get p.sites n) + alarms_count p ns

unfoldable pub info_count : Program → ℕ → PointInfo → ℕ
info_count p q info = 1 + (length info.clauses + (alarms_count p (sites_at p q) + calls_count p (calls_at p q)))

abbrev pub count_if : Program → ℕ → Option PointInfo → ℕ
count_if p q None = 0
count_if p q (Some info) = info_count p q info

unfoldable pub point_count : Program → ℕ → ℕ
point_count p q = count_if p q (slice_get p.points q)

-- of so many points, from point `q` on
abbrev pub points_count : Program → ℕ → ℕ → ℕ
points_count p q zero = 0
points_count p q (suc k) = point_count p q + points_count p (q + 1) k

unfoldable pub fn_count : Program → Fun → ℕ
fn_count p f = points_count p f.entry.0 (f.exit.0 + 1 - f.entry.0)

abbrev pub fns_count : Program → List Fun → ℕ
fns_count p [] = 0
fns_count p (f ∷ fs) = fn_count p f + fns_count p fs
