-- What belongs to a point of a program: the operators that are evaluated there, the functions that its statement
-- calls, and the preconditions of a function (this project's own).
use Rattle.std.specs.Prelude.{◌==◌, ◌+◌, ◌++◌, ◌∷◌, [], ℕ, Bool, true, false, List, Option, Some, None, map, slice_get, if◌then◌else◌}
pub use Rattle.by_key.specs.Keys.{numbers_at}
use Rattle.by_key.specs.declared.lists.Keyed.{Keyed}
use Rattle.fc_base.specs.declared.ids.PointId.{PointId}
use Rattle.c_ir.specs.declared.kind.Kind.{Kind}
use Rattle.c_ir.specs.declared.kind.Kind.TheVariants as K
use Rattle.c_ir.specs.declared.tree.Fun.{Fun}
use Rattle.c_ir.specs.declared.tree.PointClause.{PointClause}
use Rattle.c_ir.specs.declared.tree.PointInfo.{PointInfo}
use Rattle.c_ir.specs.declared.tree.SiteInfo.{SiteInfo}
use Rattle.c_ir.specs.declared.tree.Stmt.{Stmt, fold-Stmt}
use Rattle.c_ir.specs.declared.tree.Stmt.TheOpen.{Stmt-F}
use Rattle.c_ir.specs.Calls.{calls_of, calls_if, calls_of_init}
use Rattle.c_ir.specs.Programs.{Program}

-- ---- numbers at points

-- these numbers, each at this point
abbrev pub at_point : PointId → List ℕ → List Keyed
at_point p [] = []
at_point p (n ∷ ns) = record { key = p.0; number = n } ∷ at_point p ns

-- ---- operators

-- each operator's number at its point, where the first one has number `n`
abbrev pub noted_sites : ℕ → List SiteInfo → List Keyed
noted_sites n [] = []
noted_sites n (s ∷ ss) = record { key = s.point.0; number = n } ∷ noted_sites (n + 1) ss

-- the numbers of the operators that are evaluated at this point
unfoldable pub sites_at : Program → ℕ → List ℕ
sites_at p q = numbers_at q (noted_sites 0 p.sites)

-- ---- calls

abbrev pub all_noted : List (List Keyed) → List Keyed
all_noted [] = []
all_noted (x ∷ xs) = x ++ all_noted xs

-- the functions that a statement calls itself, at its point and in order of evaluation; what an `if` or a loop governs
-- is statements of their own (C11 6.8)
abbrev pub noted_step : Stmt-F (List Keyed) → List Keyed
noted_step (Stmt-F.Declare p f n value) = at_point p (calls_of_init value)
noted_step (Stmt-F.Expression p e) = at_point p (calls_of e)
noted_step (Stmt-F.If p c ys ns) = at_point p (calls_of c) ++ (all_noted ys ++ all_noted ns)
noted_step (Stmt-F.While p c bs) = at_point p (calls_of c) ++ all_noted bs
noted_step (Stmt-F.DoWhile p bs c) = all_noted bs ++ at_point p (calls_of c)
noted_step (Stmt-F.For hs p c bs us) = all_noted hs ++ (at_point p (calls_if c) ++ (all_noted bs ++ all_noted us))
noted_step (Stmt-F.Break p) = []
noted_step (Stmt-F.Continue p) = []
noted_step (Stmt-F.Return p value) = at_point p (calls_if value)
noted_step (Stmt-F.Empty p) = []
noted_step (Stmt-F.Block ss) = all_noted ss
noted_step (Stmt-F.Note at) = []
noted_step (Stmt-F.Clause p) = []

abbrev pub noted_in : Stmt → List Keyed
noted_in = fold-Stmt (List Keyed) noted_step

abbrev pub noted_in_all : List Stmt → List Keyed
noted_in_all ss = all_noted (map noted_in ss)

abbrev pub noted_in_body : Option (List Stmt) → List Keyed
noted_in_body None = []
noted_in_body (Some ss) = noted_in_all ss

-- the calls of all functions
abbrev pub noted_calls : List Fun → List Keyed
noted_calls [] = []
noted_calls (f ∷ fs) = noted_in_body f.body ++ noted_calls fs

-- the functions that the statement with this point calls, by their numbers, as often as it calls them in the text
unfoldable pub calls_at : Program → ℕ → List ℕ
calls_at p q = numbers_at q (noted_calls p.fns)

-- ---- preconditions

abbrev pub is_requires : Kind → Bool
is_requires K.Requires = true
is_requires K.CallRequires = false
is_requires K.Ensures = false
is_requires K.Assert = false
is_requires K.Check = false
is_requires K.Admit = false
is_requires K.LoopInvariant = false
is_requires (K.Alarm a) = false
is_requires K.Dead = false

abbrev pub requires_among : List PointClause → List PointClause
requires_among [] = []
requires_among (c ∷ cs) = if is_requires c.kind then c ∷ requires_among cs else requires_among cs

abbrev pub requires_in : Option PointInfo → List PointClause
requires_in None = []
requires_in (Some info) = requires_among info.clauses

-- the preconditions of a function: the `requires` clauses at its entry, in order
abbrev pub requires_of : Program → Fun → List PointClause
requires_of p f = requires_in (slice_get p.points f.entry.0)

abbrev pub requires_if : Program → Option Fun → List PointClause
requires_if p None = []
requires_if p (Some f) = requires_of p f

-- those of the function with this number
unfoldable pub requires_at : Program → ℕ → List PointClause
requires_at p g = requires_if p (slice_get p.fns g)
