-- The properties of a program: their order, their names and their numbers (this project's own, after the ACSL manual
-- and Frama-C's RTE manual).
use Rattle.std.specs.Prelude.{◌==◌, ◌+◌, ◌-◌, ◌++◌, ◌∷◌, [], ℕ, zero, suc, Bool, List, Option, Some, None, codes, map, slice_get, if◌then◌else◌}
use Rattle.std.specs.Fmt.{decimal}
use Rattle.std.specs.Prelude.{is_some}
use Rattle.fc_base.specs.declared.ids.Line.{Line}
use Rattle.fc_base.specs.declared.ids.SiteId.{SiteId}
use Rattle.c_ir.specs.declared.kind.AlarmKind.{AlarmKind}
use Rattle.c_ir.specs.declared.kind.AlarmKind.TheVariants as A
use Rattle.c_ir.specs.declared.kind.Kind.{Kind}
use Rattle.c_ir.specs.declared.kind.Kind.TheVariants as K
use Rattle.c_ir.specs.declared.prop.Prop.{Prop}
use Rattle.c_ir.specs.declared.tree.Fun.{Fun}
use Rattle.c_ir.specs.declared.tree.PointClause.{PointClause}
use Rattle.c_ir.specs.declared.tree.PointInfo.{PointInfo}
use Rattle.c_ir.specs.declared.tree.SiteInfo.{SiteInfo}
use Rattle.c_ir.specs.Kinds.{kind_text, is_firm}
use Rattle.c_ir.specs.Programs.{Program}
use Rattle.prop_table.specs.Points.{sites_at, calls_at, requires_at}

-- ---- what is claimed at a point

-- what a property claims, without its name and its number
pub record Claim : Type 0 where
  pub kind : Kind
  pub line : Line
  pub site : Option SiteId
  pub label : List ℕ

-- a claim without a label that stands on the line of its point
abbrev pub plain : Kind → Line → Option SiteId → Claim
plain kind line site = record { kind = kind; line = line; site = site; label = [] }

-- a clause's own property has its line and its label
abbrev pub of_clause : PointClause → Claim
of_clause c = record { kind = c.kind; line = c.line; site = None; label = c.label }

-- an operator's checks, the first before the second
abbrev pub alarm : Line → ℕ → Option AlarmKind → List Claim
alarm line n None = []
alarm line n (Some a) = plain (K.Alarm a) line (Some (record { 0 = n })) ∷ []

abbrev pub alarms_of : Line → ℕ → Option SiteInfo → List Claim
alarms_of line n None = []
alarms_of line n (Some s) = alarm line n s.checks.first ++ alarm line n s.checks.second

-- those of the operators with these numbers
abbrev pub alarms : Program → Line → List ℕ → List Claim
alarms p line [] = []
alarms p line (n ∷ ns) = alarms_of line n (slice_get p.sites n) ++ alarms p line ns

-- for each of these calls one for each precondition of the callee
abbrev pub of_requires : Line → PointClause → Claim
of_requires line c = plain K.CallRequires line None

abbrev pub call_requires : Program → Line → List ℕ → List Claim
call_requires p line [] = []
call_requires p line (g ∷ gs) = map (of_requires line) (requires_at p g) ++ call_requires p line gs

-- all claims at a point, in their order
unfoldable pub claims_at : Program → ℕ → PointInfo → List Claim
claims_at p q info =
    plain K.Dead info.line None ∷ (map of_clause info.clauses
    ++ (alarms p info.line (sites_at p q) ++ call_requires p info.line (calls_at p q)))

-- ---- names

-- a number for each kind, by which two are compared
abbrev pub kind_number : Kind → ℕ
kind_number K.Requires = 0
kind_number K.CallRequires = 1
kind_number K.Ensures = 2
kind_number K.Assert = 3
kind_number K.Check = 4
kind_number K.Admit = 5
kind_number K.LoopInvariant = 6
kind_number (K.Alarm A.DivisionByZero) = 7
kind_number (K.Alarm A.SignedOverflow) = 8
kind_number (K.Alarm A.Shift) = 9
kind_number (K.Alarm A.IndexBound) = 10
kind_number (K.Alarm A.Initialization) = 11
kind_number K.Dead = 12

-- how many of these claims are of the kind with this number
abbrev pub count_of : ℕ → List Claim → ℕ
count_of k [] = 0
count_of k (c ∷ cs) = (if kind_number c.kind == k then 1 else 0) + count_of k cs

-- the name of a property: FUNCTION@POINT/KIND/K, as `main@2/assert/0`
unfoldable pub name_text : List ℕ → ℕ → Kind → ℕ → List ℕ
name_text function point kind k = function ++ (codes "@" ++ (decimal point ++ (codes "/" ++ (kind_text kind ++ (codes "/" ++ decimal k)))))

-- ---- properties

-- where a property stands: its function with that one's number, and its point
pub record Spot : Type 0 where
  pub number : ℕ
  pub function : Fun
  pub point : ℕ

-- a property with its name, without its number
pub record Row : Type 0 where
  pub spot : Spot
  pub claim : Claim
  pub name : List ℕ

-- POINT counts from the function's entry; K is how many claims of the kind stand before it at the point
abbrev pub row_of : Spot → List Claim → Claim → Row
row_of s before c = record {
  spot = s;
  claim = c;
  name = name_text s.function.name (s.point - s.function.entry.0) c.kind (count_of (kind_number c.kind) before);
}

-- the properties of these claims, behind others of the same point
abbrev pub rows_behind : Spot → List Claim → List Claim → List Row
rows_behind s before [] = []
rows_behind s before (c ∷ cs) = row_of s before c ∷ rows_behind s (before ++ c ∷ []) cs

abbrev pub rows_at : Program → Spot → Option PointInfo → List Row
rows_at p s None = []
rows_at p s (Some info) = rows_behind s [] (claims_at p s.point info)

abbrev pub point_rows : Program → Spot → List Row
point_rows p s = rows_at p s (slice_get p.points s.point)

-- those of so many points, from point `q` on
abbrev pub points_rows : Program → ℕ → Fun → ℕ → ℕ → List Row
points_rows p number f q zero = []
points_rows p number f q (suc k) =
    point_rows p (record { number = number; function = f; point = q }) ++ points_rows p number f (q + 1) k

-- those of a function, from its entry to its exit
abbrev pub fn_rows : Program → ℕ → Fun → List Row
fn_rows p number f = points_rows p number f f.entry.0 (f.exit.0 + 1 - f.entry.0)

-- those of these functions, of which the first has this number
abbrev pub fns_rows : Program → ℕ → List Fun → List Row
fns_rows p number [] = []
fns_rows p number (f ∷ fs) = fn_rows p number f ++ fns_rows p (number + 1) fs

-- ---- numbers

abbrev pub prop_of : ℕ → Row → Prop
prop_of id r = record {
  id = record { 0 = id };
  kind = r.claim.kind;
  function = record { 0 = r.spot.number };
  point = record { 0 = r.spot.point };
  line = r.claim.line;
  firm = is_firm r.claim.kind;
  site = r.claim.site;
  name = r.name;
  label = r.claim.label;
}

-- a property's number is its place
abbrev pub numbered : ℕ → List Row → List Prop
numbered id [] = []
numbered id (r ∷ rs) = prop_of id r ∷ numbered (id + 1) rs

-- all properties of a program
unfoldable pub rows_of : Program → List Prop
rows_of p = numbered 0 (fns_rows p 0 p.fns)

-- for each function whether it has a body
abbrev pub is_defined : Fun → Bool
is_defined f = is_some f.body

abbrev pub defined_of : Program → List Bool
defined_of p = map is_defined p.fns
