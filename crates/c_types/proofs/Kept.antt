-- What a program keeps that comes of what was declared.
use Rattle.std.proofs.Common.{◌≡◌, ◌∙◌, inl, inr, ◌<◌, ◌&&◌, ℕ, suc, nat_lt, Bool, true, false, List, [], ◌++◌, length, map, slice_get, Option, Some, None, refl, ap, sym, subst, append-nil, arith}
use Rattle.std.proofs.lemmas.Bool.{and_from, ltb-true, ltb-false}
use Rattle.std.proofs.lemmas.List.{length-append}
use Rattle.std.specs.List.{list_all}
use Rattle.fc_base.specs.declared.ids.PointId.{PointId}
use Rattle.c_ir.specs.Formed.{cell_is, on_some}
use Rattle.c_ir.specs.Programs.{Program}
use Rattle.c_ir.specs.declared.tree.Fun.{Fun}
use Rattle.c_ir.specs.declared.tree.PointInfo.{PointInfo}
use Rattle.c_ir.specs.declared.tree.Stmt.{Stmt}
use Rattle.c_typing.specs.FileScope.{Declared}
use Rattle.c_typing.specs.Texts.{function_of}
use Rattle.c_typing.specs.declared.file.Definition.{Definition}
use Rattle.c_typing.specs.declared.file.Known.{Known}
use Rattle.c_ir.specs.Bodies.{Stand, AtEntry, AtExit, clauses_are, bears, is_own}
use Rattle.c_ir.specs.Keeps.{layout_of, callee_of, frame_of, is_set_of, result_fits, cells_fit, start_fits, Defines, HasPoint, HasSite}
use Rattle.c_types.proofs.Files.{All, Opens, callee_for, FunctionCells, formals_set, result_set, SoundAt}
use Rattle.c_types.proofs.Funs.{callees_are, FunctionAt, function_at, DefinedAt, defined_at, point_at}
use Rattle.c_types.proofs.Lookups.{some_is, no_element}
use Rattle.c_types.proofs.Shapes.{Shape, shape, shapes}
use Rattle.c_types.proofs.Starts.{StartsFit}
use Rattle.c_types.proofs.Steps.{Whole, frame, bare}
use Rattle.c_types.proofs.Texts.{funs_of, points_for, point_of}

-- the program is made of this
pub record Comes (p : Program) (d : Declared) : Type 0 where
  pub fns : p.fns ≡ funs_of (length d.made.points) d.functions d.definitions
  pub points : p.points ≡ d.made.points ++ points_for 0 d.functions d.definitions
  pub sites : p.sites ≡ d.made.sites
  pub shaped : map shape p.cells ≡ shapes d.made.objects
  pub started : StartsFit (shapes d.made.objects) d.starts → list_all start_fits p.cells ≡ true
  pub paired : length d.functions ≡ length d.definitions
  pub counts : d.made.cells ≡ length (shapes d.made.objects)

abbrev pub whole : Program → Whole
whole p = record { layout = layout_of p; sites = p.sites; points = p.points }

pub callees : (p : Program) (d : Declared) → Comes p d → (layout_of p).callees ≡ map (callee_for p.cells) d.functions
callees p d c =
    ap (map (callee_of p.cells)) c.fns
    ∙ callees_are p.cells (length d.made.points) d.functions d.definitions c.paired

abbrev pub all_of : (p : Program) (d : Declared) → Comes p d → All
all_of p d c = record { whole = whole p; functions = d.functions; callees = callees p d c }

-- it begins with what was made
pub opens : (p : Program) (d : Declared) (c : Comes p d) → Opens (all_of p d c) d
opens p d c = record {
  made = record {
    sites = record { more = []; is = c.sites ∙ sym (append-nil d.made.sites) };
    points = record { more = points_for 0 d.functions d.definitions; is = c.points };
    cells = record { more = []; is = c.shaped ∙ sym (append-nil (shapes d.made.objects)) };
    count = c.counts;
  };
  functions = record { more = []; is = sym (append-nil d.functions) };
}

-- ---- functions

-- each function, with what is known of it
at : (p : Program) (d : Declared) → Comes p d → (n : ℕ) (f : Fun) → slice_get p.fns n ≡ Some f → FunctionAt d.definitions p.points d.functions n n f
at p d c n f is =
    let h = function_at 0 (length d.made.points) d.functions d.definitions d.made.points refl n f (ap (λ (fs : List Fun). slice_get fs n) (sym c.fns) ∙ is) in
    subst (λ (ps : List PointInfo). FunctionAt d.definitions ps d.functions n n f) (sym c.points) (subst (λ (i : ℕ). FunctionAt d.definitions (d.made.points ++ points_for 0 d.functions d.definitions) d.functions i n f) (omega arith) h)

-- what holds of a function with a definition and of one without
by_either : (Q : Fun → Type 0) (ds : List (Option Definition)) (ps : List PointInfo) (ks : List Known) (n : ℕ) (f : Fun) (h : FunctionAt ds ps ks n n f) → ((b : Definition) → slice_get ds n ≡ Some (Some b) → Q (function_of h.known (Some b.body) b.entry b.exit)) → ((q : ℕ) → slice_get ps q ≡ Some (point_of n h.known) → slice_get ps (suc q) ≡ Some (point_of n h.known) → Q (function_of h.known None (record { 0 = q }) (record { 0 = suc q }))) → Q f
by_either Q ds ps ks n f h has lacks = elim h.comes [
  | inl e ↦ subst Q (sym e.is) (has e.definition e.is_definition)
  | inr e ↦ subst Q (sym e.is) (lacks e.point e.entry e.exit)
]

set_for : (p : Program) (d : Declared) (c : Comes p d) (n : ℕ) (k : Known) → FunctionCells (all_of p d c) n k → (list_all (cell_is (is_set_of n) p.cells) k.formals && result_fits p.cells n k.result) ≡ true
set_for p d c n k h =
    and_from _ _ (formals_set p.cells (record { 0 = n }) k h.result h.formals h.first h.cells) (result_set p.cells (record { 0 = n }) k h.result h.formals h.first h.cells)

pub cells_kept : (p : Program) (d : Declared) (c : Comes p d) → SoundAt (all_of p d c) d → (n : ℕ) (f : Fun) → slice_get p.fns n ≡ Some f → cells_fit p.cells n f ≡ true
cells_kept p d c s n f is =
    let h = at p d c n f is in
    let set = set_for p d c n h.known (s.functions n h.known h.is_known) in
    by_either (λ f. cells_fit p.cells n f ≡ true) d.definitions p.points d.functions n f h (λ b at. set) (λ q entry exit. set)

-- ---- points of functions

own_of : (p : Program) (n : ℕ) (f : Fun) (stand : Stand) (q : PointId) → is_own (frame (whole p) n None) stand q ≡ true → is_own (frame_of p n f) stand q ≡ true
unfolding is_own
own_of p n f stand q is = is

own_at : (p : Program) (n : ℕ) (k : Known) (stand : Stand) → clauses_are stand 0 ≡ true → (q : ℕ) → slice_get p.points q ≡ Some (point_of n k) → is_own (frame (whole p) n None) stand (record { 0 = q }) ≡ true
unfolding is_own
own_at p n k stand ok q is =
    let f = frame (whole p) n None in
    ap (on_some (bears f stand)) is ∙ bare f stand k.line ok

pub entry_kept : (p : Program) (d : Declared) (c : Comes p d) → SoundAt (all_of p d c) d → (n : ℕ) (f : Fun) → slice_get p.fns n ≡ Some f → is_own (frame_of p n f) AtEntry f.entry ≡ true
entry_kept p d c s n f is =
    let h = at p d c n f is in
    own_of p n f AtEntry f.entry (by_either (λ f. is_own (frame (whole p) n None) AtEntry f.entry ≡ true) d.definitions p.points d.functions n f h (λ b at. (s.definitions n b at).entry) (λ q entry exit. own_at p n h.known AtEntry refl q entry))

pub exit_kept : (p : Program) (d : Declared) (c : Comes p d) → SoundAt (all_of p d c) d → (n : ℕ) (f : Fun) → slice_get p.fns n ≡ Some f → is_own (frame_of p n f) AtExit f.exit ≡ true
exit_kept p d c s n f is =
    let h = at p d c n f is in
    own_of p n f AtExit f.exit (by_either (λ f. is_own (frame (whole p) n None) AtExit f.exit ≡ true) d.definitions p.points d.functions n f h (λ b at. (s.definitions n b at).exit) (λ q entry exit. own_at p n h.known AtExit refl (suc q) exit))

pub undefined_kept : (p : Program) (d : Declared) (c : Comes p d) → (n : ℕ) (f : Fun) → slice_get p.fns n ≡ Some f → f.body ≡ None → f.exit.0 ≡ suc f.entry.0
undefined_kept p d c n f is =
    let h = at p d c n f is in
    by_either (λ f. f.body ≡ None → f.exit.0 ≡ suc f.entry.0) d.definitions p.points d.functions n f h
    (λ b at none. no_element b.body (sym none))
    (λ q entry exit none. refl)

-- ---- definitions

of_definition : (p : Program) (d : Declared) (c : Comes p d) → SoundAt (all_of p d c) d → (n : ℕ) (k : Known) → slice_get d.functions n ≡ Some k → (b : Definition) → slice_get d.definitions n ≡ Some (Some b) → Defines p n (function_of k (Some b.body) b.entry b.exit) b.body
of_definition p d c s n k is b at =
    let sits = s.definitions n b at in
    record {
      typed = sits.typed k is;
      points = sits.points;
      first_site = sits.first_site;
      end_site = sits.end_site;
      sites = sits.sites;
    }

pub defined_kept : (p : Program) (d : Declared) (c : Comes p d) → SoundAt (all_of p d c) d → (n : ℕ) (f : Fun) (body : List Stmt) → slice_get p.fns n ≡ Some f → f.body ≡ Some body → Defines p n f body
defined_kept p d c s n f body is =
    let h = at p d c n f is in
    by_either (λ f. f.body ≡ Some body → Defines p n f body) d.definitions p.points d.functions n f h
    (λ b at has. subst (λ (ss : List Stmt). Defines p n (function_of h.known (Some b.body) b.entry b.exit) ss) (some_is b.body body has) (of_definition p d c s n h.known h.is_known b at))
    (λ q entry exit has. no_element body has)

-- the function of a definition
function_for : (p : Program) (d : Declared) → Comes p d → (n : ℕ) (b : Definition) → slice_get d.definitions n ≡ Some (Some b) → DefinedAt p.fns n b
function_for p d c n b is =
    subst (λ (fs : List Fun). DefinedAt fs n b) (sym c.fns) (defined_at (length d.made.points) d.functions d.definitions c.paired n b is)

-- ---- all points and sites

point_by : (p : Program) (d : Declared) (c : Comes p d) → SoundAt (all_of p d c) d → (q : ℕ) → q < length p.points → (old : Bool) → nat_lt q (length d.made.points) ≡ old → HasPoint p q
point_by p d c s q less true is =
    let h = s.points q (ltb-true q (length d.made.points) is) in
    let f = function_for p d c h.number h.definition h.is_definition in
    record { number = h.number; function = _; is_function = f.is_function; from = h.from; to = h.to }
point_by p d c s q less false is =
    let n = length d.made.points in
    let a = length-append d.made.points (points_for 0 d.functions d.definitions) in
    let b = ap length c.points in
    let h = point_at 0 n d.functions d.definitions q (ltb-false q n is) (omega (arith, a, b, less)) in
    record {
      number = h.number;
      function = h.function;
      is_function = ap (λ (fs : List Fun). slice_get fs h.number) c.fns ∙ h.is_function;
      from = h.from;
      to = h.to;
    }

pub points_kept : (p : Program) (d : Declared) (c : Comes p d) → SoundAt (all_of p d c) d → (q : ℕ) → q < length p.points → HasPoint p q
points_kept p d c s q less = point_by p d c s q less (nat_lt q (length d.made.points)) refl

pub sites_kept : (p : Program) (d : Declared) (c : Comes p d) → SoundAt (all_of p d c) d → (n : ℕ) → n < length p.sites → HasSite p n
sites_kept p d c s n less =
    let h = s.sites n (let e = ap length c.sites in omega (arith, e, less)) in
    let f = function_for p d c h.number h.definition h.is_definition in
    record {
      number = h.number;
      function = _;
      is_function = f.is_function;
      body = h.definition.body;
      is_body = refl;
      first_site = h.first_site;
      end_site = h.end_site;
      sites = h.sites;
      from = h.from;
      to = h.to;
    }

-- ---- starts

pub starts_kept : (p : Program) (d : Declared) (c : Comes p d) → SoundAt (all_of p d c) d → list_all start_fits p.cells ≡ true
starts_kept p d c s = c.started (subst (λ (ss : List Shape). StartsFit ss d.starts) c.shaped s.starts)
