-- The entries of alarms by the lists of open checks are those that are said.
use Rattle.std.proofs.Common.{◌≡◌, ◌∙◌, ◌+◌, ◌<◌, ◌==◌, ℕ, Bool, not, List, [], ◌∷◌, ◌++◌, length, refl, ap, ap₂, subst}
use Rattle.std.specs.Prelude.{Option, Some, None, if◌then◌else◌}
use Rattle.std.specs.List.{list_any}
use Rattle.std.proofs.lemmas.Option.{slice_get_within}
use Rattle.by_key.specs.Keys.{Groups}
use Rattle.by_key.specs.declared.lists.Keyed.{Keyed}
use Rattle.fc_base.specs.declared.ids.SiteId.{SiteId}
use Rattle.fc_base.specs.declared.status.LocalStatus.TheVariants as Status
use Rattle.c_ir.specs.Keeps.{Keeps}
use Rattle.c_ir.specs.Programs.{Program}
use Rattle.c_ir.specs.declared.kind.Kind.{Kind}
use Rattle.c_ir.specs.declared.kind.Kind.TheVariants as K
use Rattle.c_ir.specs.declared.prop.Prop.{Prop}
use Rattle.prop_table.specs.Rows.{Row, fns_rows, numbered, rows_of}
use Rattle.prop_table.proofs.Lists.{Each, from_all}
use Rattle.prop_table.proofs.Places.{InFns, fns_fit}
use Rattle.rte_alarms.specs.Entries.{entry, prop_id, decided_site, decided_kind, decided_entries, decided_said}
use Rattle.rte_alarms.specs.Ranges.{open_checks}
use Rattle.rte_alarms.specs.inner.Decided.{decided_at, kind_decided, decided_by}
use Rattle.status_history.specs.declared.history.Entry.{Entry}

-- the site, if there is one, is an operator's
abbrev Below : ℕ → Option SiteId → Type 0
Below n site = (s : SiteId) → site ≡ Some s → s.0 < n

at_is : (n : ℕ) (lists : List (List ℕ)) (checks : List Keyed) (kind : ℕ) (site : Option SiteId)
    → Groups lists n checks → Below n site → decided_at lists kind site ≡ decided_site checks kind site
at_is n lists checks kind None g b = refl
at_is n lists checks kind (Some s) g b =
    ap (λ (ks : List ℕ). not (list_any (λ k. k == kind) ks)) (g.at s.0 (b s refl))

kind_is : (n : ℕ) (lists : List (List ℕ)) (checks : List Keyed) (site : Option SiteId) (kind : Kind)
    → Groups lists n checks → Below n site → kind_decided lists site kind ≡ decided_kind checks site kind
kind_is n lists checks site K.Requires g b = refl
kind_is n lists checks site K.CallRequires g b = refl
kind_is n lists checks site K.Ensures g b = refl
kind_is n lists checks site K.Assert g b = refl
kind_is n lists checks site K.Check g b = refl
kind_is n lists checks site K.Admit g b = refl
kind_is n lists checks site K.LoopInvariant g b = refl
kind_is n lists checks site (K.Alarm a) g b = at_is n lists checks _ site g b
kind_is n lists checks site K.Dead g b = refl

abbrev entry_if : ℕ → ℕ → Bool → List Entry
entry_if version id is = if is then entry 1 (prop_id id) Status.True [] version ∷ [] else []

row_below : (p : Program) (m : ℕ) (r : Row) → InFns p m r → Below (length p.sites) r.claim.site
row_below p m r h s is =
    let check = h.fits.claim.check s is in slice_get_within p.sites s.0 check.operator check.is_operator

rows_said : (p : Program) (m : ℕ) (lists : List (List ℕ)) (checks : List Keyed) (version id : ℕ)
    (rs : List Row) → Groups lists (length p.sites) checks → Each (InFns p m) rs
    → decided_by version lists (numbered id rs) ≡ decided_entries version checks id (numbered id rs)
rows_said p m lists checks version id [] g h = refl
rows_said p m lists checks version id (r ∷ rs) g h =
    ap₂ (λ (is : Bool) (es : List Entry). entry_if version id is ++ es)
    (kind_is (length p.sites) lists checks r.claim.site r.claim.kind g (row_below p m r h.0))
    (rows_said p m lists checks version (id + 1) rs g h.1)

said : (p : Program) (lists : List (List ℕ)) (version : ℕ) → Keeps p
    → Groups lists (length p.sites) (open_checks p) → decided_by version lists (rows_of p)
    ≡ decided_said p (rows_of p) version
unfolding decided_said rows_of
said p lists version keeps g =
    rows_said p 0 lists (open_checks p) version 0 (fns_rows p 0 p.fns) g
    (fns_fit p 0 p.fns keeps (from_all p.fns))

-- where what is computed equals the program's
pub said_from : (p : Program) (lists : List (List ℕ)) (version n : ℕ) (ms : List Keyed) (rows : List Prop)
    → Keeps p → n ≡ length p.sites → ms ≡ open_checks p → rows ≡ rows_of p
    → Groups lists n ms → decided_by version lists rows ≡ decided_said p (rows_of p) version
said_from p lists version n ms rows keeps k m e g =
    let groups : Groups lists (length p.sites) (open_checks p) =
    subst (λ (i : ℕ). Groups lists i (open_checks p)) k
    (subst (λ (zs : List Keyed). Groups lists n zs) m g) in
    ap (decided_by version lists) e ∙ said p lists version keeps groups
