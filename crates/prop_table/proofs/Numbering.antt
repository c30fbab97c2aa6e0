-- The properties so far, and one more.
use Rattle.std.proofs.Common.{◌≡◌, ◌∙◌, ◌+◌, ◌-◌, ◌<◌, ◌≤◌, ◌++◌, ◌∷◌, [], ℕ, zero, suc, List, refl, ap, sym, length, arith, length-append, append_assoc, append-nil, get_or, set, drop, drop-cons, add-one, map, replicate}
use Rattle.std.specs.Prelude.{Some, None, Option, ◌==◌, if◌then◌else◌, slice_get}
use Rattle.std.proofs.lemmas.Grind.{common_steps}
use Rattle.fc_base.specs.declared.ids.Line.{Line}
use Rattle.c_ir.specs.declared.kind.AlarmKind.{AlarmKind}
use Rattle.c_ir.specs.declared.kind.Kind.TheVariants as K
use Rattle.c_ir.specs.declared.prop.Prop.{Prop}
use Rattle.c_ir.specs.declared.tree.Fun.{Fun}
use Rattle.c_ir.specs.declared.tree.PointClause.{PointClause}
use Rattle.c_ir.specs.declared.tree.PointInfo.{PointInfo}
use Rattle.c_ir.specs.declared.tree.SiteInfo.{SiteInfo}
use Rattle.c_ir.specs.Programs.{Program}
use Rattle.prop_table.specs.Points.{sites_at, calls_at, requires_at}
use Rattle.prop_table.specs.Rows.{Claim, Row, Spot, plain, of_clause, alarm, alarms_of, alarms, of_requires, call_requires, claims_at, kind_number, count_of, name_text, row_of, rows_behind, rows_at, point_rows, points_rows, fn_rows, fns_rows, prop_of, numbered, rows_of}
use Rattle.prop_table.specs.declared.state.Rows.{Rows}
use Rattle.prop_table.specs.inner.Counts.{check_count, site_count, alarms_count, calls_count, info_count, count_if, point_count, points_count, fn_count, fns_count}
use Rattle.prop_table.specs.inner.Numbered.{IsNumbered, Adds, AddsRows}

-- ---- lists

pub drop_next : {X : Type 0} (xs : List X) (i : ℕ) (x : X) → i < length xs → x ≡ get_or xs i x → drop i xs ≡ x ∷ drop (i + 1) xs
drop_next xs i x h is = rw (add-one i, drop-cons xs i x, ← is) refl

pub drop_at : (ns : List ℕ) (i : ℕ) → i < length ns → drop i ns ≡ get_or ns i 0 ∷ drop (i + 1) ns
drop_at ns i h = rw (add-one i, drop-cons ns i 0) refl

length-numbered : (id : ℕ) (rs : List Row) → length (numbered id rs) ≡ length rs
length-numbered id [] = refl
length-numbered id (r ∷ rs) = omega (arith, length-numbered (id + 1) rs)

numbered-append : (id : ℕ) (rs : List Row) (r : Row) → numbered id (rs ++ r ∷ []) ≡ numbered id rs ++ prop_of (id + length rs) r ∷ []
numbered-append id [] r = let n : id + 0 ≡ id = omega arith in rw n refl
numbered-append id (q ∷ rs) r =
    let n : (id + 1) + length rs ≡ id + length (q ∷ rs) = omega arith in
    ap (λ (ps : List Prop). prop_of id q ∷ ps) (numbered-append (id + 1) rs r ∙ rw n refl)

abbrev one_if : ℕ → Claim → ℕ
one_if k c = if kind_number c.kind == k then 1 else 0

count_of-append : (k : ℕ) (cs : List Claim) (c : Claim) → count_of k (cs ++ c ∷ []) ≡ count_of k cs + one_if k c
count_of-append k [] c = omega arith
count_of-append k (b ∷ cs) c = omega (arith, count_of-append k cs c)

rows_behind-append : (s : Spot) (before xs ys : List Claim) → rows_behind s before (xs ++ ys) ≡ rows_behind s before xs ++ rows_behind s (before ++ xs) ys
rows_behind-append s before [] ys = rw (append-nil before) refl
rows_behind-append s before (x ∷ xs) ys =
    ap (λ (rs : List Row). row_of s before x ∷ rs) (rows_behind-append s (before ++ x ∷ []) xs ys
    ∙ ap (λ (b : List Claim). rows_behind s (before ++ x ∷ []) xs ++ rows_behind s b ys) (append_assoc before (x ∷ []) xs))

-- ---- claims at one point

-- the row of a claim, with the count that was kept
abbrev pub kept_row : Rows → Spot → Claim → Row
kept_row old s c = record { spot = s; claim = c; name = name_text s.function.name (s.point - s.function.entry.0) c.kind (get_or old.counts (kind_number c.kind) 0) }

set_count : (counts : List ℕ) (k n : ℕ) → n < length counts → get_or (set counts n (get_or counts n 0 + 1)) k 0 ≡ get_or counts k 0 + (if n == k then 1 else 0)
set_count counts k n h = grind (arith, common_steps)

pub pushed : (old new : Rows) (s : Spot) (c : Claim) → new.rows ≡ old.rows ++ prop_of (length old.rows) (kept_row old s c) ∷ []
    → new.counts ≡ set old.counts (kind_number c.kind) (get_or old.counts (kind_number c.kind) 0 + 1)
    → kind_number c.kind < length old.counts → kind_number c.kind < 13 → Adds old new s (c ∷ [])
pushed old new s c p n within h = record { adds = step; longer = ap length p ∙ simp length-append (omega arith) }
  where
    step : (done : List Row) (before : List Claim) → IsNumbered old done before → IsNumbered new (done ++ row_of s before c ∷ []) (before ++ c ∷ [])
    step done before i =
        let m : length old.rows ≡ length done = ap length i.rows_are ∙ length-numbered 0 done in
        let z : 0 + length done ≡ length done = omega arith in
        let more = rw z at (numbered-append 0 done (row_of s before c)) in
        record {
          rows_are = p ∙ rw (m, i.counts_are (kind_number c.kind) h, i.rows_are) (sym more);
          counts_are = λ k l. rw n (set_count old.counts k (kind_number c.kind) within ∙ rw (i.counts_are k l) (sym (count_of-append k before c)));
        }

pub Adds-append : (a b c : Rows) (s : Spot) (xs ys : List Claim) → Adds a b s xs → Adds b c s ys → Adds a c s (xs ++ ys)
Adds-append a b c s xs ys p q = record {
  adds = λ done before h. rw (rows_behind-append s before xs ys, ← append_assoc done (rows_behind s before xs) (rows_behind s (before ++ xs) ys), ← append_assoc before xs ys)
      (q.adds (done ++ rows_behind s before xs) (before ++ xs) (p.adds done before h));
  longer = simp length-append (omega (arith, p.longer, q.longer));
}

pub Adds-none : (a : Rows) (s : Spot) → Adds a a s []
Adds-none a s = record { adds = λ done before h. rw (append-nil done, append-nil before) h; longer = omega arith }

pub clauses_step : (a b z : Rows) (s : Spot) (cs : List PointClause) (i : ℕ) (c : PointClause) → i < length cs → c ≡ get_or cs i c
    → Adds a b s (of_clause c ∷ []) → Adds b z s (map of_clause (drop (i + 1) cs)) → Adds a z s (map of_clause (drop i cs))
clauses_step a b z s cs i c h is p q = rw (drop_next cs i c h is) (Adds-append a b z s (of_clause c ∷ []) (map of_clause (drop (i + 1) cs)) p q)

pub sites_step : (a b z : Rows) (s : Spot) (p : Program) (line : Line) (ns : List ℕ) (i : ℕ) → i < length ns
    → Adds a b s (alarms_of line (get_or ns i 0) (slice_get p.sites (get_or ns i 0))) → Adds b z s (alarms p line (drop (i + 1) ns)) → Adds a z s (alarms p line (drop i ns))
sites_step a b z s p line ns i h x y =
    rw (drop_at ns i h) (Adds-append a b z s (alarms_of line (get_or ns i 0) (slice_get p.sites (get_or ns i 0))) (alarms p line (drop (i + 1) ns)) x y)

pub sites_room : (p : Program) (ns : List ℕ) (i : ℕ) → i < length ns
    → alarms_count p (drop i ns) ≡ site_count (slice_get p.sites (get_or ns i 0)) + alarms_count p (drop (i + 1) ns)
sites_room p ns i h = rw (drop_at ns i h) refl

same_requires : (line : Line) (cs : List PointClause) → map (of_requires line) cs ≡ replicate (length cs) (plain K.CallRequires line None)
same_requires line [] = refl
same_requires line (c ∷ cs) = ap (λ (xs : List Claim). plain K.CallRequires line None ∷ xs) (same_requires line cs)

pub calls_step : (a b z : Rows) (s : Spot) (p : Program) (line : Line) (gs : List ℕ) (i : ℕ) → i < length gs
    → Adds a b s (replicate (length (requires_at p (get_or gs i 0))) (plain K.CallRequires line None)) → Adds b z s (call_requires p line (drop (i + 1) gs)) → Adds a z s (call_requires p line (drop i gs))
calls_step a b z s p line gs i h x y =
    let first : Adds a b s (map (of_requires line) (requires_at p (get_or gs i 0))) = rw (same_requires line (requires_at p (get_or gs i 0))) x in
    rw (drop_at gs i h) (Adds-append a b z s (map (of_requires line) (requires_at p (get_or gs i 0))) (call_requires p line (drop (i + 1) gs)) first y)

pub calls_room : (p : Program) (gs : List ℕ) (i : ℕ) → i < length gs
    → calls_count p (drop i gs) ≡ length (requires_at p (get_or gs i 0)) + calls_count p (drop (i + 1) gs)
calls_room p gs i h = rw (drop_at gs i h) refl

pub number_step : (a b z : Rows) (s : Spot) (c : Claim) (i n : ℕ) → i < n → Adds a b s (c ∷ []) → Adds b z s (replicate (n - (i + 1)) c) → Adds a z s (replicate (n - i) c)
number_step a b z s c i n h x y =
    let e : n - i ≡ suc (n - (i + 1)) = omega (arith, h) in rw e (Adds-append a b z s (c ∷ []) (replicate (n - (i + 1)) c) x y)

pub number_end : (a : Rows) (s : Spot) (c : Claim) (i n : ℕ) → n ≤ i → Adds a a s (replicate (n - i) c)
number_end a s c i n h = let e : n - i ≡ 0 = omega (arith, h) in rw e (Adds-none a s)

-- ---- points

no_counts : (counts : List ℕ) (k : ℕ) → counts ≡ replicate 13 0 → k < 13 → get_or counts k 0 ≡ 0
no_counts counts k e h = rw e (grind (arith, common_steps))

length-rows_behind : (s : Spot) (before cs : List Claim) → length (rows_behind s before cs) ≡ length cs
length-rows_behind s before [] = refl
length-rows_behind s before (c ∷ cs) = omega (arith, length-rows_behind s (before ++ c ∷ []) cs)

begun : (old mid new : Rows) (s : Spot) (cs : List Claim) → mid.rows ≡ old.rows → mid.counts ≡ replicate 13 0 → Adds mid new s cs → AddsRows old new (rows_behind s [] cs)
begun old mid new s cs r n p = record {
  adds = λ done h. (p.adds done [] (record { rows_are = r ∙ h; counts_are = λ k l. no_counts mid.counts k n l })).rows_are;
  longer = p.longer ∙ rw (r, length-rows_behind s [] cs) refl;
}

pub info_rows : (old mid a b c z : Rows) (p : Program) (q : ℕ) (info : PointInfo) (s : Spot) (line : Line) (cs : List PointClause) (ns gs : List ℕ) → mid.rows ≡ old.rows → mid.counts ≡ replicate 13 0
    → line ≡ info.line → cs ≡ info.clauses → ns ≡ sites_at p q → gs ≡ calls_at p q → Adds mid a s (plain K.Dead line None ∷ []) → Adds a b s (map of_clause cs)
    → Adds b c s (alarms p line ns) → Adds c z s (call_requires p line gs) → AddsRows old z (rows_behind s [] (claims_at p q info))
unfolding claims_at
info_rows old mid a b c z p q info s line cs ns gs r n l d e f dead clauses sites calls =
    let sites_too : Adds b c s (alarms p info.line (sites_at p q)) = rw (← l, ← e) sites in
    let calls_too : Adds c z s (call_requires p info.line (calls_at p q)) = rw (← l, ← f) calls in
    let clauses_too : Adds a b s (map of_clause info.clauses) = rw (← d) clauses in
    let dead_too : Adds mid a s (plain K.Dead info.line None ∷ []) = rw (← l) dead in
    let x = Adds-append b c z s (alarms p info.line (sites_at p q)) (call_requires p info.line (calls_at p q)) sites_too calls_too in
    let y = Adds-append a b z s (map of_clause info.clauses) (alarms p info.line (sites_at p q) ++ call_requires p info.line (calls_at p q)) clauses_too x in
    let w = Adds-append mid a z s (plain K.Dead info.line None ∷ []) (map of_clause info.clauses ++ (alarms p info.line (sites_at p q) ++ call_requires p info.line (calls_at p q))) dead_too y in
    begun old mid z s (plain K.Dead info.line None ∷ (map of_clause info.clauses ++ (alarms p info.line (sites_at p q) ++ call_requires p info.line (calls_at p q)))) r n w

pub AddsRows-append : (a b c : Rows) (xs ys : List Row) → AddsRows a b xs → AddsRows b c ys → AddsRows a c (xs ++ ys)
AddsRows-append a b c xs ys p q = record {
  adds = λ done h. rw (← append_assoc done xs ys) (q.adds (done ++ xs) (p.adds done h));
  longer = simp length-append (omega (arith, p.longer, q.longer));
}

pub AddsRows-none : (a : Rows) → AddsRows a a []
AddsRows-none a = record { adds = λ done h. rw append-nil h; longer = omega arith }

pub points_step : (a b z : Rows) (p : Program) (number : ℕ) (f : Fun) (q end : ℕ) → q < end → AddsRows a b (point_rows p (record { number = number; function = f; point = q }))
    → AddsRows b z (points_rows p number f (q + 1) (end - (q + 1))) → AddsRows a z (points_rows p number f q (end - q))
points_step a b z p number f q end h x y =
    let e : end - q ≡ suc (end - (q + 1)) = omega (arith, h) in rw e (AddsRows-append a b z _ _ x y)

pub points_done : (a : Rows) (p : Program) (number : ℕ) (f : Fun) (q end : ℕ) → end ≤ q → AddsRows a a (points_rows p number f q (end - q))
points_done a p number f q end h = let e : end - q ≡ 0 = omega (arith, h) in rw e (AddsRows-none a)

pub fns_step : (a b z : Rows) (p : Program) (fs : List Fun) (i : ℕ) (f : Fun) → i < length fs → f ≡ get_or fs i f → AddsRows a b (fn_rows p i f)
    → AddsRows b z (fns_rows p (i + 1) (drop (i + 1) fs)) → AddsRows a z (fns_rows p i (drop i fs))
fns_step a b z p fs i f h is x y = rw (drop_next fs i f h is) (AddsRows-append a b z _ _ x y)

pub fns_room : (p : Program) (fs : List Fun) (i : ℕ) (f : Fun) → i < length fs → f ≡ get_or fs i f → fns_count p (drop i fs) ≡ fn_count p f + fns_count p (drop (i + 1) fs)
fns_room p fs i f h is = rw (drop_next fs i f h is) refl

-- ---- lengths

length-alarm : (line : Line) (n : ℕ) (o : Option AlarmKind) → length (alarm line n o) ≡ check_count o
length-alarm line n None = refl
length-alarm line n (Some a) = refl

length-alarms_of : (line : Line) (n : ℕ) (o : Option SiteInfo) → length (alarms_of line n o) ≡ site_count o
length-alarms_of line n None = refl
length-alarms_of line n (Some s) = simp length-append (omega (arith, length-alarm line n s.checks.first, length-alarm line n s.checks.second))

length-alarms : (p : Program) (line : Line) (ns : List ℕ) → length (alarms p line ns) ≡ alarms_count p ns
length-alarms p line [] = refl
length-alarms p line (n ∷ ns) = simp length-append (omega (arith, length-alarms_of line n (slice_get p.sites n), length-alarms p line ns))

length-map_requires : (line : Line) (cs : List PointClause) → length (map (of_requires line) cs) ≡ length cs
length-map_requires line [] = refl
length-map_requires line (c ∷ cs) = omega (arith, length-map_requires line cs)

length-map_clauses : (cs : List PointClause) → length (map of_clause cs) ≡ length cs
length-map_clauses [] = refl
length-map_clauses (c ∷ cs) = omega (arith, length-map_clauses cs)

length-call_requires : (p : Program) (line : Line) (gs : List ℕ) → length (call_requires p line gs) ≡ calls_count p gs
length-call_requires p line [] = refl
length-call_requires p line (g ∷ gs) = simp length-append (omega (arith, length-map_requires line (requires_at p g), length-call_requires p line gs))

length-claims_at : (p : Program) (q : ℕ) (info : PointInfo) → length (claims_at p q info) ≡ info_count p q info
unfolding claims_at info_count
length-claims_at p q info =
    simp length-append (omega (arith, length-map_clauses info.clauses, length-alarms p info.line (sites_at p q), length-call_requires p info.line (calls_at p q)))

length-rows_at : (p : Program) (s : Spot) (o : Option PointInfo) → length (rows_at p s o) ≡ count_if p s.point o
length-rows_at p s None = refl
length-rows_at p s (Some info) = length-rows_behind s [] (claims_at p s.point info) ∙ length-claims_at p s.point info

length-point_rows : (p : Program) (s : Spot) → length (point_rows p s) ≡ point_count p s.point
unfolding point_count
length-point_rows p s = length-rows_at p s (slice_get p.points s.point)

length-points_rows : (p : Program) (number : ℕ) (f : Fun) (q k : ℕ) → length (points_rows p number f q k) ≡ points_count p q k
length-points_rows p number f q zero = refl
length-points_rows p number f q (suc k) =
    simp length-append (omega (arith, length-point_rows p (record { number = number; function = f; point = q }), length-points_rows p number f (q + 1) k))

length-fn_rows : (p : Program) (number : ℕ) (f : Fun) → length (fn_rows p number f) ≡ fn_count p f
unfolding fn_count
length-fn_rows p number f = length-points_rows p number f f.entry.0 (f.exit.0 + 1 - f.entry.0)

length-fns_rows : (p : Program) (number : ℕ) (fs : List Fun) → length (fns_rows p number fs) ≡ fns_count p fs
length-fns_rows p number [] = refl
length-fns_rows p number (f ∷ fs) = simp length-append (omega (arith, length-fn_rows p number f, length-fns_rows p (number + 1) fs))

-- ---- room

pub added_same : (a b : Rows) (s : Spot) (n : ℕ) (c : Claim) → Adds a b s (replicate n c) → length b.rows ≡ length a.rows + n
added_same a b s n c h = omega (arith, h.longer, length-same n c)
  where
    length-same : (n : ℕ) (c : Claim) → length (replicate n c) ≡ n
    length-same zero c = refl
    length-same (suc n) c = omega (arith, length-same n c)

pub added_site : (a b : Rows) (s : Spot) (line : Line) (n : ℕ) (o : Option SiteInfo) → Adds a b s (alarms_of line n o) → length b.rows ≡ length a.rows + site_count o
added_site a b s line n o h = omega (arith, h.longer, length-alarms_of line n o)

pub added_point : (a b : Rows) (p : Program) (s : Spot) → AddsRows a b (point_rows p s) → length b.rows ≡ length a.rows + point_count p s.point
added_point a b p s h = omega (arith, h.longer, length-point_rows p s)

pub added_fn : (a b : Rows) (p : Program) (number : ℕ) (f : Fun) → AddsRows a b (fn_rows p number f) → length b.rows ≡ length a.rows + fn_count p f
added_fn a b p number f h = omega (arith, h.longer, length-fn_rows p number f)

pub info_room : (old mid a b c : Rows) (p : Program) (q : ℕ) (info : PointInfo) (s : Spot) (line : Line) (x : Claim) (cs : List PointClause) (ns gs : List ℕ) → length old.rows + info_count p q info ≤ 65536 → mid.rows ≡ old.rows
    → cs ≡ info.clauses → ns ≡ sites_at p q → gs ≡ calls_at p q → Adds mid a s (x ∷ []) → Adds a b s (map of_clause cs)
    → Adds b c s (alarms p line ns) → length c.rows + calls_count p gs ≤ 65536
unfolding info_count
info_room old mid a b c p q info s line x cs ns gs room r d e f dead clauses sites =
    omega (arith, room, ap length r, dead.longer, clauses.longer, length-map_clauses cs, ap length d, sites.longer, length-alarms p line ns, ap (alarms_count p) e, ap (calls_count p) f)

-- a table without rows, and all rows
pub all_rows : (a z : Rows) (p : Program) (fs : List Fun) → fs ≡ p.fns → a.rows ≡ [] → AddsRows a z (fns_rows p 0 fs) → z.rows ≡ numbered 0 (fns_rows p 0 p.fns)
all_rows a z p fs e r h = h.adds [] r ∙ ap (λ (gs : List Fun). numbered 0 (fns_rows p 0 gs)) e

pub length-rows_of : (p : Program) → length (rows_of p) ≡ fns_count p p.fns
unfolding rows_of
length-rows_of p = length-numbered 0 (fns_rows p 0 p.fns) ∙ length-fns_rows p 0 p.fns
