-- How runs begin: the cells that have numbers of the input have some of their types, for which the first state stands.
use Rattle.std.proofs.Common.{◌≡◌, ◌∙◌, ◌++◌, ℕ, ℤ, pos, Bool, List, [], ◌∷◌, length, slice_get, Some, refl, sym, ap, subst}
use Rattle.std.specs.Prelude.{if◌then◌else◌}
use Rattle.param_book.specs.Table.{entry_function}
use Rattle.c_ir.specs.Keeps.{Keeps, ty_at}
use Rattle.c_ir.specs.Programs.{Program}
use Rattle.c_rules.specs.Constants.{converted}
use Rattle.c_runs.specs.Parts.{IsOf, Typed}
use Rattle.c_runs.specs.Programs.{entry_number, free_cells, inputs, is_lib_entry, receiving_all, run_of, start_cells, world_of}
use Rattle.c_runs.specs.Runs.{Ending, Next, Out, Part, after, then_run}
use Rattle.c_runs.specs.Statements.{call_to, formals_in, receiving, set}
use Rattle.c_runs.specs.Visits.{Cells, Piece, all_visits}
use Rattle.c_runs.proofs.Cells.{cell_is_own, set_typed, some_is, start_typed}
use Rattle.c_runs.proofs.OperatorValues.{converted_is}
use Rattle.prop_table.specs.Rows.{rows_of}
use Rattle.prop_runs.specs.Numbers.{number_of}
use Rattle.abs_cells.specs.Cells.{Env}
use Rattle.abs_cells.specs.Laws.{In}
use Rattle.eva_rules.specs.Entries.{first_state, ground_of, records_of}
use Rattle.eva_rules.specs.Laws.{EntriesAreRight}
use Rattle.eva_rules.specs.Statements as eva
use Rattle.eva_rules.specs.Writing.{receive, receive_all, start_env}
use Rattle.eva_rules.proofs.Cover.{AllCovered, Clean, Sound}
use Rattle.eva_rules.proofs.Entries.{RunsAreCovered, entries_right}
use Rattle.eva_rules.proofs.Writing.{receive_in, start_stand}

-- ---- numbers of the input

-- it goes on without a piece and without an arrival, in typed cells
pub record Received (p : Program) (e : Env) (n : ℕ) (o : Out) : Type 0 where
  pub ending : o.ending ≡ Next
  pub pieces : o.pieces ≡ []
  pub left : o.left ≡ n
  pub typed : Typed p o.cells
  pub stands : In e o.cells

module _ (p : Program) (n : ℕ) where
  one_typed : (x : ℕ) (z : ℤ) (c : Cells) → Typed p c → Typed p (set x (Some (converted (ty_at p.cells x) z)) c)
  one_typed x z c typed =
      set_typed p x (Some (converted (ty_at p.cells x) z)) (ty_at p.cells x) c (cell_is_own p x)
      (λ y e. subst (λ (m : ℤ). IsOf (ty_at p.cells x) m) (some_is e) (converted_is (ty_at p.cells x) z)) typed

  pub receives_one : (x : ℕ) (e : Env) (c : Cells) (i : List ℤ) → Typed p c → In e c
      → Received p (receive p x e) n (receiving p x n c i)
  receives_one x e c [] typed all = record {
    ending = refl;
    pieces = refl;
    left = refl;
    typed = one_typed x (pos 0) c typed;
    stands = receive_in p x (pos 0) e c all;
  }
  receives_one x e c (z ∷ zs) typed all = record {
    ending = refl;
    pieces = refl;
    left = refl;
    typed = one_typed x z c typed;
    stands = receive_in p x z e c all;
  }

  then_receives : (d e : Env) (o : Out) (g : Part) → Received p d n o
      → ((c : Cells) (i : List ℤ) → Typed p c → In d c → Received p e n (g n c i))
      → Received p e n (then_run o.ending o g)
  then_receives d e o g first next =
      let second = subst (λ (m : ℕ). Received p e n (g m o.cells o.input)) (sym first.left)
      (next o.cells o.input first.typed first.stands) in
      let rest = g o.left o.cells o.input in
      let both = subst (λ (ps : List Piece). Received p e n (after ps rest)) (sym first.pieces) (record {
        ending = second.ending;
        pieces = second.pieces;
        left = second.left;
        typed = second.typed;
        stands = second.stands;
      }) in
      subst (λ (s : Ending). Received p e n (then_run s o g)) (sym first.ending) both

  receives_all : (xs : List ℕ) (e : Env) (c : Cells) (i : List ℤ) → Typed p c → In e c
      → Received p (receive_all p xs e) n (receiving_all p xs n c i)
  receives_all [] e c i typed all = record { ending = refl; pieces = refl; left = refl; typed = typed; stands = all }
  receives_all (x ∷ xs) e c i typed all =
      then_receives (receive p x e) (receive_all p xs (receive p x e)) (receiving p x n c i) (receiving_all p xs)
      (receives_one x e c i typed all) (λ d j t more. receives_all xs (receive p x e) d j t more)

  inputs_received : Keeps p → (lib : Bool) (g : ℕ) (i : List ℤ)
      → Received p (first_state p lib g).env n (inputs p lib g n (start_cells p) i)
  inputs_received keeps lib g i =
      let free = if lib then free_cells 0 p.cells else [] in
      let formals = formals_in (slice_get p.fns g) in
      then_receives (receive_all p free (start_env p)) (receive_all p formals (receive_all p free (start_env p)))
      (receiving_all p free n (start_cells p) i) (receiving_all p formals)
      (receives_all free (start_env p) (start_cells p) i (start_typed p keeps) (start_stand p))
      (λ c j typed all. receives_all formals (receive_all p free (start_env p)) c j typed all)

-- ---- runs

-- a run is one of the entry function in cells for which the first state stands
pub record Starts (p : Program) (values input : List ℤ) (n : ℕ) : Type 0 where
  pub cells : Cells
  pub left : List ℤ
  pub typed : Typed p cells
  pub stands : In (first_state p (is_lib_entry values) (entry_number p (entry_function values))).env cells
  pub run : run_of p values input n
      ≡ (call_to (world_of p values) (length p.fns) (entry_number p (entry_function values)) n cells left).pieces

goes_on_from : (p : Program) (n : ℕ) (e : Env) (o : Out) (f : Part) → Received p e n o
    → (then_run o.ending o f).pieces ≡ (f n o.cells o.input).pieces
goes_on_from p n e o f h =
    ap (λ (s : Ending). (then_run s o f).pieces) h.ending
    ∙ (ap (λ (ps : List Piece). ps ++ (f o.left o.cells o.input).pieces) h.pieces
    ∙ ap (λ (m : ℕ). (f m o.cells o.input).pieces) h.left)

pub starts : (p : Program) (values input : List ℤ) (n : ℕ) → Keeps p → Starts p values input n
unfolding run_of
starts p values input n keeps =
    let lib = is_lib_entry values in
    let g = entry_number p (entry_function values) in
    let o = inputs p lib g n (start_cells p) input in
    let h = inputs_received p n keeps lib g input in
    record {
      cells = o.cells;
      left = o.input;
      typed = h.typed;
      stands = h.stands;
      run = goes_on_from p n (first_state p lib g).env o (call_to (world_of p values) (length p.fns) g) h;
    }

-- ---- entries

-- the analysis of the entry function is right of its runs, under any test for properties that hold
abbrev pub EntrySound : Program → List ℤ → Type 0
EntrySound p values =
    (holding : ℕ → Bool)
    → Sound p (number_of (rows_of p)) holding
    (call_to (world_of p values) (length p.fns) (entry_number p (entry_function values)))
    (eva.call_to (ground_of p (rows_of p) values) (length p.fns) (entry_number p (entry_function values)))

runs_covered : (p : Program) (values : List ℤ) → Keeps p → EntrySound p values → RunsAreCovered p values
unfolding records_of
runs_covered p values keeps sound holding input n clean =
    let rows = rows_of p in
    let g = entry_number p (entry_function values) in
    let s = starts p values input n keeps in
    let visits = ap all_visits s.run in
    let good = sound holding (first_state p (is_lib_entry values) g) n s.cells s.left s.typed (λ _. s.stands)
    (subst (Clean p (number_of rows) holding) visits clean) in
    subst (AllCovered p (number_of rows) holding (records_of p rows values)) (sym visits) good.covered

pub entries_from_sound : ((p : Program) → Keeps p → (values : List ℤ) → EntrySound p values) → EntriesAreRight
entries_from_sound sound = entries_right (λ p keeps values. runs_covered p values keeps (sound p keeps values))
