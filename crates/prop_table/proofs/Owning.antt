-- The entry of a function is its own.
use Rattle.std.proofs.Common.{◌≡◌, ℕ, true, sym, arith, subst}
use Rattle.std.specs.Prelude.{Some, None, Option, slice_get, ◌==◌}
use Rattle.std.proofs.lemmas.Bool.{and_parts, true≢false}
use Rattle.c_ir.specs.Bodies.{Frame, AtEntry, Stand, bears, is_own}
use Rattle.c_ir.specs.Formed.{on_some}
use Rattle.c_ir.specs.Keeps.{Keeps, frame_of}
use Rattle.c_ir.specs.Programs.{Program}
use Rattle.c_ir.specs.declared.tree.Fun.{Fun}
use Rattle.c_ir.specs.declared.tree.PointInfo.{PointInfo}

abbrev pub Owned : ℕ → Option PointInfo → Type 0
Owned n None = ⊥
Owned n (Some i) = i.owner.0 ≡ n

same : (a b : ℕ) → (a == b) ≡ true → a ≡ b
same a b h = grind arith

owned_if : (f : Frame) (s : Stand) (o : Option PointInfo) → on_some (bears f s) o ≡ true → Owned f.function o
owned_if f s None h = true≢false (sym h)
owned_if f s (Some i) h = same i.owner.0 f.function (and_parts (i.owner.0 == f.function) _ h).0

pub entry_owned : (p : Program) (n : ℕ) (f : Fun) (o : Option PointInfo) → Keeps p → slice_get p.fns n ≡ Some f → slice_get p.points f.entry.0 ≡ o → Owned n o
unfolding is_own
entry_owned p n f o k is e = subst (Owned n) e (owned_if (frame_of p n f) AtEntry (slice_get p.points f.entry.0) (k.entry n f is))
