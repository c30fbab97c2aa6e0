-- What all evaluations of an expression visit, by its meaning.
use Rattle.std.proofs.Common.{◌≡◌, inl, inr, ℤ, true, List, [], ◌∷◌, Option, Some, None, sym, subst}
use Rattle.c_ir.specs.Formed.{Form}
use Rattle.c_runs.specs.Visits.{Cells, Visit}
use Rattle.c_runs.specs.Evaluation.{Evaluation, Calling, Assigning, Meaning}
use Rattle.c_runs.specs.Parts.{VisitsArg, VisitsCall, VisitsAssign, VisitsPart}
use Rattle.prop_table.proofs.Lists.{Each}

-- ---- what all evaluations of an expression visit

abbrev pub Fine : {X : Type 0} → (Visit → Type 0) → Evaluation X → Type 0
Fine P e = (c : Cells) → Each P (e c).visits

abbrev pub FineArgs : (Visit → Type 0) → List (Evaluation ℤ) → Type 0
FineArgs P [] = Unit {0}
FineArgs P (e ∷ es) = Fine P e × FineArgs P es

abbrev pub FineCall : (Visit → Type 0) → Option Calling → Type 0
FineCall P None = Unit {0}
FineCall P (Some k) = FineArgs P k.args

abbrev pub FineAssign : (Visit → Type 0) → Option Assigning → Type 0
FineAssign P None = Unit {0}
FineAssign P (Some a) = Fine P a.target × Fine P a.value × FineCall P a.call

-- where it is well formed
pub record FineParts (P : Visit → Type 0) (m : Meaning) (f : Form) : Type 0 where
  pub value : f.value ≡ true → Fine P m.value
  pub target : f.target ≡ true → Fine P m.target
  pub call : f.value ≡ true → FineCall P m.call
  pub assign : f.value ≡ true → FineAssign P m.assign

arg_fine : (P : Visit → Type 0) (es : List (Evaluation ℤ)) (c : Cells) (vs : List Visit) → FineArgs P es
    → VisitsArg es c vs → Each P vs
arg_fine P [] c vs h is = absurd is
arg_fine P (e ∷ es) c vs h (inl is) = subst (Each P) (sym is) (h.0 c)
arg_fine P (e ∷ es) c vs h (inr is) = arg_fine P es c vs h.1 is

call_fine : (P : Visit → Type 0) (o : Option Calling) (c : Cells) (vs : List Visit) → FineCall P o
    → VisitsCall o c vs → Each P vs
call_fine P None c vs h is = absurd is
call_fine P (Some k) c vs h is = arg_fine P k.args c vs h is

assign_fine : (P : Visit → Type 0) (o : Option Assigning) (c : Cells) (vs : List Visit) → FineAssign P o
    → VisitsAssign o c vs → Each P vs
assign_fine P None c vs h is = absurd is
assign_fine P (Some a) c vs h (inl is) = subst (Each P) (sym is) (h.0 c)
assign_fine P (Some a) c vs h (inr (inl is)) = subst (Each P) (sym is) (h.1 c)
assign_fine P (Some a) c vs h (inr (inr is)) = call_fine P a.call c vs h.2 is

pub part_fine : (P : Visit → Type 0) (m : Meaning) (f : Form) (c : Cells) (vs : List Visit) → FineParts P m f
    → f.value ≡ true → VisitsPart m c vs → Each P vs
part_fine P m f c vs h is (inl v) = subst (Each P) (sym v) (h.value is c)
part_fine P m f c vs h is (inr (inl v)) = call_fine P m.call c vs (h.call is) v
part_fine P m f c vs h is (inr (inr v)) = assign_fine P m.assign c vs (h.assign is) v
