-- What an expression is where a statement evaluates it, by its node.
use Rattle.std.proofs.Common.{◌≡◌, ◌∙◌, ◌⊎◌, inl, inr, ℕ, ℤ, pos, ◌<◌, ◌^◌, ◌-ℤ◌, Bool, List, [], ◌∷◌, map, Option, Some, None, to_z, of_z, refl, sym, ap, ap₂, subst, arith}
use Rattle.std.specs.Int.{w128}
use Rattle.std.specs.Option.{option_map}
use Rattle.std.proofs.lemmas.Int.{ints, to_z-of_z}
use Rattle.fc_base.specs.declared.ids.FnId.{FnId}
use Rattle.fc_base.specs.declared.syntax.BinaryOp.{BinaryOp}
use Rattle.fc_base.specs.declared.syntax.UnaryOp.{UnaryOp}
use Rattle.c_ir.specs.declared.tree.Expr.{Expr, map-Expr, out-Expr}
use Rattle.c_ir.specs.declared.tree.Expr.TheFolds.{fold_out-Expr}
use Rattle.c_ir.specs.declared.tree.Expr.TheOpen.{Expr-F}
use Rattle.c_ir.specs.declared.tree.Node.{Node}
use Rattle.c_ir.specs.declared.tree.Node.TheVariants as N
use Rattle.int_value.specs.declared.value.Value.{Value}
use Rattle.eva_values.specs.Shapes.{converted_row}
use Rattle.eva_values.specs.Values.{Abstract, abstracted}
use Rattle.eva_rules.specs.Meant.{Called, Meant, also_to, cell_target, element_target, meant, meant_step, no_target, value_meant}
use Rattle.eva_rules.proofs.Meaning.{meant_value}
use Rattle.eva_run.specs.Code.{IsCall, converted_by, converts_step}
use Rattle.eva_run.specs.declared.values.Call.{Call}

-- ---- the node alone

abbrev pub with_node : Expr → Node Expr (List Expr) → Expr-F Expr
with_node e n = record { ty = (out-Expr e).ty; site = (out-Expr e).site; node = n }

pub meant_at : (overflow : Bool) (e : Expr) (n : Node Expr (List Expr)) → (out-Expr e).node ≡ n
    → meant overflow e ≡ meant_step overflow (map-Expr Expr Meant (meant overflow) (with_node e n))
unfolding meant
meant_at overflow e n is =
    fold_out-Expr Meant (meant_step overflow) e
    ∙ ap (λ (m : Node Expr (List Expr)). meant_step overflow
    (map-Expr Expr Meant (meant overflow) (with_node e m))) is

converts_at : (e : Expr) (n : Node Expr (List Expr)) → (out-Expr e).node ≡ n
    → converted_by e ≡ converts_step (map-Expr Expr (Value → Value) converted_by (with_node e n))
unfolding converted_by
converts_at e n is =
    fold_out-Expr (Value → Value) converts_step e
    ∙ ap (λ (m : Node Expr (List Expr)). converts_step
    (map-Expr Expr (Value → Value) converted_by (with_node e m))) is

-- ---- conversions of a result

pub converted_cast : (e of now : Expr) (v x y : Value) → (out-Expr e).node ≡ N.Cast of → now ≡ of
    → x ≡ converted_by now v → y ≡ converted_row (out-Expr e).ty x → y ≡ converted_by e v
converted_cast e of now v x y is same inner outer =
    outer ∙ ap (converted_row (out-Expr e).ty) (inner ∙ ap (λ (z : Expr). converted_by z v) same)
    ∙ sym (ap (λ (f : Value → Value). f v) (converts_at e (N.Cast of) is))

pub converted_none : (e : Expr) (v : Value) → ((x : Expr) → (out-Expr e).node ≡ N.Cast x → ⊥)
    → v ≡ converted_by e v
converted_none e v other = by_node (out-Expr e).node refl
  where
    same : (n : Node Expr (List Expr)) → (out-Expr e).node ≡ n
        → converts_step (map-Expr Expr (Value → Value) converted_by (with_node e n)) v ≡ converted_by e v
    same n is = sym (ap (λ (f : Value → Value). f v) (converts_at e n is))

    by_node : (n : Node Expr (List Expr)) → (out-Expr e).node ≡ n → v ≡ converted_by e v
    by_node (N.Literal x) is = same (N.Literal x) is
    by_node (N.Cell x checked) is = same (N.Cell x checked) is
    by_node (N.Element first n i checked) is = same (N.Element first n i checked) is
    by_node (N.Call g es) is = same (N.Call g es) is
    by_node (N.Unary op a) is = same (N.Unary op a) is
    by_node (N.Binary op a b) is = same (N.Binary op a b) is
    by_node (N.Assign a b) is = same (N.Assign a b) is
    by_node (N.Cond c a b) is = same (N.Cond c a b) is
    by_node (N.Cast of) is = absurd (other of is)

-- ---- calls

args_are : (overflow : Bool) (es : List Expr)
    → map value_meant (map (meant overflow) es) ≡ map (abstracted overflow) es
args_are overflow [] = refl
args_are overflow (e ∷ es) =
    ap₂ (λ (a : Abstract) (more : List Abstract). a ∷ more) (meant_value overflow e) (args_are overflow es)

pub call_known : (overflow : Bool) (e : Expr) (g : FnId) (es args : List Expr)
    → (out-Expr e).node ≡ N.Call g es
    → args ≡ es
    → (meant overflow e).call
    ≡ Some (record { function = g.0; args = map (abstracted overflow) args; convert = converted_by e })
call_known overflow e g es args is same =
    ap (λ (m : Meant). m.call) (meant_at overflow e (N.Call g es) is)
    ∙ (λ i. Some (record {
      function = g.0;
      args = (args_are overflow es ∙ ap (map (abstracted overflow)) (sym same)) i;
      convert = sym (converts_at e (N.Call g es) is) i;
    }))

also_known : (overflow : Bool) (e of : Expr) (found : Option Call) (known : Option Called)
    → (out-Expr e).node ≡ N.Cast of → IsCall overflow of found known
    → IsCall overflow e found (option_map (also_to (out-Expr e).ty) known)
also_known overflow e of None known is h = ap (option_map (also_to (out-Expr e).ty)) h
also_known overflow e of (Some k) known is h =
    ap (option_map (also_to (out-Expr e).ty)) h
    ∙ (λ i. Some (record {
      function = k.function.0;
      args = map (abstracted overflow) k.args.now;
      convert = sym (converts_at e (N.Cast of) is) i;
    }))

pub call_cast : (overflow : Bool) (e of now : Expr) (found : Option Call) → (out-Expr e).node ≡ N.Cast of
    → now ≡ of
    → IsCall overflow now found (meant overflow now).call → IsCall overflow e found (meant overflow e).call
call_cast overflow e of now found is same h =
    subst (λ (m : Option Called). IsCall overflow e found m)
    (sym (ap (λ (m : Meant). m.call) (meant_at overflow e (N.Cast of) is)))
    (also_known overflow e of found (meant overflow of).call is
    (subst (λ (x : Expr). IsCall overflow x found (meant overflow x).call) same h))

-- ---- what is neither a conversion nor a call

abbrev pub Is : Expr → Node Expr (List Expr) → Type 0
Is e n = (out-Expr e).node ≡ n

-- none of these is a call or a conversion
abbrev pub NoCall : Expr → Type 0
NoCall e =
    ((v : ℤ) × Is e (N.Literal v))
    ⊎ (((x : ℕ) × (checked : Bool) × Is e (N.Cell x checked))
    ⊎ (((first : ℕ) × (n : ℕ) × (i : Expr) × (checked : Bool) × Is e (N.Element first n i checked))
    ⊎ (((op : UnaryOp) × (a : Expr) × Is e (N.Unary op a))
    ⊎ (((op : BinaryOp) × (a : Expr) × (b : Expr) × Is e (N.Binary op a b))
    ⊎ (((a : Expr) × (b : Expr) × Is e (N.Assign a b))
    ⊎ ((c : Expr) × (a : Expr) × (b : Expr) × Is e (N.Cond c a b)))))))

call_of : (overflow : Bool) (e : Expr) (n : Node Expr (List Expr)) → Is e n
    → (meant overflow e).call ≡ (meant_step overflow
    (map-Expr Expr Meant (meant overflow) (with_node e n))).call
call_of overflow e n is = ap (λ (m : Meant). m.call) (meant_at overflow e n is)

pub call_none : (overflow : Bool) (e : Expr) → NoCall e → (meant overflow e).call ≡ None
call_none overflow e (inl (v, is)) = call_of overflow e (N.Literal v) is
call_none overflow e (inr (inl (x, checked, is))) = call_of overflow e (N.Cell x checked) is
call_none overflow e (inr (inr (inl (first, n, i, checked, is)))) =
    call_of overflow e (N.Element first n i checked) is
call_none overflow e (inr (inr (inr (inl (op, a, is))))) = call_of overflow e (N.Unary op a) is
call_none overflow e (inr (inr (inr (inr (inl (op, a, b, is)))))) = call_of overflow e (N.Binary op a b) is
call_none overflow e (inr (inr (inr (inr (inr (inl (a, b, is))))))) = call_of overflow e (N.Assign a b) is
call_none overflow e (inr (inr (inr (inr (inr (inr (c, a, b, is))))))) = call_of overflow e (N.Cond c a b) is

-- ---- an index

-- the greatest index of an array, as a number of 128 bits
pub last_index : (n : ℕ) (z : ℤ) → n < 2 ^ 32 → z ≡ pos n
    → to_z w128 (of_z w128 (to_z w128 (of_z w128 z) -ℤ pos 1)) ≡ (pos n -ℤ pos 1)
last_index n z below is =
    ap (λ (x : ℤ). to_z w128 (of_z w128 (x -ℤ pos 1))) (ap (λ (x : ℤ). to_z w128 (of_z w128 x)) is ∙ itself)
    ∙ to_z-of_z w128 (pos n -ℤ pos 1) (omega (arith, ints, below))
  where
    itself : to_z w128 (of_z w128 (pos n)) ≡ pos n
    itself = to_z-of_z w128 (pos n) (omega (arith, ints, below))
