-- What an expression is where a statement evaluates it: its value, the cell that it names, and the call or the assignment
-- that it is (C11 6.5.2.2, 6.5.16).
use Rattle.std.specs.Prelude.{ℕ, pos, ◌-ℤ◌, Bool, true, false, List, [], ◌++◌, map, Option, Some, None}
use Rattle.std.specs.Option.{option_map}
use Rattle.fc_base.specs.declared.ids.SiteId.{SiteId}
use Rattle.int_value.specs.Checks.{within_said}
use Rattle.int_value.specs.declared.value.Value.{Value}
use Rattle.c_ir.specs.declared.kind.AlarmKind.TheVariants as A
use Rattle.c_ir.specs.declared.ty.IntType.{IntType}
use Rattle.c_ir.specs.declared.tree.Node.{Node}
use Rattle.c_ir.specs.declared.tree.Node.TheVariants as N
use Rattle.c_ir.specs.declared.tree.Expr.{Expr, fold-Expr}
use Rattle.c_ir.specs.declared.tree.Expr.TheOpen.{Expr-F}
use Rattle.abs_cells.specs.Cells.{Env, index_met}
use Rattle.eva_values.specs.Marks.{mark_at}
use Rattle.eva_values.specs.Shapes.{converted_row}
use Rattle.eva_values.specs.Values.{Abstract, node_abstract}
use Rattle.eva_values.specs.declared.seen.SiteMark.{SiteMark}
use Rattle.eva_rules.specs.Passing.{has_number}
use Rattle.eva_rules.specs.Writing.{Writes, nowhere_to, set_cell, write_element}

-- where a value goes to: how it is written, the checks of the index, and whether there is a cell
pub record Target : Type 0 where
  pub writes : Env → Writes
  pub marks : Env → List SiteMark
  pub is_there : Env → Bool

-- a call: the function's number, the arguments, and the conversions of its result
pub record Called : Type 0 where
  pub function : ℕ
  pub args : List Abstract
  pub convert : Value → Value

pub record Assigned : Type 0 where
  pub target : Target
  pub value : Abstract
  pub call : Option Called

pub record Meant : Type 0 where
  pub value : Abstract
  pub target : Target
  pub call : Option Called
  pub assign : Option Assigned

abbrev pub value_meant : Meant → Abstract
value_meant m = m.value

abbrev pub no_target : Target
no_target = record { writes = λ e. nowhere_to; marks = λ e. []; is_there = λ e. false }

abbrev pub cell_target : ℕ → Target
cell_target x = record { writes = λ e. set_cell x; marks = λ e. []; is_there = λ e. true }

-- the index as far as it lies in the array of n elements
abbrev pub met_index : ℕ → Abstract → Env → Value
met_index n i e = index_met n (i.side e).value

abbrev pub element_target : Option SiteId → ℕ → ℕ → Abstract → Target
element_target site first n i = record {
  writes = λ e. write_element first n (met_index n i e);
  marks = λ e. i.marks e ++ mark_at site A.IndexBound (within_said (pos 0) (pos n -ℤ pos 1) (i.side e).value.range);
  is_there = λ e. has_number (met_index n i e);
}

abbrev pub valued : Abstract → Meant
valued a = record { value = a; target = no_target; call = None; assign = None }

-- a conversion of a call's result
abbrev pub also_to : IntType → Called → Called
also_to ty k = record { function = k.function; args = k.args; convert = λ v. converted_row ty (k.convert v) }

abbrev pub node_meant : Bool → IntType → Option SiteId → Node Meant (List Meant) → Meant
node_meant overflow ty site (N.Literal v) = valued (node_abstract overflow ty site (N.Literal v))
node_meant overflow ty site (N.Cell x checked) = record {
  value = node_abstract overflow ty site (N.Cell x checked);
  target = cell_target x;
  call = None;
  assign = None;
}
node_meant overflow ty site (N.Element first n i checked) = record {
  value = node_abstract overflow ty site (N.Element first n i.value checked);
  target = element_target site first n i.value;
  call = None;
  assign = None;
}
node_meant overflow ty site (N.Call g es) = record {
  value = node_abstract overflow ty site (N.Call g (map value_meant es));
  target = no_target;
  call = Some (record { function = g.0; args = map value_meant es; convert = λ v. v });
  assign = None;
}
node_meant overflow ty site (N.Unary op e) = valued (node_abstract overflow ty site (N.Unary op e.value))
node_meant overflow ty site (N.Binary op a b) =
    valued (node_abstract overflow ty site (N.Binary op a.value b.value))
node_meant overflow ty site (N.Assign t e) = record {
  value = node_abstract overflow ty site (N.Assign t.value e.value);
  target = no_target;
  call = None;
  assign = Some (record { target = t.target; value = e.value; call = e.call });
}
node_meant overflow ty site (N.Cond c a b) =
    valued (node_abstract overflow ty site (N.Cond c.value a.value b.value))
node_meant overflow ty site (N.Cast e) = record {
  value = node_abstract overflow ty site (N.Cast e.value);
  target = no_target;
  call = option_map (also_to ty) e.call;
  assign = None;
}

abbrev pub meant_step : Bool → Expr-F Meant → Meant
meant_step overflow e = node_meant overflow e.ty e.site e.node

unfoldable pub meant : Bool → Expr → Meant
meant overflow = fold-Expr Meant (meant_step overflow)
