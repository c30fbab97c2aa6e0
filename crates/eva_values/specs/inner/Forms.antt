-- Forms of operators with two operands, as the code sees them.
use Rattle.std.specs.Prelude.{true, false}
use Rattle.fc_base.specs.declared.relation.Relation.TheVariants as R
use Rattle.fc_base.specs.declared.syntax.BinaryOp.{BinaryOp}
use Rattle.fc_base.specs.declared.syntax.BinaryOp.TheVariants as B
use Rattle.machine_ints.specs.declared.operators.Operator.TheVariants as O
use Rattle.eva_values.specs.declared.operators.Form.{Form}
use Rattle.eva_values.specs.declared.operators.Form.TheVariants.{Logic, Relation, Operator}

abbrev pub form_of : BinaryOp → Form
form_of B.LogicOr = Logic false
form_of B.LogicAnd = Logic true
form_of B.Or = Operator O.Or
form_of B.Xor = Operator O.Xor
form_of B.And = Operator O.And
form_of B.Equal = Relation R.Equal
form_of B.NotEqual = Relation R.NotEqual
form_of B.Less = Relation R.Less
form_of B.Greater = Relation R.Greater
form_of B.LessEq = Relation R.LessEq
form_of B.GreaterEq = Relation R.GreaterEq
form_of B.Shl = Operator O.Shl
form_of B.Shr = Operator O.Shr
form_of B.Add = Operator O.Add
form_of B.Sub = Operator O.Sub
form_of B.Mul = Operator O.Mul
form_of B.Div = Operator O.Div
form_of B.Rem = Operator O.Rem
