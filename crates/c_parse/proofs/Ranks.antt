-- Operands bind tighter.
use Rattle.std.proofs.Common.{◌<◌, arith}
use Rattle.c_parse.specs.declared.level.Level.{Level}
use Rattle.c_parse.specs.declared.level.Level.TheVariants as L
use Rattle.c_parse.specs.Table.{Binary, operand, rank}

pub operand_lower : (l : Level) → rank (operand l) < rank (Binary l)
operand_lower L.LogicOr = omega arith
operand_lower L.LogicAnd = omega arith
operand_lower L.Or = omega arith
operand_lower L.Xor = omega arith
operand_lower L.And = omega arith
operand_lower L.Equality = omega arith
operand_lower L.Relation = omega arith
operand_lower L.Shift = omega arith
operand_lower L.Additive = omega arith
operand_lower L.Multiplicative = omega arith

pub level_low : (l : Level) → rank (Binary l) < 13
level_low L.LogicOr = omega arith
level_low L.LogicAnd = omega arith
level_low L.Or = omega arith
level_low L.Xor = omega arith
level_low L.And = omega arith
level_low L.Equality = omega arith
level_low L.Relation = omega arith
level_low L.Shift = omega arith
level_low L.Additive = omega arith
level_low L.Multiplicative = omega arith
