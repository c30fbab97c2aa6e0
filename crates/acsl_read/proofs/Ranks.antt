-- Operands bind tighter.
use Rattle.std.proofs.Common.{◌<◌, ◌≡◌, refl, arith}
use Rattle.acsl_read.specs.declared.level.Level.{Level}
use Rattle.acsl_read.specs.declared.level.Level.TheVariants as L
use Rattle.acsl_read.specs.Table.{Binary, More, operand, inner, rank}

pub operand_lower : (l : Level) → rank (operand l) < rank (Binary l)
operand_lower L.Iff = omega arith
operand_lower L.Or = omega arith
operand_lower L.And = omega arith
operand_lower (L.Sum s) = omega arith
operand_lower (L.Product s) = omega arith

pub level_low : (l : Level) → rank (Binary l) < 11
level_low L.Iff = omega arith
level_low L.Or = omega arith
level_low L.And = omega arith
level_low (L.Sum s) = omega arith
level_low (L.Product s) = omega arith
