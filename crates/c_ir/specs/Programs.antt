-- What contracts see of a typed program.
use Rattle.std.specs.Prelude.{List}
use Rattle.c_ir.specs.declared.tree.CellInfo.{CellInfo}
use Rattle.c_ir.specs.declared.tree.Fun.{Fun}
use Rattle.c_ir.specs.declared.tree.PointInfo.{PointInfo}
use Rattle.c_ir.specs.declared.tree.SiteInfo.{SiteInfo}

-- its functions, cells, points and checked operators; the number of each is its place in its list
pub record Program : Type 0 where
  pub fns : List Fun
  pub cells : List CellInfo
  pub points : List PointInfo
  pub sites : List SiteInfo
