-- What typing an expression gives: sites that count on and have their entries, and a well formed tree.
use Rattle.std.specs.Prelude.{◌≡◌, true, List, length, Some}
use Rattle.fc_base.specs.declared.ids.PointId.{PointId}
use Rattle.c_ir.specs.declared.tree.Expr.{Expr}
use Rattle.c_ir.specs.declared.tree.SiteInfo.{SiteInfo}
use Rattle.c_ir.specs.Formed.{Layout}
use Rattle.c_ir.specs.Numbers.{count, sites}
use Rattle.c_ir.specs.Sited.{Extends, at_sites}
use Rattle.c_ir.specs.declared.place.Place.{Place}
use Rattle.c_ir.specs.declared.place.Place.TheVariants as P
use Rattle.c_rules.specs.Breaches.{Env}
use Rattle.c_rules.specs.Fits.{EnvFits, is_target}
use Rattle.c_ir.specs.Placed.{is_formed}
use Rattle.c_rules.specs.Typing.{Typing, gave}
use Rattle.c_typing.specs.Meaning.{Meaning}

-- the sites of an expression count on from those before it and have their entries
pub record Counted (point : PointId) (s : List SiteInfo) (e : Expr) (new : List SiteInfo) : Type 0 where
  pub grows : (infos : List SiteInfo) → Extends infos new → Extends infos s
  pub numbered : count (length s) (sites e) ≡ Some (length new)
  pub sited : (infos : List SiteInfo) → Extends infos new → at_sites infos point e ≡ true

-- so it is with what a construct gives, which is good where names fit
abbrev pub Gives : Layout → Env → PointId → (Expr → Type 0) → Typing Expr → Type 0
Gives l env point Q t =
    (s : List SiteInfo) (e : Expr) (new : List SiteInfo) → t s ≡ gave e new → Counted point s e new × (EnvFits l env → Q e)

pub record Good (m : Meaning) : Type 0 where
  pub value : (l : Layout) (env : Env) (point : PointId) (place : Place) → Gives l env point (λ e. is_formed l place e ≡ true) (m.value env point place)
  pub target : (l : Layout) (env : Env) (point : PointId) → Gives l env point (λ e. m.is_writable env ≡ true → is_target l e ≡ true) (m.target env point)
  pub again : (l : Layout) (env : Env) (point : PointId) → Gives l env point (λ e. is_formed l P.Inner e ≡ true) (m.again env point)
