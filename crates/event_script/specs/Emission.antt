-- What lines say: a registration, as the change that it is, and an entry, with its names as they stand there (this
-- project's own).
use Rattle.std.specs.Prelude.{List, ℕ}
use Rattle.fc_base.specs.declared.status.LocalStatus.{LocalStatus}
use Rattle.serde_json.specs.Data.{Items}
use Rattle.serde_json.specs.View.{items_view}
use Rattle.status_history.specs.declared.history.Change.{Change}
use Rattle.status_history.specs.declared.history.Change.TheVariants.{Register}
use Rattle.event_script.specs.declared.emission.Emission.{Emission}
use Rattle.event_script.specs.declared.registration.Registration.{Registration}

-- the change that the program's Registration stands for
abbrev pub registered : Registration → Change
registered r = Register r.name.now r.correctness

-- emitter, property, status, hypotheses and version
pub record Said : Type 0 where
  pub emitter : List ℕ
  pub prop : List ℕ
  pub status : LocalStatus
  pub hyps : Items
  pub version : ℕ

-- what the program's Emission stands for
abbrev pub said : Emission → Said
said e = record { emitter = e.emitter.now; prop = e.prop.now; status = e.status; hyps = items_view e.hyps.now; version = e.version }
