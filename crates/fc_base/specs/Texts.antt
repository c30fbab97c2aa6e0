-- The words that stand for statuses and verdicts, as bytes; the order of the verdicts.
use Rattle.std.specs.Prelude.{List, [], ◌∷◌, ℕ, codes}
use Rattle.fc_base.specs.declared.status.LocalStatus.{LocalStatus}
use Rattle.fc_base.specs.declared.status.LocalStatus.TheVariants.{DontKnow, FalseIfReachable, FalseAndReachable}
use Rattle.fc_base.specs.declared.status.LocalStatus.TheVariants as Status
use Rattle.fc_base.specs.declared.verdict.Verdict.{Verdict}
use Rattle.fc_base.specs.declared.verdict.Verdict.TheVariants.{NeverTried, ConsideredValid, Valid, ValidUnderHyp, Unknown, Invalid, InvalidUnderHyp, InvalidButDead, ValidButDead, UnknownButDead, Inconsistent}

-- the word of a status in scripts and messages
abbrev pub status_text : LocalStatus → List ℕ
status_text Status.True = codes "True"
status_text DontKnow = codes "Dont_know"
status_text FalseIfReachable = codes "False_if_reachable"
status_text FalseAndReachable = codes "False_and_reachable"

-- the word of a verdict in reports and messages
abbrev pub verdict_text : Verdict → List ℕ
verdict_text NeverTried = codes "Never_tried"
verdict_text ConsideredValid = codes "Considered_valid"
verdict_text Valid = codes "Valid"
verdict_text ValidUnderHyp = codes "Valid_under_hyp"
verdict_text Unknown = codes "Unknown"
verdict_text Invalid = codes "Invalid"
verdict_text InvalidUnderHyp = codes "Invalid_under_hyp"
verdict_text InvalidButDead = codes "Invalid_but_dead"
verdict_text ValidButDead = codes "Valid_but_dead"
verdict_text UnknownButDead = codes "Unknown_but_dead"
verdict_text Inconsistent = codes "Inconsistent"

-- all verdicts, in the order of a report's summary
abbrev pub all_verdicts : List Verdict
all_verdicts =
    NeverTried ∷ ConsideredValid ∷ Valid ∷ ValidUnderHyp ∷ Unknown ∷ Invalid ∷ InvalidUnderHyp
    ∷ InvalidButDead ∷ ValidButDead ∷ UnknownButDead ∷ Inconsistent ∷ []
