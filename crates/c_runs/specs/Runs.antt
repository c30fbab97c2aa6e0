-- Pieces of runs, and how they follow each other. A part of a program is taken from so many arrivals that are left, the
-- cells and the numbers of the input that are left; it leaves pieces, and the same again with an ending.
use Rattle.std.specs.Prelude.{ℕ, zero, suc, ℤ, pos, Bool, true, false, List, [], ◌∷◌, ◌++◌, Option, Some, None}
use Rattle.c_rules.specs.Constants.{is_zero}
use Rattle.c_runs.specs.Visits.{Cells, Visit, Piece, Arrival, Between}
use Rattle.c_runs.specs.Evaluation.{Evaluation}

-- how a part ends: it goes on after it; by `break`, `continue` or `return` (C11 6.8.6); the run ends in it; or the
-- run is cut, since no arrival is left
pub data Ending : Type 0 where
  Next : Ending
  Breaks : Ending
  Continues : Ending
  Returns : Ending
  Stopped : Ending
  Cut : Ending

pub record Out : Type 0 where
  pub pieces : List Piece
  pub cells : Cells
  pub input : List ℤ
  pub left : ℕ
  pub ending : Ending

-- arrivals left, cells, input
abbrev pub Part : Type 0
Part = ℕ → Cells → List ℤ → Out

-- ---- without an arrival

abbrev pub ends : Ending → Part
ends e n c i = record { pieces = []; cells = c; input = i; left = n; ending = e }

abbrev pub changes : (Cells → Cells) → Part
changes f n c i = ends Next n (f c) i

abbrev pub after : List Piece → Out → Out
after ps o = record { pieces = ps ++ o.pieces; cells = o.cells; input = o.input; left = o.left; ending = o.ending }

abbrev pub ended : Ending → Out → Out
ended e o = record { pieces = o.pieces; cells = o.cells; input = o.input; left = o.left; ending = e }

-- ---- arrivals

-- where no arrival is left the run is cut before it. Where an admitted predicate is false the run ends without a visit
abbrev pub admitting : Bool → Piece → Part → Part
admitting true p f n c i = after (p ∷ []) (f n c i)
admitting false p f n c i = ends Stopped n c i

abbrev pub arriving : ℕ → (Cells → Bool) → (Cells → List Visit) → Part → Part
arriving q admitted visits f zero c i = ends Cut zero c i
arriving q admitted visits f (suc n) c i = admitting (admitted c) (Arrival q c (visits c)) f n c i

-- ---- one after another

abbrev pub goes_on : Out → Part → Out
goes_on o f = after o.pieces (f o.left o.cells o.input)

-- the second where the first goes on after it
abbrev pub then_run : Ending → Out → Part → Out
then_run Next o f = goes_on o f
then_run Breaks o f = ended Breaks o
then_run Continues o f = ended Continues o
then_run Returns o f = ended Returns o
then_run Stopped o f = ended Stopped o
then_run Cut o f = ended Cut o

abbrev pub seq : Part → Part → Part
seq f g n c i = then_run (f n c i).ending (f n c i) g

abbrev pub all_run : List Part → Part
all_run [] = ends Next
all_run (f ∷ fs) = seq f (all_run fs)

-- ---- evaluations

abbrev pub between : ℕ → List Visit → Part → Part
between q visits f n c i = after (Between q visits ∷ []) (f n c i)

-- without a value the run ends
abbrev pub with_value : {A : Type 0} → Option A → (A → Part) → Part
with_value None f = ends Stopped
with_value (Some a) f = f a

abbrev pub evaluated : {A : Type 0} → ℕ → Evaluation A → (A → Part) → Part
evaluated q e f n c i = between q (e c).visits (with_value (e c).value f) n c i

abbrev pub choose : Bool → Part → Part → Part
choose true f g = g
choose false f g = f

-- the first part where the value isn't 0, else the second (C11 6.8.4.1)
abbrev pub branch : ℕ → Evaluation ℤ → Part → Part → Part
branch q e f g = evaluated q e (λ z. choose (is_zero z) f g)

-- ---- input

-- the next number of the input, and 0 where there is none left
abbrev pub taking : (ℤ → Part) → Part
taking f n c [] = f (pos 0) n c []
taking f n c (z ∷ zs) = f z n c zs

-- ---- loops (C11 6.8.5)

-- one turn leaves the loop by `break`, and goes back where it goes on after it or by `continue`
abbrev pub again : Ending → Out → Part → Out
again Next o rest = goes_on o rest
again Continues o rest = goes_on o rest
again Breaks o rest = ended Next o
again Returns o rest = ended Returns o
again Stopped o rest = ended Stopped o
again Cut o rest = ended Cut o

abbrev pub turns : ℕ → Part → Part
turns zero f n c i = ends Cut n c i
turns (suc k) f n c i = again (f n c i).ending (f n c i) (turns k f)

-- each turn has an arrival, so no more turns are made than arrivals are left
abbrev pub loop : Part → Part
loop f n c i = turns n f n c i

-- after `continue` the test of a `do`, and the last expression in the head of a `for`, come next
abbrev pub continued : Ending → Ending
continued Next = Next
continued Breaks = Breaks
continued Continues = Next
continued Returns = Returns
continued Stopped = Stopped
continued Cut = Cut

abbrev pub continuing : Part → Part
continuing f n c i = ended (continued (f n c i).ending) (f n c i)
