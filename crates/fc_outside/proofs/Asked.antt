-- What a shelf was asked for, as bytes are taken.
use Rattle.std.proofs.Common.{◌+◌, ℕ, List, Option, None, Some, ap, ◌∙◌}
use Rattle.fc_outside.specs.Requests.{Requests, AskedOnce, TookMore, with_taken}

pub asked_more : (name : List ℕ) (k n : ℕ) (old mid new : Option Requests) → AskedOnce name k old mid → TookMore n mid new → AskedOnce name (k + n) old new
asked_more name k n None None new e h = h
asked_more name k n None (Some mid) new e h = absurd cc
asked_more name k n (Some old) None new e h = rw h tt
asked_more name k n (Some old) (Some mid) None e h = tt
asked_more name k n (Some old) (Some mid) (Some new) e h = h ∙ ap (with_taken n) e
