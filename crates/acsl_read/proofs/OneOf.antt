-- One class more of a set.
use Rattle.std.proofs.Common.{◌≡◌, ◌<◌, ◌+◌, suc, ◌||◌, ℕ, List, drop, length, get_or, add-one, drop-cons}
use Rattle.acsl_read.specs.declared.class.Class.{Class}
use Rattle.acsl_read.specs.Classes.{same_class}
use Rattle.grammar_forms.specs.Forms.{one_of}
use Rattle.grammar_forms.proofs.Again.{one_more}

pub one_of_step : (ks : List Class) (c : Class) (i : ℕ) (k : Class) → i < length ks → k ≡ get_or ks i k
    → one_of same_class (drop i ks) c ≡ (same_class c k || one_of same_class (drop (i + 1) ks) c)
one_of_step ks c i k h e = rw (add-one, drop-cons ks i k, ← e) (one_more same_class k (drop (suc i) ks) c)
