-- The numbers of the elements that an index names.
use Rattle.std.proofs.Common.{◌≡◌, ◌<◌, ◌≤◌, ◌^◌, ℕ, ℤ, pos, ◌≤ℤ◌, ◌<ℤ◌, Option, Some, None, Bool, true, false, cond, is_some, ap, sym, subst, ◌∙◌, arith}
use Rattle.std.proofs.lemmas.Int.{ints}
use Rattle.std.proofs.lemmas.Bool.{false≢true}
use Rattle.std.proofs.lemmas.Option.{same_Some}
use Rattle.int_interval.specs.declared.interval.Interval.{Interval}
use Rattle.int_interval.specs.declared.interval.Interval.TheVariants.{Within}
use Rattle.int_interval.specs.Rows.{is_one}
use Rattle.int_value.specs.Rows.{single_of}
use Rattle.int_value.specs.declared.value.Value.{Value}
use Rattle.abs_cells.specs.Cells.{index_met}
use Rattle.abs_cells.proofs.Index.{Ends, Cast, cast_of, index_ends}

pub low_cast : (n : ℕ) (index v : Value) (lo hi : ℤ) → n < 2 ^ 32 → v ≡ index_met n index → v.range ≡ Within lo hi → Cast lo
low_cast n index v lo hi f same e =
    let t = index_ends n index v lo hi same e in let a = t.low in let b = t.order in let d = t.high in
    cast_of lo t.low (omega (arith, ints))

pub high_cast : (n : ℕ) (index v : Value) (lo hi : ℤ) → n < 2 ^ 32 → v ≡ index_met n index → v.range ≡ Within lo hi → Cast hi
high_cast n index v lo hi f same e =
    let t = index_ends n index v lo hi same e in let a = t.low in let b = t.order in let d = t.high in
    cast_of hi (omega (arith, ints)) (omega (arith, ints))

single_low : (lo hi k : ℤ) → Some k ≡ single_of (Within lo hi) → lo ≡ k
single_low lo hi k e = by_test (is_one lo hi) e
  where
    by_test : (b : Bool) → Some k ≡ cond b (Some lo) None → lo ≡ k
    by_test true e = sym (same_Some k lo e)
    by_test false e = absurd (false≢true (sym (ap is_some e)))

pub number_cast : (n : ℕ) (index v : Value) (lo hi k : ℤ) → n < 2 ^ 32 → v ≡ index_met n index → v.range ≡ Within lo hi
    → Some k ≡ single_of v.range → Cast k
number_cast n index v lo hi k f same e is =
    subst Cast (single_low lo hi k (is ∙ ap single_of e)) (low_cast n index v lo hi f same e)
