-- The lowest function on a cycle, as functions are visited.
use Rattle.std.proofs.Common.{◌≡◌, ◌<◌, ◌≤◌, ℕ, List, [], Bool, true, false, length, set, min, Option, Some, None, refl, sym, ◌∙◌, ap, subst, arith, ltb, leb, replicate, zero, suc}
use Rattle.std.proofs.Math.ListN.{length-replicate}
use Rattle.std.proofs.lemmas.Bool.{le-leb, leb-true}
use Rattle.std.proofs.lemmas.List.{get_or-replicate, get_or_past}
use Rattle.call_cycles.specs.declared.state.Colour.{Colour}
use Rattle.call_cycles.specs.declared.state.Colour.TheVariants.{Unvisited, Open}
use Rattle.call_cycles.specs.Calls.{Graph, LeadsBy, Leads, InRange, FirstOnCycle}
use Rattle.call_cycles.specs.inner.Colours.{colour, is_new, new_at}
use Rattle.call_cycles.specs.inner.Walk.{Good, AtMost, OnCycle, Firsts, lowest, first_with, left_colours}
use Rattle.call_cycles.proofs.Cases.{by_test}
use Rattle.call_cycles.proofs.Colours.{colour-other, by_same, by_below, unvisited-most}
use Rattle.call_cycles.proofs.Walk.{Entered, low-on_cycle, on_cycle-low, new-left}

pub firsts-none : (g : Graph) (cs : List Colour) (a : Option ℕ) → OnCycle g a → Firsts g cs a cs a
firsts-none g cs a on = record {
  sound = on;
  lower = λ x h. h;
  found = λ x new old q. absurd (cc);
}

pub firsts-more : (g : Graph) (cs : List Colour) (a : Option ℕ) (cs1 : List Colour) (a1 : Option ℕ) (cs2 : List Colour) (a2 : Option ℕ) → Firsts g cs a cs1 a1 → Firsts g cs1 a1 cs2 a2 → Firsts g cs a cs2 a2
firsts-more g cs a cs1 a1 cs2 a2 s t = record {
  sound = t.sound;
  lower = λ x h. t.lower x (s.lower x h);
  found = λ x new old q. by_test (new_at cs1 x) (λ n. t.found x n old q) (λ v. t.lower x (s.found x new v q));
}

lowest-on_cycle : (g : Graph) (a : Option ℕ) (f : ℕ) → Leads g f f → OnCycle g a → OnCycle g (Some (lowest a f))
lowest-on_cycle g None f q on = q
lowest-on_cycle g (Some n) f q on = by_below n f
    (λ l. let e : min n f ≡ n = omega arith in subst (λ (x : ℕ). Leads g x x) (sym e) on)
    (λ l. let e : min n f ≡ f = omega arith in subst (λ (x : ℕ). Leads g x x) (sym e) q)

first_with-on_cycle : (g : Graph) (b : Bool) (a : Option ℕ) (f : ℕ) → (b ≡ true → Leads g f f) → OnCycle g a → OnCycle g (first_with b a f)
first_with-on_cycle g true a f q on = lowest-on_cycle g a f (q refl) on
first_with-on_cycle g false a f q on = on

lowest-at_most : (a : Option ℕ) (f x : ℕ) → AtMost a x → lowest a f ≤ x
lowest-at_most None f x h = absurd h
lowest-at_most (Some n) f x h = omega arith

first_with-at_most : (b : Bool) (a : Option ℕ) (f x : ℕ) → AtMost a x → AtMost (first_with b a f) x
first_with-at_most true a f x h = lowest-at_most a f x h
first_with-at_most false a f x h = h

lowest-most : (a : Option ℕ) (f : ℕ) → lowest a f ≤ f
lowest-most None f = omega arith
lowest-most (Some n) f = omega arith

first_with-here : (b : Bool) (a : Option ℕ) (f : ℕ) → b ≡ true → AtMost (first_with b a f) f
first_with-here true a f e = lowest-most a f
first_with-here false a f e = absurd (cc)

-- f was visited after what it leads to, and is counted if it leads to itself
pub firsts-left : (g : Graph) (cs : List Colour) (f i : ℕ) (a : Option ℕ) (cs2 : List Colour) (a2 : Option ℕ) (cs' : List Colour) (b : Bool) → Firsts g (set cs f (Open i)) a cs2 a2 → (b ≡ true → Leads g f f) → (Leads g f f → b ≡ true) → ((x : ℕ) → new_at cs' x ≡ new_at cs2 x) → Firsts g cs a cs' (first_with b a2 f)
firsts-left g cs f i a cs2 a2 cs' b s on off same = record {
  sound = first_with-on_cycle g b a2 f on s.sound;
  lower = λ x h. first_with-at_most b a2 f x (s.lower x h);
  found = λ x new old q. by_same x f
      (λ e. subst (λ (y : ℕ). AtMost (first_with b a2 f) y) (sym e) (first_with-here b a2 f (off (subst (λ (y : ℕ). Leads g y y) e q))))
      (λ ne. first_with-at_most b a2 f x (s.found x (ap is_new (colour-other cs f x (Open i) ne) ∙ new) (sym (same x) ∙ old) q));
}

pub firsts_by : (g : Graph) (o : List ℕ) (cs : List Colour) (f p low : ℕ) (o2 : List ℕ) (cs2 : List Colour) (a : Option ℕ) (cs1 : List Colour) (a1 a2 : Option ℕ) (o3 : List ℕ) (cs3 cs4 : List Colour) (a4 : Option ℕ) → Entered g o cs f low o2 cs2 → p ≡ length o → cs1 ≡ set cs f (Open p) → a1 ≡ a → Firsts g cs1 a1 cs2 a2 → o3 ≡ o2 → cs3 ≡ cs2 → cs4 ≡ left_colours (ltb low p) p o3 cs3 → a4 ≡ first_with (leb low p) a2 f → Firsts g cs a cs4 a4
firsts_by g o cs f p low o2 cs2 a cs1 a1 a2 o3 cs3 cs4 a4 t at colours same s stack kept left counted =
    let s1 : Firsts g (set cs f (Open p)) a cs2 a2 = subst (λ (ds : List Colour). Firsts g ds a cs2 a2) colours (subst (λ (b : Option ℕ). Firsts g cs1 b cs2 a2) same s) in
    subst (λ (b : Option ℕ). Firsts g cs a cs4 b) (sym counted) (firsts-left g cs f p a cs2 a2 cs4 (leb low p) s1
    (λ e. on_cycle-low g o cs f low o2 cs2 t (let l : low ≤ p = leb-true low p e in omega arith))
    (λ q. let l = low-on_cycle g o cs f low o2 cs2 t q in le-leb low p (omega arith))
    (λ x. ap (λ (ds : List Colour). new_at ds x) (left ∙ ap (λ (q : List ℕ). left_colours (ltb low p) p q cs3) stack ∙ ap (λ (ds : List Colour). left_colours (ltb low p) p o2 ds) kept) ∙ new-left g o2 cs2 p (ltb low p) t.walked.good x))

-- a fresh state
all_new : (n x : ℕ) → colour (replicate n Unvisited) x ≡ Unvisited
all_new n x = by_below x n (λ l. get_or-replicate n x Unvisited Unvisited l)
    (λ l. get_or_past (replicate n Unvisited) x Unvisited (let k = length-replicate n Unvisited in omega (arith, k)))

good-fresh : (g : Graph) → Good g [] (replicate (length g) Unvisited)
good-fresh g = record {
  long = length-replicate (length g) Unvisited;
  room = omega (arith, unvisited-most (replicate (length g) Unvisited));
  places = λ x i e. let n = all_new (length g) x in absurd (cc);
  stands = λ i l. absurd (omega arith);
  closed = λ x y e call. let n = all_new (length g) x in absurd (cc);
}

pub good-fresh_by : (g : Graph) (o : List ℕ) (cs : List Colour) → o ≡ [] → cs ≡ replicate (length g) Unvisited → Good g o cs
good-fresh_by g o cs stack colours = subst (λ (q : List ℕ). Good g q cs) (sym stack) (subst (λ (ds : List Colour). Good g [] ds) (sym colours) (good-fresh g))

pub fresh-first : (g : Graph) (a : Option ℕ) → a ≡ None → OnCycle g a
fresh-first g a e = subst (λ (b : Option ℕ). OnCycle g b) (sym e) tt

in_range : (g : Graph) → InRange g → (k f h : ℕ) → LeadsBy g k f h → h < length g
in_range g range zero f h q = range f h q
in_range g range (suc k) f h q = range q.0 h q.2

-- when each function was visited, first is the answer
first-found : (g : Graph) → InRange g → (cs : List Colour) (a : Option ℕ) → Firsts g (replicate (length g) Unvisited) None cs a → ((x : ℕ) → x < length g → new_at cs x ≡ false) → FirstOnCycle g a
first-found g range cs None s all = λ f l q. s.found f (ap is_new (all_new (length g) f)) (all f l) q
first-found g range cs (Some n) s all =
    let inside : n < length g = in_range g range s.sound.0 n n s.sound.1 in
    (inside, s.sound, λ e less q. let k : n ≤ e = s.found e (ap is_new (all_new (length g) e)) (all e (omega arith)) q in absurd (omega arith))

pub first-found_by : (g : Graph) → InRange g → (cs0 : List Colour) (a0 : Option ℕ) (cs : List Colour) (a : Option ℕ) → cs0 ≡ replicate (length g) Unvisited → a0 ≡ None → Firsts g cs0 a0 cs a → ((x : ℕ) → x < length g → new_at cs x ≡ false) → FirstOnCycle g a
first-found_by g range cs0 a0 cs a colours none s all =
    first-found g range cs a (subst (λ (ds : List Colour). Firsts g ds None cs a) colours (subst (λ (b : Option ℕ). Firsts g cs0 b cs a) none s)) all
