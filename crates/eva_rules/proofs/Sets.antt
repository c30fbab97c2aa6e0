-- Used sets, visits, pieces and records as lists.
use Rattle.std.proofs.Common.{◌≡◌, ◌∙◌, ◌++◌, ◌==◌, ◌||◌, ◌⊎◌, ℕ, Bool, true, false, IsTrue, List, [], ◌∷◌, refl, sym, ap, subst, inl, inr}
use Rattle.std.proofs.lemmas.Bool.{eq-eqb, eqb-true, false≢true, true≢false, or_cases}
use Rattle.prop_set.specs.Sets.{is_member, union, with_member}
use Rattle.prop_set.proofs.Lists.{adds_all, adds_one}
use Rattle.c_ir.specs.Programs.{Program}
use Rattle.c_runs.specs.Visits.{Named, Piece, Visit, all_visits, visits_of}
use Rattle.eva_rules.specs.Passing.{Record}
use Rattle.eva_rules.proofs.Cover as cover

or_left : (a b : Bool) → a ≡ true → (a || b) ≡ true
or_left a b h = ap (λ (x : Bool). x || b) h

or_right : (a b : Bool) → b ≡ true → (a || b) ≡ true
or_right true b h = refl
or_right false b h = h

module _ (p : Program) (number : Named → ℕ) (holding : ℕ → Bool) where
  abbrev Within : List ℕ → Type 0
  Within = cover.Within p number holding

  abbrev Clean : List Visit → Type 0
  Clean = cover.Clean p number holding

  abbrev Covered : List Record → Visit → Type 0
  Covered = cover.Covered p number holding

  abbrev AllCovered : List Record → List Visit → Type 0
  AllCovered = cover.AllCovered p number holding

  -- ---- used sets

  pub within_left : (xs ys : List ℕ) → Within (union xs ys) → Within xs
  within_left xs ys all q is = all q (adds_all q xs ys ∙ or_left (is_member q xs) (is_member q ys) is)

  pub within_right : (xs ys : List ℕ) → Within (union xs ys) → Within ys
  within_right xs ys all q is = all q (adds_all q xs ys ∙ or_right (is_member q xs) (is_member q ys) is)

  pub within_rest : (n : ℕ) (xs : List ℕ) → Within (with_member n xs) → Within xs
  within_rest n xs all q is = all q (adds_one q n xs ∙ or_right (q == n) (is_member q xs) is)

  pub within_new : (n : ℕ) (xs : List ℕ) → Within (with_member n xs) → IsTrue (holding n)
  within_new n xs all = all n (adds_one n n xs ∙ or_left (n == n) (is_member n xs) (eq-eqb n n refl))

  within_one : (x : ℕ) (xs : List ℕ) (b : Bool) → holding x ≡ b → Within xs ⊎ (Within xs → ⊥)
      → Within (x ∷ xs) ⊎ (Within (x ∷ xs) → ⊥)
  within_one x xs true is (inl all) =
      inl (λ q has. elim (or_cases (q == x) (is_member q xs) has) [
        | inl same ↦ subst (λ (n : ℕ). IsTrue (holding n)) (sym (eqb-true q x same)) is
        | inr rest ↦ all q rest
      ])
  within_one x xs true is (inr none) = inr (λ all. none (λ q has. all q (or_right (q == x) (is_member q xs) has)))
  within_one x xs false is rest =
      inr (λ all. true≢false (sym (all x (or_left (x == x) (is_member x xs) (eq-eqb x x refl))) ∙ is))

  -- whether all that was used holds is decided
  pub within_or : (xs : List ℕ) → Within xs ⊎ (Within xs → ⊥)
  within_or [] = inl (λ q has. absurd (false≢true has))
  within_or (x ∷ xs) = within_one x xs (holding x) refl (within_or xs)

  -- ---- visits

  pub clean_parts : (vs ws : List Visit) → Clean (vs ++ ws) → Clean vs × Clean ws
  clean_parts [] ws h = (tt, h)
  clean_parts (v ∷ vs) ws h = let r = clean_parts vs ws h.1 in ((h.0, r.0), r.1)

  clean_whole : (vs ws : List Visit) → Clean vs → Clean ws → Clean (vs ++ ws)
  clean_whole [] ws h k = k
  clean_whole (v ∷ vs) ws h k = (h.0, clean_whole vs ws h.1 k)

  pub clean_pieces : (ps qs : List Piece) → Clean (all_visits (ps ++ qs))
      → Clean (all_visits ps) × Clean (all_visits qs)
  clean_pieces [] qs h = (tt, h)
  clean_pieces (x ∷ ps) qs h =
      let first = clean_parts (visits_of x) (all_visits (ps ++ qs)) h in
      let rest = clean_pieces ps qs first.1 in
      (clean_whole (visits_of x) (all_visits ps) first.0 rest.0, rest.1)

  pub clean_both : (ps qs : List Piece) → Clean (all_visits ps) → Clean (all_visits qs) → Clean (all_visits (ps ++ qs))
  clean_both [] qs h k = k
  clean_both (x ∷ ps) qs h k =
      let first = clean_parts (visits_of x) (all_visits ps) h in
      clean_whole (visits_of x) (all_visits (ps ++ qs)) first.0 (clean_both ps qs first.1 k)

  -- ---- records

  covered_left : (rs qs : List Record) (v : Visit) → Covered rs v → Covered (rs ++ qs) v
  covered_left [] qs v h = absurd h
  covered_left (r ∷ rs) qs v (inl is) = inl is
  covered_left (r ∷ rs) qs v (inr h) = inr (covered_left rs qs v h)

  covered_right : (rs qs : List Record) (v : Visit) → Covered qs v → Covered (rs ++ qs) v
  covered_right [] qs v h = h
  covered_right (r ∷ rs) qs v h = inr (covered_right rs qs v h)

  pub all_left : (rs qs : List Record) (vs : List Visit) → AllCovered rs vs → AllCovered (rs ++ qs) vs
  all_left rs qs [] h = tt
  all_left rs qs (v ∷ vs) h = (covered_left rs qs v h.0, all_left rs qs vs h.1)

  pub all_right : (rs qs : List Record) (vs : List Visit) → AllCovered qs vs → AllCovered (rs ++ qs) vs
  all_right rs qs [] h = tt
  all_right rs qs (v ∷ vs) h = (covered_right rs qs v h.0, all_right rs qs vs h.1)

  all_both : (rs : List Record) (vs ws : List Visit) → AllCovered rs vs → AllCovered rs ws
      → AllCovered rs (vs ++ ws)
  all_both rs [] ws h k = k
  all_both rs (v ∷ vs) ws h k = (h.0, all_both rs vs ws h.1 k)

  all_parts : (rs : List Record) (vs ws : List Visit) → AllCovered rs (vs ++ ws) → AllCovered rs vs × AllCovered rs ws
  all_parts rs [] ws h = (tt, h)
  all_parts rs (v ∷ vs) ws h = let r = all_parts rs vs ws h.1 in ((h.0, r.0), r.1)

  pub all_next : (rs qs : List Record) (vs ws : List Visit) → AllCovered rs vs → AllCovered qs ws
      → AllCovered (rs ++ qs) (vs ++ ws)
  all_next rs qs vs ws h k = all_both (rs ++ qs) vs ws (all_left rs qs vs h) (all_right rs qs ws k)

  -- of pieces after pieces
  pub all_pieces : (rs : List Record) (ps qs : List Piece) → AllCovered rs (all_visits ps)
      → AllCovered rs (all_visits qs) → AllCovered rs (all_visits (ps ++ qs))
  all_pieces rs [] qs h k = k
  all_pieces rs (x ∷ ps) qs h k =
      let first = all_parts rs (visits_of x) (all_visits ps) h in
      all_both rs (visits_of x) (all_visits (ps ++ qs)) first.0 (all_pieces rs ps qs first.1 k)

  pub pieces_next : (rs qs : List Record) (ps xs : List Piece) → AllCovered rs (all_visits ps)
      → AllCovered qs (all_visits xs) → AllCovered (rs ++ qs) (all_visits (ps ++ xs))
  pieces_next rs qs ps xs h k =
      all_pieces (rs ++ qs) ps xs (all_left rs qs (all_visits ps) h) (all_right rs qs (all_visits xs) k)
