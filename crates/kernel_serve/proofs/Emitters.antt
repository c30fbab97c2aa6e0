-- The emitters after one more change, and what of a history an answer rests on.
use Rattle.std.proofs.Common.{◌≡◌, ℕ, ◌+◌, ◌<◌, ◌≤◌, ℤ, List, [], ◌∷◌, ◌++◌, Bool, true, false, cond, Option, Some, None, ◌||◌, bytes_eq, is_some, length, map, refl, ap, sym, ◌∙◌, arith}
use Rattle.std.specs.List.{list_any}
use Rattle.std.proofs.lemmas.Bool.{false≢true}
use Rattle.fc_base.specs.declared.ids.EmitterId.{EmitterId}
use Rattle.fc_base.specs.declared.params.ParamSet.{ParamSet}
use Rattle.param_book.specs.Emitters.{own_count, own_named}
use Rattle.status_history.specs.Values.{params_set, sets_registered}
use Rattle.status_history.specs.declared.history.Change.{Change}
use Rattle.status_history.specs.declared.history.Change.TheVariants.{Register, Param, Emit}
use Rattle.status_history.specs.declared.history.Entry.{Entry}
use Rattle.status_history.specs.declared.history.History.{History}
use Rattle.status_rules.specs.Judge.{emitters_of, is_taken, names_registered}
use Rattle.event_script.specs.Names.{number_told, with_told}
use Rattle.kernel_serve.specs.Registered.{emitters_from, registered}
use Rattle.kernel_serve.specs.inner.Keeping.{IsNew, Keeps}

abbrev the : ℕ → EmitterId
the n = record { 0 = n }

one_more : (n : ℕ) (cs : List Change) (name : List ℕ) (set : ParamSet)
    → emitters_from n (cs ++ Register name set ∷ []) ≡ emitters_from n cs
    ++ (name, the (n + length (emitters_from n cs))) ∷ []
one_more n [] name set = let e : n ≡ n + 0 = omega arith in ap (λ m. (name, the m) ∷ []) e
one_more n (Register m s ∷ cs) name set =
    let e : n + 1 + length (emitters_from (n + 1) cs)
    ≡ n + length (emitters_from n (Register m s ∷ cs)) = omega arith in
    ap (λ es. (m, the n) ∷ es)
    (one_more (n + 1) cs name set ∙ ap (λ k. emitters_from (n + 1) cs ++ (name, the k) ∷ []) e)
one_more n (Param m x ∷ cs) name set = one_more n cs name set
one_more n (Emit e ∷ cs) name set = one_more n cs name set

entries_more : (n : ℕ) (cs : List Change) (es : List Entry) → emitters_from n (cs ++ map Emit es) ≡ emitters_from n cs
entries_more n [] [] = refl
entries_more n [] (e ∷ es) = entries_more n [] es
entries_more n (Register m s ∷ cs) es = ap (λ es. (m, the n) ∷ es) (entries_more (n + 1) cs es)
entries_more n (Param m x ∷ cs) es = entries_more n cs es
entries_more n (Emit f ∷ cs) es = entries_more n cs es

setting_more : (n : ℕ) (cs : List Change) (p : ℕ) (v : ℤ)
    → emitters_from n (cs ++ Param p v ∷ []) ≡ emitters_from n cs
setting_more n [] p v = refl
setting_more n (Register m s ∷ cs) p v = ap (λ es. (m, the n) ∷ es) (setting_more (n + 1) cs p v)
setting_more n (Param m x ∷ cs) p v = setting_more n cs p v
setting_more n (Emit f ∷ cs) p v = setting_more n cs p v

params_more : (cs more : List Change)
    → length (params_set (cs ++ more)) ≡ length (params_set cs) + length (params_set more)
params_more [] more = omega arith
params_more (Register m s ∷ cs) more = params_more cs more
params_more (Param m x ∷ cs) more = omega (arith, params_more cs more)
params_more (Emit f ∷ cs) more = params_more cs more

params_within : (cs : List Change) → length (params_set cs) ≤ length cs
params_within [] = omega arith
params_within (Register m s ∷ cs) = omega (arith, params_within cs)
params_within (Param m x ∷ cs) = omega (arith, params_within cs)
params_within (Emit e ∷ cs) = omega (arith, params_within cs)

params_of : (es : List Entry) → length (params_set (map Emit es)) ≡ 0
params_of [] = refl
params_of (e ∷ es) = params_of es

-- what is kept after emissions
pub after_entries : (h : History) (after : List Change) (v : ℕ) (s : List (List ℕ × EmitterId)) (es : List Entry)
    → Keeps h v s → after ≡ h.changes ++ map Emit es → Keeps (record h { changes = after }) v s
after_entries h after v s es kept made = record {
  params = let n = params_more h.changes (map Emit es) in
      omega (arith, kept.params, n, params_of es, ap (λ (cs : List Change). length (params_set cs)) made);
  few = kept.few;
  names = kept.names ∙ (sym (entries_more own_count h.changes es) ∙ ap registered (sym made));
}

-- what is kept after an emission
pub after_entry : (h : History) (after : List Change) (v : ℕ) (s : List (List ℕ × EmitterId)) (e : Entry) → Keeps h v s
    → after ≡ h.changes ++ Emit e ∷ [] → Keeps (record h { changes = after }) v s
after_entry h after v s e kept made = after_entries h after v s (e ∷ []) kept made

-- what is kept after a setting
pub after_setting : (h : History) (after : List Change) (v : ℕ) (s : List (List ℕ × EmitterId)) (p : ℕ) (x : ℤ)
    → Keeps h v s → length h.changes < 200000 → after ≡ h.changes ++ Param p x ∷ []
    → Keeps (record h { changes = after }) (v + 1) s
after_setting h after v s p x kept few made = record {
  params = let n = params_more h.changes (Param p x ∷ []) in
      omega (arith, kept.params, n, ap (λ (cs : List Change). length (params_set cs)) made);
  few = omega (arith, kept.params, params_within h.changes, few);
  names = kept.names ∙ (sym (setting_more own_count h.changes p x) ∙ ap registered (sym made));
}

not_found : (b : Bool) (id : EmitterId) (rest : Option EmitterId) → cond b (Some id) rest ≡ None → (b ≡ false)
    × (rest ≡ None)
not_found true id rest h = absurd cc
not_found false id rest h = (refl, h)

-- a new name is noted at the end
at_end : (name : List ℕ) (id : EmitterId) (es : List (List ℕ × EmitterId)) → number_told es name ≡ None
    → with_told name id es ≡ es ++ (name, id) ∷ []
at_end name id [] none = refl
at_end name id (e ∷ es) none =
    let parts = not_found (bytes_eq name e.0) e.1 (number_told es name) none in
    ap (λ b. cond b ((e.0, id) ∷ es) (e ∷ with_told name id es)) parts.0
    ∙ ap (λ rest. e ∷ rest) (at_end name id es parts.1)

some_if : (b : Bool) (id : EmitterId) (rest : Option EmitterId)
    → is_some (cond b (Some id) rest) ≡ (b || is_some rest)
some_if true id rest = refl
some_if false id rest = refl

told_from : (n : ℕ) (cs : List Change) (name : List ℕ)
    → is_some (number_told (emitters_from n cs) name) ≡ list_any (bytes_eq name) (names_registered cs)
told_from n [] name = refl
told_from n (Register m s ∷ cs) name =
    some_if (bytes_eq name m) (the n) (number_told (emitters_from (n + 1) cs) name)
    ∙ ap (λ b. bytes_eq name m || b) (told_from (n + 1) cs name)
told_from n (Param m x ∷ cs) name = told_from n cs name
told_from n (Emit e ∷ cs) name = told_from n cs name

-- a name is taken where it is one of the program's own or was told of
pub taken_is : (h : History) (s : List (List ℕ × EmitterId)) (name : List ℕ) → s ≡ registered h.changes
    → (is_some (own_named name) || is_some (number_told s name)) ≡ is_taken h name
taken_is h s name is =
    ap (λ es. is_some (own_named name) || is_some (number_told es name)) is
    ∙ ap (λ b. is_some (own_named name) || b) (told_from own_count h.changes name)

count_from : (n : ℕ) (cs : List Change) → length (emitters_from n cs) ≡ length (sets_registered cs)
count_from n [] = refl
count_from n (Register m s ∷ cs) = omega (arith, count_from (n + 1) cs)
count_from n (Param m x ∷ cs) = count_from n cs
count_from n (Emit e ∷ cs) = count_from n cs

-- the emitters are those that were told of and the program's own
pub emitters_are : (h : History) → own_count + length (registered h.changes) ≡ emitters_of h
emitters_are h = omega (arith, count_from own_count h.changes)

within_from : (n : ℕ) (cs : List Change) → length (emitters_from n cs) ≤ length cs
within_from n [] = omega arith
within_from n (Register m s ∷ cs) = omega (arith, within_from (n + 1) cs)
within_from n (Param m x ∷ cs) = omega (arith, within_from n cs)
within_from n (Emit e ∷ cs) = omega (arith, within_from n cs)

pub told_within : (h : History) (v : ℕ) (s : List (List ℕ × EmitterId)) → Keeps h v s → length s ≤ length h.changes
told_within h v s kept = omega (arith, within_from own_count h.changes, ap length kept.names)

pub version_within : (h : History) (v : ℕ) (s : List (List ℕ × EmitterId)) → Keeps h v s → v ≤ length h.changes
version_within h v s kept = omega (arith, params_within h.changes, kept.params)

-- where it is none of the program's own
pub taken_else : (h : History) (s : List (List ℕ × EmitterId)) (name : List ℕ) → s ≡ registered h.changes
    → is_some (own_named name) ≡ false → is_some (number_told s name) ≡ is_taken h name
taken_else h s name is none = ap (λ b. b || is_some (number_told s name)) (sym none) ∙ taken_is h s name is

free : (own : Bool) (told : Option EmitterId) → (own || is_some told) ≡ false → told ≡ None
free true told h = absurd (false≢true (sym h))
free false None h = refl
free false (Some id) h = absurd (false≢true (sym h))

-- what a reader knows after a registration under a new name
after_register : (h : History) (name : List ℕ) (set : ParamSet) → is_taken h name ≡ false
    → with_told name (the (own_count + length (registered h.changes))) (registered h.changes)
    ≡ registered (h.changes ++ Register name set ∷ [])
after_register h name set new =
    at_end name (the (own_count + length (registered h.changes))) (registered h.changes)
    (free (is_some (own_named name)) (number_told (registered h.changes) name)
    (taken_is h (registered h.changes) name refl ∙ new))
    ∙ sym (one_more own_count h.changes name set)

-- what is kept after a registration, as the code has it
pub knows_more : (h : History) (after : List Change) (name shown : List ℕ) (set : ParamSet) (n v : ℕ)
    (s now : List (List ℕ × EmitterId)) → Keeps h v s → IsNew h name → shown ≡ name → n
    ≡ own_count + length s → now ≡ with_told shown (the n) s → after ≡ h.changes ++ Register name set ∷ []
    → Keeps (record h { changes = after }) v now
knows_more h after name shown set n v s now kept new is number told made = record {
  params = let more = params_more h.changes (Register name set ∷ []) in
      omega (arith, kept.params, more, ap (λ (cs : List Change). length (params_set cs)) made);
  few = kept.few;
  names = told
      ∙ (ap (λ m. with_told m (the n) s) is
      ∙ (ap (λ k. with_told name (the k) s) number
      ∙ (ap (λ es. with_told name (the (own_count + length es)) es) kept.names
      ∙ (after_register h name set new.0 ∙ ap registered (sym made)))));
}
