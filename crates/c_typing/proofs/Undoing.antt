-- Taking declarations back.
use Rattle.std.proofs.Common.{◌≡◌, ◌∙◌, ℕ, List, [], ◌∷◌, ◌++◌, Bool, true, false, Option, cond, refl, ap, bytes_eq}
use Rattle.std.proofs.lemmas.Slice.Eq.{bytes_eq-Decides}
use Rattle.c_rules.specs.declared.scope.Entry.{Entry}
use Rattle.c_rules.specs.Breaches.{Env}
use Rattle.c_typing.specs.declared.scope.Undo.{Undo}
use Rattle.c_typing.specs.Walking.{put, undone}

pub undone_push : (log : List Undo) (u : Undo) (env : Env) → undone (log ++ u ∷ []) env ≡ undone log (put u.name u.before env)
undone_push [] u env = refl
undone_push (v ∷ vs) u env = ap (put v.name v.before) (undone_push vs u env)

put_at : (x : List ℕ) (e : Option Entry) (env : Env) (y : List ℕ) (b : Bool) → bytes_eq x y ≡ b → cond b (env x) (cond b e (env y)) ≡ env y
put_at x e env y true is = ap env ((bytes_eq-Decides x y).0 is)
put_at x e env y false is = refl

put_back : (x : List ℕ) (e : Option Entry) (env : Env) → put x (env x) (put x e env) ≡ env
put_back x e env = λ j y. put_at x e env y (bytes_eq x y) refl j

pub kept : (log : List Undo) (x : List ℕ) (o e : Option Entry) (env new : Env) → o ≡ env x → new ≡ put x e env → undone (log ++ (record { name = x; before = o }) ∷ []) new ≡ undone log env
kept log x o e env new is after =
    undone_push log (record { name = x; before = o }) new ∙ ap (undone log) (ap (put x o) after ∙ ap (λ (w : Option Entry). put x w (put x e env)) is ∙ put_back x e env)
