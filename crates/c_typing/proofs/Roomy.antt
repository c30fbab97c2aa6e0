-- A thing that is no function, or a function whose cells have numbers, comes into scope; equal types are equally many.
use Rattle.std.proofs.Common.{◌≡◌, ℕ, suc, List, [], ◌∷◌, Bool, true, false, length, Option, None, Some, refl, ap, sym, subst, bytes_eq, cond}
use Rattle.std.proofs.lemmas.Bool.{and_parts, false≢true}
use Rattle.c_ir.specs.declared.ty.IntType.{IntType}
use Rattle.c_rules.specs.Breaches.{Env}
use Rattle.c_rules.specs.declared.scope.Entry.{Entry}
use Rattle.c_rules.specs.declared.scope.Signature.{Signature}
use Rattle.c_typing.specs.Functions.{AreRoomy, EntryIsRoomy, is_same, same_types}
use Rattle.c_typing.specs.Walking.{put}

either : (b : Bool) (o e : Option Entry) → EntryIsRoomy o → EntryIsRoomy e → EntryIsRoomy (cond b o e)
either true o e h k = h
either false o e h k = k

pub put_roomy : (x : List ℕ) (e : Entry) (env new : Env) → new ≡ put x (Some e) env → EntryIsRoomy (Some e) → AreRoomy env → AreRoomy new
unfolding AreRoomy
put_roomy x e env new is h all =
    subst (λ (w : Env). (y : List ℕ) → EntryIsRoomy (w y)) (sym is) (λ y. either (bytes_eq x y) (Some e) (env y) h (all y))

same_count : (as' bs : List IntType) → same_types as' bs ≡ true → length bs ≡ length as'
same_count [] [] is = refl
same_count (a ∷ as') (b ∷ bs) is = ap suc (same_count as' bs (and_parts _ _ is).1)
same_count [] (b ∷ bs) is = absurd (false≢true is)
same_count (a ∷ as') [] is = absurd (false≢true is)

pub is_same_count : (r : Option IntType) (tys : List IntType) (g : Signature) → is_same r tys g ≡ true → length g.formals ≡ length tys
unfolding is_same
is_same_count r tys g is = same_count tys g.formals (and_parts _ _ is).1

pub none_roomy : (env : Env) → env ≡ (λ x. None) → AreRoomy env
unfolding AreRoomy
none_roomy env is = subst (λ (w : Env). (y : List ℕ) → EntryIsRoomy (w y)) (sym is) (λ y. tt)
