-- Numbers told, by the bytes of their names.
use Rattle.std.proofs.Common.{◌≡◌, ℕ, List, [], ◌∷◌, Some, Bool, true, false, cond, map, refl, ap}
use Rattle.std.specs.Prelude.{String, string_bytes, bytes_eq}
use Rattle.std.specs.Map.{lookup}
use Rattle.std.specs.declared.alloc.Global.{Global}
use Rattle.fc_base.specs.declared.ids.EmitterId.{EmitterId}
use Rattle.std.specs.String.{string_eq}
use Rattle.indexmap.specs.IndexMap.{insert_entry}
use Rattle.event_script.specs.Names.{number_told, with_told}

pub number_of_texts : (name : List ℕ) (es : List (String Global × EmitterId)) → number_told (map (λ p. (string_bytes p.0, p.1)) es) name ≡ lookup (λ k. bytes_eq name (string_bytes k)) es
number_of_texts name [] = refl
number_of_texts name (e ∷ es) = ap (λ rest. cond (bytes_eq name (string_bytes e.0)) (Some e.1) rest) (number_of_texts name es)

-- noting a number by a name's text, by its bytes
pub with_told_texts : (name : String Global) (id : EmitterId) (es : List (String Global × EmitterId)) → map (λ p. (string_bytes p.0, p.1)) (insert_entry string_eq es name id) ≡ with_told (string_bytes name) id (map (λ p. (string_bytes p.0, p.1)) es)
with_told_texts name id [] = refl
with_told_texts name id (e ∷ es) = one (bytes_eq (string_bytes name) (string_bytes e.0)) (with_told_texts name id es)
  where
    one : (b : Bool) → map (λ p. (string_bytes p.0, p.1)) (insert_entry string_eq es name id) ≡ with_told (string_bytes name) id (map (λ p. (string_bytes p.0, p.1)) es) → map (λ p. (string_bytes p.0, p.1)) (cond b ((e.0, id) ∷ es) (e ∷ insert_entry string_eq es name id)) ≡ cond b ((string_bytes e.0, id) ∷ map (λ p. (string_bytes p.0, p.1)) es) ((string_bytes e.0, e.1) ∷ with_told (string_bytes name) id (map (λ p. (string_bytes p.0, p.1)) es))
    one true same = refl
    one false same = ap (λ rest. (string_bytes e.0, e.1) ∷ rest) same
