-- Lists joined, and the characters of a vector.
use Rattle.std.proofs.Common.{◌≡◌, ℕ, ◌==◌, map, ap, Bool, true, false, not, ◌||◌, List, [], ◌∷◌, ◌++◌, ◌∙◌, refl}
use Rattle.std.specs.List.{list_any}
use Rattle.std.specs.Str.{bytes_eq}
use Rattle.q_values.specs.Column.{byte_atom}
use Rattle.q_values.specs.declared.kind.ByteKind.TheVariants as b
use Rattle.qsql_request.specs.Unbuilt.{has_other, is_bracket}

pub has_other_append : (name : List ℕ) (xs ys : List (List ℕ)) → has_other name (xs ++ ys) ≡ (has_other name xs || has_other name ys)
has_other_append name [] ys = refl
has_other_append name (x ∷ xs) ys = go (not (bytes_eq name x)) (has_other_append name xs ys)
  where
    go : (b : Bool) → has_other name (xs ++ ys) ≡ (has_other name xs || has_other name ys) → (b || has_other name (xs ++ ys)) ≡ ((b || has_other name xs) || has_other name ys)
    go true e = refl
    go false e = e

pub has_other_first : (name : List ℕ) (xs ys : List (List ℕ)) → has_other name xs ≡ true → has_other name (xs ++ ys) ≡ true
has_other_first name xs ys h = has_other_append name xs ys ∙ ap (λ (b : Bool). b || has_other name ys) h

pub has_other_rest : (name : List ℕ) (xs ys : List (List ℕ)) → has_other name xs ≡ false → has_other name (xs ++ ys) ≡ has_other name ys
has_other_rest name xs ys h = has_other_append name xs ys ∙ ap (λ (b : Bool). b || has_other name ys) h

pub bracket_atoms : (bytes : List ℕ) → list_any is_bracket (map (byte_atom b.Character) bytes) ≡ list_any (λ x. x == 91) bytes
bracket_atoms [] = refl
bracket_atoms (x ∷ bytes) = ap (λ (rest : Bool). (x == 91) || rest) (bracket_atoms bytes)
