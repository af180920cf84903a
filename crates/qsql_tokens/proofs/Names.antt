-- Names have no NUL.
use Rattle.std.proofs.Common.{◌≡◌, ◌<◌, ℕ, zero, suc, ◌-◌, Bool, true, false, cond, List, [], ◌∷◌, length, take, drop, refl, arith, All}
use Rattle.std.specs.List.{AllByRecursion}
use Rattle.std.proofs.lemmas.List.{take_all, length-drop}
use Rattle.std.proofs.lemmas.List.Elements.{All-from_recursion}
use Rattle.qsql_tokens.specs.Tokens.{is_name_byte, front, name_at}

name_byte-above : (b : ℕ) → is_name_byte b ≡ true → 0 < b
name_byte-above zero h = cc
name_byte-above (suc b) h = omega arith

name-above : (bs : List ℕ) → AllByRecursion (λ b. 0 < b) (take (front is_name_byte bs) bs)
name-above [] = tt
name-above (b ∷ bs) = go (is_name_byte b) refl (name-above bs)
  where
    go : (t : Bool) → is_name_byte b ≡ t → AllByRecursion (λ x. 0 < x) (take (front is_name_byte bs) bs) → AllByRecursion (λ x. 0 < x) (take (cond t (suc (front is_name_byte bs)) 0) (b ∷ bs))
    go false h more = tt
    go true h more = (name_byte-above b h, more)

pub name-no_nul : (text : List ℕ) (at : ℕ) → All (λ b. 0 < b) (name_at text at)
name-no_nul text at = All-from_recursion (λ b. 0 < b) (name_at text at) (name-above (drop at text))

-- the slice from an offset on
rest-is : (bs : List ℕ) (n : ℕ) → take (length bs - n) (drop n bs) ≡ drop n bs
rest-is bs n = take_all (length bs - n) (drop n bs) (omega (arith, length-drop n bs))

pub slice-no_nul : (text : List ℕ) (at len : ℕ) → len ≡ front is_name_byte (take (length text - at) (drop at text)) → All (λ b. 0 < b) (take len (take (length text - at) (drop at text)))
slice-no_nul text at len h = rw (h, rest-is text at) (name-no_nul text at)
