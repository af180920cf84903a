-- The places at which booleans hold, one more index at a time, and what gathering by them gives.
use Rattle.std.proofs.Common.{◌≡◌, ℕ, zero, suc, ◌+◌, ◌≤◌, ◌<◌, Bool, true, false, if◌then◌else◌, List, [], ◌∷◌, ◌++◌, length, get_or, take, drop, map, All, set, refl, sym, ap, ◌∙◌, arith, rules}
use Rattle.std.proofs.lemmas.List.{take_more, take_more_set, take-set, append_assoc, length-append, length-take-le}
use Rattle.std.proofs.lemmas.List.Elements.{All-cons}
use Rattle.std.proofs.Math.Seq.{drop-append_seam, take-add}
use Rattle.q_values.specs.Lists.{gathered}
use Rattle.q_values.specs.declared.atom.Atom.TheVariants as a
use Rattle.q_filter.specs.Places.{count_of, places_from, kept_in, is_true}

pub count-append : (xs ys : List Bool) → count_of (xs ++ ys) ≡ count_of xs + count_of ys
count-append [] ys = omega arith
count-append (true ∷ xs) ys = let e = count-append xs ys in omega arith
count-append (false ∷ xs) ys = count-append xs ys

count_one : (b : Bool) → count_of (b ∷ []) ≡ (if b then 1 else 0)
count_one true = refl
count_one false = refl

-- one more
pub count_more : (bits : List Bool) (i : ℕ) → i < length bits → count_of (take (i + 1) bits) ≡ count_of (take i bits) + (if get_or bits i false then 1 else 0)
count_more bits i h =
    ap count_of (take_more bits i false h)
    ∙ count-append (take i bits) (get_or bits i false ∷ [])
    ∙ ap (λ n. count_of (take i bits) + n) (count_one (get_or bits i false))

pub count-le : (bits : List Bool) → count_of bits ≤ length bits
count-le [] = omega arith
count-le (true ∷ bits) = let h = count-le bits in omega arith
count-le (false ∷ bits) = let h = count-le bits in omega arith

pub count_of_take-le : (i : ℕ) (bits : List Bool) → count_of (take i bits) ≤ count_of bits
count_of_take-le zero bits = omega arith
count_of_take-le (suc i) [] = omega arith
count_of_take-le (suc i) (true ∷ bits) = let h = count_of_take-le i bits in omega arith
count_of_take-le (suc i) (false ∷ bits) = count_of_take-le i bits

places-append : (n : ℕ) (xs ys : List Bool) → places_from n (xs ++ ys) ≡ places_from n xs ++ places_from (n + length xs) ys
places-append n [] ys = ap (λ m. places_from m ys) (omega arith)
places-append n (true ∷ xs) ys = ap (λ l. n ∷ l) (places-append (n + 1) xs ys ∙ ap (λ m. places_from (n + 1) xs ++ places_from m ys) (omega arith))
places-append n (false ∷ xs) ys = places-append (n + 1) xs ys ∙ ap (λ m. places_from (n + 1) xs ++ places_from m ys) (omega arith)

pub length-places : (n : ℕ) (bits : List Bool) → length (places_from n bits) ≡ count_of bits
length-places n [] = refl
length-places n (true ∷ bits) = let e = length-places (n + 1) bits in omega arith
length-places n (false ∷ bits) = length-places (n + 1) bits

places_more : (bits : List Bool) (i : ℕ) → i < length bits → places_from 0 (take (i + 1) bits) ≡ places_from 0 (take i bits) ++ places_from i (get_or bits i false ∷ [])
places_more bits i h =
    let size : 0 + length (take i bits) ≡ i = let e = length-take-le i bits (omega arith) in omega arith in
    ap (places_from 0) (take_more bits i false h)
    ∙ places-append 0 (take i bits) (get_or bits i false ∷ [])
    ∙ ap (λ n. places_from 0 (take i bits) ++ places_from n (get_or bits i false ∷ [])) size

append_none : {X : Type 0} (xs : List X) → xs ++ [] ≡ xs
append_none [] = refl
append_none (x ∷ xs) = ap (λ l. x ∷ l) (append_none xs)

step_by : (places done : List ℕ) (i kept : ℕ) (b : Bool) → kept < length places → take kept places ≡ done → take (kept + (if b then 1 else 0)) (set places kept i) ≡ done ++ places_from i (b ∷ [])
step_by places done i kept true h e = take_more_set places kept i h ∙ ap (λ l. l ++ i ∷ []) e
step_by places done i kept false h e = ap (λ n. take n (set places kept i)) (omega arith) ∙ take-set places kept i ∙ e ∙ sym (append_none done)

-- an index is written, and counts where the boolean holds
pub places_step : (bits : List Bool) (places : List ℕ) (i kept : ℕ) → i < length bits → kept < length places → take kept places ≡ places_from 0 (take i bits) → take (kept + (if get_or bits i false then 1 else 0)) (set places kept i) ≡ places_from 0 (take (i + 1) bits)
places_step bits places i kept h room done = step_by places (places_from 0 (take i bits)) i kept (get_or bits i false) room done ∙ sym (places_more bits i h)

-- a boolean column's booleans
pub bits_of : (bits : List Bool) → map is_true (map (λ b. a.Boolean b) bits) ≡ bits
bits_of [] = refl
bits_of (b ∷ bits) = ap (λ l. b ∷ l) (bits_of bits)

pub places_within : (m n : ℕ) (bits : List Bool) → n + length bits ≤ m → All (λ i. i < m) (places_from n bits)
places_within m n [] h = search rules
places_within m n (true ∷ bits) h = All-cons (λ i. i < m) n (places_from (n + 1) bits) (omega arith) (places_within m (n + 1) bits (omega arith))
places_within m n (false ∷ bits) h = places_within m (n + 1) bits (omega arith)

-- gathering keeps the items beside which a boolean holds
gathers_after : {X : Type 0} (zs xs : List X) (bits : List Bool) → length xs ≡ length bits → gathered (zs ++ xs) (places_from (length zs) bits) ≡ kept_in bits xs
gathers_after zs [] [] e = refl
gathers_after zs [] (b ∷ bits) e = absurd (omega arith)
gathers_after zs (x ∷ xs) [] e = absurd (omega arith)
gathers_after zs (x ∷ xs) (true ∷ bits) e =
    ap (λ l. take 1 l ++ gathered (zs ++ x ∷ xs) (places_from (length zs + 1) bits)) (drop-append_seam zs (x ∷ xs))
    ∙ ap (λ l. x ∷ l) (moved zs x xs bits ∙ gathers_after (zs ++ x ∷ []) xs bits (omega arith))
  where
    moved : {X : Type 0} (zs : List X) (x : X) (xs : List X) (bits : List Bool) → gathered (zs ++ x ∷ xs) (places_from (length zs + 1) bits) ≡ gathered ((zs ++ x ∷ []) ++ xs) (places_from (length (zs ++ x ∷ [])) bits)
    moved zs x xs bits = ap (λ l. gathered l (places_from (length zs + 1) bits)) (sym (append_assoc zs (x ∷ []) xs)) ∙ ap (λ n. gathered ((zs ++ x ∷ []) ++ xs) (places_from n bits)) (sym (length-append zs (x ∷ [])))
gathers_after zs (x ∷ xs) (false ∷ bits) e = moved zs x xs bits ∙ gathers_after (zs ++ x ∷ []) xs bits (omega arith)
  where
    moved : {X : Type 0} (zs : List X) (x : X) (xs : List X) (bits : List Bool) → gathered (zs ++ x ∷ xs) (places_from (length zs + 1) bits) ≡ gathered ((zs ++ x ∷ []) ++ xs) (places_from (length (zs ++ x ∷ [])) bits)
    moved zs x xs bits = ap (λ l. gathered l (places_from (length zs + 1) bits)) (sym (append_assoc zs (x ∷ []) xs)) ∙ ap (λ n. gathered ((zs ++ x ∷ []) ++ xs) (places_from n bits)) (sym (length-append zs (x ∷ [])))

pub gathers : {X : Type 0} (xs : List X) (bits : List Bool) → length xs ≡ length bits → gathered xs (places_from 0 bits) ≡ kept_in bits xs
gathers xs bits e = gathers_after [] xs bits e

-- how many hold of a list, by a part at a time
pub count_parts : (bits : List Bool) (m n : ℕ) → count_of (take (m + n) bits) ≡ count_of (take m bits) + count_of (take n (drop m bits))
count_parts bits m n = ap count_of (take-add m n bits) ∙ count-append (take m bits) (take n (drop m bits))
