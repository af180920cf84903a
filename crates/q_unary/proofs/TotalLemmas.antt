-- Sums of numbers and nulls.
use Rattle.std.proofs.Common.{◌≡◌, ℕ, ℤ, pos, ◌+ℤ◌, ◌+◌, ◌<◌, List, [], ◌∷◌, ◌++◌, length, get_or, take, drop, map, Option, refl, sym, ap, ap₂, ◌∙◌, arith, unwrap_or, FitsSigned, to_z, of_z}
use Rattle.std.specs.Int.{w64, int_wrap}
use Rattle.std.proofs.lemmas.Int.{ints, to_z-of_z, int_wrap-add_left, int_wrap-add_right}
use Rattle.std.proofs.Math.Seq.{take-add}
use Rattle.std.proofs.lemmas.List.{take_more, map_push, map-append}
use Rattle.q_values.specs.declared.atom.Atom.{Atom}
use Rattle.q_verbs.specs.Numbers.{worth, numeric, number_in}
use Rattle.q_verbs.specs.Aggregates.{total, number_of}

added : (a b c : ℤ) → a +ℤ (b +ℤ c) ≡ (a +ℤ b) +ℤ c
added a b c = omega (arith, ints)

nothing_added : (a : ℤ) → a +ℤ pos 0 ≡ pos 0 +ℤ a
nothing_added a = omega (arith, ints)

pub total-append : (xs ys : List (Option ℤ)) → total (xs ++ ys) ≡ total xs +ℤ total ys
total-append [] ys = omega (arith, ints)
total-append (x ∷ xs) ys = ap (λ t. unwrap_or x (pos 0) +ℤ t) (total-append xs ys) ∙ added (unwrap_or x (pos 0)) (total xs) (total ys)

total_push : (xs : List (Option ℤ)) (x : Option ℤ) → total (xs ++ x ∷ []) ≡ total xs +ℤ unwrap_or x (pos 0)
total_push xs x = total-append xs (x ∷ []) ∙ ap (λ t. total xs +ℤ t) (omega (arith, ints))

-- one more item
pub total_more : {X : Type 0} (number : X → Option ℤ) (xs : List X) (i : ℕ) (x : X) → i < length xs → x ≡ get_or xs i x → total (map number (take (i + 1) xs)) ≡ total (map number (take i xs)) +ℤ unwrap_or (number x) (pos 0)
total_more number xs i x h e =
    ap (λ l. total (map number l)) (take_more xs i x h)
    ∙ ap total (map_push number (take i xs) (get_or xs i x))
    ∙ total_push (map number (take i xs)) (number (get_or xs i x))
    ∙ ap (λ y. total (map number (take i xs)) +ℤ unwrap_or (number y) (pos 0)) (sym e)

-- items whose numbers are those of the atoms
pub numbers_of : {X : Type 0} (number : X → Option ℤ) (atom : X → Atom) (xs : List X) → ((x : X) → worth (atom x) ≡ numeric (number x)) → map number xs ≡ map number_of (map atom xs)
numbers_of number atom [] e = refl
numbers_of number atom (x ∷ xs) e = ap (λ h. h ∷ map number xs) (ap (λ w. w.number) (sym (e x))) ∙ ap (λ l. number_of (atom x) ∷ l) (numbers_of number atom xs e)

pub total_step : {X : Type 0} (number : X → Option ℤ) (xs : List X) (i : ℕ) (x : X) (sum wide result : ℤ) → i < length xs → x ≡ get_or xs i x → FitsSigned w64 wide → FitsSigned w64 result → sum ≡ int_wrap w64 (total (map number (take i xs))) → number_in w64 wide ≡ number x → result ≡ int_wrap w64 (sum +ℤ unwrap_or (number_in w64 (to_z w64 (of_z w64 wide))) (pos 0)) → to_z w64 (of_z w64 result) ≡ int_wrap w64 (total (map number (take (i + 1) xs)))
total_step number xs i x sum wide result h at fits_wide fits before is_number is_result =
    to_z-of_z w64 result fits
    ∙ is_result
    ∙ ap (λ y. int_wrap w64 (sum +ℤ unwrap_or (number_in w64 y) (pos 0))) (to_z-of_z w64 wide fits_wide)
    ∙ ap (λ n. int_wrap w64 (sum +ℤ unwrap_or n (pos 0))) is_number
    ∙ ap (λ s. int_wrap w64 (s +ℤ unwrap_or (number x) (pos 0))) before
    ∙ int_wrap-add_left w64 (total (map number (take i xs))) (unwrap_or (number x) (pos 0))
    ∙ ap (int_wrap w64) (sym (total_more number xs i x h at))

-- the sums of two halves, joined
pub halves_joined : {X : Type 0} (number : X → Option ℤ) (xs : List X) (half : ℕ) (sum other both : ℤ) → sum ≡ int_wrap w64 (total (map number (take half xs))) → other ≡ int_wrap w64 (total (map number (take half (drop half xs)))) → both ≡ int_wrap w64 (sum +ℤ other) → both ≡ int_wrap w64 (total (map number (take (half + half) xs)))
halves_joined number xs half sum other both is_sum is_other is_both =
    let one = map number (take half xs) in
    let rest = map number (take half (drop half xs)) in
    is_both
    ∙ ap₂ (λ s o. int_wrap w64 (s +ℤ o)) is_sum is_other
    ∙ int_wrap-add_right w64 (int_wrap w64 (total one)) (total rest)
    ∙ int_wrap-add_left w64 (total one) (total rest)
    ∙ ap (int_wrap w64) (sym (total-append one rest) ∙ ap total (sym (map-append number (take half xs) (take half (drop half xs)))) ∙ ap (λ l. total (map number l)) (sym (take-add half half xs)))

-- a column's sum, from that of its items
pub total_through : {X : Type 0} (number : X → Option ℤ) (atom : X → Atom) (xs ys : List X) (result : ℤ) → ((x : X) → worth (atom x) ≡ numeric (number x)) → FitsSigned w64 result → ys ≡ xs → result ≡ int_wrap w64 (total (map number ys)) → to_z w64 (of_z w64 result) ≡ int_wrap w64 (total (map number_of (map atom xs)))
total_through number atom xs ys result e fits same is_result =
    to_z-of_z w64 result fits ∙ is_result ∙ ap (λ l. int_wrap w64 (total l)) (ap (map number) same ∙ numbers_of number atom xs e)
