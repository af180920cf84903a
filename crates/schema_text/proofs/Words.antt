-- Words, and lists of names.
use Rattle.std.proofs.Common.{◌≡◌, ℕ, suc, Bool, true, false, cond, ◌||◌, List, [], ◌∷◌, length, take, drop, map, refl, ap, ◌-◌, arith, zero, slice_get}
use Rattle.std.specs.List.{list_any, AllByRecursion}
use Rattle.std.proofs.lemmas.List.{take_all, length-drop}
use Rattle.day_rows.specs.Schema.{is_word, IsWord}
use Rattle.schema_text.specs.Tokens.{word_length, begins_word}

pub list_any-mapped : {X Y : Type 0} (p : Y → Bool) (f : X → Y) (xs : List X) → list_any p (map f xs) ≡ list_any (λ x. p (f x)) xs
list_any-mapped p f [] = refl
list_any-mapped p f (x ∷ xs) = ap (λ b. p (f x) || b) (list_any-mapped p f xs)

words-taken : (bs : List ℕ) → AllByRecursion (λ c. is_word c ≡ true) (take (word_length bs) bs)
words-taken [] = tt
words-taken (b ∷ bs) = go (is_word b) refl (words-taken bs)
  where
    go : (t : Bool) → is_word b ≡ t → AllByRecursion (λ c. is_word c ≡ true) (take (word_length bs) bs) → AllByRecursion (λ c. is_word c ≡ true) (take (cond t (suc (word_length bs)) 0) (b ∷ bs))
    go false h more = tt
    go true h more = (h, more)

pub word-taken : (bs : List ℕ) → begins_word (slice_get bs 0) ≡ true → IsWord (take (word_length bs) bs)
word-taken [] h = cc
word-taken (b ∷ bs) h =
    let word : is_word b ≡ true = rw h refl in
    rw word (h, words-taken bs)

pub slice_get-drop_first : (bs : List ℕ) (n : ℕ) → slice_get (drop n bs) 0 ≡ slice_get bs n
slice_get-drop_first [] zero = refl
slice_get-drop_first [] (suc n) = refl
slice_get-drop_first (b ∷ bs) zero = refl
slice_get-drop_first (b ∷ bs) (suc n) = slice_get-drop_first bs n

-- the slice from a place on
pub rest-is : (bs : List ℕ) (n : ℕ) → take (length bs - n) (drop n bs) ≡ drop n bs
rest-is bs n = take_all (length bs - n) (drop n bs) (omega (arith, length-drop n bs))

-- a name that differs from each of a list
pub apart-from_list_any : {X : Type 0} (p : X → Bool) (xs : List X) → list_any p xs ≡ false → AllByRecursion (λ x. p x ≡ false) xs
apart-from_list_any p [] h = tt
apart-from_list_any p (x ∷ xs) h = go (p x) (list_any p xs) refl refl h (λ e. apart-from_list_any p xs e)
  where
    go : (b c : Bool) → p x ≡ b → list_any p xs ≡ c → (b || c) ≡ false → (list_any p xs ≡ false → AllByRecursion (λ y. p y ≡ false) xs) → AllByRecursion (λ y. p y ≡ false) (x ∷ xs)
    go false false here later e more = (here, more later)
    go false true here later e more = cc
    go true c here later e more = cc
