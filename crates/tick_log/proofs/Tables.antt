-- The tables of a schema, and where their names end.
use Rattle.std.proofs.Common.{◌≡◌, ℕ, zero, suc, ◌<◌, true, false, List, [], ◌∷◌, ◌++◌, Some, refl, sym, ap, ◌∙◌, subst, arith}
use Rattle.std.specs.Prelude.{slice_get}
use Rattle.std.specs.List.{AllByRecursion}
use Rattle.std.specs.Str.{bytes_eq}
use Rattle.std.specs.Ordering.{nat_cmp, is_eq}
use Rattle.std.specs.Cmp.Lexicographic.{slice_cmp}
use Rattle.std.specs.declared.cmp.Ordering.TheVariants.{Less}
use Rattle.std.proofs.lemmas.List.Elements.{All-nil, All-cons, All-head, All-tail}
use Rattle.std.proofs.lemmas.Map.Text.{is_eq-slice_cmp}
use Rattle.ipc_codec.proofs.ExtentLemmas.{same_number}
use Rattle.q_values.specs.Bytes.{HasNoNul}
use Rattle.day_rows.specs.Schema.{is_letter, is_word, IsWord, IsShape, by_name, AscendByName, IsSchema}
use Rattle.day_rows.specs.declared.schema.Shape.{Shape}

pub all_at : {X : Type 0} (P : X → Type 0) (xs : List X) (i : ℕ) (x : X) → AllByRecursion P xs → slice_get xs i ≡ Some x → P x
all_at P [] i x h e = absurd cc
all_at P (y ∷ ys) zero x h e = let same : y ≡ x = cc in subst P same h.0
all_at P (y ∷ ys) (suc i) x h e = all_at P ys i x h.1 e

letter_positive : (b : ℕ) → is_letter b ≡ true → 0 < b
letter_positive zero h = absurd cc
letter_positive (suc b) h = omega arith

word_positive : (b : ℕ) → is_word b ≡ true → 0 < b
word_positive zero h = absurd cc
word_positive (suc b) h = omega arith

words_positive : (bs : List ℕ) → AllByRecursion (λ c. is_word c ≡ true) bs → HasNoNul bs
words_positive [] h = All-nil (λ b. 0 < b)
words_positive (b ∷ bs) h = All-cons (λ b. 0 < b) b bs (word_positive b h.0) (words_positive bs h.1)

pub word_no_nul : (name : List ℕ) → IsWord name → HasNoNul name
word_no_nul [] h = All-nil (λ b. 0 < b)
word_no_nul (b ∷ bs) h = All-cons (λ b. 0 < b) b bs (letter_positive b h.0) (words_positive bs h.1)

-- a 0 ends one name
pub name_once : (a b r s : List ℕ) → HasNoNul a → HasNoNul b → a ++ 0 ∷ r ≡ b ++ 0 ∷ s → (a ≡ b) × (r ≡ s)
name_once [] [] r s p q e = let same : r ≡ s = cc in (refl, same)
name_once [] (y ∷ b) r s p q e =
    let same : 0 ≡ y = cc in
    absurd (omega (arith, same, All-head (λ c. 0 < c) y b q))
name_once (x ∷ a) [] r s p q e =
    let same : x ≡ 0 = cc in
    absurd (omega (arith, same, All-head (λ c. 0 < c) x a p))
name_once (x ∷ a) (y ∷ b) r s p q e =
    let first : x ≡ y = cc in
    let rest : a ++ 0 ∷ r ≡ b ++ 0 ∷ s = cc in
    let more = name_once a b r s (All-tail (λ c. 0 < c) x a p) (All-tail (λ c. 0 < c) y b q) rest in
    (ap (λ (n : ℕ). n ∷ a) first ∙ ap (λ (l : List ℕ). y ∷ l) more.0, more.1)

bytes_same : (xs : List ℕ) → bytes_eq xs xs ≡ true
bytes_same [] = refl
bytes_same (x ∷ xs) = rw (same_number x) (bytes_same xs)

not_less : (x y : List ℕ) → x ≡ y → slice_cmp nat_cmp x y ≡ Less → ⊥
not_less x y same less =
    let equal : is_eq (slice_cmp nat_cmp x y) ≡ true = is_eq-slice_cmp x y ∙ ap (λ (z : List ℕ). bytes_eq x z) (sym same) ∙ bytes_same x in
    let other : is_eq (slice_cmp nat_cmp x y) ≡ false = ap is_eq less in
    absurd cc

-- a table's name stands once in a schema
pub table_once : (schema : List Shape) (i j : ℕ) (a b : Shape) → AscendByName schema → slice_get schema i ≡ Some a → slice_get schema j ≡ Some b → a.table ≡ b.table → i ≡ j
table_once [] i j a b h p q e = absurd cc
table_once (x ∷ xs) zero zero a b h p q e = refl
table_once (x ∷ xs) zero (suc j) a b h p q e =
    let same : x ≡ a = cc in
    let less = all_at (λ (y : Shape). by_name x y ≡ Less) xs j b h.0 q in
    absurd (not_less x.table b.table (ap (λ (s : Shape). s.table) same ∙ e) less)
table_once (x ∷ xs) (suc i) zero a b h p q e =
    let same : x ≡ b = cc in
    let less = all_at (λ (y : Shape). by_name x y ≡ Less) xs i a h.0 p in
    absurd (not_less x.table a.table (ap (λ (s : Shape). s.table) same ∙ sym e) less)
table_once (x ∷ xs) (suc i) (suc j) a b h p q e = ap suc (table_once xs i j a b h.1 p q e)

pub shape_at : (schema : List Shape) (i : ℕ) (a : Shape) → IsSchema schema → slice_get schema i ≡ Some a → IsShape a
shape_at schema i a h e = all_at IsShape schema i a h.each e
