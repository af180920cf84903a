-- Numbers of words, one word more.
use Rattle.std.proofs.Common.{◌≡◌, ℕ, zero, suc, ◌+◌, ◌-◌, ◌<◌, Bool, List, [], Option, Some, None, refl, sym, ap, arith, append_assoc, ℤ}
use Rattle.std.proofs.lemmas.List.{append-nil}
use Rattle.q_text.specs.Words.{word_at, word_end}
use Rattle.q_text.specs.Runs.{next_start}
use Rattle.q_text.specs.Numbers.{joined, numbers_as, numbers_from}
use Rattle.q_text.specs.Stored.{read}
use Rattle.q_text.specs.declared.forms.Form.{Form}
use Rattle.q_text.specs.declared.kinds.NumberKind.{NumberKind}

pub joined-nothing : (found : Option (List ℤ)) → joined (Some []) found ≡ found
joined-nothing None = refl
joined-nothing (Some zs) = refl

pub joined-all : (xs : List ℤ) → joined (Some xs) (Some []) ≡ Some xs
joined-all xs = ap (λ l. Some l) (append-nil xs)

pub joined-assoc : (xs : List ℤ) (a b : Option (List ℤ)) → joined (Some xs) (joined a b) ≡ joined (joined (Some xs) a) b
joined-assoc xs None b = refl
joined-assoc xs (Some zs) None = refl
joined-assoc xs (Some zs) (Some more) = ap (λ l. Some l) (sym (append_assoc xs zs more))

pub numbers_from-more : (left : ℕ) (form : Form) (kind : NumberKind) (text : List ℕ) (at : ℕ) → 0 < left
    → numbers_from left form kind text at ≡ joined (numbers_as form kind (word_at text at)) (numbers_from (left - 1) form kind text (next_start text (word_end text at)))
unfolding numbers_from
numbers_from-more zero form kind text at some = absurd (omega (arith, some))
numbers_from-more (suc left) form kind text at some = let less : suc left - 1 ≡ left = omega arith in rw less refl

pub numbers_from-none : (form : Form) (kind : NumberKind) (text : List ℕ) (at : ℕ) → numbers_from 0 form kind text at ≡ Some []
unfolding numbers_from
numbers_from-none form kind text at = refl

-- the step of the loop over words
pub numbers_from-step : (xs ys : List ℤ) (count done : ℕ) (form : Form) (kind : NumberKind) (text : List ℕ) (at : ℕ) → done < count → joined (Some xs) (numbers_as form kind (word_at text at)) ≡ Some ys
    → joined (Some ys) (numbers_from (count - (done + 1)) form kind text (next_start text (word_end text at))) ≡ joined (Some xs) (numbers_from (count - done) form kind text at)
numbers_from-step xs ys count done form kind text at less h =
    let some : 0 < count - done = omega arith in
    let e : count - (done + 1) ≡ count - done - 1 = omega arith in
    rw (numbers_from-more (count - done) form kind text at some, joined-assoc xs (numbers_as form kind (word_at text at)) (numbers_from (count - done - 1) form kind text (next_start text (word_end text at))), h, e) refl

-- a word that is out of range
pub numbers_from-fault : (xs : List ℤ) (count done : ℕ) (form : Form) (kind : NumberKind) (text : List ℕ) (at : ℕ) → done < count → joined (Some xs) (numbers_as form kind (word_at text at)) ≡ None
    → joined (Some xs) (numbers_from (count - done) form kind text at) ≡ None
numbers_from-fault xs count done form kind text at less h =
    let some : 0 < count - done = omega arith in
    rw (numbers_from-more (count - done) form kind text at some, joined-assoc xs (numbers_as form kind (word_at text at)) (numbers_from (count - done - 1) form kind text (next_start text (word_end text at))), h) refl

-- no word is left
pub numbers_from-end : (xs : List ℤ) (left : ℕ) (form : Form) (kind : NumberKind) (text : List ℕ) (at : ℕ) → left ≡ 0 → joined (Some xs) (numbers_from left form kind text at) ≡ Some xs
numbers_from-end xs left form kind text at none = rw (none, numbers_from-none form kind text at) (joined-all xs)

-- what was appended to the numbers, where the word is known and so is whether it fits
pub push-read : (xs ys : List ℤ) (form : Form) (kind : NumberKind) (w v : List ℕ) (fits t : Bool) → w ≡ v → joined (Some xs) (numbers_as form kind w) ≡ read fits ys → fits ≡ t → joined (Some xs) (numbers_as form kind v) ≡ read t ys
push-read xs ys form kind w v fits t same h e = rw (← same, ← e) h
