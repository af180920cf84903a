-- What stands where a literal begins.
use Rattle.std.proofs.Common.{◌≡◌, ℕ, ◌+◌, ◌<◌, ◌≤◌, ◌&&◌, ◌||◌, Bool, true, false, not, List, length, drop, get_or, eqb, refl, arith}
use Rattle.std.proofs.Math.Seq.{drop-cons}
use Rattle.q_text.specs.Words.{is_digit, is_letter, is_word, follows_operand, begins_word, span}
use Rattle.q_text.specs.Literal.{starts_literal}
use Rattle.q_text.specs.declared.words.Class.TheVariants as c

pub word-digit : (b : ℕ) → is_digit b ≡ true → is_word b ≡ true
word-digit b h = go (is_letter b) h
  where
    go : (t : Bool) → is_digit b ≡ true → (t || (is_digit b || (eqb b 46 || eqb b 58))) ≡ true
    go true h = refl
    go false h = rw h refl

-- a digit is a word of at least one byte
pub span-digit : (text : List ℕ) (at : ℕ) → at < length text → is_digit (get_or text at 0) ≡ true → 1 ≤ span c.Word (drop at text)
span-digit text at less h = rw (drop-cons text at 0 less, word-digit (get_or text at 0) h) (omega arith)

choose : (digit tick quote sign more operand : Bool) → (digit || (tick || (quote || (sign && (more && not operand))))) ≡ true → tick ≡ false → quote ≡ false → (digit || (sign && more)) ≡ true
choose true tick quote sign more operand h t q = refl
choose false true quote sign more operand h t q = absurd (cc)
choose false false true sign more operand h t q = absurd (cc)
choose false false false true true operand h t q = refl
choose false false false true false operand h t q = absurd (cc)
choose false false false false more operand h t q = absurd (cc)

-- where a literal begins with neither a backtick nor a quote, a word begins
pub starts-word : (text : List ℕ) (at : ℕ) → starts_literal text at ≡ true → eqb (get_or text at 0) 96 ≡ false → eqb (get_or text at 0) 34 ≡ false → begins_word text at ≡ true
unfolding starts_literal
starts-word text at h t q =
    choose (is_digit (get_or text at 0)) (eqb (get_or text at 0) 96) (eqb (get_or text at 0) 34) (eqb (get_or text at 0) 45) (is_digit (get_or text (at + 1) 0)) (follows_operand text at) h t q
