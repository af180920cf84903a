-- The tokens of a schema text: signs and words, with blanks and remarks between them.
use Rattle.std.specs.Prelude.{ℕ, suc, ◌+◌, ◌==◌, ◌||◌, Bool, true, false, if◌then◌else◌, List, [], ◌∷◌, take, drop}
use Rattle.std.specs.Prelude.{Option, Some, None, Result, Ok, Err, slice_get}
use Rattle.day_rows.specs.Schema.{is_letter, is_word}
use Rattle.schema_text.specs.declared.tokens.Mode.{Mode}
use Rattle.schema_text.specs.declared.tokens.Mode.TheVariants.{LineStart, Inside, Remark}
use Rattle.schema_text.specs.declared.refusal.SchemaRefusal.{SchemaRefusal}
use Rattle.schema_text.specs.declared.refusal.SchemaRefusal.TheVariants.{Parse}

-- where in a line the byte after this blank is, or None where the byte is no blank
abbrev pub after_blank : ℕ → Option Mode
after_blank b = if b == 10 then Some LineStart else (if b == 32 || (b == 9 || b == 13) then Some Inside else None)

-- where in a line the byte after this one is, or None where this one belongs to a token; blanks are skipped, and so is a
-- line that begins with `/`
abbrev pub after_byte : Mode → ℕ → Option Mode
after_byte LineStart b = if b == 47 then Some Remark else after_blank b
after_byte Inside b = after_blank b
after_byte Remark b = if b == 10 then Some LineStart else Some Remark

abbrev pub counted : Option Mode → (Mode → ℕ) → ℕ
counted None more = 0
counted (Some mode) more = suc (more mode)

-- the number of bytes that are skipped before a token
abbrev pub passed : Mode → List ℕ → ℕ
passed mode [] = 0
passed mode (b ∷ bs) = counted (after_byte mode b) (λ next. passed next bs)

-- the offset of the first token
abbrev pub first_part : List ℕ → ℕ
first_part text = passed LineStart text

-- the offset of the next token at or after an offset that isn't a line's start
abbrev pub part : List ℕ → ℕ → ℕ
part text at = at + passed Inside (drop at text)

abbrev pub is_sign : ℕ → Option ℕ → Bool
is_sign sign None = false
is_sign sign (Some b) = b == sign

-- whether the text has ended
abbrev pub is_end : Option ℕ → Bool
is_end None = true
is_end (Some b) = false

-- the offset after the sign, which must be the next token
abbrev pub sign_at : ℕ → List ℕ → ℕ → Result ℕ SchemaRefusal
sign_at sign text at = if is_sign sign (slice_get text (part text at)) then Ok (part text at + 1) else Err (Parse (part text at))

abbrev pub begins_word : Option ℕ → Bool
begins_word None = false
begins_word (Some b) = is_letter b

abbrev pub word_length : List ℕ → ℕ
word_length [] = 0
word_length (b ∷ bs) = if is_word b then suc (word_length bs) else 0

-- the word that must be the next token, its offset and the offset after it
abbrev pub word_at : List ℕ → ℕ → Result (List ℕ × ℕ × ℕ) SchemaRefusal
word_at text at =
    if begins_word (slice_get text (part text at))
    then Ok (take (word_length (drop (part text at) text)) (drop (part text at) text), part text at, part text at + word_length (drop (part text at) text))
    else Err (Parse (part text at))
