-- Literals by their forms: which bytes stand for which value (Q for Mortals, 2; KX, Datatypes reference).
use Rattle.std.specs.Prelude.{◌≡◌, ◌<◌, ◌≢◌, ℕ, zero, suc, ◌+◌, ◌%◌, ◌==◌, ◌||◌, Bool, true, false, List, [], ◌∷◌, ◌++◌, drop, length, map}
use Rattle.std.specs.Prelude.{slice_index, Option, Some, ℤ, ◌⊎◌, Result, Ok, Err}
use Rattle.std.specs.List.{AllByRecursion}
use Rattle.q_values.specs.Tree.{tree}
use Rattle.q_values.specs.declared.value.Value.{Value}
use Rattle.q_values.specs.declared.atom.Atom.TheVariants as a
use Rattle.q_values.specs.declared.kind.Kind.TheVariants as k
use Rattle.q_values.specs.declared.kind.IntegerKind.TheVariants as ik
use Rattle.q_values.specs.declared.kind.LongKind.TheVariants as lk
use Rattle.q_text.specs.declared.kinds.NumberKind.{NumberKind}
use Rattle.q_text.specs.declared.kinds.NumberKind.TheVariants as nk
use Rattle.q_text.specs.declared.words.Class.{Class}
use Rattle.q_text.specs.declared.words.Class.TheVariants as c
use Rattle.q_text.specs.declared.forms.Form.{Form}
use Rattle.q_text.specs.declared.forms.Form.TheVariants as f
use Rattle.q_text.specs.declared.runs.Run.{Run}
use Rattle.q_text.specs.declared.refusal.LiteralRefusal.{LiteralRefusal}
use Rattle.q_text.specs.declared.refusal.LiteralRefusal.TheVariants as r
use Rattle.q_text.specs.Words.{is_digit, is_of, word_at, word_end}
use Rattle.q_text.specs.Forms.{is_date, is_year_month, is_timestamp, is_timespan, is_minute, is_second, is_time, is_plain, is_special, suffix_form}
use Rattle.q_text.specs.Forms.{letter_form}
use Rattle.q_text.specs.Runs.{next_form, next_end, goes_on_with, is_whole}
use Rattle.q_text.specs.Numbers.{numbers_from, vector_of, valued}
use Rattle.q_text.specs.Strings.{escape}
use Rattle.q_text.specs.Literal.{Literal, begins_negative}

abbrev pub AllOf : Class → List ℕ → Type 0
AllOf class bytes = AllByRecursion (λ b. is_of class b ≡ true) bytes

-- the bytes are a number without a suffix, followed by a letter
abbrev pub IsLettered : (List ℕ → Bool) → (ℕ → Option Form) → Form → List ℕ → Type 0
IsLettered number form_of_letter form w =
    (front : List ℕ) × (letter : ℕ) × (w ≡ front ++ letter ∷ []) × (number front ≡ true) × (form_of_letter letter ≡ Some form)

-- 0 and 1, then "b"
abbrev pub IsBits : (ℕ → Type 0) → List ℕ → Type 0
IsBits many w = (bits : List ℕ) × (w ≡ bits ++ 98 ∷ []) × AllOf c.Bit bits × many (length bits)

-- "0x", then hexadecimal digits
abbrev pub IsBytes : (ℕ → Type 0) → List ℕ → Type 0
IsBytes many w = (hex : List ℕ) × (w ≡ 48 ∷ 120 ∷ hex) × AllOf c.Hex hex × many (length hex)

-- the words of each form
abbrev pub HasForm : Form → List ℕ → Type 0
HasForm (f.Item (nk.Integers ik.Month)) w = is_year_month w ≡ true
HasForm (f.Item (nk.Integers ik.Date)) w = is_date w ≡ true
HasForm (f.Item (nk.Integers ik.Minute)) w = is_minute w ≡ true
HasForm (f.Item (nk.Integers ik.Second)) w = is_second w ≡ true
HasForm (f.Item (nk.Integers ik.Time)) w = is_time w ≡ true
HasForm (f.Item (nk.Integers ik.Integer)) w = ⊥
HasForm (f.Item (nk.Longs lk.Timestamp)) w = is_timestamp w ≡ true
HasForm (f.Item (nk.Longs lk.Timespan)) w = is_timespan w ≡ true
HasForm (f.Item (nk.Longs lk.Long)) w = ⊥
HasForm (f.Item nk.Boolean) w = IsBits (λ n. n ≡ 1) w
HasForm (f.Row nk.Boolean) w = IsBits (λ n. 1 < n) w
HasForm (f.Item nk.Byte) w = IsBytes (λ n. n ≡ 2) w
HasForm (f.Row nk.Byte) w = IsBytes (λ n. (n % 2 ≡ 0) × (n ≢ 2)) w
HasForm (f.Item nk.Short) w = ⊥
HasForm (f.Row nk.Short) w = ⊥
HasForm (f.Row (nk.Integers kind)) w = ⊥
HasForm (f.Row (nk.Longs kind)) w = ⊥
HasForm f.Whole w = is_plain w ≡ true
HasForm (f.Suffixed kind) w = IsLettered is_plain suffix_form (f.Suffixed kind) w
HasForm (f.Special kind) w = IsLettered is_special letter_form (f.Special kind) w

-- words that follow an offset, each after blanks: the offset just past n of them, and the form of the next
abbrev pub end_after : List ℕ → ℕ → ℕ → ℕ
end_after text end zero = end
end_after text end (suc n) = end_after text (next_end text end) n

abbrev pub following : List ℕ → ℕ → ℕ → Option Form
following text end n = next_form text (end_after text end n)

-- n words of the form follow an offset, and no further one
pub record IsLongest (form : Form) (text : List ℕ) (end n : ℕ) : Type 0 where
  pub each : (m : ℕ) → m < n → goes_on_with form (following text end m) ≡ true
  pub stops : goes_on_with form (following text end n) ≡ false

-- the word after n others is a number with a suffix, and no whole number follows it
abbrev pub IsLast : NumberKind → List ℕ → ℕ → ℕ → Type 0
IsLast kind text end n = (following text end n ≡ Some (f.Suffixed kind)) × (is_whole (following text end (suc n)) ≡ false)

-- a run of words of one form, whose first word ends at an offset
abbrev pub IsUniform : Form → NumberKind → List ℕ → ℕ → Run → Type 0
IsUniform form kind text end run = (n : ℕ) × IsLongest form text end n × (run ≡ record { kind = kind; count = n + 1; end = end_after text end n })

-- a run of whole numbers: longs, or of the kind whose suffix the last one has
abbrev pub IsWholeRun : List ℕ → ℕ → Run → Type 0
IsWholeRun text end run =
    (n : ℕ) × IsLongest f.Whole text end n ×
    ((((kind : NumberKind) → IsLast kind text end n → ⊥) × (run ≡ record { kind = nk.Longs lk.Long; count = n + 1; end = end_after text end n }))
    ⊎ ((kind : NumberKind) × IsLast kind text end n × (run ≡ record { kind = kind; count = n + 2; end = end_after text end (suc n) })))

-- the run that begins with a word of the form, which ends at an offset
abbrev pub IsRun : Form → List ℕ → ℕ → Run → Type 0
IsRun f.Whole text end run = IsWholeRun text end run
IsRun (f.Suffixed kind) text end run = (is_whole (following text end 0) ≡ false) × (run ≡ record { kind = kind; count = 1; end = end })
IsRun (f.Special kind) text end run = IsUniform (f.Special kind) kind text end run
IsRun (f.Item kind) text end run = IsUniform (f.Item kind) kind text end run
IsRun (f.Row kind) text end run = run ≡ record { kind = kind; count = 1; end = end }

-- numbers, dates and times: a run of words of one form, whose first byte is a digit or a "-" that belongs to the literal
pub record IsNumbers (text : List ℕ) (at : ℕ) (found : Literal) : Type 0 where
  pub form : Form
  pub run : Run
  pub numbers : List ℤ
  pub begins : (is_digit (slice_index text at) || begins_negative text at) ≡ true
  pub has_form : HasForm form (word_at text at)
  pub is_run : IsRun form text (word_end text at) run
  pub spelled : numbers_from run.count form run.kind text at ≡ Some numbers
  pub value : found.value ≡ valued (vector_of run.kind numbers)
  pub ends : found.end ≡ run.end

-- names in a row, with a backtick before each
abbrev pub ticked : List (List ℕ) → List ℕ
ticked [] = []
ticked (name ∷ names) = 96 ∷ (name ++ ticked names)

-- symbols: a backtick at the offset; the names are as long as they can be
pub record IsSymbols (text : List ℕ) (at : ℕ) (found : Literal) : Type 0 where
  pub names : List (List ℕ)
  pub rest : List ℕ
  pub begins : slice_index text at ≡ 96
  pub source : drop at text ≡ ticked names ++ rest
  pub each : AllByRecursion (AllOf c.Symbol) names
  pub stops : is_of c.Symbols (slice_index rest 0) ≡ false
  pub value : found.value ≡ valued (record { kind = k.Symbol; atoms = map (λ name. a.Symbol name) names })
  pub ends : found.end ≡ at + length (ticked names)

-- a character at the front of the source: itself, but for the quote and the backslash, or a backslash and the byte of an escape
abbrev pub IsCharacter : ℕ → List ℕ → List ℕ → Type 0
IsCharacter character source rest =
    ((source ≡ character ∷ rest) × ((character == 34) ≡ false) × ((character == 92) ≡ false))
    ⊎ ((letter : ℕ) × (source ≡ 92 ∷ letter ∷ rest) × (escape letter ≡ Some character))

-- characters, the closing quote, and the rest
abbrev pub AreCharacters : List ℕ → List ℕ → List ℕ → Type 0
AreCharacters [] source rest = source ≡ 34 ∷ rest
AreCharacters (character ∷ characters) source rest = (more : List ℕ) × IsCharacter character source more × AreCharacters characters more rest

-- text in quotes
pub record IsQuotation (text : List ℕ) (at : ℕ) (found : Literal) : Type 0 where
  pub characters : List ℕ
  pub rest : List ℕ
  pub begins : slice_index text at ≡ 34
  pub spelled : AreCharacters characters (drop (at + 1) text) rest
  pub value : found.value ≡ valued (record { kind = k.Character; atoms = map (λ b. a.Character b) characters })
  pub ends : found.end + length rest ≡ length text

-- the literal that begins at an offset
abbrev pub IsLiteral : List ℕ → ℕ → Literal → Type 0
IsLiteral text at found = IsNumbers text at found ⊎ (IsSymbols text at found ⊎ IsQuotation text at found)

-- reading gives the literal that begins at the offset, and is refused there where none does, unless memory ran out
abbrev pub ReadsForms : List ℕ → ℕ → Result (Value × ℕ) LiteralRefusal → Type 0
ReadsForms text at (Ok read) = IsLiteral text at (record { value = tree read.0; end = read.1 })
ReadsForms text at (Err (r.BadLiteral offset)) = (offset ≡ at) × ((found : Literal) → IsLiteral text at found → ⊥)
ReadsForms text at (Err r.NoMemory) = Unit {0}
